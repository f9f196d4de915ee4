use Rattle.std.proofs.Common.{reverse}
use Rattle.multistatus.specs.Elements.{is_blank, is_text, opens, closes}
use Rattle.multistatus.specs.Reader.{state_of}
use Rattle.multistatus.proofs.Runs.{run-nil, run_one, run_two}
use Rattle.multistatus.proofs.reader.Reader.behind.Goals as goal

pub returns-in-Passed : goal.returns-in-Passed
returns-in-Passed c = rw c.in-Passed.is (run-nil (state_of c.args.self))

pub returns-in-Blank : goal.returns-in-Blank
returns-in-Blank c = rw c.in-Blank.is (rw (run_one (reverse c.args.self.levels) c.args.self.rows (is_blank c.in-Blank.white)) c.behind_blank.ensures)

pub returns-in-Chars : goal.returns-in-Chars
returns-in-Chars c = rw c.in-Chars.is (rw (run_one (reverse c.args.self.levels) c.args.self.rows (is_text c.in-Chars.chars)) c.behind_chars.ensures)

pub returns-in-Open : goal.returns-in-Open
returns-in-Open c = rw c.in-Open.is (rw (run_one (reverse c.args.self.levels) c.args.self.rows (opens c.in-Open.tag)) c.behind_open.ensures)

pub returns-in-Empty : goal.returns-in-Empty
returns-in-Empty c = rw c.in-Empty.is (rw (run_two (state_of c.args.self) c.in-Empty.tag) c.behind_empty.ensures)

pub returns-in-Close : goal.returns-in-Close
returns-in-Close c = rw c.in-Close.is (rw (run_one (reverse c.args.self.levels) c.args.self.rows (closes c.in-Close.name)) c.behind_close.ensures)
