use Rattle.std.proofs.Common.{◌≤◌, length, Ok, Err, ap, ◌∙◌, arith}
use Rattle.status_keeper.specs.Status.{max_status, kept_text}
use Rattle.status_keeper.specs.Status.{text_of}
use Rattle.status_keeper.proofs.Committing.{nothing_put, nothing_put_long, nothing_kept, nothing_kept_long, put_same, commit_answer, means_rows_of}
use Rattle.status_keeper.proofs.calls.commit_rows.Goals as goal

pub returns-in_default-clause-put : goal.returns-in_default-clause-put
returns-in_default-clause-put g c told = nothing_put (g.F.Folder.state c.args.folder.now) c.args.found.now (text_of c.args.rows.now)

pub returns-in_default-clause-answer : goal.returns-in_default-clause-answer
returns-in_default-clause-answer g c told = nothing_kept _ c.args.found.now c.args.rows.now

pub returns-then-len-gt-MAX_STATUS-clause-put : goal.returns-then-len-gt-MAX_STATUS-clause-put
returns-then-len-gt-MAX_STATUS-clause-put g c told =
    let same = ap length c.in-Ok.ensures.text in
    nothing_put_long (g.F.Folder.state c.args.folder.now) c.args.found.now (text_of c.args.rows.now) (omega (arith, same, c.in-Ok.text.ok.0))

pub returns-then-len-gt-MAX_STATUS-clause-answer : goal.returns-then-len-gt-MAX_STATUS-clause-answer
returns-then-len-gt-MAX_STATUS-clause-answer g c told =
    let same = ap length c.in-Ok.ensures.text in
    nothing_kept_long _ c.args.found.now c.args.rows.now (omega (arith, same, c.in-Ok.text.ok.0))

pub returns-in_default-etag_of-clause-put : goal.returns-in_default-etag_of-clause-put
returns-in_default-etag_of-clause-put g c told = nothing_put (g.F.Folder.state c.args.folder.now) c.args.found.now (text_of c.args.rows.now)

pub returns-in_default-etag_of-clause-answer : goal.returns-in_default-etag_of-clause-answer
returns-in_default-etag_of-clause-answer g c told = nothing_kept _ c.args.found.now c.args.rows.now

pub returns-in-Ok-put_file-clause-put : goal.returns-in-Ok-put_file-clause-put
returns-in-Ok-put_file-clause-put g c told = put_same (g.F.Folder.state c.args.folder.now) (g.F.Folder.state c.put_file.new.folder) c.args.found.now c.as_slice-2.result.now (text_of c.args.rows.now) c.put_file.result (Ok tt) (c.as_slice-2.ensures.value ∙ c.in-Ok.ensures.text) c.in-Ok-put_file.is (c.put_file.ensures.answer told)

pub returns-in-Ok-put_file-clause-answer : goal.returns-in-Ok-put_file-clause-answer
returns-in-Ok-put_file-clause-answer g c told =
    let fits : length c.as_slice-2.result.now ≤ max_status = omega (arith, c.as_slice-2.ensures.len) in
    commit_answer (g.F.Folder.state c.args.folder.now) (g.F.Folder.state c.put_file.new.folder) c.args.found.now c.args.rows.now (Ok tt) (g.met.F.Folder.absent_is_empty c.args.folder.now told)
    (means_rows_of c.as_slice-2.result.now c.args.rows.now (c.as_slice-2.ensures.value ∙ c.in-Ok.ensures.text) fits (ap kept_text c.as_slice-2.ensures.value ∙ c.in-Ok.ensures.means)) (returns-in-Ok-put_file-clause-put g c told)

pub returns-clause-put : goal.returns-clause-put
returns-clause-put g c told = put_same (g.F.Folder.state c.args.folder.now) (g.F.Folder.state c.put_file.new.folder) c.args.found.now c.as_slice-2.result.now (text_of c.args.rows.now) c.put_file.result (Err c.in-Err.error) (c.as_slice-2.ensures.value ∙ c.in-Ok.ensures.text) c.in-Err.is (c.put_file.ensures.answer told)

pub returns-clause-answer : goal.returns-clause-answer
returns-clause-answer g c told =
    let fits : length c.as_slice-2.result.now ≤ max_status = omega (arith, c.as_slice-2.ensures.len) in
    commit_answer (g.F.Folder.state c.args.folder.now) (g.F.Folder.state c.put_file.new.folder) c.args.found.now c.args.rows.now (Err c.in-Err.error) (g.met.F.Folder.absent_is_empty c.args.folder.now told)
    (means_rows_of c.as_slice-2.result.now c.args.rows.now (c.as_slice-2.ensures.value ∙ c.in-Ok.ensures.text) fits (ap kept_text c.as_slice-2.ensures.value ∙ c.in-Ok.ensures.means)) (returns-clause-put g c told)
