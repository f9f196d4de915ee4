use Rattle.std.proofs.Common.{length, string_bytes}
use denote.Text.{Utf8}
use denote.Shadow.{shadow}
use Rattle.file_text.proofs.Writing.{Writes}
use Rattle.file_text.proofs.folds.push_folded.Given as goal

abbrev pub invariant-loop-most : goal.invariant-loop-most
invariant-loop-most l = shadow (Utf8 l.rest) × Writes (string_bytes l.fn.out) (string_bytes l.out) l.line l.rest l.most

abbrev pub decreases-loop-most : goal.decreases-loop-most
decreases-loop-most l = length l.rest
