use Rattle.std.proofs.Common.{sym, ◌∙◌, ap, ◌++◌, List, ℕ, string_bytes}
use Rattle.file_text.specs.Written.{written}
use Rattle.file_text.proofs.Zones.{zone_first, zone_again}
use Rattle.file_text.proofs.join.put_zone.Goals as goal

pub returns-then-branch : goal.returns-then-branch
returns-then-branch c = λ all are.
    let text_is = c.as_str.ensures.value ∙ (c.in_ok-put_part.ensures ∙ ap (λ (xs : List ℕ). xs ++ written c.args.zone.now) c.new-text.ensures.bytes) in
    zone_first c.args.seen.now.keys c.is_first.new.seen.keys c.as_str.result.now (written c.args.zone.now) (string_bytes c.args.zones.now) text_is c.in_ok-is_first.ensures.sees all are _ (string_bytes c.push_str.new.self) c.in_ok-is_first.ensures.first c.if-branch.true
    (c.in_ok-push_str.ensures.bytes ∙ ap (λ (xs : List ℕ). string_bytes c.args.zones.now ++ xs) (c.as_str-then-branch.ensures.value ∙ (c.in_ok-put_part.ensures ∙ (ap (λ (xs : List ℕ). xs ++ written c.args.zone.now) c.new-text.ensures.bytes))) ∙ ap (λ (xs : List ℕ). string_bytes c.args.zones.now ++ xs) (sym text_is))

pub returns : goal.returns
returns c = λ all are.
    zone_again c.args.seen.now.keys c.is_first.new.seen.keys c.as_str.result.now (written c.args.zone.now) (string_bytes c.args.zones.now)
    (c.as_str.ensures.value ∙ (c.in_ok-put_part.ensures ∙ ap (λ (xs : List ℕ). xs ++ written c.args.zone.now) c.new-text.ensures.bytes)) c.in_ok-is_first.ensures.sees all are _ c.in_ok-is_first.ensures.first c.if-branch.false
