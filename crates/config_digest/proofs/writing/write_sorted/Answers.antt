use Rattle.std.proofs.Common.{◌++◌, Bor, List, ap, ◌∙◌}
use Rattle.std.specs.List.{flat_map}
use Rattle.json.specs.Token.{Token}
use Rattle.config_ini.specs.declared.setting.Entry.{Entry}
use Rattle.config_digest.specs.Written.{member_tokens, members_tokens}
use Rattle.config_digest.proofs.Seen.{flat_map_seen}
use Rattle.config_digest.proofs.writing.write_sorted.Goals as goal

pub returns-clause-tokens : goal.returns-clause-tokens
unfolding members_tokens
returns-clause-tokens c =
    c.in_ok-write_members.ensures.tokens
    ∙ ap (λ (l : List Token). c.args.writer.now.tokens ++ l)
    (ap (λ (es : List (Bor Entry)). flat_map (λ (e : Bor Entry). member_tokens e.now) es) c.as_slice.ensures.value
    ∙ flat_map_seen member_tokens c.in_ok-sorted.sorted.items
    ∙ ap (flat_map member_tokens) c.in_ok-sorted.ensures)
