-- The properties of propstats, and of one more: lemmas on specs/Props.antt
use Rattle.std.proofs.Common.{◌≡◌, List, [], ◌∷◌, ◌++◌, map, sym, ◌∙◌, ap, append_assoc}
use Rattle.std.proofs.lemmas.List.{append-nil}
use Rattle.multistatus.specs.declared.rows.Prop.{Prop}
use Rattle.multistatus.specs.declared.props.Propstat.{Propstat}
use Rattle.multistatus.specs.Props.{with_code, props_of}

pub props_more : (propstats : List Propstat) (p : Propstat) → props_of (propstats ++ p ∷ []) ≡ props_of propstats ++ map (with_code p.code) p.listed
props_more [] p = append-nil (map (with_code p.code) p.listed)
props_more (q ∷ propstats) p =
    ap (λ (l : List Prop). map (with_code q.code) q.listed ++ l) (props_more propstats p) ∙ sym (append_assoc (map (with_code q.code) q.listed) (props_of propstats) (map (with_code p.code) p.listed))
