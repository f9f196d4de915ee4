-- What stands behind a byte order mark and a declaration: lemmas on specs/Tokens.antt and specs/Grammar.antt
use Rattle.std.proofs.Common.{◌≡◌, refl, ℕ, Bool, true, false, cond, codes, List, [], ◌∷◌, ◌++◌, Option, Some, None, sym, ◌∙◌, ap, subst, inl, inr}
use Rattle.multistatus.specs.Steps.{◌>>=◌}
use Rattle.multistatus.specs.Texts.{begins_white, stripped, cut}
use Rattle.multistatus.specs.Tokens.{byte_order_mark, unmarked, without_mark, behind_target, without_declaration}
use Rattle.multistatus.specs.Grammar.{◌·◌, IsBehindMark, IsDeclaration, IsBehindDeclaration, HasBody}
use Rattle.multistatus.proofs.Cuts.{stripped-mark, stripped_found, none_unless}
use Rattle.multistatus.proofs.Runs.{some_same, bind_some}
use Rattle.multistatus.proofs.Befores.{cut_before, cut_found}
use Rattle.multistatus.proofs.TagTokens.{begins_front}

unmarked_found : (bytes rest : List ℕ) → IsBehindMark bytes rest → without_mark bytes ≡ rest
unfolding without_mark
unmarked_found bytes rest (inl same) =
    ap (λ (l : List ℕ). unmarked l (stripped byte_order_mark l)) same ∙ ap (unmarked (byte_order_mark ++ rest)) (stripped-mark byte_order_mark rest)
unmarked_found bytes rest (inr is) =
    ap (unmarked bytes) (none_unless (stripped byte_order_mark bytes) (λ more found. is.1 more (stripped_found byte_order_mark bytes more found))) ∙ sym is.0

not_there : (mark bytes more : List ℕ) → stripped mark bytes ≡ None → bytes ≡ mark ++ more → ⊥
not_there mark bytes more lacks same = let clash : None ≡ Some more = sym lacks ∙ ap (stripped mark) same ∙ stripped-mark mark more in cc

mark_by : (bytes : List ℕ) (o : Option (List ℕ)) → stripped byte_order_mark bytes ≡ o → IsBehindMark bytes (unmarked bytes o)
mark_by bytes None e = inr (refl, λ more same. not_there byte_order_mark bytes more e same)
mark_by bytes (Some rest) e = inl (stripped_found byte_order_mark bytes rest e)

unmarked_read : (bytes : List ℕ) → IsBehindMark bytes (without_mark bytes)
unfolding without_mark
unmarked_read bytes = mark_by bytes (stripped byte_order_mark bytes) refl

abbrev behind_end : List ℕ × List ℕ → Option (List ℕ)
behind_end parts = Some parts.1

undeclared : (bytes body : List ℕ) (o : Option (List ℕ)) → stripped (codes "<?xml") bytes ≡ o → body ≡ bytes
    → ((more : List ℕ) → bytes ≡ codes "<?xml" ++ more → begins_white more ≡ false) → behind_target bytes o ≡ Some body
undeclared bytes body None e same never = ap Some (sym same)
undeclared bytes body (Some rest) e same never =
    ap (λ (t : Bool). cond t (cut (codes "?>") rest >>= behind_end) (Some bytes)) (never rest (stripped_found (codes "<?xml") bytes rest e)) ∙ ap Some (sym same)

declared_found : (bytes body : List ℕ) → IsBehindDeclaration bytes body → without_declaration bytes ≡ Some body
unfolding without_declaration
declared_found bytes body (inl is) =
    let rest : List ℕ = is.inside · codes "?>" · body in
    ap (λ (l : List ℕ). behind_target l (stripped (codes "<?xml") l)) is.bytes_are
    ∙ ap (behind_target (codes "<?xml" ++ rest)) (stripped-mark (codes "<?xml") rest)
    ∙ ap (λ (t : Bool). cond t (cut (codes "?>") rest >>= behind_end) (Some (codes "<?xml" ++ rest))) (begins_front is.inside (codes "?>" ++ body) is.apart)
    ∙ ap (λ (o : Option (List ℕ × List ℕ)). o >>= behind_end) (cut_before (codes "?>") is.inside body is.is_inside)
declared_found bytes body (inr is) = undeclared bytes body (stripped (codes "<?xml") bytes) refl is.0 is.1

begins_back : (inside more : List ℕ) → begins_white (inside ++ 63 ∷ more) ≡ true → begins_white inside ≡ true
begins_back [] more h = h
begins_back (b ∷ inside) more h = h

rest_same : (bytes rest more : List ℕ) → stripped (codes "<?xml") bytes ≡ Some rest → bytes ≡ codes "<?xml" ++ more → more ≡ rest
rest_same bytes rest more e same = some_same more rest (sym (stripped-mark (codes "<?xml") more) ∙ sym (ap (stripped (codes "<?xml")) same) ∙ e)

declared_by : (bytes rest body : List ℕ) (t : Bool) → stripped (codes "<?xml") bytes ≡ Some rest → begins_white rest ≡ t
    → cond t (cut (codes "?>") rest >>= behind_end) (Some bytes) ≡ Some body → IsBehindDeclaration bytes body
declared_by bytes rest body true e begins h =
    let parts = bind_some (cut (codes "?>") rest) behind_end body h in
    let split = cut_found (codes "?>") rest parts.0 parts.1 in
    inl (subst (IsDeclaration bytes) (some_same parts.0.1 body parts.2) (record {
      inside = parts.0.0;
      bytes_are = stripped_found (codes "<?xml") bytes rest e ∙ ap (λ (l : List ℕ). codes "<?xml" ++ l) split.0;
      is_inside = split.1;
      apart = begins_back parts.0.0 (62 ∷ parts.0.1) (sym (ap begins_white split.0) ∙ begins);
    }))
declared_by bytes rest body false e begins h = inr (sym (some_same bytes body h), λ more same. ap begins_white (rest_same bytes rest more e same) ∙ begins)

target_by : (bytes body : List ℕ) (o : Option (List ℕ)) → stripped (codes "<?xml") bytes ≡ o → behind_target bytes o ≡ Some body → IsBehindDeclaration bytes body
target_by bytes body None e h = inr (sym (some_same bytes body h), λ more same. absurd (not_there (codes "<?xml") bytes more e same))
target_by bytes body (Some rest) e h = declared_by bytes rest body (begins_white rest) e refl h

declared_read : (bytes body : List ℕ) → without_declaration bytes ≡ Some body → IsBehindDeclaration bytes body
unfolding without_declaration
declared_read bytes body h = target_by bytes body (stripped (codes "<?xml") bytes) refl h

pub body_found : (bytes body : List ℕ) → HasBody bytes body → without_declaration (without_mark bytes) ≡ Some body
body_found bytes body has = ap without_declaration (unmarked_found bytes has.0 has.1) ∙ declared_found has.0 body has.2

pub body_read : (bytes body : List ℕ) → without_declaration (without_mark bytes) ≡ Some body → HasBody bytes body
body_read bytes body h = (without_mark bytes, unmarked_read bytes, declared_read (without_mark bytes) body h)
