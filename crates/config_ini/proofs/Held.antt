-- The logical lines so far, with one more physical line.
use Rattle.std.proofs.Common.{◌≡◌, ℕ, ◌+◌, true, false, List, [], ◌∷◌, ◌++◌, Option, Some, None, refl, sym, ◌∙◌, ap, append-nil, append_assoc}
use Rattle.std.specs.Str.Lines.{lines}
use Rattle.config_ini.specs.declared.kinds.Key.{Key}
use Rattle.config_ini.specs.declared.kinds.Title.{Title}
use Rattle.config_ini.specs.declared.kinds.Written.{Written}
use Rattle.config_ini.specs.declared.kinds.LineKind.{LineKind}
use Rattle.config_ini.specs.declared.kinds.LineKind.TheVariants as line
use Rattle.config_ini.specs.declared.kinds.Logical.{Logical}
use Rattle.config_ini.specs.declared.kinds.Logical.TheVariants as logical
use Rattle.config_ini.specs.Lines.{kind_of}
use Rattle.config_ini.specs.Logical.{goes_on, continuation, begun, holds, logical_from, logical_lines}
use Rattle.config_ini.specs.Seen.{with_more, closed, from_here}

-- a key as it is written, with more of its value
abbrev with_value : Written → List ℕ → Written
with_value w more = record { number = w.number; key = w.key; value = w.value ++ more }

-- what a line of the kind makes of the lines from here on
abbrev by_kind : Option Written → ℕ → LineKind → List ℕ → List (List ℕ) → List Logical
by_kind None n kind text rest = begun false n kind (continuation rest) ++ logical_from (holds false kind) (n + 1) rest
by_kind (Some w) n kind text rest = logical.Key (with_value w (goes_on kind text (continuation rest))) ∷ (begun true n kind (continuation rest) ++ logical_from (holds true kind) (n + 1) rest)

here_is : (held : Option Written) (n : ℕ) (kind : LineKind) (text : List ℕ) (rest : List (List ℕ)) → kind_of text ≡ kind → from_here held n (text ∷ rest) ≡ by_kind held n kind text rest
unfolding from_here logical_from continuation
here_is None n kind text rest h = ap (λ (k : LineKind). by_kind None n k text rest) h
here_is (Some w) n kind text rest h = ap (λ (k : LineKind). by_kind (Some w) n k text rest) h

behind_none : (n : ℕ) (rest : List (List ℕ)) → from_here None n rest ≡ logical_from false n rest
unfolding from_here
behind_none n rest = refl

behind_some : (w : Written) (n : ℕ) (rest : List (List ℕ)) → from_here (Some w) n rest ≡ logical.Key (with_value w (continuation rest)) ∷ logical_from true n rest
unfolding from_here
behind_some w n rest = refl

pub passed_over : (done : List Logical) (held : Option Written) (n : ℕ) (text : List ℕ) (rest : List (List ℕ)) → kind_of text ≡ line.Passed
    → done ++ from_here held (n + 1) rest ≡ done ++ from_here held n (text ∷ rest)
passed_over done None n text rest h = ap (λ (ls : List Logical). done ++ ls) (behind_none (n + 1) rest ∙ sym (here_is None n line.Passed text rest h))
passed_over done (Some w) n text rest h = ap (λ (ls : List Logical). done ++ ls) (behind_some w (n + 1) rest ∙ sym (here_is (Some w) n line.Passed text rest h))

pub bad_continued : (done next : List Logical) (held : Option Written) (n : ℕ) (text : List ℕ) (rest : List (List ℕ)) → held ≡ None → next ≡ done ++ logical.Bad n ∷ [] → kind_of text ≡ line.Continued
    → next ++ from_here None (n + 1) rest ≡ done ++ from_here held n (text ∷ rest)
bad_continued done next held n text rest none is h =
    ap (λ (ls : List Logical). ls ++ from_here None (n + 1) rest) is
    ∙ append_assoc done (logical.Bad n ∷ []) (from_here None (n + 1) rest)
    ∙ ap (λ (ls : List Logical). done ++ logical.Bad n ∷ ls) (behind_none (n + 1) rest)
    ∙ ap (λ (ls : List Logical). done ++ ls) (sym (here_is None n line.Continued text rest h))
    ∙ ap (λ (o : Option Written). done ++ from_here o n (text ∷ rest)) (sym none)

pub more_continued : (done : List Logical) (held : Option Written) (w : Written) (value : List ℕ) (n : ℕ) (text : List ℕ) (rest : List (List ℕ)) → held ≡ Some w → value ≡ with_more w.value text → kind_of text ≡ line.Continued
    → done ++ from_here (Some (record { number = w.number; key = w.key; value = value })) (n + 1) rest ≡ done ++ from_here held n (text ∷ rest)
more_continued done held w value n text rest some is h =
    ap (λ (v : List ℕ). done ++ from_here (Some (record { number = w.number; key = w.key; value = v })) (n + 1) rest) is
    ∙ ap (λ (ls : List Logical). done ++ ls) (behind_some (record { number = w.number; key = w.key; value = with_more w.value text }) (n + 1) rest)
    ∙ ap (λ (v : List ℕ). done ++ logical.Key (record { number = w.number; key = w.key; value = v }) ∷ logical_from true (n + 1) rest) (append_assoc w.value (10 ∷ text) (continuation rest))
    ∙ ap (λ (ls : List Logical). done ++ ls) (sym (here_is (Some w) n line.Continued text rest h))
    ∙ ap (λ (o : Option Written). done ++ from_here o n (text ∷ rest)) (sym some)

-- a key whose value ends here
ends_here : (w : Written) → logical.Key (with_value w []) ≡ logical.Key w
ends_here w = ap (λ (v : List ℕ). logical.Key (record { number = w.number; key = w.key; value = v })) (append-nil w.value)

closed_with : (done : List Logical) (w : Written) (more : List Logical) → (done ++ logical.Key w ∷ []) ++ more ≡ done ++ logical.Key (with_value w []) ∷ more
closed_with done w more =
    append_assoc done (logical.Key w ∷ []) more ∙ ap (λ (l : Logical). done ++ l ∷ more) (sym (ends_here w))

pub section_here : (done next : List Logical) (held : Option Written) (title : Title) (n : ℕ) (text : List ℕ) (rest : List (List ℕ)) → next ≡ closed done held ++ logical.Section n title ∷ [] → kind_of text ≡ line.Section title
    → next ++ from_here None (n + 1) rest ≡ done ++ from_here held n (text ∷ rest)
section_here done next None title n text rest is h =
    ap (λ (ls : List Logical). ls ++ from_here None (n + 1) rest) is
    ∙ append_assoc done (logical.Section n title ∷ []) (from_here None (n + 1) rest)
    ∙ ap (λ (ls : List Logical). done ++ logical.Section n title ∷ ls) (behind_none (n + 1) rest)
    ∙ ap (λ (ls : List Logical). done ++ ls) (sym (here_is None n (line.Section title) text rest h))
section_here done next (Some w) title n text rest is h =
    ap (λ (ls : List Logical). ls ++ from_here None (n + 1) rest) is
    ∙ append_assoc (done ++ logical.Key w ∷ []) (logical.Section n title ∷ []) (from_here None (n + 1) rest)
    ∙ closed_with done w (logical.Section n title ∷ from_here None (n + 1) rest)
    ∙ ap (λ (ls : List Logical). done ++ logical.Key (with_value w []) ∷ logical.Section n title ∷ ls) (behind_none (n + 1) rest)
    ∙ ap (λ (ls : List Logical). done ++ ls) (sym (here_is (Some w) n (line.Section title) text rest h))

pub bad_here : (done next : List Logical) (held : Option Written) (n : ℕ) (text : List ℕ) (rest : List (List ℕ)) → next ≡ closed done held ++ logical.Bad n ∷ [] → kind_of text ≡ line.Bad
    → next ++ from_here None (n + 1) rest ≡ done ++ from_here held n (text ∷ rest)
bad_here done next None n text rest is h =
    ap (λ (ls : List Logical). ls ++ from_here None (n + 1) rest) is
    ∙ append_assoc done (logical.Bad n ∷ []) (from_here None (n + 1) rest)
    ∙ ap (λ (ls : List Logical). done ++ logical.Bad n ∷ ls) (behind_none (n + 1) rest)
    ∙ ap (λ (ls : List Logical). done ++ ls) (sym (here_is None n line.Bad text rest h))
bad_here done next (Some w) n text rest is h =
    ap (λ (ls : List Logical). ls ++ from_here None (n + 1) rest) is
    ∙ append_assoc (done ++ logical.Key w ∷ []) (logical.Bad n ∷ []) (from_here None (n + 1) rest)
    ∙ closed_with done w (logical.Bad n ∷ from_here None (n + 1) rest)
    ∙ ap (λ (ls : List Logical). done ++ logical.Key (with_value w []) ∷ logical.Bad n ∷ ls) (behind_none (n + 1) rest)
    ∙ ap (λ (ls : List Logical). done ++ ls) (sym (here_is (Some w) n line.Bad text rest h))

pub key_here : (done next : List Logical) (held : Option Written) (key : Key) (value : List ℕ) (n : ℕ) (text : List ℕ) (rest : List (List ℕ)) → next ≡ closed done held → kind_of text ≡ line.Key key value
    → next ++ from_here (Some (record { number = n; key = key; value = value })) (n + 1) rest ≡ done ++ from_here held n (text ∷ rest)
key_here done next None key value n text rest is h =
    ap (λ (ls : List Logical). ls ++ from_here (Some (record { number = n; key = key; value = value })) (n + 1) rest) is
    ∙ ap (λ (ls : List Logical). done ++ ls) (behind_some (record { number = n; key = key; value = value }) (n + 1) rest ∙ sym (here_is None n (line.Key key value) text rest h))
key_here done next (Some w) key value n text rest is h =
    ap (λ (ls : List Logical). ls ++ from_here (Some (record { number = n; key = key; value = value })) (n + 1) rest) is
    ∙ closed_with done w (from_here (Some (record { number = n; key = key; value = value })) (n + 1) rest)
    ∙ ap (λ (ls : List Logical). done ++ logical.Key (with_value w []) ∷ ls) (behind_some (record { number = n; key = key; value = value }) (n + 1) rest)
    ∙ ap (λ (ls : List Logical). done ++ ls) (sym (here_is (Some w) n (line.Key key value) text rest h))

pub begins : (text : List ℕ) → [] ++ from_here None 1 (lines text) ≡ logical_lines text
unfolding from_here logical_lines
begins text = refl

no_bytes : (text : List ℕ) → text ≡ [] → lines text ≡ []
no_bytes text h = ap lines h

pub nothing_left : (done : List Logical) (held : Option Written) (n : ℕ) (text : List ℕ) → text ≡ [] → done ++ from_here held n (lines text) ≡ closed done held
unfolding from_here logical_from continuation
nothing_left done None n text h = ap (λ (ls : List (List ℕ)). done ++ logical_from false n ls) (no_bytes text h) ∙ append-nil done
nothing_left done (Some w) n text h =
    ap (λ (ls : List (List ℕ)). done ++ from_here (Some w) n ls) (no_bytes text h) ∙ ap (λ (l : Logical). done ++ l ∷ []) (ends_here w)
