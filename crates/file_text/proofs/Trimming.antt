-- Trimming: a text that is trimmed stays as it is where it is trimmed again.
use Rattle.std.proofs.Common.{◌≡◌, ℕ, Bool, true, false, cond, List, [], ◌∷◌, refl, sym, ◌∙◌, ap}
use Rattle.item_text.specs.Lines.{is_blank, trim_front, before_trimmed, trim_back, trimmed}

back_by : (b : Bool) (c : ℕ) → is_blank c ≡ b → trim_back (cond b [] (c ∷ [])) ≡ cond b [] (c ∷ [])
unfolding trim_back before_trimmed
back_by true c h = refl
back_by false c h = ap (λ (t : Bool). cond t [] (c ∷ [])) h

back_put : (c : ℕ) (text : List ℕ) → trim_back text ≡ text → trim_back (before_trimmed c text) ≡ before_trimmed c text
unfolding trim_back before_trimmed
back_put c [] h = back_by (is_blank c) c refl
back_put c (d ∷ text) h = ap (before_trimmed c) h

back_twice : (text : List ℕ) → trim_back (trim_back text) ≡ trim_back text
unfolding trim_back
back_twice [] = refl
back_twice (b ∷ bs) = back_put b (trim_back bs) (back_twice bs)

front_word : (b : ℕ) (bs : List ℕ) → is_blank b ≡ false → trim_front (b ∷ bs) ≡ b ∷ bs
unfolding trim_front
front_word b bs h = ap (λ (t : Bool). cond t (trim_front bs) (b ∷ bs)) h

front_put : (b : ℕ) (text : List ℕ) → is_blank b ≡ false → trim_front (before_trimmed b text) ≡ before_trimmed b text
unfolding before_trimmed
front_put b [] h = ap (λ (t : Bool). trim_front (cond t [] (b ∷ []))) h ∙ (front_word b [] h ∙ sym (ap (λ (t : Bool). cond t [] (b ∷ [])) h))
front_put b (c ∷ text) h = front_word b (c ∷ text) h

-- what is trimmed in front stays so where the end is trimmed
front_by : (t : Bool) (b : ℕ) (bs : List ℕ) → is_blank b ≡ t → trim_front (trim_back (trim_front bs)) ≡ trim_back (trim_front bs) → trim_front (trim_back (cond t (trim_front bs) (b ∷ bs))) ≡ trim_back (cond t (trim_front bs) (b ∷ bs))
unfolding trim_back
front_by true b bs h again = again
front_by false b bs h again = front_put b (trim_back bs) h

front_kept : (text : List ℕ) → trim_front (trim_back (trim_front text)) ≡ trim_back (trim_front text)
unfolding trim_front trim_back
front_kept [] = refl
front_kept (b ∷ bs) = front_by (is_blank b) b bs refl (front_kept bs)

pub trimmed_twice : (text : List ℕ) → trimmed (trimmed text) ≡ trimmed text
unfolding trimmed
trimmed_twice text = ap trim_back (front_kept text) ∙ back_twice (trim_front text)
