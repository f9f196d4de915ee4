-- What of an ident stays where nothing touches it, and what one write makes of it.
use Rattle.std.proofs.Common.{◌≡◌, ◌⊎◌, inl, inr, ℕ, List, [], ◌∷◌, Option, Some, None, sym, ◌∙◌, ap, subst, rules}
use Rattle.std.specs.FinMap as fin
use Rattle.std.specs.FinMap.{gets}
use Rattle.store_model.specs.declared.event.Held.{Held}
use Rattle.store_model.specs.declared.event.StoreEvent.{StoreEvent}
use Rattle.store_model.specs.declared.event.StoreEvent.TheVariants.{Edited, Toggled, Wrote, Read}
use Rattle.store_model.specs.Sides.{Content, SideState, put_held, happens, IsTrueEvent, Evolves, Since, IsTextOf, IsNotOf, IsUntouching, HasNone, IsNotWriteOf}
use Rattle.store_model.proofs.Moments.{Evolves-trans, Evolves-one, Since-from_evolves}
use Rattle.store_model.proofs.Lacks.{side_keeps, get-put_held, Evolves-first, Evolves-rest}
use Rattle.outside.specs.Runs.{Leads}
use Rattle.outside.proofs.Runs.{Runs-both}
use Rattle.side_views.specs.Views.{IsAt, IsProperAt, IsPut, IsOver, OnceTo}

-- the texts of the ident stand at the same hrefs
pub record Same (ident : List ℕ) (s t : SideState) : Type 0 where
  pub there : (q : List ℕ) (held : Held) → fin.get s.content q ≡ Some held → IsTextOf ident held.text → fin.get t.content q ≡ Some held
  pub back : (q : List ℕ) (held : Held) → fin.get t.content q ≡ Some held → IsTextOf ident held.text → fin.get s.content q ≡ Some held

not_of : (ident : List ℕ) (o : Option Held) (held : Held) → IsNotOf ident o → o ≡ Some held → IsTextOf ident held.text → ⊥
not_of ident None held other is text = absurd (cc)
not_of ident (Some x) held other is text = other (let same : x ≡ held = cc in subst (λ (h : Held). IsTextOf ident h.text) (sym same) text)

put_same : (ident : List ℕ) (c : Content) (href : List ℕ) (old new : Option Held) → old ≡ fin.get c href → IsNotOf ident old → IsNotOf ident new → (q : List ℕ) (held : Held) → IsTextOf ident held.text → (fin.get c q ≡ Some held → fin.get (put_held c href new) q ≡ Some held) × (fin.get (put_held c href new) q ≡ Some held → fin.get c q ≡ Some held)
put_same ident c href old new stood not_old not_new q held text = at (get-put_held c href q new)
  where
    at : ((q ≡ href) × (fin.get (put_held c href new) q ≡ new)) ⊎ (fin.get (put_held c href new) q ≡ fin.get c q) → (fin.get c q ≡ Some held → fin.get (put_held c href new) q ≡ Some held) × (fin.get (put_held c href new) q ≡ Some held → fin.get c q ≡ Some held)
    at (inl (here, is)) = (λ e. absurd (not_of ident old held not_old (stood ∙ (ap (λ (k : List ℕ). fin.get c k) (sym here) ∙ e)) text), λ e. absurd (not_of ident new held not_new (sym is ∙ e) text))
    at (inr same) = (λ e. same ∙ e, λ e. sym same ∙ e)

event_same : (ident : List ℕ) (s : SideState) (e : StoreEvent) → IsUntouching ident e → IsNotWriteOf ident e → IsTrueEvent s e → Same ident s (happens s e)
event_same ident s (Edited href old new) quiet other is_true = record { there = λ q held e text. (put_same ident s.content href old new is_true quiet.0 quiet.1 q held text).0 e; back = λ q held e text. (put_same ident s.content href old new is_true quiet.0 quiet.1 q held text).1 e }
event_same ident s Toggled quiet other is_true = record { there = λ q held e text. e; back = λ q held e text. e }
event_same ident s (Wrote href old new sent) quiet other is_true = record { there = λ q held e text. (put_same ident s.content href old new is_true.0 other.0 other.1 q held text).0 e; back = λ q held e text. (put_same ident s.content href old new is_true.0 other.0 other.1 q held text).1 e }
event_same ident s (Read href text) quiet other is_true = record { there = λ q held e text. e; back = λ q held e text. e }

same_trans : (ident : List ℕ) (s m t : SideState) → Same ident s m → Same ident m t → Same ident s t
same_trans ident s m t first second = record { there = λ q held e text. second.there q held (first.there q held e text) text; back = λ q held e text. first.back q held (second.back q held e text) text }

leads_same : (ident : List ℕ) (s t : SideState) (es : List StoreEvent) → Leads happens IsTrueEvent (λ e. IsUntouching ident e × IsNotWriteOf ident e) s es t → Same ident s t
leads_same ident s t [] leads = record { there = λ q held e text. ap (λ (x : SideState). fin.get x.content q) leads ∙ e; back = λ q held e text. sym (ap (λ (x : SideState). fin.get x.content q) leads) ∙ e }
leads_same ident s t (e ∷ es) leads = same_trans ident s (happens s e) t (event_same ident s e leads.0.0 leads.0.1 leads.1) (leads_same ident (happens s e) t es leads.2)

pub evolves_same : (ident : List ℕ) (s t : SideState) → Evolves (IsUntouching ident) s t → Evolves (IsNotWriteOf ident) s t → Same ident s t
evolves_same ident s t quiet other =
    let both = Runs-both side_keeps quiet other in
    leads_same ident s t both.events both.leads

pub same_none : (ident : List ℕ) (s t : SideState) → Same ident s t → HasNone ident s → HasNone ident t
same_none ident s t same none = λ href held e text. none href held (same.back href held e text) text

pub same_at : (ident : List ℕ) (s t : SideState) (o : Option (List ℕ)) → Same ident s t → IsAt ident s o → IsAt ident t o
same_at ident s t None same none = same_none ident s t same none
same_at ident s t (Some version) same holds = record { href = holds.href; held = holds.held; here = same.there holds.href holds.held holds.here (holds.item, holds.is_item, holds.same_ident); item = holds.item; is_item = holds.is_item; same_ident = holds.same_ident; same_version = holds.same_version }

pub same_proper : (ident : List ℕ) (s t : SideState) → Same ident s t → IsProperAt ident s → IsProperAt ident t
same_proper ident s t same proper = record { once = λ p q x y at_p at_q of_x of_y. proper.once p q x y (same.back p x at_p of_x) (same.back q y at_q of_y) of_x of_y }

get-removed : (m : Content) (k : List ℕ) → fin.get (fin.remove m k) k ≡ None
get-removed m k = grind (gets, rules)

get-inserted : (m : Content) (k : List ℕ) (v : Held) → fin.get (fin.insert m k v) k ≡ Some v
get-inserted m k v = grind (gets, rules)

put_here : (c : Content) (href : List ℕ) (new : Option Held) → fin.get (put_held c href new) href ≡ new
put_here c href None = get-removed c href
put_here c href (Some held) = get-inserted c href held

-- behind the write, the ident stands at its href alone
only_here : (ident : List ℕ) (m : SideState) (href : List ℕ) (old new : Option Held) → old ≡ fin.get m.content href → IsProperAt ident m → IsOver ident m old → (q : List ℕ) (held : Held) → fin.get (put_held m.content href new) q ≡ Some held → IsTextOf ident held.text → q ≡ href
only_here ident m href old new stood proper over q held here text = at (get-put_held m.content href q new)
  where
    was : (o : Option Held) → o ≡ fin.get m.content href → IsOver ident m o → fin.get m.content q ≡ Some held → q ≡ href
    was None is none e = absurd (none q held e text)
    was (Some x) is of_x e = proper.once q href held x e (sym is) text of_x

    at : ((q ≡ href) × (fin.get (put_held m.content href new) q ≡ new)) ⊎ (fin.get (put_held m.content href new) q ≡ fin.get m.content q) → q ≡ href
    at (inl (same, is)) = same
    at (inr same) = was old stood over (sym same ∙ here)

write_proper : (ident : List ℕ) (m : SideState) (href : List ℕ) (old new : Option Held) (sent : Option (List ℕ)) → old ≡ fin.get m.content href → IsProperAt ident m → IsOver ident m old → IsProperAt ident (happens m (Wrote href old new sent))
write_proper ident m href old new sent stood proper over = record { once = λ p q x y at_p at_q of_x of_y. only_here ident m href old new stood proper over p x at_p of_x ∙ sym (only_here ident m href old new stood proper over q y at_q of_y) }

pub write_at : (ident : List ℕ) (to : Option (List ℕ)) (m : SideState) (href : List ℕ) (old new : Option Held) (sent : Option (List ℕ)) → old ≡ fin.get m.content href → IsProperAt ident m → IsOver ident m old → IsPut ident to new → IsAt ident (happens m (Wrote href old new sent)) to
write_at ident None m href old None sent stood proper over put = λ q held e text.
    let same : q ≡ href = only_here ident m href old None stood proper over q held e text in
    let none : fin.get (put_held m.content href None) q ≡ None = ap (λ (k : List ℕ). fin.get (put_held m.content href None) k) same ∙ put_here m.content href None in
    absurd (let clash : None ≡ Some held = sym none ∙ e in cc)
write_at ident None m href old (Some held) sent stood proper over put = absurd put
write_at ident (Some version) m href old None sent stood proper over put = absurd put
write_at ident (Some version) m href old (Some held) sent stood proper over put = record { href = href; held = held; here = put_here m.content href (Some held); item = put.0; is_item = put.1; same_ident = put.2; same_version = put.3 }

pub once_ends : (ident : List ℕ) (to o : Option (List ℕ)) (s t : SideState) → IsProperAt ident s → Evolves (IsUntouching ident) s t → IsAt ident s o → OnceTo ident to s t → (IsAt ident t o ⊎ IsAt ident t to) × IsProperAt ident t
once_ends ident to o s t proper quiet at_s (inl other) = let same = evolves_same ident s t quiet other in (inl (same_at ident s t o same at_s), same_proper ident s t same proper)
once_ends ident to o s t proper quiet at_s (inr w) =
    let e : StoreEvent = Wrote w.href w.old w.new w.sent in
    let n : SideState = happens w.moment e in
    let first : Since s w.moment = Since-from_evolves w.before in
    let last : Since n t = Since-from_evolves w.after in
    let one : Since w.moment n = Evolves-one w.moment e tt w.is_true in
    let quiet_first = Evolves-first quiet first (Evolves-trans one last) in
    let quiet_last = Evolves-rest quiet (Evolves-trans first one) last in
    let before = evolves_same ident s w.moment quiet_first w.before in
    let proper_m = same_proper ident s w.moment before proper in
    let after = evolves_same ident n t quiet_last w.after in
    let at_n : IsAt ident n to = write_at ident to w.moment w.href w.old w.new w.sent w.is_true.0 proper_m w.over w.put in
    let proper_n : IsProperAt ident n = write_proper ident w.moment w.href w.old w.new w.sent w.is_true.0 proper_m w.over in
    (inr (same_at ident n t to after at_n), same_proper ident n t after proper_n)
