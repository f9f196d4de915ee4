-- Steps one after another.
use Rattle.std.proofs.Common.{◌≡◌, ◌⊎◌, inl, inr, ℕ, ◌+◌, ◌<◌, length, get_or, take, drop, add-one, drop-cons, Bool, true, false, ◌||◌, List, [], ◌∷◌, ◌++◌, Option, None, refl, sym, ap, ◌∙◌, subst}
use Rattle.std.proofs.lemmas.List.{take-append-drop, take_more}
use Rattle.std.specs.List.{AllByRecursion}
use Rattle.store_model.specs.Waits.{Change, new_at, over_at, gone_at}
use Rattle.sync_plan.specs.declared.report.Side.{Side}
use Rattle.sync_plan.specs.declared.report.Side.TheVariants.{A, B}
use Rattle.sync_plan.specs.declared.dues.Step.{Step}
use Rattle.sync_plan.specs.declared.dues.Step.TheVariants as step
use Rattle.sync_plan.specs.declared.seen.Planned.{Planned}
use Rattle.side_reads.specs.declared.holding.Holding.{Holding}
use Rattle.job_writes.specs.declared.outcome.Outcome.{Outcome}
use Rattle.job_writes.specs.declared.phases.Outcomes.{Outcomes}
use Rattle.job_writes.specs.declared.outcome.Outcome.TheVariants.{Kept, Gone, Written, Left, Conflict, NotWritten, NotRemoved, Skipped}
use Rattle.job_writes.specs.Writings.{SideNow, Sources, IsSent, Sends, CopyDid, CopySent, OverDid, OverSent, RemovalDid, RemovalSent, PutBy, PutSentBy, PutDid, PutTried, RemovalBy, RemovalSentBy, RemovalDone, RemovalTried, InOrder, AllTried, AllFit, WritesDid, WritesTried, is_failure, failed_after}
use Rattle.job_writes.proofs.CallLemmas.{unsent_sends, new_sends}

-- ---- what a step did it tried

sent_sends : (waits : Bool) (c : Change) (etag : Option (List ℕ)) (s t : SideNow) → IsSent waits c etag s t → Sends c s t
sent_sends false c etag s t h = inl (inr h.0, h.2)
sent_sends true c etag s t h = inr (h.0, h.2)

copy_sent : (waits : Bool) (side : Side) (other : Holding) (place : Option ℕ) (s t : SideNow) (o : Outcome) → CopyDid waits side other place s t o → CopySent other place s t
copy_sent waits side other place s t (Written row) did =
    record { from = did.from; item = did.item; source = did.source; href = did.answer.0; sends = sent_sends waits (new_at did.answer.0 did.item.text) did.answer.1 s t did.answer.3 }
copy_sent waits side other place s t (NotWritten at error) did =
    let sent = new_sends did.item s t error did.answer.1 in
    record { from = did.from; item = did.item; source = did.source; href = sent.0; sends = sent.1 }
copy_sent waits side other place s t Kept did = absurd did.answer
copy_sent waits side other place s t Gone did = absurd did.answer
copy_sent waits side other place s t Left did = absurd did.answer
copy_sent waits side other place s t Conflict did = absurd did.answer
copy_sent waits side other place s t (NotRemoved at error) did = absurd did.answer
copy_sent waits side other place s t Skipped did = absurd did.answer

over_sent : (waits : Bool) (side : Side) (own : Holding) (own_place : Option ℕ) (other : Holding) (place : Option ℕ) (s t : SideNow) (o : Outcome) → OverDid waits side own own_place other place s t o → OverSent own own_place other place s t
over_sent waits side own own_place other place s t (Written row) did =
    record { over = did.over; stands = did.stands; from = did.from; item = did.item; source = did.source; sends = sent_sends waits (over_at did.over.href did.over.etag did.item.text) did.answer.0 s t did.answer.2 }
over_sent waits side own own_place other place s t (NotWritten at error) did =
    record { over = did.over; stands = did.stands; from = did.from; item = did.item; source = did.source; sends = unsent_sends (over_at did.over.href did.over.etag did.item.text) error s t did.answer.1 }
over_sent waits side own own_place other place s t Kept did = absurd did.answer
over_sent waits side own own_place other place s t Gone did = absurd did.answer
over_sent waits side own own_place other place s t Left did = absurd did.answer
over_sent waits side own own_place other place s t Conflict did = absurd did.answer
over_sent waits side own own_place other place s t (NotRemoved at error) did = absurd did.answer
over_sent waits side own own_place other place s t Skipped did = absurd did.answer

removal_sent : (waits : Bool) (side : Side) (own : Holding) (own_place : Option ℕ) (s t : SideNow) (o : Outcome) → RemovalDid waits side own own_place s t o → RemovalSent own own_place s t
removal_sent waits side own own_place s t Gone did = record { over = did.over; stands = did.stands; sends = sent_sends waits (gone_at did.over.href did.over.etag) None s t did.answer }
removal_sent waits side own own_place s t (NotRemoved at error) did = record { over = did.over; stands = did.stands; sends = unsent_sends (gone_at did.over.href did.over.etag) error s t did.answer.1 }
removal_sent waits side own own_place s t Kept did = absurd did.answer
removal_sent waits side own own_place s t (Written row) did = absurd did.answer
removal_sent waits side own own_place s t Left did = absurd did.answer
removal_sent waits side own own_place s t Conflict did = absurd did.answer
removal_sent waits side own own_place s t (NotWritten at error) did = absurd did.answer
removal_sent waits side own own_place s t Skipped did = absurd did.answer

put_by_tried : (st : Step) (waits : Bool) (side : Side) (x : Sources) (p : Planned) (s t : SideNow) (o : Outcome) → PutBy st waits side x p s t o → (t ≡ s) ⊎ PutSentBy st side x p s t
put_by_tried (step.CopyTo A) waits A x p s t o did = inr (copy_sent waits A x.b p.b s t o did)
put_by_tried (step.CopyTo B) waits B x p s t o did = inr (copy_sent waits B x.a p.a s t o did)
put_by_tried (step.CopyTo A) waits B x p s t o did = inl did
put_by_tried (step.CopyTo B) waits A x p s t o did = inl did
put_by_tried (step.WriteOver A) waits A x p s t o did = inr (over_sent waits A x.a p.a x.b p.b s t o did)
put_by_tried (step.WriteOver B) waits B x p s t o did = inr (over_sent waits B x.b p.b x.a p.a s t o did)
put_by_tried (step.WriteOver A) waits B x p s t o did = inl did
put_by_tried (step.WriteOver B) waits A x p s t o did = inl did
put_by_tried step.Forget waits side x p s t o did = inl did
put_by_tried step.Keep waits side x p s t o did = inl did
put_by_tried (step.RemoveFrom from) waits side x p s t o did = inl did
put_by_tried step.HandOver waits side x p s t o did = inl did
put_by_tried step.Conflict waits side x p s t o did = inl did
put_by_tried (step.Held to) waits side x p s t o did = inl did

pub put_tried : (waits : Bool) (side : Side) (x : Sources) (p : Planned) (s t : SideNow) (o : Outcome) → PutDid waits side x p s t o → PutTried side x p s t
put_tried waits side x p s t o did = put_by_tried p.step waits side x p s t o did

removal_by_tried : (st : Step) (failed waits : Bool) (side : Side) (x : Sources) (p : Planned) (s t : SideNow) (o : Outcome) → RemovalBy st failed waits side x p s t o → (t ≡ s) ⊎ ((failed ≡ false) × RemovalSentBy st side x p s t)
removal_by_tried (step.RemoveFrom from) true waits side x p s t o did = inl did
removal_by_tried (step.RemoveFrom A) false waits A x p s t o did = inr (refl, removal_sent waits A x.a p.a s t o did)
removal_by_tried (step.RemoveFrom B) false waits B x p s t o did = inr (refl, removal_sent waits B x.b p.b s t o did)
removal_by_tried (step.RemoveFrom A) false waits B x p s t o did = inl did
removal_by_tried (step.RemoveFrom B) false waits A x p s t o did = inl did
removal_by_tried (step.CopyTo to) failed waits side x p s t o did = inl did
removal_by_tried (step.WriteOver to) failed waits side x p s t o did = inl did
removal_by_tried step.Forget failed waits side x p s t o did = inl did
removal_by_tried step.Keep failed waits side x p s t o did = inl did
removal_by_tried step.HandOver failed waits side x p s t o did = inl did
removal_by_tried step.Conflict failed waits side x p s t o did = inl did
removal_by_tried (step.Held to) failed waits side x p s t o did = inl did

pub removal_tried : (waits : Bool) (side : Side) (x : Sources) (failed : Bool) (p : Planned) (s t : SideNow) (o : Outcome) → RemovalDone waits side x failed p s t o → RemovalTried side x failed p s t
removal_tried waits side x failed p s t o did = removal_by_tried p.step failed waits side x p s t o did

-- ---- one more step

pub failed_push : (failed : Bool) (os : List Outcome) (o : Outcome) → failed_after failed (os ++ o ∷ []) ≡ (failed_after failed os || is_failure o)
failed_push failed [] o = refl
failed_push failed (x ∷ os) o = failed_push (failed || is_failure x) os o

order_push : (Did : Bool → Planned → SideNow → SideNow → Outcome → Type 0) (failed : Bool) (ps : List Planned) (os : List Outcome) (p : Planned) (o : Outcome) (s m t : SideNow) → InOrder Did failed ps os s m → Did (failed_after failed os) p m t o → InOrder Did failed (ps ++ p ∷ []) (os ++ o ∷ []) s t
order_push Did failed [] [] p o s m t done did = (t, subst (λ (x : SideNow). Did failed p x t o) done did, refl)
order_push Did failed (q ∷ ps) (x ∷ os) p o s m t done did = (done.0, done.1, order_push Did (failed || is_failure x) ps os p o done.0 m t done.2 did)
order_push Did failed [] (x ∷ os) p o s m t done did = absurd done
order_push Did failed (q ∷ ps) [] p o s m t done did = absurd done

fit_push : (Fits : Bool → Planned → Outcome → Type 0) (failed : Bool) (ps : List Planned) (os : List Outcome) (p : Planned) (o : Outcome) → AllFit Fits failed ps os → Fits (failed_after failed os) p o → AllFit Fits failed (ps ++ p ∷ []) (os ++ o ∷ [])
fit_push Fits failed [] [] p o done fits = (fits, tt)
fit_push Fits failed (q ∷ ps) (x ∷ os) p o done fits = (done.0, fit_push Fits (failed || is_failure x) ps os p o done.1 fits)
fit_push Fits failed [] (x ∷ os) p o done fits = absurd done
fit_push Fits failed (q ∷ ps) [] p o done fits = absurd done

-- ---- a run that ends among them

tried_refl : (Tried : Planned → SideNow → SideNow → Type 0) → ((p : Planned) (s : SideNow) → Tried p s s) → (ps : List Planned) (s : SideNow) → AllTried Tried ps s s
tried_refl Tried same [] s = refl
tried_refl Tried same (p ∷ ps) s = (s, same p s, tried_refl Tried same ps s)

order_tried : (Did : Bool → Planned → SideNow → SideNow → Outcome → Type 0) (Tried : Planned → SideNow → SideNow → Type 0) → ((failed : Bool) (p : Planned) (s t : SideNow) (o : Outcome) → Did failed p s t o → Tried p s t) → (failed : Bool) (ps : List Planned) (os : List Outcome) (s t : SideNow) → InOrder Did failed ps os s t → AllTried Tried ps s t
order_tried Did Tried f failed [] [] s t done = done
order_tried Did Tried f failed (p ∷ ps) (o ∷ os) s t done = (done.0, f failed p s done.0 o done.1, order_tried Did Tried f (failed || is_failure o) ps os done.0 t done.2)
order_tried Did Tried f failed [] (o ∷ os) s t done = absurd done
order_tried Did Tried f failed (p ∷ ps) [] s t done = absurd done

tried_ends : (Tried : Planned → SideNow → SideNow → Type 0) → ((p : Planned) (s : SideNow) → Tried p s s) → (ps : List Planned) (p : Planned) (rest : List Planned) (s m t : SideNow) → AllTried Tried ps s m → Tried p m t → AllTried Tried (ps ++ p ∷ rest) s t
tried_ends Tried same [] p rest s m t done last = (t, subst (λ (x : SideNow). Tried p x t) done last, tried_refl Tried same rest t)
tried_ends Tried same (q ∷ ps) p rest s m t done last = (done.0, done.1, tried_ends Tried same ps p rest done.0 m t done.2 last)

-- ---- the turns of a loop over a plan

-- the step that stands for none behind the end of a plan
abbrev pub no_step : Planned
no_step = record { ident = record { ref_ptr = (0, 0); now = [] }; step = step.Forget; a = None; b = None }

turn_of : (all : List Planned) (i : ℕ) (d : Planned) → i < length all → all ≡ take i all ++ get_or all i d ∷ drop (i + 1) all
turn_of all i d h = sym (take-append-drop i all) ∙ ap (λ l. take i all ++ l) (rw (add-one, drop-cons all i d) refl)

next_take : (all : List Planned) (i : ℕ) (d : Planned) → i < length all → take i all ++ get_or all i d ∷ [] ≡ take (i + 1) all
next_take all i d h = sym (take_more all i d h)

-- the flag at a turn, and the kind of the store, are those at the beginning
pub order_turn : (Did : Bool → Planned → SideNow → SideNow → Outcome → Type 0) (failed : Bool) (all : List Planned) (i : ℕ) (d : Planned) (os now : List Outcome) (o : Outcome) (s m t : SideNow) → i < length all → now ≡ os ++ o ∷ [] → InOrder Did failed (take i all) os s m → Did (failed_after failed os) (get_or all i d) m t o → InOrder Did failed (take (i + 1) all) now s t
order_turn Did failed all i d os now o s m t h more done did =
    subst (λ (l : List Planned). InOrder Did failed l now s t) (next_take all i d h) (subst (λ (l : List Outcome). InOrder Did failed (take i all ++ get_or all i d ∷ []) l s t) (sym more) (order_push Did failed (take i all) os (get_or all i d) o s m t done did))

pub fit_turn : (Fits : Bool → Planned → Outcome → Type 0) (failed : Bool) (all : List Planned) (i : ℕ) (d : Planned) (os now : List Outcome) (o : Outcome) → i < length all → now ≡ os ++ o ∷ [] → AllFit Fits failed (take i all) os → Fits (failed_after failed os) (get_or all i d) o → AllFit Fits failed (take (i + 1) all) now
fit_turn Fits failed all i d os now o h more done fits =
    subst (λ (l : List Planned). AllFit Fits failed l now) (next_take all i d h) (subst (λ (l : List Outcome). AllFit Fits failed (take i all ++ get_or all i d ∷ []) l) (sym more) (fit_push Fits failed (take i all) os (get_or all i d) o done fits))

pub failed_turn : (failed now : Bool) (os after : List Outcome) (o : Outcome) → now ≡ failed_after failed os → after ≡ os ++ o ∷ [] → (now || is_failure o) ≡ failed_after failed after
failed_turn failed now os after o is more = ap (λ (b : Bool). b || is_failure o) is ∙ (sym (failed_push failed os o) ∙ ap (failed_after failed) (sym more))

-- one more outcome of a kind
pub all_turn : (P : Outcome → Type 0) (os now : List Outcome) (o : Outcome) → now ≡ os ++ o ∷ [] → AllByRecursion P os → P o → AllByRecursion P now
all_turn P os now o more done one = subst (λ (l : List Outcome). AllByRecursion P l) (sym more) (push os done)
  where
    push : (xs : List Outcome) → AllByRecursion P xs → AllByRecursion P (xs ++ o ∷ [])
    push [] all = (one, tt)
    push (x ∷ xs) all = (all.0, push xs all.1)

-- where none has failed behind some of them, none has failed before
pub none_failed : (failed : Bool) (os : List Outcome) → failed_after failed os ≡ false → failed ≡ false
none_failed failed [] h = h
none_failed failed (o ∷ os) h = first failed (is_failure o) (none_failed (failed || is_failure o) os h)
  where
    first : (b d : Bool) → (b || d) ≡ false → b ≡ false
    first false d e = refl
    first true d e = e

tried_since : (side : Side) (x : Sources) (failed halted : Bool) (p : Planned) (s t : SideNow) → (halted ≡ false → failed ≡ false) → RemovalTried side x halted p s t → RemovalTried side x failed p s t
tried_since side x failed halted p s t before (inl same) = inl same
tried_since side x failed halted p s t before (inr (none, sent)) = inr (before none, sent)

pub removals_tried : (waits : Bool) (side : Side) (x : Sources) (failed : Bool) (ps : List Planned) (os : List Outcome) (s t : SideNow) → InOrder (RemovalDone waits side x) failed ps os s t → AllTried (RemovalTried side x failed) ps s t
removals_tried waits side x failed ps os s t done = by failed ps os s t (λ e. e) done
  where
    by : (φ : Bool) (ps : List Planned) (os : List Outcome) (s t : SideNow) → (φ ≡ false → failed ≡ false) → InOrder (RemovalDone waits side x) φ ps os s t → AllTried (RemovalTried side x failed) ps s t
    by φ [] [] s t before done = done
    by φ (p ∷ ps) (o ∷ os) s t before (m, did, rest) = (m, tried_since side x failed φ p s m before (removal_tried waits side x φ p s m o did), by (φ || is_failure o) ps os m t (λ e. before (none_failed φ (o ∷ []) e)) rest)
    by φ [] (o ∷ os) s t before done = absurd done
    by φ (p ∷ ps) [] s t before done = absurd done

-- the run ends in this turn
pub puts_end : (waits : Bool) (side : Side) (x : Sources) (all : List Planned) (i : ℕ) (d : Planned) (os : List Outcome) (s m t : SideNow) → i < length all → InOrder (λ failed. PutDid waits side x) false (take i all) os s m → PutTried side x (get_or all i d) m t → AllTried (PutTried side x) all s t
puts_end waits side x all i d os s m t h done last =
    subst (λ (l : List Planned). AllTried (PutTried side x) l s t) (sym (turn_of all i d h))
    (tried_ends (PutTried side x) (λ q y. inl refl) (take i all) (get_or all i d) (drop (i + 1) all) s m t (order_tried (λ failed. PutDid waits side x) (PutTried side x) (λ failed q y z o did. put_tried waits side x q y z o did) false (take i all) os s m done) last)

pub removals_end : (waits : Bool) (side : Side) (x : Sources) (failed halted : Bool) (all : List Planned) (i : ℕ) (d : Planned) (os : List Outcome) (s m t : SideNow) → i < length all → halted ≡ failed_after failed os → InOrder (RemovalDone waits side x) failed (take i all) os s m → RemovalTried side x halted (get_or all i d) m t → AllTried (RemovalTried side x failed) all s t
removals_end waits side x failed halted all i d os s m t h is done last =
    subst (λ (l : List Planned). AllTried (RemovalTried side x failed) l s t) (sym (turn_of all i d h))
    (tried_ends (RemovalTried side x failed) (λ q y. inl refl) (take i all) (get_or all i d) (drop (i + 1) all) s m t (removals_tried waits side x failed (take i all) os s m done) (tried_since side x failed halted (get_or all i d) m t (λ e. none_failed failed os (sym is ∙ e)) last))

-- whether one of a list has failed, outcome by outcome
pub failed_slice : (all : List Outcome) (i : ℕ) (x : Outcome) (now before : Bool) → i < length all → x ≡ get_or all i x → before ≡ failed_after false (take i all) → now ≡ (before || is_failure x) → now ≡ failed_after false (take (i + 1) all)
failed_slice all i x now before h e so one =
    one ∙ (ap (λ (b : Bool). b || is_failure x) so ∙ (sym (failed_push false (take i all) x) ∙ ap (failed_after false) (ap (λ y. take i all ++ y ∷ []) e ∙ sym (take_more all i x h))))

pub puts_tried : (waits : Bool) (side : Side) (x : Sources) (ps : List Planned) (os : List Outcome) (s t : SideNow) → InOrder (λ failed. PutDid waits side x) false ps os s t → AllTried (PutTried side x) ps s t
puts_tried waits side x ps os s t done = order_tried (λ failed. PutDid waits side x) (PutTried side x) (λ failed q y z o did. put_tried waits side x q y z o did) false ps os s t done

pub removals_refl : (side : Side) (x : Sources) (failed : Bool) (ps : List Planned) (s : SideNow) → AllTried (RemovalTried side x failed) ps s s
removals_refl side x failed ps s = tried_refl (RemovalTried side x failed) (λ q y. inl refl) ps s

-- what a run did it tried
pub did_tried : (waits : Bool) (side : Side) (x : Sources) (ps : List Planned) (s t : SideNow) (os : Outcomes) → WritesDid waits side x ps s t os → WritesTried waits side x ps s t
did_tried waits side x ps s t os did = inr (record { between = did.between; put = os.put.items; puts = did.puts; removals = removals_tried waits side x (failed_after false os.put.items) ps os.removed.items did.between t did.removals })
