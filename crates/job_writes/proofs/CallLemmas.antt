-- What the call of one step answered.
use Rattle.std.proofs.Common.{◌≡◌, inl, inr, ℕ, Bool, List, [], Result, Ok, Err, IfOk, refl, sym, subst}
use Rattle.std.specs.declared.alloc.AllocError.{AllocError}
use Rattle.item_text.specs.Items.{ItemValue}
use Rattle.store_model.specs.declared.store.StoreError.{StoreError}
use Rattle.store_model.specs.declared.store.StoreError.TheVariants.{Fault, Moved, TooLong, TooMany, NotThere, Vanished, BadItem, NoMemory}
use Rattle.store_model.specs.declared.event.StoreEvent.{StoreEvent}
use Rattle.store_model.specs.Sides.{SideState, IsAnyEvent}
use Rattle.store_model.specs.Waits.{Change, new_at}
use Rattle.store_model.specs.StoreCalls.{PutNewAnswer, Changes}
use Rattle.store_model.proofs.Moments.{Changes-weaker}
use Rattle.sync_plan.specs.declared.report.Side.{Side}
use Rattle.sync_plan.specs.declared.seen.Seen.{Seen}
use Rattle.job_writes.specs.declared.outcome.Outcome.{Outcome}
use Rattle.job_writes.specs.declared.outcome.Outcome.TheVariants.{NotWritten}
use Rattle.job_writes.specs.Writings.{SideNow, IsUnsent, NewFails, Sends, CopyAnswer}

pub unsent_sends : (c : Change) (error : StoreError) (s t : SideNow) → IsUnsent c error s t → Sends c s t
unsent_sends c Moved s t h = inl (inl h.0, h.2)
unsent_sends c Fault s t h = inl h
unsent_sends c NoMemory s t h = inl h
unsent_sends c TooLong s t h = absurd h
unsent_sends c TooMany s t h = absurd h
unsent_sends c NotThere s t h = absurd h
unsent_sends c (Vanished href) s t h = absurd h
unsent_sends c (BadItem href error) s t h = absurd h

pub new_sends : (item : ItemValue) (s t : SideNow) (error : StoreError) → NewFails item.text error s t → (href : List ℕ) × Sends (new_at href item.text) s t
new_sends item s t error (inl h) = ([], inl (inl h.0.0, h.0.1))
new_sends item s t error (inr h) = (h.0, unsent_sends (new_at h.0 item.text) error s t h.1)

-- a new item's call
module _ (waits : Bool) (may : List ℕ → Type 0) (side : Side) (from : Seen) (item : ItemValue) (s t : SideNow) where
  new_fails : (error : StoreError) → PutNewAnswer waits may item s.state s.waiting t.state t.waiting (Err error) → NewFails item.text error s t
  new_fails Moved h = inr (h.0, h.2)
  new_fails Fault (inl h) = inl (h, tt)
  new_fails Fault (inr h) = inr (h.0, h.2)
  new_fails NoMemory (inl h) = inl (h, tt)
  new_fails NoMemory (inr h) = inr (h.0, h.2)
  new_fails TooLong h = absurd h
  new_fails TooMany h = absurd h
  new_fails NotThere h = absurd h
  new_fails (Vanished href) h = absurd h
  new_fails (BadItem href error) h = absurd h

  pub copy_fails : (error : StoreError) (r : Result Outcome AllocError) → IfOk r (λ o. o ≡ NotWritten side error) → PutNewAnswer waits may item s.state s.waiting t.state t.waiting (Err error) → CopyAnswer waits side from item s t r
  copy_fails error (Ok o) told h = subst (λ (o : Outcome). CopyAnswer waits side from item s t (Ok o)) (sym told) (refl, new_fails error h)
  copy_fails error (Err e) told h = new_sends item s t error (new_fails error h)

pub any_change : {S : Type 0} {count : S → ℕ} {tells : S → Type 0} {side : S → SideState} {Kind : StoreEvent → Type 0} {s t : S} → Changes count tells side Kind s t → Changes count tells side IsAnyEvent s t
any_change changes = Changes-weaker (λ e kind. tt) changes
