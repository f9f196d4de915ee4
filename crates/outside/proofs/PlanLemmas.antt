-- Calls of a device whose plan has no fault.
use Rattle.std.proofs.Common.{◌≡◌, ℕ, ◌+◌, ◌<◌, Bool, false, List, ◌++◌, take, length, Option, Some, None, refl, ap, sym, ◌∙◌, subst, arith, length-append}
use Rattle.std.proofs.lemmas.Bool.{lt-leb}
use Rattle.std.proofs.lemmas.List.{length-take-le}
use Rattle.outside.specs.Plans.{Course, IsQuiet, GoesBeside, CountsFate, next_call, next_fate, unless_stopped}
use Rattle.outside.specs.StreamCalls.{is_full, HasRoom}
use Rattle.outside.specs.declared.plan.Fate.TheVariants.{Acts}

-- nothing stops the call: no fault is counted, and none is to come
pub quiet_goes : (stopped : Bool) (old new : Option Course) (before now : ℕ) (failed : Type 0) → stopped ≡ false → IsQuiet old → GoesBeside stopped old new before now failed → IsQuiet new × (now ≡ before)
quiet_goes stopped None new before now failed free quiet h = absurd quiet
quiet_goes stopped (Some course) new before now failed free quiet h =
    let acts : unless_stopped stopped (next_fate course) ≡ Acts = ap (λ b. unless_stopped b (next_fate course)) free ∙ quiet (next_call course) in
    (subst IsQuiet (sym h.0) quiet, subst (λ fate. CountsFate fate before now) acts h.1)

-- where all bytes fit and some are still to be written, the sink isn't full
pub not_full : (room : Option ℕ) (held now bytes piece : List ℕ) (done : ℕ) → HasRoom room held bytes → done < length bytes → now ≡ held ++ take done bytes → is_full room now piece ≡ false
not_full None held now bytes piece done fits more e = absurd fits
not_full (Some room) held now bytes piece done fits more e =
    let len : length now ≡ length held + done = ap length e ∙ length-append held (take done bytes) ∙ ap (λ n. length held + n) (length-take-le done bytes (omega (arith, more))) in
    rw (lt-leb room (length now) (omega (arith, len, fits, more))) refl
