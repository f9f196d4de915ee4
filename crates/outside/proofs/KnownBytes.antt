-- What is known of the bytes of a stream of std, call after call.
use Rattle.std.proofs.Common.{◌≡◌, ℕ, ◌<◌, List, [], ◌++◌, take, drop, length, Option, Some, None, Ok, Err, sym, ◌∙◌, ap, refl, subst}
use Rattle.std.specs.Prelude.{IsSome, unwrap_or, false, true}
use Rattle.std.specs.Io.KnownBytes.{Keeps, Appends, Consumes, IsAtEnd}
use Rattle.std.proofs.lemmas.List.{take-append-drop, append-nil}
use Rattle.outside.specs.declared.streams.SourceFault.{SourceFault}
use Rattle.outside.specs.declared.streams.SinkFault.{SinkFault}
use Rattle.outside.specs.StreamCalls.{ReadAnswer, WriteAnswer}

pub keeps_itself : (a : Option (List ℕ)) → Keeps a a
keeps_itself None = tt
keeps_itself (Some xs) = refl

pub keeps_then : (a b c : Option (List ℕ)) → Keeps a b → Keeps b c → Keeps a c
keeps_then None b c h k = tt
keeps_then (Some xs) None c h k = absurd h
keeps_then (Some xs) (Some ys) None h k = absurd k
keeps_then (Some xs) (Some ys) (Some zs) h k = k ∙ h

pub appends_keeps : (a b c : Option (List ℕ)) (bytes : List ℕ) → Appends a b bytes → Keeps b c → Appends a c bytes
appends_keeps None b c bytes h k = tt
appends_keeps (Some xs) None c bytes h k = absurd h
appends_keeps (Some xs) (Some ys) None bytes h k = absurd k
appends_keeps (Some xs) (Some ys) (Some zs) bytes h k = k ∙ h

pub keeps_consumes : (a b c : Option (List ℕ)) (bytes : List ℕ) → Keeps a b → Consumes b c bytes → Consumes a c bytes
keeps_consumes None b c bytes h k = tt
keeps_consumes (Some xs) None c bytes h k = absurd h
keeps_consumes (Some xs) (Some ys) None bytes h k = absurd k
keeps_consumes (Some xs) (Some ys) (Some zs) bytes h k = sym h ∙ k

-- where the bytes are known before a call, they are known behind it
pub read_tells : (old new : Option (List ℕ)) (n : ℕ) (before after : List ℕ) → length after ≡ length before → IsSome old → Consumes old new (take n after) × (n ≡ 0 → 0 < length after → IsAtEnd new) → IsSome new × ReadAnswer (unwrap_or old []) (unwrap_or new []) before after (Ok n)
read_tells None new n before after len is h = let e : false ≡ true = is in cc
read_tells (Some xs) None n before after len is h = absurd h.0
read_tells (Some xs) (Some ys) n before after len is h =
    (refl, (h.0, λ none room. h.0 ∙ ap (λ m. take m after ++ ys) none ∙ h.1 none (subst (λ m. 0 < m) (sym len) room)))

pub read_lost : (old new : Option (List ℕ)) (before after : List ℕ) (fault : SourceFault) → IsSome old → Keeps old new → IsSome new × ReadAnswer (unwrap_or old []) (unwrap_or new []) before after (Err fault)
read_lost None new before after fault is h = let e : false ≡ true = is in cc
read_lost (Some xs) None before after fault is h = absurd h
read_lost (Some xs) (Some ys) before after fault is h = (refl, ([], sym h))

pub write_tells : (old new : Option (List ℕ)) (n : ℕ) (piece : List ℕ) → IsSome old → Appends old new (take n piece) → IsSome new × WriteAnswer (unwrap_or old []) (unwrap_or new []) piece (Ok n)
write_tells None new n piece is h = let e : false ≡ true = is in cc
write_tells (Some xs) None n piece is h = absurd h
write_tells (Some xs) (Some ys) n piece is h = (refl, h)

-- a write that acted and was not answered Ok
pub write_lost : (old new : Option (List ℕ)) (n : ℕ) (piece : List ℕ) (fault : SinkFault) → IsSome old → Appends old new (take n piece) → IsSome new × WriteAnswer (unwrap_or old []) (unwrap_or new []) piece (Err fault)
write_lost None new n piece fault is h = let e : false ≡ true = is in cc
write_lost (Some xs) None n piece fault is h = absurd h
write_lost (Some xs) (Some ys) n piece fault is h = (refl, record { front = take n piece; rest = drop n piece; is_front = sym (take-append-drop n piece); adds = h })

pub write_failed : (old new : Option (List ℕ)) (piece : List ℕ) (fault : SinkFault) → IsSome old → Keeps old new → IsSome new × WriteAnswer (unwrap_or old []) (unwrap_or new []) piece (Err fault)
write_failed None new piece fault is h = let e : false ≡ true = is in cc
write_failed (Some xs) None piece fault is h = absurd h
write_failed (Some xs) (Some ys) piece fault is h = (refl, record { front = []; rest = piece; is_front = refl; adds = h ∙ sym (append-nil xs) })
