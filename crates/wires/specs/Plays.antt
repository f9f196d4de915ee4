-- What a `Play` stands for, and what playing its next reply does (this project's own).
use Rattle.std.specs.Prelude.{◌≡◌, ℕ, ◌<◌, ◌≤◌, true, false, List, drop, length, Option, Some, None, Result, Ok, Err}
use Rattle.std.specs.declared.vec.Vec.{Vec}
use Rattle.std.specs.declared.alloc.Global.{Global}
use Rattle.outside.specs.declared.folder.NoMemory.{NoMemory}
use Rattle.wires.specs.declared.play.Play.{Play}
use Rattle.wires.specs.declared.wire.WireError.{WireError}
use Rattle.wires.specs.declared.wire.WireError.TheVariants.{TooLong}
use Rattle.wires.specs.Exchanges.{WireState, no_reply_left}
use Rattle.wires.specs.WireCalls.{Exchanged, exchange_of}

abbrev pub state_of : Play → WireState
state_of p = record { ahead = Some (drop p.played p.replies.items); exchanges = p.exchanges.items }

-- the next reply is played, where there is one
abbrev pub Played : WireState → WireState → List ℕ → ℕ → List ℕ → Result (Option (Vec ℕ Global)) NoMemory → Type 0
Played s t host port request (Ok None) = (t ≡ s) × (no_reply_left s.ahead ≡ true)
Played s t host port request (Ok (Some reply)) = Exchanged s t (exchange_of host port request reply.items) × (no_reply_left s.ahead ≡ false)
Played s t host port request (Err e) = (t ≡ s) × (no_reply_left s.ahead ≡ false)

-- a reply, where its length is within the limit
abbrev pub IsWithin : List ℕ → ℕ → Result (Vec ℕ Global) WireError → Type 0
IsWithin reply limit (Ok bytes) = (bytes.items ≡ reply) × (length reply ≤ limit)
IsWithin reply limit (Err TooLong) = limit < length reply
IsWithin reply limit (Err e) = ⊥
