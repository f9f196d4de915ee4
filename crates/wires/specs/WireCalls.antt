-- What an exchange over a wire may do (this project's own).
use Rattle.std.specs.Prelude.{◌≡◌, ℕ, ◌-◌, ◌^◌, ◌<◌, ◌≤◌, List, length, ◌⊎◌, Option, Some, None, Result, Ok, Err}
use Rattle.std.specs.declared.vec.Vec.{Vec}
use Rattle.std.specs.declared.alloc.Global.{Global}
use Rattle.wires.specs.declared.wire.Exchange.{Exchange}
use Rattle.wires.specs.declared.wire.WireError.{WireError}
use Rattle.wires.specs.declared.wire.WireError.TheVariants.{Fault, TooLong, NoMemory}
use Rattle.wires.specs.Exchanges.{WireState, happens, IsTrueEvent}

abbrev pub exchange_of : List ℕ → ℕ → List ℕ → List ℕ → Exchange
exchange_of host port request reply = record { host = host; port = port; request = request; reply = reply }

-- this exchange was made, and no other
pub record Exchanged (s t : WireState) (e : Exchange) : Type 0 where
  pub is_true : IsTrueEvent s e
  pub after : t ≡ happens s e

-- the request was sent, and had a reply of this kind
pub record RepliedSo (s t : WireState) (host : List ℕ) (port : ℕ) (request : List ℕ) (Is : List ℕ → Type 0) : Type 0 where
  pub reply : List ℕ
  pub exchanged : Exchanged s t (exchange_of host port request reply)
  pub so : Is reply

-- the request was sent, or it wasn't
abbrev pub SentOrNot : WireState → WireState → List ℕ → ℕ → List ℕ → Type 0
SentOrNot s t host port request = (t ≡ s) ⊎ RepliedSo s t host port request (λ reply. Unit {0})

abbrev pub ExchangeAnswer : WireState → WireState → List ℕ → ℕ → List ℕ → ℕ → Result (Vec ℕ Global) WireError → Type 0
ExchangeAnswer s t host port request limit (Ok reply) = Exchanged s t (exchange_of host port request reply.items) × (length reply.items ≤ limit)
ExchangeAnswer s t host port request limit (Err TooLong) = RepliedSo s t host port request (λ reply. limit < length reply)
ExchangeAnswer s t host port request limit (Err Fault) = SentOrNot s t host port request
ExchangeAnswer s t host port request limit (Err NoMemory) = SentOrNot s t host port request

-- what a site is seen to have answered: the reply, or its loss
abbrev pub reply_of : Result (Vec ℕ Global) WireError → Option (List ℕ)
reply_of (Ok reply) = Some reply.items
reply_of (Err error) = None

-- an error and its cause: a Fault comes only where the count rose, and TooLong only where the length of a reply, a u64, can be
-- past the limit
abbrev pub WireCause : Type 0 → ℕ → WireError → Type 0
WireCause rose limit Fault = rose
WireCause rose limit TooLong = limit < 2 ^ 64 - 1
WireCause rose limit NoMemory = Unit {0}
