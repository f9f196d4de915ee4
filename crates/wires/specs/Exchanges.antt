-- What a wire tells of its exchanges, and of the replies still to come (this project's own).
use Rattle.std.specs.Prelude.{◌≡◌, ℕ, Bool, false, ◌==◌, List, [], ◌∷◌, ◌++◌, drop, length, Option, Some, None}
use Rattle.outside.specs.Runs.{ChangesBy}
use Rattle.wires.specs.declared.wire.Exchange.{Exchange}

pub record WireState : Type 0 where
  -- the replies that are to come, where they are told, the first of them first
  pub ahead : Option (List (List ℕ))
  -- all requests that a server was sent, with their replies, the first of them first
  pub exchanges : List Exchange

-- what is still to come once a reply has come
abbrev pub ahead_after : Option (List (List ℕ)) → Option (List (List ℕ))
ahead_after None = None
ahead_after (Some replies) = Some (drop 1 replies)

abbrev pub happens : WireState → Exchange → WireState
happens s e = record { ahead = ahead_after s.ahead; exchanges = s.exchanges ++ e ∷ [] }

-- this reply stands next
abbrev pub IsNext : List (List ℕ) → List ℕ → Type 0
IsNext [] reply = ⊥
IsNext (next ∷ later) reply = reply ≡ next

-- a reply is the next, where that is told
abbrev pub IsToCome : Option (List (List ℕ)) → List ℕ → Type 0
IsToCome None reply = Unit {0}
IsToCome (Some replies) reply = IsNext replies reply

abbrev pub IsTrueEvent : WireState → Exchange → Type 0
IsTrueEvent s e = IsToCome s.ahead e.reply

-- this request was sent to this server
pub record IsExchangeOf (host : List ℕ) (port : ℕ) (request : List ℕ) (e : Exchange) : Type 0 where
  pub host_is : e.host ≡ host
  pub port_is : e.port ≡ port
  pub request_is : e.request ≡ request

-- a wire changed by exchanges of this kind alone, where it lists them; its count of faults doesn't fall
abbrev pub Changes : {X : Type 0} → (X → ℕ) → (X → Type 0) → (X → WireState) → (Exchange → Type 0) → X → X → Type 0
Changes count lists state Kind old new = ChangesBy happens IsTrueEvent count lists state Kind old new

-- it is told that no reply is to come
abbrev pub no_reply_left : Option (List (List ℕ)) → Bool
no_reply_left None = false
no_reply_left (Some replies) = length replies == 0

-- a wire that has sent nothing, and is to play these replies
abbrev pub is_new : List (List ℕ) → WireState
is_new replies = record { ahead = Some replies; exchanges = [] }

-- the state that a wire shows which tells nothing of its exchanges
abbrev pub nothing_told : WireState
nothing_told = record { ahead = None; exchanges = [] }
