-- The first line of an input, which is read byte by byte (this project's own).
use Rattle.std.specs.Prelude.{◌≡◌, ◌≢◌, ℕ, ◌+◌, ◌-◌, ◌≤◌, true, Bool, false, List, [], ◌∷◌, ◌++◌, All, length, take, nat_eq, if◌then◌else◌, MatchBool, Option, Some, None, Result, Ok, Err}
use Rattle.std.specs.List.{ends_with}
use Rattle.std.specs.Str.{IsUtf8}
use Rattle.child_cmd.specs.declared.input_line.Next.{Next}
use Rattle.child_cmd.specs.declared.input_line.Next.TheVariants as next
use Rattle.child_cmd.specs.declared.input_line.RawLine.{RawLine}
use Rattle.child_cmd.specs.declared.input_line.LineError.{LineError}
use Rattle.child_cmd.specs.declared.input_line.LineError.TheVariants as error
use Rattle.child_cmd.specs.declared.input_line.TheConstants.{MAX_LINE}

-- some first bytes are gone
abbrev pub LosesFront : List ℕ → List ℕ → Type 0
LosesFront old new = (lost : List ℕ) × (old ≡ lost ++ new)

-- what stands at the front of an input: it is taken
abbrev pub TakesNext : List ℕ → List ℕ → Next → Type 0
TakesNext old new (next.Byte b) = (old ≡ b ∷ new) × (b ≢ 10)
TakesNext old new next.Feed = old ≡ 10 ∷ new
TakesNext old new next.End = (old ≡ []) × (new ≡ [])
TakesNext old new next.Fault = LosesFront old new

-- no byte of these is a line feed
abbrev pub HasNoFeed : List ℕ → Type 0
HasNoFeed bytes = All (λ b. b ≢ 10) bytes

-- these bytes were taken: they are ended by a line feed, which is taken with them, or by the end of the input
abbrev pub TakesBody : List ℕ → List ℕ → List ℕ → Bool → Type 0
TakesBody old new body is_ended = MatchBool is_ended (old ≡ body ++ 10 ∷ new) ((old ≡ body) × (new ≡ []))

-- the first line was taken: what stands before the first line feed, or all of an input that has none and isn't empty
pub record FirstLine (old new : List ℕ) (Is : List ℕ → Type 0) : Type 0 where
  pub body : List ℕ
  pub is_ended : Bool
  pub no_feed : HasNoFeed body
  pub taken : TakesBody old new body is_ended
  pub some : body ≡ [] → is_ended ≡ true
  pub short : length body ≤ MAX_LINE
  pub so : Is body

-- one byte more than a line may have was taken, and none of them is a line feed
pub record TooLongLine (old new : List ℕ) : Type 0 where
  pub front : List ℕ
  pub no_feed : HasNoFeed front
  pub taken : old ≡ front ++ new
  pub long : length front ≡ MAX_LINE + 1

abbrev pub TakesRaw : List ℕ → List ℕ → Result RawLine LineError → Type 0
TakesRaw old new (Ok raw) = HasNoFeed raw.bytes.items × TakesBody old new raw.bytes.items raw.is_ended × (length raw.bytes.items ≤ MAX_LINE)
TakesRaw old new (Err error.TooLong) = TooLongLine old new
TakesRaw old new (Err error.Fault) = LosesFront old new
TakesRaw old new (Err error.NoMemory) = new ≡ old
TakesRaw old new (Err error.NotUtf8) = ⊥

-- a line without one CR at its end
abbrev pub without_return : List ℕ → List ℕ
without_return body = if ends_with nat_eq body (13 ∷ []) then take (length body - 1) body else body

-- the text of a line, or none where the input ended before it
abbrev pub LineText : List ℕ → Bool → Result (Option (List ℕ)) LineError → Type 0
LineText body is_ended (Ok None) = (body ≡ []) × (is_ended ≡ false)
LineText body is_ended (Ok (Some line)) = (line ≡ without_return body) × IsUtf8 (without_return body) × (body ≡ [] → is_ended ≡ true)
LineText body is_ended (Err error.NotUtf8) = ¬ (IsUtf8 (without_return body)) × (body ≡ [] → is_ended ≡ true)
LineText body is_ended (Err e) = ⊥

-- from what was left of the input to what is left, by the answer of a reading. None: the end of the input
abbrev pub LineAnswer : List ℕ → List ℕ → Result (Option (List ℕ)) LineError → Type 0
LineAnswer old new (Ok None) = (old ≡ []) × (new ≡ [])
LineAnswer old new (Ok (Some line)) = FirstLine old new (λ body. (line ≡ without_return body) × IsUtf8 (without_return body))
LineAnswer old new (Err error.NotUtf8) = FirstLine old new (λ body. ¬ (IsUtf8 (without_return body)))
LineAnswer old new (Err error.TooLong) = TooLongLine old new
LineAnswer old new (Err error.Fault) = LosesFront old new
LineAnswer old new (Err error.NoMemory) = new ≡ old

-- an error and its cause: a Fault comes only where the count rose
abbrev pub LineCause : Type 0 → LineError → Type 0
LineCause rose error.Fault = rose
LineCause rose error.TooLong = Unit {0}
LineCause rose error.NotUtf8 = Unit {0}
LineCause rose error.NoMemory = Unit {0}

-- of what stands next
abbrev pub NextCause : Type 0 → Next → Type 0
NextCause rose (next.Byte b) = Unit {0}
NextCause rose next.Feed = Unit {0}
NextCause rose next.End = Unit {0}
NextCause rose next.Fault = rose
