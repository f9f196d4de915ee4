-- What bytes are as a reply: the reply at their front, or why there is none (RFC 9112, sections 4 to 7; the
-- refusals and their order are this project's own).
use Rattle.std.specs.Prelude.{◌≡◌, ◌⊎◌, ℕ, ◌-◌, List, [], length, take, drop, Some, None, Result, Ok, Err, if◌then◌else◌, nat_lt}
use Rattle.http_client.specs.declared.head.Version.{Version}
use Rattle.http_client.specs.declared.head.Framing.{Framing}
use Rattle.http_client.specs.declared.head.Framing.TheVariants.{Nothing, Chunked, Length, ToEnd, Refused}
use Rattle.http_client.specs.declared.reply.Reply.{Reply}
use Rattle.http_client.specs.declared.error.ReplyError.{ReplyError}
use Rattle.http_client.specs.declared.error.ReplyError.TheVariants.{Short, Bad, Coded, NoMemory}
use Rattle.http_client.specs.Frames.{Found, got, short, bad, Repeats}
use Rattle.http_client.specs.Heads.{HeaderField, HeadParts, HeadStep, framing_of, coding_of}
use Rattle.http_client.specs.Chunks.{ReadsChunked}

-- a reply, and the length of its bytes
pub record ReplyParts : Type 0 where
  pub version : Version
  pub code : ℕ
  pub headers : List HeaderField
  pub body : List ℕ
  pub used : ℕ

-- the body at the front of bytes, and the bytes behind it (RFC 9112, section 6.3)
abbrev pub ReadsBody : Framing → List ℕ → Found (List ℕ × List ℕ) → Type 0
ReadsBody Nothing bytes found = found ≡ got ([], bytes)
ReadsBody Chunked bytes found = ReadsChunked bytes found
ReadsBody (Length n) bytes found = found ≡ (if nat_lt (length bytes) n then short else got (take n bytes, drop n bytes))
ReadsBody ToEnd bytes found = found ≡ got (bytes, [])
ReadsBody Refused bytes found = found ≡ bad

-- the reply that a head and a body are, the first of so many bytes
abbrev pub with_body : ℕ → HeadParts → Found (List ℕ × List ℕ) → Found ReplyParts
with_body total head (got body) = got (record { version = head.version; code = head.code; headers = head.headers; body = body.0; used = total - length body.1 })
with_body total head short = short
with_body total head bad = bad

-- what is found behind the interim replies
abbrev pub ReadsFinal : ℕ → Found (HeadParts × List ℕ) → Found ReplyParts → Type 0
ReadsFinal total (got head) found =
    (body : Found (List ℕ × List ℕ)) × ReadsBody (framing_of head.0) head.1 body × (found ≡ with_body total head.0 body)
ReadsFinal total short found = found ≡ short
ReadsFinal total bad found = found ≡ bad

-- what bytes are as a reply
pub record ReadsReply (bytes : List ℕ) (found : Found ReplyParts) : Type 0 where
  pub interim : List HeadParts
  pub last : Found (HeadParts × List ℕ)
  pub heads : Repeats HeadStep bytes interim last
  pub final : ReadsFinal (length bytes) last found

abbrev pub parts_of : Reply → ReplyParts
parts_of r = record { version = r.version; code = r.code; headers = r.headers.items; body = r.body; used = r.used }

-- the answer says what bytes are; a reply under a content coding isn't taken
abbrev pub IsAnswer : List ℕ → Result Reply ReplyError → Type 0
IsAnswer bytes (Ok r) = ReadsReply bytes (got (parts_of r)) × (coding_of r.headers.items ≡ None)
IsAnswer bytes (Err Short) = ReadsReply bytes short
IsAnswer bytes (Err Bad) = ReadsReply bytes bad
IsAnswer bytes (Err (Coded coding)) = (r : ReplyParts) × ReadsReply bytes (got r) × (coding_of r.headers ≡ Some coding)
IsAnswer bytes (Err NoMemory) = Unit {0}

-- the answer is this reply, unless memory ran out
abbrev pub Gives : ReplyParts → Result Reply ReplyError → Type 0
Gives parts (Ok r) = parts_of r ≡ parts
Gives parts (Err e) = e ≡ NoMemory

-- the answer is this error, unless memory ran out
abbrev pub Refuses : ReplyError → Result Reply ReplyError → Type 0
Refuses error (Ok r) = ⊥
Refuses error (Err e) = (e ≡ error) ⊎ (e ≡ NoMemory)

-- what an error says, by what it says of bytes that are short and of bytes that are bad
abbrev pub OnRefusal : ReplyError → Type 0 → Type 0 → Type 0
OnRefusal Short cut refused = cut
OnRefusal Bad cut refused = refused
OnRefusal (Coded coding) cut refused = ⊥
OnRefusal NoMemory cut refused = Unit {0}

-- what a reader of a part answers, seen by view
abbrev pub Finds : {X A : Type 0} → (X → A) → Result X ReplyError → (Found A → Type 0) → Type 0
Finds view (Ok x) Reads = Reads (got (view x))
Finds view (Err e) Reads = OnRefusal e (Reads short) (Reads bad)
