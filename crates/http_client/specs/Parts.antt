-- What the readers of a reply's parts answer (this project's own).
use Rattle.std.specs.Prelude.{◌≡◌, ◌<◌, ◌≤◌, ℕ, List, length, take, map, Option, Some, None, Result, Ok, Err, IsUtf8}
use Rattle.httparse.specs.declared.spans.HeaderSpan.{HeaderSpan}
use Rattle.httparse.specs.declared.spans.ResponseSpans.{ResponseSpans}
use Rattle.httparse.specs.Grammar.{ResponseHead, ReadsResponse}
use Rattle.httparse.specs.Spans.{IsResponseAt, IsResponseWithin, span_bytes, header_bytes}
use Rattle.http_client.specs.declared.head.Head.{Head}
use Rattle.http_client.specs.declared.head.Place.{Place}
use Rattle.http_client.specs.declared.chunks.Piece.{Piece}
use Rattle.http_client.specs.declared.chunks.Piece.TheVariants.{Chunk, Last}
use Rattle.http_client.specs.declared.error.ReplyError.{ReplyError}
use Rattle.http_client.specs.declared.error.ReplyError.TheVariants.{Short, Bad, Coded, NoMemory}
use Rattle.http_client.specs.Frames.{empty_line_end, Found, got, short, bad, Step, onward, ended, Repeats}
use Rattle.http_client.specs.Heads.{HeadParts, version_of, ReadsHead, HeadStep}
use Rattle.http_client.specs.Replies.{OnRefusal}

abbrev pub head_parts : Head → HeadParts
head_parts h = record { version = h.version; code = h.code; headers = h.headers.items }

-- the name that a span covers is UTF-8
abbrev pub IsTextIn : List ℕ → HeaderSpan → Type 0
IsTextIn bytes span = IsUtf8 (span_bytes bytes span.name)

-- a head at the front of bytes, and the spans of its parts
pub record HasPart (part : List ℕ) (spans : List HeaderSpan) (found : ResponseSpans) : Type 0 where
  pub head : ResponseHead
  pub is_at : IsResponseAt part spans found head
  pub within : IsResponseWithin part spans found

-- the parts of a head, by their spans
abbrev pub spans_parts : List ℕ → List HeaderSpan → ResponseSpans → HeadParts
spans_parts part fields spans = record {
  version = version_of spans.version;
  code = spans.code;
  headers = map (header_bytes part) (take spans.headers fields);
}

-- a head of at most 100 fields at the front of bytes, in what goes up to and including their first empty line
pub record HasHeadAt (bytes : List ℕ) (fields : List HeaderSpan) (part : List ℕ) (spans : ResponseSpans) : Type 0 where
  pub end : ℕ
  pub end_is : empty_line_end bytes ≡ Some end
  pub part_is : part ≡ take end bytes
  pub room : length fields ≡ 100
  pub has : HasPart part fields spans

-- what looking for a head answers
abbrev pub FindsHead : List ℕ → List HeaderSpan → Result Place ReplyError → Type 0
FindsHead bytes fields (Ok found) = HasHeadAt bytes fields found.part.now found.spans
FindsHead bytes fields (Err e) = OnRefusal e (ReadsHead bytes short) (ReadsHead bytes bad)

-- the head at the front of bytes, if there is one whose fields fit
abbrev pub PartIs : List ℕ → ℕ → List HeaderSpan → Option ResponseSpans → Type 0
PartIs part room spans None = (head : ResponseHead) (over : List ℕ) → ReadsResponse part head over → length head.fields ≤ room → ⊥
PartIs part room spans (Some found) = HasPart part spans found

-- the head behind interim ones
abbrev pub ReadsLastHead : List ℕ → Found (HeadParts × List ℕ) → Type 0
ReadsLastHead bytes last = (interim : List HeadParts) × Repeats HeadStep bytes interim last

-- what reading a chunk answers
abbrev pub StepIs : Result Piece ReplyError → (Step (List ℕ) (Found (List ℕ)) → Type 0) → Type 0
StepIs (Ok (Chunk chunk behind)) Reads = Reads (onward chunk.now behind.now)
StepIs (Ok (Last behind)) Reads = Reads (ended (got behind.now))
StepIs (Err e) Reads = OnRefusal e (Reads (ended short)) (Reads (ended bad))

-- fewer bytes than this are left
abbrev pub LeavesBelow : ℕ → Result Piece ReplyError → Type 0
LeavesBelow most (Ok (Chunk chunk behind)) = length behind.now < most
LeavesBelow most (Ok (Last behind)) = length behind.now < most
LeavesBelow most (Err error) = Unit {0}

-- the refusal of a coding, unless memory ran out
abbrev pub IsCoded : List ℕ → ReplyError → Type 0
IsCoded coding Short = ⊥
IsCoded coding Bad = ⊥
IsCoded coding (Coded told) = told ≡ coding
IsCoded coding NoMemory = Unit {0}
