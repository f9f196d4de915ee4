-- The head of a reply, and what it says of the body (RFC 9112, sections 4 to 6; RFC 9110, sections 8.4, 8.6 and 15).
use Rattle.std.specs.Prelude.{◌≡◌, ℕ, ◌≤◌, Bool, ◌&&◌, ◌||◌, not, List, [], ◌∷◌, ◌++◌, length, take, drop, map, Option, Some, None, codes, if◌then◌else◌, ◌==◌, nat_lt, nat_le}
use Rattle.std.specs.List.{list_all}
use Rattle.std.specs.Char.{is_ascii_digit}
use Rattle.std.specs.Str.{bytes_eq, is_utf8, str_eq_ignore_ascii_case}
use Rattle.std.specs.Str.Parse.{digits_value}
use Rattle.httparse.specs.Grammar.{ResponseHead, ReadsResponse, status_code}
use Rattle.httparse.specs.Spans.{name_and_value}
use Rattle.http_client.specs.declared.head.Version.{Version}
use Rattle.http_client.specs.declared.head.Version.TheVariants.{Http10, Http11}
use Rattle.http_client.specs.declared.head.Framing.{Framing}
use Rattle.http_client.specs.declared.head.Framing.TheVariants.{Nothing, Chunked, Length, ToEnd, Refused}
use Rattle.http_client.specs.Frames.{empty_line_end, Found, got, short, bad, Step, onward, ended}

-- a field of a head: its name, and its value without white space around it
abbrev pub HeaderField : Type 0
HeaderField = List ℕ × List ℕ

-- what a head tells
pub record HeadParts : Type 0 where
  pub version : Version
  pub code : ℕ
  pub headers : List HeaderField

-- HTTP/1.0 or HTTP/1.1, by the minor number (RFC 9112, section 2.3)
abbrev pub version_of : ℕ → Version
version_of minor = if minor == 0 then Http10 else Http11

abbrev pub parts_of_head : ResponseHead → HeadParts
parts_of_head h = record { version = version_of h.minor; code = status_code h; headers = map name_and_value h.fields }

-- bytes have this head, of at most 100 fields, in what goes up to and including their first empty line
pub record HasHead (bytes : List ℕ) (parts : HeadParts) (behind : List ℕ) : Type 0 where
  pub end : ℕ
  pub end_is : empty_line_end bytes ≡ Some end
  pub head : ResponseHead
  pub over : List ℕ
  pub reads : ReadsResponse (take end bytes) head over
  pub room : length head.fields ≤ 100
  pub parts_are : parts ≡ parts_of_head head
  pub behind_is : behind ≡ over ++ drop end bytes

-- what goes up to and including their first empty line doesn't begin with such a head
pub record HasNoHead (bytes : List ℕ) : Type 0 where
  pub end : ℕ
  pub end_is : empty_line_end bytes ≡ Some end
  pub none : (head : ResponseHead) (over : List ℕ) → ReadsResponse (take end bytes) head over → length head.fields ≤ 100 → ⊥

-- looking for a head
abbrev pub ReadsHead : List ℕ → Found (HeadParts × List ℕ) → Type 0
ReadsHead bytes (got found) = HasHead bytes found.0 found.1
ReadsHead bytes short = empty_line_end bytes ≡ None
ReadsHead bytes bad = HasNoHead bytes

-- an interim reply, which another one follows; 101 would change the protocol
abbrev pub is_interim : ℕ → Bool
is_interim code = nat_le 100 code && nat_lt code 200 && not (code == 101)

-- interim heads are passed over
abbrev pub head_step : Found (HeadParts × List ℕ) → Step HeadParts (Found (HeadParts × List ℕ))
head_step (got found) = if is_interim found.0.code then onward found.0 found.1 else ended (got found)
head_step short = ended short
head_step bad = ended bad

abbrev pub HeadStep : List ℕ → Step HeadParts (Found (HeadParts × List ℕ)) → Type 0
HeadStep bytes s = (found : Found (HeadParts × List ℕ)) × ReadsHead bytes found × (s ≡ head_step found)

-- the values of the fields of a name, in any ASCII case, in order
abbrev pub values_of : List ℕ → List HeaderField → List (List ℕ)
values_of name [] = []
values_of name (h ∷ hs) = if str_eq_ignore_ascii_case h.0 name then h.1 ∷ values_of name hs else values_of name hs

-- the length that Content-Length tells by 1 to 18 decimal digits
abbrev pub is_length : List ℕ → Bool
is_length value = nat_le 1 (length value) && nat_le (length value) 18 && list_all is_ascii_digit value

-- by all its values, which must be equal
abbrev pub length_framing : List (List ℕ) → Framing
length_framing [] = ToEnd
length_framing (v ∷ vs) = if list_all (bytes_eq v) vs && is_length v then Length (digits_value 10 v) else Refused

-- by the values of Transfer-Encoding, of which there is one, and by those of Content-Length only without it
abbrev pub coded_framing : List (List ℕ) → List HeaderField → Framing
coded_framing [] headers = length_framing (values_of (codes "Content-Length") headers)
coded_framing (v ∷ []) headers = if str_eq_ignore_ascii_case v (codes "chunked") then Chunked else Refused
coded_framing (v ∷ w ∷ vs) headers = Refused

-- the content codings that a reply names
abbrev pub codings_of : List HeaderField → List (List ℕ)
codings_of headers = values_of (codes "Content-Encoding") headers

-- how the end of the body is told
abbrev pub framing_of : HeadParts → Framing
framing_of h =
    if nat_lt h.code 100 || h.code == 101 then Refused
    else if not (list_all is_utf8 (codings_of h.headers)) then Refused
    else if h.code == 204 || h.code == 304 then Nothing
    else coded_framing (values_of (codes "Transfer-Encoding") h.headers) h.headers

-- the first content coding that isn't `identity`
abbrev pub first_coding : List (List ℕ) → Option (List ℕ)
first_coding [] = None
first_coding (v ∷ vs) = if str_eq_ignore_ascii_case v (codes "identity") then first_coding vs else Some v

abbrev pub coding_of : List HeaderField → Option (List ℕ)
coding_of headers = first_coding (codings_of headers)
