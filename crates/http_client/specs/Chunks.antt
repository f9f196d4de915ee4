-- The chunked body (RFC 9112, section 7.1).
use Rattle.std.specs.Prelude.{◌≡◌, ℕ, List, [], ◌∷◌, length, take, drop, Option, Some, None, if◌then◌else◌, ◌==◌, nat_lt}
use Rattle.std.specs.List.{concat}
use Rattle.std.specs.Option.{option_or}
use Rattle.httparse.specs.Ascii.{line_feed, carriage_return}
use Rattle.httparse.specs.Grammar.{ChunkLine, chunk_size, ReadsChunkLine, HasNoChunkLine, NeverHasChunkLine, MayBecomeChunkLine}
use Rattle.http_client.specs.Frames.{line_end_len, empty_line_end, Found, got, short, bad, Step, onward, ended, Repeats}

-- a size line of httparse's grammar: the size, and the bytes behind the line
abbrev pub ReadsSize : List ℕ → Found (ℕ × List ℕ) → Type 0
ReadsSize bytes (got found) = (l : ChunkLine) × ReadsChunkLine bytes l found.1 × (found.0 ≡ chunk_size l)
ReadsSize bytes short = HasNoChunkLine bytes × MayBecomeChunkLine bytes
ReadsSize bytes bad = NeverHasChunkLine bytes

-- behind a chunk's data stands CR LF
abbrev pub step_after_cr : List ℕ → List ℕ → Step (List ℕ) (Found (List ℕ))
step_after_cr chunk [] = ended short
step_after_cr chunk (c ∷ behind) = if c == line_feed then onward chunk behind else ended bad

abbrev pub step_after_data : List ℕ → List ℕ → Step (List ℕ) (Found (List ℕ))
step_after_data chunk [] = ended short
step_after_data chunk (b ∷ rest) = if b == carriage_return then step_after_cr chunk rest else ended bad

-- the bytes behind the last chunk: a line end ends the reply, and else what goes up to the first empty line
abbrev pub trailer_len : List ℕ → Option ℕ
trailer_len bytes = option_or (line_end_len bytes) (empty_line_end bytes)

abbrev pub behind_trailer : List ℕ → Option ℕ → Found (List ℕ)
behind_trailer bytes None = short
behind_trailer bytes (Some n) = got (drop n bytes)

-- behind a size line: a size of 0 is that of the last chunk
abbrev pub chunk_of_size : ℕ → List ℕ → Step (List ℕ) (Found (List ℕ))
chunk_of_size size bytes =
    if size == 0 then ended (behind_trailer bytes (trailer_len bytes))
    else if nat_lt (length bytes) size then ended short
    else step_after_data (take size bytes) (drop size bytes)

abbrev pub chunk_step : Found (ℕ × List ℕ) → Step (List ℕ) (Found (List ℕ))
chunk_step (got found) = chunk_of_size found.0 found.1
chunk_step short = ended short
chunk_step bad = ended bad

abbrev pub ChunkStep : List ℕ → Step (List ℕ) (Found (List ℕ)) → Type 0
ChunkStep bytes s = (found : Found (ℕ × List ℕ)) × ReadsSize bytes found × (s ≡ chunk_step found)

-- the body is the data of all chunks
abbrev pub body_of_chunks : List (List ℕ) → Found (List ℕ) → Found (List ℕ × List ℕ)
body_of_chunks chunks (got behind) = got (concat chunks, behind)
body_of_chunks chunks short = short
body_of_chunks chunks bad = bad

-- the body and the bytes behind it
pub record ReadsChunked (bytes : List ℕ) (found : Found (List ℕ × List ℕ)) : Type 0 where
  pub chunks : List (List ℕ)
  pub end : Found (List ℕ)
  pub steps : Repeats ChunkStep bytes chunks end
  pub found_is : found ≡ body_of_chunks chunks end
