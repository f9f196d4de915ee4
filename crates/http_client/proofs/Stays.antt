-- Bytes that are bad stay so whatever follows: lemmas on specs/Replies.antt and what it stands on
use Rattle.std.proofs.Common.{◌≡◌, refl, ℕ, ◌+◌, ◌≤◌, List, [], ◌∷◌, ◌++◌, Option, Some, None, Bool, true, false, cond, length, take, drop, eqb, ltb, ◌-◌, sym, ◌∙◌, ap, subst, append_assoc, length-append, arith}
use Rattle.std.specs.Option.{option_map, option_or}
use Rattle.std.specs.List.{concat}
use Rattle.std.proofs.lemmas.Bool.{cond-false, ltb-false, le-ltb}
use Rattle.std.proofs.lemmas.List.{take-append-le, drop-append-le}
use Rattle.httparse.specs.Grammar.{NeverHasChunkLine, HasNoChunkLine}
use Rattle.httparse.proofs.ChunkLemmas.{ReadsChunkLine-append}
use Rattle.http_client.specs.declared.head.Framing.{Framing}
use Rattle.http_client.specs.declared.head.Framing.TheVariants.{Nothing, Chunked, Length, ToEnd, Refused}
use Rattle.http_client.specs.Frames.{len_after_cr, line_end_len, empty_line_end, Found, got, short, bad, Step, onward, ended, Repeats}
use Rattle.http_client.specs.Heads.{HeadParts, HasHead, HasNoHead, ReadsHead, is_interim, head_step, HeadStep, framing_of}
use Rattle.http_client.specs.Chunks.{ReadsSize, step_after_cr, step_after_data, behind_trailer, trailer_len, chunk_of_size, chunk_step, ChunkStep, body_of_chunks, ReadsChunked}
use Rattle.http_client.specs.Replies.{ReadsBody, with_body, ReadsFinal, ReadsReply}

end_known : (p q : Bool) (x : Option ℕ) (n : ℕ) → cond p (Some 1) (cond q None None) ≡ Some n → cond p (Some 1) (cond q x None) ≡ Some n
end_known true q x n h = h
end_known false true x n h = cc
end_known false false x n h = h

line_end_len-append : (bytes more : List ℕ) (n : ℕ) → line_end_len bytes ≡ Some n → line_end_len (bytes ++ more) ≡ Some n
line_end_len-append [] more n h = cc
line_end_len-append (b ∷ []) more n h = end_known (eqb b 10) (eqb b 13) (len_after_cr more) n h
line_end_len-append (b ∷ c ∷ rest) more n h = h

no_line : (p : Bool) (n : ℕ) → option_map (λ m. m + 1) (option_or (cond p None None) None) ≡ Some n → ⊥
no_line true n h = cc
no_line false n h = cc

-- where an empty line stands further on, it is settled whether a line end stands at the front
settled : (bytes more : List ℕ) (n : ℕ) → empty_line_end bytes ≡ Some n → line_end_len (bytes ++ more) ≡ line_end_len bytes
settled [] more n h = cc
settled (b ∷ []) more n h = absurd (no_line (eqb b 10) n h)
settled (b ∷ c ∷ rest) more n h = refl

abbrev first_end : Bool → Option ℕ → Option ℕ → Option ℕ
first_end p x y = option_map (λ m. m + 1) (option_or (cond p x None) y)

kept : (p : Bool) (x y u v : Option ℕ) (n : ℕ) → ((k : ℕ) → x ≡ Some k → u ≡ Some k) → ((k : ℕ) → y ≡ Some k → (v ≡ Some k) × (u ≡ x))
    → first_end p x y ≡ Some n → first_end p u v ≡ Some n
kept true (Some k) y u v n front behind h = ap (λ o. first_end true o v) (front k refl) ∙ h
kept true None (Some k) u v n front behind h =
    let both = behind k refl in
    ap (λ o. first_end true o v) both.1 ∙ ap (λ o. first_end true None o) both.0 ∙ h
kept true None None u v n front behind h = cc
kept false x (Some k) u v n front behind h = ap (λ o. first_end false u o) (behind k refl).0 ∙ h
kept false x None u v n front behind h = cc

pub empty_line_end-append : (bytes more : List ℕ) (n : ℕ) → empty_line_end bytes ≡ Some n → empty_line_end (bytes ++ more) ≡ Some n
empty_line_end-append [] more n h = cc
empty_line_end-append (b ∷ rest) more n h =
    kept (eqb b 10) (line_end_len rest) (empty_line_end rest) (line_end_len (rest ++ more)) (empty_line_end (rest ++ more)) n
    (λ k. line_end_len-append rest more k)
    (λ k e. (empty_line_end-append rest more k e, settled rest more k e))
    h

end_small : (p q r : Bool) (n : ℕ) → cond p (Some 1) (cond q (cond r (Some 2) None) None) ≡ Some n → n ≤ 2
end_small true q r n h = let some : Some 1 ≡ Some n = h in let one : 1 ≡ n = cc in omega arith
end_small false true true n h = let some : Some 2 ≡ Some n = h in let two : 2 ≡ n = cc in omega arith
end_small false true false n h = let clash : None ≡ Some n = h in cc
end_small false false r n h = let clash : None ≡ Some n = h in cc

end_one : (p q : Bool) (n : ℕ) → cond p (Some 1) (cond q None None) ≡ Some n → n ≤ 1
end_one true q n h = let some : Some 1 ≡ Some n = h in let one : 1 ≡ n = cc in omega arith
end_one false true n h = let clash : None ≡ Some n = h in cc
end_one false false n h = let clash : None ≡ Some n = h in cc

line_end_len-le : (bytes : List ℕ) (n : ℕ) → line_end_len bytes ≡ Some n → n ≤ length bytes
line_end_len-le [] n h = cc
line_end_len-le (b ∷ []) n h = end_one (eqb b 10) (eqb b 13) n h
line_end_len-le (b ∷ c ∷ rest) n h = let small = end_small (eqb b 10) (eqb b 13) (eqb c 10) n h in omega arith

first_end-le : (p : Bool) (x y : Option ℕ) (most n : ℕ) → ((k : ℕ) → x ≡ Some k → k ≤ most) → ((k : ℕ) → y ≡ Some k → k ≤ most)
    → first_end p x y ≡ Some n → n ≤ most + 1
first_end-le true (Some k) y most n front behind h =
    let some : Some (k + 1) ≡ Some n = h in let same : k + 1 ≡ n = cc in let le = front k refl in omega arith
first_end-le true None (Some k) most n front behind h =
    let some : Some (k + 1) ≡ Some n = h in let same : k + 1 ≡ n = cc in let le = behind k refl in omega arith
first_end-le true None None most n front behind h = let clash : None ≡ Some n = h in cc
first_end-le false x (Some k) most n front behind h =
    let some : Some (k + 1) ≡ Some n = h in let same : k + 1 ≡ n = cc in let le = behind k refl in omega arith
first_end-le false x None most n front behind h = let clash : None ≡ Some n = h in cc

pub empty_line_end-le : (bytes : List ℕ) (n : ℕ) → empty_line_end bytes ≡ Some n → n ≤ length bytes
empty_line_end-le [] n h = cc
empty_line_end-le (b ∷ rest) n h =
    let le = first_end-le (eqb b 10) (line_end_len rest) (empty_line_end rest) (length rest) n (line_end_len-le rest) (empty_line_end-le rest) h in
    omega arith

pub HasHead-append : (bytes more : List ℕ) (h : HeadParts) (behind : List ℕ) → HasHead bytes h behind → HasHead (bytes ++ more) h (behind ++ more)
HasHead-append bytes more h behind x =
    let fits = empty_line_end-le bytes x.end x.end_is in
    record {
      end = x.end;
      end_is = empty_line_end-append bytes more x.end x.end_is;
      head = x.head;
      over = x.over;
      reads = rw (take-append-le x.end bytes more fits) x.reads;
      room = x.room;
      parts_are = x.parts_are;
      behind_is =
          ap (λ bs. bs ++ more) x.behind_is ∙ append_assoc x.over (drop x.end bytes) more
          ∙ ap (λ bs. x.over ++ bs) (sym (drop-append-le x.end bytes more fits));
    }

pub HasNoHead-append : (bytes more : List ℕ) → HasNoHead bytes → HasNoHead (bytes ++ more)
HasNoHead-append bytes more x =
    let fits = empty_line_end-le bytes x.end x.end_is in
    record {
      end = x.end;
      end_is = empty_line_end-append bytes more x.end x.end_is;
      none = rw (take-append-le x.end bytes more fits) x.none;
    }

-- the bytes behind what a step found, with more behind them
abbrev with_more : {A : Type 0} → List ℕ → Step A (Found (A × List ℕ)) → Step A (Found (A × List ℕ))
with_more more (onward a behind) = onward a (behind ++ more)
with_more more (ended (got p)) = ended (got (p.0, p.1 ++ more))
with_more more (ended short) = ended short
with_more more (ended bad) = ended bad

stepped : (b : Bool) (p : HeadParts × List ℕ) (more : List ℕ) (s : Step HeadParts (Found (HeadParts × List ℕ)))
    → s ≡ cond b (onward p.0 p.1) (ended (got p)) → with_more more s ≡ cond b (onward p.0 (p.1 ++ more)) (ended (got (p.0, p.1 ++ more)))
stepped true p more s e = ap (with_more more) e
stepped false p more s e = ap (with_more more) e

head_onward : (bytes more : List ℕ) (a : HeadParts) (behind : List ℕ) (found : Found (HeadParts × List ℕ)) → ReadsHead bytes found
    → onward a behind ≡ head_step found → HeadStep (bytes ++ more) (onward a (behind ++ more))
head_onward bytes more a behind (got p) h e =
    (got (p.0, p.1 ++ more), HasHead-append bytes more p.0 p.1 h, stepped (is_interim p.0.code) p more (onward a behind) e)
head_onward bytes more a behind short h e = let clash : onward a behind ≡ ended short = e in cc
head_onward bytes more a behind bad h e = let clash : onward a behind ≡ ended bad = e in cc

HeadStep-onward : (bytes more : List ℕ) (a : HeadParts) (behind : List ℕ) → HeadStep bytes (onward a behind) → HeadStep (bytes ++ more) (onward a (behind ++ more))
HeadStep-onward bytes more a behind x = head_onward bytes more a behind x.0 x.1 x.2

head_got : (bytes more : List ℕ) (q : HeadParts × List ℕ) (found : Found (HeadParts × List ℕ)) → ReadsHead bytes found
    → ended (got q) ≡ head_step found → HeadStep (bytes ++ more) (ended (got (q.0, q.1 ++ more)))
head_got bytes more q (got p) h e =
    (got (p.0, p.1 ++ more), HasHead-append bytes more p.0 p.1 h, stepped (is_interim p.0.code) p more (ended (got q)) e)
head_got bytes more q short h e = let clash : ended (got q) ≡ ended short = e in cc
head_got bytes more q bad h e = let clash : ended (got q) ≡ ended bad = e in cc

HeadStep-got : (bytes more : List ℕ) (q : HeadParts × List ℕ) → HeadStep bytes (ended (got q)) → HeadStep (bytes ++ more) (ended (got (q.0, q.1 ++ more)))
HeadStep-got bytes more q x = head_got bytes more q x.0 x.1 x.2

not_bad : (b : Bool) (p : HeadParts × List ℕ) → ended bad ≡ cond b (onward p.0 p.1) (ended (got p)) → ⊥
not_bad true p e = let clash : ended bad ≡ onward p.0 p.1 = e in cc
not_bad false p e = let clash : ended bad ≡ ended (got p) = e in cc

head_bad : (bytes more : List ℕ) (found : Found (HeadParts × List ℕ)) → ReadsHead bytes found
    → ended bad ≡ head_step found → HeadStep (bytes ++ more) (ended bad)
head_bad bytes more (got p) h e = absurd (not_bad (is_interim p.0.code) p e)
head_bad bytes more short h e = let clash : ended bad ≡ ended short = e in cc
head_bad bytes more bad h e = (bad, HasNoHead-append bytes more h, refl)

HeadStep-bad : (bytes more : List ℕ) → HeadStep bytes (ended bad) → HeadStep (bytes ++ more) (ended bad)
HeadStep-bad bytes more x = head_bad bytes more x.0 x.1 x.2

Repeats-append : {A B : Type 0} (Reads : List ℕ → Step A B → Type 0) (more : List ℕ) (b d : B)
    → ((bytes : List ℕ) (a : A) (behind : List ℕ) → Reads bytes (onward a behind) → Reads (bytes ++ more) (onward a (behind ++ more)))
    → ((bytes : List ℕ) → Reads bytes (ended b) → Reads (bytes ++ more) (ended d))
    → (bytes : List ℕ) (xs : List A) → Repeats Reads bytes xs b → Repeats Reads (bytes ++ more) xs d
Repeats-append Reads more b d on end bytes [] h = end bytes h
Repeats-append Reads more b d on end bytes (a ∷ xs) h = (h.0 ++ more, on bytes a h.0 h.1, Repeats-append Reads more b d on end h.0 xs h.2)

abbrev Chunking : Type 0
Chunking = Step (List ℕ) (Found (List ℕ))

-- a step of the chunked body that goes on, with more bytes behind it
abbrev longer : List ℕ → Chunking → Chunking
longer more (onward chunk behind) = onward chunk (behind ++ more)
longer more (ended found) = ended found

abbrev pick : Bool → Chunking → Chunking → Chunking
pick b x y = cond b x y

no_chunk : (p : Bool) (a : List ℕ) (d behind : List ℕ) → pick p (ended short) (ended bad) ≡ onward d behind → ⊥
no_chunk true a d behind e = let clash : ended short ≡ onward d behind = e in cc
no_chunk false a d behind e = let clash : ended bad ≡ onward d behind = e in cc

chunk_stays : (p q : Bool) (c rest more d behind : List ℕ)
    → pick p (pick q (onward c rest) (ended bad)) (ended bad) ≡ onward d behind
    → pick p (pick q (onward c (rest ++ more)) (ended bad)) (ended bad) ≡ onward d (behind ++ more)
chunk_stays true true c rest more d behind e = ap (longer more) e
chunk_stays true false c rest more d behind e = let clash : ended bad ≡ onward d behind = e in cc
chunk_stays false q c rest more d behind e = let clash : ended bad ≡ onward d behind = e in cc

data_onward : (c bytes more d behind : List ℕ) → step_after_data c bytes ≡ onward d behind → step_after_data c (bytes ++ more) ≡ onward d (behind ++ more)
data_onward c [] more d behind e = let clash : ended short ≡ onward d behind = e in cc
data_onward c (x ∷ []) more d behind e = absurd (no_chunk (eqb x 13) c d behind e)
data_onward c (x ∷ y ∷ rest) more d behind e = chunk_stays (eqb x 13) (eqb y 10) c rest more d behind e

bad_at_one : (p : Bool) (s : Chunking) → pick p (ended short) (ended bad) ≡ ended bad → pick p s (ended bad) ≡ ended bad
bad_at_one true s e = let clash : ended short ≡ ended bad = e in cc
bad_at_one false s e = refl

bad_at_two : (p q : Bool) (c rest other : List ℕ) → pick p (pick q (onward c rest) (ended bad)) (ended bad) ≡ ended bad
    → pick p (pick q (onward c other) (ended bad)) (ended bad) ≡ ended bad
bad_at_two true true c rest other e = let clash : onward c rest ≡ ended bad = e in cc
bad_at_two true false c rest other e = refl
bad_at_two false q c rest other e = refl

data_bad : (c bytes more : List ℕ) → step_after_data c bytes ≡ ended bad → step_after_data c (bytes ++ more) ≡ ended bad
data_bad c [] more e = let clash : ended short ≡ ended bad = e in cc
data_bad c (x ∷ []) more e = bad_at_one (eqb x 13) (step_after_cr c more) e
data_bad c (x ∷ y ∷ rest) more e = bad_at_two (eqb x 13) (eqb y 10) c rest (rest ++ more) e

has_onward : (p q : Bool) (o : Option ℕ) (bytes : List ℕ) (after : Chunking) (d behind : List ℕ)
    → cond p (ended (behind_trailer bytes o)) (cond q (ended short) after) ≡ onward d behind
    → (p ≡ false) × (q ≡ false) × (after ≡ onward d behind)
has_onward true q None bytes after d behind e = let clash : ended short ≡ onward d behind = e in cc
has_onward true q (Some n) bytes after d behind e = let clash : ended (got (drop n bytes)) ≡ onward d behind = e in cc
has_onward false true o bytes after d behind e = let clash : ended short ≡ onward d behind = e in cc
has_onward false false o bytes after d behind e = (refl, refl, e)

has_bad : (p q : Bool) (o : Option ℕ) (bytes : List ℕ) (after : Chunking)
    → cond p (ended (behind_trailer bytes o)) (cond q (ended short) after) ≡ ended bad
    → (p ≡ false) × (q ≡ false) × (after ≡ ended bad)
has_bad true q None bytes after e = let clash : ended short ≡ ended bad = e in cc
has_bad true q (Some n) bytes after e = let clash : ended (got (drop n bytes)) ≡ ended bad = e in cc
has_bad false true o bytes after e = let clash : ended short ≡ ended bad = e in cc
has_bad false false o bytes after e = (refl, refl, e)

-- with more bytes behind it the data is still whole
sized : (size : ℕ) (bytes more : List ℕ) (s : Chunking) → eqb size 0 ≡ false → ltb (length bytes) size ≡ false
    → step_after_data (take size bytes) (drop size bytes ++ more) ≡ s → chunk_of_size size (bytes ++ more) ≡ s
sized size bytes more s some whole is =
    let fits : size ≤ length bytes = ltb-false (length bytes) size whole in
    let longer : length (bytes ++ more) ≡ length bytes + length more = length-append bytes more in
    let most : size ≤ length (bytes ++ more) = omega arith in
    cond-false (eqb size 0) _ _ some
    ∙ cond-false (ltb (length (bytes ++ more)) size) _ _ (le-ltb _ _ most)
    ∙ ap (λ front. step_after_data front (drop size (bytes ++ more))) (take-append-le size bytes more fits)
    ∙ ap (λ rest. step_after_data (take size bytes) rest) (drop-append-le size bytes more fits)
    ∙ is

size_onward : (size : ℕ) (bytes more d behind : List ℕ) → chunk_of_size size bytes ≡ onward d behind
    → chunk_of_size size (bytes ++ more) ≡ onward d (behind ++ more)
size_onward size bytes more d behind e =
    let parts = has_onward (eqb size 0) (ltb (length bytes) size) (trailer_len bytes) bytes (step_after_data (take size bytes) (drop size bytes)) d behind e in
    sized size bytes more _ parts.0 parts.1 (data_onward (take size bytes) (drop size bytes) more d behind parts.2)

size_bad : (size : ℕ) (bytes more : List ℕ) → chunk_of_size size bytes ≡ ended bad → chunk_of_size size (bytes ++ more) ≡ ended bad
size_bad size bytes more e =
    let parts = has_bad (eqb size 0) (ltb (length bytes) size) (trailer_len bytes) bytes (step_after_data (take size bytes) (drop size bytes)) e in
    sized size bytes more _ parts.0 parts.1 (data_bad (take size bytes) (drop size bytes) more parts.2)

never_append : (bytes more : List ℕ) → NeverHasChunkLine bytes → NeverHasChunkLine (bytes ++ more)
never_append bytes more never further = subst HasNoChunkLine (sym (append_assoc bytes more further)) (never (more ++ further))

chunk_onward : (bytes more d behind : List ℕ) (found : Found (ℕ × List ℕ)) → ReadsSize bytes found → onward d behind ≡ chunk_step found
    → ChunkStep (bytes ++ more) (onward d (behind ++ more))
chunk_onward bytes more d behind (got p) x e =
    (got (p.0, p.1 ++ more), (x.0, ReadsChunkLine-append bytes x.0 p.1 more x.1, x.2), sym (size_onward p.0 p.1 more d behind (sym e)))
chunk_onward bytes more d behind short x e = let clash : onward d behind ≡ ended short = e in cc
chunk_onward bytes more d behind bad x e = let clash : onward d behind ≡ ended bad = e in cc

ChunkStep-onward : (bytes : List ℕ) (more d behind : List ℕ) → ChunkStep bytes (onward d behind) → ChunkStep (bytes ++ more) (onward d (behind ++ more))
ChunkStep-onward bytes more d behind x = chunk_onward bytes more d behind x.0 x.1 x.2

chunk_bad : (bytes more : List ℕ) (found : Found (ℕ × List ℕ)) → ReadsSize bytes found → ended bad ≡ chunk_step found
    → ChunkStep (bytes ++ more) (ended bad)
chunk_bad bytes more (got p) x e =
    (got (p.0, p.1 ++ more), (x.0, ReadsChunkLine-append bytes x.0 p.1 more x.1, x.2), sym (size_bad p.0 p.1 more (sym e)))
chunk_bad bytes more short x e = let clash : ended bad ≡ ended short = e in cc
chunk_bad bytes more bad x e = (bad, never_append bytes more x, refl)

ChunkStep-bad : (bytes more : List ℕ) → ChunkStep bytes (ended bad) → ChunkStep (bytes ++ more) (ended bad)
ChunkStep-bad bytes more x = chunk_bad bytes more x.0 x.1 x.2

not_got : {A : Type 0} (x : A) → bad ≡ got x → ⊥
not_got x h = cc

chunks_bad : (bytes more : List ℕ) (chunks : List (List ℕ)) (end : Found (List ℕ)) → Repeats ChunkStep bytes chunks end
    → bad ≡ body_of_chunks chunks end → ReadsChunked (bytes ++ more) bad
chunks_bad bytes more chunks (got behind) x e = absurd (not_got (concat chunks, behind) e)
chunks_bad bytes more chunks short x e = let clash : bad ≡ short = e in cc
chunks_bad bytes more chunks bad x e = record {
  chunks = chunks;
  end = bad;
  steps = Repeats-append ChunkStep more bad bad (λ bs. ChunkStep-onward bs more) (λ bs. ChunkStep-bad bs more) bytes chunks x;
  found_is = refl;
}

length_bad : (b : Bool) (body : List ℕ × List ℕ) → bad ≡ cond b short (got body) → ⊥
length_bad true body e = let clash : bad ≡ short = e in cc
length_bad false body e = let clash : bad ≡ got body = e in cc

body_bad : (framing : Framing) (bytes more : List ℕ) → ReadsBody framing bytes bad → ReadsBody framing (bytes ++ more) bad
body_bad Nothing bytes more x = absurd (not_got ([], bytes) x)
body_bad Chunked bytes more x = chunks_bad bytes more x.chunks x.end x.steps x.found_is
body_bad (Length n) bytes more x = absurd (length_bad (ltb (length bytes) n) (take n bytes, drop n bytes) x)
body_bad ToEnd bytes more x = absurd (not_got (bytes, []) x)
body_bad Refused bytes more x = refl

reply_bad : (bytes more : List ℕ) (interim : List HeadParts) (head : HeadParts × List ℕ) (body : Found (List ℕ × List ℕ))
    → Repeats HeadStep bytes interim (got head) → ReadsBody (framing_of head.0) head.1 body → bad ≡ with_body (length bytes) head.0 body
    → ReadsReply (bytes ++ more) bad
reply_bad bytes more interim head (got b) x y e =
    absurd (not_got (record { version = head.0.version; code = head.0.code; headers = head.0.headers; body = b.0; used = length bytes - length b.1 }) e)
reply_bad bytes more interim head short x y e = let clash : bad ≡ short = e in cc
reply_bad bytes more interim head bad x y e = record {
  interim = interim;
  last = got (head.0, head.1 ++ more);
  heads = Repeats-append HeadStep more (got head) (got (head.0, head.1 ++ more)) (λ bs. HeadStep-onward bs more) (λ bs. HeadStep-got bs more head) bytes interim x;
  final = (bad, body_bad (framing_of head.0) head.1 more y, refl);
}

final_bad : (bytes more : List ℕ) (interim : List HeadParts) (last : Found (HeadParts × List ℕ)) → Repeats HeadStep bytes interim last
    → ReadsFinal (length bytes) last bad → ReadsReply (bytes ++ more) bad
final_bad bytes more interim (got head) x y = reply_bad bytes more interim head y.0 x y.1 y.2
final_bad bytes more interim short x y = let clash : bad ≡ short = y in cc
final_bad bytes more interim bad x y = record {
  interim = interim;
  last = bad;
  heads = Repeats-append HeadStep more bad bad (λ bs. HeadStep-onward bs more) (λ bs. HeadStep-bad bs more) bytes interim x;
  final = refl;
}

pub bad_stays : (bytes more : List ℕ) → ReadsReply bytes bad → ReadsReply (bytes ++ more) bad
bad_stays bytes more x = final_bad bytes more x.interim x.last x.heads x.final
