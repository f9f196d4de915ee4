-- Lemmas on what is left behind a head, a size line or a chunk, of specs/Heads.antt and specs/Chunks.antt
use Rattle.std.proofs.Common.{◌≡◌, refl, ℕ, ◌+◌, ◌-◌, ◌<◌, ◌≤◌, List, [], ◌∷◌, ◌++◌, Option, Some, true, false, length, take, drop, map, sym, ◌∙◌, ap, subst, append_assoc, length-append, length-drop, arith}
use Rattle.std.specs.List.{concat, All}
use Rattle.std.specs.Str.{IsUtf8}
use Rattle.std.proofs.lemmas.Bool.{cond-true, cond-false}
use Rattle.std.proofs.lemmas.Bool.Decides.{nat_tests}
use Rattle.std.proofs.lemmas.List.{append-nil, take_rest, length-take, length-map, take-append-drop, drop-append-le}
use Rattle.std.proofs.lemmas.List.Elements.{All-nil, All-cons, All-head, All-tail, All-same, All-map, All-weaker}
use Rattle.std.proofs.lemmas.Str.{IsUtf8-from_ascii}
use Rattle.std.proofs.lemmas.Str.Ascii.{IsAscii-from_all}
use Rattle.httparse.specs.Grammar.{is_token_byte, Field, IsField, ResponseHead, print_response, ChunkLine, print_chunk_line, IsChunkLine}
use Rattle.httparse.specs.Spans.{header_bytes, name_and_value, IsChunkLineAt}
use Rattle.httparse.specs.declared.spans.HeaderSpan.{HeaderSpan}
use Rattle.httparse.specs.declared.spans.ResponseSpans.{ResponseSpans}
use Rattle.http_client.specs.Frames.{empty_line_end, Found, got, Step, onward, ended}
use Rattle.http_client.specs.declared.head.Version.{Version}
use Rattle.http_client.specs.Heads.{HeaderField, HeadParts, version_of, parts_of_head, HasHead, is_interim, HeadStep}
use Rattle.http_client.specs.Chunks.{trailer_len, behind_trailer, chunk_of_size}
use Rattle.http_client.specs.Parts.{HasPart, HasHeadAt, spans_parts, ReadsLastHead, IsTextIn}
use Rattle.http_client.proofs.Walks.{Leads, Leads-more, Leads-end}

pub concat-push : (xs : List (List ℕ)) (x : List ℕ) → concat (xs ++ x ∷ []) ≡ concat xs ++ x
concat-push [] x = append-nil x
concat-push (y ∷ ys) x = ap (λ rest. y ++ rest) (concat-push ys x) ∙ sym (append_assoc y (concat ys) x)

pub rest_shorter : (bytes : List ℕ) (n : ℕ) → 0 < n → n ≤ length bytes → length (take (length bytes - n) (drop n bytes)) < length bytes
rest_shorter bytes n some fits = rw take_rest (omega (arith, length-drop n bytes))

chunk_line_some : (l : ChunkLine) → IsChunkLine l → 0 < length (print_chunk_line l)
unfolding print_chunk_line
chunk_line_some l is = let some : 0 < length l.digits = is.digits.0 in simp length-append (omega arith)

pub size_line_shorter : (bytes : List ℕ) (len size : ℕ) (l : ChunkLine) → IsChunkLineAt bytes len size l
    → length (take (length bytes - len) (drop len bytes)) < length bytes
size_line_shorter bytes len size l x =
    let whole : length bytes ≡ length (print_chunk_line l) + length (drop len bytes) = ap length x.reads.1 ∙ length-append (print_chunk_line l) (drop len bytes) in
    let some = chunk_line_some l x.reads.0 in
    rw take_rest (omega arith)

abbrev last_of : List ℕ → Option ℕ → Step (List ℕ) (Found (List ℕ))
last_of bytes len = ended (behind_trailer bytes len)

pub ends_there : (size len : ℕ) (bytes behind : List ℕ) → size ≡ 0 → Some len ≡ trailer_len bytes → behind ≡ drop len bytes
    → chunk_of_size size bytes ≡ ended (got behind)
ends_there size len bytes behind zero is at =
    ap (λ s. chunk_of_size s bytes) zero ∙ ap (last_of bytes) (sym is) ∙ ap (λ t. ended (got t)) (sym at)

pub head_ends : (bytes : List ℕ) (p : HeadParts × List ℕ) → is_interim p.0.code ≡ false → HasHead bytes p.0 p.1 → HeadStep bytes (ended (got p))
head_ends bytes p final h = (got p, h, sym (cond-false (is_interim p.0.code) (onward p.0 p.1) (ended (got p)) final))

pub head_goes : (bytes : List ℕ) (p : HeadParts × List ℕ) → is_interim p.0.code ≡ true → HasHead bytes p.0 p.1 → HeadStep bytes (onward p.0 p.1)
head_goes bytes p interim h = (got p, h, sym (cond-true (is_interim p.0.code) (onward p.0 p.1) (ended (got p)) interim))

token_is_ascii : (b : ℕ) → is_token_byte b ≡ true → b < 128
unfolding is_token_byte
token_is_ascii b token = grind (arith, nat_tests)

name_is_text : (f : Field) → IsField f → IsUtf8 f.name
name_is_text f is =
    IsUtf8-from_ascii _ (IsAscii-from_all _
    (All-weaker (λ b. is_token_byte b ≡ true) (λ b. b < 128) token_is_ascii f.name is.name.1))

unmap : {X Y : Type 0} (P : X → Type 0) (f : Y → X) (ys : List Y) → All P (map f ys) → All (λ y. P (f y)) ys
unmap P f [] h = All-nil (λ y. P (f y))
unmap P f (y ∷ ys) h = All-cons (λ y. P (f y)) y ys (All-head P (f y) (map f ys) h) (unmap P f ys (All-tail P (f y) (map f ys) h))

pub names_are_texts : (part : List ℕ) (spans : List HeaderSpan) (found : ResponseSpans) → HasPart part spans found
    → All (IsTextIn part) (take found.headers spans)
names_are_texts part spans found p =
    unmap (λ (x : HeaderField). IsUtf8 x.0) (header_bytes part) (take found.headers spans)
    (All-same (λ (x : HeaderField). IsUtf8 x.0) _ _ p.is_at.fields
    (All-map (λ (x : HeaderField). IsUtf8 x.0) name_and_value p.head.fields
    (All-weaker IsField (λ f. IsUtf8 f.name) name_is_text p.head.fields p.is_at.reads.0.fields)))

response_some : (h : ResponseHead) → 0 < length (print_response h)
unfolding print_response
response_some h = simp length-append (omega arith)

pub part_some : (part : List ℕ) (fields : List HeaderSpan) (spans : ResponseSpans) → HasPart part fields spans → 0 < spans.len
part_some part fields spans p =
    let some = response_some p.head in
    let len = p.is_at.len in
    omega arith

pub part_within : (bytes : List ℕ) (end : ℕ) (fields : List HeaderSpan) (spans : ResponseSpans) → HasPart (take end bytes) fields spans
    → spans.len ≤ length bytes
part_within bytes end fields spans p =
    let fits = p.within.section.len_fits in
    let cut = length-take end bytes in
    omega arith

parts_same : (u v : Version) (a b : ℕ) (xs ys : List HeaderField) (h : HeadParts) → u ≡ v → a ≡ b → xs ≡ ys
    → record { version = v; code = b; headers = ys } ≡ h → record { version = u; code = a; headers = xs } ≡ h
parts_same u v a b xs ys h version code headers is =
    let one : HeadParts = record { version = u; code = a; headers = xs } in
    let two : HeadParts = record { version = v; code = a; headers = xs } in
    let three : HeadParts = record { version = v; code = b; headers = xs } in
    ap (λ w. record one { version = w }) version ∙ ap (λ c. record two { code = c }) code
    ∙ ap (λ hs. record three { headers = hs }) headers ∙ is

-- a head whose fields are lent
pub head_lent : (part : List ℕ) (fields : List HeaderSpan) (spans : ResponseSpans) (version : Version) (headers : List HeaderField)
    → version ≡ version_of spans.version → headers ≡ map (header_bytes part) (take spans.headers fields)
    → record { version = version; code = spans.code; headers = headers } ≡ spans_parts part fields spans
head_lent part fields spans version headers told lent =
    parts_same version _ spans.code spans.code headers _ (spans_parts part fields spans) told refl lent refl

cut_read : (bytes : List ℕ) (end : ℕ) (fields : List HeaderSpan) (spans : ResponseSpans)
    → empty_line_end bytes ≡ Some end → length fields ≡ 100 → HasPart (take end bytes) fields spans
    → HasHead bytes (spans_parts (take end bytes) fields spans) (take (length bytes - spans.len) (drop spans.len bytes))
cut_read bytes end fields spans is room p =
    let counts : length (take spans.headers fields) ≡ length p.head.fields =
    sym (length-map (take spans.headers fields) (header_bytes (take end bytes))) ∙ ap length p.is_at.fields ∙ length-map p.head.fields name_and_value in
    let taken = length-take spans.headers fields in
    let fits = p.within.section.len_fits in
    record {
      end = end;
      end_is = is;
      head = p.head;
      over = drop spans.len (take end bytes);
      reads = p.is_at.reads;
      room = omega arith;
      parts_are = parts_same _ _ spans.code _ _ _ (parts_of_head p.head) (ap version_of p.is_at.version) p.is_at.code p.is_at.fields refl;
      behind_is =
          take_rest bytes spans.len
          ∙ ap (drop spans.len) (sym (take-append-drop end bytes))
          ∙ drop-append-le spans.len (take end bytes) (drop end bytes) fits;
    }

pub head_read : (bytes : List ℕ) (fields : List HeaderSpan) (part : List ℕ) (spans : ResponseSpans) → HasHeadAt bytes fields part spans
    → HasHead bytes (spans_parts part fields spans) (take (length bytes - spans.len) (drop spans.len bytes))
head_read bytes fields part spans h =
    subst (λ cut. HasHead bytes (spans_parts cut fields spans) (take (length bytes - spans.len) (drop spans.len bytes))) (sym h.part_is)
    (cut_read bytes h.end fields spans h.end_is h.room (subst (λ cut. HasPart cut fields spans) h.part_is h.has))

-- an interim head is passed over
pub head_passed : (bytes rest : List ℕ) (fields : List HeaderSpan) (part : List ℕ) (spans : ResponseSpans) (interim : List HeadParts)
    → Leads HeadStep bytes rest interim → HasHeadAt rest fields part spans → is_interim spans.code ≡ true
    → Leads HeadStep bytes (take (length rest - spans.len) (drop spans.len rest)) (interim ++ spans_parts part fields spans ∷ [])
head_passed bytes rest fields part spans interim led h passed =
    let behind : List ℕ = take (length rest - spans.len) (drop spans.len rest) in
    Leads-more HeadStep bytes rest behind interim (spans_parts part fields spans) led
    (head_goes rest (spans_parts part fields spans, behind) passed (head_read rest fields part spans h))

-- another head is the last
pub head_last : (bytes rest : List ℕ) (fields : List HeaderSpan) (part : List ℕ) (spans : ResponseSpans) (head : HeadParts) (interim : List HeadParts)
    → Leads HeadStep bytes rest interim → HasHeadAt rest fields part spans → is_interim spans.code ≡ false
    → head ≡ spans_parts part fields spans
    → ReadsLastHead bytes (got (head, take (length rest - spans.len) (drop spans.len rest)))
head_last bytes rest fields part spans head interim led h last is =
    let behind : List ℕ = take (length rest - spans.len) (drop spans.len rest) in
    subst (λ parts. ReadsLastHead bytes (got (parts, behind))) (sym is) (
      interim,
      Leads-end HeadStep bytes rest interim (got (spans_parts part fields spans, behind)) led
          (head_ends rest (spans_parts part fields spans, behind) last (head_read rest fields part spans h)),
    )

pub behind_within : (bytes rest : List ℕ) (n : ℕ) → n ≤ length rest → length rest ≤ length bytes
    → length (take (length rest - n) (drop n rest)) ≤ length bytes
behind_within bytes rest n fits within = rw take_rest (omega (arith, length-drop n rest))
