-- Reading: a line that is folded, read again.
use Rattle.std.proofs.Common.{◌≡◌, ℕ, ◌==◌, false, ◌&&◌, nat_eq, List, [], ◌∷◌, ◌++◌, drop, refl, sym, ◌∙◌, ap, subst, append_assoc, append-nil}
use Rattle.std.specs.List.{All, concat, starts_with}
use Rattle.std.specs.Str.Lines.{lines}
use Rattle.std.proofs.lemmas.Bool.{and_right, cond-false}
use Rattle.std.proofs.lemmas.List.Elements.{All-head, All-tail, All-cons}
use Rattle.item_text.specs.Lines.{continues, unfolded, without_mark, physical_lines, logical_lines}
use Rattle.item_text.proofs.Changes.{texts_of}
use Rattle.item_text.proofs.Parts.{onto_text, texts_begin, texts_continue}
use Rattle.item_text.proofs.Physical.{goes_on_lines}
use Rattle.file_text.specs.Folds.{ArePieces, behind_piece, folded_of, IsFolded}
use Rattle.file_text.specs.Unfolds.{line_texts, texts_behind, HasNoFeed, HasNoMark}
use Rattle.file_text.proofs.Cuts.{returned_ends}
use Rattle.file_text.proofs.Pieces.{joined_pieces, pieces_no_feed}

no_feed_behind : (piece : List ℕ) → HasNoFeed piece → HasNoFeed (32 ∷ piece)
no_feed_behind piece plain = All-cons (λ b. (b == 10) ≡ false) 32 piece refl plain

-- a piece and those behind it are one logical line, before a text that doesn't continue it
texts_folded : (piece : List ℕ) (more : List (List ℕ)) (rest : List ℕ) → HasNoFeed piece → All HasNoFeed more → continues rest ≡ false
    → texts_of (lines ((piece ++ behind_piece more) ++ rest)) ≡ (piece ++ concat more) ∷ texts_of (lines rest)
unfolding behind_piece continues
texts_folded piece [] rest plain all apart =
    ap (λ (xs : List ℕ). texts_of (lines xs)) (append_assoc piece (13 ∷ 10 ∷ []) rest)
    ∙ (ap texts_of (returned_ends piece rest plain)
    ∙ (texts_begin piece (lines rest) (goes_on_lines rest ∙ apart) ∙ ap (λ (xs : List ℕ). xs ∷ texts_of (lines rest)) (sym (append-nil piece))))
texts_folded piece (next ∷ more) rest plain all apart =
    let behind : List ℕ = ((32 ∷ next) ++ behind_piece more) ++ rest in
    ap (λ (xs : List ℕ). texts_of (lines xs)) (append_assoc piece (13 ∷ 10 ∷ 32 ∷ next ++ behind_piece more) rest)
    ∙ (ap texts_of (returned_ends piece behind plain)
    ∙ (texts_continue piece (lines behind) (goes_on_lines behind)
    ∙ ap (onto_text piece) (texts_folded (32 ∷ next) more rest (no_feed_behind next (All-head HasNoFeed next more all)) (All-tail HasNoFeed next more all) apart)))

texts_of_pieces : (line : List ℕ) (pieces : List (List ℕ)) (rest : List ℕ) → ArePieces 75 line pieces → HasNoFeed line → continues rest ≡ false → texts_of (lines (folded_of pieces ++ rest)) ≡ line ∷ texts_of (lines rest)
unfolding folded_of
texts_of_pieces line [] rest are plain apart = absurd are
texts_of_pieces line (piece ∷ more) rest are plain apart =
    let all : All HasNoFeed (piece ∷ more) = pieces_no_feed 75 line (piece ∷ more) are plain in
    texts_folded piece more rest (All-head HasNoFeed piece more all) (All-tail HasNoFeed piece more all) apart
    ∙ ap (λ (xs : List ℕ). xs ∷ texts_of (lines rest)) (joined_pieces 75 line (piece ∷ more) are)

pub read_behind : (line bytes rest : List ℕ) → IsFolded line bytes → HasNoFeed line → continues rest ≡ false → texts_behind (bytes ++ rest) ≡ line ∷ texts_behind rest
unfolding texts_of
read_behind line bytes rest folded plain apart =
    ap (λ (xs : List ℕ). texts_behind (xs ++ rest)) folded.written ∙ texts_of_pieces line folded.pieces rest folded.are plain apart

-- what is written begins with the first piece and a carriage return
front_of : (more : List (List ℕ)) (rest : List ℕ) → (bytes : List ℕ) × (behind_piece more ++ rest ≡ 13 ∷ bytes)
unfolding behind_piece
front_of [] rest = (_, refl)
front_of (next ∷ more) rest = (_, refl)

record Front (line text : List ℕ) : Type 0 where
  piece : List ℕ
  more : List ℕ
  bytes : List ℕ
  of_line : piece ++ more ≡ line
  of_text : text ≡ piece ++ 13 ∷ bytes

front_of_pieces : (line : List ℕ) (pieces : List (List ℕ)) (rest : List ℕ) → ArePieces 75 line pieces → Front line (folded_of pieces ++ rest)
unfolding folded_of
front_of_pieces line [] rest are = absurd are
front_of_pieces line (piece ∷ more) rest are =
    let front = front_of more rest in
    record {
      piece = piece;
      more = concat more;
      bytes = front.0;
      of_line = joined_pieces 75 line (piece ∷ more) are;
      of_text = append_assoc piece (behind_piece more) rest ∙ ap (λ (xs : List ℕ). piece ++ xs) front.1;
    }

front_of_folded : (line bytes rest : List ℕ) → IsFolded line bytes → Front line (bytes ++ rest)
front_of_folded line bytes rest folded =
    subst (λ (xs : List ℕ). Front line (xs ++ rest)) (sym folded.written) (front_of_pieces line folded.pieces rest folded.are)

-- a mark at the front stands in the line
mark_front : (piece more bytes : List ℕ) → HasNoMark (piece ++ more) → HasNoMark (piece ++ 13 ∷ bytes)
mark_front [] more bytes none = refl
mark_front (a ∷ []) more bytes none = and_right (nat_eq 239 a) false refl
mark_front (a ∷ b ∷ []) more bytes none = and_right (nat_eq 239 a) (nat_eq 187 b && false) (and_right (nat_eq 187 b) false refl)
mark_front (a ∷ b ∷ c ∷ piece) more bytes none = none

no_mark : (line text : List ℕ) → Front line text → HasNoMark line → HasNoMark text
no_mark line text front none =
    subst HasNoMark (sym front.of_text) (mark_front front.piece front.more front.bytes (subst HasNoMark (sym front.of_line) none))

pub without_none : (text : List ℕ) → HasNoMark text → line_texts text ≡ texts_behind text
unfolding without_mark physical_lines logical_lines
without_none text none = ap texts_behind (cond-false (starts_with nat_eq text (239 ∷ 187 ∷ 191 ∷ [])) (drop 3 text) text none)

pub read_in_front : (line bytes rest : List ℕ) → IsFolded line bytes → HasNoFeed line → HasNoMark line → continues rest ≡ false → line_texts (bytes ++ rest) ≡ line ∷ texts_behind rest
read_in_front line bytes rest folded plain none apart =
    without_none (bytes ++ rest) (no_mark line (bytes ++ rest) (front_of_folded line bytes rest folded) none) ∙ read_behind line bytes rest folded plain apart

pub none_behind : texts_behind [] ≡ []
unfolding unfolded
none_behind = refl

pub none_continues : continues [] ≡ false
unfolding continues
none_continues = refl

pub read_alone : (line bytes : List ℕ) → IsFolded line bytes → HasNoFeed line → HasNoMark line → line_texts bytes ≡ line ∷ []
read_alone line bytes folded plain none =
    ap line_texts (sym (append-nil bytes)) ∙ (read_in_front line bytes [] folded plain none none_continues ∙ ap (λ (ls : List (List ℕ)). line ∷ ls) none_behind)

-- what begins with a piece and a carriage return begins as the line
begins_as : (piece more bytes : List ℕ) → continues (piece ++ more) ≡ false → continues (piece ++ 13 ∷ bytes) ≡ false
unfolding continues
begins_as [] more bytes apart = refl
begins_as (b ∷ piece) more bytes apart = apart

begins_by : (line text : List ℕ) → Front line text → continues line ≡ false → continues text ≡ false
begins_by line text front apart = ap continues front.of_text ∙ begins_as front.piece front.more front.bytes (ap continues front.of_line ∙ apart)

pub folded_begins : (line bytes rest : List ℕ) → IsFolded line bytes → continues line ≡ false → continues (bytes ++ rest) ≡ false
folded_begins line bytes rest folded apart = begins_by line (bytes ++ rest) (front_of_folded line bytes rest folded) apart
