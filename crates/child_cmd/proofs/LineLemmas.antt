-- What is taken of an input, byte by byte.
use Rattle.std.proofs.Common.{◌≡◌, ◌≢◌, ℕ, zero, suc, List, [], ◌∷◌, ◌++◌, ap, ◌∙◌, sym, append_assoc, arith}
use Rattle.std.proofs.lemmas.List.Elements.{All-append}
use Rattle.child_cmd.specs.InputLines.{HasNoFeed, LosesFront}

one_without_feed : (b : ℕ) → b ≢ 10 → HasNoFeed (b ∷ [])
one_without_feed b other zero d inside e = other e
one_without_feed b other (suc k) d inside e = absurd (omega arith)

-- one more byte that is no line feed
pub no_feed-more : (bytes more : List ℕ) (b : ℕ) → more ≡ bytes ++ b ∷ [] → HasNoFeed bytes → b ≢ 10 → HasNoFeed more
no_feed-more bytes more b e none other = rw e (All-append (λ (x : ℕ). x ≢ 10) bytes (b ∷ []) none (one_without_feed b other))

pub taken-more : (old mid new bytes more : List ℕ) (b : ℕ) → more ≡ bytes ++ b ∷ [] → old ≡ bytes ++ mid → mid ≡ b ∷ new → old ≡ more ++ new
taken-more old mid new bytes more b e before next = before ∙ ap (λ m. bytes ++ m) next ∙ sym (append_assoc bytes (b ∷ []) new) ∙ ap (λ m. m ++ new) (sym e)

pub lost-more : (old mid new bytes : List ℕ) → old ≡ bytes ++ mid → LosesFront mid new → LosesFront old new
lost-more old mid new bytes before lost = (bytes ++ lost.0, before ∙ ap (λ m. bytes ++ m) lost.1 ∙ sym (append_assoc bytes lost.0 new))
