-- How a text is fetched, by the first of the words.
use Rattle.std.proofs.Common.{◌≡◌, ◌≤◌, ℕ, Bool, true, false, cond, List, [], ◌∷◌, drop, length, get_or, refl, sym, ◌∙◌, ap, arith}
use Rattle.std.specs.Prelude.{IsTrue, codes}
use Rattle.std.specs.Str.{bytes_eq}
use Rattle.child_cmd.specs.Ways.{is_fetch, program, prompt, way_by, way_of}

-- words that say how a text is fetched are two at least
pub two_words : (words : List (List ℕ)) → IsTrue (is_fetch words) → 2 ≤ length words
two_words [] is = absurd (let clash : false ≡ true = is in cc)
two_words (kind ∷ []) is = absurd (let clash : false ≡ true = is in cc)
two_words (kind ∷ text ∷ rest) is = omega arith

-- the kind decides
kind_decides : (kind text : List ℕ) (rest : List (List ℕ)) (p q : Bool) → bytes_eq kind (codes "prompt") ≡ p → bytes_eq kind (codes "shell") ≡ q →
    way_by kind (text ∷ rest) ≡ cond p (prompt text) (cond q (program (codes "sh" ∷ codes "-c" ∷ text ∷ rest)) (program (text ∷ rest)))
kind_decides kind text rest p q e f =
    ap (λ (b : Bool). cond b (prompt text) (cond (bytes_eq kind (codes "shell")) (program (codes "sh" ∷ codes "-c" ∷ text ∷ rest)) (program (text ∷ rest)))) e
    ∙ ap (λ (b : Bool). cond p (prompt text) (cond b (program (codes "sh" ∷ codes "-c" ∷ text ∷ rest)) (program (text ∷ rest)))) f

-- a test of the kind, as it was read, is one of the first word
as_first : (k first kind word : List ℕ) (b : Bool) → first ≡ k → kind ≡ first → bytes_eq kind word ≡ b → bytes_eq k word ≡ b
as_first k first kind word b e f is = ap (λ (x : List ℕ). bytes_eq x word) (sym e ∙ sym f) ∙ is

pub way_of-prompt : (words : List (List ℕ)) (first kind second text : List ℕ) → 2 ≤ length words → first ≡ get_or words 0 first → kind ≡ first → second ≡ get_or words 1 second → text ≡ second →
    bytes_eq kind (codes "prompt") ≡ true → way_of words ≡ prompt text
unfolding way_of
way_of-prompt [] first kind second text two e f h i is = absurd (omega arith)
way_of-prompt (k ∷ []) first kind second text two e f h i is = absurd (omega arith)
way_of-prompt (k ∷ t ∷ rest) first kind second text two e f h i is =
    kind_decides k t rest true (bytes_eq k (codes "shell")) (as_first k first kind (codes "prompt") true e f is) refl ∙ ap prompt (sym h ∙ sym i)

pub way_of-shell : (words rest : List (List ℕ)) (first kind : List ℕ) → 2 ≤ length words → rest ≡ drop 1 words → first ≡ get_or words 0 first → kind ≡ first →
    bytes_eq kind (codes "prompt") ≡ false → bytes_eq kind (codes "shell") ≡ true → way_of words ≡ program (codes "sh" ∷ codes "-c" ∷ rest)
unfolding way_of
way_of-shell [] rest first kind two behind e f not is = absurd (omega arith)
way_of-shell (k ∷ []) rest first kind two behind e f not is = absurd (omega arith)
way_of-shell (k ∷ t ∷ ts) rest first kind two behind e f not is =
    kind_decides k t ts false true (as_first k first kind (codes "prompt") false e f not) (as_first k first kind (codes "shell") true e f is)
    ∙ ap (λ (ws : List (List ℕ)). program (codes "sh" ∷ codes "-c" ∷ ws)) (sym behind)

pub way_of-command : (words rest : List (List ℕ)) (first kind : List ℕ) → 2 ≤ length words → rest ≡ drop 1 words → first ≡ get_or words 0 first → kind ≡ first →
    bytes_eq kind (codes "prompt") ≡ false → bytes_eq kind (codes "shell") ≡ false → way_of words ≡ program rest
unfolding way_of
way_of-command [] rest first kind two behind e f not nor = absurd (omega arith)
way_of-command (k ∷ []) rest first kind two behind e f not nor = absurd (omega arith)
way_of-command (k ∷ t ∷ ts) rest first kind two behind e f not nor =
    kind_decides k t ts false false (as_first k first kind (codes "prompt") false e f not) (as_first k first kind (codes "shell") false e f nor)
    ∙ ap program (sym behind)
