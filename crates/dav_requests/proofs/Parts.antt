-- Texts behind one another.
use Rattle.std.proofs.Common.{◌≡◌, ℕ, List, ◌++◌, ◌∙◌, append_assoc}

pub three_parts : (o a b c o1 o2 o3 : List ℕ) → o1 ≡ o ++ a → o2 ≡ o1 ++ b → o3 ≡ o2 ++ c → o3 ≡ o ++ (a ++ b ++ c)
three_parts o a b c o1 o2 o3 p1 p2 p3 =
    let all : o3 ≡ ((o ++ a) ++ b) ++ c = cc in
    all ∙ simp append_assoc
