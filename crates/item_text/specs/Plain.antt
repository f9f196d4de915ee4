-- Plain idents: those that a file name and a new UID may hold as they are (this project's own).
use Rattle.std.specs.Prelude.{◌==◌, ℕ, Bool, false, not, ◌&&◌, ◌||◌, List, [], ◌∷◌, length, nat_le, nat_lt}
use Rattle.std.specs.List.{list_all}

-- a letter, a digit, `_`, `-`, `.` or `@`
abbrev pub is_name_byte : ℕ → Bool
is_name_byte b = (nat_le 97 b && nat_le b 122) || ((nat_le 65 b && nat_le b 90) || ((nat_le 48 b && nat_le b 57) || (b == 95 || (b == 45 || (b == 46 || b == 64)))))

abbrev pub begins_with_dot : List ℕ → Bool
begins_with_dot [] = false
begins_with_dot (first ∷ rest) = first == 46

-- whether an ident is plain: 1 to 100 such bytes, the first of them no dot
abbrev pub is_plain : List ℕ → Bool
is_plain ident = nat_lt 0 (length ident) && (nat_le (length ident) 100 && (not (begins_with_dot ident) && list_all is_name_byte ident))
