-- Seen: what the values of the reader stand for.
use Rattle.std.specs.Prelude.{ℕ, true, false, List, [], ◌∷◌, ◌++◌, Option, Some, None}
use Rattle.config_ini.specs.declared.kinds.Written.{Written}
use Rattle.config_ini.specs.declared.kinds.Logical.{Logical}
use Rattle.config_ini.specs.declared.kinds.Logical.TheVariants as logical
use Rattle.config_ini.specs.declared.logical.SoFar.{SoFar}
use Rattle.config_ini.specs.Logical.{continuation, logical_from}

-- bytes with a line feed and more bytes behind them
abbrev pub with_more : List ℕ → List ℕ → List ℕ
with_more bytes more = bytes ++ (10 ∷ more)

-- the lines so far, with the key that may still go on
abbrev pub closed : List Logical → Option Written → List Logical
closed done None = done
closed done (Some written) = done ++ logical.Key written ∷ []

-- what the lines from here on come to, where a key may still go on
unfoldable pub from_here : Option Written → ℕ → List (List ℕ) → List Logical
from_here None n rest = logical_from false n rest
from_here (Some written) n rest = logical.Key (record { number = written.number; key = written.key; value = written.value ++ continuation rest }) ∷ logical_from true n rest

-- the logical lines so far and those to come
abbrev pub to_come : SoFar → ℕ → List (List ℕ) → List Logical
to_come so_far n rest = so_far.done.items ++ from_here so_far.held n rest
