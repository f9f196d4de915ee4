-- Names in quotes (this project's own).
use Rattle.std.specs.Prelude.{ℕ, List}
use Rattle.serde_json.specs.Data.{string}
use Rattle.serde_json.specs.Written.{compact_text}

-- a name in quotes: a JSON string
unfoldable pub in_quotes : List ℕ → List ℕ
in_quotes name = compact_text (string name)
