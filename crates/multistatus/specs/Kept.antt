-- A property as it is kept once its element has ended: what it holds stands elsewhere (this project's own).
use Rattle.std.specs.Prelude.{ℕ, List, []}
use Rattle.multistatus.specs.declared.rows.Property.{Property}
use Rattle.multistatus.specs.declared.props.Holds.{Holds}
use Rattle.multistatus.specs.declared.props.Holds.TheVariants.{Nothing, Text, All}

abbrev pub kept : List ℕ → List ℕ → Holds → Property
kept space name Nothing = record { space = space; name = name; text = []; children = []; hrefs = [] }
kept space name (Text text) = record { space = space; name = name; text = text.now.now; children = []; hrefs = [] }
kept space name (All inside) = record { space = space; name = name; text = inside.now.text.now; children = inside.now.children.now; hrefs = inside.now.hrefs.now }
