-- Read: what a reader tells of lines.
use Rattle.std.specs.Prelude.{◌≡◌, List, is_some}
use Rattle.std.specs.Option.{unwrap_or}
use Rattle.hex.specs.Hex.{encode_lower}
use Rattle.item_text.specs.Components.{Placed}
use Rattle.item_text.specs.Items.{fingerprint, uid_among}
use Rattle.item_text.specs.declared.item.Told.{Told}

-- the ident, whether it is a UID, and the version of lines in their places
abbrev pub IsTold : Told → List Placed → Type 0
IsTold told all =
    (told.ident ≡ unwrap_or (uid_among all) (encode_lower (fingerprint all))) × (told.has_uid ≡ is_some (uid_among all)) × (told.version.0 ≡ fingerprint all)
