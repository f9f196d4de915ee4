-- Laws of the digest (this project's own).
use Rattle.std.specs.Prelude.{◌≡◌, ℕ, List, map}
use Rattle.sha2.specs.Sha256.{sha256}
use Rattle.hex.specs.Hex.{encode_lower}
use Rattle.config_ini.specs.declared.setting.Setting.{Setting}
use Rattle.config_ini.specs.declared.setting.Entry.{Entry}
use Rattle.config_digest.specs.Order.{in_order}
use Rattle.config_digest.specs.Written.{written_name, written, digest_of}

-- a key as it is written, with its value
abbrev pub Member : Type 0
Member = List ℕ × Setting

abbrev pub member : Entry → Member
member entry = (written_name entry.key, entry.value)

-- the keys of a section in byte order, with their values
unfoldable pub members : List Entry → List Member
members entries = map member (in_order entries)

-- these two texts have different digests, unless they are one
abbrev pub NoCollision : List ℕ → List ℕ → Type 0
NoCollision x y = encode_lower (sha256 x) ≡ encode_lower (sha256 y) → x ≡ y

-- a digest tells the keys and values of the pair and of both storages
abbrev pub DigestTells : Type 0
DigestTells = (pair a b pair2 a2 b2 : List Entry) → NoCollision (written pair a b) (written pair2 a2 b2) → digest_of pair a b ≡ digest_of pair2 a2 b2
    → (members pair ≡ members pair2) × (members a ≡ members a2) × (members b ≡ members b2)
