use Rattle.item_text.specs.Fingerprints.{is_fingerprint}
use Rattle.std.proofs.Common.{List, ℕ, ap, ◌≡◌, sym, ◌∙◌, true}
use Rattle.item_text.proofs.HexDigits.{fingerprint_decodes}
use Rattle.item_text.proofs.fp.fp_of_hex.Goals as goal

fingerprint : {text bytes : List ℕ} → bytes ≡ text → is_fingerprint bytes ≡ true → is_fingerprint text ≡ true
fingerprint e h = ap is_fingerprint (sym e) ∙ h

pub returns-in-Err : goal.returns-in-Err
returns-in-Err c = absurd (fingerprint_decodes c.args.text.now c.from_hex.result _ (fingerprint c.as_bytes.ensures.value (sym c.is_fingerprint.ensures ∙ c.if-not-is_fingerprint.false)) c.from_hex.ensures c.in-Err.is)
