use Rattle.std.proofs.Common.{◌≡◌, ◌≢◌, ◌⊎◌, inl, inr, ℕ, List, None, sym, ap, ◌∙◌}
use Rattle.std.specs.Prelude.{Result, Ok, Err}
use Rattle.std.specs.Result.{IsErrAnd}
use Rattle.url.specs.declared.error.ParseError.{ParseError}
use Rattle.url.specs.Parts.{Parts}
use Rattle.url.specs.Parser.{Parsed, IsOutOfRoom, parse_url}
use Rattle.config_ini.specs.declared.error.ConfigError.{ConfigError}
use Rattle.config_ini.specs.declared.error.ConfigError.TheVariants.{NoMemory, BadUrl}
use Rattle.config_ini.specs.Answers.{Gives}
use Rattle.config_settle.specs.declared.links.Link.{Link}
use Rattle.config_settle.specs.Links.{link_in, link_of}
use Rattle.config_settle.proofs.links.link_of.Goals as goal

refused_by : (section : List ℕ) (parsed : Parsed Parts) (err : ParseError) (e : ConfigError) → (e ≡ BadUrl section) × (IsOutOfRoom err → ⊥) → (parsed ≡ Err err) ⊎ IsOutOfRoom err → link_in section parsed ≡ Err e
refused_by section parsed err e is (inl bad) = ap (link_in section) bad ∙ ap (λ (x : ConfigError). let r : Result Link ConfigError = Err x in r) (sym is.0)
refused_by section parsed err e is (inr room) = absurd (is.1 room)

unparsed_is : (section : List ℕ) (parsed : Parsed Parts) (err : ParseError) (r : Result Link ConfigError) → IsErrAnd r (λ e. e ≢ NoMemory → (e ≡ BadUrl section) × (IsOutOfRoom err → ⊥)) → (parsed ≡ Err err) ⊎ IsOutOfRoom err → Gives (link_in section parsed) r
unparsed_is section parsed err (Ok link) is bad = absurd is
unparsed_is section parsed err (Err e) is bad = λ other. refused_by section parsed err e (is other) bad

pub returns-in-Err : goal.returns-in-Err
unfolding link_of
returns-in-Err c = rw (sym c.has_control.ensures ∙ c.if-has_control.false) (unparsed_is c.args.section.now (parse_url None c.args.text.now) c.in-Err.error c.unparsed.result c.unparsed.ensures c.in-Err.ensures)
