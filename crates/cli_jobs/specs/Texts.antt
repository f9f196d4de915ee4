-- What is printed where there is no job (this project's own).
use Rattle.std.specs.Prelude.{ℕ, List, ◌++◌, codes}
use Rattle.cli_text.specs.Quoting.{in_quotes}
use Rattle.cli_text.specs.Fetches.{fetch_text}
use Rattle.cli_text.specs.Configs.{config_text, config_line, of_key}
use Rattle.cli_jobs.specs.declared.refusal.Refusal.{Refusal}
use Rattle.cli_jobs.specs.declared.refusal.Refusal.TheVariants.{Unusable, NoPair, NoCollection, NotBuilt, NotFetched, NoMemory}

-- one line for each refusal
abbrev pub refusal_text : Refusal → List ℕ
refusal_text (Unusable error) = config_text error
refusal_text (NoPair name) = codes "no pair " ++ in_quotes name ++ codes "\n"
refusal_text (NoCollection name pair) = codes "no collection " ++ in_quotes name ++ codes " in " ++ pair ++ codes "\n"
refusal_text (NotBuilt section key) = config_line (of_key section key (codes "is not built"))
refusal_text (NotFetched section key error) = fetch_text key section error
refusal_text NoMemory = codes "out of memory\n"
