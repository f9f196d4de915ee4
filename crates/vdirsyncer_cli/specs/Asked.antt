-- What the words and the environment ask for (this project's own).
use Rattle.std.specs.Prelude.{ℕ, Bool, List, ◌++◌, codes, Option, Some, None, option_map}
use Rattle.std.specs.Option.{option_or}
use Rattle.cli_words.specs.declared.words.Name.{Name}
use Rattle.cli_words.specs.Words.{WordsValue, OrderValue}
use Rattle.cli_words.specs.Words.OrderValue.{help, sync, metasync, discover, repair}
use Rattle.vdirsyncer_cli.specs.declared.asked.Asked.{Asked}
use Rattle.vdirsyncer_cli.specs.declared.asked.Asked.TheVariants.{Wrong, Help, Refused, Run}
use Rattle.vdirsyncer_cli.specs.declared.env.Env.{Env}

-- a path below a folder, where that is known
abbrev pub below : Option (List ℕ) → List ℕ → Option (List ℕ)
below folder rest = option_map (λ (f : List ℕ). f ++ rest) folder

-- the file that the program's own variable names, or the usual one in the folder of configurations, or in that of the home
abbrev pub usual_file : Env → Option (List ℕ)
usual_file env = option_or env.vdirsyncer_config (option_or (below env.xdg_config (codes "/vdirsyncer/config")) (below env.home (codes "/.config/vdirsyncer/config")))

-- the file of the configuration
abbrev pub config_file : Option (List ℕ) → Env → Option (List ℕ)
config_file config env = option_or config (usual_file env)

abbrev pub run_by : Bool → List Name → Option (List ℕ) → Option (List ℕ) → Asked
run_by force_delete names home None = Refused (codes "config: no path\n")
run_by force_delete names home (Some file) = Run (record { file = file; names = names; home = home; force_delete = force_delete })

-- of the commands `sync` alone is built
abbrev pub ordered : Env → Option (List ℕ) → OrderValue → Asked
ordered env config help = Help
ordered env config (sync force_delete workers names) = run_by force_delete names env.home (config_file config env)
ordered env config (metasync names) = Refused (codes "metasync is not built\n")
ordered env config (discover list pairs) = Refused (codes "discover is not built\n")
ordered env config (repair unsafe_too name) = Refused (codes "repair is not built\n")

abbrev pub asked_of : Env → Option WordsValue → Asked
asked_of env None = Wrong
asked_of env (Some words) = ordered env words.config words.order
