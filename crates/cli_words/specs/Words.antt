-- The grammar of the words and their meaning (this project's own).
use Rattle.std.specs.Prelude.{◌==◌, ℕ, Bool, true, false, List, [], ◌∷◌, if◌then◌else◌, codes, Option, Some, None, option_map, option_and_then, unwrap_or, map}
use Rattle.std.specs.Str.{bytes_eq}
use Rattle.cli_words.specs.declared.options.Command.{Command}
use Rattle.cli_words.specs.declared.options.Command.TheVariants as command
use Rattle.cli_words.specs.declared.words.Name.{Name}
use Rattle.cli_words.specs.declared.words.Order.{Order}
use Rattle.cli_words.specs.declared.words.Order.TheVariants as order
use Rattle.cli_words.specs.declared.words.Words.{Words}
use Rattle.cli_words.specs.Options.{command_of}
use Rattle.cli_words.specs.Front.{FrontValue, front_of}
use Rattle.cli_words.specs.Arguments.{ArgumentsValue, arguments_of}

pub data OrderValue : Type 0 where
  help : OrderValue
  -- may a side that has become empty empty the other, how many workers, and which pairs
  sync : Bool → ℕ → List Name → OrderValue
  metasync : List Name → OrderValue
  -- are the found collections printed, and which pairs
  discover : Bool → List (List ℕ) → OrderValue
  -- are UIDs replaced that can't be names of files, and which storage
  repair : Bool → Name → OrderValue

pub record WordsValue : Type 0 where
  pub config : Option (List ℕ)
  pub order : OrderValue

-- 8 workers where N is 0 or isn't given
abbrev pub workers_in : Option ℕ → ℕ
workers_in None = 8
workers_in (Some number) = if number == 0 then 8 else number

abbrev pub only : List Name → Option Name
only [] = None
only (name ∷ []) = Some name
only (name ∷ other ∷ names) = None

abbrev pub first_of : Name → List ℕ
first_of name = name.first

-- the order that a command and its words make: `--list` is the default, and `repair` has exactly one name
abbrev pub order_in : Command → ArgumentsValue → Option OrderValue
order_in command.Sync a = Some (sync (unwrap_or a.switch false) (workers_in a.workers) a.names)
order_in command.Metasync a = Some (metasync a.names)
order_in command.Discover a = Some (discover (unwrap_or a.switch true) (map first_of a.names))
order_in command.Repair a = option_map (repair (unwrap_or a.switch false)) (only a.names)

abbrev pub order_behind : List (List ℕ) → Option Command → Option OrderValue
order_behind words None = None
order_behind words (Some command) = option_and_then (order_in command) (arguments_of command false words)

-- a command's name and the words behind it
abbrev pub order_of : List (List ℕ) → Option OrderValue
order_of [] = None
order_of (word ∷ rest) = order_behind rest (command_of word)

-- global options and an order
abbrev pub ordered : FrontValue → Option WordsValue
ordered front = option_map (λ (o : OrderValue). record { config = front.config; order = o }) (order_of front.words)

-- `--help` alone
abbrev pub is_help : List (List ℕ) → Bool
is_help [] = false
is_help (word ∷ []) = bytes_eq word (codes "--help")
is_help (word ∷ next ∷ rest) = false

-- what the words mean, and nothing where they are outside the grammar
abbrev pub meaning_of : List (List ℕ) → Option WordsValue
meaning_of words = if is_help words then Some (record { config = None; order = help }) else ordered (front_of words)

-- ---- what is answered, as such a value

abbrev pub order_value : Order → OrderValue
order_value order.Help = help
order_value (order.Sync force_delete workers names) = sync force_delete workers names.items
order_value (order.Metasync names) = metasync names.items
order_value (order.Discover list pairs) = discover list pairs.items
order_value (order.Repair unsafe_too name) = repair unsafe_too name

abbrev pub words_value : Words → WordsValue
words_value w = record { config = w.config; order = order_value w.order }
