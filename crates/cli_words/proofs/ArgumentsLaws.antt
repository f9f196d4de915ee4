-- What each word adds to the words that were read before it.
use Rattle.std.proofs.Common.{◌≡◌, ◌<◌, ◌≤◌, ◌-◌, ◌++◌, ℕ, Bool, true, false, List, [], ◌∷◌, Option, Some, None, Result, Ok, Err, IfOk, IfErr, length, get_or, take, drop, refl, sym, ap, ◌∙◌, append_assoc, append-nil, arith}
use Rattle.std.proofs.lemmas.List.{take_rest}
use Rattle.std.specs.Prelude.{is_some, map, option_map, option_and_then}
use Rattle.cli_words.specs.declared.options.Command.{Command}
use Rattle.cli_words.specs.declared.options.Piece.TheVariants.{Switch, Workers, WorkersNext, End, Other, Wrong}
use Rattle.cli_words.specs.declared.words.Name.{Name}
use Rattle.cli_words.specs.declared.words.WordsError.{WordsError}
use Rattle.cli_words.specs.declared.words.WordsError.TheVariants as error
use Rattle.cli_words.specs.Options.{piece_of, workers_of, name_in}
use Rattle.cli_words.specs.Arguments.{ArgumentsValue, no_arguments, with_switch, with_workers, with_name, arguments_of, joined, said_with, numbered_with, IfWrong}

-- ---- an option that is on or off

joined-switch_parts : (is_on : Bool) (t s : Option Bool) (w v : Option ℕ) (ns ms : List Name) → t ≡ None →
    option_and_then (joined (record { switch = t; workers = w; names = ns })) (with_switch is_on (record { switch = s; workers = v; names = ms }))
    ≡ joined (record { switch = Some is_on; workers = w; names = ns }) (record { switch = s; workers = v; names = ms })
joined-switch_parts is_on None None None None ns ms none = refl
joined-switch_parts is_on None (Some x) None None ns ms none = refl
joined-switch_parts is_on None None None (Some n) ns ms none = refl
joined-switch_parts is_on None (Some x) None (Some n) ns ms none = refl
joined-switch_parts is_on None None (Some m) None ns ms none = refl
joined-switch_parts is_on None (Some x) (Some m) None ns ms none = refl
joined-switch_parts is_on None None (Some m) (Some n) ns ms none = refl
joined-switch_parts is_on None (Some x) (Some m) (Some n) ns ms none = refl
joined-switch_parts is_on (Some y) s w v ns ms none = cc

joined-switch : (is_on : Bool) (a : ArgumentsValue) (p : Option ArgumentsValue) → a.switch ≡ None →
    option_and_then (joined a) (option_and_then (with_switch is_on) p) ≡ option_and_then (joined (record a { switch = Some is_on })) p
joined-switch is_on a None none = refl
joined-switch is_on a (Some q) none = joined-switch_parts is_on a.switch q.switch a.workers q.workers a.names q.names none

second_switch_parts : (is_on : Bool) (t s : Option Bool) (w v : Option ℕ) (ns ms : List Name) → is_some t ≡ true →
    option_and_then (joined (record { switch = t; workers = w; names = ns })) (with_switch is_on (record { switch = s; workers = v; names = ms })) ≡ None
second_switch_parts is_on None s w v ns ms some = cc
second_switch_parts is_on (Some y) None w v ns ms some = refl
second_switch_parts is_on (Some y) (Some x) w v ns ms some = refl

second_switch : (is_on : Bool) (a : ArgumentsValue) (p : Option ArgumentsValue) → is_some a.switch ≡ true →
    option_and_then (joined a) (option_and_then (with_switch is_on) p) ≡ None
second_switch is_on a None some = refl
second_switch is_on a (Some q) some = second_switch_parts is_on a.switch q.switch a.workers q.workers a.names q.names some

pub said_with-switch : (command : Command) (a : ArgumentsValue) (is_on : Bool) (word : List ℕ) (rest : List (List ℕ)) → piece_of command word ≡ Switch is_on → a.switch ≡ None →
    said_with command a (word ∷ rest) ≡ said_with command (record a { switch = Some is_on }) rest
unfolding said_with arguments_of
said_with-switch command a is_on word rest is none = rw is (joined-switch is_on a (arguments_of command false rest) none)

pub said_with-second_switch : (command : Command) (a : ArgumentsValue) (is_on : Bool) (word : List ℕ) (rest : List (List ℕ)) → piece_of command word ≡ Switch is_on → is_some a.switch ≡ true →
    said_with command a (word ∷ rest) ≡ None
unfolding said_with arguments_of
said_with-second_switch command a is_on word rest is some = rw is (second_switch is_on a (arguments_of command false rest) some)

-- ---- the number of workers

joined-workers_parts : (number : ℕ) (t s : Option Bool) (w v : Option ℕ) (ns ms : List Name) → w ≡ None →
    option_and_then (joined (record { switch = t; workers = w; names = ns })) (with_workers number (record { switch = s; workers = v; names = ms }))
    ≡ joined (record { switch = t; workers = Some number; names = ns }) (record { switch = s; workers = v; names = ms })
joined-workers_parts number None None None None ns ms none = refl
joined-workers_parts number None None None (Some n) ns ms none = refl
joined-workers_parts number None (Some x) None None ns ms none = refl
joined-workers_parts number None (Some x) None (Some n) ns ms none = refl
joined-workers_parts number (Some y) None None None ns ms none = refl
joined-workers_parts number (Some y) None None (Some n) ns ms none = refl
joined-workers_parts number (Some y) (Some x) None None ns ms none = refl
joined-workers_parts number (Some y) (Some x) None (Some n) ns ms none = refl
joined-workers_parts number t s (Some m) v ns ms none = cc

joined-workers : (number : ℕ) (a : ArgumentsValue) (p : Option ArgumentsValue) → a.workers ≡ None →
    option_and_then (joined a) (option_and_then (with_workers number) p) ≡ option_and_then (joined (record a { workers = Some number })) p
joined-workers number a None none = refl
joined-workers number a (Some q) none = joined-workers_parts number a.switch q.switch a.workers q.workers a.names q.names none

second_workers_parts : (number : ℕ) (t s : Option Bool) (w v : Option ℕ) (ns ms : List Name) → is_some w ≡ true →
    option_and_then (joined (record { switch = t; workers = w; names = ns })) (with_workers number (record { switch = s; workers = v; names = ms })) ≡ None
second_workers_parts number t s None v ns ms some = cc
second_workers_parts number t s (Some m) (Some n) ns ms some = refl
second_workers_parts number None s (Some m) None ns ms some = refl
second_workers_parts number (Some y) None (Some m) None ns ms some = refl
second_workers_parts number (Some y) (Some x) (Some m) None ns ms some = refl

second_workers : (number : ℕ) (a : ArgumentsValue) (p : Option ArgumentsValue) → is_some a.workers ≡ true →
    option_and_then (joined a) (option_and_then (with_workers number) p) ≡ None
second_workers number a None some = refl
second_workers number a (Some q) some = second_workers_parts number a.switch q.switch a.workers q.workers a.names q.names some

pub said_with-workers : (command : Command) (a : ArgumentsValue) (number : ℕ) (word : List ℕ) (rest : List (List ℕ)) → piece_of command word ≡ Workers number → a.workers ≡ None →
    said_with command a (word ∷ rest) ≡ said_with command (record a { workers = Some number }) rest
unfolding said_with arguments_of
said_with-workers command a number word rest is none = rw is (joined-workers number a (arguments_of command false rest) none)

pub said_with-second_workers : (command : Command) (a : ArgumentsValue) (number : ℕ) (word : List ℕ) (rest : List (List ℕ)) → piece_of command word ≡ Workers number → is_some a.workers ≡ true →
    said_with command a (word ∷ rest) ≡ None
unfolding said_with arguments_of
said_with-second_workers command a number word rest is some = rw is (second_workers number a (arguments_of command false rest) some)

pub said_with-next : (command : Command) (a : ArgumentsValue) (word : List ℕ) (rest : List (List ℕ)) → piece_of command word ≡ WorkersNext →
    said_with command a (word ∷ rest) ≡ numbered_with command a rest
unfolding said_with numbered_with arguments_of
said_with-next command a word rest is = rw is refl

pub numbered_with-workers : (command : Command) (a : ArgumentsValue) (number : ℕ) (word : List ℕ) (rest : List (List ℕ)) → workers_of word ≡ Some number → a.workers ≡ None →
    numbered_with command a (word ∷ rest) ≡ said_with command (record a { workers = Some number }) rest
unfolding said_with numbered_with arguments_of
numbered_with-workers command a number word rest is none = rw is (joined-workers number a (arguments_of command false rest) none)

pub numbered_with-second : (command : Command) (a : ArgumentsValue) (number : ℕ) (word : List ℕ) (rest : List (List ℕ)) → workers_of word ≡ Some number → is_some a.workers ≡ true →
    numbered_with command a (word ∷ rest) ≡ None
unfolding numbered_with arguments_of
numbered_with-second command a number word rest is some = rw is (second_workers number a (arguments_of command false rest) some)

pub numbered_with-wrong : (command : Command) (a : ArgumentsValue) (word : List ℕ) (rest : List (List ℕ)) → workers_of word ≡ None →
    numbered_with command a (word ∷ rest) ≡ None
unfolding numbered_with arguments_of
numbered_with-wrong command a word rest is = rw is refl

pub numbered_with-nothing : (command : Command) (a : ArgumentsValue) → numbered_with command a [] ≡ None
unfolding numbered_with arguments_of
numbered_with-nothing command a = refl

-- ---- names

joined-name : (name : Name) (a : ArgumentsValue) (p : Option ArgumentsValue) →
    option_and_then (joined a) (option_map (with_name name) p) ≡ option_and_then (joined (record a { names = a.names ++ name ∷ [] })) p
joined-name name a None = refl
joined-name name a (Some q) = simp append_assoc

pub said_with-name : (command : Command) (a : ArgumentsValue) (word : List ℕ) (rest : List (List ℕ)) → piece_of command word ≡ Other →
    said_with command a (word ∷ rest) ≡ said_with command (record a { names = a.names ++ name_in command word ∷ [] }) rest
unfolding said_with arguments_of
said_with-name command a word rest is = rw is (joined-name (name_in command word) a (arguments_of command false rest))

pub said_with-end : (command : Command) (a : ArgumentsValue) (word : List ℕ) (rest : List (List ℕ)) → piece_of command word ≡ End →
    said_with command a (word ∷ rest) ≡ said_with command (record a { names = a.names ++ map (name_in command) rest }) []
unfolding said_with arguments_of
said_with-end command a word rest is = rw is (simp append-nil)

pub said_with-wrong : (command : Command) (a : ArgumentsValue) (word : List ℕ) (rest : List (List ℕ)) → piece_of command word ≡ Wrong →
    said_with command a (word ∷ rest) ≡ None
unfolding said_with arguments_of
said_with-wrong command a word rest is = rw is refl

-- ---- the first word and the last

joined-nothing : (p : Option ArgumentsValue) → option_and_then (joined no_arguments) p ≡ p
joined-nothing None = refl
joined-nothing (Some q) = refl

pub said_with-nothing : (command : Command) (words : List (List ℕ)) → said_with command no_arguments words ≡ arguments_of command false words
unfolding said_with
said_with-nothing command words = joined-nothing (arguments_of command false words)

all_read : (s : Option Bool) (w : Option ℕ) (ns : List Name) → joined (record { switch = s; workers = w; names = ns }) no_arguments ≡ Some (record { switch = s; workers = w; names = ns })
all_read None None ns = simp append-nil
all_read None (Some m) ns = simp append-nil
all_read (Some x) None ns = simp append-nil
all_read (Some x) (Some m) ns = simp append-nil

pub said_with-all_read : (command : Command) (a : ArgumentsValue) → said_with command a [] ≡ Some a
unfolding said_with arguments_of
said_with-all_read command a = all_read a.switch a.workers a.names

pub is_wrong : (e : WordsError) (P : Type 0) → P → IfWrong e P
is_wrong error.Wrong P holds = holds
is_wrong error.NoMemory P holds = tt

-- ---- lists of words

pub first_and_rest : (words : List (List ℕ)) (word : List ℕ) → 1 ≤ length words → word ≡ get_or words 0 word → words ≡ word ∷ take (length words - 1) (drop 1 words)
first_and_rest [] word long is = absurd (omega arith)
first_and_rest (w ∷ ws) word long is =
    ap (λ (x : List ℕ). x ∷ ws) (sym is) ∙ sym (ap (λ (l : List (List ℕ)). word ∷ l) (take_rest (w ∷ ws) 1))

pub nothing_left : (words : List (List ℕ)) → length words < 1 → words ≡ []
nothing_left [] short = refl
nothing_left (w ∷ ws) short = absurd (omega arith)

-- ---- what follows of an answer

pub if_ok_weaker : {T E : Type 0} (P Q : T → Type 0) (r : Result T E) → ((x : T) → P x → Q x) → IfOk r P → IfOk r Q
if_ok_weaker P Q (Ok x) follows holds = follows x holds
if_ok_weaker P Q (Err e) follows holds = holds

pub if_err_weaker : {T E : Type 0} (P Q : E → Type 0) (r : Result T E) → ((e : E) → P e → Q e) → IfErr r P → IfErr r Q
if_err_weaker P Q (Ok x) follows holds = holds
if_err_weaker P Q (Err e) follows holds = follows e holds
