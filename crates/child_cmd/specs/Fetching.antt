-- What fetching a text does, where the devices tell what they do (this project's own).
use Rattle.std.specs.Prelude.{◌≡◌, ◌≢◌, ℕ, ◌<◌, ◌≤◌, pos, List, [], ◌++◌, length, Option, Some, None, Result, Ok, Err}
use Rattle.std.specs.Str.{IsUtf8}
use Rattle.outside.specs.StreamCalls.{AddsFront}
use Rattle.children.specs.declared.spawner.Ended.{Ended}
use Rattle.children.specs.Children.{ChildState}
use Rattle.children.specs.ChildCalls.{RanSo, RanOrNot}
use Rattle.child_cmd.specs.declared.fetch_error.FetchError.{FetchError}
use Rattle.child_cmd.specs.declared.fetch_error.FetchError.TheVariants as error
use Rattle.child_cmd.specs.declared.input_line.LineError.{LineError}
use Rattle.child_cmd.specs.declared.input_line.LineError.TheVariants as line
use Rattle.child_cmd.specs.declared.running.TheConstants.{MAX_OUTPUT}
use Rattle.child_cmd.specs.Ways.{Way, program, prompt}
use Rattle.child_cmd.specs.Values.{value_of, ValueText}
use Rattle.child_cmd.specs.InputLines.{FirstLine, TooLongLine, LosesFront}

-- ---- by a program

-- what the end of a program within the limit comes to
abbrev pub EndedText : Ended → Result (List ℕ) FetchError → Type 0
EndedText ended (Ok value) = (ended.status ≡ pos 0) × (value ≡ value_of ended.output) × IsUtf8 (value_of ended.output)
EndedText ended (Err (error.Status n)) = (ended.status ≡ n) × (n ≢ pos 0)
EndedText ended (Err error.Text) = (ended.status ≡ pos 0) × ¬ (IsUtf8 (value_of ended.output))
EndedText ended (Err e) = ⊥

-- the program was run, and its end comes to this
abbrev pub RanTo : ChildState → ChildState → List (List ℕ) → Result (List ℕ) FetchError → Type 0
RanTo s t argv result = RanSo s t argv (λ ended. (length ended.output ≤ MAX_OUTPUT) × EndedText ended result)

-- the value is the whole output of a program that ended with status 0, without the LF and CR at its end
abbrev pub ProgramAnswer : ChildState → ChildState → List (List ℕ) → Result (List ℕ) FetchError → Type 0
ProgramAnswer s t argv (Ok value) = RanTo s t argv (Ok value)
ProgramAnswer s t argv (Err (error.Status n)) = RanTo s t argv (Err (error.Status n))
ProgramAnswer s t argv (Err error.Text) = RanTo s t argv (Err error.Text)
ProgramAnswer s t argv (Err error.TooLong) = RanSo s t argv (λ ended. MAX_OUTPUT < length ended.output)
ProgramAnswer s t argv (Err error.Fault) = RanOrNot s t argv
ProgramAnswer s t argv (Err error.NoMemory) = RanOrNot s t argv
ProgramAnswer s t argv (Err error.Ended) = ⊥
ProgramAnswer s t argv (Err error.Input) = ⊥
ProgramAnswer s t argv (Err error.Output) = ⊥

-- ---- by a prompt

-- what is read behind a prompt: the value is the first line, without the LF and CR at its end
abbrev pub AskedAnswer : List ℕ → List ℕ → Result (List ℕ) FetchError → Type 0
AskedAnswer old new (Ok value) = FirstLine old new (λ body. (value ≡ value_of body) × IsUtf8 (value_of body))
AskedAnswer old new (Err error.Ended) = (old ≡ []) × (new ≡ [])
AskedAnswer old new (Err error.TooLong) = TooLongLine old new
AskedAnswer old new (Err error.Text) = FirstLine old new (λ body. ¬ (IsUtf8 (value_of body)))
AskedAnswer old new (Err error.Input) = LosesFront old new
AskedAnswer old new (Err error.NoMemory) = new ≡ old
AskedAnswer old new (Err error.Output) = new ≡ old
AskedAnswer old new (Err error.Fault) = ⊥
AskedAnswer old new (Err (error.Status n)) = ⊥

-- what is written: the prompt, or a front of it where that failed
abbrev pub PromptWritten : List ℕ → List ℕ → List ℕ → Result (List ℕ) FetchError → Type 0
PromptWritten old new text (Err error.Output) = AddsFront old new text
PromptWritten old new text result = new ≡ old ++ text

-- what a line that was read comes to
abbrev pub LineTo : Result (Option (List ℕ)) LineError → Result (List ℕ) FetchError → Type 0
LineTo (Ok None) result = result ≡ Err error.Ended
LineTo (Ok (Some text)) result = ValueText text result
LineTo (Err line.Fault) result = result ≡ Err error.Input
LineTo (Err line.TooLong) result = result ≡ Err error.TooLong
LineTo (Err line.NotUtf8) result = result ≡ Err error.Text
LineTo (Err line.NoMemory) result = result ≡ Err error.NoMemory

-- ---- both

abbrev pub ChildAnswer : Way → ChildState → ChildState → Result (List ℕ) FetchError → Type 0
ChildAnswer (program argv) s t result = ProgramAnswer s t argv result
ChildAnswer (prompt text) s t result = t ≡ s

abbrev pub InputAnswer : Way → List ℕ → List ℕ → Result (List ℕ) FetchError → Type 0
InputAnswer (program argv) old new result = new ≡ old
InputAnswer (prompt text) old new result = AskedAnswer old new result

abbrev pub ErrAnswer : Way → List ℕ → List ℕ → Result (List ℕ) FetchError → Type 0
ErrAnswer (program argv) old new result = new ≡ old
ErrAnswer (prompt text) old new result = PromptWritten old new text result

-- an error and its cause: each fault comes only where the count of its device rose, and by that way alone
abbrev pub ProgramCause : Type 0 → FetchError → Type 0
ProgramCause rose error.Fault = rose
ProgramCause rose (error.Status n) = n ≢ pos 0
ProgramCause rose error.TooLong = Unit {0}
ProgramCause rose error.Text = Unit {0}
ProgramCause rose error.Ended = ⊥
ProgramCause rose error.Input = ⊥
ProgramCause rose error.Output = ⊥
ProgramCause rose error.NoMemory = Unit {0}

abbrev pub PromptCause : Type 0 → Type 0 → FetchError → Type 0
PromptCause read wrote error.Fault = ⊥
PromptCause read wrote (error.Status n) = ⊥
PromptCause read wrote error.TooLong = Unit {0}
PromptCause read wrote error.Text = Unit {0}
PromptCause read wrote error.Ended = Unit {0}
PromptCause read wrote error.Input = read
PromptCause read wrote error.Output = wrote
PromptCause read wrote error.NoMemory = Unit {0}

abbrev pub FetchCause : Way → Type 0 → Type 0 → Type 0 → FetchError → Type 0
FetchCause (program argv) ran read wrote e = ProgramCause ran e
FetchCause (prompt text) ran read wrote e = PromptCause read wrote e

-- by a program the input and `err` stay as they are, and by a prompt the spawner does
abbrev pub Untouched : {C I E : Type 0} → Way → C → C → I → I → E → E → Type 0
Untouched (program argv) child after_child input after_input err after_err = (after_input ≡ input) × (after_err ≡ err)
Untouched (prompt text) child after_child input after_input err after_err = after_child ≡ child
