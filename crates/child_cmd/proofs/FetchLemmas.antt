-- What a line that was read behind a prompt comes to.
use Rattle.std.proofs.Common.{◌≡◌, ℕ, List, Option, Some, None, Result, Ok, Err, sym, ◌∙◌, ap, subst}
use Rattle.std.specs.Str.{IsUtf8}
use Rattle.child_cmd.specs.declared.fetch_error.FetchError.{FetchError}
use Rattle.child_cmd.specs.declared.fetch_error.FetchError.TheVariants as error
use Rattle.child_cmd.specs.declared.input_line.LineError.{LineError}
use Rattle.child_cmd.specs.declared.input_line.LineError.TheVariants as line
use Rattle.child_cmd.specs.InputLines.{FirstLine, LineAnswer, without_return}
use Rattle.child_cmd.specs.Values.{value_of}
use Rattle.child_cmd.specs.Fetching.{AskedAnswer, LineTo}
use Rattle.child_cmd.proofs.ValueLemmas.{utf8_of_value, value_of-without_return}

first_line_so : {old new : List ℕ} {P Q : List ℕ → Type 0} → FirstLine old new P → ((body : List ℕ) → P body → Q body) → FirstLine old new Q
first_line_so first f = record { body = first.body; is_ended = first.is_ended; no_feed = first.no_feed; taken = first.taken; some = first.some; short = first.short; so = f first.body first.so }

-- what is no text isn't one without the LF and CR at its end either
not_utf8 : (body : List ℕ) → ¬ (IsUtf8 (without_return body)) → ¬ (IsUtf8 (value_of body))
not_utf8 body none u = none (utf8_of_value (without_return body) (subst IsUtf8 (sym (value_of-without_return body)) u))

pub asked : (old new : List ℕ) (found : Result (Option (List ℕ)) LineError) (result : Result (List ℕ) FetchError) → LineAnswer old new found → LineTo found result → AskedAnswer old new result
asked old new (Ok None) result h e = subst (λ (r : Result (List ℕ) FetchError). AskedAnswer old new r) (sym e) h
asked old new (Ok (Some text)) (Ok value) h v =
    first_line_so h (λ body so.
    let same : value_of text ≡ value_of body = ap value_of so.0 ∙ value_of-without_return body in
    (v.0 ∙ same, subst IsUtf8 same v.1))
asked old new (Ok (Some text)) (Err error.Text) h none =
    first_line_so h (λ body so u.
    let same : value_of text ≡ value_of body = ap value_of so.0 ∙ value_of-without_return body in
    none (subst IsUtf8 (sym same) u))
asked old new (Ok (Some text)) (Err error.Fault) h v = absurd v
asked old new (Ok (Some text)) (Err (error.Status n)) h v = absurd v
asked old new (Ok (Some text)) (Err error.TooLong) h v = absurd v
asked old new (Ok (Some text)) (Err error.Ended) h v = absurd v
asked old new (Ok (Some text)) (Err error.Input) h v = absurd v
asked old new (Ok (Some text)) (Err error.Output) h v = absurd v
asked old new (Ok (Some text)) (Err error.NoMemory) h v = absurd v
asked old new (Err line.Fault) result h e = subst (λ (r : Result (List ℕ) FetchError). AskedAnswer old new r) (sym e) h
asked old new (Err line.TooLong) result h e = subst (λ (r : Result (List ℕ) FetchError). AskedAnswer old new r) (sym e) h
asked old new (Err line.NotUtf8) result h e = subst (λ (r : Result (List ℕ) FetchError). AskedAnswer old new r) (sym e) (first_line_so h not_utf8)
asked old new (Err line.NoMemory) result h e = subst (λ (r : Result (List ℕ) FetchError). AskedAnswer old new r) (sym e) h
