use Rattle.std.proofs.Common.{◌≡◌, ◌∷◌, List, [], ℕ, None, Bor, sym, ap, ◌∙◌}
use Rattle.cli_words.specs.declared.arguments.Arguments.{Arguments}
use Rattle.cli_words.specs.declared.options.Command.{Command}
use Rattle.cli_words.specs.declared.words.Name.{Name}
use Rattle.cli_words.specs.declared.words.WordsError.{WordsError}
use Rattle.cli_words.specs.Arguments.{arguments_value, said_with, numbered_with, IfWrong}
use Rattle.cli_words.proofs.ArgumentsLaws.{said_with-switch, said_with-second_switch, said_with-workers, said_with-second_workers, said_with-next, said_with-name, said_with-end, said_with-wrong, if_ok_weaker, if_err_weaker, is_wrong}
use Rattle.cli_words.proofs.arguments.Arguments.take.Goals as goal

pub returns-in-Ok-clause-ok : goal.returns-in-Ok-clause-ok
returns-in-Ok-clause-ok c =
    said_with-switch c.args.command (arguments_value c.args.self.now) c.in-Switch.is_on c.args.word.now c.args.rest.now (sym c.in-Switch.ensures) c.in-Ok.ensures.ok.0
    ∙ ap (λ (a : Arguments). said_with c.args.command (arguments_value a) c.args.rest.now) (sym c.in-Ok.ensures.ok.1)

pub returns-in-Err-clause-wrong : goal.returns-in-Err-clause-wrong
returns-in-Err-clause-wrong c =
    is_wrong c.in-Err.error (said_with c.args.command (arguments_value c.args.self.now) (c.args.word.now ∷ c.args.rest.now) ≡ None)
    (said_with-second_switch c.args.command (arguments_value c.args.self.now) c.in-Switch.is_on c.args.word.now c.args.rest.now (sym c.in-Switch.ensures) c.in-Err.ensures.wrong)

pub returns-in-Ok-set_workers-clause-ok : goal.returns-in-Ok-set_workers-clause-ok
returns-in-Ok-set_workers-clause-ok c =
    said_with-workers c.args.command (arguments_value c.args.self.now) c.in-Workers.number c.args.word.now c.args.rest.now (sym c.in-Workers.ensures) c.in-Ok-set_workers.ensures.ok.0
    ∙ ap (λ (a : Arguments). said_with c.args.command (arguments_value a) c.args.rest.now) (sym c.in-Ok-set_workers.ensures.ok.1)

pub returns-in-Err-set_workers-clause-wrong : goal.returns-in-Err-set_workers-clause-wrong
returns-in-Err-set_workers-clause-wrong c =
    is_wrong c.in-Err-set_workers.error (said_with c.args.command (arguments_value c.args.self.now) (c.args.word.now ∷ c.args.rest.now) ≡ None)
    (said_with-second_workers c.args.command (arguments_value c.args.self.now) c.in-Workers.number c.args.word.now c.args.rest.now (sym c.in-Workers.ensures) c.in-Err-set_workers.ensures.wrong)

pub returns-in-WorkersNext-clause-ok : goal.returns-in-WorkersNext-clause-ok
returns-in-WorkersNext-clause-ok c =
    let next = said_with-next c.args.command (arguments_value c.args.self.now) c.args.word.now c.args.rest.now (sym c.in-WorkersNext.ensures) in
    if_ok_weaker
    (λ (left : Bor (List (List ℕ))). (command : Command) → numbered_with command (arguments_value c.args.self.now) c.args.rest.now ≡ said_with command (arguments_value c.take_number.new.self) left.now)
    (λ (left : Bor (List (List ℕ))). said_with c.args.command (arguments_value c.args.self.now) (c.args.word.now ∷ c.args.rest.now) ≡ said_with c.args.command (arguments_value c.take_number.new.self) left.now)
    c.take_number.result (λ left same. next ∙ same c.args.command) c.take_number.ensures.ok

pub returns-in-WorkersNext-clause-wrong : goal.returns-in-WorkersNext-clause-wrong
returns-in-WorkersNext-clause-wrong c =
    let next = said_with-next c.args.command (arguments_value c.args.self.now) c.args.word.now c.args.rest.now (sym c.in-WorkersNext.ensures) in
    if_err_weaker
    (λ (e : WordsError). (command : Command) → numbered_with command (arguments_value c.args.self.now) c.args.rest.now ≡ None)
    (λ (e : WordsError). IfWrong e (said_with c.args.command (arguments_value c.args.self.now) (c.args.word.now ∷ c.args.rest.now) ≡ None))
    c.take_number.result (λ e none. is_wrong e _ (next ∙ none c.args.command)) c.take_number.ensures.wrong

pub returns-in-Ok-push_names-clause-ok : goal.returns-in-Ok-push_names-clause-ok
returns-in-Ok-push_names-clause-ok c =
    said_with-end c.args.command (arguments_value c.args.self.now) c.args.word.now c.args.rest.now (sym c.in-End.ensures)
    ∙ ap (λ (names : List Name). said_with c.args.command (record (arguments_value c.args.self.now) { names = names }) []) (sym c.in-Ok-push_names.ensures)

pub returns-in-Ok-push_name-clause-ok : goal.returns-in-Ok-push_name-clause-ok
returns-in-Ok-push_name-clause-ok c =
    said_with-name c.args.command (arguments_value c.args.self.now) c.args.word.now c.args.rest.now (sym c.in-Other.ensures)
    ∙ ap (λ (names : List Name). said_with c.args.command (record (arguments_value c.args.self.now) { names = names }) c.args.rest.now) (sym c.in-Ok-push_name.ensures)

pub returns-in-Wrong-clause-wrong : goal.returns-in-Wrong-clause-wrong
returns-in-Wrong-clause-wrong c = said_with-wrong c.args.command (arguments_value c.args.self.now) c.args.word.now c.args.rest.now (sym c.in-Wrong.ensures)
