use Rattle.std.proofs.Common.{◌≡◌, ◌-◌, ◌∷◌, take, drop, length, refl, sym, ◌∙◌, arith}
use Rattle.std.proofs.lemmas.List.{take_rest}
use Rattle.std.specs.Prelude.{codes}
use Rattle.child_cmd.specs.Ways.{way_of, program, prompt}
use Rattle.child_cmd.proofs.WayLemmas.{two_words, way_of-prompt, way_of-shell, way_of-command}
use Rattle.child_cmd.proofs.fetching.fetch_one.Goals as goal

pub returns-then-eq : goal.returns-then-eq
returns-then-eq g c =
    let way : way_of c.args.words.now ≡ prompt c.as_str.result.now =
    way_of-prompt c.args.words.now c.index-words-0.result c.as_str-kind.result.now c.index-words-1.result c.as_str.result.now (two_words c.args.words.now c.requires)
    c.index-words-0.is c.as_str-kind.ensures c.index-words-1.is c.as_str.ensures (sym c.eq.ensures ∙ c.if-eq.true) in
    record {
      ran = omega arith;
      read = c.ask.ensures.read;
      wrote = c.ask.ensures.wrote;
      cause = rw way c.ask.ensures.cause;
      others = rw way refl;
      program = rw way (λ tells. (tells, refl));
      answer = rw way c.ask.ensures.asked;
      prompt = rw way c.ask.ensures.written;
    }

pub returns-then-eq-2 : goal.returns-then-eq-2
returns-then-eq-2 g c =
    let way : way_of c.args.words.now ≡ program (codes "sh" ∷ codes "-c" ∷ take (length c.args.words.now - 1) (drop 1 c.args.words.now)) =
    way_of-shell c.args.words.now _ c.index-words-0.result c.as_str-kind.result.now (two_words c.args.words.now c.requires) (take_rest c.args.words.now 1)
    c.index-words-0.is c.as_str-kind.ensures (sym c.eq.ensures ∙ c.if-eq.false) (sym c.eq-2.ensures ∙ c.if-eq-2.true) in
    record {
      ran = c.run_shell.ensures.later;
      read = omega arith;
      wrote = omega arith;
      cause = rw way c.run_shell.ensures.cause;
      others = rw way (refl, refl);
      program = rw way c.run_shell.ensures.told;
      answer = rw way (λ tells. (tells, refl));
      prompt = rw way (λ tells. (tells, refl));
    }

pub returns : goal.returns
returns g c =
    let way : way_of c.args.words.now ≡ program (take (length c.args.words.now - 1) (drop 1 c.args.words.now)) =
    way_of-command c.args.words.now _ c.index-words-0.result c.as_str-kind.result.now (two_words c.args.words.now c.requires) (take_rest c.args.words.now 1)
    c.index-words-0.is c.as_str-kind.ensures (sym c.eq.ensures ∙ c.if-eq.false) (sym c.eq-2.ensures ∙ c.if-eq-2.false) in
    record {
      ran = c.run_program.ensures.later;
      read = omega arith;
      wrote = omega arith;
      cause = rw way c.run_program.ensures.cause;
      others = rw way (refl, refl);
      program = rw way c.run_program.ensures.told;
      answer = rw way (λ tells. (tells, refl));
      prompt = rw way (λ tells. (tells, refl));
    }
