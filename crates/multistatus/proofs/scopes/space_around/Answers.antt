use Rattle.std.proofs.Common.{◌≡◌, ◌-◌, Some, None, reverse, take, sym, ◌∙◌, ap, arith}
use Rattle.multistatus.specs.declared.reader.Level.{Level}
use Rattle.multistatus.specs.Namespaces.{space_of}
use Rattle.multistatus.specs.Reader.{scope_of}
use Rattle.multistatus.proofs.Scoping.{found_inside, found_outside, scope_around}
use Rattle.multistatus.proofs.scopes.space_around.Goals as goal

pub returns-in-Some : goal.returns-in-Some
returns-in-Some c =
    let here : Some c.in-Some.space ≡ space_of c.args.prefix.now c.index-levels-n.result.declared = c.in-Some.ensures ∙ ap (λ (l : Level). space_of c.args.prefix.now l.declared) (sym c.index-levels-n.is) in
    found_inside c.args.prefix.now c.index-levels-n.result.declared (scope_of (reverse (take (c.loop-n.n - 1) c.args.levels.now))) c.in-Some.space here
    ∙ ap (space_of c.args.prefix.now) (scope_around c.args.levels.now c.loop-n.n c.index-levels-n.result (omega arith) (omega (arith, c.loop-n.invariant.within)) c.index-levels-n.is)
    ∙ c.loop-n.invariant.same

pub loop-n-preserved : goal.loop-n-preserved
loop-n-preserved c =
    let here : None ≡ space_of c.args.prefix.now c.index-levels-n.result.declared = c.in_default.ensures ∙ ap (λ (l : Level). space_of c.args.prefix.now l.declared) (sym c.index-levels-n.is) in
    record {
      within = omega (arith, c.loop-n.invariant.within);
      same =
          found_outside c.args.prefix.now c.index-levels-n.result.declared (scope_of (reverse (take (c.loop-n.n - 1) c.args.levels.now))) here
          ∙ ap (space_of c.args.prefix.now) (scope_around c.args.levels.now c.loop-n.n c.index-levels-n.result (omega arith) (omega (arith, c.loop-n.invariant.within)) c.index-levels-n.is)
          ∙ c.loop-n.invariant.same;
    }
