-- From the events of a run to its step on the versions of all idents.
use Rattle.std.proofs.Common.{◌≡◌, ◌⊎◌, inl, inr, ℕ, List, Option, Some, None, refl, sym, ◌∙◌, ap, subst}
use Rattle.std.specs.Option.{option_map}
use Rattle.status_keeper.specs.declared.row.Row.{Row}
use Rattle.status_keeper.specs.Rows.{row_of}
use Rattle.sync_plan.specs.declared.report.Side.{Side}
use Rattle.sync_plan.specs.declared.report.Side.TheVariants.{A, B}
use Rattle.sync_plan.specs.declared.rules.Rules.{Rules}
use Rattle.sync_plan.specs.declared.dues.Step.{Step}
use Rattle.sync_plan.specs.Verdicts.{Versions, other_side, step_of}
use Rattle.sync_plan.specs.JobSteps.{on_side, written, StatusStep, IdentStep, IsRemoved, IsPutOn, JobStep}
use Rattle.side_views.specs.Views.{view}
use Rattle.job_runs.specs.Courses.{Course, IsCourse}
use Rattle.job_runs.specs.Taken.{Took}
use Rattle.job_runs.specs.Writes.{WroteFor, WroteAll, WroteSome, after_all}
use Rattle.job_runs.specs.Jobs.{IsMade, IsRowOfHeld, JobOf, state_of, IsHonest, IsUntouchedOn, IsUntouched, OwnWrite}
use Rattle.job_runs.proofs.TakenLemmas.{took_saw}
use Rattle.job_runs.proofs.SideLemmas.{saw_is_view, others, refl_since, wrote_to, all_to, some_to, unwritten, written_stands, all_stands, some_stands, own_write}

same_versions : (v w : Versions) → v.a ≡ w.a → v.b ≡ w.b → v.s ≡ w.s → v ≡ w
same_versions v w at_a at_b at_s =
    let versions : Option (List ℕ) → Option (List ℕ) → Option (List ℕ) → Versions = λ a b s. record { a = a; b = b; s = s } in
    ap (λ (o : Option (List ℕ)). versions o v.b v.s) at_a ∙ (ap (λ (o : Option (List ℕ)). versions w.a o v.s) at_b ∙ ap (λ (o : Option (List ℕ)). versions w.a w.b o) at_s)

-- what was removed was removed by a write
removed_by : (ident : List ℕ) (c peer : Course) → IsUntouchedOn ident c → IsCourse c → IsHonest c → (saw : Option (List ℕ)) (o : Option (Option (List ℕ))) → Took c ident saw → WroteSome c peer ident saw o → (version : List ℕ) → view c.entry ident ≡ Some version → view c.exit ident ≡ None → WroteFor c peer ident saw None
removed_by ident c peer quiet course honest saw o took (inl none) version here lost = absurd (let clash : Some version ≡ None = sym here ∙ (sym (unwritten ident c peer quiet course honest (others ident c course honest c.read c.exit (refl_since ident c course honest c.read) (refl_since ident c course honest c.exit) none)) ∙ lost) in cc)
removed_by ident c peer quiet course honest saw None took (inr none) version here lost = absurd (let clash : Some version ≡ None = sym here ∙ (sym (unwritten ident c peer quiet course honest (others ident c course honest c.read c.exit (refl_since ident c course honest c.read) (refl_since ident c course honest c.exit) none)) ∙ lost) in cc)
removed_by ident c peer quiet course honest saw (Some to) took (inr wrote) version here lost = subst (λ (o : Option (List ℕ)). WroteFor c peer ident saw o) (sym (written_stands ident c peer quiet course honest to (wrote_to ident c peer quiet course honest saw to (took_saw c ident saw course honest.rows took) wrote)) ∙ lost) wrote

put_all : (step : Step) (answer : Option (List ℕ)) (v : Versions) (side : Side) → IsPutOn side step → after_all (written step answer side v) (on_side side v) ≡ on_side (other_side side) v
put_all step answer v A (inl is) = ap (λ (s : Step). after_all (written s answer A v) v.a) is
put_all step answer v B (inl is) = ap (λ (s : Step). after_all (written s answer B v) v.b) is
put_all step answer v A (inr is) = ap (λ (s : Step). after_all (written s answer A v) v.a) is
put_all step answer v B (inr is) = ap (λ (s : Step). after_all (written s answer B v) v.b) is

module _ (rules : Rules) (a b : Course) (before after : List Row) (honest_a : IsHonest a) (honest_b : IsHonest b) (job : JobOf rules a b before after) where
  abbrev pub at_entry : List ℕ → Versions
  at_entry = state_of a.entry b.entry before

  abbrev pub at_exit : List ℕ → Versions
  at_exit = state_of a.exit b.exit after

  -- what the run took to stand on both sides of an untouched ident stood there
  pub saw_is : (ident : List ℕ) → IsUntouched ident a b → (job.each ident).saw ≡ at_entry ident
  saw_is ident quiet =
      let one = job.each ident in
      same_versions one.saw (at_entry ident)
      (sym (saw_is_view ident a b quiet.on_a job.course_a honest_a one.saw.a (took_saw a ident one.saw.a job.course_a honest_a.rows one.took_a)))
      (sym (saw_is_view ident b a quiet.on_b job.course_b honest_b one.saw.b (took_saw b ident one.saw.b job.course_b honest_b.rows one.took_b)))
      one.saw_row

  row_step : (ident : List ℕ) (saw : Versions) (answer : Option (List ℕ)) → Took a ident saw.a → Took b ident saw.b → IsUntouched ident a b → saw ≡ at_entry ident → (row_of ident after ≡ row_of ident before) ⊎ IsMade a b ident saw (written (step_of rules saw) answer A saw) (written (step_of rules saw) answer B saw) (row_of ident after) ⊎ IsRowOfHeld rules saw (row_of ident after) → StatusStep rules (at_entry ident) (at_exit ident)
  row_step ident saw answer took_a took_b quiet is (inl same) = inl (ap (λ (o : Option Row). option_map (λ r. (r.fp).0) o) same)
  row_step ident saw answer took_a took_b quiet is (inr (inl made)) =
      let on_a = all_stands ident a b quiet.on_a job.course_a honest_a (written (step_of rules saw) answer A saw) (all_to ident a b quiet.on_a job.course_a honest_a saw.a (written (step_of rules saw) answer A saw) took_a made.all_a) in
      let on_b = all_stands ident b a quiet.on_b job.course_b honest_b (written (step_of rules saw) answer B saw) (all_to ident b a quiet.on_b job.course_b honest_b saw.b (written (step_of rules saw) answer B saw) took_b made.all_b) in
      inr (inl (on_a ∙ (ap (λ (v : Versions). after_all (written (step_of rules saw) answer A saw) v.a) (sym is) ∙ made.came_a), on_b ∙ (ap (λ (v : Versions). after_all (written (step_of rules saw) answer B saw) v.b) (sym is) ∙ made.came_b)))
  row_step ident saw answer took_a took_b quiet is (inr (inr held)) = inr (inr (record {
    moment = at_entry ident;
    was_a = inl refl;
    was_b = inl refl;
    same_row = refl;
    side = held.side;
    is_held = ap (λ (v : Versions). step_of rules v) (sym is) ∙ held.is_held;
    is_revert = held.is_revert;
    row = held.version ∙ ap (λ (v : Versions). on_side (other_side held.side) v) is;
  }))

  ident_step : (ident : List ℕ) → IsUntouched ident a b → IdentStep rules (at_entry ident) (at_exit ident) (OwnWrite ident a) (OwnWrite ident b)
  ident_step ident quiet =
      let one = job.each ident in
      let is = saw_is ident quiet in
      let to_a = written (step_of rules (at_entry ident)) one.answer A (at_entry ident) in
      let to_b = written (step_of rules (at_entry ident)) one.answer B (at_entry ident) in
      let on_a = some_to ident a b quiet.on_a job.course_a honest_a (view a.entry ident) to_a (subst (λ (v : Versions). Took a ident v.a) is one.took_a) (subst (λ (v : Versions). WroteSome a b ident v.a (written (step_of rules v) one.answer A v)) is one.writes_a) in
      let on_b = some_to ident b a quiet.on_b job.course_b honest_b (view b.entry ident) to_b (subst (λ (v : Versions). Took b ident v.b) is one.took_b) (subst (λ (v : Versions). WroteSome b a ident v.b (written (step_of rules v) one.answer B v)) is one.writes_b) in
      record {
        answer = one.answer;
        side_a = some_stands ident a b quiet.on_a job.course_a honest_a to_a on_a;
        side_b = some_stands ident b a quiet.on_b job.course_b honest_b to_b on_b;
        wrote_a = own_write ident a b quiet.on_a job.course_a honest_a to_a on_a;
        wrote_b = own_write ident b a quiet.on_b job.course_b honest_b to_b on_b;
        row = row_step ident one.saw one.answer one.took_a one.took_b quiet is one.row;
      }

  order : (side : Side) (gone put : List ℕ) → IsUntouched gone a b → IsRemoved side (at_entry gone) (at_exit gone) → IsUntouched put a b → IsPutOn side (step_of rules (at_entry put)) → on_side side (at_exit put) ≡ on_side (other_side side) (at_entry put)
  order A gone put quiet_gone ((version, here), lost) quiet_put is_put =
      let w = removed_by gone a b quiet_gone.on_a job.course_a honest_a (job.each gone).saw.a (written (step_of rules (job.each gone).saw) (job.each gone).answer A (job.each gone).saw) (job.each gone).took_a (job.each gone).writes_a version here lost in
      let v = at_entry put in
      let is = saw_is put quiet_put in
      let placed : IsPutOn A (step_of rules (job.each put).saw) = subst (λ (x : Versions). IsPutOn A (step_of rules x)) (sym is) is_put in
      let all : WroteAll a b put v.a (written (step_of rules v) (job.each put).answer A v) = subst (λ (x : Versions). WroteAll a b put x.a (written (step_of rules x) (job.each put).answer A x)) is (job.puts_first A gone put w placed) in
      let took : Took a put v.a = subst (λ (x : Versions). Took a put x.a) is (job.each put).took_a in
      all_stands put a b quiet_put.on_a job.course_a honest_a (written (step_of rules v) (job.each put).answer A v) (all_to put a b quiet_put.on_a job.course_a honest_a v.a (written (step_of rules v) (job.each put).answer A v) took all) ∙ put_all (step_of rules v) (job.each put).answer v A is_put
  order B gone put quiet_gone ((version, here), lost) quiet_put is_put =
      let w = removed_by gone b a quiet_gone.on_b job.course_b honest_b (job.each gone).saw.b (written (step_of rules (job.each gone).saw) (job.each gone).answer B (job.each gone).saw) (job.each gone).took_b (job.each gone).writes_b version here lost in
      let v = at_entry put in
      let is = saw_is put quiet_put in
      let placed : IsPutOn B (step_of rules (job.each put).saw) = subst (λ (x : Versions). IsPutOn B (step_of rules x)) (sym is) is_put in
      let all : WroteAll b a put v.b (written (step_of rules v) (job.each put).answer B v) = subst (λ (x : Versions). WroteAll b a put x.b (written (step_of rules x) (job.each put).answer B x)) is (job.puts_first B gone put w placed) in
      let took : Took b put v.b = subst (λ (x : Versions). Took b put x.b) is (job.each put).took_b in
      all_stands put b a quiet_put.on_b job.course_b honest_b (written (step_of rules v) (job.each put).answer B v) (all_to put b a quiet_put.on_b job.course_b honest_b v.b (written (step_of rules v) (job.each put).answer B v) took all) ∙ put_all (step_of rules v) (job.each put).answer v B is_put

  pub job_step : JobStep rules (λ (ident : List ℕ). IsUntouched ident a b) at_entry at_exit (λ (ident : List ℕ). OwnWrite ident a) (λ (ident : List ℕ). OwnWrite ident b)
  job_step = record {
    each = ident_step;
    puts_first = λ side gone put quiet_gone removed quiet_put is_put. order side gone put quiet_gone removed quiet_put is_put;
  }
