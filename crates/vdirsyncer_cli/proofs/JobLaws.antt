-- From one job over its folders to the same job over its places.
use Rattle.std.proofs.Common.{◌≡◌, inl, inr, ℕ, Bool, true, false, List, ap, sym, ◌∙◌, subst}
use Rattle.outside.specs.Files.{FolderState}
use Rattle.outfits.specs.Places.{Place, place_by}
use Rattle.store_model.specs.Sides.{SideState}
use Rattle.vdir_store.specs.Names.{SpeaksOf}
use Rattle.vdir_store.specs.Vdir.{side_of}
use Rattle.status_keeper.specs.Kept.{KeeperState}
use Rattle.status_keeper.specs.FileStatus.{state_of}
use Rattle.sync_plan.specs.declared.report.Report.{Report}
use Rattle.job_reads.specs.Readings.{span}
use Rattle.sync_run.specs.declared.job.SyncOrder.{SyncOrder}
use Rattle.sync_run.specs.Ends.{IsJob}
use Rattle.sync_run.specs.Whole.{counts, WholeRun}
use Rattle.sync_run.proofs.PromiseLemmas.{promise_kept}
use Rattle.vdirsyncer_cli.specs.declared.job.Job.{Job}
use Rattle.vdirsyncer_cli.specs.declared.opened.Opened.{Opened}
use Rattle.vdirsyncer_cli.specs.Places.{Places}
use Rattle.vdirsyncer_cli.specs.SamePlace.{IsSamePlace}
use Rattle.vdirsyncer_cli.specs.Opened.{HandsOut, TakesBack}
use Rattle.vdirsyncer_cli.specs.Jobs.{Three, TellsSide, PlacesRun, IsTold, three_of, places_of, span_in, Ran, JobAt, OverFolders}
use Rattle.vdirsyncer_cli.specs.CleanRuns.{KeepsPromise}
use Rattle.vdirsyncer_cli.proofs.OpenedLaws.{stands_at}

tells_side : (ending : List ℕ) (t u : Type 0) → (t → u) → TellsSide ending t → TellsSide ending u
tells_side ending t u more told = (told.0, more told.1)

-- what tells less at entry and more at exit
pub run_told : (order : SyncOrder) (ea eb : List ℕ) (old new : Three) (T_a T_a' T_b T_b' T_s T_s' t_a t_a' t_b t_b' t_s t_s' : Type 0) (report : Report) → (t_a → T_a) → (T_a' → t_a') → (t_b → T_b) → (T_b' → t_b') → (t_s → T_s) → (T_s' → t_s') →
    PlacesRun order ea eb old new T_a T_a' T_b T_b' T_s T_s' report → PlacesRun order ea eb old new t_a t_a' t_b t_b' t_s t_s' report
run_told order ea eb old new T_a T_a' T_b T_b' T_s T_s' t_a t_a' t_b t_b' t_s t_s' report fa ga fb gb fs gs run =
    record {
      later_a = run.later_a;
      later_b = run.later_b;
      later_k = run.later_k;
      told_a = λ told. let at = run.told_a (tells_side ea t_a T_a fa told) in (tells_side ea T_a' t_a' ga at.0, at.1);
      told_b = λ told. let at = run.told_b (tells_side eb t_b T_b fb told) in (tells_side eb T_b' t_b' gb at.0, at.1);
      told_k = λ told. let at = run.told_k (fs told) in (gs at.0, at.1);
      lines = run.lines;
      cause = run.cause;
      faults_a = run.faults_a;
      faults_b = run.faults_b;
      job = λ told_a told_b told_s. run.job (tells_side ea t_a T_a fa told_a) (tells_side eb t_b T_b fb told_b) (fs told_s);
    }

-- the same places
same_three : (x : Three) (a b s : Place) → x.a ≡ a → x.b ≡ b → x.s ≡ s → x ≡ record { a = a; b = b; s = s }
same_three x a b s of_a of_b of_s = λ i. record { a = of_a i; b = of_b i; s = of_s i }

-- what the two stores and the keeper over the folders say, said of the folders
pub record StoresAre (ending : List ℕ) (p p' : Place) (tells tells' : Type 0) (n n' : ℕ) (x x' : SideState) (T T' : Type 0) : Type 0 where
  pub count : n ≡ p.faults
  pub count' : p'.faults ≡ n'
  pub side : x ≡ side_of ending p.state
  pub side' : side_of ending p'.state ≡ x'
  pub told : SpeaksOf ending → tells → T
  pub told' : T' → tells'

pub record KeeperIs (p p' : Place) (tells tells' : Type 0) (n n' : ℕ) (k k' : KeeperState) (T T' : Type 0) : Type 0 where
  pub count : n ≡ p.faults
  pub count' : p'.faults ≡ n'
  pub state : k ≡ state_of p.state
  pub state' : state_of p'.state ≡ k'
  pub told : tells → T
  pub told' : T' → tells'

-- from stores and a keeper to the places of their folders
pub run_over : (order : SyncOrder) (ea eb : List ℕ) (old new : Three) (t_a t_a' t_b t_b' t_s t_s' : Type 0) (report : Report) (n n' m m' l l' : ℕ) (x x' y y' : SideState) (k k' : KeeperState) (X X' Y Y' K K' : Type 0) →
    StoresAre ea old.a new.a t_a t_a' n n' x x' X X' → StoresAre eb old.b new.b t_b t_b' m m' y y' Y Y' → KeeperIs old.s new.s t_s t_s' l l' k k' K K' →
    WholeRun order false false (counts n n' m m' l l') X X' Y Y' K K' (span k k' x x' y y') report →
    PlacesRun order ea eb old new t_a t_a' t_b t_b' t_s t_s' report
run_over order ea eb old new t_a t_a' t_b t_b' t_s t_s' report n n' m m' l l' x x' y y' k k' X X' Y Y' K K' at_a at_b at_s run =
    record {
      later_a = rw (at_a.count', ← at_a.count) run.later_a;
      later_b = rw (at_b.count', ← at_b.count) run.later_b;
      later_k = rw (at_s.count', ← at_s.count) run.later_k;
      told_a = λ told. let at = run.told_a (at_a.told told.0 told.1) in ((told.0, at_a.told' at.0), rw (at_a.side', ← at_a.side) at.1);
      told_b = λ told. let at = run.told_b (at_b.told told.0 told.1) in ((told.0, at_b.told' at.0), rw (at_b.side', ← at_b.side) at.1);
      told_k = λ told. let at = run.told_k (at_s.told told) in (at_s.told' at.0, rw (at_s.state', ← at_s.state) at.1);
      lines = rw (at_a.count', ← at_a.count, at_b.count', ← at_b.count) run.lines;
      cause = rw (at_a.count', ← at_a.count, at_b.count', ← at_b.count, at_s.count', ← at_s.count) run.cause;
      faults_a = rw (at_a.count', ← at_a.count) run.faults_a;
      faults_b = rw (at_b.count', ← at_b.count) run.faults_b;
      job = λ told_a told_b told_s. rw (at_a.side', ← at_a.side, at_b.side', ← at_b.side, at_s.state', ← at_s.state) (run.job (at_a.told told_a.0 told_a.1) (at_b.told told_b.0 told_b.1) (at_s.told told_s));
    }

-- a job ran over the folders of three places, which were handed out and put back
pub ran_of : {D : Type 0} (count : D → ℕ) (tells_of : D → Type 0) (state : D → FolderState) (old mid new : Places) (t0 t1 t2 : List ℕ → Type 0) (job : Job) (a b s : List ℕ) (dirs back : Opened D) (report : Report) →
    a ≡ job.a → b ≡ job.b → s ≡ job.status → (IsSamePlace job.a job.b job.status → ⊥) →
    HandsOut (place_by count state) tells_of old mid t0 t1 a b s dirs → OverFolders job.order count tells_of state job.ending_a job.ending_b dirs back report → TakesBack (place_by count state) tells_of mid new t1 t2 a b s back → Ran old new t0 t2 job report
ran_of count tells_of state old mid new t0 t1 t2 job a b s dirs back report ea eb es apart out over given =
    let before = same_three (three_of old job) (place_by count state dirs.a) (place_by count state dirs.b) (place_by count state dirs.status) (stands_at old job.a _ (ap old (sym ea) ∙ out.at_a)) (stands_at old job.b _ (ap old (sym eb) ∙ out.at_b)) (stands_at old job.status _ (ap old (sym es) ∙ out.at_s)) in
    let after = same_three (three_of new job) (place_by count state back.a) (place_by count state back.b) (place_by count state back.status) (stands_at new job.a _ (ap new (sym ea) ∙ given.at_a)) (stands_at new job.b _ (ap new (sym eb) ∙ given.at_b)) (stands_at new job.status _ (ap new (sym es) ∙ given.at_s)) in
    let here = run_told job.order job.ending_a job.ending_b (places_of count state dirs) (places_of count state back) _ _ _ _ _ _ (t0 job.a) (t2 job.a) (t0 job.b) (t2 job.b) (t0 job.status) (t2 job.status) report
    (λ told. out.tells_a (subst t0 (sym ea) told))
    (λ told. subst t2 ea (given.tells_a told))
    (λ told. out.tells_b (subst t0 (sym eb) told))
    (λ told. subst t2 eb (given.tells_b told))
    (λ told. out.tells_s (subst t0 (sym es) told))
    (λ told. subst t2 es (given.tells_s told))
    over
    in
    let at_new = subst (λ (x : Three). PlacesRun job.order job.ending_a job.ending_b (record { a = place_by count state dirs.a; b = place_by count state dirs.b; s = place_by count state dirs.status }) x (t0 job.a) (t2 job.a) (t0 job.b) (t2 job.b) (t0 job.status) (t2 job.status) report) (sym after) here in
    record {
      apart = apart;
      step = subst (λ (x : Three). PlacesRun job.order job.ending_a job.ending_b x (three_of new job) (t0 job.a) (t2 job.a) (t0 job.b) (t2 job.b) (t0 job.status) (t2 job.status) report) (sym before) at_new;
      others = λ q x y z. given.others q (λ e. x (e ∙ ea)) (λ e. y (e ∙ eb)) (λ e. z (e ∙ es)) ∙ out.others q (λ e. x (e ∙ ea)) (λ e. y (e ∙ eb)) (λ e. z (e ∙ es));
      others_tell = λ q x y z told. given.others_tell q (λ e. x (e ∙ ea)) (λ e. y (e ∙ eb)) (λ e. z (e ∙ es)) (out.others_tell q (λ e. x (e ∙ ea)) (λ e. y (e ∙ eb)) (λ e. z (e ∙ es)) told);
    }

-- a job that ran, over places that tell their states
pub job_in : (old new : Places) (tells tells' : List ℕ → Type 0) (job : Job) (report : Report) → Ran old new tells tells' job report → IsTold tells job → IsJob (job.order).force_delete (job.order).rules false false (span_in old new job) report
job_in old new tells tells' job report ran told = ran.step.job (told.speaks_a, told.tells_a) (told.speaks_b, told.tells_b) told.tells_s

pub keeps_promise : (old new : Places) (tells tells' : List ℕ → Type 0) (job : Job) (report : Report) → JobAt old new tells tells' job report → KeepsPromise old new tells job
keeps_promise old new tells tells' job report (inl ran) apart told = promise_kept (job.order).force_delete (job.order).rules false false (span_in old new job) report (job_in old new tells tells' job report ran told)
keeps_promise old new tells tells' job report (inr same) apart told = absurd (apart same.same)

-- a test that says no
pub not_so : (b : Bool) (P : Type 0) → b ≡ false → (P → b ≡ true) → P → ⊥
not_so b P denied shown p = let clash : false ≡ true = sym denied ∙ shown p in cc

-- the side of a folder, by the ending that its store was set up with
pub side_by : (given kept : List ℕ) (s : FolderState) (x : SideState) → kept ≡ given → side_of kept s ≡ x → side_of given s ≡ x
side_by given kept s x e h = sym (ap (λ (y : List ℕ). side_of y s) e) ∙ h
