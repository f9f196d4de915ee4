-- The row of an ident at the end is the one before, or is made of what both sides have come to.
use Rattle.std.proofs.Common.{◌≡◌, inl, inr, ℕ, Bool, List, Option, Some, None, option_map, refl, sym, ap, ◌∙◌, subst}
use Rattle.store_model.specs.Sides.{Evolves}
use Rattle.status_keeper.specs.declared.row.Row.{Row}
use Rattle.sync_plan.specs.declared.report.Side.{Side}
use Rattle.sync_plan.specs.declared.report.Side.TheVariants.{A, B}
use Rattle.sync_plan.specs.declared.rules.Rules.{Rules}
use Rattle.sync_plan.specs.declared.seen.Seen.{Seen}
use Rattle.sync_plan.specs.Merging.{Within}
use Rattle.sync_plan.specs.Plans.{seen_of, versions_of}
use Rattle.sync_plan.specs.Verdicts.{Versions, other_side, step_of}
use Rattle.sync_plan.specs.JobSteps.{written}
use Rattle.sync_plan.proofs.Rising.{first_cases}
use Rattle.side_reads.specs.Places.{href_on, etag_on}
use Rattle.job_runs.specs.Courses.{Course}
use Rattle.job_runs.specs.Taken.{IsTaken}
use Rattle.job_runs.specs.Writes.{IsForOthers, WroteFor, WroteAll, WroteSome, IsEtagOf}
use Rattle.job_runs.specs.Jobs.{IsMade}
use Rattle.job_writes.specs.Writings.{Sources, row_beside}
use Rattle.job_traces.proofs.StepLemmas.{Knows}
use Rattle.job_traces.proofs.MadeLemmas.{IsWroteRow}

-- of this side the row has the place of the seen item
place_of_source : (at : Side) (from : Seen) (href : List ℕ) (etag : Option (List ℕ)) → (href_on (other_side at) (row_beside at from href etag) ≡ Some from.href) × (etag_on (other_side at) (row_beside at from href etag) ≡ Some from.etag)
place_of_source A from href etag = (refl, refl)
place_of_source B from href etag = (refl, refl)

place_of_write : (at : Side) (from : Seen) (href : List ℕ) (etag : Option (List ℕ)) → (href_on at (row_beside at from href etag) ≡ Some href) × (etag_on at (row_beside at from href etag) ≡ etag)
place_of_write A from href etag = (refl, refl)
place_of_write B from href etag = (refl, refl)

beside_is : (at : Side) (from : Seen) (href : List ℕ) (etag : Option (List ℕ)) → ((row_beside at from href etag).ident ≡ from.ident) × (((row_beside at from href etag).fp).0 ≡ (from.fp).0)
beside_is A from href etag = (refl, refl)
beside_is B from href etag = (refl, refl)

-- one side where nothing is said to be written
nothing_said : (c peer : Course) (ident : List ℕ) (saw : Option (List ℕ)) (o : Option (Option (List ℕ))) → o ≡ None → WroteSome c peer ident saw o → Evolves (IsForOthers c ident) c.read c.exit
nothing_said c peer ident saw o is (inl others) = others
nothing_said c peer ident saw o is (inr all) = subst (λ (q : Option (Option (List ℕ))). WroteAll c peer ident saw q) is all

pub seen_is : (ident : List ℕ) (ss : List Seen) (s : Seen) → seen_of ident ss ≡ Some s → Within s ss × (s.ident ≡ ident)
seen_is ident ss s e = elim (first_cases (λ (y : Seen). y.ident) ident ss) [
  | inl none ↦ absurd (let clash : None ≡ Some s = sym none.0 ∙ e in cc)
  | inr some ↦
      let both : Some some.0 ≡ Some s = sym some.1 ∙ e in
      let one : some.0 ≡ s = cc in
      (subst (λ (y : Seen). Within y ss) one some.2, ap (λ (y : Seen). y.ident) (sym one) ∙ some.3)
]

same_some : (p q : Option (List ℕ)) → Some p ≡ Some q → p ≡ q
same_some p q e = cc

-- ---- the place of a row on one side

abbrev pub IsTakenBy : Course → List Seen → Type 0
IsTakenBy c ss = (s : Seen) → Within s ss → IsTaken c s.ident (s.fp).0 s.href s.etag

-- where nothing was written there: that of the item that was taken
pub record IsPlaceTaken (c : Course) (ident : List ℕ) (row : Row) : Type 0 where
  pub href : List ℕ
  pub etag : List ℕ
  pub href_is : href_on c.side row ≡ Some href
  pub etag_is : etag_on c.side row ≡ Some etag
  pub taken : IsTaken c ident (row.fp).0 href etag

pub place_taken : (c : Course) (ident : List ℕ) (ss : List Seen) (row : Row) (from : Seen) → IsTakenBy c ss → seen_of ident ss ≡ Some from → href_on c.side row ≡ Some from.href → etag_on c.side row ≡ Some from.etag → (row.fp).0 ≡ (from.fp).0 → IsPlaceTaken c ident row
place_taken c ident ss row from taken first href etag version =
    let is = seen_is ident ss from first in
    record {
      href = from.href;
      etag = from.etag;
      href_is = href;
      etag_is = etag;
      taken = subst (λ (v : List ℕ). IsTaken c ident v from.href from.etag) (sym version) (subst (λ (i : List ℕ). IsTaken c i (from.fp).0 from.href from.etag) is.1 (taken from is.0));
    }

-- ---- a row that is made

module _ (a b : Course) (x : Sources) (rows : List Row) (rules : Rules) (ident : List ℕ) where
  abbrev pub v : Versions
  v = versions_of ident x.a.seen.items x.b.seen.items rows

  abbrev pub says_on : Side → Option (Option (List ℕ))
  says_on side = written (step_of rules v) None side v

  abbrev pub Made : Option Row → Type 0
  Made after = IsMade a b ident v (says_on A) (says_on B) after

  made_of : (on_a on_b : Option (Option (List ℕ))) (after : Option Row) → says_on A ≡ on_a → says_on B ≡ on_b → IsMade a b ident v on_a on_b after → Made after
  made_of on_a on_b after is_a is_b made = subst (λ (o : Option (Option (List ℕ))). IsMade a b ident v o (says_on B) after) (sym is_a) (subst (λ (o : Option (Option (List ℕ))). IsMade a b ident v on_a o after) (sym is_b) made)

  -- nothing is written on either side
  pub made_still : (after : Option Row) → says_on A ≡ None → says_on B ≡ None → WroteSome a b ident v.a (says_on A) → WroteSome b a ident v.b (says_on B) → v.a ≡ option_map (λ r. (r.fp).0) after → v.b ≡ option_map (λ r. (r.fp).0) after → ((row : Row) → after ≡ Some row → (row.ident ≡ ident) × IsPlaceTaken a ident row × IsPlaceTaken b ident row) → Made after
  made_still after none_a none_b wrote_a wrote_b came_a came_b placed = made_of None None after none_a none_b (record {
    all_a = nothing_said a b ident v.a (says_on A) none_a wrote_a;
    all_b = nothing_said b a ident v.b (says_on B) none_b wrote_b;
    came_a = came_a;
    came_b = came_b;
    places = λ row is.
        let at = placed row is in
        let p = at.1 in
        let q = at.2 in
        (at.0, (p.href, p.etag, p.href_is, p.etag_is, p.taken), (q.href, q.etag, q.href_is, q.etag_is, q.taken));
  })

  -- it is written on side a alone
  pub made_on_a : (to : Option (List ℕ)) (after : Option Row) → says_on A ≡ Some to → says_on B ≡ None → (wrote : WroteFor a b ident v.a to) → WroteSome b a ident v.b (says_on B) → to ≡ option_map (λ r. (r.fp).0) after → v.b ≡ option_map (λ r. (r.fp).0) after → ((row : Row) → after ≡ Some row → (row.ident ≡ ident) × ((href_on a.side row ≡ Some wrote.href) × IsEtagOf (etag_on a.side row) wrote.new) × IsPlaceTaken b ident row) → Made after
  made_on_a to after is_a none_b wrote wrote_b came_a came_b placed = made_of (Some to) None after is_a none_b (record {
    all_a = wrote;
    all_b = nothing_said b a ident v.b (says_on B) none_b wrote_b;
    came_a = came_a;
    came_b = came_b;
    places = λ row is. let at = placed row is in let q = at.2 in (at.0, at.1, (q.href, q.etag, q.href_is, q.etag_is, q.taken));
  })

  pub made_on_b : (to : Option (List ℕ)) (after : Option Row) → says_on A ≡ None → says_on B ≡ Some to → WroteSome a b ident v.a (says_on A) → (wrote : WroteFor b a ident v.b to) → v.a ≡ option_map (λ r. (r.fp).0) after → to ≡ option_map (λ r. (r.fp).0) after → ((row : Row) → after ≡ Some row → (row.ident ≡ ident) × IsPlaceTaken a ident row × ((href_on b.side row ≡ Some wrote.href) × IsEtagOf (etag_on b.side row) wrote.new)) → Made after
  made_on_b to after none_a is_b wrote_a wrote came_a came_b placed = made_of None (Some to) after none_a is_b (record {
    all_a = nothing_said a b ident v.a (says_on A) none_a wrote_a;
    all_b = wrote;
    came_a = came_a;
    came_b = came_b;
    places = λ row is. let at = placed row is in let p = at.1 in (at.0, (p.href, p.etag, p.href_is, p.etag_is, p.taken), at.2);
  })

  -- a row beside a write on side a
  pub row_on_a : (waits : Bool) (knows : Knows a b A x rows rules) (row : Row) → a.side ≡ A → b.side ≡ B → says_on A ≡ Some v.b → says_on B ≡ None → IsTakenBy b x.b.seen.items → IsWroteRow a b A x rows rules ident waits knows row → WroteSome b a ident v.b (says_on B) → Made (Some row)
  row_on_a waits knows row side_a side_b is_a none_b taken w wrote_b =
      let to_is : w.to ≡ v.b = same_some w.to v.b (sym w.is ∙ is_a) in
      let first : seen_of ident x.b.seen.items ≡ Some w.from = w.source in
      let version : v.b ≡ Some ((w.from).fp).0 = ap (option_map (λ (y : Seen). (y.fp).0)) first in
      let beside = beside_is A w.from (w.wrote).href w.etag in
      let same_version : (row.fp).0 ≡ ((w.from).fp).0 = ap (λ (r : Row). (r.fp).0) w.is_row ∙ beside.1 in
      let written = place_of_write A w.from (w.wrote).href w.etag in
      let source = place_of_source A w.from (w.wrote).href w.etag in
      made_on_a w.to (Some row) w.is none_b w.wrote wrote_b (to_is ∙ (version ∙ ap Some (sym same_version))) (version ∙ ap Some (sym same_version))
      (λ r is.
      let one : row ≡ r = cc in
      subst (λ (y : Row). (y.ident ≡ ident) × ((href_on a.side y ≡ Some (w.wrote).href) × IsEtagOf (etag_on a.side y) (w.wrote).new) × IsPlaceTaken b ident y) one (
        ap (λ (y : Row). y.ident) w.is_row ∙ (beside.0 ∙ (seen_is ident x.b.seen.items w.from first).1),
        (ap (λ (s : Side). href_on s row) side_a ∙ (ap (href_on A) w.is_row ∙ written.0), subst (λ (o : Option (List ℕ)). IsEtagOf o (w.wrote).new) (sym (ap (λ (s : Side). etag_on s row) side_a ∙ (ap (etag_on A) w.is_row ∙ written.1))) w.told),
        place_taken b ident x.b.seen.items row w.from taken first (ap (λ (s : Side). href_on s row) side_b ∙ (ap (href_on B) w.is_row ∙ source.0)) (ap (λ (s : Side). etag_on s row) side_b ∙ (ap (etag_on B) w.is_row ∙ source.1)) same_version,
      ))

  pub row_on_b : (waits : Bool) (knows : Knows b a B x rows rules) (row : Row) → a.side ≡ A → b.side ≡ B → says_on A ≡ None → says_on B ≡ Some v.a → IsTakenBy a x.a.seen.items → IsWroteRow b a B x rows rules ident waits knows row → WroteSome a b ident v.a (says_on A) → Made (Some row)
  row_on_b waits knows row side_a side_b none_a is_b taken w wrote_a =
      let to_is : w.to ≡ v.a = same_some w.to v.a (sym w.is ∙ is_b) in
      let first : seen_of ident x.a.seen.items ≡ Some w.from = w.source in
      let version : v.a ≡ Some ((w.from).fp).0 = ap (option_map (λ (y : Seen). (y.fp).0)) first in
      let beside = beside_is B w.from (w.wrote).href w.etag in
      let same_version : (row.fp).0 ≡ ((w.from).fp).0 = ap (λ (r : Row). (r.fp).0) w.is_row ∙ beside.1 in
      let written = place_of_write B w.from (w.wrote).href w.etag in
      let source = place_of_source B w.from (w.wrote).href w.etag in
      made_on_b w.to (Some row) none_a w.is wrote_a w.wrote (version ∙ ap Some (sym same_version)) (to_is ∙ (version ∙ ap Some (sym same_version)))
      (λ r is.
      let one : row ≡ r = cc in
      subst (λ (y : Row). (y.ident ≡ ident) × IsPlaceTaken a ident y × ((href_on b.side y ≡ Some (w.wrote).href) × IsEtagOf (etag_on b.side y) (w.wrote).new)) one (
        ap (λ (y : Row). y.ident) w.is_row ∙ (beside.0 ∙ (seen_is ident x.a.seen.items w.from first).1),
        place_taken a ident x.a.seen.items row w.from taken first (ap (λ (s : Side). href_on s row) side_a ∙ (ap (href_on A) w.is_row ∙ source.0)) (ap (λ (s : Side). etag_on s row) side_a ∙ (ap (etag_on A) w.is_row ∙ source.1)) same_version,
        (ap (λ (s : Side). href_on s row) side_b ∙ (ap (href_on B) w.is_row ∙ written.0), subst (λ (o : Option (List ℕ)). IsEtagOf o (w.wrote).new) (sym (ap (λ (s : Side). etag_on s row) side_b ∙ (ap (etag_on B) w.is_row ∙ written.1))) w.told),
      ))
