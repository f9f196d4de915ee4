-- What the calls of a keeper in memory do.
use Rattle.std.proofs.Common.{◌≡◌, ℕ, List, [], ◌∷◌, ◌++◌, Ok, refl}
use Rattle.std.proofs.lemmas.Slice.Eq.{bytes_eq-Decides}
use Rattle.outside.specs.Etag.{etag}
use Rattle.outside.proofs.Runs.{Runs-refl}
use Rattle.status_keeper.specs.declared.row.Row.{Row}
use Rattle.status_keeper.specs.Kept.{Tagged, KeeperEvent, KeeperState, Committed}
use Rattle.status_keeper.specs.KeeperCalls.{AfterPlacing, Commits}
use Rattle.status_keeper.specs.Status.{text_of}
use Rattle.status_keeper.specs.MemStatus.{found_of, state_with}

-- the rows were kept
pub rows_kept : (before now rows : List Row) (past later : List KeeperEvent) → now ≡ rows → later ≡ past ++ Committed rows ∷ [] → AfterPlacing (found_of before) (state_with before past) (Commits (found_of before) rows (state_with now later))
rows_kept before now rows past later e p =
    let s : KeeperState = state_with before past in
    let tag : List ℕ = etag (text_of before) in
    record {
      asked = s;
      edits = Runs-refl s;
      moment = s;
      later = Runs-refl s;
      does = ((bytes_eq-Decides tag tag).1 refl, λ i. record { kept = Ok (e i); stamp = Tagged (etag (text_of (e i))); trail = p i; beside = [] });
    }
