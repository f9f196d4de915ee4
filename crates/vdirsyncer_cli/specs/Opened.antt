-- The three places of a job, handed out and given back (this project's own).
use Rattle.std.specs.Prelude.{◌≡◌, ◌≢◌, ℕ, List, Some, None}
use Rattle.outfits.specs.Places.{Place}
use Rattle.vdirsyncer_cli.specs.Places.{Places}
use Rattle.vdirsyncer_cli.specs.declared.opened.Opened.{Opened}

-- three places are handed out as they stand
pub record HandsOut {D : Type 0} (place_of : D → Place) (dir_tells : D → Type 0) (old new : Places) (tells tells' : List ℕ → Type 0) (a b s : List ℕ) (dirs : Opened D) : Type 0 where
  pub at_a : old a ≡ Some (place_of dirs.a)
  pub at_b : old b ≡ Some (place_of dirs.b)
  pub at_s : old s ≡ Some (place_of dirs.status)
  pub tells_a : tells a → dir_tells dirs.a
  pub tells_b : tells b → dir_tells dirs.b
  pub tells_s : tells s → dir_tells dirs.status
  pub out_a : new a ≡ None
  pub out_b : new b ≡ None
  pub out_s : new s ≡ None
  pub others : (q : List ℕ) → q ≢ a → q ≢ b → q ≢ s → new q ≡ old q
  pub others_tell : (q : List ℕ) → q ≢ a → q ≢ b → q ≢ s → tells q → tells' q

-- three places are put back
pub record TakesBack {D : Type 0} (place_of : D → Place) (dir_tells : D → Type 0) (old new : Places) (tells tells' : List ℕ → Type 0) (a b s : List ℕ) (dirs : Opened D) : Type 0 where
  pub at_a : new a ≡ Some (place_of dirs.a)
  pub at_b : new b ≡ Some (place_of dirs.b)
  pub at_s : new s ≡ Some (place_of dirs.status)
  pub tells_a : dir_tells dirs.a → tells' a
  pub tells_b : dir_tells dirs.b → tells' b
  pub tells_s : dir_tells dirs.status → tells' s
  pub others : (q : List ℕ) → q ≢ a → q ≢ b → q ≢ s → new q ≡ old q
  pub others_tell : (q : List ℕ) → q ≢ a → q ≢ b → q ≢ s → tells q → tells' q
