use Rattle.std.proofs.Common.{◌≡◌, ◌⊎◌, inl, inr, ℕ, List, Option}
use Rattle.store_model.specs.Sides.{SideState}
use Rattle.side_views.specs.Views.{view, IsAt, IsProperAt}
use Rattle.side_views.proofs.ViewLemmas.{view_at, view_is}
use Rattle.side_views.proofs.SameLemmas.{once_ends}
use Rattle.side_views.proofs.laws.written_once.Goals as goal

either : (ident : List ℕ) (to o : Option (List ℕ)) (t : SideState) → IsProperAt ident t → IsAt ident t o ⊎ IsAt ident t to → (view t ident ≡ o) ⊎ (view t ident ≡ to)
either ident to o t proper (inl at) = inl (view_is ident t o proper at)
either ident to o t proper (inr at) = inr (view_is ident t to proper at)

pub returns : goal.returns
returns c ident to s t proper quiet once =
    let ends = once_ends ident to (view s ident) s t proper quiet (view_at ident s) once in
    (either ident to (view s ident) t ends.1 ends.0, ends.1)
