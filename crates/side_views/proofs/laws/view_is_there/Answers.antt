use Rattle.side_views.proofs.ViewLemmas.{view_at, view_is}
use Rattle.side_views.proofs.laws.view_is_there.Goals as goal

pub returns : goal.returns
returns c ident s = (view_at ident s, λ o proper at. view_is ident s o proper at)
