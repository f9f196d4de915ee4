use Rattle.std.proofs.Common.{codes}
use Rattle.std.proofs.lemmas.Result.{on_ok_weaker}
use Rattle.dav_requests.specs.Bodies.{escaped}
use Rattle.dav_requests.proofs.Parts.{three_parts}
use Rattle.dav_requests.proofs.bodies.put_namespaces.Goals as goal

pub returns : goal.returns
returns c =
    on_ok_weaker c.put-2.result
    (λ last. three_parts c.args.out.now.items (codes " xmlns:d=\"DAV:\" xmlns:x=\"") (escaped c.args.space.now) (codes "\">") _ _ _ c.in_ok-put.ensures c.in_ok-put_escaped.ensures last)
    c.put-2.ensures
