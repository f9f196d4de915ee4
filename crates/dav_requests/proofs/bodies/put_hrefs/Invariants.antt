use Rattle.std.proofs.Common.{◌≡◌, ◌++◌, drop}
use Rattle.std.specs.List.{flat_map}
use Rattle.dav_requests.specs.Bodies.{href_element}
use Rattle.dav_requests.proofs.bodies.put_hrefs.Given as goal

abbrev pub invariant-loop-href : goal.invariant-loop-href
invariant-loop-href l = l.out.items ++ flat_map href_element (drop l.href-index l.hrefs) ≡ l.initial.out.items ++ flat_map href_element l.hrefs
