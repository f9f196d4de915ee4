-- What a `Planned` stands for.
use Rattle.outside.specs.declared.planned.Planned.{Planned}
use Rattle.outside.specs.Plans.{Course}

abbrev pub course_of : Planned → Course
course_of p = record { plan = p.plan; calls = p.calls }
