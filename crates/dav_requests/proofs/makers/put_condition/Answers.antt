use Rattle.dav_requests.proofs.makers.put_condition.Goals as goal

pub returns-in-None : goal.returns-in-None
returns-in-None c = rw c.in-None.is c.put_field-in-None.ensures
