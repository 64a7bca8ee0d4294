use Rattle.std.proofs.Common.{refl, ◌∙◌}
use Rattle.far_dict.proofs.reading.visit_one.Goals as goal

pub returns-clause-called : goal.returns-clause-called
returns-clause-called g c = λ o. record { first = c.args.key; second = c.as_slice.result; shows = (refl, c.as_slice.ensures.value ∙ c.in-Ok.ensures.read o); called = c.visit.ensures }
