use Rattle.std.proofs.Common.{refl, ◌∙◌}
use Rattle.far_dict.proofs.reading.fold_one.Goals as goal

pub returns-in-Ok-clause-stepped : goal.returns-in-Ok-clause-stepped
returns-in-Ok-clause-stepped g c = λ o. (c.args.key, c.as_slice.result, c.f.ensures, refl, c.as_slice.ensures.value ∙ c.in-Ok.ensures.read o)
