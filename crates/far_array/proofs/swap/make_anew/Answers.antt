use Rattle.std.proofs.Common.{length, refl}
use Rattle.far_array.proofs.Reached.{is_long, not_made}
use Rattle.far_array.proofs.swap.make_anew.Goals as goal

pub returns-in-Ok-clause-made : goal.returns-in-Ok-clause-made
returns-in-Ok-clause-made g c = record { number = c.in-Ok.number; makes = c.in-Ok.ensures.made; later_is = refl }

pub returns-in-Err-clause-why : goal.returns-in-Err-clause-why
returns-in-Err-clause-why g c = not_made g.O.Objects.unmade (length c.args.all.now) c.in-Err.why (is_long (length c.args.all.now) c.requires.some c.requires.fits) c.in-Err.ensures.why
