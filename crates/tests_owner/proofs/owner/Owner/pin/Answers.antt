use Rattle.std.proofs.Common.{arith, rules}
use Rattle.std.proofs.lemmas.Grind.{common_steps}
use Rattle.tests_owner.proofs.owner.Owner.pin.Goals as goal

pub invariant_of-self : goal.invariant_of-self
invariant_of-self g c = record {
  fits = record {
    number_is = search rules;
    few = search rules;
    scope = search rules;
    epoch = search rules;
    objects = search rules;
    places = grind (arith, common_steps);
    all_lens = search rules;
    all_held = search rules;
  };
}
