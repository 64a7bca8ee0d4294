use Rattle.std.proofs.Common.{arith, rules}
use Rattle.std.proofs.lemmas.Grind.{common_steps}
use Rattle.tests_owner.proofs.owner.Owner.adopt.Goals as goal

pub invariant_of-self-2 : goal.invariant_of-self-2
invariant_of-self-2 g c = record {
  fits = record {
    number_is = search rules;
    few = search rules;
    scope = search rules;
    epoch = search rules;
    objects = grind (arith, common_steps);
    places = search rules;
    all_lens = search rules;
    all_held = search rules;
  };
}
