use Rattle.std.proofs.Common.{arith, rules}
use Rattle.std.proofs.lemmas.Grind.{common_steps}
use Rattle.tests_owner.proofs.owner.Owner.new.Goals as goal

pub invariant_of-result : goal.invariant_of-result
invariant_of-result g c = record {
  fits = record {
    number_is = search rules;
    few = search rules;
    scope = search rules;
    epoch = search rules;
    objects = grind (arith, common_steps);
    places = grind (arith, common_steps);
    all_lens = search rules;
    all_held = search rules;
  };
}
