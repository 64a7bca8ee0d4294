use Rattle.std.proofs.lemmas.List.Sorted.{IsPermutation-refl}
use Rattle.far_policy.proofs.Choices.{few_rows, first_chosen}
use Rattle.far_policy.proofs.oldest.OldestPolicy.choose.Goals as goal

pub take_first-requires-clause-few : goal.take_first-requires-clause-few
take_first-requires-clause-few c = few_rows c.args.rows.now c.requires.rows

pub returns-clause-chosen : goal.returns-clause-chosen
returns-clause-chosen c =
    rw c.take_first.ensures (first_chosen c.args.rows.now c.args.rows.now c.args.most c.requires.rows (IsPermutation-refl c.args.rows.now))
