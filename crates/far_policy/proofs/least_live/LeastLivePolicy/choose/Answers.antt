use Rattle.std.proofs.Common.{◌∙◌, sym, subst, List, length, take, rules, IsPermutation}
use Rattle.std.proofs.lemmas.List.{length-take-le, take-map}
use Rattle.std.proofs.lemmas.List.Sorted.{answers_always}
use Rattle.far_log.specs.declared.row.LogRow.{LogRow}
use Rattle.far_policy.proofs.Choices.{few_rows, first_chosen}
use Rattle.far_policy.proofs.LeastOnes.{sorted_takes}
use Rattle.far_policy.proofs.least_live.LeastLivePolicy.choose.Goals as goal

pub slice_bounds-copied-end : goal.slice_bounds-copied-end
slice_bounds-copied-end c = few_rows c.args.rows.now c.requires.rows

pub slice_bounds-ranked-end : goal.slice_bounds-ranked-end
slice_bounds-ranked-end c = sym (length-take-le (length c.args.rows.now) _ (few_rows c.args.rows.now c.requires.rows))

pub copy_from_slice-requires : goal.copy_from_slice-requires
copy_from_slice-requires c = length-take-le (length c.args.rows.now) _ (few_rows c.args.rows.now c.requires.rows)

pub returns-clause-chosen : goal.returns-clause-chosen
returns-clause-chosen c =
    let sorted : List LogRow = c.sort_unstable_by_key.new.self in
    let moved : IsPermutation c.args.rows.now sorted = subst (λ (xs : List LogRow). IsPermutation xs sorted) c.copy_from_slice.ensures.after c.sort_unstable_by_key.ensures.permutation in
    rw c.take_first.ensures (first_chosen c.args.rows.now sorted c.args.most c.requires.rows moved)

pub returns-clause-taken : goal.returns-clause-taken
returns-clause-taken c =
    let sorted : List LogRow = c.sort_unstable_by_key.new.self in
    let moved : IsPermutation c.args.rows.now sorted = subst (λ (xs : List LogRow). IsPermutation xs sorted) c.copy_from_slice.ensures.after c.sort_unstable_by_key.ensures.permutation in (
      take c.args.most sorted,
      sorted_takes c.args.rows.now sorted c.args.most c.requires.rows moved (c.sort_unstable_by_key.ensures.sorted (λ (row : LogRow). (row.live, row.log)) (answers_always _ _ _ (λ f a r g h. search rules))),
      c.take_first.ensures ∙ take-map (λ (row : LogRow). row.log) c.args.most sorted,
    )
