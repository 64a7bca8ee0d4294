use Rattle.std.proofs.Common.{◌++◌, ◌∷◌, [], ◌%◌, ◌/◌, ap, ◌∙◌, length}
use Rattle.far_objects.specs.Far.{is_length}
use Rattle.far_map.specs.Entries.{encoded}
use Rattle.far_map.proofs.Encodings.{entry_fits}
use Rattle.far_map.proofs.entry.join_entry.Goals as goal

pub returns-clause-made : goal.returns-clause-made
unfolding encoded
returns-clause-made c =
    c.in_ok-extend_from_slice-3.ensures.items
    ∙ ap (λ xs. xs ++ c.args.value.now) (c.in_ok-extend_from_slice-2.ensures.items
    ∙ ap (λ xs. xs ++ c.args.key.now) (c.in_ok-extend_from_slice.ensures.items ∙ ap (λ xs. xs ++ (length c.args.key.now % 256) ∷ (length c.args.key.now / 256) ∷ []) c.in_ok-bytes.ensures.items))

pub returns-clause-fits : goal.returns-clause-fits
unfolding encoded
returns-clause-fits c =
    let made = c.in_ok-extend_from_slice-3.ensures.items
    ∙ ap (λ xs. xs ++ c.args.value.now) (c.in_ok-extend_from_slice-2.ensures.items
    ∙ ap (λ xs. xs ++ c.args.key.now) (c.in_ok-extend_from_slice.ensures.items ∙ ap (λ xs. xs ++ (length c.args.key.now % 256) ∷ (length c.args.key.now / 256) ∷ []) c.in_ok-bytes.ensures.items)) in
    ap (λ xs. is_length (length xs)) made ∙ entry_fits c.args.key.now c.args.value.now c.requires
