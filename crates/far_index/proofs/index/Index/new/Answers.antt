use Rattle.std.proofs.Common.{◌∙◌}
use Rattle.far_index.specs.Slots.{slots_of}
use Rattle.far_index.proofs.Words.{empties}
use Rattle.far_index.proofs.index.Index.new.Goals as goal

pub returns : goal.returns
returns c =
    (λ k. slots_of (c.in_ok-words.ensures.items_if_clones_equal (λ y e. e) k) (c.in_ok-rests.ensures.items_if_clones_equal (λ y e. e) k)) ∙ empties c.args.len
