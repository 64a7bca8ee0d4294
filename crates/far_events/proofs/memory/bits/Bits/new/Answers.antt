use Rattle.far_events.specs.state.Bits.{bit_in}
use Rattle.far_events.proofs.Begins.{row_of}
use Rattle.far_events.proofs.Bits.{none_set}
use Rattle.far_events.proofs.memory.bits.Bits.new.Goals as goal

pub returns-clause-clear : goal.returns-clause-clear
unfolding bit_in
returns-clause-clear c = none_set c.in_ok-vec.field-0.items (row_of _ _ 0 (c.in_ok-vec.ensures.items_if_clones_equal (λ y e. e)))
