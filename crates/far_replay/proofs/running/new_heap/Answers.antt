use Rattle.std.proofs.Common.{◌∙◌, sym}
use Rattle.std.proofs.lemmas.Bool.{true_from_ne_false}
use Rattle.far_events.specs.state.Shape.{is_shape}
use Rattle.far_replay.proofs.running.new_heap.Goals as goal

pub returns-clause-range : goal.returns-clause-range
returns-clause-range c = true_from_ne_false (is_shape c.args.shape) (λ no. let odd = sym (c.without_stored.ensures.shape.1 no) ∙ c.in_ok-core.was in absurd cc)
