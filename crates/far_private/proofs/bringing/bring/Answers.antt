use Rattle.std.proofs.Common.{inl, inr}
use Rattle.far_private.proofs.Outside.{err_map}
use Rattle.far_private.proofs.bringing.bring.Goals as goal

pub returns-then-is_near-clause-away : goal.returns-then-is_near-clause-away
returns-then-is_near-clause-away g c = err_map c.move_near.result (λ why h. inr h) c.move_near.ensures.crowded

pub returns-else-is_near-clause-away : goal.returns-else-is_near-clause-away
returns-else-is_near-clause-away g c = err_map c.fetch_far.result (λ why h. inl h) c.fetch_far.ensures.far
