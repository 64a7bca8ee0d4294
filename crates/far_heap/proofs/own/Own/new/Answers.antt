use Rattle.std.proofs.Common.{ap, ◌∙◌}
use Rattle.atomic_table.specs.Seated.{TableId}
use Rattle.far_heap.specs.Mine.{newcomer}
use Rattle.far_heap.proofs.Newcomers.{new_mine}
use Rattle.far_heap.proofs.OwnSteps.{new_ok, new_structures}
use Rattle.far_heap.proofs.own.Own.new.Goals as goal

pub invariant_of-result : goal.invariant_of-result
invariant_of-result g c = (
  new_ok c.args.seat _ c.args.number c.in_ok-rows.rows c.requires.table c.requires.new c.requires.few c.in_ok-rows.ensures,
  new_structures c.args.number c.args.seat.view c.in_ok-rows.rows c.requires.new,
)

pub returns : goal.returns
returns g c = new_mine c.args.seat c.args.number c.requires.new ∙ ap (λ (t : TableId). newcomer t c.args.number c.args.seat.view.honest) c.requires.table
