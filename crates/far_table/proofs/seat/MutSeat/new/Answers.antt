use Rattle.std.proofs.Common.{◌∙◌, sym, ap}
use Rattle.std.specs.Option.{unwrap_or}
use Rattle.far_core.specs.state.CoreState.{core_state}
use Rattle.far_table.specs.Tells.{owner_of}
use Rattle.far_table.proofs.Seating.{owner_starts}
use Rattle.far_table.proofs.seat.MutSeat.new.Goals as goal

pub invariant_of-result : goal.invariant_of-result
invariant_of-result g c = owner_starts (core_state c.args.core.now) c.keeps_law.ensures.law (owner_of c.args.seat.me.0).honest c.args.number c.requires.some _ _ c.args.seat.me.0 _ _
    c.requires.table.0 c.requires.table.1 c.requires.owner (λ e is. sym (c.unwrap_or-epoch.ensures ∙ ap (λ x. unwrap_or x 0) (c.remembered.ensures ∙ is))) c.in_ok-places.ensures c.requires.there
