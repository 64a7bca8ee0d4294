use Rattle.std.proofs.Common.{◌≡◌, ◌+◌, ◌*◌, ◌∙◌, ap, arith, subst}
use Rattle.far_word.specs.declared.sizes.TheConstants.{LOG_WORDS}
use Rattle.far_core.specs.declared.machine.Core.{Core}
use Rattle.far_core.specs.laws.Observed.{dead_bytes, live_bytes, unused_bytes}
use Rattle.far_core.specs.state.CoreState.{core_state}
use Rattle.far_events.specs.state.State.{State}
use Rattle.far_log.specs.declared.row.LogRow.{LogRow}
use Rattle.far_private.specs.Objects.{state_in}
use Rattle.far_private.proofs.counting.bytes_of_log.Goals as goal

pub returns-clause-whole : goal.returns-clause-whole
returns-clause-whole g c =
    let s : State = state_in c.args.evac.now in
    let whole : live_bytes s c.args.log + dead_bytes s c.args.log + unused_bytes s c.args.log ≡ 8 * LOG_WORDS =
    subst (λ (x : Core). live_bytes (core_state x) c.args.log + dead_bytes (core_state x) c.args.log + unused_bytes (core_state x) c.args.log ≡ 8 * LOG_WORDS) c.core_of.ensures (c.bytes_make_log.ensures.sum c.args.log) in
    let live = ap (λ (row : LogRow). row.live) c.log.ensures.row in
    let dead = ap (λ (row : LogRow). row.dead) c.log.ensures.row in
    let unused = ap (λ (row : LogRow). row.unused) c.log.ensures.row in
    omega (arith, whole, live, dead, unused, c.from.ensures, c.from-2.ensures, c.from-3.ensures)

pub returns-clause-live : goal.returns-clause-live
returns-clause-live g c = c.from.ensures ∙ ap (λ (row : LogRow). row.live) c.log.ensures.row
