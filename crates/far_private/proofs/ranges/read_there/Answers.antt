use Rattle.std.proofs.Common.{◌≡◌, ◌+◌, ◌≤◌, ap, length, subst, sym, ◌∙◌}
use Rattle.std.specs.Prelude.{IfErr}
use Rattle.far_core.specs.state.CoreState.{core_state}
use Rattle.far_events.specs.state.State.{State}
use Rattle.far_alone.proofs.Bringing.{is_far}
use Rattle.far_private.specs.Causes.{StaysFar}
use Rattle.far_private.specs.Objects.{state_in}
use Rattle.far_private.proofs.Coming.{keeps_same}
use Rattle.far_private.proofs.Looks.{glance_far, glance_fault, long_there, read_there}
use Rattle.far_private.proofs.ranges.read_there.Goals as goal

pub glance-requires-clause-far : goal.glance-requires-clause-far
glance-requires-clause-far g c = is_far (state_in c.args.evac.now) 0 c.args.pointer c.args.evac.now.book.near.core.law c.requires.used c.requires.far

pub glance-requires-clause-inside : goal.glance-requires-clause-inside
glance-requires-clause-inside g c = subst (λ n. c.args.from + length c.args.out.now ≤ n) (sym (long_there (state_in c.args.evac.now) c.args.evac.now.book.near.core.law c.args.pointer c.requires.used c.requires.far)) c.requires.inside

pub returns : goal.returns
returns g c =
    let s = state_in c.args.evac.now in
    let law = c.args.evac.now.book.near.core.law in
    let x = c.glance.ensures.glances in
    let same : state_in c.glance.new.self ≡ s = ap (λ n. core_state n.core) x.near in
    record {
      keeps = keeps_same s (state_in c.glance.new.self) same;
      read = read_there s law c.args.pointer c.requires.used c.requires.far c.glance.result c.glance.new.out c.args.from (length c.args.out.now) c.glance.ensures.long x.read;
      far = subst (λ (t : State). IfErr c.glance.result (λ why. StaysFar _ g.D.Device.reads t c.args.pointer c.glance.new.self.book.device why)) (sym same)
          (glance_far s law c.args.pointer c.requires.used c.requires.far g.D.Device.reads c.args.from c.glance.new.out c.args.evac.now.book.device c.glance.new.self.book.device c.glance.result x.called x.whole);
      given = glance_fault s law c.args.pointer c.requires.used c.requires.far g.D.Device.reads c.args.from c.glance.new.out c.args.evac.now.book.device c.glance.new.self.book.device c.glance.result x.called;
      kept = c.glance.ensures.kept;
      idle = λ e. c.glance.ensures.round.0 ∙ e;
    }
