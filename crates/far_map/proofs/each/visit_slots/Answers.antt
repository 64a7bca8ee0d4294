use Rattle.std.proofs.Common.{◌≡◌, ◌≤◌, ◌<◌, length, ap, ◌∙◌, subst, arith}
use Rattle.std.specs.Prelude.{MatchOption}
use Rattle.std.specs.Fn.{CalledAtTwo}
use Rattle.far_objects.specs.Far.{Far}
use Rattle.far_index.specs.Slots.{slot_at}
use Rattle.far_map.specs.Slots.{entry_in}
use Rattle.far_map.proofs.Listing.{called_next, called_whole}
use Rattle.far_map.proofs.each.visit_slots.Goals as goal

pub loop-place-preserved : goal.loop-place-preserved
loop-place-preserved g c =
    let at = c.loop-place in
    let so = at.invariant in
    let bytes = (g.O.Objects.far c.args.parts.now.worker).bytes in
    let slots = c.args.parts.now.near.slots in
    let low : at.place < length slots = omega (arith, c.loop-place-test.true, c.len-place-end.ensures) in
    record {
      callable = c.visit_slot.ensures.callable;
      far = c.visit_slot.ensures.far ∙ so.far;
      near = c.visit_slot.ensures.near ∙ so.near;
      called = λ o.
          let told = c.in-Ok.ensures.called (ap (λ (f : Far). f.honest) so.far ∙ o) in
          called_next (λ p e q. CalledAtTwo g.F.FnMut p e.0 e.1 tt q) bytes slots at.place c.args.visit.now at.visit c.visit_slot.new.visit low (so.called o)
          (subst (λ e. MatchOption e (c.visit_slot.new.visit ≡ at.visit) (λ x. CalledAtTwo g.F.FnMut at.visit x.0 x.1 tt c.visit_slot.new.visit))
          (λ i. entry_in (so.far i).bytes (slot_at (so.near i).slots at.place)) told);
    }

pub returns-clause-called : goal.returns-clause-called
returns-clause-called g c = λ o.
    let at = c.loop-place in
    let slots = c.args.parts.now.near.slots in
    let whole : length slots ≤ at.place = omega (arith, c.loop-place-test.false, c.len-place-end.ensures) in
    called_whole (λ p e q. CalledAtTwo g.F.FnMut p e.0 e.1 tt q) (g.O.Objects.far c.args.parts.now.worker).bytes slots at.place c.args.visit.now at.visit whole (at.invariant.called o)
