use Rattle.std.proofs.Common.{◌≡◌, ◌≤◌, ◌<◌, Ok, Err, length, ap, ◌∙◌, subst, arith}
use Rattle.std.specs.Prelude.{MatchOption}
use Rattle.far_objects.specs.Far.{Far}
use Rattle.far_index.specs.Slots.{slot_at}
use Rattle.far_map.specs.Listed.{GivesAt}
use Rattle.far_map.specs.Slots.{entry_in}
use Rattle.far_map.proofs.Folding.{none_left, slot_made, slot_stops}
use Rattle.far_map.proofs.fold.fold_slots.Given as given
use Rattle.far_map.proofs.fold.fold_slots.Goals as goal

pub loop-place-preserved : goal.loop-place-preserved
loop-place-preserved g c =
    let at = c.loop-place in
    let so = at.invariant in
    let bytes = (g.O.Objects.far c.args.parts.now.worker).bytes in
    let slots = c.args.parts.now.near.slots in
    let low : at.place < length slots = omega (arith, c.loop-place-test.true, c.len-place-end.ensures) in
    let step = GivesAt (given.F-post g c.args.f.now) in
    record {
      far = c.fold_slot.ensures.far ∙ so.far;
      near = c.fold_slot.ensures.near ∙ so.near;
      folded = λ o r rest.
          let made = c.in-Ok-Ok.ensures.stepped (ap (λ (f : Far). f.honest) so.far ∙ o) in
          so.folded o r (slot_made step bytes slots at.place low at.folded c.in-Ok-Ok.field-0
          (subst (λ e. MatchOption e (c.in-Ok-Ok.field-0 ≡ Ok at.folded) (λ x. step at.folded x.0 x.1 c.in-Ok-Ok.field-0)) (λ i. entry_in (so.far i).bytes (slot_at (so.near i).slots at.place)) made)
          c.in-Ok-Ok.next r c.in-Ok-Ok.field-0-is rest);
    }

pub returns-in-Ok-Err-clause-folded : goal.returns-in-Ok-Err-clause-folded
returns-in-Ok-Err-clause-folded g c = λ o.
    let at = c.loop-place in
    let so = at.invariant in
    let bytes = (g.O.Objects.far c.args.parts.now.worker).bytes in
    let slots = c.args.parts.now.near.slots in
    let low : at.place < length slots = omega (arith, c.loop-place-test.true, c.len-place-end.ensures) in
    let step = GivesAt (given.F-post g c.args.f.now) in
    let made = c.in-Ok-Err.ensures.stepped (ap (λ (f : Far). f.honest) so.far ∙ o) in
    so.folded o (Err c.in-Ok-Err.stop) (slot_stops step bytes slots at.place low at.folded c.in-Ok-Err.field-0
    (subst (λ e. MatchOption e (c.in-Ok-Err.field-0 ≡ Ok at.folded) (λ x. step at.folded x.0 x.1 c.in-Ok-Err.field-0)) (λ i. entry_in (so.far i).bytes (slot_at (so.near i).slots at.place)) made)
    c.in-Ok-Err.stop c.in-Ok-Err.field-0-is)

pub returns-clause-folded : goal.returns-clause-folded
returns-clause-folded g c = λ o.
    let at = c.loop-place in
    let slots = c.args.parts.now.near.slots in
    let whole : length slots ≤ at.place = omega (arith, c.loop-place-test.false, c.len-place-end.ensures) in
    at.invariant.folded o (Ok at.folded)
    (none_left (GivesAt (given.F-post g c.args.f.now)) (g.O.Objects.far c.args.parts.now.worker).bytes slots at.place at.folded whole)
