use Rattle.std.proofs.Common.{◌≤◌, ◌<◌, refl, ap, length, arith}
use Rattle.std.proofs.lemmas.List.{length-replicate}
use Rattle.far_index.specs.declared.slot.Slot.{Slot}
use Rattle.far_index.specs.declared.slot.Slot.TheVariants.{Empty}
use Rattle.far_map.specs.declared.map.TheConstants.{HOMES}
use Rattle.far_map.proofs.Told.{all_replicated, begins_empty, begins_sound}
use Rattle.far_map.proofs.map.Map.new.Goals as goal

pub invariant_of-result : goal.invariant_of-result
invariant_of-result g c =
    let slots = c.in-Ok.slots in
    let fits : HOMES ≤ length slots = omega (arith, c.slots_for.ensures, ap (length {A = Slot}) c.in-Ok.ensures, length-replicate c.slots_for.result Empty) in
    let some : 0 < HOMES = omega arith in
    begins_sound record { far = g.O.Objects.far c.args.worker; seed = c.seeded.result; slots = slots; buckets = HOMES; count = 0 } some fits (all_replicated c.slots_for.result slots c.in-Ok.ensures) refl c.requires.none

pub returns-clause-empty : goal.returns-clause-empty
returns-clause-empty g c =
    let slots = c.in-Ok.slots in
    let fits : HOMES ≤ length slots = omega (arith, c.slots_for.ensures, ap (length {A = Slot}) c.in-Ok.ensures, length-replicate c.slots_for.result Empty) in
    let some : 0 < HOMES = omega arith in
    begins_empty record { far = g.O.Objects.far c.args.worker; seed = c.seeded.result; slots = slots; buckets = HOMES; count = 0 } some fits (all_replicated c.slots_for.result slots c.in-Ok.ensures) refl c.requires.none
