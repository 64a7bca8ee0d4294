use Rattle.std.proofs.Common.{refl}
use Rattle.far_seen.specs.Parts.{Plain}
use Rattle.far_seen.specs.Stored.{with_longs}
use Rattle.far_seen.proofs.Longs.{none_stored}
use Rattle.far_seen.proofs.Told.{begins_empty, begins_stamps, begins_sound}
use Rattle.far_seen.proofs.seen.Seen.roomy.Goals as goal

pub invariant_of-result : goal.invariant_of-result
invariant_of-result g c =
    let f = g.O.Objects.far c.args.worker in
    let p : Plain = record { far = with_longs f c.new-longs.result.items; seed = c.seeded.result; slots = c.in-Ok.slots; buckets = c.homes-buckets.result; count = 0 } in (
      none_stored f c.new-longs.result.items c.new-longs.ensures.items,
      begins_sound p c.slots_for.result c.homes-buckets.ensures.some c.slots_for.ensures c.in-Ok.ensures refl,
    )

pub returns-clause-empty : goal.returns-clause-empty
returns-clause-empty g c =
    let f = g.O.Objects.far c.args.worker in
    let p : Plain = record { far = with_longs f c.new-longs.result.items; seed = c.seeded.result; slots = c.in-Ok.slots; buckets = c.homes-buckets.result; count = 0 } in
    begins_empty p c.slots_for.result c.homes-buckets.ensures.some c.slots_for.ensures c.in-Ok.ensures refl

pub returns-clause-stamps : goal.returns-clause-stamps
returns-clause-stamps g c =
    let f = g.O.Objects.far c.args.worker in
    let p : Plain = record { far = with_longs f c.new-longs.result.items; seed = c.seeded.result; slots = c.in-Ok.slots; buckets = c.homes-buckets.result; count = 0 } in
    begins_stamps p c.slots_for.result c.homes-buckets.ensures.some c.slots_for.ensures c.in-Ok.ensures refl
