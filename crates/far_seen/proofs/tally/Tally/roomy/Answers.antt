use Rattle.std.proofs.Common.{ℕ, List, length, refl, ap, arith}
use Rattle.far_seen.specs.Listed.{all_of}
use Rattle.far_seen.specs.Parts.{Plain}
use Rattle.far_seen.proofs.Longs.{none_stored}
use Rattle.far_seen.proofs.Told.{begins_sound}
use Rattle.far_seen.proofs.tally.Tally.roomy.Goals as goal

pub invariant_of-result : goal.invariant_of-result
invariant_of-result g c =
    let f = g.O.Objects.far c.args.worker in
    let numbers = c.in-Ok-with_capacity-2.numbers.items in
    let none = ap (λ (xs : List ℕ). length xs) c.in-Ok-with_capacity-2.ensures.items in
    let p : Plain = record { far = all_of f c.new-longs.result.items numbers; seed = c.seeded.result; slots = c.in-Ok.slots; buckets = c.homes-buckets.result; count = 0 } in (
      none_stored f c.new-longs.result.items c.new-longs.ensures.items,
      begins_sound p c.slots_for.result c.homes-buckets.ensures.some c.slots_for.ensures c.in-Ok.ensures refl,
      record {
        each = λ k h. absurd (omega (arith, h, none));
        long = omega (arith, none, ap (λ (xs : List ℕ). length xs) c.in-Ok-with_capacity-3.ensures.items);
      },
    )
