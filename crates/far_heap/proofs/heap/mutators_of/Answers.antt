use Rattle.std.proofs.Common.{◌+◌, ◌<◌, ℕ, [], ◌∷◌, ◌++◌, length, sym, subst, ◌∙◌, arith}
use Rattle.std.proofs.lemmas.List.FromFn.{map-range_with_len_more}
use Rattle.far_heap.specs.Blanks.{AreNew}
use Rattle.far_heap.specs.Mine.{newcomer}
use Rattle.far_heap.proofs.NewSeats.{first_new}
use Rattle.far_heap.proofs.heap.mutators_of.Goals as goal

pub loop-number-preserved : goal.loop-number-preserved
loop-number-preserved g c =
    let heap = g.K.HeapName.heap in
    let n : ℕ = c.loop-number.number in
    let i = c.loop-number.invariant in
    let test = c.loop-number-test.true in
    let sum = i.2 in
    let made = i.3 in
    let all = i.4 in
    let room = i.5 in
    let fewer = c.remove-seat.ensures.len in
    let more = c.push_reserved.ensures.len in
    let same = c.push_reserved.ensures.capacity in
    let some : 0 < length c.loop-number.seats.items = omega arith in
    let first = first_new heap.table heap.honest n c.loop-number.seats.items c.remove-seat.result i.0 some c.remove-seat.ensures.value in (
      subst (AreNew heap.table heap.honest (n + 1)) (sym c.remove-seat.ensures.items) first.3,
      c.push_reserved.ensures.items ∙ (λ k. i.1 k ++ c.in_ok-mutator.ensures k ∷ []) ∙ sym (map-range_with_len_more (λ m. newcomer heap.table m heap.honest) 0 n n (omega arith)),
      omega arith,
      omega arith,
      all,
      omega arith,
    )

pub new-requires-clause-table : goal.new-requires-clause-table
new-requires-clause-table g c =
    let heap = g.K.HeapName.heap in
    let i = c.loop-number.invariant in
    let test = c.loop-number-test.true in
    let sum = i.2 in
    let all = i.4 in
    let some : 0 < length c.loop-number.seats.items = omega arith in
    (first_new heap.table heap.honest c.loop-number.number c.loop-number.seats.items c.remove-seat.result i.0 some c.remove-seat.ensures.value).0

pub new-requires-clause-honest : goal.new-requires-clause-honest
new-requires-clause-honest g c =
    let heap = g.K.HeapName.heap in
    let i = c.loop-number.invariant in
    let test = c.loop-number-test.true in
    let sum = i.2 in
    let all = i.4 in
    let some : 0 < length c.loop-number.seats.items = omega arith in
    (first_new heap.table heap.honest c.loop-number.number c.loop-number.seats.items c.remove-seat.result i.0 some c.remove-seat.ensures.value).1

pub new-requires-clause-new : goal.new-requires-clause-new
new-requires-clause-new g c =
    let heap = g.K.HeapName.heap in
    let i = c.loop-number.invariant in
    let test = c.loop-number-test.true in
    let sum = i.2 in
    let all = i.4 in
    let some : 0 < length c.loop-number.seats.items = omega arith in
    (first_new heap.table heap.honest c.loop-number.number c.loop-number.seats.items c.remove-seat.result i.0 some c.remove-seat.ensures.value).2
