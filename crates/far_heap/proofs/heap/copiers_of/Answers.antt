use Rattle.std.proofs.Common.{◌+◌, ◌<◌, ℕ, length, sym, ap, subst, ◌∙◌, arith}
use Rattle.far_table.specs.Seats.{CopierSeated}
use Rattle.far_heap.specs.Copiers.{AreFree}
use Rattle.far_heap.proofs.NewCopiers.{first_free, one_more}
use Rattle.far_heap.proofs.heap.copiers_of.Goals as goal

pub loop-number-preserved : goal.loop-number-preserved
loop-number-preserved g c =
    let table = g.K.HeapName.heap.table in
    let n : ℕ = c.loop-number._number in
    let i = c.loop-number.invariant in
    let test = c.loop-number-test.true in
    let sum = i.2 in
    let made = i.3 in
    let same = i.4 in
    let few = i.5 in
    let room = i.6 in
    let fewer = c.remove-free.ensures.len in
    let more = c.push_reserved.ensures.len in
    let cap = c.push_reserved.ensures.capacity in
    let some : 0 < length c.loop-number.seats.items = omega arith in
    let first = first_free table n c.loop-number.seats.items c.remove-free.result i.0 some c.remove-free.ensures.value in
    let is = c.new.ensures in (
      subst (AreFree table (n + 1)) (sym c.remove-free.ensures.items) first.3,
      subst (AreFree table 0) (sym c.push_reserved.ensures.items)
          (one_more table 0 n c.loop-number.copiers.items c.new.result i.1 (ap (λ (s : CopierSeated). s.table) is ∙ first.0) (ap (λ (s : CopierSeated). s.view.number) is ∙ first.1) (omega arith) (ap (λ (s : CopierSeated). s.view.task) is ∙ first.2)),
      omega arith,
      omega arith,
      same,
      few,
      omega arith,
    )
