use Rattle.std.proofs.Common.{◌+◌, ◌-◌, ◌*◌, ◌/◌, ℕ, length, refl, arith}
use Rattle.far_heap.proofs.Parts.{range_wrote}
use Rattle.far_heap.proofs.ranges.store_pieces.Goals as goal

pub returns-clause-wrote : goal.returns-clause-wrote
returns-clause-wrote g c =
    let from : ℕ = c.args.from in
    let head : ℕ = c.before_word-head.result in
    let whole : ℕ = head + (length c.args.bytes.now - head) / 8 * 8 in
    let first : ℕ = (from + head) / 8 in
    let few = c.before_word-head.ensures.few in
    let aligned = c.before_word-head.ensures.whole (omega (arith, c.if-head-count.false)) in
    range_wrote c.args.p from head whole first c.args.bytes.now c.args.seat.now.view c.store_part.new.seat.view c.store_words.new.self.view c.store_part-2.new.seat.view (omega arith) (omega arith) (omega arith)
    (omega (arith, c.requires.inside, c.requires.len)) _ _ _ refl refl refl c.store_part.ensures.wrote c.store_words.ensures.wrote c.store_part-2.ensures.wrote
