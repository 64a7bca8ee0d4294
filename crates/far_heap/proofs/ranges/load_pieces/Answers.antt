use Rattle.std.proofs.Common.{◌+◌, ◌-◌, ◌*◌, ◌/◌, ℕ, length, ap, subst, ◌∙◌, arith}
use Rattle.far_table.specs.Seats.{Seated}
use Rattle.far_table.specs.Views.{object_at, word_in_view}
use Rattle.far_table.specs.Ranges.{HasBytes}
use Rattle.far_heap.proofs.Parts.{range_read}
use Rattle.far_heap.proofs.ranges.load_pieces.Goals as goal

pub returns-clause-bytes : goal.returns-clause-bytes
returns-clause-bytes g c = λ h.
    let p : ℕ = c.args.p in
    let from : ℕ = c.args.from in
    let head : ℕ = c.before_word-head.result in
    let whole : ℕ = head + (length c.args.out.now - head) / 8 * 8 in
    let first : ℕ = (from + head) / 8 in
    let few = c.before_word-head.ensures.few in
    let aligned = c.before_word-head.ensures.whole (omega (arith, c.if-head-count.false)) in
    let one = c.load_part.ensures.same in
    let two = c.load_words.ensures.same ∙ one in
    range_read (word_in_view (object_at c.args.seat.now.view p)) from head whole first c.args.out.now c.load_part.new.out c.load_words.new.out c.load_part-2.new.out (omega arith) (omega arith) (omega arith)
    c.load_part.auto.out c.load_words.auto.out c.load_part-2.auto.out (c.load_part.ensures.bytes h)
    (subst (λ (z : Seated). HasBytes (word_in_view (object_at z.view p)) (8 * first) c.load_words.new.out) one (c.load_words.ensures.bytes (ap (λ (z : Seated). z.view.honest) one ∙ h)))
    (subst (λ (z : Seated). HasBytes (word_in_view (object_at z.view p)) (from + whole) c.load_part-2.new.out) two (c.load_part-2.ensures.bytes (ap (λ (z : Seated). z.view.honest) two ∙ h)))
