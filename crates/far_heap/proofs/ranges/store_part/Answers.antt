use Rattle.std.proofs.Common.{◌≡◌, ◌≢◌, ◌/◌, ℕ, length, ap, sym, subst, refl, ◌∙◌, arith}
use Rattle.std.proofs.lemmas.Bool.{eqb-false}
use Rattle.far_word.specs.Bytes.{byte_at}
use Rattle.far_table.specs.View.{OwnerView}
use Rattle.far_table.specs.Seats.{Seated}
use Rattle.far_table.specs.Views.{len_of, object_at, stored_view}
use Rattle.far_table.specs.Ranges.{Wrote}
use Rattle.far_heap.proofs.Parts.{part_padding}
use Rattle.far_table.proofs.WholeWords.{stored_wrote}
use Rattle.far_heap.proofs.ranges.store_part.Goals as goal

pub store-requires-clause-padding : goal.store-requires-clause-padding
store-requires-clause-padding g c =
    let len : len_of (object_at c.load-found.new.self.view c.args.p) ≡ c.args.len = ap (λ (z : Seated). len_of (object_at z.view c.args.p)) c.load-found.ensures.same ∙ c.requires.len in
    part_padding c.spliced-word.result c.min-room.result (len_of (object_at c.load-found.new.self.view c.args.p)) (c.args.from / 8) c.spliced-word.ensures.padding (omega (arith, len, c.min-room.ensures))

pub returns-clause-wrote : goal.returns-clause-wrote
returns-clause-wrote g c =
    let o = c.args.seat.now.view in
    let i : ℕ = c.args.from / 8 in
    let w : ℕ = c.spliced-word.result in
    let view : c.store.new.self.view ≡ stored_view c.args.p i w o = c.store.ensures.view ∙ ap (λ (z : Seated). stored_view c.args.p i w z.view) c.load-found.ensures.same in
    let some : length c.args.bytes.now ≢ 0 = eqb-false (length c.args.bytes.now) 0 (sym c.is_empty.ensures ∙ c.if-is_empty.false) in
    let len = c.requires.len in
    let one = c.requires.one in
    let inside = c.requires.inside in
    subst (λ (v : OwnerView). Wrote c.args.p c.args.from c.args.bytes.now o v) (sym view)
    (stored_wrote o c.args.p i w c.args.from c.args.bytes.now refl (omega arith) (omega arith) (omega arith) (λ h. c.spliced-word.ensures.inside)
    (λ h k lt. c.spliced-word.ensures.before k lt ∙ ap (λ x. byte_at (λ _. x) k) (c.load-found.ensures.word h))
    (λ h k le few lt. c.spliced-word.ensures.after k le (omega (arith, c.min-room.ensures)) ∙ ap (λ x. byte_at (λ _. x) k) (c.load-found.ensures.word h)))
