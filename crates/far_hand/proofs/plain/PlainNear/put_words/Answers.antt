use Rattle.std.proofs.Common.{◌∙◌, refl, subst, sym}
use Rattle.far_word.specs.Bytes.{packed_word}
use Rattle.far_core.specs.state.CoreState.{core_state}
use Rattle.far_events.proofs.PackedRows.{packed_fits}
use Rattle.far_core.proofs.Ranges.{puts_end}
use Rattle.far_hand.specs.Ranges.{WritesRow}
use Rattle.far_hand.proofs.PlainRows.{plain_makes, plain_view, writes_row}
use Rattle.far_hand.proofs.plain.PlainNear.put_words.Goals as goal

pub returns-then-count-eq0 : goal.returns-then-count-eq0
returns-then-count-eq0 c =
    let h = c.args.self.now in
    subst (λ n. WritesRow (Unit {0}) plain_view plain_makes c.args.log c.args.at (packed_word c.args.bytes.now) 0 n h h) (sym c.if-count-eq0.true) refl

pub returns : goal.returns
returns c =
    let h = c.args.self.now in
    let past = c.requires.past in
    writes_row h _ c.args.log c.args.at c.args.count c.if-count-eq0.false past (packed_word c.args.bytes.now) (λ k _. packed_fits c.args.bytes.now k (λ i. (c.type_inv.bytes i).fits))
    (c.put_words.ensures.state ∙ puts_end (core_state h.core) h.core.law c.args.log c.args.at c.args.count past.0 past.1 past.2 past.3 (packed_word c.args.bytes.now) (λ k _. packed_fits c.args.bytes.now k (λ i. (c.type_inv.bytes i).fits)))
