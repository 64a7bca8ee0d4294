use Rattle.std.proofs.Common.{◌+◌, ◌∙◌, refl, subst, sym}
use Rattle.far_core.specs.state.CoreState.{core_state}
use Rattle.far_core.proofs.Ranges.{copies_end}
use Rattle.far_hand.specs.Ranges.{CopiesRow}
use Rattle.far_hand.proofs.PlainRows.{copies_row, plain_makes, plain_view}
use Rattle.far_hand.proofs.plain.PlainNear.copy_words.Goals as goal

pub returns-then-count-eq0 : goal.returns-then-count-eq0
returns-then-count-eq0 c =
    let h = c.args.self.now in subst (λ n. CopiesRow (Unit {0}) plain_view plain_makes c.args.from c.args.to 0 n h h) (sym c.if-count-eq0.true) refl

pub returns : goal.returns
returns c =
    let h = c.args.self.now in
    let within = c.requires.from in
    let past = c.requires.to in
    copies_row h _ c.args.from c.args.to c.args.count c.if-count-eq0.false within past
    (c.copy_words.ensures.state ∙ copies_end (core_state h.core) h.core.law c.args.from.log (c.args.from.at + 1) c.args.to.log (c.args.to.at + 1) c.args.count within.0 within.1 past.0 past.1 past.2 past.3)
