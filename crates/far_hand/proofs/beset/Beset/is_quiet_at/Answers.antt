use Rattle.std.proofs.Common.{sym, ◌≡◌, ◌∙◌, ◌<◌, ◌*◌, arith, false}
use borrow.Author.Count.{below_more}
use Rattle.std.proofs.lemmas.Bool.{false≢true}
use Rattle.far_word.specs.declared.sizes.TheConstants.{CELLS}
use Rattle.far_core.specs.state.CoreState.{core_state}
use Rattle.far_word.specs.Pointer.{read_of}
use Rattle.far_hand.specs.Masked.{word_at}
use Rattle.far_hand.specs.Quiet.{is_quiet_word}
use Rattle.far_hand.proofs.Quietness.{quiet_fact, quiet_test}
use Rattle.far_hand.proofs.beset.Beset.is_quiet_at.Goals as goal

pub returns-then-is_quiet_word-clause-quiet : goal.returns-then-is_quiet_word-clause-quiet
returns-then-is_quiet_word-clause-quiet c = λ _.
    let hand = c.args.self.now in
    let s = core_state hand.core in
    let small : c.loop-pointer.pointer < CELLS * s.mutators = omega (arith, hand.found_sized, c.len-pointer-end.ensures) in
    quiet_fact s hand.core.law (word_at hand.found.items) hand.finds c.args.log c.args.at c.loop-pointer.pointer small
    (sym c.is_quiet_word.ensures ∙ c.if-is_quiet_word.true)

pub returns-clause-all : goal.returns-clause-all
returns-clause-all c = λ _ x.
    let hand = c.args.self.now in
    let s = core_state hand.core in
    let small : x.p < c.loop-pointer.pointer = omega (arith, hand.found_sized, c.len-pointer-end.ensures, x.pointer, c.loop-pointer-test.false) in
    false≢true (sym (c.loop-pointer.invariant x.p small) ∙ quiet_test s hand.core.law (word_at hand.found.items) hand.finds c.args.log c.args.at c.requires x)

pub returns-then-is_quiet_word-clause-all : goal.returns-then-is_quiet_word-clause-all
returns-then-is_quiet_word-clause-all c = λ fails. absurd (false≢true (sym fails))

pub returns-clause-quiet : goal.returns-clause-quiet
returns-clause-quiet c = λ holds. absurd (false≢true holds)

pub loop-pointer-preserved : goal.loop-pointer-preserved
loop-pointer-preserved c =
    let hand = c.args.self.now in
    let s = core_state hand.core in
    below_more (λ p. is_quiet_word s.round s.clear p (read_of (word_at hand.found.items p)) c.args.log c.args.at ≡ false) c.loop-pointer.pointer c.loop-pointer.invariant
    (sym c.is_quiet_word.ensures ∙ c.if-is_quiet_word.false)
