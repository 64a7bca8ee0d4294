use Rattle.std.proofs.Common.{◌≡◌, ◌∙◌, Some, sym, ap, inl, inr, arith}
use Rattle.std.proofs.lemmas.Bool.{cases_eq, cases_lt}
use Rattle.std.proofs.lemmas.List.{get_or_past}
use Rattle.far_word.specs.declared.pointer.PtrWord.TheVariants.{Free, Near}
use Rattle.far_word.specs.Pointer.{read_of}
use Rattle.far_events.proofs.Cells.{unused}
use Rattle.far_hand.specs.Masked.{word_at}
use Rattle.tests_far_book.proofs.tests.hands.is_vacant.Goals as goal

pub loop-pointer-preserved : goal.loop-pointer-preserved
loop-pointer-preserved c = λ p len ds place marks lt e. elim (cases_eq p c.loop-pointer.pointer) [
  | inl same ↦ c.lies_in.ensures c.if-lies_in.false len ds place marks (ap read_of (c.found_in.ensures ∙ ap (word_at c.args.found.now.items) (sym same)) ∙ e)
  | inr ne ↦ c.loop-pointer.invariant p len ds place marks (omega arith) e
]

pub returns : goal.returns
returns c = λ _ p len ds place marks e. elim (cases_lt p c.loop-pointer.pointer) [
  | inl lt ↦ c.loop-pointer.invariant p len ds place marks lt e
  | inr past ↦ (let none : word_at c.args.found.now.items p ≡ 0 = get_or_past c.args.found.now.items p 0 (omega (arith, c.loop-pointer-test.false, c.len-pointer-end.ensures)) in
      let said : Some Free ≡ Some (Near len ds place marks) = sym unused ∙ (ap read_of (sym none) ∙ e) in absurd cc)
]
