use Rattle.std.proofs.Common.{◌≡◌, ◌≢◌, ◌∙◌, ◌*◌, ◌<◌, ◌≤◌, ℕ, List, arith, inl, inr, length, sym}
use Rattle.std.proofs.lemmas.Bool.{cases_eq, cases_lt}
use Rattle.std.proofs.lemmas.List.{get_or_past}
use Rattle.far_word.specs.declared.sizes.TheConstants.{CELLS}
use Rattle.far_core.specs.state.CoreState.{core_state}
use Rattle.far_hand.specs.Masked.{word_at}
use Rattle.far_hand.proofs.beset.rows.cells_of.Goals as goal
use mathlib.Core.Path.{fun_ext}

-- a row has all words, if it has the first ones and all others are 0
all_words : (xs : List ℕ) (word : ℕ → ℕ) (n : ℕ) → length xs ≡ n → ((p : ℕ) → word p ≢ 0 → p < n) → ((p : ℕ) → p < n → word_at xs p ≡ word p) → word_at xs ≡ word
all_words xs word n sized range row = fun_ext (λ p. elim (cases_lt p n) [
  | inl lt ↦ row p lt
  | inr past ↦ get_or_past xs p 0 (omega (arith, sized)) ∙ sym (none p past)
]) where
  none : (p : ℕ) → n ≤ p → word p ≡ 0
  none p past = elim (cases_eq (word p) 0) [
    | inl is ↦ is
    | inr ne ↦ absurd (omega (arith, range p ne))
  ]

pub returns-clause-words : goal.returns-clause-words
returns-clause-words c =
    let s = core_state c.args.core.now in
    let row = c.loop-pointer.invariant in
    let past = c.loop-pointer-test.false in
    let end = c.loop-pointer.auto.pointer-end in
    all_words c.loop-pointer.cells.items s.cell (CELLS * s.mutators) (omega (arith, row.len, c.loop-pointer.cells.ok.0, c.mutators.ensures)) c.keeps_law.ensures.law.cells.cell_range
    (λ p lt. row.words p (omega (arith, c.mutators.ensures)))
