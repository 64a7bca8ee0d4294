use Rattle.tests_far_book.proofs.tests.owning.store_word.Goals as goal
use Rattle.std.proofs.Common.{◌≡◌, ◌<◌, ◌≤◌, ◌+◌, ◌-◌, ◌*◌, ◌^◌, ◌∙◌, ℕ, zero, suc, Some, ap, sym, arith, [], ◌∷◌}
use Rattle.std.specs.Prelude.{slice_index}
use Rattle.std.proofs.Math.Nat.{pow-le-pow_right}
use Rattle.far_events.specs.events.Step.{data_len, near_len}
use Rattle.far_core.specs.state.CoreState.{core_state}
use Rattle.far_word.specs.Pointer.{read_of}

-- a word is written into one of two words
fits_pair : (word index len k : ℕ) → word < 2 ^ 64 → index < 2 → len ≡ 16 → k < 1 → slice_index (word ∷ []) k < 2 ^ (8 * (len - 8 * (index + k)))
fits_pair word index len zero fits low long one =
    let enough : 64 ≤ 8 * (len - 8 * (index + 0)) = omega arith in
    let more : 2 ^ 64 ≤ 2 ^ (8 * (len - 8 * (index + 0))) = pow-le-pow_right (omega arith) enough in
    omega arith
fits_pair word index len (suc k) fits low long one = absurd (omega arith)

pub store_all-requires-clause-padding : goal.store_all-requires-clause-padding
store_all-requires-clause-padding g c k one =
    let step = c.in-Some-Near-eq16-default-default-default in
    let long : data_len (core_state c.args.book.now.near.core) c.args.pointer ≡ 16 =
    ap (λ core. data_len (core_state core) c.args.pointer) (sym c.core-core.ensures)
    ∙ (ap (λ w. near_len (read_of w)) (sym c.cell.ensures) ∙ (ap near_len (sym c.read.ensures.exact ∙ (step.is ∙ ap Some step.field-0-is)) ∙ step.field-0-0-test)) in
    fits_pair c.args.word c.args.index (data_len (core_state c.args.book.now.near.core) c.args.pointer) k (omega arith) c.if-index-ge2.false long one
