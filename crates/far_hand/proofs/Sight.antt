-- What a call that reads a cell tells of the words: some state that they may be in from then on has in that cell the word that was answered.
use Rattle.std.proofs.Common.{◌≡◌, ◌∙◌, ℕ, Bool, true, false, ap, sym}
use Rattle.std.specs.Prelude.{if◌then◌else◌}
use Rattle.std.proofs.Math.Logic.{∥∥₁_map}
use Rattle.far_events.specs.declared.event.Event.TheVariants.{See}
use Rattle.far_events.specs.declared.event.Reply.{Reply}
use Rattle.far_events.specs.declared.event.Reply.TheVariants.{Word, Refused}
use Rattle.far_events.specs.events.Step.{is_legal}
use Rattle.far_events.specs.state.State.{State}
use Rattle.far_hand.specs.MayBe.{Tells}

-- a legal reading leaves the state and answers the cell; a refused one answers no word
abbrev with_answer : State → Reply → State × Reply
with_answer s r = (s, r)

read_cell : (was now : State) (p w : ℕ) (b : Bool) → with_answer now (Word w) ≡ (if b then with_answer was (Word (was.cell p)) else with_answer was Refused) → now.cell p ≡ w
read_cell was now p w true e =
    let state = ap (λ (x : State × Reply). x.0.cell p) e in
    let word : Word w ≡ Word (was.cell p) = ap (λ (x : State × Reply). x.1) e in
    let same : w ≡ was.cell p = cc in
    state ∙ sym same
read_cell was now p w false e =
    let word : Word w ≡ Refused = ap (λ (x : State × Reply). x.1) e in
    let no : ⊥ = cc in
    absurd no

pub told_cell : (may may' : State → Type 0) (p w : ℕ) → ∥ Tells may may' (See p) (Word w) ∥₁ → ∥ ((x : State) × may' x × (x.cell p ≡ w)) ∥₁
told_cell may may' p w told = ∥∥₁_map told (λ (h : Tells may may' (See p) (Word w)). (h.now, h.may, read_cell h.was h.now p w (is_legal h.was (See p)) h.call))
