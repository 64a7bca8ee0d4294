use Rattle.std.proofs.Common.{◌≡◌, ◌<◌, ◌*◌, ◌/◌, ◌∙◌, ℕ, arith, refl, sym}
use Rattle.std.proofs.lemmas.Bool.{false≢true}
use Rattle.far_word.specs.declared.sizes.TheConstants.{CELLS}
use Rattle.far_events.specs.declared.event.Event.TheVariants.{Adopt}
use Rattle.far_events.specs.state.Memory.{state_of}
use Rattle.far_core.proofs.Calls.{law_after}
use Rattle.far_events.proofs.Calls.{next_is_after}
use Rattle.far_core.proofs.Kept.{rows_after}
use Rattle.far_core.proofs.machine.Core.adopt.Goals as goal

own_below : (p m n : ℕ) → m < n → p / CELLS ≡ m → p < CELLS * n
own_below p m n below own = omega arith

pub is_in_use-requires-clause-pointer : goal.is_in_use-requires-clause-pointer
is_in_use-requires-clause-pointer c = own_below _ _ _ c.requires.owner c.requires.own

pub returns-then-not-is_in_use-clause-legal : goal.returns-then-not-is_in_use-clause-legal
returns-then-not-is_in_use-clause-legal c = (λ some. absurd (false≢true some), λ legal. sym c.if-not-is_in_use.true ∙ c.is_in_use.ensures ∙ legal.3)

pub adopt-requires : goal.adopt-requires
adopt-requires c = own_below _ _ _ c.requires.owner c.requires.own

pub invariant_of-self : goal.invariant_of-self
invariant_of-self c = record {
  law = law_after (state_of c.args.self.now.memory) _ (Adopt c.args.owner c.args.pointer) c.adopt.ensures.state c.args.self.now.law
      (c.requires.owner, c.requires.own, c.requires.unused, sym c.is_in_use.ensures ∙ c.if-not-is_in_use.false) tt;
  rows_are = rows_after c.args.self.now.rows (state_of c.args.self.now.memory) _ (Adopt c.args.owner c.args.pointer) c.adopt.ensures.state refl c.args.self.now.rows_are;
}

pub returns-clause-legal : goal.returns-clause-legal
returns-clause-legal c = (λ _. (c.requires.owner, c.requires.own, c.requires.unused, sym c.is_in_use.ensures ∙ c.if-not-is_in_use.false), λ _. refl)

pub returns-clause-state : goal.returns-clause-state
returns-clause-state c = c.adopt.ensures.state ∙ next_is_after _ _

pub returns-clause-word : goal.returns-clause-word
returns-clause-word c = c.adopt.ensures.word
