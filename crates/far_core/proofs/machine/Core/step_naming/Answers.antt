use Rattle.std.proofs.Common.{◌≡◌, ◌∙◌, ℕ, subst, sym, true}
use Rattle.std.proofs.lemmas.Bool.{false≢true}
use Rattle.std.specs.Prelude.{IfErr, IfOk, Result, Ok, Err}
use Rattle.far_events.specs.declared.event.Event.{Event}
use Rattle.far_events.specs.declared.event.Event.TheVariants.{Name}
use Rattle.far_events.specs.declared.event.Reply.{Reply}
use Rattle.far_events.specs.declared.event.Reply.TheVariants.{Done, Refused, Word}
use Rattle.far_events.specs.events.Step.{answer, step_of}
use Rattle.far_core.specs.state.CoreState.{core_state}
use Rattle.far_core.specs.state.Kept.{keeps_stored}
use Rattle.far_core.proofs.Kept.{tells_naming}
use Rattle.far_core.proofs.Owing.{is_test}
use Rattle.far_core.proofs.Steps.{step_made, step_not}
use Rattle.far_core.proofs.machine.Core.step_naming.Goals as goal

reply_is : (r : Result (Unit {0}) ℕ) (reply says : Reply) → IfOk r (λ _. reply ≡ Done) → IfErr r (λ w. reply ≡ Word w) → IfOk r (λ _. says ≡ Done) → IfErr r (λ w. says ≡ Word w) → reply ≡ says
reply_is (Ok x) reply says done word won found = done ∙ sym won
reply_is (Err w) reply says done word won found = word ∙ sym found

pub returns-clause-step : goal.returns-clause-step
returns-clause-step c = λ told.
    let s = core_state c.args.self.now in
    let e : Event = Name c.in-Name.pointer c.in-Name.old c.in-Name.new in
    let made = step_made s (core_state c.name.new.self) c.done_or_word.result e (is_test s e (c.may_name.ensures.0 c.if-not-may_name.false).1) c.name.ensures.state
    (reply_is c.name.result c.done_or_word.result (answer s e) c.done_or_word.ensures.done c.done_or_word.ensures.word c.name.ensures.won c.name.ensures.found) in
    subst (λ (x : Event). (core_state c.name.new.self, c.done_or_word.result) ≡ step_of s x) (sym c.in-Name.is) made

pub returns-clause-untold : goal.returns-clause-untold
returns-clause-untold c = λ untold. absurd (false≢true (sym untold ∙ tells_naming c.args.self.now c.args.event c.requires.naming ∙ (c.may_name.ensures.0 c.if-not-may_name.false).0))

pub returns-then-not-may_name-clause-step : goal.returns-then-not-may_name-clause-step
returns-then-not-may_name-clause-step c = λ told.
    let s = core_state c.args.self.now in
    let e : Event = Name c.in-Name.pointer c.in-Name.old c.in-Name.new in
    let kept : keeps_stored c.args.self.now ≡ true = sym (tells_naming c.args.self.now c.args.event c.requires.naming) ∙ told in
    subst (λ (x : Event). (s, Refused) ≡ step_of s x) (sym c.in-Name.is)
    (step_not s e c.args.self.now.law (λ legal. false≢true (sym c.if-not-may_name.true ∙ c.may_name.ensures.1 (kept, legal))))
