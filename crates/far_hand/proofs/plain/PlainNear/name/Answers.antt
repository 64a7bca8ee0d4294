use Rattle.std.proofs.Common.{subst, sym}
use Rattle.std.proofs.lemmas.Result.{IfOk-weaker, IfErr-weaker}
use Rattle.far_core.specs.state.CoreState.{core_state}
use Rattle.far_events.specs.state.State.{State}
use Rattle.far_hand.specs.Known.{Forgets, StoresLeaving}
use Rattle.far_hand.proofs.Naming.{name_forgets, stores_leaving, won}
use Rattle.far_events.specs.declared.event.Event.TheVariants.{Name}
use Rattle.far_events.specs.declared.event.Reply.TheVariants.{Done, Word}
use Rattle.far_hand.proofs.Making.{legal_made}
use Rattle.far_hand.proofs.plain.PlainNear.name.Goals as goal

pub returns-clause-forgot : goal.returns-clause-forgot
returns-clause-forgot c =
    let s = core_state c.args.self.now.core in
    let forgets = subst (λ (t : State). Forgets s t) (sym c.name.ensures.state) (name_forgets s c.args.pointer c.args.old c.args.new) in
    IfOk-weaker c.name.result _ _ (λ x h. forgets) c.name.ensures.won

pub returns-clause-stored : goal.returns-clause-stored
returns-clause-stored c =
    let s = core_state c.args.self.now.core in
    let p = c.args.pointer in
    let old = c.args.old in
    let new = c.args.new in
    IfOk-weaker c.name.result _ _ (λ _ told. subst (λ (t : State). StoresLeaving s t p old new) (sym c.name.ensures.state) (stores_leaving s c.args.self.now.core.law p old new c.requires.legal (won s p old new told))) c.name.ensures.won

pub returns-clause-made : goal.returns-clause-made
returns-clause-made c =
    let s = core_state c.args.self.now.core in
    IfOk-weaker c.name.result _ _ (λ _ told. legal_made s (core_state c.name.new.self) (Name c.args.pointer c.args.old c.args.new) Done c.requires.legal c.name.ensures.state told) c.name.ensures.won

pub returns-clause-lost : goal.returns-clause-lost
returns-clause-lost c =
    let s = core_state c.args.self.now.core in
    IfErr-weaker c.name.result _ _ (λ w told. legal_made s (core_state c.name.new.self) (Name c.args.pointer c.args.old c.args.new) (Word w) c.requires.legal c.name.ensures.state told) c.name.ensures.found

pub returns-clause-set : goal.returns-clause-set
returns-clause-set c = λ _. c.name.ensures.state
