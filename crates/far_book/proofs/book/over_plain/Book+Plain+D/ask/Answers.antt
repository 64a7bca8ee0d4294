use Rattle.far_book.proofs.book.over_plain.Book+Plain+D.ask.Goals as goal
use Rattle.std.proofs.Common.{◌≡◌, ◌∙◌, ap, refl, subst, sym}
use Rattle.far_events.specs.declared.event.Event.TheVariants.{Ask}
use Rattle.far_events.specs.declared.event.Reply.TheVariants.{Word}
use Rattle.far_events.specs.events.Legal.{Legal}
use Rattle.far_events.specs.events.Step.{after, answer}
use Rattle.far_core.specs.state.CoreState.{core_state}
use Rattle.far_events.specs.state.State.{State}
use Rattle.far_hand.specs.Others.{OthersChange}
use Rattle.far_book.specs.book.BookOf.{BookOf}
use Rattle.far_hand.specs.declared.plain.Plain.{Plain}
use Rattle.far_hand.proofs.OthersWork.{change}
use Rattle.far_book.proofs.region.Owned.{owned}

pub invariant_of-self : goal.invariant_of-self
invariant_of-self g c =
    let core = c.self.inside.near.core in
    let device = c.self.inside.device in
    let legal : Legal (core_state core) (Ask c.args.owner c.args.pointer c.args.mark) =
    subst (λ (b : BookOf Plain g.row.D.Denot). Legal (core_state b.near.core) (Ask c.args.owner c.args.pointer c.args.mark)) (sym c.self.view_is) c.requires.legal in (
      owned (core_state core) (core_state c.ask.new.self) core.law c.ask.new.self.law
          (subst (λ (t : State). OthersChange (core_state core) t) (sym c.ask.ensures.state) (change (core_state core) (Ask c.args.owner c.args.pointer c.args.mark) core.law refl legal))
          c.self.inside.ledger (g.D.Device.contents device) (g.D.Device.honest device) c.self.invariant.0,
      c.self.invariant.1,
    )

pub returns-clause-changes : goal.returns-clause-changes
returns-clause-changes g c =
    let core = c.self.inside.near.core in
    let legal : Legal (core_state core) (Ask c.args.owner c.args.pointer c.args.mark) =
    subst (λ (b : BookOf Plain g.row.D.Denot). Legal (core_state b.near.core) (Ask c.args.owner c.args.pointer c.args.mark)) (sym c.self.view_is) c.requires.legal in
    subst (λ (b : BookOf Plain g.row.D.Denot). OthersChange (core_state b.near.core) (core_state c.ask.new.self)) c.self.view_is
    (subst (λ (t : State). OthersChange (core_state core) t) (sym c.ask.ensures.state) (change (core_state core) (Ask c.args.owner c.args.pointer c.args.mark) core.law refl legal))

pub ask-requires : goal.ask-requires
ask-requires g c = record { legal = subst (λ (b : BookOf Plain g.row.D.Denot). Legal (core_state b.near.core) (Ask c.args.owner c.args.pointer c.args.mark)) (sym c.self.view_is) c.requires.legal }

pub returns-clause-state : goal.returns-clause-state
returns-clause-state g c = c.ask.ensures.state ∙ ap (λ (b : BookOf Plain g.row.D.Denot). after (core_state b.near.core) (Ask c.args.owner c.args.pointer c.args.mark)) c.self.view_is

pub returns-clause-word : goal.returns-clause-word
returns-clause-word g c = subst (λ (b : BookOf Plain g.row.D.Denot). answer (core_state b.near.core) (Ask c.args.owner c.args.pointer c.args.mark) ≡ Word c.ask.result) c.self.view_is c.ask.ensures.word

pub returns-clause-order : goal.returns-clause-order
returns-clause-order g c = ap (λ (b : BookOf Plain g.row.D.Denot). b.order) c.self.view_is

pub returns-clause-device : goal.returns-clause-device
returns-clause-device g c = ap (λ (b : BookOf Plain g.row.D.Denot). b.device) c.self.view_is
