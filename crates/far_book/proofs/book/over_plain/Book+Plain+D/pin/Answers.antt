use Rattle.far_book.proofs.book.over_plain.Book+Plain+D.pin.Goals as goal
use Rattle.std.proofs.Common.{◌≡◌, ◌∙◌, ap, refl, subst, sym}
use Rattle.std.specs.Prelude.{IfErr, IfOk}
use Rattle.far_events.specs.declared.event.Event.TheVariants.{Pin}
use Rattle.far_events.specs.declared.event.Reply.TheVariants.{Held, Word}
use Rattle.far_events.specs.events.Legal.{Legal}
use Rattle.far_events.specs.events.Step.{after, answer}
use Rattle.far_core.specs.state.CoreState.{core_state}
use Rattle.far_events.specs.state.State.{State}
use Rattle.far_hand.specs.Others.{OthersChange}
use Rattle.far_book.specs.book.BookOf.{BookOf}
use Rattle.far_hand.specs.declared.plain.Plain.{Plain}
use Rattle.far_hand.proofs.OthersWork.{change}
use Rattle.far_book.proofs.region.Owned.{owned}

pub invariant_of-self : goal.invariant_of-self
invariant_of-self g c =
    let core = c.self.inside.near.core in
    let device = c.self.inside.device in
    let legal : Legal (core_state core) (Pin c.args.owner c.args.pointer) =
    subst (λ (b : BookOf Plain g.row.D.Denot). Legal (core_state b.near.core) (Pin c.args.owner c.args.pointer)) (sym c.self.view_is) c.requires.legal in (
      owned (core_state core) (core_state c.pin.new.self) core.law c.pin.new.self.law
          (subst (λ (t : State). OthersChange (core_state core) t) (sym c.pin.ensures.state) (change (core_state core) (Pin c.args.owner c.args.pointer) core.law refl legal))
          c.self.inside.ledger (g.D.Device.contents device) (g.D.Device.honest device) c.self.invariant.0,
      c.self.invariant.1,
    )

pub returns-clause-changes : goal.returns-clause-changes
returns-clause-changes g c =
    let core = c.self.inside.near.core in
    let legal : Legal (core_state core) (Pin c.args.owner c.args.pointer) =
    subst (λ (b : BookOf Plain g.row.D.Denot). Legal (core_state b.near.core) (Pin c.args.owner c.args.pointer)) (sym c.self.view_is) c.requires.legal in
    subst (λ (b : BookOf Plain g.row.D.Denot). OthersChange (core_state b.near.core) (core_state c.pin.new.self)) c.self.view_is
    (subst (λ (t : State). OthersChange (core_state core) t) (sym c.pin.ensures.state) (change (core_state core) (Pin c.args.owner c.args.pointer) core.law refl legal))

pub pin-requires : goal.pin-requires
pin-requires g c = record { legal = subst (λ (b : BookOf Plain g.row.D.Denot). Legal (core_state b.near.core) (Pin c.args.owner c.args.pointer)) (sym c.self.view_is) c.requires.legal }

pub returns-clause-state : goal.returns-clause-state
returns-clause-state g c = c.pin.ensures.state ∙ ap (λ (b : BookOf Plain g.row.D.Denot). after (core_state b.near.core) (Pin c.args.owner c.args.pointer)) c.self.view_is

pub returns-clause-held : goal.returns-clause-held
returns-clause-held g c = subst (λ (b : BookOf Plain g.row.D.Denot). IfOk c.pin.result (λ place. answer (core_state b.near.core) (Pin c.args.owner c.args.pointer) ≡ Held place)) c.self.view_is c.pin.ensures.held

pub returns-clause-word : goal.returns-clause-word
returns-clause-word g c = subst (λ (b : BookOf Plain g.row.D.Denot). IfErr c.pin.result (λ word. answer (core_state b.near.core) (Pin c.args.owner c.args.pointer) ≡ Word word)) c.self.view_is c.pin.ensures.word

pub returns-clause-order : goal.returns-clause-order
returns-clause-order g c = ap (λ (b : BookOf Plain g.row.D.Denot). b.order) c.self.view_is

pub returns-clause-device : goal.returns-clause-device
returns-clause-device g c = ap (λ (b : BookOf Plain g.row.D.Denot). b.device) c.self.view_is
