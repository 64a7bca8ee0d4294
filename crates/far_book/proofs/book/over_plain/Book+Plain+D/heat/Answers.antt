use Rattle.std.proofs.Common.{◌∙◌, ap, subst, sym}
use Rattle.far_events.specs.events.Accesses.{IsAtRest, heats, hot_word, with_cell}
use Rattle.far_events.specs.events.Ranges.{after_events}
use Rattle.far_core.specs.state.CoreState.{core_state}
use Rattle.far_events.specs.state.State.{State}
use Rattle.far_hand.specs.declared.plain.Plain.{Plain}
use Rattle.far_book.specs.book.BookOf.{BookOf}
use Rattle.far_book.specs.book.FarSide.{InOrder}
use Rattle.far_book.proofs.region.Accessed.{all_owned, heats_owned}
use Rattle.far_book.proofs.book.over_plain.Book+Plain+D.heat.Goals as goal

pub invariant_of-self : goal.invariant_of-self
invariant_of-self g c =
    let core = c.self.inside.near.core in
    let held = g.D.Device.contents c.self.inside.device in
    let is_honest = g.D.Device.honest c.self.inside.device in (
      subst (λ (t : State). InOrder t c.self.inside.ledger held is_honest) (sym c.heat.ensures.events)
          (all_owned c.self.inside.ledger held is_honest (heats c.args.owner c.args.pointer) (heats_owned c.args.owner c.args.pointer) (core_state core) core.law c.self.invariant.0),
      c.self.invariant.1,
    )

pub heat-requires : goal.heat-requires
heat-requires g c = record { rest = subst (λ (b : BookOf Plain g.row.D.Denot). IsAtRest (core_state b.near.core) c.args.owner c.args.pointer) (sym c.self.view_is) c.requires.rest }

pub returns-clause-events : goal.returns-clause-events
returns-clause-events g c = c.heat.ensures.events ∙ ap (λ (b : BookOf Plain g.row.D.Denot). after_events (core_state b.near.core) (heats c.args.owner c.args.pointer)) c.self.view_is

pub returns-clause-state : goal.returns-clause-state
returns-clause-state g c = c.heat.ensures.state ∙ ap (λ (b : BookOf Plain g.row.D.Denot). with_cell (core_state b.near.core) c.args.pointer (hot_word ((core_state b.near.core).cell c.args.pointer))) c.self.view_is

pub returns-clause-order : goal.returns-clause-order
returns-clause-order g c = ap (λ (b : BookOf Plain g.row.D.Denot). b.order) c.self.view_is

pub returns-clause-device : goal.returns-clause-device
returns-clause-device g c = ap (λ (b : BookOf Plain g.row.D.Denot). b.device) c.self.view_is
