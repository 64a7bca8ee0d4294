use Rattle.far_book.proofs.book.over_plain.Book+Plain+D.owner.Goals as goal
use Rattle.std.proofs.Common.{◌≡◌, ◌∙◌, ap, refl, subst, sym}
use Rattle.std.proofs.lemmas.Bool.{false≢true, true≢false}
use Rattle.far_events.specs.events.Legal.{Legal}
use Rattle.far_events.specs.events.Step.{after, answer, step_of}
use Rattle.far_core.specs.world.Happens.{Happens}
use Rattle.far_core.specs.world.WorldOf.{world_of}
use Rattle.far_core.specs.state.CoreState.{core_state}
use Rattle.far_hand.specs.Others.{OthersChange}
use Rattle.far_book.specs.book.BookOf.{BookOf}
use Rattle.far_hand.specs.declared.plain.Plain.{Plain}
use Rattle.far_hand.proofs.Told.{others_told}
use Rattle.far_hand.proofs.OthersWork.{made_changes}
use Rattle.far_book.proofs.region.Owned.{owned, owners_others}

pub invariant_of-self : goal.invariant_of-self
invariant_of-self g c =
    let core = c.self.inside.near.core in
    let device = c.self.inside.device in
    let change = made_changes (core_state core) (core_state c.step.new.self) c.args.event c.step.result core.law (owners_others c.args.event (sym c.is_owners.ensures ∙ c.if-is_owners.true)) (c.step.ensures.step (others_told c.self.inside.near.core c.args.event (owners_others c.args.event (sym c.is_owners.ensures ∙ c.if-is_owners.true)))) in
    (owned (core_state core) (core_state c.step.new.self) core.law c.step.ensures.law change c.self.inside.ledger (g.D.Device.contents device) (g.D.Device.honest device) c.self.invariant.0, c.self.invariant.1)

pub returns-then-is_owners-clause-changes : goal.returns-then-is_owners-clause-changes
returns-then-is_owners-clause-changes g c =
    let core = c.self.inside.near.core in
    subst (λ (b : BookOf Plain g.row.D.Denot). OthersChange (core_state b.near.core) (core_state c.step.new.self)) c.self.view_is
    (made_changes (core_state core) (core_state c.step.new.self) c.args.event c.step.result core.law (owners_others c.args.event (sym c.is_owners.ensures ∙ c.if-is_owners.true)) (c.step.ensures.step (others_told c.self.inside.near.core c.args.event (owners_others c.args.event (sym c.is_owners.ensures ∙ c.if-is_owners.true)))))

pub returns-then-is_owners-clause-made : goal.returns-then-is_owners-clause-made
returns-then-is_owners-clause-made g c own = (c.step.ensures.step (others_told c.self.inside.near.core c.args.event (owners_others c.args.event (sym c.is_owners.ensures ∙ c.if-is_owners.true)))) ∙ ap (λ (b : BookOf Plain g.row.D.Denot). step_of (core_state b.near.core) c.args.event) c.self.view_is

pub returns-then-is_owners-clause-legal : goal.returns-then-is_owners-clause-legal
returns-then-is_owners-clause-legal g c own = subst (λ (b : BookOf Plain g.row.D.Denot). Legal (core_state b.near.core) c.args.event → (core_state c.step.new.self ≡ after (core_state b.near.core) c.args.event) × (c.step.result ≡ answer (core_state b.near.core) c.args.event)) c.self.view_is
    (c.step.ensures.legal (others_told c.self.inside.near.core c.args.event (owners_others c.args.event (sym c.is_owners.ensures ∙ c.if-is_owners.true))))

pub returns-then-is_owners-clause-refused : goal.returns-then-is_owners-clause-refused
returns-then-is_owners-clause-refused g c odd = absurd (true≢false (sym c.if-is_owners.true ∙ c.is_owners.ensures ∙ odd))

pub returns-then-is_owners-clause-world : goal.returns-then-is_owners-clause-world
returns-then-is_owners-clause-world g c = subst (λ (b : BookOf Plain g.row.D.Denot). Happens (world_of (core_state b.near.core)) c.args.event c.step.result (world_of (core_state c.step.new.self))) c.self.view_is c.step.ensures.world

pub returns-then-is_owners-clause-ran : goal.returns-then-is_owners-clause-ran
returns-then-is_owners-clause-ran g c own = (own, record { step = (c.step.ensures.step (others_told c.self.inside.near.core c.args.event (owners_others c.args.event (sym c.is_owners.ensures ∙ c.if-is_owners.true)))) ∙ ap (λ (b : BookOf Plain g.row.D.Denot). step_of (core_state b.near.core) c.args.event) c.self.view_is; law = c.step.ensures.law; agrees = c.step.ensures.agrees })

pub returns-then-is_owners-clause-order : goal.returns-then-is_owners-clause-order
returns-then-is_owners-clause-order g c = ap (λ (b : BookOf Plain g.row.D.Denot). b.order) c.self.view_is

pub returns-then-is_owners-clause-device : goal.returns-then-is_owners-clause-device
returns-then-is_owners-clause-device g c = ap (λ (b : BookOf Plain g.row.D.Denot). b.device) c.self.view_is

-- ---- it isn't an owner's event
pub returns-else-is_owners-clause-made : goal.returns-else-is_owners-clause-made
returns-else-is_owners-clause-made g c own = absurd (false≢true (sym c.if-is_owners.false ∙ c.is_owners.ensures ∙ own))

pub returns-else-is_owners-clause-legal : goal.returns-else-is_owners-clause-legal
returns-else-is_owners-clause-legal g c own = absurd (false≢true (sym c.if-is_owners.false ∙ c.is_owners.ensures ∙ own))

pub returns-else-is_owners-clause-ran : goal.returns-else-is_owners-clause-ran
returns-else-is_owners-clause-ran g c own = absurd (false≢true (sym c.if-is_owners.false ∙ c.is_owners.ensures ∙ own))

pub returns-else-is_owners-clause-refused : goal.returns-else-is_owners-clause-refused
returns-else-is_owners-clause-refused g c _ = (refl, refl)

pub returns-else-is_owners-clause-order : goal.returns-else-is_owners-clause-order
returns-else-is_owners-clause-order g c = refl

pub returns-else-is_owners-clause-device : goal.returns-else-is_owners-clause-device
returns-else-is_owners-clause-device g c = refl
