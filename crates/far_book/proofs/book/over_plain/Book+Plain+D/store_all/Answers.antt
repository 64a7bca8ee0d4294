use Rattle.far_book.proofs.book.over_plain.Book+Plain+D.store_all.Goals as goal
use Rattle.std.proofs.Common.{◌≡◌, ◌∙◌, ◌+◌, ◌-◌, ◌*◌, ◌^◌, ◌<◌, ◌≤◌, ℕ, ap, length, sym, subst, true}
use Rattle.std.specs.Prelude.{slice_index}
use Rattle.std.specs.List.{range_with_len}
use Rattle.far_word.specs.Sizes.{words_for}
use Rattle.far_events.specs.events.Ranges.{AllLegal, after_events, stores}
use Rattle.far_events.specs.events.Step.{data_len}
use Rattle.far_core.specs.state.CoreState.{core_state}
use Rattle.far_events.specs.state.State.{State}
use Rattle.far_book.specs.book.BookOf.{BookOf}
use Rattle.far_hand.specs.declared.plain.Plain.{Plain}
use Rattle.far_book.specs.book.FarSide.{InOrder}
use Rattle.far_book.proofs.region.Owned.{stored}

pub invariant_of-self : goal.invariant_of-self
invariant_of-self g c =
    let core = c.self.inside.near.core in
    let held = g.D.Device.contents c.self.inside.device in
    let is_honest = g.D.Device.honest c.self.inside.device in (
      subst (λ (s : State). InOrder s c.self.inside.ledger held is_honest) (sym c.store_all.ensures.state)
          (stored c.self.inside.ledger held is_honest c.args.owner c.args.pointer c.args.first c.args.words.now (λ k. (c.type_inv.words k).fits)
          (range_with_len 0 (length c.args.words.now)) (core_state core) core.law c.self.invariant.0),
      c.self.invariant.1,
    )

pub store_all-requires-clause-own : goal.store_all-requires-clause-own
store_all-requires-clause-own g c = c.requires.own

pub store_all-requires-clause-soiled : goal.store_all-requires-clause-soiled
store_all-requires-clause-soiled g c = subst (λ (b : BookOf Plain g.row.D.Denot). (core_state b.near.core).soiled c.args.pointer ≡ true) (sym c.self.view_is) c.requires.soiled

pub store_all-requires-clause-inside : goal.store_all-requires-clause-inside
store_all-requires-clause-inside g c = subst (λ (b : BookOf Plain g.row.D.Denot). c.args.first + length c.args.words.now ≤ words_for (data_len (core_state b.near.core) c.args.pointer)) (sym c.self.view_is) c.requires.inside

pub store_all-requires-clause-padding : goal.store_all-requires-clause-padding
store_all-requires-clause-padding g c = subst (λ (b : BookOf Plain g.row.D.Denot). (k : ℕ) → k < length c.args.words.now → slice_index c.args.words.now k < 2 ^ (8 * (data_len (core_state b.near.core) c.args.pointer - 8 * (c.args.first + k))))
    (sym c.self.view_is) c.requires.padding

pub returns-clause-state : goal.returns-clause-state
returns-clause-state g c = c.store_all.ensures.state ∙ ap (λ (b : BookOf Plain g.row.D.Denot). after_events (core_state b.near.core) (stores c.args.owner c.args.pointer c.args.first c.args.words.now)) c.self.view_is

pub returns-clause-legal : goal.returns-clause-legal
returns-clause-legal g c = subst (λ (b : BookOf Plain g.row.D.Denot). AllLegal (core_state b.near.core) (stores c.args.owner c.args.pointer c.args.first c.args.words.now)) c.self.view_is c.store_all.ensures.legal

pub returns-clause-order : goal.returns-clause-order
returns-clause-order g c = ap (λ (b : BookOf Plain g.row.D.Denot). b.order) c.self.view_is

pub returns-clause-device : goal.returns-clause-device
returns-clause-device g c = ap (λ (b : BookOf Plain g.row.D.Denot). b.device) c.self.view_is
