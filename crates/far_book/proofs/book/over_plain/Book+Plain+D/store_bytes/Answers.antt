use Rattle.far_book.proofs.book.over_plain.Book+Plain+D.store_bytes.Goals as goal
use Rattle.std.proofs.Common.{◌≡◌, ◌∙◌, ◌+◌, ◌/◌, ◌≤◌, ℕ, List, ap, length, sym, subst, true}
use Rattle.std.specs.List.{range_with_len}
use Rattle.far_events.proofs.Splices.{written_fit}
use Rattle.far_events.specs.events.Ranges.{AllLegal, after_events, stores}
use Rattle.far_events.specs.events.Step.{data_len, data_word}
use Rattle.far_events.specs.events.Written.{written_words}
use Rattle.far_core.specs.state.CoreState.{core_state}
use Rattle.far_events.specs.state.State.{State}
use Rattle.far_book.specs.book.BookOf.{BookOf}
use Rattle.far_hand.specs.declared.plain.Plain.{Plain}
use Rattle.far_book.specs.book.FarSide.{InOrder}
use Rattle.far_book.proofs.region.Owned.{stored}

pub invariant_of-self : goal.invariant_of-self
invariant_of-self g c =
    let core = c.self.inside.near.core in
    let s : State = core_state core in
    let held = g.D.Device.contents c.self.inside.device in
    let is_honest = g.D.Device.honest c.self.inside.device in
    let word : ℕ → ℕ = λ i. s.word (data_word s c.args.pointer i) in
    let ws : List ℕ = written_words word c.args.from c.args.bytes.now in (
      subst (λ (t : State). InOrder t c.self.inside.ledger held is_honest) (sym c.store_bytes.ensures.state)
          (stored c.self.inside.ledger held is_honest c.args.owner c.args.pointer (c.args.from / 8) ws (written_fit word c.args.from c.args.bytes.now (λ k. (c.type_inv.bytes k).fits))
          (range_with_len 0 (length ws)) s core.law c.self.invariant.0),
      c.self.invariant.1,
    )

pub store_bytes-requires-clause-own : goal.store_bytes-requires-clause-own
store_bytes-requires-clause-own g c = c.requires.own

pub store_bytes-requires-clause-soiled : goal.store_bytes-requires-clause-soiled
store_bytes-requires-clause-soiled g c = subst (λ (b : BookOf Plain g.row.D.Denot). (core_state b.near.core).soiled c.args.pointer ≡ true) (sym c.self.view_is) c.requires.soiled

pub store_bytes-requires-clause-inside : goal.store_bytes-requires-clause-inside
store_bytes-requires-clause-inside g c = subst (λ (b : BookOf Plain g.row.D.Denot). c.args.from + length c.args.bytes.now ≤ data_len (core_state b.near.core) c.args.pointer) (sym c.self.view_is) c.requires.inside

pub returns-clause-state : goal.returns-clause-state
returns-clause-state g c = c.store_bytes.ensures.state
    ∙ ap (λ (b : BookOf Plain g.row.D.Denot). let s : State = core_state b.near.core in after_events s (stores c.args.owner c.args.pointer (c.args.from / 8) (written_words (λ i. s.word (data_word s c.args.pointer i)) c.args.from c.args.bytes.now))) c.self.view_is

pub returns-clause-legal : goal.returns-clause-legal
returns-clause-legal g c =
    subst (λ (b : BookOf Plain g.row.D.Denot). let s : State = core_state b.near.core in AllLegal s (stores c.args.owner c.args.pointer (c.args.from / 8) (written_words (λ i. s.word (data_word s c.args.pointer i)) c.args.from c.args.bytes.now)))
    c.self.view_is c.store_bytes.ensures.legal

pub returns-clause-order : goal.returns-clause-order
returns-clause-order g c = ap (λ (b : BookOf Plain g.row.D.Denot). b.order) c.self.view_is

pub returns-clause-device : goal.returns-clause-device
returns-clause-device g c = ap (λ (b : BookOf Plain g.row.D.Denot). b.device) c.self.view_is
