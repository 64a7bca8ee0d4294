use Rattle.std.proofs.Common.{◌∙◌, ◌+◌, ◌/◌, ◌≤◌, ap, length, subst, sym}
use Rattle.std.specs.Prelude.{IsSome}
use Rattle.far_word.specs.Pointer.{read_of}
use Rattle.far_events.proofs.Splices.{written_fit}
use Rattle.far_events.specs.events.Accesses.{IsAtRest, overwrites_in, overwritten, words_over}
use Rattle.far_events.specs.events.Pin.{place_to_view}
use Rattle.far_events.specs.events.Ranges.{AllLegal, after_events}
use Rattle.far_events.specs.events.Step.{data_len, data_word}
use Rattle.far_core.specs.state.CoreState.{core_state}
use Rattle.far_events.specs.state.State.{State}
use Rattle.far_hand.specs.declared.plain.Plain.{Plain}
use Rattle.far_book.specs.book.BookOf.{BookOf}
use Rattle.far_book.specs.book.FarSide.{InOrder}
use Rattle.far_book.proofs.region.Accessed.{all_owned, overwrites_owned}
use Rattle.far_book.proofs.book.over_plain.Book+Plain+D.write_over.Goals as goal

pub invariant_of-self : goal.invariant_of-self
invariant_of-self g c =
    let core = c.self.inside.near.core in
    let s : State = core_state core in
    let held = g.D.Device.contents c.self.inside.device in
    let is_honest = g.D.Device.honest c.self.inside.device in (
      subst (λ (t : State). InOrder t c.self.inside.ledger held is_honest) (sym c.write_over.ensures.events)
          (all_owned c.self.inside.ledger held is_honest (overwrites_in s c.args.owner c.args.pointer c.args.from c.args.bytes.now)
          (overwrites_owned c.args.owner c.args.pointer (c.args.from / 8) (words_over s c.args.pointer c.args.from c.args.bytes.now)
          (written_fit (λ i. s.word (data_word s c.args.pointer i)) c.args.from c.args.bytes.now (λ k. (c.type_inv.bytes k).fits)))
          s core.law c.self.invariant.0),
      c.self.invariant.1,
    )

pub write_over-requires-clause-rest : goal.write_over-requires-clause-rest
write_over-requires-clause-rest g c = subst (λ (b : BookOf Plain g.row.D.Denot). IsAtRest (core_state b.near.core) c.args.owner c.args.pointer) (sym c.self.view_is) c.requires.rest

pub write_over-requires-clause-rests : goal.write_over-requires-clause-rests
write_over-requires-clause-rests g c = subst (λ (b : BookOf Plain g.row.D.Denot). IsSome (place_to_view (read_of ((core_state b.near.core).cell c.args.pointer)))) (sym c.self.view_is) c.requires.rests

pub write_over-requires-clause-inside : goal.write_over-requires-clause-inside
write_over-requires-clause-inside g c = subst (λ (b : BookOf Plain g.row.D.Denot). c.args.from + length c.args.bytes.now ≤ data_len (core_state b.near.core) c.args.pointer) (sym c.self.view_is) c.requires.inside

pub returns-clause-events : goal.returns-clause-events
returns-clause-events g c = c.write_over.ensures.events ∙ ap (λ (b : BookOf Plain g.row.D.Denot). after_events (core_state b.near.core) (overwrites_in (core_state b.near.core) c.args.owner c.args.pointer c.args.from c.args.bytes.now)) c.self.view_is

pub returns-clause-legal : goal.returns-clause-legal
returns-clause-legal g c = subst (λ (b : BookOf Plain g.row.D.Denot). AllLegal (core_state b.near.core) (overwrites_in (core_state b.near.core) c.args.owner c.args.pointer c.args.from c.args.bytes.now)) c.self.view_is c.write_over.ensures.legal

pub returns-clause-state : goal.returns-clause-state
returns-clause-state g c = c.write_over.ensures.state ∙ ap (λ (b : BookOf Plain g.row.D.Denot). overwritten (core_state b.near.core) c.args.pointer c.args.from c.args.bytes.now) c.self.view_is

pub returns-clause-order : goal.returns-clause-order
returns-clause-order g c = ap (λ (b : BookOf Plain g.row.D.Denot). b.order) c.self.view_is

pub returns-clause-device : goal.returns-clause-device
returns-clause-device g c = ap (λ (b : BookOf Plain g.row.D.Denot). b.device) c.self.view_is
