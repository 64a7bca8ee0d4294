use Rattle.std.proofs.Common.{◌≡◌, ◌∙◌, Some, ap, subst, sym}
use Rattle.std.specs.Prelude.{IsSome}
use Rattle.far_word.specs.Pointer.{read_of, without_owner_marks, word_of}
use Rattle.far_word.specs.declared.pointer.PtrWord.{PtrWord}
use Rattle.far_events.specs.events.Accesses.{IsAtRest, with_cell}
use Rattle.far_events.specs.events.Pin.{place_to_view}
use Rattle.far_core.specs.state.CoreState.{core_state}
use Rattle.far_events.specs.state.State.{State}
use Rattle.far_hand.specs.declared.plain.Plain.{Plain}
use Rattle.far_book.specs.book.BookOf.{BookOf}
use Rattle.far_book.specs.book.SealedLogs.{KeepsSealed}
use Rattle.far_book.proofs.region.Accessed.{cooled, cooled_one, cooled_sealed}
use Rattle.far_book.proofs.book.over_plain.Book+Plain+D.cool.Goals as goal

pub invariant_of-self : goal.invariant_of-self
invariant_of-self g c =
    let core = c.self.inside.near.core in
    let held = g.D.Device.contents c.self.inside.device in
    let is_honest = g.D.Device.honest c.self.inside.device in (
      cooled (core_state core) core.law (core_state c.cool.new.self) c.cool.new.self.law c.args.pointer
          (subst (λ (b : BookOf Plain g.row.D.Denot). IsSome (place_to_view (read_of ((core_state b.near.core).cell c.args.pointer)))) (sym c.self.view_is) c.requires.rests)
          c.cool.ensures.state c.self.inside.ledger held is_honest c.self.invariant.0,
      c.self.invariant.1,
    )

pub cool-requires-clause-rest : goal.cool-requires-clause-rest
cool-requires-clause-rest g c = subst (λ (b : BookOf Plain g.row.D.Denot). IsAtRest (core_state b.near.core) c.args.owner c.args.pointer) (sym c.self.view_is) c.requires.rest

pub cool-requires-clause-rests : goal.cool-requires-clause-rests
cool-requires-clause-rests g c = subst (λ (b : BookOf Plain g.row.D.Denot). IsSome (place_to_view (read_of ((core_state b.near.core).cell c.args.pointer)))) (sym c.self.view_is) c.requires.rests

pub returns-clause-state : goal.returns-clause-state
returns-clause-state g c = subst (λ (b : BookOf Plain g.row.D.Denot). (v : PtrWord) → read_of ((core_state b.near.core).cell c.args.pointer) ≡ Some v → core_state c.cool.new.self ≡ with_cell (core_state b.near.core) c.args.pointer (word_of (without_owner_marks v))) c.self.view_is c.cool.ensures.state

pub returns-clause-order : goal.returns-clause-order
returns-clause-order g c = ap (λ (b : BookOf Plain g.row.D.Denot). b.order) c.self.view_is

pub returns-clause-device : goal.returns-clause-device
returns-clause-device g c = ap (λ (b : BookOf Plain g.row.D.Denot). b.device) c.self.view_is

pub returns-clause-one : goal.returns-clause-one
returns-clause-one g c =
    let core = c.self.inside.near.core in
    subst (λ (b : BookOf Plain g.row.D.Denot). core_state c.cool.new.self ≡ with_cell (core_state b.near.core) c.args.pointer ((core_state c.cool.new.self).cell c.args.pointer)) c.self.view_is
    (cooled_one (core_state core) core.law (core_state c.cool.new.self) c.cool.new.self.law c.args.pointer (subst (λ (b : BookOf Plain g.row.D.Denot). IsSome (place_to_view (read_of ((core_state b.near.core).cell c.args.pointer)))) (sym c.self.view_is) c.requires.rests) c.cool.ensures.state)

pub returns-clause-sealed : goal.returns-clause-sealed
returns-clause-sealed g c =
    let core = c.self.inside.near.core in
    subst (λ (b : BookOf Plain g.row.D.Denot). KeepsSealed (core_state b.near.core) (core_state c.cool.new.self)) c.self.view_is
    (cooled_sealed (core_state core) core.law (core_state c.cool.new.self) c.cool.new.self.law c.args.pointer (subst (λ (b : BookOf Plain g.row.D.Denot). IsSome (place_to_view (read_of ((core_state b.near.core).cell c.args.pointer)))) (sym c.self.view_is) c.requires.rests) c.cool.ensures.state)
