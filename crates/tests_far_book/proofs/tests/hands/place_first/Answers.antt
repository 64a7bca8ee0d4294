use Rattle.std.proofs.Common.{◌≡◌, ◌+◌, ◌*◌, ◌<◌, ◌∙◌, Some, true, refl, sym, ap, subst, inl, arith}
use Rattle.std.proofs.lemmas.Result.{IfOk-weaker}
use Rattle.far_word.specs.declared.pointer.Place.{Place}
use Rattle.far_word.specs.declared.pointer.PtrWord.TheVariants.{Near}
use Rattle.far_word.specs.declared.sizes.TheConstants.{CELLS}
use Rattle.far_word.specs.Pointer.{read_of}
use Rattle.far_events.specs.declared.event.Event.TheVariants.{Name, Put}
use Rattle.far_events.specs.declared.event.Kind.TheVariants.{Open}
use Rattle.far_events.specs.declared.naming.Naming.TheVariants.{Places}
use Rattle.far_events.specs.events.Legal.{Legal}
use Rattle.far_events.specs.events.Naming.{unmarked}
use Rattle.far_events.specs.events.NewSpans.{with_span}
use Rattle.far_events.specs.events.Step.{after}
use Rattle.far_events.specs.state.State.{State, put}
use Rattle.far_events.proofs.Cells.{unused}
use Rattle.far_events.proofs.Put.{put_same}
use Rattle.tests_far_book.proofs.tests.hands.place_first.Goals as goal
use Rattle.far_hand.proofs.Knowing.{not_from_free}
use Rattle.far_hand.proofs.Naming.{won_state}

abbrev first : Place
first = record { log = 0; at = 0 }

near_first : read_of 0x8600_0000_0001_0008 ≡ Some (Near 8 1 first (unmarked true))
unfolding read_of
near_first = refl

-- header and zero are written
abbrev written : State → State
written s = record s { word = put (put s.word 0 0xa200_0000_0100_0008) 1 0 }

both_put : (s u v : State) → u ≡ after s (Put 0 0 0xa200_0000_0100_0008) → v ≡ after u (Put 0 1 0) → v ≡ written s
both_put s u v header zero = zero ∙ ap (λ (x : State). after x (Put 0 1 0)) header

-- once they are, pointer 0 may be named
first_legal : (s : State) → s.kind 0 ≡ Open → s.tail 0 ≡ 0 → 0 < s.logs → 0 < CELLS * s.mutators → Legal (written s) (Name 0 0 0x8600_0000_0001_0008)
first_legal s opened tail logs small = (
  small,
  (
    Places 8 1 first,
    (unused, near_first),
    (record { next = (logs, inl (opened, sym tail)); head = refl }, λ i lt. put_same (put s.word 0 0xa200_0000_0100_0008) 1 0 (1 + i) (omega arith)),
  ),
)

-- and the naming leaves the shape
named_shape : (s t : State) → s.cell 0 ≡ 0 → (0 < CELLS * s.mutators) × (0 < s.logs) → t ≡ record (after s (Name 0 0 0x8600_0000_0001_0008)) { word = t.word; stored = t.stored } →
    (0 < CELLS * t.mutators) × (0 < t.logs)
named_shape s t free some is =
    let named : after s (Name 0 0 0x8600_0000_0001_0008) ≡ with_span s 0 0x8600_0000_0001_0008 8 first = won_state s 0 0 0x8600_0000_0001_0008 (Places 8 1 first) free (unused, near_first) in
    subst (λ (u : State). (0 < CELLS * u.mutators) × (0 < u.logs)) (sym (is ∙ ap (λ (u : State). record u { word = t.word; stored = t.stored }) named)) some

pub name-requires-clause-legal : goal.name-requires-clause-legal
name-requires-clause-legal g c =
    let s : State = g.N.Near.view c.args.near.now in
    subst (λ (u : State). Legal u (Name 0 0 0x8600_0000_0001_0008)) (sym (both_put s _ _ c.put.ensures.set c.put-2.ensures.set)) (first_legal s c.requires.log.0 c.requires.log.1 c.requires.log.2 c.requires.cell.1)

pub name-requires-clause-known : goal.name-requires-clause-known
name-requires-clause-known g c len place n i lt = absurd (not_from_free _ len place n)

pub returns : goal.returns
returns g c = record {
  shape =
      let s : State = g.N.Near.view c.args.near.now in
      let t : State = g.N.Near.view c.name.new.self in
      IfOk-weaker c.name.result _ _ (λ _ done. named_shape (written s) t c.requires.cell.0 (c.requires.cell.1, c.requires.log.2)
      (subst (λ (u : State). t ≡ record (after u (Name 0 0 0x8600_0000_0001_0008)) { word = t.word; stored = t.stored }) (both_put s _ _ c.put.ensures.set c.put-2.ensures.set) done)) c.name.ensures.done;
}
