-- Owners may do what the core allows: a legal event of an owner leads to words and views for which the rule holds, beside the same view of the book.
use Rattle.std.proofs.Common.{◌≡◌, ◌≢◌, ◌/◌, ◌<◌, ◌-◌, ◌*◌, ◌^◌, ℕ, Bool, true, false, List, length, Option, Some, None, is_some, refl, sym, ap, ◌∙◌, subst, arith, inl, inr}
use Rattle.std.specs.Prelude.{IsSome}
use Rattle.std.proofs.lemmas.Bool.{cases_lt, false≢true}
use Rattle.std.proofs.lemmas.List.{get_or_past}
use mathlib.Core.Option.{some}
use lib.ListN.{get_elem?}
use Rattle.far_word.specs.declared.mark.Mark.{Mark}
use Rattle.far_word.specs.declared.pointer.Place.{Place}
use Rattle.far_word.specs.declared.pointer.PtrWord.TheVariants.{Near}
use Rattle.far_word.specs.declared.sizes.TheConstants.{CELLS, POINTERS}
use Rattle.far_word.specs.Sizes.{words_for}
use Rattle.far_events.specs.declared.event.Event.{Event}
use Rattle.far_events.specs.declared.event.Event.TheVariants.{ReadEpoch, Open, Pin, Load, Store, Soil, Close, Adopt, Ask}
use Rattle.far_events.specs.declared.event.Reply.{Reply}
use Rattle.far_events.specs.events.Legal.{Legal}
use Rattle.far_events.specs.events.Open.{scope_word_of}
use Rattle.far_events.specs.events.Owners.{IsClosed, IsOpen}
use Rattle.far_events.specs.events.Step.{Fits, after}
use Rattle.far_events.specs.state.State.{State}
use Rattle.far_hand.specs.Makers.{ByOwner, is_owners, maker}
use Rattle.far_table.specs.BookSeats.{MayBe}
use Rattle.far_table.specs.Rule.{Facts}
use Rattle.far_table.specs.StateOf.{state_of}
use Rattle.far_table.specs.View.{BookView, ObjectView, OwnerView, OtherViews, with_owner}
use Rattle.far_table.specs.Views.{held_at, len_of, nobody, object_at, owner_at, soiled_at, uses}
use Rattle.far_table.proofs.AdoptSteps.{adopt_step}
use Rattle.far_table.proofs.AskSteps.{ask_step}
use Rattle.far_table.proofs.HeldFacts.{held_facts, held_so, some_there}
use Rattle.far_table.proofs.Owners.{known_by, own_is}
use Rattle.far_table.proofs.OwnSteps.{OwnStep, own_facts}
use Rattle.far_table.proofs.PinSteps.{pin_step}
use Rattle.far_table.proofs.Places.{one_there}
use Rattle.far_table.proofs.SoilSteps.{soil_step}
use Rattle.far_table.proofs.Steps.{close_step, few, open_step, read_epoch_step}
use Rattle.far_table.proofs.StoreSteps.{store_step}

shut_by : (x : Option ℕ) → scope_word_of x ≡ 0 → x ≡ None
shut_by None e = refl
shut_by (Some n) e = absurd (omega (arith, e))

open_by : (x : Option ℕ) → scope_word_of x ≢ 0 → IsSome x
open_by None ne = absurd (ne refl)
open_by (Some n) ne = refl

unused_by : (x : Option ObjectView) → is_some x ≡ false → x ≡ None
unused_by None e = refl
unused_by (Some x) e = absurd (false≢true (sym e))

module _ (ws : List ℕ) (b : BookView) (os : OtherViews) (f : Facts ws b os) where
  abbrev s : State
  s = state_of ws b os

  acts : (o : OwnerView) (at : get_elem? os.owners o.number ≡ some o) (e : Event) → maker e ≡ ByOwner o.number → Fits e → (r : Reply) (later : List ℕ) (w : OwnerView) →
      OwnStep ws b os o e r later w → MayBe b (after s e)
  acts o at e by fits r later w k = record { words = later; others = with_owner os o.number w; facts = own_facts ws b os f o at e by fits r later w k; is = k.becomes.is }

  -- an event of the owner of a number is one of its view's
  by_owner : (e : ℕ → Event) → ((o : OwnerView) → get_elem? os.owners o.number ≡ some o → Legal s (e o.number) → MayBe b (after s (e o.number))) → (m : ℕ) → m < b.mutators →
      Legal s (e m) → MayBe b (after s (e m))
  by_owner e act m small legal =
      let many = f.many in
      let x = one_there os.owners m (omega (arith, small, many)) in
      let number : (x.0).number ≡ m = (f.owners m x.0 x.1).number in
      subst (λ k. Legal s (e k) → MayBe b (after s (e k))) number (act x.0 (ap (get_elem? os.owners) number ∙ x.1)) legal

  module _ (o : OwnerView) (at : get_elem? os.owners o.number ≡ some o) where
    shut : IsClosed s o.number → o.open_at ≡ None
    shut h = shut_by o.open_at (sym (f.owners o.number o at).scope ∙ h.1)

    opened : IsOpen s o.number → IsSome o.open_at
    opened h = open_by o.open_at (λ z. h.1 ((f.owners o.number o at).scope ∙ z))

    small : (p : ℕ) → p / CELLS ≡ o.number → p < POINTERS
    small p own = let low = few ws b os f o at in omega arith

    used : (p : ℕ) (t : Bool) → p / CELLS ≡ o.number → s.used p ≡ t → uses o p ≡ t
    used p t own h = sym (known_by os.owners o.number o o at uses p own) ∙ h

    held : (p : ℕ) (x : Option Place) → p / CELLS ≡ o.number → s.held p ≡ x → held_at o p ≡ x
    held p x own h = sym (held_so ws b os f o at p own) ∙ h

    reads : Legal s (ReadEpoch o.number) → MayBe b (after s (ReadEpoch o.number))
    reads h = acts o at (ReadEpoch o.number) refl tt _ _ _ (read_epoch_step ws b os f o at (shut h))

    opens : Legal s (Open o.number) → MayBe b (after s (Open o.number))
    opens h = acts o at (Open o.number) refl tt _ _ _
        (open_step ws b os f o at (scope_word_of o.epoch) (shut h.0) (subst (λ (y : OwnerView). IsSome y.epoch) (own_is os.owners o.number o o at) h.1) refl)

    closes : Legal s (Close o.number) → MayBe b (after s (Close o.number))
    closes h = acts o at (Close o.number) refl tt _ _ _ (close_step ws b os f o at (opened h))

    pins : (p : ℕ) → Legal s (Pin o.number p) → MayBe b (after s (Pin o.number p))
    pins p h = acts o at (Pin o.number p) refl tt _ _ _
        (pin_step ws b os f o at p (small p h.1) h.1 (used p true h.1 h.2) (held p None h.1 h.3) (opened h.0))

    adopts : (p : ℕ) → Legal s (Adopt o.number p) → MayBe b (after s (Adopt o.number p))
    adopts p h = acts o at (Adopt o.number p) refl tt _ _ _
        (adopt_step ws b os f o at p (small p h.1) h.1 (unused_by (object_at o p) (used p false h.1 h.2)) h.3)

    asks : (p : ℕ) (k : Mark) → Legal s (Ask o.number p k) → MayBe b (after s (Ask o.number p k))
    asks p k h = acts o at (Ask o.number p k) refl tt _ _ _
        (ask_step ws b os f o at p (small p h.2) h.2 (used p true h.2 h.3) (held p None h.2 h.4) k h.0)

    stores : (p i v : ℕ) → v < 2 ^ 64 → Legal s (Store o.number p i v) → MayBe b (after s (Store o.number p i v))
    stores p i v word (len, (place, holds, inside), padded, soiled) =
        let at_place : held_at o p ≡ Some place = held p (Some place) holds.own holds.rests in
        let x = held_facts ws b os f o at p place holds.own at_place in
        let near = holds.near in
        let cell : Some (Near x.len x.ds place x.marks) ≡ Some (Near len near.0 place near.1) = sym x.near ∙ near.2 in
        let lens : x.len ≡ len = cc in
        let long : len ≡ len_of (object_at o p) = sym (ap len_of x.used ∙ (x.long ∙ lens)) in
        acts o at (Store o.number p i v) refl word _ _ _
        (store_step ws b os f o at p i v place holds.own at_place (subst (λ n. i < words_for n) long inside) (sym (known_by os.owners o.number o o at soiled_at p holds.own) ∙ soiled) word (subst (λ n. v < 2 ^ (8 * (n - 8 * i))) long padded))

    soils : (p : ℕ) → Legal s (Soil o.number p) → MayBe b (after s (Soil o.number p))
    soils p h = acts o at (Soil o.number p) refl tt _ _ _ (soil_step ws b os f o at p (small p h.0) h.0 (subst IsSome (held_so ws b os f o at p h.0) h.1))

  -- who holds a place is one of the owners
  holder : (p m : ℕ) (place : Place) → p / CELLS ≡ m → s.held p ≡ Some place → m < b.mutators
  holder p m place own h = elim (cases_lt m (length os.owners)) [
    | inl lt ↦ (let many = f.many in omega (arith, lt, many))
    | inr le ↦ (let nobody_is : owner_at os.owners (p / CELLS) ≡ nobody = get_or_past os.owners (p / CELLS) nobody (omega (arith, le, own)) in
        let odd : None ≡ Some place = sym (ap (λ (y : OwnerView). held_at y p) nobody_is) ∙ h in cc)
  ]

  pub may_act : (e : Event) → is_owners e ≡ true → Fits e → Legal s e → MayBe b (after s e)
  may_act (ReadEpoch m) own fits h = by_owner ReadEpoch reads m h.0 h
  may_act (Open m) own fits h = by_owner Open opens m h.0.0 h
  may_act (Close m) own fits h = by_owner Close closes m h.0 h
  may_act (Pin m p) own fits h = by_owner (λ k. Pin k p) (λ o at. pins o at p) m h.0.0 h
  may_act (Load m p i) own fits h = record { words = ws; others = os; facts = f; is = refl }
  may_act (Store m p i v) own fits h = by_owner (λ k. Store k p i v) (λ o at. stores o at p i v fits) m (holder p m h.1.0 h.1.1.own h.1.1.rests) h
  may_act (Soil m p) own fits h = let there = some_there (s.held p) h.1 in by_owner (λ k. Soil k p) (λ o at. soils o at p) m (holder p m there.0 h.0 there.1) h
  may_act (Adopt m p) own fits h = by_owner (λ k. Adopt k p) (λ o at. adopts o at p) m h.0 h
  may_act (Ask m p k) own fits h = by_owner (λ j. Ask j p k) (λ o at. asks o at p k) m h.1 h
  may_act e own fits h = absurd (false≢true own)
