-- What the form of naming Places owes.
use Rattle.std.proofs.Common.{◌≢◌, ◌≡◌, ℕ, ◌+◌, ◌-◌, ◌/◌, ◌<◌, ◌≤◌, true, arith, refl, sym, ap, ◌∙◌, Option, Some, None}
use Rattle.std.specs.Prelude.{replicate}
use Rattle.std.proofs.lemmas.Bool.{false≢true, true≢false}
use Rattle.std.proofs.lemmas.Nat.{pow_pos}
use Rattle.far_word.specs.declared.pointer.Place.{Place}
use Rattle.far_word.specs.declared.pointer.PtrWord.TheVariants.{Free, Near}
use Rattle.far_word.specs.declared.sizes.TheConstants.{CELLS, LONGEST}
use Rattle.far_word.specs.Pointer.{read_of}
use Rattle.far_word.specs.Sizes.{words_for}
use Rattle.far_word.proofs.ByteLaws.{bytes_of-zeros}
use Rattle.far_word.proofs.PointerLaws.{read_says}
use Rattle.far_events.specs.declared.naming.Naming.TheVariants.{Places}
use Rattle.far_events.specs.events.Naming.{unmarked}
use Rattle.far_events.specs.events.NewSpans.{with_span}
use Rattle.far_events.specs.state.Law.{Law, Blank, in_use}
use Rattle.far_events.specs.state.State.{State, addr}
use Rattle.far_core.specs.world.Steps.{Makes}
use Rattle.far_core.specs.world.World.{Object, Group}
use Rattle.far_core.specs.world.WorldOf.{world_of, object_of}
use Rattle.far_core.proofs.NamingOwed.{IsMade, NamingOwed}
use Rattle.far_core.proofs.NewSpans.{takes_span, touch_span}
use Rattle.far_events.proofs.Put.{put_same}
use Rattle.far_core.proofs.TakingSpans.{clean_at, keeps_new_span, span_world}

-- a free cell is held by nobody, and no owner uses it
none_held : (s : State) → Law s → (p : ℕ) → s.used p ≢ true → (o : Option Place) → s.held p ≡ o → s.held p ≡ None
none_held s law p unused None e = e
none_held s law p unused (Some place) e = absurd (unused (law.views.held_used p (rw e refl)))

-- ---- the world: a new object of zeros
module _ (s : State) (law : Law s) (p len ds : ℕ) (place : Place) (new : ℕ) (says : read_of new ≡ Some (Near len ds place (unmarked true)))
    (free : read_of (s.cell p) ≡ Some Free) (clear : Blank s.word len place) (some : 0 < len) (most : len ≤ LONGEST) where
  abbrev object : Object
  object = record { owner = p / CELLS; ds = ds; bytes = replicate len 0; home = Group place.log }

  object_is : object_of s.word (s.stored p) p (read_of new) ≡ Some object
  object_is = rw (says, bytes_of-zeros (λ i. s.word (addr place + 1 + i)) len clear) refl

  pub place_makes : Makes (world_of s) p len ds place.log (world_of (with_span s p new len place))
  unfolding world_of
  place_makes = record { fresh = rw free refl; some = some; most = most; after = span_world s law p new len ds place true says object object_is }

module _ (p new len ds : ℕ) (place : Place) where
  keeps_place : (s : State) → IsMade s p new (Places len ds place) → Law (with_span s p new len place)
  keeps_place s made =
      let law = made.law in
      let x = read_says new (Near len ds place (unmarked true)) made.fits made.naming.1 in
      let unused : s.used p ≢ true = λ used. false≢true (sym (ap in_use made.naming.0) ∙ law.views.used_cell p used) in
      let last : words_for len - 1 < words_for len = omega (arith, x.0) in
      keeps_new_span s law p new len ds place true made.naming.1 made.cell made.fits made.legal.0
      (rw (made.legal.1 (words_for len - 1) last) (pow_pos _)) (none_held s law p unused (s.held p) refl) (λ _ _. made.legal.1)
      (clean_at s law p new len ds place true made.naming.1 (λ e. absurd (true≢false e)) (λ _ e. absurd (true≢false e)))

  pub places_owed : NamingOwed p new (Places len ds place)
  places_owed = record {
    keeps = λ s made. keeps_place s made;
    does = λ s made.
        let x = read_says new (Near len ds place (unmarked true)) made.fits made.naming.1 in
        place_makes s made.law p len ds place new made.naming.1 made.naming.0 made.legal.1 (omega (arith, x.0)) (omega (arith, x.0));
    within = λ s. touch_span s p new len place;
    names = λ s. put_same s.cell p new p refl;
    reports = λ s law. takes_span s law p new len place;
    causes = λ old says. (old, new, refl);
  }
