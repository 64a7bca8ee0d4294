-- What the form of naming Fetches owes.
use Rattle.std.proofs.Common.{◌≡◌, ℕ, ◌/◌, false, cond, refl, sym, ap, ◌∙◌, List, Option, Some, None}
use Rattle.std.specs.Prelude.{is_some}
use Rattle.far_word.specs.declared.mark.Marks.{Marks}
use Rattle.far_word.specs.declared.pointer.Place.{Place}
use Rattle.far_word.specs.declared.pointer.PtrWord.TheVariants.{Far}
use Rattle.far_word.specs.declared.sizes.TheConstants.{CELLS}
use Rattle.far_word.specs.Bytes.{bytes_of}
use Rattle.far_word.specs.Pointer.{read_of}
use Rattle.far_word.proofs.ByteLaws.{bytes_of-same, bytes_of-small, length-bytes_of}
use Rattle.far_events.specs.declared.naming.Naming.TheVariants.{Fetches}
use Rattle.far_events.specs.events.Copies.{data_at}
use Rattle.far_events.specs.events.NewSpans.{with_span}
use Rattle.far_events.specs.state.Law.{Law, held_place}
use Rattle.far_events.specs.state.State.{State}
use Rattle.far_core.specs.world.Steps as world
use Rattle.far_core.specs.world.World.{Object, FarSide}
use Rattle.far_core.specs.world.WorldOf.{world_of, object_of}
use Rattle.far_core.proofs.NamingOwed.{IsMade, NamingOwed}
use Rattle.far_core.proofs.NewSpans.{takes_span, touch_span}
use Rattle.far_events.proofs.Put.{put_same}
use Rattle.far_core.proofs.TakingSpans.{clean_at, keeps_new_span, span_world}

-- what is far is held by nobody
far_unheld : (s : State) → Law s → (p len ds : ℕ) (m : Marks) → read_of (s.cell p) ≡ Some (Far len ds m) → (o : Option Place) → s.held p ≡ o → o ≡ None
far_unheld s law p len ds m far None e = refl
far_unheld s law p len ds m far (Some place) e = let odd : None ≡ Some place = sym (ap held_place far) ∙ law.views.held_names p place e in absurd cc

module _ (p new len ds : ℕ) (place : Place) where
  module _ (s : State) (made : IsMade s p new (Fetches len ds place)) where
    abbrev marks : Marks
    marks = made.naming.0.0

    far : read_of (s.cell p) ≡ Some (Far len ds marks)
    far = made.naming.0.1

    unheld : s.held p ≡ None
    unheld = far_unheld s made.law p len ds marks far (s.held p) refl

    -- what nobody has used yet was stored as zeros
    keeps_fetch : Law (with_span s p new len place)
    keeps_fetch = keeps_new_span s made.law p new len ds place false made.naming.1 made.cell made.fits made.legal.span made.legal.padded unheld
        (λ honest unused i lt. (made.legal.stored honest).same i lt ∙ (made.law.unadopted honest p unused).far len ds marks far made.naming.0.2 i lt)
        (clean_at s made.law p new len ds place false made.naming.1 (λ _. made.law.cells.cell_far p len ds marks far) (λ honest _ i lt. sym ((made.legal.stored honest).same i lt)))

    abbrev object : Object
    object = record { owner = p / CELLS; ds = ds; bytes = bytes_of (s.stored p) len; home = FarSide }

    abbrev bytes : List ℕ
    bytes = bytes_of (data_at s.word place) len

    before : object_of s.word (s.stored p) p (read_of (s.cell p)) ≡ Some object
    before = ap (object_of s.word (s.stored p) p) far ∙ ap (λ b. cond b None (Some object)) made.naming.0.2

    do_fetch : world.ComesNear (world_of s) p place.log (world_of (with_span s p new len place))
    unfolding world_of
    do_fetch = record {
      unviewed = ap is_some unheld;
      come = (
        object,
        bytes,
        before,
        refl,
        length-bytes_of (data_at s.word place) len ∙ sym (length-bytes_of (s.stored p) len),
        bytes_of-small (data_at s.word place) len,
        λ honest. bytes_of-same (data_at s.word place) (s.stored p) len (made.legal.stored honest).same,
        span_world s made.law p new len ds place false made.naming.1 _ (ap (object_of s.word (s.stored p) p) made.naming.1),
      );
    }

  pub fetches_owed : NamingOwed p new (Fetches len ds place)
  fetches_owed = record {
    keeps = λ s made. keeps_fetch s made;
    does = λ s made. do_fetch s made;
    within = λ s. touch_span s p new len place;
    names = λ s. put_same s.cell p new p refl;
    reports = λ s law. takes_span s law p new len place;
    causes = λ old says. (old, new, refl, (len, ds, says.0.0, place, says.0.1, says.1));
  }
