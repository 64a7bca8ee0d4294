-- What the form of naming Moves owes.
use Rattle.std.proofs.Common.{◌≡◌, ℕ, ◌/◌, true, false, cond, inl, inr, refl, sym, ap, ◌∙◌, Option, Some, None}
use Rattle.std.specs.Prelude.{is_some}
use Rattle.std.proofs.lemmas.Bool.{false≢true}
use Rattle.far_word.specs.declared.mark.Marks.{Marks}
use Rattle.far_word.specs.declared.pointer.Place.{Place}
use Rattle.far_word.specs.declared.pointer.PtrWord.TheVariants.{Near}
use Rattle.far_word.specs.declared.sizes.TheConstants.{CELLS}
use Rattle.far_word.specs.Bytes.{bytes_of}
use Rattle.far_word.specs.Pointer.{read_of}
use Rattle.far_word.specs.Sizes.{words_for}
use Rattle.far_word.proofs.ByteLaws.{bytes_of-same}
use Rattle.far_events.specs.declared.naming.Naming.TheVariants.{Moves}
use Rattle.far_events.specs.events.Copies.{Alike, data_at}
use Rattle.far_events.specs.events.Copied.{IsCopied, copied_job, with_named}
use Rattle.far_events.specs.events.Touch.{CellAt, BookView, Touches}
use Rattle.far_events.specs.events.namings.Moves.{MayMove, MoveReports, after_move}
use Rattle.far_events.specs.events.NewSpans.{with_span}
use Rattle.far_events.specs.state.Law.{Law}
use Rattle.far_events.specs.state.State.{State}
use Rattle.far_core.specs.world.Steps as world
use Rattle.far_core.specs.world.World.{Object, Group}
use Rattle.far_core.specs.world.WorldOf.{world_of, object_of}
use Rattle.far_core.proofs.Copied as copied
use Rattle.far_events.proofs.Copied.{copied_fact, copied_test}
use Rattle.far_core.proofs.Copied.{keeps_named}
use Rattle.far_core.proofs.Touching.{one_cell}
use Rattle.far_core.proofs.NamingOwed.{IsMade, NamingOwed}
use Rattle.far_core.proofs.NewSpans.{takes_span, touch_span}
use Rattle.far_events.proofs.Put.{put_other, put_same}
use Rattle.far_events.proofs.Quieting.{quiet_unheld}
use Rattle.far_core.proofs.TakingSpans.{clean_at, named_world, keeps_new_span, span_world}

module _ (p new len ds : ℕ) (from to : Place) where
  module _ (s : State) (made : IsMade s p new (Moves len ds from to)) where
    abbrev marks : Marks
    marks = made.naming.0.0

    near : read_of (s.cell p) ≡ Some (Near len ds from marks)
    near = made.naming.0.1

    abbrev object : Object
    object = record { owner = p / CELLS; ds = ds; bytes = bytes_of (data_at s.word from) len; home = Group from.log }

    before : object_of s.word (s.stored p) p (read_of (s.cell p)) ≡ Some object
    before = ap (object_of s.word (s.stored p) p) near ∙ ap (λ b. cond b None (Some object)) made.naming.0.2

    after : Alike (data_at s.word to) (data_at s.word from) (words_for len) → object_of s.word (s.stored p) p (read_of new) ≡ Some (world.with_home object (Group to.log))
    after same = ap (object_of s.word (s.stored p) p) made.naming.1
        ∙ ap (λ bytes. Some record { owner = p / CELLS; ds = ds; bytes = bytes; home = Group to.log }) (bytes_of-same (data_at s.word to) (data_at s.word from) len same)

    -- ---- to a new span
    module _ (legal : MayMove s p len ds from to) where
      unheld : s.held p ≡ None
      unheld = quiet_unheld s made.law p legal.quiet

      -- what nobody has used yet holds zeros at both places
      keeps_move : Law (with_span s p new len to)
      keeps_move = keeps_new_span s made.law p new len ds to marks.dirty made.naming.1 made.cell made.fits legal.span legal.padded unheld
          (λ honest unused i lt. legal.same i lt ∙ (made.law.unadopted honest p unused).near len ds from marks near made.naming.0.2 i lt)
          (clean_at s made.law p new len ds to marks.dirty made.naming.1 (λ none. (made.law.cleans p).back len ds from marks near none)
          (λ honest none i lt. (made.law.cleans p).same honest len ds from marks near none i lt ∙ sym (legal.same i lt)))

      do_move : world.Moves (world_of s) p to.log (world_of (with_span s p new len to))
      unfolding world_of
      do_move = record {
        unviewed = ap is_some unheld;
        moved = (object, from.log, before, refl, span_world s made.law p new len ds to marks.dirty made.naming.1 _ (after legal.same));
      }

    -- ---- to a copy
    module _ (j c : ℕ) (copy : IsCopied s p from to j c) where
      keep_copy : Law (with_named s p new j)
      keep_copy = keeps_named s made.law p new len ds from to marks j c copy near made.naming.0.2 made.naming.1 made.fits made.cell

      do_copy : world.Moves (world_of s) p to.log (world_of (with_named s p new j))
      unfolding world_of
      do_copy = record {
        unviewed = ap is_some (copied.unheld s made.law p new len ds from to marks j c copy near made.naming.0.2 made.naming.1 made.fits made.cell);
        moved = (
          object,
          from.log,
          before,
          refl,
          named_world s made.law p new len ds to marks.dirty made.naming.1 j _
              (after (copied.same s made.law p new len ds from to marks j c copy near made.naming.0.2 made.naming.1 made.fits made.cell)) (copied.copied_group s made.law p from to j c copy),
        );
      }

    -- ---- whichever it is
    keeps_either : (o : Option ℕ) → copied_job s p from to ≡ o → Law (after_move s p new len to o)
    keeps_either (Some j) e = let x = copied_fact s p from to j e in keep_copy j x.0 x.1
    keeps_either None e = elim made.legal [
      | inl legal ↦ keeps_move legal
      | inr has ↦ absurd (false≢true (sym (ap is_some e) ∙ copied_test s p from to has))
    ]

    does_either : (o : Option ℕ) → copied_job s p from to ≡ o → world.Moves (world_of s) p to.log (world_of (after_move s p new len to o))
    does_either (Some j) e = let x = copied_fact s p from to j e in do_copy j x.0 x.1
    does_either None e = elim made.legal [
      | inl legal ↦ do_move legal
      | inr has ↦ absurd (false≢true (sym (ap is_some e) ∙ copied_test s p from to has))
    ]

  touch_either : (s : State) (o : Option ℕ) → Touches s (record { word = Some (CellAt p); part = BookView }) (after_move s p new len to o)
  touch_either s None = touch_span s p new len to
  touch_either s (Some j) = record {
    words = one_cell s.epoch s.scope s.cell s.word s.copying.word p new;
    remembered = λ k a b. refl;
    used = λ q a. refl;
    held = λ q a b. refl;
    soiled = λ q a b. refl;
    book = λ ne. absurd (ne refl);
    copiers = λ c ne. record { task = refl; length = refl; read = refl; written = refl };
    rest = (refl, refl, refl, refl);
  }

  names_either : (s : State) (o : Option ℕ) → (after_move s p new len to o).cell p ≡ new
  names_either s None = put_same s.cell p new p refl
  names_either s (Some j) = put_same s.cell p new p refl

  reports_either : (s : State) → Law s → (o : Option ℕ) → MoveReports s len to o (after_move s p new len to o)
  reports_either s law None = takes_span s law p new len to
  reports_either s law (Some j) = record { named = put_same s.copying.named j true j refl; others = λ i ne. put_other s.copying.named j true i ne; rest = refl }

  pub moves_owed : NamingOwed p new (Moves len ds from to)
  moves_owed = record {
    keeps = λ s made. keeps_either s made (copied_job s p from to) refl;
    does = λ s made. does_either s made (copied_job s p from to) refl;
    within = λ s. touch_either s (copied_job s p from to);
    names = λ s. names_either s (copied_job s p from to);
    reports = λ s law. reports_either s law (copied_job s p from to);
    causes = λ old says. (old, new, refl);
  }
