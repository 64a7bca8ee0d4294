-- The book reads a cell, and marks one: each is its event of the core.
use Rattle.std.proofs.Common.{◌≡◌, ◌*◌, ◌<◌, ◌^◌, ℕ, cond, bit_or, List, set, sym, refl, ap, ◌∙◌, subst, arith}
use Rattle.std.specs.Prelude.{slice_index}
use mathlib.Core.Option.{none}
use Rattle.atomic_table.specs.Table.{Me, step, Allows}
use Rattle.far_word.specs.declared.mark.Mark.TheVariants.{Evac}
use Rattle.far_word.specs.declared.pointer.PtrWord.TheVariants.{Near}
use Rattle.far_word.specs.declared.sizes.TheConstants.{CELLS, POINTERS}
use Rattle.far_word.specs.Mark.{position}
use Rattle.far_word.proofs.PointerLaws.{with_mark_read}
use Rattle.far_events.specs.declared.event.Event.TheVariants.{See, Mark}
use Rattle.far_events.specs.declared.event.Reply.TheVariants.{Word}
use Rattle.far_events.specs.events.Legal.{Legal}
use Rattle.far_events.specs.events.Naming.{is_dropped}
use Rattle.far_events.specs.events.Quiet.{has_move}
use Rattle.far_events.specs.events.Step.{after}
use Rattle.far_events.specs.state.Law.{is_dirty}
use Rattle.far_events.specs.state.State.{State, put}
use Rattle.far_events.proofs.Put.{put_both}
use Rattle.far_hand.specs.Finds.{Finds}
use Rattle.far_hand.specs.Masked.{AllFind, AllFindJobs, masked_word}
use Rattle.far_hand.proofs.Counting.{counts_found, finds_named, finds_put}
use Rattle.far_hand.proofs.EvacMarks.{counts_marked, legal_mark}
use Rattle.far_table.specs.View.{BookView, View, Book, OtherViews}
use Rattle.far_table.specs.BookPlays.{Marked, Saw}
use Rattle.far_table.specs.BookTells.{BookTells}
use Rattle.far_table.specs.BookViews.{marked_view, saw_view}
use Rattle.far_table.specs.Layout.{cell_at, cell_in, epoch_in, job_in, scope_in, word_in}
use Rattle.far_table.specs.Rule.{Facts, Running}
use Rattle.far_table.specs.Stands.{IsPlain, book_of}
use Rattle.far_table.specs.StateOf.{book_state, known_word, state_of}
use Rattle.far_table.specs.Views.{dirts, drops, has_hot, hots, moves}
use Rattle.far_table.proofs.BookFrames.{BookStep, MarksAs, cells_stay, marks_stay}
use Rattle.far_table.proofs.BookLift.{book_makes, book_reads}
use Rattle.far_table.proofs.Masks.{counts, epoch_is, finds, going, rests, ties, words_are}
use Rattle.far_table.proofs.OwnSteps.{reads, state_is}
use Rattle.far_table.proofs.Words.{WordsAre, cell_here, cell_word_set}

-- ---- one cell becomes w
module _ (ws : List ℕ) (b : BookView) (os : OtherViews) (f : Facts ws b os) (p w : ℕ) (small : p < POINTERS) where
  abbrev later : List ℕ
  later = set ws (cell_at p) w

  pub cell_after : WordsAre b.logs later (epoch_in ws) (scope_in ws) (put (cell_in ws) p w) (word_in ws) (job_in ws)
  cell_after = cell_word_set b.logs ws f.wide p w small

  pub epoch_after : epoch_in later ≡ b.epoch
  epoch_after = cell_after.epoch_is ∙ epoch_is ws b os f

  -- the word is found there from now on
  pub finds_after : AllFind (put (book_state b).cell p w) (cell_in later)
  finds_after = subst (AllFind (put (book_state b).cell p w)) (sym cell_after.cell_is) (finds_named (book_state b).cell (cell_in ws) p w (finds ws b os f))

  -- and each job where it was
  pub going_after : AllFindJobs (book_state b).copying.word (job_in later)
  going_after = subst (AllFindJobs (book_state b).copying.word) (sym cell_after.job_is) (going ws b os f)

  pub words_after : IsPlain b → known_word b ≡ masked_word (word_in later) (book_state b).starts (counts b)
  words_after plain = words_are ws b os f plain ∙ ap (λ v. masked_word v (book_state b).starts (counts b)) (sym cell_after.word_is)

  -- it has a mark where the cell had
  counts_as : (count : ℕ → ℕ) → count w ≡ count (cell_in ws p) → (q : ℕ) → count (cell_in later q) ≡ count (cell_in ws q)
  counts_as count same q = ap (λ c. count (c q)) cell_after.cell_is ∙ put_both (λ v. count v ≡ count (cell_in ws q)) (cell_in ws) p w q
      (λ e. same ∙ ap (λ z. count (cell_in ws z)) (sym e)) (λ _. refl)

  pub marks_as : MarksAs w (cell_in ws p) → (q : ℕ) → MarksAs (cell_in later q) (cell_in ws q)
  marks_as same q = (counts_as moves same.0 q, counts_as drops same.1 q, counts_as hots same.2 q, counts_as dirts same.3 q)

pub cells_few : (ws : List ℕ) (b : BookView) (os : OtherViews) → Facts ws b os → (p : ℕ) → p < CELLS * b.mutators → p < POINTERS
cells_few ws b os f p low = let most = f.law.shape.few_mutators in omega arith

module _ (ws : List ℕ) (b : BookView) (os : OtherViews) (f : Facts ws b os) (plain : IsPlain b) (p : ℕ) where
  abbrev s : State
  s = state_of ws b os

  abbrev o : State
  o = book_state b

  abbrev n : ℕ
  n = cell_in ws p

  pub see_step : p < CELLS * b.mutators → BookStep ws b os (See p) (Word n) ws (saw_view p n b)
  see_step low = record {
    legal = low;
    says = refl;
    becomes = reads f (after s (See p)) (saw_view p n b) os refl refl;
    book = λ law. ties ws (saw_view p n b) os law (counts b) (words_are ws b os f plain) (finds_put o.cell s.cell p n (finds ws b os f) refl)
        (counts_found s o.cell (counts b) p n (rests ws b os f) (finds ws b os f p)) (epoch_is ws b os f) (going ws b os f);
    leaves = cells_stay refl refl refl (λ _ _. (refl, refl, refl, refl, refl));
  }

  module _ (h : Legal o (Mark p)) where
    abbrev w : ℕ
    w = bit_or n (2 ^ position Evac)

    legal : Legal s (Mark p)
    legal = legal_mark s f.law o.cell (counts b) (finds ws b os f) p h

    few : p < POINTERS
    few = cells_few ws b os f p h.0

    same_marks : MarksAs w n
    same_marks =
        let near = legal.1 in
        let read = with_mark_read Evac n (Near near.0 near.1 near.2 near.3) (f.law.cells.cell_read p).0 near.4 refl in (
          ap (λ x. cond (has_move x) 1 0) read ∙ sym (ap (λ x. cond (has_move x) 1 0) near.4),
          ap (λ x. cond (is_dropped x) 1 0) read ∙ sym (ap (λ x. cond (is_dropped x) 1 0) near.4),
          ap (λ x. cond (has_hot x) 1 0) read ∙ sym (ap (λ x. cond (has_hot x) 1 0) near.4),
          ap (λ x. cond (is_dirty x) 1 0) read ∙ sym (ap (λ x. cond (is_dirty x) 1 0) near.4),
        )

    mark_step : BookStep ws b os (Mark p) (Word n) (set ws (cell_at p) w) (marked_view p n b)
    mark_step = record {
      legal = legal;
      says = refl;
      becomes = state_is (set ws (cell_at p) w) (marked_view p n b) os (cell_after ws b os f p w few) refl refl refl refl;
      book = λ law. ties (set ws (cell_at p) w) (marked_view p n b) os law (counts b) (words_after ws b os f p w few plain) (finds_after ws b os f p w few)
          (counts_marked s f.law o.cell (counts b) (finds ws b os f) p h (rests ws b os f)) (epoch_after ws b os f p w few) (going_after ws b os f p w few);
      leaves = marks_stay (marks_as ws b os f p w few same_marks) (cell_after ws b os f p w few).scope_is refl (λ _ _. (refl, refl, refl, refl, refl));
    }

module _ {S : Type 0} (slots id : ℕ) (me : Me S View) (is : me.0 ≡ Book (book_of me.0)) (plain : IsPlain (book_of me.0)) (p : ℕ) where
  abbrev view : BookView
  view = book_of me.0

  -- what was found, and what the step tells of the cell that its word is
  abbrev pub FoundAt : ℕ → ℕ → (ℕ → Type 0) → Type 0
  FoundAt z found told = Finds ((book_state view).cell z) found × told z

  pub found_at : (ws : List ℕ) (os : OtherViews) (f : Facts ws view os) → p < CELLS * view.mutators → (q : ℕ) → cell_at p ≡ cell_at q → (told : ℕ → Type 0) → told p →
      FoundAt q (slice_index ws (cell_at p)) told
  found_at ws os f low q e told t =
      let here : cell_in ws p ≡ slice_index ws (cell_at p) = cell_here ws p (cells_few ws view os f p low) in
      let same : p ≡ q = omega arith in
      subst (λ z. FoundAt z (slice_index ws (cell_at p)) told) same (subst (Finds ((book_state view).cell p)) here (finds ws view os f p), t)

  pub sees : p < CELLS * view.mutators → Allows Running slots id me (cell_at p) (λ n. n) (Saw (step slots (cell_at p) 0 0 none) me)
  sees low = book_reads slots id (cell_at p) me is (See p) refl (λ n. Word n) (λ n. saw_view p n view) (Saw (step slots (cell_at p) 0 0 none) me) tt
      (λ ws os f _. subst (λ n. BookStep ws view os (See p) (Word n) ws (saw_view p n view)) (cell_here ws p (cells_few ws view os f p low)) (see_step ws view os f plain p low))
      (λ ws os f _ t q e. let n : ℕ = slice_index ws (cell_at p) in found_at ws os f low q e (λ z. BookTells me.0 (Book (saw_view p n view)) (See z) (Word n) (saw_view z n view)) t)

  marks_evac : Legal (book_state view) (Mark p) → Allows Running slots id me (cell_at p) (λ n. bit_or n (2 ^ position Evac)) (Marked (step slots (cell_at p) (2 ^ position Evac) 0 none) me)
  marks_evac h = book_makes slots id (cell_at p) me is (Mark p) refl (λ n. Word n) (λ n. marked_view p n view) (Marked (step slots (cell_at p) (2 ^ position Evac) 0 none) me) (λ n. bit_or n (2 ^ position Evac)) tt
      (λ ws os f _. subst (λ n. BookStep ws view os (Mark p) (Word n) (set ws (cell_at p) (bit_or n (2 ^ position Evac))) (marked_view p n view)) (cell_here ws p (cells_few ws view os f p h.0)) (mark_step ws view os f plain p h))
      (λ ws os f _ t. (refl, λ q e. let n : ℕ = slice_index ws (cell_at p) in found_at ws os f h.0 q e (λ z. BookTells me.0 (Book (marked_view p n view)) (Mark z) (Word n) (marked_view z n view)) t))

  pub marks : (k : ℕ) → k ≡ 2 ^ position Evac → Legal (book_state view) (Mark p) → Allows Running slots id me (cell_at p) (λ n. bit_or n k) (Marked (step slots (cell_at p) k 0 none) me)
  marks k mask h = subst (λ z. Allows Running slots id me (cell_at p) (λ n. bit_or n z) (Marked (step slots (cell_at p) z 0 none) me)) (sym mask) (marks_evac h)
