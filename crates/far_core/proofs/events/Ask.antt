-- What the event Ask owes.
use Rattle.std.proofs.Common.{inl, inr, ◌≡◌, ◌≢◌, ℕ, ◌/◌, ◌<◌, ◌^◌, ◌∙◌, Bool, true, false, nat_lt, arith, ap, refl, sym, subst, bit_or, Option, Some, None}
use Rattle.std.specs.Prelude.{IsSome, is_some}
use Rattle.std.proofs.lemmas.Bool.{false≢true, eq-eqb}
use Rattle.std.proofs.lemmas.Bool.Decides.{nat_tests}
use mathlib.Core.Path.{fun_ext}
use Rattle.far_word.specs.declared.mark.Mark.{Mark}
use Rattle.far_word.specs.declared.mark.Mark.TheVariants.{Hot, Evac, Moved, Dropped, Dirty}
use Rattle.far_word.specs.declared.pointer.PtrWord.{PtrWord}
use Rattle.far_word.specs.declared.pointer.PtrWord.TheVariants.{Free, Near, Far}
use Rattle.far_word.specs.declared.sizes.TheConstants.{CELLS}
use Rattle.far_word.specs.Mark.{position}
use Rattle.far_word.specs.Pointer.{read_of}
use Rattle.far_events.specs.declared.event.Event.TheVariants.{Ask}
use Rattle.far_events.specs.declared.event.Reply.{Reply}
use Rattle.far_events.specs.declared.event.Reply.TheVariants.{Word}
use Rattle.far_events.specs.events.Ask.{is_request, used_after}
use Rattle.far_events.specs.events.Legal.{Legal}
use Rattle.far_events.specs.events.Step.{after, change_of}
use Rattle.far_events.specs.events.Touch.{Uses}
use Rattle.far_core.specs.laws.Worlds.{Caused}
use Rattle.far_events.specs.state.Law.{Law, HasEvac, IsBlank, held_place, in_use}
use Rattle.far_events.specs.state.State.{State, put}
use Rattle.far_core.specs.world.Happens.{Happens}
use Rattle.far_core.specs.world.Steps as world
use Rattle.far_core.specs.world.WorldOf.{world_of, object_of, is_marked}
use Rattle.far_events.proofs.Cells.{Remarked, Remarked-map_mark, HasEvac-mark, map_mark, in_use-mark, in_use_nonzero}
use Rattle.far_events.specs.events.Naming.{is_dropped}
use Rattle.far_core.proofs.Cells.{object_of-mark}
use Rattle.far_core.proofs.Frames.{law_with_cell, law_with_cell_marks}
use Rattle.far_events.proofs.Guards.{none_from}
use Rattle.far_core.proofs.Marking.{is_owners, read_mark, is_marked-moved, object_of-dropped, is_marked-dropped, in_use_object, marks_world}
use Rattle.far_core.proofs.Owed.{Owed, replies}
use Rattle.far_events.proofs.Put.{put_both, put_same, put_other}
use Rattle.far_core.proofs.Touching.{by_owner, one_cell, touched}
use Rattle.far_core.proofs.Worlds.{World-ext}

requests : (k : Mark) → is_request k ≡ true → is_owners k ≡ true
requests Hot h = absurd (false≢true h)
requests Evac h = absurd (false≢true h)
requests Moved h = refl
requests Dropped h = refl
requests Dirty h = absurd (false≢true h)

-- ---- what is used after it
used_other : (used : ℕ → Bool) (p : ℕ) (k : Mark) (q : ℕ) → q ≢ p → used_after used p k q ≡ used q
used_other used p Hot q ne = refl
used_other used p Evac q ne = refl
used_other used p Moved q ne = refl
used_other used p Dropped q ne = put_other used p false q ne
used_other used p Dirty q ne = refl

used_dropped : (used : ℕ → Bool) (p : ℕ) (k : Mark) → k ≡ Dropped → used_after used p k p ≡ false
used_dropped used p Hot e = absurd cc
used_dropped used p Evac e = absurd cc
used_dropped used p Moved e = absurd cc
used_dropped used p Dropped e = put_same used p false p refl
used_dropped used p Dirty e = absurd cc

used_moved : (used : ℕ → Bool) (p : ℕ) (k : Mark) → used p ≡ true → k ≡ Moved → used_after used p k p ≡ true
used_moved used p Hot u e = u
used_moved used p Evac u e = u
used_moved used p Moved u e = u
used_moved used p Dropped u e = absurd cc
used_moved used p Dirty u e = u

dropped_is : (o : Option PtrWord) → in_use o ≡ true → is_dropped (map_mark Dropped o) ≡ true
dropped_is None u = absurd (false≢true u)
dropped_is (Some Free) u = absurd (false≢true u)
dropped_is (Some (Near len ds place m)) u = refl
dropped_is (Some (Far len ds m)) u = refl

module _ (s : State) (law : Law s) (p : ℕ) (used : s.used p ≡ true) (unheld : s.held p ≡ None) where
  abbrev cell : Mark → ℕ
  cell k = bit_or (s.cell p) (2 ^ position k)

  live : in_use (read_of (s.cell p)) ≡ true
  live = law.views.used_cell p used

  pub reads : (k : Mark) → is_owners k ≡ true → (read_of (cell k) ≡ map_mark k (read_of (s.cell p))) × (cell k < 2 ^ 64)
  reads k h = read_mark k (s.cell p) h (law.cells.cell_read p).0 live

  remarked : (k : Mark) → is_owners k ≡ true → Remarked (read_of (s.cell p)) (read_of (cell k))
  remarked k h = subst (λ o. Remarked (read_of (s.cell p)) o) (sym (reads k h).0) (Remarked-map_mark k _)

  evac : (k : Mark) → is_owners k ≡ true → HasEvac s.round (read_of (cell k))
  evac k h = subst (HasEvac s.round) (sym (reads k h).0) (HasEvac-mark k s.round _ (law.rounds.round_evac p))

  pub keeps_move : Law record s { cell = put s.cell p (cell Moved) }
  keeps_move = law_with_cell_marks s law p (cell Moved) (reads Moved refl).1 (remarked Moved refl) (evac Moved refl) (in_use_nonzero _ live)
      (λ place h. let odd : None ≡ Some place = sym unheld ∙ h in absurd cc)
      (λ u. ap in_use (reads Moved refl).0 ∙ in_use-mark Moved _ (λ e. cc) ∙ live)

  not_held : (q : ℕ) → q ≡ p → ¬ IsSome (s.held q)
  not_held q e h = false≢true (sym (ap (λ x. is_some (s.held x)) e ∙ ap is_some unheld) ∙ h)

  gone : is_dropped (read_of (cell Dropped)) ≡ true
  gone = ap is_dropped (reads Dropped refl).0 ∙ dropped_is _ live

  -- what is dropped is no longer owed its zeros
  no_blank : (q : ℕ) → IsBlank s.word (s.stored q) (read_of (cell Dropped))
  no_blank q = record {
    near = λ len ds place m is kept. absurd (false≢true (sym (ap is_dropped is ∙ kept) ∙ gone));
    far = λ len ds m is kept. absurd (false≢true (sym (ap is_dropped is ∙ kept) ∙ gone));
  }

  pub keeps_drop : Law record s { cell = put s.cell p (cell Dropped); used = put s.used p false }
  keeps_drop = law_with_cell s law p (cell Dropped) (reads Dropped refl).1 (remarked Dropped refl) (evac Dropped refl) (in_use_nonzero _ live) (put s.used p false)
      (record {
        held_open = law.views.held_open;
        held_names = λ q at h. put_both (λ w. held_place (read_of w) ≡ Some at) s.cell p (cell Dropped) q
            (λ e. absurd (not_held q e (rw h refl))) (λ _. law.views.held_names q at h);
        held_used = λ q h. put_both (λ b. b ≡ true) s.used p false q (λ e. absurd (not_held q e h)) (λ _. law.views.held_used q h);
        used_cell = λ q. put_both (λ b. b ≡ true → in_use (read_of (put s.cell p (cell Dropped) q)) ≡ true) s.used p false q
            (λ _ h. absurd (false≢true h)) (λ ne h. ap (λ w. in_use (read_of w)) (put_other s.cell p (cell Dropped) q ne) ∙ law.views.used_cell q h);
      })
      (λ honest q. put_both (λ b. b ≡ false → IsBlank s.word (s.stored q) (read_of (put s.cell p (cell Dropped) q))) s.used p false q
      (λ e _. rw (put_same s.cell p (cell Dropped) q e) (no_blank q))
      (λ ne free. rw (put_other s.cell p (cell Dropped) q ne) (law.unadopted honest q free)))

  pub move_marks : world.Marks (world_of s) p (world_of record s { cell = put s.cell p (cell Moved) })
  move_marks = marks_world s p (cell Moved) (λ f g q. ap (object_of f g q) (reads Moved refl).0 ∙ object_of-mark Moved f g q _ (λ e. cc))
      (ap is_marked (reads Moved refl).0 ∙ is_marked-moved s.word (s.stored p) p _)

  pub drop_drops : (m : ℕ) → p / CELLS ≡ m → world.Drops (world_of s) m p (world_of record s { cell = put s.cell p (cell Dropped); used = put s.used p false })
  unfolding world_of
  drop_drops m own = record {
    own = own;
    unviewed = ap is_some unheld;
    there = in_use_object s.word (s.stored p) p _ live;
    after = World-ext _ _
        (fun_ext (λ q. put_both (λ w. object_of s.word (s.stored q) q (read_of w) ≡ put (λ r. object_of s.word (s.stored r) r (read_of (s.cell r))) p None q) s.cell p (cell Dropped) q
        (λ e. ap (object_of s.word (s.stored q) q) (reads Dropped refl).0 ∙ object_of-dropped s.word (s.stored q) q _ ∙ sym (put_same (λ r. object_of s.word (s.stored r) r (read_of (s.cell r))) p None q e))
        (λ ne. sym (put_other (λ r. object_of s.word (s.stored r) r (read_of (s.cell r))) p None q ne))))
        refl refl
        (fun_ext (λ q. put_both (λ w. is_marked (read_of w) ≡ put (λ r. is_marked (read_of (s.cell r))) p false q) s.cell p (cell Dropped) q
        (λ e. ap is_marked (reads Dropped refl).0 ∙ is_marked-dropped _ ∙ sym (put_same (λ r. is_marked (read_of (s.cell r))) p false q e))
        (λ ne. sym (put_other (λ r. is_marked (read_of (s.cell r))) p false q ne))))
        refl refl;
  }

-- ---- by the mark that is asked for
module _ (m p : ℕ) where
  keeps_ask : (k : Mark) (s : State) → Law s → Legal s (Ask m p k) → Law (after s (Ask m p k))
  keeps_ask Hot s law h = absurd (false≢true h.0)
  keeps_ask Evac s law h = absurd (false≢true h.0)
  keeps_ask Moved s law h = keeps_move s law p h.3 h.4
  keeps_ask Dropped s law h = keeps_drop s law p h.3 h.4
  keeps_ask Dirty s law h = absurd (false≢true h.0)

  does_ask : (k : Mark) (s : State) → Law s → Legal s (Ask m p k) → Happens (world_of s) (Ask m p k) (Word (s.cell p)) (world_of (after s (Ask m p k)))
  does_ask Hot s law h = absurd (false≢true h.0)
  does_ask Evac s law h = absurd (false≢true h.0)
  does_ask Moved s law h = move_marks s law p h.3 h.4
  does_ask Dropped s law h = drop_drops s law p h.3 h.4 m h.2
  does_ask Dirty s law h = absurd (false≢true h.0)

  -- no other reply comes
  ask_causes : (k : Mark) (r : Reply) → Caused (Ask m p k) (change_of (Ask m p k) r)
  ask_causes Hot = replies (λ r. Caused (Ask m p Hot) (change_of (Ask m p Hot) r)) tt tt (λ n. tt) (λ x. tt) (λ place. tt)
  ask_causes Evac = replies (λ r. Caused (Ask m p Evac) (change_of (Ask m p Evac) r)) tt tt (λ n. tt) (λ x. tt) (λ place. tt)
  ask_causes Moved = replies (λ r. Caused (Ask m p Moved) (change_of (Ask m p Moved) r)) tt tt (λ n. tt) (λ x. inr (m, refl)) (λ place. tt)
  ask_causes Dropped = replies (λ r. Caused (Ask m p Dropped) (change_of (Ask m p Dropped) r)) tt tt (λ n. tt) (λ x. refl) (λ place. tt)
  ask_causes Dirty = replies (λ r. Caused (Ask m p Dirty) (change_of (Ask m p Dirty) r)) tt tt (λ n. tt) (λ x. tt) (λ place. tt)

-- what the event owes
module _ (m p : ℕ) (k : Mark) where
  pub ask_owed : Owed (Ask m p k)
  ask_owed = record {
    fact = λ s law h. (grind (arith, nat_tests), grind (arith, nat_tests), grind (arith, nat_tests), grind (arith, nat_tests), none_from (s.held p) (grind (arith, nat_tests)));
    test = λ s h. let low : m < s.mutators = h.1 in let a : nat_lt m s.mutators ≡ true = grind (arith, nat_tests) in rw (h.0, a, eq-eqb _ _ h.2, h.3, h.4) refl;
    keeps = λ s law fits h. keeps_ask m p k s law h;
    does = λ s law fits h. does_ask m p k s law h;
    within = λ s. touched (one_cell s.epoch s.scope s.cell s.word s.copying.word p _) (λ a b c. refl) (λ q a. used_other s.used p k q (λ e. a (ap Uses (sym e)))) (λ q a b. refl);
    part = λ s h. inr (k, by_owner (λ a b. Ask a b k) m p p (grind (arith, nat_tests)) refl);
    word = λ s h. inr (inr (inr (inl (k, by_owner (λ a b. Ask a b k) m p p (grind (arith, nat_tests)) refl))));
    reports = λ s law h. (
      refl,
      λ v e. ap read_of (put_same s.cell p (bit_or (s.cell p) (2 ^ position k)) p refl) ∙ (reads s law p h.3 h.4 k (requests k h.0)).0 ∙ ap (map_mark k) e,
      used_dropped s.used p k,
      used_moved s.used p k h.3,
    );
    silent = λ s t h. h;
    answers = λ s x. cc;
    causes = ask_causes m p k;
  }
