-- A pin is its event of the core.
use Rattle.std.proofs.Common.{◌≡◌, ◌≢◌, ◌+◌, ◌/◌, ◌<◌, ◌^◌, ℕ, Bool, true, false, cond, bit_or, List, set, sym, refl, ap, ◌∙◌, subst, arith, Option, Some, None}
use Rattle.std.specs.Prelude.{slice_index, is_some, IsSome}
use Rattle.std.proofs.lemmas.Bool.{false≢true}
use mathlib.Core.Logic.{dite}
use mathlib.Core.Option.{some, none}
use native.Mathlib.Decide.{ℕ_discrete}
use lib.ListN.{get_elem?}
use Rattle.atomic_table.specs.Table.{Me, step, Allows}
use Rattle.far_word.specs.declared.mark.Mark.TheVariants.{Hot}
use Rattle.far_word.specs.declared.pointer.Place.{Place}
use Rattle.far_word.specs.declared.pointer.PtrWord.{PtrWord}
use Rattle.far_word.specs.declared.pointer.PtrWord.TheVariants.{Free, Near, Far}
use Rattle.far_word.specs.declared.sizes.TheConstants.{CELLS, POINTERS}
use Rattle.far_word.specs.Mark.{position}
use Rattle.far_word.specs.Pointer.{read_of}
use Rattle.far_word.specs.Sizes.{words_for}
use Rattle.far_events.specs.declared.event.Event.TheVariants.{Pin}
use Rattle.far_events.specs.events.Legal.{Legal}
use Rattle.far_events.specs.events.Open.{scope_word_of}
use Rattle.far_events.specs.events.Pin.{place_to_view, with_hold, pin_answer}
use Rattle.far_events.specs.events.Naming.{is_dropped}
use Rattle.far_events.specs.events.Quiet.{has_move}
use Rattle.far_events.specs.events.Step.{after}
use Rattle.far_events.specs.state.Law.{in_use, is_dirty}
use Rattle.far_events.specs.state.State.{State, put}
use Rattle.far_events.proofs.Cells.{map_mark}
use Rattle.far_core.proofs.KeepOwner.{hot_read}
use Rattle.far_core.proofs.Owing.{does}
use Rattle.far_events.proofs.Put.{put_both, put_other, put_same}
use Rattle.far_table.specs.View.{BookView, OwnerView, View, Owner, OtherViews, with_owner}
use Rattle.far_table.specs.Layout.{cell_at, cell_in}
use Rattle.far_table.specs.Plays.{Pinned, Lies}
use Rattle.far_table.specs.Rule.{Facts, Running}
use Rattle.far_table.specs.StateOf.{cleaned_at, cooled_at, held_by, stained_at, state_of}
use Rattle.far_table.specs.Tells.{Tells, owner_of}
use Rattle.far_table.specs.Views.{asked_at, dirtied_at, dirts, dropped_at, drops, has_hot, heated_at, held_at, held_view, hots, len_of, moves, object_at, pinned_at, pinned_view, soiled_at, uses, warmed_view, with_place}
use Rattle.far_table.proofs.HeldFacts.{may_hold, near_facts}
use Rattle.far_table.proofs.Lift.{owner_makes}
use Rattle.far_table.proofs.Others.{pin_objects}
use Rattle.far_table.proofs.Owners.{known_by, pointers_put, pointers_same, remembered_same}
use Rattle.far_table.proofs.OwnSteps.{OwnStep, mine_on, state_is}
use Rattle.far_table.proofs.Steps.{open_so}
use Rattle.far_table.proofs.Words.{cell_here, cell_word_set}

hot_moves : (x : Option PtrWord) → has_move (map_mark Hot x) ≡ has_move x
hot_moves None = refl
hot_moves (Some Free) = refl
hot_moves (Some (Near len ds place m)) = refl
hot_moves (Some (Far len ds m)) = refl

hot_drops : (x : Option PtrWord) → is_dropped (map_mark Hot x) ≡ is_dropped x
hot_drops None = refl
hot_drops (Some Free) = refl
hot_drops (Some (Near len ds place m)) = refl
hot_drops (Some (Far len ds m)) = refl

hot_dirts : (x : Option PtrWord) → is_dirty (map_mark Hot x) ≡ is_dirty x
hot_dirts None = refl
hot_dirts (Some Free) = refl
hot_dirts (Some (Near len ds place m)) = refl
hot_dirts (Some (Far len ds m)) = refl

-- what is in use has HOT from now on
used_hots : (x : Option PtrWord) → in_use x ≡ true → cond (has_hot (map_mark Hot x)) 1 0 ≡ cond (has_hot x) 1 0 + cond (has_hot x) 0 1
used_hots None u = absurd (false≢true u)
used_hots (Some Free) u = absurd (false≢true u)
used_hots (Some (Near len ds place m)) u = one m.hot where
  one : (t : Bool) → 1 ≡ cond t 1 0 + cond t 0 1
  one true = refl
  one false = refl
used_hots (Some (Far len ds m)) u = one m.hot where
  one : (t : Bool) → 1 ≡ cond t 1 0 + cond t 0 1
  one true = refl
  one false = refl

in_use_hot : (x : Option PtrWord) → in_use x ≡ true → has_hot (map_mark Hot x) ≡ true
in_use_hot None u = absurd (false≢true u)
in_use_hot (Some Free) u = absurd (false≢true u)
in_use_hot (Some (Near len ds place m)) u = refl
in_use_hot (Some (Far len ds m)) u = refl

-- a place that is held changes nothing else of a view
placed_same : {X : Type 0} (g : OwnerView → X) (p : ℕ) (o : OwnerView) → ((place : Place) → g (held_view p place o) ≡ g o) → (x : Option Place) → g (with_place p x o) ≡ g o
placed_same g p o h None = refl
placed_same g p o h (Some place) = h place

module _ (ws : List ℕ) (b : BookView) (os : OtherViews) (f : Facts ws b os) (o : OwnerView) (at : get_elem? os.owners o.number ≡ some o)
    (p : ℕ) (small : p < POINTERS) (own : p / CELLS ≡ o.number) (used : uses o p ≡ true) (free : held_at o p ≡ None) (opened : IsSome o.open_at) where
  abbrev s : State
  s = state_of ws b os

  abbrev c : ℕ
  c = cell_in ws p

  abbrev m : ℕ
  m = o.number

  used_so : s.used p ≡ true
  used_so = known_by os.owners m o o at uses p own ∙ used

  legal : Legal s (Pin m p)
  legal = (open_so ws b os f o at opened, own, used_so, known_by os.owners m o o at held_at p own ∙ free)

  -- HOT is counted
  abbrev warm : OwnerView
  warm = warmed_view p c o

  held_after : (x : Option Place) → held_by (set os.owners m (with_place p x warm)) ≡ with_hold (held_by os.owners) p x
  held_after None = pointers_same os.owners m o warm at held_at refl
  held_after (Some place) = pointers_put os.owners m o (held_view p place warm) at held_at p (Some place) own refl

  marks_after : (q : ℕ) → (moves (put s.cell p (bit_or c (2 ^ position Hot)) q) ≡ moves (s.cell q)) × (drops (put s.cell p (bit_or c (2 ^ position Hot)) q) ≡ drops (s.cell q))
  marks_after q = put_both (λ v. (moves v ≡ moves (s.cell q)) × (drops v ≡ drops (s.cell q))) s.cell p (bit_or c (2 ^ position Hot)) q
      (λ e. (
        ap (λ t. cond t 1 0) (ap has_move (hot_read s f.law p used_so) ∙ hot_moves (read_of c)) ∙ ap (λ z. moves (s.cell z)) (sym e),
        ap (λ t. cond t 1 0) (ap is_dropped (hot_read s f.law p used_so) ∙ hot_drops (read_of c)) ∙ ap (λ z. drops (s.cell z)) (sym e),
      ))
      (λ _. (refl, refl))

  dirts_after : (q : ℕ) → dirts (put s.cell p (bit_or c (2 ^ position Hot)) q) ≡ dirts (s.cell q)
  dirts_after q = put_both (λ v. dirts v ≡ dirts (s.cell q)) s.cell p (bit_or c (2 ^ position Hot)) q
      (λ e. ap (λ t. cond t 1 0) (ap is_dirty (hot_read s f.law p used_so) ∙ hot_dirts (read_of c)) ∙ ap (λ z. dirts (s.cell z)) (sym e)) (λ _. refl)

  heats_after : (q : ℕ) → q / CELLS ≡ m → heated_at warm q ≡ cooled_at b q + hots (put s.cell p (bit_or c (2 ^ position Hot)) q)
  heats_after q mine =
      let new : ℕ = bit_or c (2 ^ position Hot) in
      let n : ℕ = heated_at o p + cond (has_hot (read_of c)) 0 1 in
      let ties = f.owners m o at in dite (ℕ_discrete q p)
      (λ e. put_same (heated_at o) p n q e ∙ (let old : heated_at o p ≡ cooled_at b p + hots c = ties.hots p own in
      let more : hots new ≡ hots c + cond (has_hot (read_of c)) 0 1 = ap (λ t. cond (has_hot t) 1 0) (hot_read s f.law p used_so) ∙ used_hots (read_of c) (f.law.views.used_cell p used_so) in
      let sum : n ≡ cooled_at b p + hots new = omega arith in
      sum ∙ (ap (λ z. cooled_at b z + hots new) (sym e) ∙ ap (λ v. cooled_at b q + hots v) (sym (put_same s.cell p new q e)))))
      (λ ne. put_other (heated_at o) p n q ne ∙ (ties.hots q mine ∙ ap (λ v. cooled_at b q + hots v) (sym (put_other s.cell p new q ne))))

  -- the cell has HOT, and what is held by a pin has it too
  warm_after : (x : Option Place) (q : ℕ) → q / CELLS ≡ m → pinned_at (with_place p x warm) q ≡ true →
      IsSome (held_at (with_place p x warm) q) × (hots (put s.cell p (bit_or c (2 ^ position Hot)) q) ≡ 1)
  warm_after x q mine pinned =
      let ties = f.owners m o at in
      let new : ℕ = bit_or c (2 ^ position Hot) in
      let hot : hots new ≡ 1 = ap (λ t. cond t 1 0) (ap has_hot (hot_read s f.law p used_so) ∙ in_use_hot (read_of c) (f.law.views.used_cell p used_so)) in dite (ℕ_discrete q p)
      (λ e. (here x q e pinned, ap hots (put_same s.cell p new q e) ∙ hot))
      (λ ne. let y = ties.warm q mine (away x q ne pinned) in (there x q ne y.0, ap hots (put_other s.cell p new q ne) ∙ y.1)) where
        here : (x : Option Place) (q : ℕ) → q ≡ p → pinned_at (with_place p x warm) q ≡ true → IsSome (held_at (with_place p x warm) q)
        here None q e h = ((f.owners m o at).warm q (ap (λ z. z / CELLS) e ∙ own) h).0
        here (Some place) q e h = ap is_some (put_same (held_at o) p (Some place) q e)

        away : (x : Option Place) (q : ℕ) → q ≢ p → pinned_at (with_place p x warm) q ≡ true → pinned_at o q ≡ true
        away None q ne h = h
        away (Some place) q ne h = sym (put_other (pinned_at o) p true q ne) ∙ h

        there : (x : Option Place) (q : ℕ) → q ≢ p → IsSome (held_at o q) → IsSome (held_at (with_place p x warm) q)
        there None q ne h = h
        there (Some place) q ne h = ap is_some (put_other (held_at o) p (Some place) q ne) ∙ h

  pub pin_step : OwnStep ws b os o (Pin m p) (pin_answer c (place_to_view (read_of c))) (set ws (cell_at p) (bit_or c (2 ^ position Hot))) (pinned_view p c o)
  pin_step =
      let x : Option Place = place_to_view (read_of c) in
      let w : OwnerView = with_place p x warm in
      let hot : ℕ = bit_or c (2 ^ position Hot) in
      let opens : w.open_at ≡ o.open_at = placed_same (λ y. y.open_at) p warm (λ _. refl) x in record {
        legal = legal;
        says = refl;
        becomes = state_is (set ws (cell_at p) hot) b (with_owner os m w) (cell_word_set b.logs ws f.wide p hot small)
            (remembered_same os.owners m o w at (placed_same (λ y. y.epoch) p warm (λ _. refl) x))
            (pointers_same os.owners m o w at uses (placed_same uses p warm (λ _. refl) x)) (held_after x) (pointers_same os.owners m o w at soiled_at (placed_same soiled_at p warm (λ _. refl) x));
        mine = mine_on b s (after s (Pin m p)) m o w (f.owners m o at) (placed_same (λ y. y.number) p warm (λ _. refl) x) (placed_same (λ y. y.honest) p warm (λ _. refl) x) (placed_same (λ y. y.logs) p warm (λ _. refl) x) refl
            ((f.owners m o at).scope ∙ ap scope_word_of (sym opens)) (placed_same object_at p warm (λ _. refl) x) (placed_same asked_at p warm (λ _. refl) x) (placed_same dropped_at p warm (λ _. refl) x)
            (pin_objects c x m p _ _ (does s (Pin m p) f.law tt legal)) marks_after (λ q mine. ap (λ g. g q) (placed_same heated_at p warm (λ _. refl) x) ∙ heats_after q mine)
            (λ q mine. ap (λ g. g q + stained_at b q) (placed_same dirtied_at p warm (λ _. refl) x) ∙ ((f.owners m o at).soils q mine ∙ ap (λ v. cleaned_at b q + v) (sym (dirts_after q))))
            (warm_after x);
      }

  pin_found : OwnStep ws b os o (Pin m p) (pin_answer (slice_index ws (cell_at p)) (place_to_view (read_of (slice_index ws (cell_at p))))) (set ws (cell_at p) (bit_or (slice_index ws (cell_at p)) (2 ^ position Hot)))
      (pinned_view p (slice_index ws (cell_at p)) o)
  pin_found = subst (λ n. OwnStep ws b os o (Pin m p) (pin_answer n (place_to_view (read_of n))) (set ws (cell_at p) (bit_or n (2 ^ position Hot))) (pinned_view p n o)) (cell_here ws p small) pin_step

  -- the word found reads, and an object that it says may be held lies within the logs
  found_lies : Lies o p (slice_index ws (cell_at p))
  found_lies = subst (Lies o p) (cell_here ws p small) (
    (f.law.cells.cell_read p).1,
    λ place e. let x = near_facts ws b os f o at p place own used (may_hold (read_of c) place e) in
        let long : words_for (len_of (object_at o p)) ≡ words_for x.len = ap (λ z. words_for (len_of z)) x.used ∙ ap words_for x.long in
        let fits = x.fits in let within = x.within in let many = (f.owners m o at).logs in (omega arith, omega arith),
  )

module _ {S : Type 0} (slots id : ℕ) (me : Me S View) (is : me.0 ≡ Owner (owner_of me.0)) where
  abbrev view : OwnerView
  view = owner_of me.0

  pins_hot : (p : ℕ) → p < POINTERS → p / CELLS ≡ view.number → uses view p ≡ true → held_at view p ≡ None → IsSome view.open_at →
      Allows Running slots id me (cell_at p) (λ n. bit_or n (2 ^ position Hot)) (Pinned (step slots (cell_at p) (2 ^ position Hot) 0 none) me)
  pins_hot p small own used free opened = owner_makes slots id (cell_at p) me is (Pin view.number p) refl tt (λ n. pin_answer n (place_to_view (read_of n))) (λ n. pinned_view p n view)
      (Pinned (step slots (cell_at p) (2 ^ position Hot) 0 none) me) (λ n. bit_or n (2 ^ position Hot))
      (λ ws b os f at. pin_found ws b os f view at p small own used free opened)
      (λ ws b os f at t. (
        refl,
        λ q e. let n : ℕ = slice_index ws (cell_at p) in let same : p ≡ q = omega arith in
            subst (λ z. Lies view z n × Tells me.0 (Owner (pinned_view p n view)) (Pin view.number z) (pin_answer n (place_to_view (read_of n))) (pinned_view z n view)) same
            (found_lies ws b os f view at p small own used free opened, t),
      ))

  pub pins : (p k : ℕ) → k ≡ 2 ^ position Hot → p < POINTERS → p / CELLS ≡ view.number → uses view p ≡ true → held_at view p ≡ None → IsSome view.open_at →
      Allows Running slots id me (cell_at p) (λ n. bit_or n k) (Pinned (step slots (cell_at p) k 0 none) me)
  pins p k mask small own used free opened = subst (λ z. Allows Running slots id me (cell_at p) (λ n. bit_or n z) (Pinned (step slots (cell_at p) z 0 none) me)) (sym mask) (pins_hot p small own used free opened)
