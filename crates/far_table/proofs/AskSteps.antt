-- A request of an owner, for MOVE or DROP, is its event of the core.
use Rattle.std.proofs.Common.{◌≡◌, ◌+◌, ◌/◌, ◌<◌, ◌^◌, ℕ, Bool, true, false, cond, bit_or, List, set, sym, refl, ap, ◌∙◌, subst, arith, Option, Some, None}
use Rattle.std.specs.Prelude.{slice_index, is_some, not}
use Rattle.std.proofs.lemmas.Bool.{false≢true}
use mathlib.Core.Logic.{dite}
use mathlib.Core.Option.{some, none}
use mathlib.Core.Path.{fun_ext}
use native.Mathlib.Decide.{ℕ_discrete}
use lib.ListN.{get_elem?}
use Rattle.atomic_table.specs.Table.{Me, step, Allows}
use Rattle.far_word.specs.declared.mark.Mark.{Mark}
use Rattle.far_word.specs.declared.mark.Mark.TheVariants.{Hot, Evac, Moved, Dropped, Dirty}
use Rattle.far_word.specs.declared.pointer.PtrWord.{PtrWord}
use Rattle.far_word.specs.declared.pointer.PtrWord.TheVariants.{Free, Near, Far}
use Rattle.far_word.specs.declared.sizes.TheConstants.{CELLS, POINTERS}
use Rattle.far_word.specs.Mark.{position}
use Rattle.far_word.specs.Pointer.{read_of}
use Rattle.far_events.specs.declared.event.Event.TheVariants.{Ask}
use Rattle.far_events.specs.declared.event.Reply.TheVariants.{Word}
use Rattle.far_events.specs.events.Ask.{is_request}
use Rattle.far_events.specs.events.Legal.{Legal}
use Rattle.far_events.specs.events.Naming.{is_dropped}
use Rattle.far_events.specs.events.Quiet.{has_move}
use Rattle.far_events.specs.events.Step.{after}
use Rattle.far_events.specs.state.Law.{in_use, is_dirty}
use Rattle.far_events.specs.state.State.{State, put}
use Rattle.far_core.specs.world.World.{World}
use Rattle.far_core.specs.world.WorldOf.{world_of}
use Rattle.far_events.proofs.Cells.{map_mark}
use Rattle.far_core.proofs.Marking.{read_mark}
use Rattle.far_core.proofs.Owing.{does}
use Rattle.far_events.proofs.Put.{put_both, put_other, put_same}
use Rattle.far_table.specs.View.{BookView, ObjectView, OwnerView, View, Owner, OtherViews, with_owner}
use Rattle.far_table.specs.Layout.{cell_at, cell_in}
use Rattle.far_table.specs.Plays.{Asked}
use Rattle.far_table.specs.Rule.{Facts, Running}
use Rattle.far_table.specs.StateOf.{cleaned_at, cooled_at, retired_at, state_of, taken_at}
use Rattle.far_table.specs.Tells.{Tells, owner_of}
use Rattle.far_table.specs.Views.{asked_at, asked_view, dirts, dropped_at, drops, has_hot, held_at, hots, moves, object_at, uses, soiled_at}
use Rattle.far_table.proofs.Lift.{owner_makes}
use Rattle.far_table.proofs.Owners.{known_by, pointers_put, pointers_same, remembered_same}
use Rattle.far_table.proofs.OwnSteps.{OwnStep, has_on, is_mutator, state_is}
use Rattle.far_table.proofs.Words.{cell_here, cell_word_set}

used_moves : (x : Option PtrWord) → in_use x ≡ true → cond (has_move (map_mark Moved x)) 1 0 ≡ cond (has_move x) 1 0 + cond (has_move x) 0 1
used_moves None u = absurd (false≢true u)
used_moves (Some Free) u = absurd (false≢true u)
used_moves (Some (Near len ds place m)) u = one m.moved where
  one : (t : Bool) → 1 ≡ cond t 1 0 + cond t 0 1
  one true = refl
  one false = refl
used_moves (Some (Far len ds m)) u = one m.moved where
  one : (t : Bool) → 1 ≡ cond t 1 0 + cond t 0 1
  one true = refl
  one false = refl

dropped_moves : (x : Option PtrWord) → has_move (map_mark Dropped x) ≡ has_move x
dropped_moves None = refl
dropped_moves (Some Free) = refl
dropped_moves (Some (Near len ds place m)) = refl
dropped_moves (Some (Far len ds m)) = refl

moved_drops : (x : Option PtrWord) → is_dropped (map_mark Moved x) ≡ is_dropped x
moved_drops None = refl
moved_drops (Some Free) = refl
moved_drops (Some (Near len ds place m)) = refl
moved_drops (Some (Far len ds m)) = refl

moved_hots : (x : Option PtrWord) → has_hot (map_mark Moved x) ≡ has_hot x
moved_hots None = refl
moved_hots (Some Free) = refl
moved_hots (Some (Near len ds place m)) = refl
moved_hots (Some (Far len ds m)) = refl

dropped_hots : (x : Option PtrWord) → has_hot (map_mark Dropped x) ≡ has_hot x
dropped_hots None = refl
dropped_hots (Some Free) = refl
dropped_hots (Some (Near len ds place m)) = refl
dropped_hots (Some (Far len ds m)) = refl

moved_dirts : (x : Option PtrWord) → is_dirty (map_mark Moved x) ≡ is_dirty x
moved_dirts None = refl
moved_dirts (Some Free) = refl
moved_dirts (Some (Near len ds place m)) = refl
moved_dirts (Some (Far len ds m)) = refl

dropped_dirts : (x : Option PtrWord) → is_dirty (map_mark Dropped x) ≡ is_dirty x
dropped_dirts None = refl
dropped_dirts (Some Free) = refl
dropped_dirts (Some (Near len ds place m)) = refl
dropped_dirts (Some (Far len ds m)) = refl

-- what is in use hasn't DROP, until it gets it
by_not : (t : Bool) → not t ≡ true → t ≡ false
by_not true u = absurd (false≢true u)
by_not false u = refl

undropped : (x : Option PtrWord) → in_use x ≡ true → is_dropped x ≡ false
undropped None u = absurd (false≢true u)
undropped (Some Free) u = absurd (false≢true u)
undropped (Some (Near len ds place m)) u = by_not m.dropped u
undropped (Some (Far len ds m)) u = by_not m.dropped u

dropped_now : (x : Option PtrWord) → in_use x ≡ true → is_dropped (map_mark Dropped x) ≡ true
dropped_now None u = absurd (false≢true u)
dropped_now (Some Free) u = absurd (false≢true u)
dropped_now (Some (Near len ds place m)) u = refl
dropped_now (Some (Far len ds m)) u = refl

module _ (ws : List ℕ) (b : BookView) (os : OtherViews) (f : Facts ws b os) (o : OwnerView) (at : get_elem? os.owners o.number ≡ some o)
    (p : ℕ) (small : p < POINTERS) (own : p / CELLS ≡ o.number) (used : uses o p ≡ true) (free : held_at o p ≡ None) where
  abbrev s : State
  s = state_of ws b os

  abbrev c : ℕ
  c = cell_in ws p

  abbrev m : ℕ
  m = o.number

  used_so : s.used p ≡ true
  used_so = known_by os.owners m o o at uses p own ∙ used

  legal : (k : Mark) → is_request k ≡ true → Legal s (Ask m p k)
  legal k asks = (asks, is_mutator ws b os f m o at, own, used_so, known_by os.owners m o o at held_at p own ∙ free)

  move_read : read_of (bit_or c (2 ^ position Moved)) ≡ map_mark Moved (read_of c)
  move_read = (read_mark Moved c refl (f.law.cells.cell_read p).0 (f.law.views.used_cell p used_so)).0

  drop_read : read_of (bit_or c (2 ^ position Dropped)) ≡ map_mark Dropped (read_of c)
  drop_read = (read_mark Dropped c refl (f.law.cells.cell_read p).0 (f.law.views.used_cell p used_so)).0

  -- HOT stands where it stood
  move_hots : (q : ℕ) → hots (put s.cell p (bit_or c (2 ^ position Moved)) q) ≡ hots (s.cell q)
  move_hots q = put_both (λ v. hots v ≡ hots (s.cell q)) s.cell p (bit_or c (2 ^ position Moved)) q
      (λ e. ap (λ t. cond t 1 0) (ap has_hot move_read ∙ moved_hots (read_of c)) ∙ ap (λ z. hots (s.cell z)) (sym e)) (λ _. refl)

  drop_hots : (q : ℕ) → hots (put s.cell p (bit_or c (2 ^ position Dropped)) q) ≡ hots (s.cell q)
  drop_hots q = put_both (λ v. hots v ≡ hots (s.cell q)) s.cell p (bit_or c (2 ^ position Dropped)) q
      (λ e. ap (λ t. cond t 1 0) (ap has_hot drop_read ∙ dropped_hots (read_of c)) ∙ ap (λ z. hots (s.cell z)) (sym e)) (λ _. refl)

  -- and so does DIRTY
  move_dirts : (q : ℕ) → dirts (put s.cell p (bit_or c (2 ^ position Moved)) q) ≡ dirts (s.cell q)
  move_dirts q = put_both (λ v. dirts v ≡ dirts (s.cell q)) s.cell p (bit_or c (2 ^ position Moved)) q
      (λ e. ap (λ t. cond t 1 0) (ap is_dirty move_read ∙ moved_dirts (read_of c)) ∙ ap (λ z. dirts (s.cell z)) (sym e)) (λ _. refl)

  drop_dirts : (q : ℕ) → dirts (put s.cell p (bit_or c (2 ^ position Dropped)) q) ≡ dirts (s.cell q)
  drop_dirts q = put_both (λ v. dirts v ≡ dirts (s.cell q)) s.cell p (bit_or c (2 ^ position Dropped)) q
      (λ e. ap (λ t. cond t 1 0) (ap is_dirty drop_read ∙ dropped_dirts (read_of c)) ∙ ap (λ z. dirts (s.cell z)) (sym e)) (λ _. refl)

  move_step : OwnStep ws b os o (Ask m p Moved) (Word c) (set ws (cell_at p) (bit_or c (2 ^ position Moved))) (asked_view p Moved c o)
  move_step =
      let w : OwnerView = asked_view p Moved c o in
      let new : ℕ = bit_or c (2 ^ position Moved) in
      let ties = f.owners m o at in
      let n : ℕ = asked_at o p + cond (has_move (read_of c)) 0 1 in record {
        legal = legal Moved refl;
        says = refl;
        becomes = state_is (set ws (cell_at p) new) b (with_owner os m w) (cell_word_set b.logs ws f.wide p new small) (remembered_same os.owners m o w at refl)
            (pointers_same os.owners m o w at uses refl) (pointers_same os.owners m o w at held_at refl) (pointers_same os.owners m o w at soiled_at refl);
        mine = record {
          number = ties.number;
          honest = ties.honest;
          logs = ties.logs;
          scope = ties.scope;
          objects = λ q x mine h. has_on s (after s (Ask m p Moved)) q x (ap (λ (z : World). z.object q) (does s (Ask m p Moved) f.law tt (legal Moved refl))) refl (ties.objects q x mine h);
          asks = λ q mine. dite (ℕ_discrete q p)
              (λ e. put_same (asked_at o) p n q e ∙ (let old : asked_at o p ≡ taken_at b p + moves c = ties.asks p own in
              let more : moves new ≡ moves c + cond (has_move (read_of c)) 0 1 = ap (λ t. cond (has_move t) 1 0) move_read ∙ used_moves (read_of c) (f.law.views.used_cell p used_so) in
              let sum : n ≡ taken_at b p + moves new = omega arith in
              sum ∙ (ap (λ z. taken_at b z + moves new) (sym e) ∙ ap (λ v. taken_at b q + moves v) (sym (put_same s.cell p new q e)))))
              (λ ne. put_other (asked_at o) p n q ne ∙ (ties.asks q mine ∙ ap (λ v. taken_at b q + moves v) (sym (put_other s.cell p new q ne))));
          drops = λ q mine. ties.drops q mine ∙ ap (λ v. retired_at b q + v) (sym (put_both (λ v. drops v ≡ drops (s.cell q)) s.cell p new q
              (λ e. ap (λ t. cond t 1 0) (ap is_dropped move_read ∙ moved_drops (read_of c)) ∙ ap (λ z. drops (s.cell z)) (sym e)) (λ _. refl)));
          hots = λ q mine. ties.hots q mine ∙ ap (λ v. cooled_at b q + v) (sym (move_hots q));
          soils = λ q mine. ties.soils q mine ∙ ap (λ v. cleaned_at b q + v) (sym (move_dirts q));
          warm = λ q mine pinned. let x = ties.warm q mine pinned in (x.0, move_hots q ∙ x.1);
        };
      }

  drop_step : OwnStep ws b os o (Ask m p Dropped) (Word c) (set ws (cell_at p) (bit_or c (2 ^ position Dropped))) (asked_view p Dropped c o)
  drop_step =
      let w : OwnerView = asked_view p Dropped c o in
      let new : ℕ = bit_or c (2 ^ position Dropped) in
      let n : ℕ = dropped_at o p + 1 in
      let ties = f.owners m o at in
      let gone = does s (Ask m p Dropped) f.law tt (legal Dropped refl) in record {
        legal = legal Dropped refl;
        says = refl;
        becomes = state_is (set ws (cell_at p) new) b (with_owner os m w) (cell_word_set b.logs ws f.wide p new small) (remembered_same os.owners m o w at refl)
            (pointers_put os.owners m o w at uses p false own (fun_ext (λ q. put_both (λ (x : Option ObjectView). is_some x ≡ put (uses o) p false q) (object_at o) p None q
            (λ e. sym (put_same (uses o) p false q e)) (λ ne. sym (put_other (uses o) p false q ne)))))
            (pointers_same os.owners m o w at held_at refl) (pointers_same os.owners m o w at soiled_at refl);
        mine = record {
          number = ties.number;
          honest = ties.honest;
          logs = ties.logs;
          scope = ties.scope;
          objects = λ q x mine h. dite (ℕ_discrete q p)
              (λ e. let odd : None ≡ Some x = sym (put_same (object_at o) p None q e) ∙ h in cc)
              (λ ne. has_on s (after s (Ask m p Dropped)) q x (ap (λ (z : World). z.object q) gone.after ∙ put_other (world_of s).object p None q ne) refl
              (ties.objects q x mine (sym (put_other (object_at o) p None q ne) ∙ h)));
          asks = λ q mine. ties.asks q mine ∙ ap (λ v. taken_at b q + v) (sym (put_both (λ v. moves v ≡ moves (s.cell q)) s.cell p new q
              (λ e. ap (λ t. cond t 1 0) (ap has_move drop_read ∙ dropped_moves (read_of c)) ∙ ap (λ z. moves (s.cell z)) (sym e)) (λ _. refl)));
          drops = λ q mine. dite (ℕ_discrete q p)
              (λ e. put_same (dropped_at o) p n q e ∙ (let old : dropped_at o p ≡ retired_at b p + drops c = ties.drops p own in
              let none : drops c ≡ 0 = ap (λ t. cond t 1 0) (undropped (read_of c) (f.law.views.used_cell p used_so)) in
              let one : drops new ≡ 1 = ap (λ t. cond t 1 0) (ap is_dropped drop_read ∙ dropped_now (read_of c) (f.law.views.used_cell p used_so)) in
              let sum : n ≡ retired_at b p + drops new = omega arith in
              sum ∙ (ap (λ z. retired_at b z + drops new) (sym e) ∙ ap (λ v. retired_at b q + drops v) (sym (put_same s.cell p new q e)))))
              (λ ne. put_other (dropped_at o) p n q ne ∙ (ties.drops q mine ∙ ap (λ v. retired_at b q + drops v) (sym (put_other s.cell p new q ne))));
          hots = λ q mine. ties.hots q mine ∙ ap (λ v. cooled_at b q + v) (sym (drop_hots q));
          soils = λ q mine. ties.soils q mine ∙ ap (λ v. cleaned_at b q + v) (sym (drop_dirts q));
          warm = λ q mine pinned. let x = ties.warm q mine pinned in (x.0, drop_hots q ∙ x.1);
        };
      }

  pub ask_step : (k : Mark) → is_request k ≡ true → OwnStep ws b os o (Ask m p k) (Word c) (set ws (cell_at p) (bit_or c (2 ^ position k))) (asked_view p k c o)
  ask_step Hot asks = absurd (false≢true asks)
  ask_step Evac asks = absurd (false≢true asks)
  ask_step Dirty asks = absurd (false≢true asks)
  ask_step Moved asks = move_step
  ask_step Dropped asks = drop_step

  ask_found : (k : Mark) → is_request k ≡ true → OwnStep ws b os o (Ask m p k) (Word (slice_index ws (cell_at p))) (set ws (cell_at p) (bit_or (slice_index ws (cell_at p)) (2 ^ position k)))
      (asked_view p k (slice_index ws (cell_at p)) o)
  ask_found k asks = subst (λ n. OwnStep ws b os o (Ask m p k) (Word n) (set ws (cell_at p) (bit_or n (2 ^ position k))) (asked_view p k n o)) (cell_here ws p small) (ask_step k asks)

module _ {S : Type 0} (slots id : ℕ) (me : Me S View) (is : me.0 ≡ Owner (owner_of me.0)) where
  abbrev view : OwnerView
  view = owner_of me.0

  -- the mask names the mark
  one_mark : (j k : Mark) → is_request j ≡ true → is_request k ≡ true → 2 ^ position j ≡ 2 ^ position k → j ≡ k
  one_mark Moved Moved a b e = refl
  one_mark Dropped Dropped a b e = refl
  one_mark Moved Dropped a b e = absurd (omega arith)
  one_mark Dropped Moved a b e = absurd (omega arith)
  one_mark Hot k a b e = absurd (false≢true a)
  one_mark Evac k a b e = absurd (false≢true a)
  one_mark Dirty k a b e = absurd (false≢true a)
  one_mark Moved Hot a b e = absurd (false≢true b)
  one_mark Moved Evac a b e = absurd (false≢true b)
  one_mark Moved Dirty a b e = absurd (false≢true b)
  one_mark Dropped Dirty a b e = absurd (false≢true b)
  one_mark Dropped Hot a b e = absurd (false≢true b)
  one_mark Dropped Evac a b e = absurd (false≢true b)

  asks_of : (p : ℕ) (k : Mark) → is_request k ≡ true → p < POINTERS → p / CELLS ≡ view.number → uses view p ≡ true → held_at view p ≡ None →
      Allows Running slots id me (cell_at p) (λ n. bit_or n (2 ^ position k)) (Asked (step slots (cell_at p) (2 ^ position k) 0 none) me)
  asks_of p k asks small own used free = owner_makes slots id (cell_at p) me is (Ask view.number p k) refl tt Word (λ n. asked_view p k n view)
      (Asked (step slots (cell_at p) (2 ^ position k) 0 none) me) (λ n. bit_or n (2 ^ position k))
      (λ ws b os f at. ask_found ws b os f view at p small own used free k asks)
      (λ ws b os f at t q j is_one word mask. let n : ℕ = slice_index ws (cell_at p) in let same : p ≡ q = omega arith in let mark : k ≡ j = one_mark k j asks is_one mask in
      subst (λ (z : ℕ × Mark). Tells me.0 (Owner (asked_view p k n view)) (Ask view.number z.0 z.1) (Word n) (asked_view z.0 z.1 n view)) (λ i. (same i, mark i)) t)

  pub asks : (p mask : ℕ) (k : Mark) → mask ≡ 2 ^ position k → is_request k ≡ true → p < POINTERS → p / CELLS ≡ view.number → uses view p ≡ true → held_at view p ≡ None →
      Allows Running slots id me (cell_at p) (λ n. bit_or n mask) (Asked (step slots (cell_at p) mask 0 none) me)
  asks p mask k e is_one small own used free = subst (λ z. Allows Running slots id me (cell_at p) (λ n. bit_or n z) (Asked (step slots (cell_at p) z 0 none) me)) (sym e) (asks_of p k is_one small own used free)
