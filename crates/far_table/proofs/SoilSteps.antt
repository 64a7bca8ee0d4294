-- An owner's soiling is its event of the core.
use Rattle.std.proofs.Common.{◌≡◌, ◌+◌, ◌/◌, ◌<◌, ◌^◌, ℕ, Bool, true, false, cond, bit_or, List, set, sym, refl, ap, ◌∙◌, subst, arith, Option, Some, None}
use Rattle.std.specs.Prelude.{slice_index, IsSome}
use mathlib.Core.Logic.{dite}
use mathlib.Core.Option.{some, none}
use native.Mathlib.Decide.{ℕ_discrete}
use lib.ListN.{get_elem?}
use Rattle.atomic_table.specs.Table.{Me, step, Allows}
use Rattle.far_word.specs.declared.mark.Mark.TheVariants.{Dirty}
use Rattle.far_word.specs.declared.pointer.PtrWord.{PtrWord}
use Rattle.far_word.specs.declared.pointer.PtrWord.TheVariants.{Free, Near, Far}
use Rattle.far_word.specs.declared.sizes.TheConstants.{CELLS, POINTERS}
use Rattle.far_word.specs.Mark.{position}
use Rattle.far_word.specs.Pointer.{read_of}
use Rattle.far_events.specs.declared.event.Event.TheVariants.{Soil}
use Rattle.far_events.specs.declared.event.Reply.TheVariants.{Word}
use Rattle.far_events.specs.events.Legal.{Legal}
use Rattle.far_events.specs.events.Naming.{is_dropped}
use Rattle.far_events.specs.events.Quiet.{has_move}
use Rattle.far_events.specs.events.Step.{after}
use Rattle.far_events.specs.state.Law.{is_dirty}
use Rattle.far_events.specs.state.State.{State, put}
use Rattle.far_core.specs.world.World.{World}
use Rattle.far_events.proofs.Cells.{map_mark}
use Rattle.far_core.proofs.Owing.{does}
use Rattle.far_events.proofs.Put.{put_both, put_other, put_same}
use Rattle.far_core.proofs.events.Soil as soiling
use Rattle.far_table.specs.View.{BookView, OwnerView, View, Owner, OtherViews, with_owner}
use Rattle.far_table.specs.Layout.{cell_at, cell_in}
use Rattle.far_table.specs.Plays.{Soiled}
use Rattle.far_table.specs.Rule.{Facts, Running}
use Rattle.far_table.specs.StateOf.{cleaned_at, cooled_at, stained_at, state_of}
use Rattle.far_table.specs.Tells.{Tells, owner_of}
use Rattle.far_table.specs.Views.{dirtied_at, dirts, drops, has_hot, held_at, hots, moves, soiled_at, soiled_view, uses}
use Rattle.far_table.proofs.Lift.{owner_makes}
use Rattle.far_table.proofs.Owners.{known_by, pointers_put, pointers_same, remembered_same}
use Rattle.far_table.proofs.OwnSteps.{OwnStep, mine_on, state_is}
use Rattle.far_table.proofs.Words.{cell_here, cell_word_set}

dirty_moves : (x : Option PtrWord) → has_move (map_mark Dirty x) ≡ has_move x
dirty_moves None = refl
dirty_moves (Some Free) = refl
dirty_moves (Some (Near len ds place m)) = refl
dirty_moves (Some (Far len ds m)) = refl

dirty_drops : (x : Option PtrWord) → is_dropped (map_mark Dirty x) ≡ is_dropped x
dirty_drops None = refl
dirty_drops (Some Free) = refl
dirty_drops (Some (Near len ds place m)) = refl
dirty_drops (Some (Far len ds m)) = refl

dirty_hots : (x : Option PtrWord) → has_hot (map_mark Dirty x) ≡ has_hot x
dirty_hots None = refl
dirty_hots (Some Free) = refl
dirty_hots (Some (Near len ds place m)) = refl
dirty_hots (Some (Far len ds m)) = refl

-- DIRTY stands there from now on
one_more : (t : Bool) → 1 ≡ cond t 1 0 + cond t 0 1
one_more true = refl
one_more false = refl

-- it is set anew where it didn't stand
dirt_set : (set left found was more now : ℕ) → set + left ≡ found + was → now ≡ was + more → set + more + left ≡ found + now
dirt_set set left found was more now tie is = omega arith

pub dirtied_anew : (p found : ℕ) (o : OwnerView) → is_dirty (read_of found) ≡ false → dirtied_at (soiled_view p found o) p ≡ dirtied_at o p + 1
dirtied_anew p found o clean = put_same (dirtied_at o) p (dirtied_at o p + cond (is_dirty (read_of found)) 0 1) p refl ∙ ap (λ b. dirtied_at o p + cond b 0 1) clean

pub dirtied_again : (p found : ℕ) (o : OwnerView) → is_dirty (read_of found) ≡ true → dirtied_at (soiled_view p found o) p ≡ dirtied_at o p
dirtied_again p found o dirty =
    let more : ℕ = cond (is_dirty (read_of found)) 0 1 in
    let none_more : more ≡ 0 = ap (λ b. cond b 0 1) dirty in
    put_same (dirtied_at o) p (dirtied_at o p + more) p refl ∙ omega (arith, none_more)

module _ (ws : List ℕ) (b : BookView) (os : OtherViews) (f : Facts ws b os) (o : OwnerView) (at : get_elem? os.owners o.number ≡ some o)
    (p : ℕ) (small : p < POINTERS) (own : p / CELLS ≡ o.number) (held : IsSome (held_at o p)) where
  abbrev s : State
  s = state_of ws b os

  abbrev c : ℕ
  c = cell_in ws p

  abbrev m : ℕ
  m = o.number

  abbrev new : ℕ
  new = bit_or c (2 ^ position Dirty)

  rests : IsSome (s.held p)
  rests = subst IsSome (sym (known_by os.owners m o o at held_at p own)) held

  legal : Legal s (Soil m p)
  legal = (own, rests)

  read : read_of new ≡ map_mark Dirty (read_of c)
  read = (soiling.reads s f.law p rests).0

  -- all other marks stand where they stood
  marks_after : (q : ℕ) → (moves (put s.cell p new q) ≡ moves (s.cell q)) × (drops (put s.cell p new q) ≡ drops (s.cell q))
  marks_after q = put_both (λ v. (moves v ≡ moves (s.cell q)) × (drops v ≡ drops (s.cell q))) s.cell p new q
      (λ e. (
        ap (λ t. cond t 1 0) (ap has_move read ∙ dirty_moves (read_of c)) ∙ ap (λ z. moves (s.cell z)) (sym e),
        ap (λ t. cond t 1 0) (ap is_dropped read ∙ dirty_drops (read_of c)) ∙ ap (λ z. drops (s.cell z)) (sym e),
      ))
      (λ _. (refl, refl))

  hots_after : (q : ℕ) → hots (put s.cell p new q) ≡ hots (s.cell q)
  hots_after q = put_both (λ v. hots v ≡ hots (s.cell q)) s.cell p new q
      (λ e. ap (λ t. cond t 1 0) (ap has_hot read ∙ dirty_hots (read_of c)) ∙ ap (λ z. hots (s.cell z)) (sym e)) (λ _. refl)

  -- DIRTY is counted where it is set anew
  dirts_here : dirtied_at o p + cond (is_dirty (read_of c)) 0 1 + stained_at b p ≡ cleaned_at b p + dirts new
  dirts_here =
      let now : dirts new ≡ 1 = ap (λ t. cond t 1 0) (ap is_dirty read ∙ (soiling.reads s f.law p rests).2) in
      dirt_set (dirtied_at o p) (stained_at b p) (cleaned_at b p) (dirts c) (cond (is_dirty (read_of c)) 0 1) (dirts new) ((f.owners m o at).soils p own) (now ∙ one_more (is_dirty (read_of c)))

  dirts_after : (q : ℕ) → q / CELLS ≡ m → dirtied_at (soiled_view p c o) q + stained_at b q ≡ cleaned_at b q + dirts (put s.cell p new q)
  dirts_after q mine =
      let n : ℕ = dirtied_at o p + cond (is_dirty (read_of c)) 0 1 in dite (ℕ_discrete q p)
      (λ e. ap (λ v. v + stained_at b q) (put_same (dirtied_at o) p n q e) ∙ (ap (λ z. n + stained_at b z) e ∙ (dirts_here ∙ (ap (λ z. cleaned_at b z + dirts new) (sym e)
      ∙ ap (λ v. cleaned_at b q + dirts v) (sym (put_same s.cell p new q e))))))
      (λ ne. ap (λ v. v + stained_at b q) (put_other (dirtied_at o) p n q ne) ∙ ((f.owners m o at).soils q mine ∙ ap (λ v. cleaned_at b q + dirts v) (sym (put_other s.cell p new q ne))))

  pub soil_step : OwnStep ws b os o (Soil m p) (Word c) (set ws (cell_at p) new) (soiled_view p c o)
  soil_step =
      let w : OwnerView = soiled_view p c o in
      let ties = f.owners m o at in record {
        legal = legal;
        says = refl;
        becomes = state_is (set ws (cell_at p) new) b (with_owner os m w) (cell_word_set b.logs ws f.wide p new small) (remembered_same os.owners m o w at refl)
            (pointers_same os.owners m o w at uses refl) (pointers_same os.owners m o w at held_at refl) (pointers_put os.owners m o w at soiled_at p true own refl);
        mine = mine_on b s (after s (Soil m p)) m o w ties refl refl refl refl ties.scope refl refl refl (ap (λ (z : World). z.object) (does s (Soil m p) f.law tt legal)) marks_after
            (λ q mine. ties.hots q mine ∙ ap (λ v. cooled_at b q + v) (sym (hots_after q))) dirts_after
            (λ q mine pinned. let x = ties.warm q mine pinned in (x.0, hots_after q ∙ x.1));
      }

  soil_found : OwnStep ws b os o (Soil m p) (Word (slice_index ws (cell_at p))) (set ws (cell_at p) (bit_or (slice_index ws (cell_at p)) (2 ^ position Dirty))) (soiled_view p (slice_index ws (cell_at p)) o)
  soil_found = subst (λ n. OwnStep ws b os o (Soil m p) (Word n) (set ws (cell_at p) (bit_or n (2 ^ position Dirty))) (soiled_view p n o)) (cell_here ws p small) soil_step

module _ {S : Type 0} (slots id : ℕ) (me : Me S View) (is : me.0 ≡ Owner (owner_of me.0)) where
  abbrev view : OwnerView
  view = owner_of me.0

  soils_dirty : (p : ℕ) → p < POINTERS → p / CELLS ≡ view.number → IsSome (held_at view p) →
      Allows Running slots id me (cell_at p) (λ n. bit_or n (2 ^ position Dirty)) (Soiled (step slots (cell_at p) (2 ^ position Dirty) 0 none) me)
  soils_dirty p small own held = owner_makes slots id (cell_at p) me is (Soil view.number p) refl tt Word (λ n. soiled_view p n view)
      (Soiled (step slots (cell_at p) (2 ^ position Dirty) 0 none) me) (λ n. bit_or n (2 ^ position Dirty))
      (λ ws b os f at. soil_found ws b os f view at p small own held)
      (λ ws b os f at t. (
        refl,
        λ q e. let n : ℕ = slice_index ws (cell_at p) in let same : p ≡ q = omega arith in
            subst (λ z. Tells me.0 (Owner (soiled_view p n view)) (Soil view.number z) (Word n) (soiled_view z n view)) same t,
      ))

  pub soils : (p k : ℕ) → k ≡ 2 ^ position Dirty → p < POINTERS → p / CELLS ≡ view.number → IsSome (held_at view p) →
      Allows Running slots id me (cell_at p) (λ n. bit_or n k) (Soiled (step slots (cell_at p) k 0 none) me)
  soils p k mask small own held = subst (λ z. Allows Running slots id me (cell_at p) (λ n. bit_or n z) (Soiled (step slots (cell_at p) z 0 none) me)) (sym mask) (soils_dirty p small own held)
