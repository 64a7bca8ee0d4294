-- What the event Clear owes.
use Rattle.std.proofs.Common.{inl, inr, ◌≡◌, ◌≢◌, ◌*◌, ◌-◌, ◌<◌, ◌≤◌, ◌^◌, ◌∙◌, ℕ, Bool, true, false, cond, arith, ap, refl, sym, subst, nat_lt, Option, Some, None}
use Rattle.std.specs.Prelude.{◌||◌, ◌&&◌, not, is_some}
use Rattle.std.proofs.lemmas.Bool.{false≢true}
use Rattle.std.proofs.lemmas.Bool.Decides.{nat_tests}
use Rattle.std.proofs.lemmas.Nat.{and_le_l}
use Rattle.far_word.specs.declared.pointer.PtrWord.{PtrWord}
use Rattle.far_word.specs.declared.pointer.PtrWord.TheVariants.{Free, Near, Far}
use Rattle.far_word.specs.declared.sizes.TheConstants.{CELLS}
use Rattle.far_word.specs.Pointer.{read_of, without_evac}
use Rattle.far_word.proofs.PointerLaws.{without_evac_read}
use Rattle.far_events.specs.declared.event.Event.TheVariants.{Clear}
use Rattle.far_events.specs.events.Clear.{is_near, IsNear, evac_cleared, round_left, LeavesRound}
use Rattle.far_events.specs.events.Quiet.{has_move}
use Rattle.far_events.specs.events.Step.{after, change_of}
use Rattle.far_events.specs.state.Law.{Law, HasEvac, held_place, in_use}
use Rattle.far_events.specs.state.State.{State}
use Rattle.far_core.specs.world.Changes.{StepOf}
use Rattle.far_events.specs.events.Changes.{Stays, Unmarks}
use Rattle.far_core.specs.world.World.{Object}
use Rattle.far_core.specs.world.WorldOf.{world_of, object_of, is_marked}
use Rattle.far_core.specs.laws.Worlds.{Caused}
use Rattle.far_events.proofs.Cells.{Remarked, unused}
use Rattle.far_core.proofs.Frames.{law_with_cell_marks, law_with_fewer_chosen}
use Rattle.far_core.proofs.Marking.{same_world, unmarks_world}
use Rattle.far_core.proofs.Owed.{Owed, replies}
use Rattle.far_events.proofs.Put.{put_both, put_same, put_other}
use Rattle.far_core.proofs.Touching.{same_copier, one_cell}

-- ---- the guard
near_fact : (s : State) (p : ℕ) (o : Option PtrWord) → read_of (s.cell p) ≡ o → is_near o ≡ true → IsNear s p
near_fact s p None e h = absurd (false≢true h)
near_fact s p (Some Free) e h = absurd (false≢true h)
near_fact s p (Some (Near len ds place m)) e h = (len, ds, place, m, e)
near_fact s p (Some (Far len ds m)) e h = absurd (false≢true h)

near_test : (s : State) (p : ℕ) → IsNear s p → is_near (read_of (s.cell p)) ≡ true
near_test s p (len, ds, place, m, e) = ap is_near e

-- ---- what a cell is without EVAC
abbrev map_clear : Option PtrWord → Option PtrWord
map_clear None = None
map_clear (Some v) = Some (without_evac v)

read_clear : (w : ℕ) (o : Option PtrWord) → w < 2 ^ 64 → read_of w ≡ o → is_near o ≡ true → (read_of (evac_cleared w) ≡ map_clear o) × (evac_cleared w < 2 ^ 64)
read_clear w None fits e h = absurd (false≢true h)
read_clear w (Some v) fits e h = (without_evac_read w v fits e, (let low : evac_cleared w ≤ w = and_le_l w (2 ^ 64 - 1 - 2 ^ 61) in omega arith))

remarked : (o : Option PtrWord) → Remarked o (map_clear o)
remarked None = record { same = refl; kept = λ e. e; clean = λ e. e }
remarked (Some Free) = record { same = refl; kept = λ e. e; clean = λ e. e }
remarked (Some (Near len ds place m)) = record { same = refl; kept = λ e. e; clean = λ e. e }
remarked (Some (Far len ds m)) = record { same = refl; kept = λ e. e; clean = λ e. e }

held_place-clear : (o : Option PtrWord) → held_place (map_clear o) ≡ held_place o
held_place-clear None = refl
held_place-clear (Some Free) = refl
held_place-clear (Some (Near len ds place m)) = refl
held_place-clear (Some (Far len ds m)) = refl

in_use-clear : (o : Option PtrWord) → in_use (map_clear o) ≡ in_use o
in_use-clear None = refl
in_use-clear (Some Free) = refl
in_use-clear (Some (Near len ds place m)) = refl
in_use-clear (Some (Far len ds m)) = refl

object_of-clear : (f g : ℕ → ℕ) (p : ℕ) (o : Option PtrWord) → object_of f g p (map_clear o) ≡ object_of f g p o
object_of-clear f g p None = refl
object_of-clear f g p (Some Free) = refl
object_of-clear f g p (Some (Near len ds place m)) = refl
object_of-clear f g p (Some (Far len ds m)) = refl

-- ---- what it is marked by
still : (d e m : Bool) → m ≡ true → (not d && (false || m)) ≡ (not d && (e || m))
still true e m h = refl
still false true m h = h
still false false m h = refl

gone : (d e m : Bool) (x : Object) → m ≡ false → (not d && (false || m)) ≡ cond (is_some (cond d None (Some x))) false (not d && (e || m))
gone true e m x h = refl
gone false e m x h = h

moved_marked : (o : Option PtrWord) → is_near o ≡ true → has_move o ≡ true → is_marked (map_clear o) ≡ is_marked o
moved_marked None n h = absurd (false≢true n)
moved_marked (Some Free) n h = absurd (false≢true n)
moved_marked (Some (Near len ds place m)) n h = still m.dropped m.evac m.moved h
moved_marked (Some (Far len ds m)) n h = absurd (false≢true n)

unmarked : (f g : ℕ → ℕ) (p : ℕ) (o : Option PtrWord) → is_near o ≡ true → has_move o ≡ false → is_marked (map_clear o) ≡ cond (is_some (object_of f g p o)) false (is_marked o)
unmarked f g p None n h = absurd (false≢true n)
unmarked f g p (Some Free) n h = absurd (false≢true n)
unmarked f g p (Some (Near len ds place m)) n h = gone m.dropped m.evac m.moved _ h
unmarked f g p (Some (Far len ds m)) n h = absurd (false≢true n)

-- ---- the round
pub out_still : (round : ℕ → Bool) (o : Option PtrWord) (l : ℕ) → round l ≡ false → round_left round o l ≡ false
out_still round None l out = out
out_still round (Some Free) l out = out
out_still round (Some (Near len ds place m)) l out = put_both (λ b. b ≡ false) round place.log false l (λ _. refl) (λ _. out)
out_still round (Some (Far len ds m)) l out = out

-- the log of what lost EVAC has left the round
evac_still : (round : ℕ → Bool) (o : Option PtrWord) → HasEvac (round_left round o) (map_clear o)
evac_still round None len ds place m e inside = absurd cc
evac_still round (Some Free) len ds place m e inside = absurd cc
evac_still round (Some (Near n d at k)) len ds place m e inside =
    let there : place.log ≡ at.log = grind (arith, nat_tests) in
    absurd (false≢true (sym (put_same round at.log false place.log there) ∙ inside))
evac_still round (Some (Far n d k)) len ds place m e inside = absurd cc

-- ---- what the event owes
module _ (p : ℕ) where
  -- a near cell isn't 0
  nonzero : (s : State) → is_near (read_of (s.cell p)) ≡ true → s.cell p ≢ 0
  nonzero s h z = false≢true (sym (ap (λ w. is_near (read_of w)) z ∙ ap is_near unused) ∙ h)

  keeps_clear : (s : State) → Law s → is_near (read_of (s.cell p)) ≡ true → Law (after s (Clear p))
  keeps_clear s law h =
      let x = read_clear (s.cell p) _ (law.cells.cell_read p).0 refl h in
      let left : ℕ → Bool = round_left s.round (read_of (s.cell p)) in
      law_with_cell_marks record s { round = left } (law_with_fewer_chosen s left law (out_still s.round (read_of (s.cell p)))) p _ x.1
      (subst (λ o. Remarked (read_of (s.cell p)) o) (sym x.0) (remarked _)) (subst (HasEvac left) (sym x.0) (evac_still s.round (read_of (s.cell p)))) (nonzero s h)
      (λ place k. ap held_place x.0 ∙ held_place-clear _ ∙ law.views.held_names p place k) (λ k. ap in_use x.0 ∙ in_use-clear _ ∙ law.views.used_cell p k)

  does_clear : (s : State) → Law s → is_near (read_of (s.cell p)) ≡ true → (b : Bool) → has_move (read_of (s.cell p)) ≡ b →
      StepOf (Some (cond b Stays (Unmarks p))) (world_of s) (world_of (after s (Clear p)))
  unfolding world_of
  does_clear s law h true move =
      let x = read_clear (s.cell p) _ (law.cells.cell_read p).0 refl h in
      same_world s p (evac_cleared (s.cell p)) (λ f g q. ap (object_of f g q) x.0 ∙ object_of-clear f g q _) (ap is_marked x.0 ∙ moved_marked _ h move)
  does_clear s law h false move =
      let x = read_clear (s.cell p) _ (law.cells.cell_read p).0 refl h in
      unmarks_world s p (evac_cleared (s.cell p)) (λ f g q. ap (object_of f g q) x.0 ∙ object_of-clear f g q _) (ap is_marked x.0 ∙ unmarked s.word (s.stored p) p _ h move)

  leaves : (s : State) → LeavesRound s (s.cell p) (after s (Clear p))
  leaves s len ds place m e = (
    ap (λ o. round_left s.round o place.log) e ∙ put_same s.round place.log false place.log refl,
    λ l ne. ap (λ o. round_left s.round o l) e ∙ put_other s.round place.log false l ne,
  )

  clear_causes : (x : ℕ) (b : Bool) → Caused (Clear p) (Some (cond b Stays (Unmarks p)))
  clear_causes x true = tt
  clear_causes x false = inl refl

  pub clear_owed : Owed (Clear p)
  clear_owed = record {
    fact = λ s law h. (grind (arith, nat_tests), near_fact s p (read_of (s.cell p)) refl (grind (arith, nat_tests)));
    test = λ s h. let low : p < CELLS * s.mutators = h.0 in let a : nat_lt p (CELLS * s.mutators) ≡ true = grind (arith, nat_tests) in rw (a, near_test s p h.1) refl;
    keeps = λ s law fits h. keeps_clear s law (near_test s p h.1);
    does = λ s law fits h. does_clear s law (near_test s p h.1) (has_move (read_of (s.cell p))) refl;
    within = λ s. record {
      words = one_cell s.epoch s.scope s.cell s.word s.copying.word p _;
      remembered = λ k a b. refl;
      used = λ q a. refl;
      held = λ q a b. refl;
      soiled = λ q a b. refl;
      book = λ ne. absurd (ne refl);
      copiers = λ c ne. same_copier;
      rest = (refl, refl, refl, refl);
    };
    part = λ s h. inr (inr (inl (p, refl)));
    word = λ s h. inr (inr (inr (inr (inl refl))));
    reports = λ s law h. (
      refl,
      λ v e. ap read_of (put_same s.cell p (evac_cleared (s.cell p)) p refl) ∙ (read_clear (s.cell p) _ (law.cells.cell_read p).0 refl (near_test s p h.1)).0 ∙ ap map_clear e,
      leaves s,
      refl,
      refl,
      refl,
      refl,
      refl,
      refl,
      refl,
    );
    silent = λ s t h. h;
    answers = λ s x. cc;
    causes = replies (λ r. Caused (Clear p) (change_of (Clear p) r)) tt tt (λ n. tt) (λ x. clear_causes x (has_move (read_of x))) (λ place. tt);
  }
