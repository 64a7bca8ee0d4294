-- Where no object is dropped a walk retires none.
use Rattle.std.proofs.Common.{◌≡◌, ◌≢◌, ℕ, ◌+◌, ◌^◌, ◌<◌, Bool, false, cond, Option, Some, None, List, [], ◌∷◌, take, arith, ap, sym, refl, ◌∙◌, true}
use Rattle.std.specs.Prelude.{IsSome, count_by, fold}
use Rattle.std.specs.List.{AllByRecursion}
use Rattle.std.proofs.lemmas.Bool.{false≢true}
use Rattle.far_word.specs.declared.pointer.PtrWord.{PtrWord}
use Rattle.far_word.specs.declared.pointer.PtrWord.TheVariants.{Free}
use Rattle.far_word.specs.Pointer.{read_of}
use Rattle.far_word.proofs.PointerLaws.{read_says}
use Rattle.far_events.specs.state.Law.{Law}
use Rattle.far_events.specs.state.State.{State}
use Rattle.far_book.proofs.region.Owns.{own_law}
use Rattle.far_evac.specs.declared.phase.Phase.TheVariants.{Evacuating}
use Rattle.far_evac.specs.Dealings.{is_nowhere, says}
use Rattle.far_evac.specs.Live.{live_among}
use Rattle.far_evac.specs.Moment.{Moment}
use Rattle.far_evac.specs.MomentLaw.{MomentLaw, has_risen}
use Rattle.far_evac.specs.Owned.{NoneDropped, TurnsRetireNone, WalkRetiresNone}
use Rattle.far_evac.specs.Walk.{walked}
use Rattle.far_evac.proofs.InOrder.{in_order}
use Rattle.far_evac.proofs.KeptTurns.{marking_objects}
use Rattle.far_evac.proofs.Leading.{all_lives, not_zero}
use Rattle.far_evac.proofs.LeadingWalks.{walking_law, walking_objects}
use Rattle.far_evac.proofs.LiveOnce.{each_map, near_at}
use Rattle.far_evac.proofs.Marks.{all_take}
use Rattle.far_evac.proofs.Readiness.{risen_is_ready}
use Rattle.far_evac.proofs.Walks.{walk_is}
use Rattle.far_evac.proofs.TurnSteps.{KeepsTurns, turns_kept_exactly}

-- ---- what a cell says that is used
free_only : (w : ℕ) → w < 2 ^ 64 → read_of w ≡ Some Free → w ≡ 0
free_only w fits e = sym (read_says w Free fits e).1

somewhere : (o : Option PtrWord) → IsSome o → (o ≡ Some Free → ⊥) → is_nowhere o ≡ false
somewhere None read used = absurd (false≢true read)
somewhere (Some Free) read used = absurd (used refl)
somewhere _ read used = refl

counted_from : (f : ℕ → Bool) (n : ℕ) (xs : List ℕ) → AllByRecursion (λ x. f x ≡ false) xs → fold (λ a x. a + cond (f x) 1 0) n xs ≡ n
counted_from f n [] h = refl
counted_from f n (x ∷ xs) h =
    let same : n + 0 ≡ n = omega arith in
    ap (λ b. fold (λ a x. a + cond (f x) 1 0) (n + cond b 1 0) xs) h.0 ∙ ap (λ k. fold (λ a x. a + cond (f x) 1 0) k xs) same ∙ counted_from f n xs h.1

count_none : (f : ℕ → Bool) (xs : List ℕ) → AllByRecursion (λ x. f x ≡ false) xs → count_by f xs ≡ 0
count_none f xs h = counted_from f 0 xs h

-- ---- a walk
module _ (m : Moment) (n : ℕ) (law : Law m.core) (moment : MomentLaw m) (alone : m.copying ≡ false) (leaves : m.phase ≡ Evacuating) (none : NoneDropped m.core) where
  abbrev t : State
  t = (walked m n).moment.core

  law_then : Law t
  law_then = walking_law m n law moment alone leaves

  -- a live object's cell is used, and stays so
  stays_used : (p : ℕ) → m.core.cell p ≢ 0 → is_nowhere (read_of (t.cell p)) ≡ false
  stays_used p used =
      let kept = (walking_objects m n law moment alone leaves).midst in
      somewhere (read_of (t.cell p)) (law_then.cells.cell_read p).1 (λ e. used ((kept.free p (none p)).0 (free_only (t.cell p) (law_then.cells.cell_read p).0 e)))

  all_used : AllByRecursion (λ p. m.core.cell p ≢ 0) (live_among m.core m.collection)
  all_used = all_lives (λ p. m.core.cell p ≢ 0) m.core m.collection
      (λ l p member h. let x = near_at (read_of (m.core.cell p)) l h.0 h.1 in not_zero (m.core.cell p) x.len x.ds x.place x.marks x.near)

  walk_retires : (walked m n).tally.dropped ≡ 0
  walk_retires =
      let walks = walk_is m n in
      let dealt = in_order m walks.0 (walked m n) (risen_is_ready m (own_law m.core law) moment (ap has_risen leaves)) walks.1.walks in
      let objects = take walks.0 (live_among m.core m.collection) in
      dealt.deals.dropped
      ∙ count_none (λ p. is_nowhere (says (walked m n).moment p)) objects (each_map (λ p used. stays_used p used) objects (all_take (λ p. m.core.cell p ≢ 0) walks.0 (live_among m.core m.collection) all_used))

pub walk_retires_none : WalkRetiresNone
walk_retires_none m n law moment alone leaves none = walk_retires m n law moment alone leaves none

-- ---- turn after turn
keeps_undropped : KeepsTurns true (λ m tally. NoneDropped m.core × (tally.dropped ≡ 0))
keeps_undropped = record {
  learns = tt;
  beside = tt;
  marks = λ m n tally lawful is (none, h). ((λ p. (marking_objects m n lawful.0 lawful.1 is).alive p (none p)), h);
  looks = λ m k phase tally lawful is h. h;
  walks = λ m n tally law moment alone is (none, h).
      ((λ p. (walking_objects m n law moment alone is).midst.alive p (none p)), ap (λ a. a + (walked m n).tally.dropped) h ∙ ap (λ b. 0 + b) (walk_retires m n law moment alone is none));
  ends = λ m tally h. h;
}

pub turns_retire_none : TurnsRetireNone
turns_retire_none m n law moment alone runs none = (turns_kept_exactly (λ m tally. NoneDropped m.core × (tally.dropped ≡ 0)) keeps_undropped m n law moment alone runs (none, refl)).1
