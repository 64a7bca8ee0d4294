-- What a walk does, in the subject's words: where each object is that was dealt with, and that all others lie where they lay.
use Rattle.std.proofs.Common.{◌≡◌, ◌≢◌, ℕ, ◌+◌, Bool, true, false, cond, Option, Some, None, List, [], ◌∷◌, ◌++◌, take, arith, ap, sym, refl, ◌∙◌, subst}
use Rattle.std.proofs.lemmas.List.Sums.{fold_push}
use Rattle.std.specs.Prelude.{count_by, fold}
use Rattle.std.specs.List.{AllByRecursion}
use Rattle.std.proofs.lemmas.Bool.{true≢false, false≢true}
use Rattle.far_word.specs.declared.pointer.PtrWord.{PtrWord}
use Rattle.far_word.specs.declared.pointer.PtrWord.TheVariants.{Free, Near, Far}
use Rattle.far_word.specs.Pointer.{read_of}
use Rattle.far_events.specs.events.Clear.{is_near}
use Rattle.far_events.specs.state.Spans.{names_place}
use Rattle.far_events.specs.state.State.{State}
use Rattle.far_hand.specs.Finds.{Finds, body_of}
use Rattle.far_evac.specs.AnyHand.{KnowsWalked, WalksTo}
use Rattle.far_evac.specs.Dealings.{DealsWith, HasLeft, is_away, is_nowhere, says}
use Rattle.far_evac.specs.Live.{live_among}
use Rattle.far_evac.specs.Moment.{Moment, Tally}
use Rattle.far_evac.specs.Ready.{Ready}
use Rattle.far_evac.specs.Walk.{Walked, Way, Drops, Moves, Goes, begun}
use Rattle.far_evac.proofs.Dealt.{Gone}
use Rattle.far_evac.proofs.LiveLists.{finds_place, names_body}
use Rattle.far_evac.proofs.LiveOnce.{LivesIn, all_append, all_front, both, every, each_map, first_named, names_once}
use Rattle.far_evac.proofs.Framed.{so_one}
use Rattle.far_evac.proofs.SmallSteps.{GoesFirst, Keeps, first_gone, gone_so, holding, lifted_walks, more_dropped, more_far, more_moved}
use Rattle.far_evac.proofs.Tours.{core_so, test_of}

-- ---- tests that marks don't change
abbrev Bodily : (Option PtrWord → Bool) → Type 0
Bodily test = (o : Option PtrWord) → test o ≡ test (body_of o)

nowhere_bodily : Bodily is_nowhere
nowhere_bodily (Some Free) = refl
nowhere_bodily _ = refl

near_bodily : Bodily is_near
near_bodily (Some Free) = refl
near_bodily _ = refl

away_bodily : Bodily is_away
away_bodily (Some Free) = refl
away_bodily _ = refl

same_test : (test : Option PtrWord → Bool) → Bodily test → (a b : Option PtrWord) → body_of a ≡ body_of b → test a ≡ test b
same_test test bodily a b e = bodily a ∙ ap test e ∙ sym (bodily b)

-- ---- counting
abbrev one_if : (ℕ → Bool) → ℕ → ℕ → ℕ
one_if f n x = n + cond (f x) 1 0

count_end : (f : ℕ → Bool) (xs : List ℕ) (x : ℕ) → count_by f (xs ++ (x ∷ [])) ≡ count_by f xs + cond (f x) 1 0
count_end f xs x = fold_push (one_if f) 0 xs x

fold_same : (f g : ℕ → Bool) (n : ℕ) (xs : List ℕ) → AllByRecursion (λ x. f x ≡ g x) xs → fold (one_if f) n xs ≡ fold (one_if g) n xs
fold_same f g n [] h = refl
fold_same f g n (x ∷ xs) h = ap (λ b. fold (one_if f) (n + cond b 1 0) xs) h.0 ∙ fold_same f g (one_if g n x) xs h.1

count_same : (f g : ℕ → Bool) (xs : List ℕ) → AllByRecursion (λ x. f x ≡ g x) xs → count_by f xs ≡ count_by g xs
count_same f g xs h = fold_same f g 0 xs h

-- ---- where the objects are that were dealt with, and all others
abbrev IsOff : (ℕ → ℕ) → List ℕ → ℕ → Type 0
IsOff cell held q = AllByRecursion (λ l. (at : ℕ) → names_place (read_of (cell q)) l at ≡ false) held

pub record Are (m : Moment) (objects : List ℕ) (cell : ℕ → ℕ) (held : List ℕ) : Type 0 where
  off : AllByRecursion (IsOff cell held) objects
  left : AllByRecursion (λ q. HasLeft (says m q) (read_of (cell q))) objects
  others : (q : ℕ) → AllByRecursion (λ d. d ≢ q) objects → body_of (read_of (cell q)) ≡ body_of (says m q)

pub record Counts (objects : List ℕ) (cell : ℕ → ℕ) (tally : Tally) : Type 0 where
  dropped : tally.dropped ≡ count_by (λ q. is_nowhere (read_of (cell q))) objects
  moved : tally.moved ≡ count_by (λ q. is_near (read_of (cell q))) objects
  far : tally.far ≡ count_by (λ q. is_away (read_of (cell q))) objects

-- the same of words that were found
module _ (cell found : ℕ → ℕ) (finds : (q : ℕ) → Finds (cell q) (found q)) where
  off_found : (held : List ℕ) (q : ℕ) → IsOff cell held q → IsOff found held q
  off_found held q h = each_map (λ l off at. finds_place (cell q) (found q) (finds q) l at ∙ off at) held h

  are_found : (m : Moment) (objects held : List ℕ) → Are m objects cell held → Are m objects found held
  are_found m objects held are = record {
    off = each_map (off_found held) objects are.off;
    left = each_map (λ q left l at to h. finds_place (cell q) (found q) (finds q) l to ∙ left l at to h) objects are.left;
    others = λ q apart. (finds q).body ∙ are.others q apart;
  }

  count_found : (test : Option PtrWord → Bool) → Bodily test → (objects : List ℕ) → count_by (λ q. test (read_of (cell q))) objects ≡ count_by (λ q. test (read_of (found q))) objects
  count_found test bodily objects = count_same (λ q. test (read_of (cell q))) (λ q. test (read_of (found q))) objects
      (every (λ q. test (read_of (cell q)) ≡ test (read_of (found q))) (λ q. sym (same_test test bodily (read_of (found q)) (read_of (cell q)) (finds q).body)) objects)

  counts_found : (objects : List ℕ) (tally : Tally) → Counts objects cell tally → Counts objects found tally
  counts_found objects tally counts = record {
    dropped = counts.dropped ∙ count_found is_nowhere nowhere_bodily objects;
    moved = counts.moved ∙ count_found is_near near_bodily objects;
    far = counts.far ∙ count_found is_away away_bodily objects;
  }

-- ---- one object more
module _ (m : Moment) (objects : List ℕ) (s t : State) (l : ℕ) (ls : List ℕ) (p : ℕ) (lives : LivesIn s l p) (test : Option PtrWord → Bool) (gone : Gone s p t (l ∷ ls) test)
    (kept : (q : ℕ) → q ≢ p → t.cell q ≡ s.cell q) (are : Are m objects s.cell (l ∷ ls)) where
  apart : AllByRecursion (λ q. q ≢ p) objects
  apart = each_map (λ q off e. true≢false (sym (ap (λ x. names_place (read_of (s.cell x)) l lives.0) e ∙ lives.1) ∙ off.0 lives.0)) objects are.off

  here_before : body_of (read_of (s.cell p)) ≡ body_of (says m p)
  here_before = are.others p apart

  names_before : (k at : ℕ) → names_place (says m p) k at ≡ names_place (read_of (s.cell p)) k at
  names_before k at = names_body (says m p) k at ∙ ap (λ o. names_place o k at) (sym here_before) ∙ sym (names_body (read_of (s.cell p)) k at)

  off_kept : (q : ℕ) → q ≢ p → IsOff s.cell (l ∷ ls) q → IsOff t.cell (l ∷ ls) q
  off_kept q other h = subst (λ w. AllByRecursion (λ k. (at : ℕ) → names_place (read_of w) k at ≡ false) (l ∷ ls)) (sym (kept q other)) h

  pub are_more : Are m (objects ++ (p ∷ [])) t.cell (l ∷ ls)
  are_more = record {
    off = all_append (IsOff t.cell (l ∷ ls)) objects (p ∷ []) (each_map (λ q h. off_kept q h.0 h.1) objects (both (λ q. q ≢ p) (IsOff s.cell (l ∷ ls)) objects apart are.off)) (gone.off, tt);
    left = all_append (λ q. HasLeft (says m q) (read_of (t.cell q))) objects (p ∷ [])
        (each_map (λ q h k at to name. ap (λ w. names_place (read_of w) k to) (kept q h.0) ∙ h.1 k at to name) objects (both (λ q. q ≢ p) (λ q. HasLeft (says m q) (read_of (s.cell q))) objects apart are.left)) (
          λ k at to name.
              let same : k ≡ l = (names_once (read_of (s.cell p)) k l at lives.0 (sym (names_before k at) ∙ name) lives.1).0 in
              ap (λ x. names_place (read_of (t.cell p)) x to) same ∙ gone.off.0 to,
          tt,
        );
    others = λ q out. let h = all_front (λ d. d ≢ q) objects p out in ap (λ w. body_of (read_of w)) (kept q (λ e. h.1 (sym e))) ∙ are.others q h.0;
  }

  pub count_kept : (f : Option PtrWord → Bool) → count_by (λ q. f (read_of (t.cell q))) objects ≡ count_by (λ q. f (read_of (s.cell q))) objects
  count_kept f = count_same (λ q. f (read_of (t.cell q))) (λ q. f (read_of (s.cell q))) objects (each_map (λ q other. ap (λ w. f (read_of w)) (kept q other)) objects apart)

  -- it is counted once more where it passes the test
  pub count_more : (f : Option PtrWord → Bool) (n : ℕ) → n ≡ count_by (λ q. f (read_of (s.cell q))) objects →
      n + cond (f (read_of (t.cell p))) 1 0 ≡ count_by (λ q. f (read_of (t.cell q))) (objects ++ (p ∷ []))
  count_more f n is = ap (λ k. k + cond (f (read_of (t.cell p))) 1 0) (is ∙ sym (count_kept f)) ∙ sym (count_end (λ q. f (read_of (t.cell q))) objects p)

-- an object is in one place alone, by its way
record CountsOne (way : Way) (o : Option PtrWord) : Type 0 where
  dropped : (n : ℕ) → more_dropped way n ≡ n + cond (is_nowhere o) 1 0
  moved : (n : ℕ) → more_moved way n ≡ n + cond (is_near o) 1 0
  far : (n : ℕ) → more_far way n ≡ n + cond (is_away o) 1 0

none_more : (n : ℕ) → n ≡ n + 0
none_more n = omega arith

counts_one : (way : Way) (o : Option PtrWord) → test_of way o ≡ true → CountsOne way o
counts_one Drops None h = record { dropped = λ n. refl; moved = none_more; far = none_more }
counts_one Drops (Some Free) h = record { dropped = λ n. refl; moved = none_more; far = none_more }
counts_one (Moves to) (Some (Near len ds place marks)) h = record { dropped = none_more; moved = λ n. refl; far = none_more }
counts_one Goes (Some (Far len ds marks)) h = record { dropped = none_more; moved = none_more; far = λ n. refl }
counts_one _ _ h = absurd (false≢true h)

-- ---- walks
record Did (m : Moment) (objects : List ℕ) (t : Walked) : Type 0 where
  are : Are m objects t.moment.core.cell t.moment.collection
  counts : Counts objects t.moment.core.cell t.tally

did_known : (m : Moment) (objects : List ℕ) (w t : Walked) → KnowsWalked w t → Did m objects w → Did m objects t
did_known m objects w t known d =
    let found = known.moment.core.found in
    let held : t.moment.collection ≡ w.moment.collection = ap (λ (n : Moment). n.collection) known.moment.rest in
    record {
      are = subst (Are m objects t.moment.core.cell) (sym held) (are_found w.moment.core.cell t.moment.core.cell found m objects w.moment.collection d.are);
      counts = subst (Counts objects t.moment.core.cell) (sym known.tally) (counts_found w.moment.core.cell t.moment.core.cell found objects w.tally d.counts);
    }

next_did : (m : Moment) (k : ℕ) (w : Walked) (l : ℕ) (ls : List ℕ) (p : ℕ) (ps : List ℕ) (way : Way) → GoesFirst false m k w.moment.core l ls p ps way → Did m (take k (live_among m.core m.collection)) (holding w (l ∷ ls)) →
    Did m (take k (live_among m.core m.collection) ++ (p ∷ [])) (gone_so w (l ∷ ls) p way)
next_did m k w l ls p ps way first d =
    let objects = take k (live_among m.core m.collection) in
    let s : State = w.moment.core in
    let t : State = core_so s p way in
    let gone = first_gone first in
    let one = counts_one way (read_of (t.cell p)) gone.says in
    let lives = first_named s l p ps first.live in
    let kept = (so_one s p way).cells in record {
      are = are_more m objects s t l ls p lives (test_of way) gone kept d.are;
      counts = record {
        dropped = one.dropped w.tally.dropped ∙ count_more m objects s t l ls p lives (test_of way) gone kept d.are is_nowhere w.tally.dropped d.counts.dropped;
        moved = one.moved w.tally.moved ∙ count_more m objects s t l ls p lives (test_of way) gone kept d.are is_near w.tally.moved d.counts.moved;
        far = one.far w.tally.far ∙ count_more m objects s t l ls p lives (test_of way) gone kept d.are is_away w.tally.far d.counts.far;
      };
    }

keeps_did : (m : Moment) → Keeps false m (λ k. Did m (take k (live_among m.core m.collection)))
keeps_did m = record {
  learns = λ k. did_known m (take k (live_among m.core m.collection));
  gives = λ k w l ls ready none d. record {
    are = record { off = each_map (λ q h. h.1) (take k (live_among m.core m.collection)) d.are.off; left = d.are.left; others = d.are.others };
    counts = record { dropped = d.counts.dropped; moved = d.counts.moved; far = d.counts.far };
  };
  deals = λ k w l ls p ps way first d. subst (λ xs. Did m xs (gone_so w (l ∷ ls) p way)) (sym first.more) (next_did m k w l ls p ps way first d);
}

pub deals_with : (m : Moment) (k : ℕ) (t : Walked) → Ready m.core m.collection → WalksTo m k t → DealsWith m t.moment t.tally (take k (live_among m.core m.collection))
deals_with m k t ready walks =
    let start : Did m [] (begun m) = record { are = record { off = tt; left = tt; others = λ q apart. refl }; counts = record { dropped = refl; moved = refl; far = refl } } in
    let d = (lifted_walks m (λ k. Did m (take k (live_among m.core m.collection))) (keeps_did m) ready start k t walks).keeps in record {
      left = d.are.left;
      dropped = d.counts.dropped;
      moved = d.counts.moved;
      far = d.counts.far;
      others = d.are.others;
    }
