-- That each object goes its way: what its cell says after it was dealt with.
use Rattle.std.proofs.Common.{◌≡◌, ◌≢◌, ℕ, zero, suc, ◌+◌, ◌<◌, Bool, true, false, cond, Option, Some, None, List, [], ◌∷◌, length, take, drop, arith, ap, sym, refl, ◌∙◌, subst}
use Rattle.std.specs.Prelude.{Contains}
use Rattle.std.specs.List.{AllByRecursion}
use Rattle.far_word.specs.declared.mark.Marks.{Marks}
use Rattle.far_word.specs.declared.pointer.Place.{Place}
use Rattle.far_word.specs.declared.pointer.PtrWord.TheVariants.{Near, Far}
use Rattle.far_word.specs.Pointer.{read_of}
use Rattle.far_word.specs.Sizes.{size_of}
use Rattle.far_log.proofs.Members.{here, there}
use Rattle.far_events.specs.events.Naming.{no_marks}
use Rattle.far_core.specs.state.Room.{room}
use Rattle.far_events.specs.state.State.{State}
use Rattle.far_events.proofs.Put.{put_same}
use Rattle.far_evac.specs.Dealings.{says}
use Rattle.far_evac.specs.Live.{live_among, live_in}
use Rattle.far_evac.specs.Moment.{Moment}
use Rattle.far_evac.specs.Ready.{IsOfRound, Ready}
use Rattle.far_evac.specs.Walk.{Walked, Way, Drops, Goes, Moves, dealt_as, dealt_first, dealt_so, hot_way, left, walked, way_of}
use Rattle.far_evac.specs.WayLaws.{GoesItsWay, ObjectsGoTheirWay}
use Rattle.far_evac.proofs.Dealt.{says_far, says_moved}
use Rattle.far_evac.proofs.SmallSteps.{Keeps, Stands, dealt_is, drop_next, lifted_walked}
use Rattle.far_evac.proofs.Framed.{passed_frame, so_one}
use Rattle.far_evac.proofs.Lacking.{Once, all_at, once_among}
use Rattle.far_evac.proofs.LiveOnce.{all_append, all_front, each_map, live_named}
use Rattle.far_evac.proofs.LiveOrder.{place_named}
use Rattle.far_evac.proofs.Tours.{core_so}

-- ---- lists
in_dropped : (k : ℕ) (xs : List ℕ) (p : ℕ) (rest : List ℕ) → drop k xs ≡ p ∷ rest → Contains xs p
in_dropped k [] p rest = λ e. absurd (drop_none k p rest e) where
  drop_none : (n x : ℕ) (ys : List ℕ) → drop n [] ≡ x ∷ ys → ⊥
  drop_none zero x ys e = absurd cc
  drop_none (suc n) x ys e = absurd cc
in_dropped zero (x ∷ xs) p rest = λ e. let same : x ≡ p = cc in subst (λ y. Contains (y ∷ xs) p) (sym same) (here p xs)
in_dropped (suc k) (x ∷ xs) p rest = λ e. there p x xs (in_dropped k xs p rest e)

-- what stands behind some is none of them
none_before : (k : ℕ) (xs : List ℕ) (p : ℕ) (rest : List ℕ) → Once xs → drop k xs ≡ p ∷ rest → AllByRecursion (λ d. d ≢ p) (take k xs)
none_before (suc k) (x ∷ xs) p rest once = λ e. (
  λ same. all_at (λ q. q ≢ x) p xs once.0 (in_dropped k xs p rest e) (sym same),
  none_before k xs p rest once.1 e,
)
none_before _ _ p rest once = λ e. tt

-- ---- the walk where no word changes: a cell stays while others are dealt with
abbrev Cells : Moment → ℕ → Walked → Type 0
Cells m k w = (q : ℕ) → AllByRecursion (λ d. d ≢ q) (take k (live_among m.core m.collection)) → w.moment.core.cell q ≡ m.core.cell q

keeps_cells : (m : Moment) → Keeps true m (Cells m)
keeps_cells m = record {
  learns = tt;
  gives = λ k w l ls ready none same. same;
  deals = λ k w l ls p ps way first same q apart.
      let parts = all_front (λ d. d ≢ q) (take k (live_among m.core m.collection)) p (subst (AllByRecursion (λ d. d ≢ q)) first.more apart) in
      (so_one w.moment.core p way).cells q (λ e. parts.1 (sym e)) ∙ same q parts.0;
}

-- after k objects the k-th is in front
stands_at : (m : Moment) → Ready m.core m.collection → (k : ℕ) → k < length (live_among m.core m.collection) → Stands m (Cells m) k (walked m k)
stands_at m ready k inside =
    let (j, same, h) = lifted_walked m (Cells m) (keeps_cells m) ready (λ q apart. refl) k in subst (λ n. Stands m (Cells m) n (walked m k)) (same (omega (arith, inside))) h

-- each object of the collection set has EVAC
evac_of : (s : State) (ls : List ℕ) → AllByRecursion (IsOfRound s) ls →
    AllByRecursion (λ p. (len ds : ℕ) (place : Place) (marks : Marks) → read_of (s.cell p) ≡ Some (Near len ds place marks) → marks.evac ≡ true) (live_among s ls)
evac_of s [] held = tt
evac_of s (l ∷ ls) held =
    all_append (λ p. (len ds : ℕ) (place : Place) (marks : Marks) → read_of (s.cell p) ≡ Some (Near len ds place marks) → marks.evac ≡ true) (live_in s l) (live_among s ls)
    (each_map (λ p named len ds place marks near. held.0.1 p len ds place marks near (place_named (read_of (s.cell p)) l named.0 len ds place marks named.1 near).0) (live_in s l) (live_named s l))
    (evac_of s ls held.1)

module _ (m : Moment) (k p len ds : ℕ) (from : Place) (marks : Marks) (rest : List ℕ) (ready : Ready m.core m.collection) (is : drop k (live_among m.core m.collection) ≡ p ∷ rest)
    (near : says m p ≡ Some (Near len ds from marks)) where
  abbrev w : Walked
  w = walked m k

  abbrev s : State
  s = w.moment.core

  inside : k < length (live_among m.core m.collection)
  inside = let next = drop_next k (live_among m.core m.collection) p rest is in omega (arith, next.1)

  stands : Stands m (Cells m) k w
  stands = stands_at m ready k inside

  front : left w ≡ p ∷ rest
  front = stands.left ∙ is

  near_now : read_of (s.cell p) ≡ Some (Near len ds from marks)
  near_now = ap read_of (stands.keeps p (none_before k (live_among m.core m.collection) p rest (once_among m.core m.collection ready.once) is)) ∙ near

  evac : marks.evac ≡ true
  evac = all_at (λ q. (n d : ℕ) (place : Place) (x : Marks) → read_of (s.cell q) ≡ Some (Near n d place x) → x.evac ≡ true) p (left w) (evac_of s w.moment.collection stands.ready.logs)
      (subst (λ xs. Contains xs p) (sym front) (here p rest)) len ds from marks near_now

  cell_then : (way : Way) → way_of s (Some (Near len ds from marks)) ≡ way → (walked m (k + 1)).moment.core.cell ≡ (core_so s p way).cell
  cell_then way e =
      let one : k + 1 ≡ suc k = omega arith in
      let dealt = dealt_as w p (read_of (s.cell p)) in
      ap (λ n. (walked m n).moment.core.cell) one
      ∙ ap (λ xs. (dealt_first w xs).moment.core.cell) front
      ∙ ap (λ (v : Walked). v.moment.core.cell) (passed_frame dealt.moment.collection dealt)
      ∙ ap (λ x. (dealt_so w p x).moment.core.cell) (ap (way_of s) near_now ∙ e)
      ∙ ap (λ (v : Walked). v.moment.core.cell) (dealt_is w p way)

  so_way : (dropped hot : Bool) (o : Option Place) → marks.dropped ≡ dropped → marks.hot ≡ hot → room s (size_of len) false ≡ o →
      way_of s (Some (Near len ds from marks)) ≡ cond dropped Drops (cond hot (hot_way o) Goes)
  so_way dropped hot o a b c =
      ap (λ x. cond x Drops (cond marks.hot (hot_way (room s (size_of len) false)) Goes)) a
      ∙ ap (λ x. cond dropped Drops (cond x (hot_way (room s (size_of len) false)) Goes)) b
      ∙ ap (λ x. cond dropped Drops (cond hot (hot_way x) Goes)) c

  went_far : marks.dropped ≡ false → way_of s (Some (Near len ds from marks)) ≡ Goes → says (walked m (k + 1)).moment p ≡ Some (Far len ds no_marks)
  went_far alive way = ap (λ cell. read_of (cell p)) (cell_then Goes way) ∙ says_far s w.moment.collection stands.ready p len ds from marks near_now evac alive

  pub its_way : GoesItsWay s (walked m (k + 1)).moment p len ds marks
  its_way = record {
    dropped = λ gone. ap (λ cell. cell p) (cell_then Drops (so_way true marks.hot (room s (size_of len) false) gone refl refl)) ∙ put_same s.cell p 0 p refl;
    cold = λ alive cold. went_far alive (so_way false false (room s (size_of len) false) alive cold refl);
    crowded = λ alive hot none. went_far alive (so_way false true None alive hot none);
    hot = λ to alive hot there. ap (λ cell. read_of (cell p)) (cell_then (Moves to) (so_way false true (Some to) alive hot there))
        ∙ says_moved s w.moment.collection stands.ready p len ds from marks near_now evac alive to there;
  }

pub objects_go_their_way : ObjectsGoTheirWay
objects_go_their_way m k p len ds from marks rest ready is near = its_way m k p len ds from marks rest ready is near
