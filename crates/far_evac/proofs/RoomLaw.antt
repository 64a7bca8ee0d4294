-- What walks take of the logs, over any hand.
use Rattle.std.proofs.Common.{◌≡◌, ◌≢◌, ℕ, zero, suc, ◌+◌, ◌<◌, ◌≤◌, ◌==◌, Bool, true, false, cond, ◌||◌, Option, Some, List, [], ◌∷◌, ◌++◌, take, inl, inr, arith, ap, sym, refl, ◌∙◌, subst}
use Rattle.std.proofs.lemmas.List.{append_assoc, append-nil}
use Rattle.std.specs.List.{AllByRecursion, range_with_len, sum_by}
use Rattle.std.proofs.lemmas.Bool.{cases_eq, eq-eqb, ne_eqb, true≢false}
use Rattle.std.proofs.lemmas.List.Sums.{sum_by-cons}
use Rattle.far_word.specs.declared.mark.Marks.{Marks}
use Rattle.far_word.specs.declared.pointer.Place.{Place}
use Rattle.far_word.specs.declared.pointer.PtrWord.{PtrWord}
use Rattle.far_word.specs.declared.pointer.PtrWord.TheVariants.{Near}
use Rattle.far_word.specs.Pointer.{read_of}
use Rattle.far_word.specs.Sizes.{bytes_taken}
use Rattle.far_events.specs.events.Clear.{is_near}
use Rattle.far_core.specs.laws.Observed.{live_bytes}
use Rattle.far_events.specs.state.Law.{Law}
use Rattle.far_events.specs.state.Spans.{names_place}
use Rattle.far_events.specs.state.State.{State}
use Rattle.far_core.proofs.Observations.{in_range}
use Rattle.far_book.specs.book.Own.{own_part}
use Rattle.far_book.proofs.region.Whole.{near_has_one_live, walks}
use Rattle.far_evac.specs.AnyHand.{KnowsWalked, WalksTo}
use Rattle.far_evac.specs.Live.{live_among}
use Rattle.far_evac.specs.LiveLaws.{IsNearIn}
use Rattle.far_evac.specs.Moment.{Moment}
use Rattle.far_evac.specs.Ready.{Ready}
use Rattle.far_evac.specs.RoundSteps.{among}
use Rattle.far_evac.specs.TakesRoom.{IsAside, IsBack, IsLeft, TakesRoom, WalkTakesRoom, all_live, bytes_at, bytes_gone, bytes_in, bytes_near, gone_of}
use Rattle.far_evac.specs.Walk.{Walked, Way}
use Rattle.far_evac.proofs.Leading.{not_zero}
use Rattle.far_evac.proofs.Framed.{so_one}
use Rattle.far_evac.proofs.LiveOnce.{each_map, every, first_named, member_each}
use Rattle.far_evac.proofs.RoomTaken.{IsOff, Taken, alike_known, none_taken, off_none, sum_none, taken_alike, taken_back, taken_more}
use Rattle.far_evac.proofs.SmallSteps.{GoesFirst, Keeps, finds_first, first_gone, lifted_walks}
use Rattle.far_evac.proofs.SpanBytes.{Dealt, Sound, all_used}
use Rattle.far_evac.proofs.SpansDealt.{way_dealt}
use Rattle.far_evac.proofs.Targets.{LieBelow, below_framed, below_known, below_released, lie_below}
use Rattle.far_evac.proofs.Tours.{core_so, others}

-- ---- the book's part of the law
used_log : (s : State) → Law (own_part s) → (p len ds : ℕ) (place : Place) (marks : Marks) → read_of (s.cell p) ≡ Some (Near len ds place marks) → place.log < s.logs
used_log s law p len ds place marks near =
    let fits = (in_range (own_part s) law p len ds place marks near).0 in
    law.logs.log_range place.log (λ free. (let none : s.tail place.log ≡ 0 = law.logs.free_tail place.log free in omega (arith, fits, none)))

pub sound_of : (s : State) → Law (own_part s) → Sound s
sound_of s law = record {
  tile = λ l. (walks s law l).tile;
  placed = λ p len ds place marks near. (near_has_one_live s law p len ds place marks near).placed;
  inside = used_log s law;
  bare = law.logs.free_tail;
  short = law.logs.tail_end;
  pointer = λ p len ds place marks near.
      let range = law.cells.cell_range p (not_zero (s.cell p) len ds place marks near) in
      let few = law.shape.few_mutators in omega (arith, range, few);
}

-- ---- small steps: what was taken, and that nothing was copied to where the next object comes
abbrev Stands : Moment → Moment → List ℕ → Type 0
Stands m t objects = Taken m t.core t.collection objects × LieBelow t.core

known_taken : (m : Moment) (objects : List ℕ) (w t : Walked) → KnowsWalked w t → Taken m w.moment.core w.moment.collection objects → Taken m t.moment.core t.moment.collection objects
known_taken m objects w t known h =
    subst (λ held. Taken m t.moment.core held objects) (sym (ap (λ (n : Moment). n.collection) known.moment.rest))
    (taken_alike w.moment.core t.moment.core (alike_known w.moment.core t.moment.core known.moment.core) m w.moment.collection objects h)

off_each : (s : State) (p : ℕ) (held : List ℕ) → AllByRecursion (λ l. (at : ℕ) → names_place (read_of (s.cell p)) l at ≡ false) held → IsOff s held p
off_each s p held each l at is = member_each (λ l. (at : ℕ) → names_place (read_of (s.cell p)) l at ≡ false) held each l is at

module _ (m v : Moment) (objects : List ℕ) (k : ℕ) (s : State) (l : ℕ) (ls : List ℕ) (p : ℕ) (ps : List ℕ) (way : Way) (first : GoesFirst false v k s l ls p ps way) (h : Taken m s (l ∷ ls) objects) (below : LieBelow s) where
  dealt : Dealt s (core_so s p way) p
  dealt = way_dealt s h.sound below l ls p ps first.ready first.live first.word (finds_first first) way first.is

  so_taken : Taken m (core_so s p way) (l ∷ ls) (objects ++ p ∷ [])
  so_taken = taken_more m s (core_so s p way) (l ∷ ls) objects h p l (first_named s l p ps first.live) (ap (λ b. b || among ls l) (eq-eqb l l refl))
      dealt (so_one s p way).cells (off_each (core_so s p way) p (l ∷ ls) (first_gone first).off)

  so_below : LieBelow (core_so s p way)
  so_below = below_framed s (core_so s p way) (so_one s p way).frame (λ l. let a = dealt.tail l in omega (arith, a)) below

-- ---- object after object, from where other walks have led
keeps_taken : (m v : Moment) (before : List ℕ) → Keeps false v (λ k w. Stands m w.moment (before ++ take k (live_among v.core v.collection)))
keeps_taken m v before = record {
  learns = λ k w t known h. (known_taken m (before ++ take k (live_among v.core v.collection)) w t known h.0, below_known w.moment.core t.moment.core known.moment.core h.1);
  gives = λ k w l ls ready none h. (
    taken_back w.moment.core l h.0.sound none m ls (before ++ take k (live_among v.core v.collection)) ready.once (member_each (λ k. k ≢ l) ls (others l ls ready.once)) h.0,
    below_released w.moment.core l ready.logs.0.2 h.1,
  );
  deals = λ k w l ls p ps way first h.
      let objects = before ++ take k (live_among v.core v.collection) in (
        subst (Taken m (core_so w.moment.core p way) (l ∷ ls)) (append_assoc before (take k (live_among v.core v.collection)) (p ∷ []) ∙ ap (λ xs. before ++ xs) (sym first.more))
            (so_taken m v objects k w.moment.core l ls p ps way first h.0 h.1),
        so_below m v objects k w.moment.core l ls p ps way first h.0 h.1,
      );
}

pub walks_taken : (m v : Moment) (before : List ℕ) → Taken m v.core v.collection before → Law (own_part v.core) → (k : ℕ) (t : Walked) → Ready v.core v.collection → WalksTo v k t →
    Taken m t.moment.core t.moment.collection (before ++ take k (live_among v.core v.collection))
walks_taken m v before h law k t ready walks =
    (lifted_walks v (λ k w. Stands m w.moment (before ++ take k (live_among v.core v.collection))) (keeps_taken m v before) ready
    (subst (Taken m v.core v.collection) (sym (append-nil before)) h, lie_below v.core law) k t walks).keeps.0

-- ---- all logs together
sums_same : (a b c d : ℕ → ℕ) → ((x : ℕ) → a x + b x ≡ c x + d x) → (xs : List ℕ) → sum_by a xs + sum_by b xs ≡ sum_by c xs + sum_by d xs
sums_same a b c d each [] = refl
sums_same a b c d each (x ∷ xs) =
    let e = each x in let rest = sums_same a b c d each xs in
    omega (arith, e, rest, sum_by-cons a x xs, sum_by-cons b x xs, sum_by-cons c x xs, sum_by-cons d x xs)

sum_two : (f g h : ℕ → ℕ) → ((x : ℕ) → f x ≡ g x + h x) → (xs : List ℕ) → sum_by f xs ≡ sum_by g xs + sum_by h xs
sum_two f g h each [] = refl
sum_two f g h each (x ∷ xs) =
    let e = each x in let rest = sum_two f g h each xs in
    omega (arith, e, rest, sum_by-cons f x xs, sum_by-cons g x xs, sum_by-cons h x xs)

module _ (k n : ℕ) where
  abbrev here : ℕ → ℕ
  here l = cond (k == l) n 0

  none_behind : (a b : ℕ) → k < a → sum_by here (range_with_len a b) ≡ 0
  none_behind a zero lt = refl
  none_behind a (suc b) lt =
      let first : here a ≡ 0 = ap (λ x. cond x n 0) (ne_eqb k a (λ e. omega (arith, lt, e))) in
      let rest = none_behind (a + 1) b (omega (arith, lt)) in
      omega (arith, first, rest, sum_by-cons here a (range_with_len (a + 1) b))

  one_log : (a b : ℕ) → a ≤ k → k < a + b → sum_by here (range_with_len a b) ≡ n
  one_log a zero low high = absurd (omega (arith, low, high))
  one_log a (suc b) low high = elim (cases_eq k a) [
    | inl e ↦
        let first : here a ≡ n = ap (λ x. cond x n 0) (eq-eqb k a e) in
        let rest = none_behind (a + 1) b (omega (arith, e)) in
        omega (arith, first, rest, sum_by-cons here a (range_with_len (a + 1) b))
    | inr ne ↦
        let first : here a ≡ 0 = ap (λ x. cond x n 0) (ne_eqb k a ne) in
        let rest = one_log (a + 1) b (omega (arith, low, ne)) (omega (arith, high)) in
        omega (arith, first, rest, sum_by-cons here a (range_with_len (a + 1) b))
  ]

at_one : (n : ℕ) (o : Option PtrWord) → ((len ds : ℕ) (place : Place) (marks : Marks) → o ≡ Some (Near len ds place marks) → place.log < n) → sum_by (λ l. bytes_at l o) (range_with_len 0 n) ≡ bytes_near o
at_one n (Some (Near len ds place marks)) inside = one_log place.log (bytes_taken len) 0 n (omega arith) (let lt = inside len ds place marks refl in omega (arith, lt))
at_one n _ inside = sum_none (λ l. 0) (range_with_len 0 n) (every (λ x. 0 ≡ 0) (λ x. refl) (range_with_len 0 n))

abbrev near_of : State → ℕ → ℕ
near_of s p = bytes_near (read_of (s.cell p))

in_all : (s : State) → Sound s → (objects : List ℕ) → sum_by (λ l. bytes_in s l objects) (range_with_len 0 s.logs) ≡ sum_by (near_of s) objects
in_all s sound [] = sum_none (λ l. bytes_in s l []) (range_with_len 0 s.logs) (every (λ l. bytes_in s l [] ≡ 0) (λ l. refl) (range_with_len 0 s.logs))
in_all s sound (p ∷ ps) =
    let two = sum_two (λ l. bytes_in s l (p ∷ ps)) (λ l. bytes_at l (read_of (s.cell p))) (λ l. bytes_in s l ps) (λ l. sum_by-cons (λ q. bytes_at l (read_of (s.cell q))) p ps) (range_with_len 0 s.logs) in
    let one = at_one s.logs (read_of (s.cell p)) (sound.inside p) in
    let rest = in_all s sound ps in
    omega (arith, two, one, rest, sum_by-cons (near_of s) p ps)

away_none : (o : Option PtrWord) → is_near o ≡ false → bytes_near o ≡ 0
away_none (Some (Near len ds place marks)) h = absurd (true≢false h)
away_none _ h = refl

gone_one : (s t : State) (p : ℕ) → (is_near (read_of (t.cell p)) ≡ true → near_of t p ≡ near_of s p) → (b : Bool) → is_near (read_of (t.cell p)) ≡ b → near_of s p ≡ near_of t p + gone_of s t p
gone_one s t p size true is = (let a = size is in let b : gone_of s t p ≡ 0 = ap (λ x. cond x 0 (near_of s p)) is in omega (arith, a, b))
gone_one s t p size false is = (let a = away_none (read_of (t.cell p)) is in let b : gone_of s t p ≡ near_of s p = ap (λ x. cond x 0 (near_of s p)) is in omega (arith, a, b))

gone_all : (s t : State) (objects : List ℕ) → AllByRecursion (λ p. is_near (read_of (t.cell p)) ≡ true → near_of t p ≡ near_of s p) objects → sum_by (near_of s) objects ≡ sum_by (near_of t) objects + bytes_gone s t objects
gone_all s t [] sizes = refl
gone_all s t (p ∷ ps) sizes =
    let first = gone_one s t p sizes.0 (is_near (read_of (t.cell p))) refl in
    let rest = gone_all s t ps sizes.1 in
    omega (arith, first, rest, sum_by-cons (near_of s) p ps, sum_by-cons (near_of t) p ps, sum_by-cons (gone_of s t) p ps)

-- ---- what was taken, in the words of the law
module _ (m t : Moment) (sound : Sound m.core) (objects : List ℕ) (h : Taken m t.core t.collection objects) where
  total : all_live t.core + bytes_gone m.core t.core objects ≡ all_live m.core
  total =
      let range = range_with_len 0 m.core.logs in
      let logs = sums_same (live_bytes t.core) (λ l. bytes_in m.core l objects) (live_bytes m.core) (λ l. bytes_in t.core l objects) h.live range in
      let before = in_all m.core sound objects in
      let after : sum_by (λ l. bytes_in t.core l objects) range ≡ sum_by (near_of t.core) objects = ap (λ n. sum_by (λ l. bytes_in t.core l objects) (range_with_len 0 n)) (sym h.logs) ∙ in_all t.core h.sound objects in
      let same : all_live t.core ≡ sum_by (live_bytes t.core) range = ap (λ n. sum_by (live_bytes t.core) (range_with_len 0 n)) h.logs in
      let gone = gone_all m.core t.core objects h.sizes in
      omega (arith, logs, before, after, same, gone)

  -- nothing of a log outside the collection set
  none_left : (l : ℕ) → among m.collection l ≡ false → bytes_in m.core l objects ≡ 0
  none_left l aside = sum_none (λ p. bytes_at l (read_of (m.core.cell p))) objects (each_map (λ p (x : IsNearIn m.core m.collection p).
      ap (bytes_at l) x.near ∙ ap (λ b. cond b (bytes_taken x.len) 0) (ne_eqb x.place.log l (λ e. true≢false (sym x.log ∙ ap (among m.collection) e ∙ aside)))) objects h.from)

  -- and nothing comes to one that is
  none_came : (l : ℕ) → among t.collection l ≡ true → bytes_in t.core l objects ≡ 0
  none_came l is = sum_none (λ p. bytes_at l (read_of (t.core.cell p))) objects (each_map (λ p (off : IsOff t.core t.collection p). off_none l (read_of (t.core.cell p)) (λ at. off l at is)) objects h.off)

  is_aside : (l : ℕ) → among m.collection l ≡ false → IsAside m.core t.core objects l
  is_aside l aside =
      let none = none_left l aside in
      let live = h.live l in
      let tail = h.kept l (inl aside) in
      let now = all_used t.core h.sound l in
      let was = all_used m.core sound l in
      let short = h.sound.short l in
      record {
        live = omega (arith, none, live);
        dead = omega (arith, none, live, tail, now, was);
        unused = omega (arith, tail, short);
        sealed = λ shut. (let x = h.sealed l aside shut in let same = x.1 in (x.0, omega (arith, tail, same)));
        opened = λ free some. (let x = h.opened l aside free some in let bare = sound.bare l free in omega (arith, tail, x, bare));
        used = h.used l aside;
      }

  is_left : (l : ℕ) → among t.collection l ≡ true → IsLeft m.core t.core objects l
  is_left l is =
      let none = none_came l is in
      let live = h.live l in
      let tail = h.kept l (inr is) in
      let now = all_used t.core h.sound l in
      let was = all_used m.core sound l in
      record { live = omega (arith, none, live); dead = omega (arith, none, live, tail, now, was); unused = omega (arith, none, tail) }

  is_back : (l : ℕ) → among m.collection l ≡ true → among t.collection l ≡ false → IsBack m.core t.core objects l
  is_back l was is =
      let live = h.live l in
      let back = h.back l was is in
      let tail = back.0 in
      let came = back.1 in
      let now = all_used t.core h.sound l in
      let short = h.sound.short l in
      record { left = omega (arith, live, came); live = came; dead = omega (arith, tail, came, now); unused = omega (arith, tail, short) }

  pub room_taken : TakesRoom m t objects
  room_taken = record {
    once = h.once;
    of_collection = h.from;
    away = h.away;
    others = h.others;
    sizes = h.sizes;
    aside = is_aside;
    left = is_left;
    back = is_back;
    logs = h.logs;
    total = total;
  }

pub walk_takes_room : WalkTakesRoom
walk_takes_room m k t law ready walks =
    let sound = sound_of m.core law in
    room_taken m t.moment sound (take k (live_among m.core m.collection)) (walks_taken m m [] (none_taken m sound) law k t ready walks)
