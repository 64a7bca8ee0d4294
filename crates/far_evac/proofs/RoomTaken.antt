-- What a walk has taken of the logs so far: object after object, log after log that is given back, and as far as it is known over any hand.
use Rattle.std.proofs.Common.{◌≡◌, ◌≢◌, ℕ, ◌+◌, ◌*◌, ◌<◌, ◌≤◌, Bool, true, false, cond, ◌&&◌, ◌||◌, eqb, nat_eq, Option, Some, List, [], ◌∷◌, ◌++◌, filter, inl, inr, arith, ap, sym, refl, ◌∙◌, subst}
use Rattle.std.proofs.Math.Bool.{and-true}
use Rattle.std.specs.Prelude.{Contains, ◌⊎◌}
use Rattle.std.specs.List.{AllByRecursion, IsDistinct, sum_by}
use Rattle.std.proofs.lemmas.Bool.{cases_eq, cond_both, eq-eqb, ne_eqb, true≢false, false≢true, both_ways}
use Rattle.std.proofs.lemmas.List.Sums.{sum_by-cons, sum_by_push}
use Rattle.std.proofs.lemmas.Map.Keys.{IsDistinct-push}
use Rattle.std.specs.Cmp.{nat_eq_equiv}
use Rattle.far_word.specs.declared.mark.Marks.{Marks}
use Rattle.far_word.specs.declared.pointer.Place.{Place}
use Rattle.far_word.specs.declared.pointer.PtrWord.{PtrWord}
use Rattle.far_word.specs.declared.pointer.PtrWord.TheVariants.{Free, Near}
use Rattle.far_word.specs.declared.sizes.TheConstants.{LOG_WORDS}
use Rattle.far_word.specs.Pointer.{read_of}
use Rattle.far_word.specs.Sizes.{bytes_taken}
use Rattle.far_log.specs.declared.span.Span.{Span}
use Rattle.far_log.specs.Spans.{Tile, spans_in, taken_by}
use Rattle.far_log.proofs.Members.{here, none_in, split, there}
use Rattle.far_events.specs.declared.event.Kind.{Kind}
use Rattle.far_events.specs.declared.event.Kind.TheVariants as kinds
use Rattle.far_events.specs.events.Clear.{is_near}
use Rattle.far_events.specs.events.Naming.{no_marks}
use Rattle.far_core.specs.laws.Observed.{live_bytes, span_for}
use Rattle.far_events.specs.state.Spans.{is_live, names_place, spans_of, word_in}
use Rattle.far_events.specs.state.State.{State}
use Rattle.far_events.proofs.Put.{put_both, put_other, put_same}
use Rattle.far_hand.specs.Finds.{Finds, body_of}
use Rattle.far_book.specs.book.Releasing.{released}
use Rattle.far_evac.specs.AnyHand.{Knows}
use Rattle.far_evac.specs.Dealings.{HasLeft}
use Rattle.far_evac.specs.Live.{is_empty, live_in, pointers_of}
use Rattle.far_evac.specs.Moment.{Moment}
use Rattle.far_evac.specs.RoundSteps.{among}
use Rattle.far_evac.specs.LiveLaws.{IsNearIn}
use Rattle.far_evac.specs.TakesRoom.{bytes_at, bytes_in, bytes_near, spot_of}
use Rattle.far_evac.proofs.Bools.{or_left, or_right}
use Rattle.far_evac.proofs.LiveOnce.{LivesIn, NearAt, all_append, all_front, both, each_map, every, names_once, near_at}
use Rattle.far_evac.proofs.SpanBytes.{Dealt, Sound}

-- ---- bytes by what a cell says
at_spot : (l : ℕ) (o : Option PtrWord) → bytes_at l o ≡ bytes_at l (spot_of o)
at_spot l (Some Free) = refl
at_spot l _ = refl

pub same_at : (l : ℕ) (a b : Option PtrWord) → spot_of a ≡ spot_of b → bytes_at l a ≡ bytes_at l b
same_at l a b e = at_spot l a ∙ ap (bytes_at l) e ∙ sym (at_spot l b)

near_spot : (o : Option PtrWord) → bytes_near o ≡ bytes_near (spot_of o)
near_spot (Some Free) = refl
near_spot _ = refl

pub same_near : (a b : Option PtrWord) → spot_of a ≡ spot_of b → bytes_near a ≡ bytes_near b
same_near a b e = near_spot a ∙ ap bytes_near e ∙ sym (near_spot b)

is_spot : (o : Option PtrWord) → is_near o ≡ is_near (spot_of o)
is_spot (Some Free) = refl
is_spot _ = refl

pub same_is : (a b : Option PtrWord) → spot_of a ≡ spot_of b → is_near a ≡ is_near b
same_is a b e = is_spot a ∙ ap is_near e ∙ sym (is_spot b)

pub names_spot : (o : Option PtrWord) (l at : ℕ) → names_place o l at ≡ names_place (spot_of o) l at
names_spot (Some Free) l at = refl
names_spot _ l at = refl

pub same_names : (a b : Option PtrWord) → spot_of a ≡ spot_of b → (l at : ℕ) → names_place a l at ≡ names_place b l at
same_names a b e l at = names_spot a l at ∙ ap (λ o. names_place o l at) e ∙ sym (names_spot b l at)

-- one that lies at a place under other marks
near_from : (o : Option PtrWord) (len ds : ℕ) (place : Place) → spot_of o ≡ Some (Near len ds place no_marks) → (marks : Marks) × (o ≡ Some (Near len ds place marks))
near_from (Some (Near n d at m)) len ds place e =
    let ns : n ≡ len = cc in
    let dss : d ≡ ds = cc in
    let ats : at ≡ place = cc in
    (m, λ i. Some (Near (ns i) (dss i) (ats i) m))
near_from _ len ds place e = absurd cc

pub near_same : (a b : Option PtrWord) → spot_of a ≡ spot_of b → (len ds : ℕ) (place : Place) (marks : Marks) → a ≡ Some (Near len ds place marks) → (m : Marks) × (b ≡ Some (Near len ds place m))
near_same a b e len ds place marks near = near_from b len ds place (sym e ∙ ap spot_of near)

-- what was found in a cell says the same place
spot_body : (o : Option PtrWord) → spot_of o ≡ spot_of (body_of o)
spot_body (Some Free) = refl
spot_body _ = refl

pub spot_found : (known found : ℕ) → Finds known found → spot_of (read_of found) ≡ spot_of (read_of known)
spot_found known found finds = spot_body (read_of found) ∙ ap spot_of finds.body ∙ sym (spot_body (read_of known))

-- a cell that names no word of a log takes none of its bytes
pub off_none : (l : ℕ) (o : Option PtrWord) → ((at : ℕ) → names_place o l at ≡ false) → bytes_at l o ≡ 0
off_none l (Some (Near len ds place marks)) off = ap (λ b. cond b (bytes_taken len) 0) (sym (ap (λ b. nat_eq place.log l && b) (eq-eqb place.at place.at refl) ∙ and-true (nat_eq place.log l)) ∙ off place.at)
off_none l _ off = refl

-- nor one that names a word of another
pub elsewhere_none : (l k at : ℕ) (o : Option PtrWord) → names_place o k at ≡ true → l ≢ k → bytes_at l o ≡ 0
elsewhere_none l k at o h ne = let x = near_at o k at h in ap (bytes_at l) x.near ∙ ap (λ b. cond b (bytes_taken x.len) 0) (ne_eqb x.place.log l (λ e. ne (sym e ∙ x.log)))

pub sum_same : (f g : ℕ → ℕ) (xs : List ℕ) → AllByRecursion (λ x. f x ≡ g x) xs → sum_by f xs ≡ sum_by g xs
sum_same f g [] h = refl
sum_same f g (x ∷ xs) h = (let a = sum_by-cons f x xs in let b = sum_by-cons g x xs in let c = sum_same f g xs h.1 in let d = h.0 in omega (arith, a, b, c, d))

pub sum_none : (f : ℕ → ℕ) (xs : List ℕ) → AllByRecursion (λ x. f x ≡ 0) xs → sum_by f xs ≡ 0
sum_none f [] h = refl
sum_none f (x ∷ xs) h = (let a = sum_by-cons f x xs in let c = sum_none f xs h.1 in let d = h.0 in omega (arith, a, c, d))

-- ---- where a walk stands that began at a moment: what these objects have made of the logs, while these are the collection set
abbrev pub IsOff : State → List ℕ → ℕ → Type 0
IsOff s held q = (l at : ℕ) → among held l ≡ true → names_place (read_of (s.cell q)) l at ≡ false

pub record Taken (m : Moment) (s : State) (held objects : List ℕ) : Type 0 where
  pub sound : Sound s
  pub live : (l : ℕ) → live_bytes s l + bytes_in m.core l objects ≡ live_bytes m.core l + bytes_in s l objects
  pub kept : (l : ℕ) → (among m.collection l ≡ false) ⊎ (among held l ≡ true) → 8 * s.tail l ≡ 8 * m.core.tail l + bytes_in s l objects
  pub back : (l : ℕ) → among m.collection l ≡ true → among held l ≡ false → (8 * s.tail l ≡ bytes_in s l objects) × (live_bytes s l ≡ bytes_in s l objects)
  pub sealed : (l : ℕ) → among m.collection l ≡ false → m.core.kind l ≡ kinds.Sealed → (s.kind l ≡ kinds.Sealed) × (s.tail l ≡ m.core.tail l)
  pub used : (l : ℕ) → among m.collection l ≡ false → m.core.kind l ≢ kinds.Free → s.kind l ≢ kinds.Free
  pub opened : (l : ℕ) → among m.collection l ≡ false → m.core.kind l ≡ kinds.Free → s.kind l ≢ kinds.Free → 0 < s.tail l
  pub sizes : AllByRecursion (λ p. is_near (read_of (s.cell p)) ≡ true → bytes_near (read_of (s.cell p)) ≡ bytes_near (read_of (m.core.cell p))) objects
  pub others : (p : ℕ) → AllByRecursion (λ q. q ≢ p) objects → spot_of (read_of (s.cell p)) ≡ spot_of (read_of (m.core.cell p))
  pub off : AllByRecursion (IsOff s held) objects
  pub away : AllByRecursion (λ p. HasLeft (read_of (m.core.cell p)) (read_of (s.cell p))) objects
  pub within : (l : ℕ) → among held l ≡ true → among m.collection l ≡ true
  pub once : IsDistinct eqb objects
  pub from : AllByRecursion (IsNearIn m.core m.collection) objects
  pub logs : s.logs ≡ m.core.logs

-- ---- before the first object
pub none_taken : (m : Moment) → Sound m.core → Taken m m.core m.collection []
unfolding IsDistinct
none_taken m sound = record {
  sound = sound;
  live = λ l. refl;
  kept = λ l why. (let none : bytes_in m.core l [] ≡ 0 = refl in omega (arith, none));
  back = λ l was is. absurd (both_ways (among m.collection l) is was);
  sealed = λ l aside shut. (shut, refl);
  used = λ l aside some. some;
  opened = λ l aside free some. absurd (some free);
  sizes = tt;
  others = λ p h. refl;
  off = tt;
  away = tt;
  within = λ l h. h;
  once = tt;
  from = tt;
  logs = refl;
}

-- ---- marks have changed, and words that are no header
pub record Alike (s t : State) : Type 0 where
  pub spots : (p : ℕ) → spot_of (read_of (t.cell p)) ≡ spot_of (read_of (s.cell p))
  pub spans : (l : ℕ) → spans_of t l ≡ spans_of s l
  pub tail : t.tail ≡ s.tail
  pub kind : t.kind ≡ s.kind
  pub logs : t.logs ≡ s.logs

pub alike_known : (s t : State) → Knows s t → Alike s t
alike_known s t known = record {
  spots = λ p. spot_found (s.cell p) (t.cell p) (known.found p);
  spans = known.spans;
  tail = ap (λ (u : State). u.tail) known.rest;
  kind = ap (λ (u : State). u.kind) known.rest;
  logs = ap (λ (u : State). u.logs) known.rest;
}

module _ (s t : State) (alike : Alike s t) where
  near_before : (p len ds : ℕ) (place : Place) (marks : Marks) → read_of (t.cell p) ≡ Some (Near len ds place marks) → (m : Marks) × (read_of (s.cell p) ≡ Some (Near len ds place m))
  near_before p len ds place marks near = near_same (read_of (t.cell p)) (read_of (s.cell p)) (alike.spots p) len ds place marks near

  pub sound_alike : Sound s → Sound t
  sound_alike sound = record {
    tile = λ l. subst (λ (f : ℕ → ℕ). Tile 0 (spans_of t l) (f l)) (sym alike.tail) (subst (λ xs. Tile 0 xs (s.tail l)) (sym (alike.spans l)) (sound.tile l));
    placed = λ p len ds place marks near.
        let x = near_before p len ds place marks near in
        subst (λ (xs : List Span). Contains xs (span_for p len ds place.at)) (sym (alike.spans place.log)) (sound.placed p len ds place x.0 x.1);
    inside = λ p len ds place marks near. (let x = near_before p len ds place marks near in subst (λ n. place.log < n) (sym alike.logs) (sound.inside p len ds place x.0 x.1));
    bare = λ l free. ap (λ f. f l) alike.tail ∙ sound.bare l (ap (λ f. f l) (sym alike.kind) ∙ free);
    short = λ l. subst (λ (f : ℕ → ℕ). f l ≤ LOG_WORDS) (sym alike.tail) (sound.short l);
    pointer = λ p len ds place marks near. (let x = near_before p len ds place marks near in sound.pointer p len ds place x.0 x.1);
  }

  live_alike : (l : ℕ) → live_bytes t l ≡ live_bytes s l
  live_alike l = ap (λ xs. taken_by (is_live t l) xs) (alike.spans l) ∙ same_live (spans_of s l) where
    same_live : (xs : List Span) → taken_by (is_live t l) xs ≡ taken_by (is_live s l) xs
    same_live [] = refl
    same_live (x ∷ xs) =
        let first : cond (is_live t l x) (bytes_taken x.len) 0 ≡ cond (is_live s l x) (bytes_taken x.len) 0 = ap (λ b. cond b (bytes_taken x.len) 0) (same_names (read_of (t.cell x.p)) (read_of (s.cell x.p)) (alike.spots x.p) l x.at) in
        let rest = same_live xs in omega (arith, first, rest)

  bytes_alike : (l : ℕ) (objects : List ℕ) → bytes_in t l objects ≡ bytes_in s l objects
  bytes_alike l objects = sum_same (λ p. bytes_at l (read_of (t.cell p))) (λ p. bytes_at l (read_of (s.cell p))) objects
      (every (λ p. bytes_at l (read_of (t.cell p)) ≡ bytes_at l (read_of (s.cell p))) (λ q. same_at l (read_of (t.cell q)) (read_of (s.cell q)) (alike.spots q)) objects)

  tail_alike : (l : ℕ) → t.tail l ≡ s.tail l
  tail_alike l = ap (λ f. f l) alike.tail

  kind_alike : (l : ℕ) → t.kind l ≡ s.kind l
  kind_alike l = ap (λ f. f l) alike.kind

  pub taken_alike : (m : Moment) (held objects : List ℕ) → Taken m s held objects → Taken m t held objects
  taken_alike m held objects h = record {
    sound = sound_alike h.sound;
    live = λ l. (let a = live_alike l in let b = bytes_alike l objects in let c = h.live l in omega (arith, a, b, c));
    kept = λ l why. (let a = tail_alike l in let b = bytes_alike l objects in let c = h.kept l why in omega (arith, a, b, c));
    back = λ l was is. (let a = tail_alike l in let b = bytes_alike l objects in let c = h.back l was is in (omega (arith, a, b, c.0), live_alike l ∙ c.1 ∙ sym b));
    sealed = λ l aside shut. (let c = h.sealed l aside shut in (kind_alike l ∙ c.0, tail_alike l ∙ c.1));
    used = λ l aside some free. h.used l aside some (sym (kind_alike l) ∙ free);
    opened = λ l aside free some. subst (λ n. 0 < n) (sym (tail_alike l)) (h.opened l aside free (λ e. some (kind_alike l ∙ e)));
    sizes = each_map (λ q c near. same_near (read_of (t.cell q)) (read_of (s.cell q)) (alike.spots q) ∙ c (sym (same_is (read_of (t.cell q)) (read_of (s.cell q)) (alike.spots q)) ∙ near)) objects h.sizes;
    others = λ q apart. alike.spots q ∙ h.others q apart;
    off = each_map (λ q c l at member. same_names (read_of (t.cell q)) (read_of (s.cell q)) (alike.spots q) l at ∙ c l at member) objects h.off;
    away = each_map (λ q c l at to h. same_names (read_of (t.cell q)) (read_of (s.cell q)) (alike.spots q) l to ∙ c l at to h) objects h.away;
    within = h.within;
    once = h.once;
    from = h.from;
    logs = alike.logs ∙ h.logs;
  }

-- ---- a log without a live object is given back
none_live : (f : Span → Bool) (xs : List Span) → is_empty (pointers_of (filter f xs)) ≡ true → (x : Span) → Contains xs x → f x ≡ false
none_live f [] none x h = absurd (none_in x h)
none_live f (y ∷ xs) none x h = elim (split x y xs h) [
  | inl e ↦ ap f (sym e) ∙ (first none).0
  | inr more ↦ none_live f xs (first none).1 x more
] where
  first : is_empty (pointers_of (filter f (y ∷ xs))) ≡ true → (f y ≡ false) × (is_empty (pointers_of (filter f xs)) ≡ true)
  first = cond_both (f y) (y ∷ filter f xs) (filter f xs) (λ (ys : List Span). is_empty (pointers_of ys) ≡ true → (f y ≡ false) × (is_empty (pointers_of (filter f xs)) ≡ true))
      (λ _ odd. absurd (false≢true odd)) (λ off rest. (off, rest))

taken_none : (f : Span → Bool) (xs : List Span) → ((x : Span) → Contains xs x → f x ≡ false) → taken_by f xs ≡ 0
taken_none f [] dead = refl
taken_none f (x ∷ xs) dead =
    let first : cond (f x) (bytes_taken x.len) 0 ≡ 0 = ap (λ b. cond b (bytes_taken x.len) 0) (dead x (here x xs)) in
    let rest = taken_none f xs (λ y h. dead y (there y x xs h)) in omega (arith, first, rest)

module _ (s : State) (l : ℕ) (sound : Sound s) (none : is_empty (live_in s l) ≡ true) where
  no_live : (x : Span) → Contains (spans_of s l) x → is_live s l x ≡ false
  unfolding live_in
  no_live = none_live (is_live s l) (spans_of s l) none

  vacant : (p len ds : ℕ) (place : Place) (marks : Marks) → read_of (s.cell p) ≡ Some (Near len ds place marks) → place.log ≢ l
  vacant p len ds place marks near e =
      let member : Contains (spans_of s l) (span_for p len ds place.at) = subst (λ k. Contains (spans_of s k) (span_for p len ds place.at)) e (sound.placed p len ds place marks near) in
      let live : is_live s l (span_for p len ds place.at) ≡ true = rw (near, eq-eqb place.log l e, eq-eqb place.at place.at refl) refl in
      true≢false (sym live ∙ no_live (span_for p len ds place.at) member)

  spans_back : spans_of (released s l) l ≡ []
  unfolding spans_of spans_in
  spans_back = ap (spans_in (word_in s l)) (put_same s.tail l 0 l refl)

  spans_other : (k : ℕ) → k ≢ l → spans_of (released s l) k ≡ spans_of s k
  unfolding spans_of
  spans_other k ne = ap (spans_in (word_in s k)) (put_other s.tail l 0 k ne)

  sound_back : Sound (released s l)
  sound_back = record {
    tile = λ k. elim (cases_eq k l) [
      | inl e ↦ subst (λ j. Tile 0 (spans_of (released s l) j) ((released s l).tail j)) (sym e) (subst (λ xs. Tile 0 xs ((released s l).tail l)) (sym spans_back) (sym (put_same s.tail l 0 l refl)))
      | inr ne ↦ subst (λ n. Tile 0 (spans_of (released s l) k) n) (sym (put_other s.tail l 0 k ne)) (subst (λ xs. Tile 0 xs (s.tail k)) (sym (spans_other k ne)) (sound.tile k))
    ];
    placed = λ p len ds place marks near. subst (λ (xs : List Span). Contains xs (span_for p len ds place.at)) (sym (spans_other place.log (vacant p len ds place marks near))) (sound.placed p len ds place marks near);
    inside = sound.inside;
    bare = λ k free. put_both (λ n. n ≡ 0) s.tail l 0 k (λ _. refl) (λ ne. sound.bare k (sym (put_other s.kind l kinds.Free k ne) ∙ free));
    short = λ k. put_both (λ n. n ≤ LOG_WORDS) s.tail l 0 k (λ _. omega arith) (λ _. sound.short k);
    pointer = sound.pointer;
  }

  live_back : (k : ℕ) → live_bytes (released s l) k ≡ live_bytes s k
  live_back k = elim (cases_eq k l) [
    | inl e ↦ subst (λ j. live_bytes (released s l) j ≡ live_bytes s j) (sym e) (ap (taken_by (is_live s l)) spans_back ∙ sym (taken_none (is_live s l) (spans_of s l) no_live))
    | inr ne ↦ ap (taken_by (is_live s k)) (spans_other k ne)
  ]

  module _ (m : Moment) (ls objects : List ℕ) (once : IsDistinct eqb (l ∷ ls)) (apart : (k : ℕ) → among ls k ≡ true → k ≢ l) (h : Taken m s (l ∷ ls) objects) where
    member : among (l ∷ ls) l ≡ true
    member = or_left (eqb l l) (among ls l) (eq-eqb l l refl)

    more : (k : ℕ) → among ls k ≡ true → among (l ∷ ls) k ≡ true
    more k is = or_right (eqb k l) (among ls k) is

    not_aside : (k : ℕ) → among m.collection k ≡ false → k ≢ l
    not_aside k aside e = both_ways (among m.collection k) aside (ap (among m.collection) e ∙ h.within l member)

    came_none : bytes_in s l objects ≡ 0
    came_none = sum_none (λ p. bytes_at l (read_of (s.cell p))) objects (each_map (λ q off. off_none l (read_of (s.cell q)) (λ at. off l at member)) objects h.off)

    kept_back : (k : ℕ) → (among m.collection k ≡ false) ⊎ (among ls k ≡ true) → 8 * (released s l).tail k ≡ 8 * m.core.tail k + bytes_in s k objects
    kept_back k (inl aside) = ap (λ n. 8 * n) (put_other s.tail l 0 k (not_aside k aside)) ∙ h.kept k (inl aside)
    kept_back k (inr is) = ap (λ n. 8 * n) (put_other s.tail l 0 k (apart k is)) ∙ h.kept k (inr (more k is))

    back_back : (k : ℕ) → among m.collection k ≡ true → among ls k ≡ false → (8 * (released s l).tail k ≡ bytes_in s k objects) × (live_bytes (released s l) k ≡ bytes_in s k objects)
    back_back k was is = elim (cases_eq k l) [
      | inl e ↦ (
        let a : (released s l).tail k ≡ 0 = put_same s.tail l 0 k e in let b : bytes_in s k objects ≡ 0 = ap (λ j. bytes_in s j objects) e ∙ came_none in omega (arith, a, b),
        subst (λ j. live_bytes (released s l) j ≡ bytes_in s j objects) (sym e) (ap (taken_by (is_live s l)) spans_back ∙ sym came_none),
      )
      | inr ne ↦ (let c = h.back k was (ap (λ b. b || among ls k) (ne_eqb k l ne) ∙ is) in (ap (λ n. 8 * n) (put_other s.tail l 0 k ne) ∙ c.0, live_back k ∙ c.1))
    ]

    pub taken_back : Taken m (released s l) ls objects
    taken_back = record {
      sound = sound_back;
      live = λ k. ap (λ n. n + bytes_in m.core k objects) (live_back k) ∙ h.live k;
      kept = kept_back;
      back = back_back;
      sealed = λ k aside shut. (let c = h.sealed k aside shut in (put_other s.kind l kinds.Free k (not_aside k aside) ∙ c.0, put_other s.tail l 0 k (not_aside k aside) ∙ c.1));
      used = λ k aside some free. h.used k aside some (sym (put_other s.kind l kinds.Free k (not_aside k aside)) ∙ free);
      opened = λ k aside free some. subst (λ n. 0 < n) (sym (put_other s.tail l 0 k (not_aside k aside))) (h.opened k aside free (λ e. some (put_other s.kind l kinds.Free k (not_aside k aside) ∙ e)));
      sizes = h.sizes;
      others = h.others;
      off = each_map (λ q off k at is. off k at (more k is)) objects h.off;
      away = h.away;
      within = λ k is. h.within k (more k is);
      once = h.once;
      from = h.from;
      logs = h.logs;
    }

-- ---- an object of the collection set is dealt with
-- an object that is near then is as large as it was
abbrev SameSize : State → State → ℕ → Type 0
SameSize s t p = is_near (read_of (t.cell p)) ≡ true → bytes_near (read_of (t.cell p)) ≡ bytes_near (read_of (s.cell p))

module _ (m : Moment) (s t : State) (held objects : List ℕ) (h : Taken m s held objects) (p l : ℕ) (lives : LivesIn s l p) (member : among held l ≡ true) (d : Dealt s t p)
    (kept : (q : ℕ) → q ≢ p → t.cell q ≡ s.cell q) (gone : IsOff t held p) where
  apart : AllByRecursion (λ q. q ≢ p) objects
  apart = each_map (λ q off e. true≢false (sym (ap (λ x. names_place (read_of (s.cell x)) l lives.0) e ∙ lives.1) ∙ off l lives.0 member)) objects h.off

  before : spot_of (read_of (s.cell p)) ≡ spot_of (read_of (m.core.cell p))
  before = h.others p apart

  at_home : NearAt (read_of (s.cell p)) l lives.0
  at_home = near_at (read_of (s.cell p)) l lives.0 lives.1

  near_first : IsNearIn m.core m.collection p
  near_first = let x = near_same (read_of (s.cell p)) (read_of (m.core.cell p)) before at_home.len at_home.ds at_home.place at_home.marks at_home.near in record {
    len = at_home.len;
    ds = at_home.ds;
    place = at_home.place;
    marks = x.0;
    near = x.1;
    log = ap (among m.collection) at_home.log ∙ h.within l member;
  }

  not_among : (xs : List ℕ) → AllByRecursion (λ q. q ≢ p) xs → among xs p ≡ false
  not_among [] h = refl
  not_among (x ∷ xs) h = ap (λ b. b || among xs p) (ne_eqb p x (λ e. h.0 (sym e))) ∙ not_among xs h.1

  came : (k : ℕ) → bytes_in t k (objects ++ p ∷ []) ≡ bytes_in s k objects + bytes_at k (read_of (t.cell p))
  came k =
      let a = sum_by_push (λ q. bytes_at k (read_of (t.cell q))) objects p in
      let b : bytes_in t k objects ≡ bytes_in s k objects = sum_same (λ q. bytes_at k (read_of (t.cell q))) (λ q. bytes_at k (read_of (s.cell q))) objects (each_map (λ q ne. ap (λ w. bytes_at k (read_of w)) (kept q ne)) objects apart) in
      omega (arith, a, b)

  went : (k : ℕ) → bytes_in m.core k (objects ++ p ∷ []) ≡ bytes_in m.core k objects + bytes_at k (read_of (s.cell p))
  went k =
      let a = sum_by_push (λ q. bytes_at k (read_of (m.core.cell q))) objects p in
      let b = same_at k (read_of (s.cell p)) (read_of (m.core.cell p)) before in
      omega (arith, a, b)

  here_none : (k : ℕ) → among held k ≡ false → bytes_at k (read_of (s.cell p)) ≡ 0
  here_none k is = elsewhere_none k l lives.0 (read_of (s.cell p)) lives.1 (λ e. both_ways (among held k) is (ap (among held) e ∙ member))

  pub taken_more : Taken m t held (objects ++ p ∷ [])
  taken_more = record {
    sound = d.sound;
    live = λ k. (let a = came k in let b = went k in let c = h.live k in let e = d.live k in omega (arith, a, b, c, e));
    kept = λ k why. (let a = came k in let c = h.kept k why in let e = d.tail k in omega (arith, a, c, e));
    back = λ k was is. (let a = came k in let c = h.back k was is in let e = d.tail k in let f = d.live k in let g = here_none k is in (omega (arith, a, c.0, e), omega (arith, a, c.1, f, g)));
    sealed = λ k aside shut. (let c = h.sealed k aside shut in let e = d.sealed k c.0 in (e.0, e.1 ∙ c.1));
    used = λ k aside some. d.used k (h.used k aside some);
    opened = opens_on;
    sizes = all_append (λ q. SameSize m.core t q) objects (p ∷ [])
        (each_map (λ q c near. ap (λ w. bytes_near (read_of w)) (kept q c.0) ∙ c.1 (sym (ap (λ w. is_near (read_of w)) (kept q c.0)) ∙ near)) objects (both (λ q. q ≢ p) (SameSize m.core s) objects apart h.sizes))
        ((λ near. d.size near ∙ same_near (read_of (s.cell p)) (read_of (m.core.cell p)) before), tt);
    others = λ q out. let c = all_front (λ x. x ≢ q) objects p out in ap (λ w. spot_of (read_of w)) (kept q (λ e. c.1 (sym e))) ∙ h.others q c.0;
    off = all_append (IsOff t held) objects (p ∷ []) (each_map (λ q c k at is. ap (λ w. names_place (read_of w) k at) (kept q c.0) ∙ c.1 k at is) objects (both (λ q. q ≢ p) (IsOff s held) objects apart h.off)) (gone, tt);
    away = all_append (λ q. HasLeft (read_of (m.core.cell q)) (read_of (t.cell q))) objects (p ∷ [])
        (each_map (λ q c k at to name. ap (λ w. names_place (read_of w) k to) (kept q c.0) ∙ c.1 k at to name) objects (both (λ q. q ≢ p) (λ q. HasLeft (read_of (m.core.cell q)) (read_of (s.cell q))) objects apart h.away)) (
          λ k at to name.
              let same : k ≡ l = (names_once (read_of (s.cell p)) k l at lives.0 (same_names (read_of (s.cell p)) (read_of (m.core.cell p)) before k at ∙ name) lives.1).0 in
              ap (λ x. names_place (read_of (t.cell p)) x to) same ∙ gone l to member,
          tt,
        );
    within = h.within;
    once = IsDistinct-push nat_eq_equiv objects p h.once (not_among objects apart);
    from = all_append (IsNearIn m.core m.collection) objects (p ∷ []) h.from (near_first, tt);
    logs = d.logs ∙ h.logs;
  } where
    free_or : (k : ℕ) → (s.kind k ≡ kinds.Free) ⊎ (s.kind k ≢ kinds.Free)
    free_or k = by_kind (s.kind k) where
      by_kind : (x : Kind) → (x ≡ kinds.Free) ⊎ (x ≢ kinds.Free)
      by_kind kinds.Free = inl refl
      by_kind kinds.Open = inr (λ e. absurd cc)
      by_kind kinds.Sealed = inr (λ e. absurd cc)

    opens_on : (k : ℕ) → among m.collection k ≡ false → m.core.kind k ≡ kinds.Free → t.kind k ≢ kinds.Free → 0 < t.tail k
    opens_on k aside free some = elim (free_or k) [
      | inl still ↦ d.opened k still some
      | inr not_free ↦ (let a = h.opened k aside free not_free in let e = d.tail k in omega (arith, a, e))
    ]
