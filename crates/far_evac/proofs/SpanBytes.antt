-- How bytes of logs change where one object is dealt with: by the spans of the logs, over any hand.
use Rattle.std.proofs.Common.{◌≡◌, ◌≢◌, ℕ, zero, suc, ◌+◌, ◌*◌, ◌<◌, ◌≤◌, Bool, true, false, cond, ◌&&◌, nat_eq, nat_lt, Option, Some, List, [], ◌∷◌, ◌++◌, inl, inr, arith, ap, sym, refl, ◌∙◌, subst}
use Rattle.std.specs.Prelude.{Contains, ◌⊎◌}
use Rattle.std.proofs.lemmas.Bool.{cases_eq, cond_both, eq-eqb, ne_eqb, false≢true, ltb-true, lt-ltb, le-ltb}
use Rattle.far_word.specs.declared.mark.Marks.{Marks}
use Rattle.far_word.specs.declared.pointer.Place.{Place}
use Rattle.far_word.specs.declared.pointer.PtrWord.{PtrWord}
use Rattle.far_word.specs.declared.pointer.PtrWord.TheVariants.{Free, Near}
use Rattle.far_word.specs.declared.sizes.TheConstants.{LOG_WORDS, POINTERS}
use Rattle.far_word.specs.Pointer.{read_of}
use Rattle.far_word.specs.Sizes.{bytes_taken, size_of}
use Rattle.far_log.specs.declared.span.Span.{Span}
use Rattle.far_log.specs.Spans.{Tile, head_len, span_at, spans_from, taken_by}
use Rattle.far_log.proofs.Members.{here, none_in, split, there}
use Rattle.far_log.proofs.SpanLaws.{spans_take, tile_bounds}
use Rattle.far_events.specs.declared.event.Kind.TheVariants as kinds
use Rattle.far_events.specs.events.Clear.{is_near}
use Rattle.far_core.specs.laws.Observed.{dead_bytes, live_bytes, span_for}
use Rattle.far_events.specs.state.Spans.{is_live, names_place, spans_of}
use Rattle.far_events.specs.state.State.{State, put}
use Rattle.far_events.proofs.Put.{put_both, put_other, put_same}
use Rattle.far_book.proofs.region.SpanLists.{taken_more, taken_same, taken_without}
use Rattle.far_evac.specs.TakesRoom.{bytes_at, bytes_near}

-- ---- lists of spans
tile_more : (spans : List Span) (at from : ℕ) (x : Span) → Tile at spans from → x.at ≡ from → Tile at (spans ++ x ∷ []) (from + size_of x.len)
tile_more [] at from x tile place = (place ∙ sym tile, ap (λ k. k + size_of x.len) tile)
tile_more (y ∷ spans) at from x tile place = (tile.0, tile_more spans (at + size_of y.len) from x tile.1 place)

kept_in : (xs : List Span) (x y : Span) → Contains xs x → Contains (xs ++ y ∷ []) x
kept_in [] x y h = absurd (none_in x h)
kept_in (z ∷ xs) x y h = elim (split x z xs h) [
  | inl e ↦ subst (Contains (z ∷ (xs ++ y ∷ []))) e (here z (xs ++ y ∷ []))
  | inr more ↦ there x z (xs ++ y ∷ []) (kept_in xs x y more)
]

last_in : (xs : List Span) (y : Span) → Contains (xs ++ y ∷ []) y
last_in [] y = here y []
last_in (z ∷ xs) y = there y z (xs ++ y ∷ []) (last_in xs y)

-- one span more behind the tail, where the words below it stay
module _ (word other : ℕ → ℕ) (tail : ℕ) (same : (i : ℕ) → i < tail → other i ≡ word i) where
  abbrev size : ℕ
  size = size_of (head_len (other tail))

  past : (fuel : ℕ) → spans_from other (tail + size) (tail + size) fuel ≡ []
  past zero = refl
  past (suc fuel) = ap (λ b. cond b (span_at other (tail + size) ∷ spans_from other (tail + size) (tail + size + size_of (head_len (other (tail + size)))) fuel) []) (le-ltb (tail + size) (tail + size) (omega arith))

  last : (fuel : ℕ) → spans_from other (tail + size) tail (suc fuel) ≡ span_at other tail ∷ []
  last fuel = ap (λ b. cond b (span_at other tail ∷ spans_from other (tail + size) (tail + size) fuel) []) (lt-ltb tail (tail + size) (omega arith)) ∙ ap (λ xs. span_at other tail ∷ xs) (past fuel)

  last_at : (at fuel : ℕ) → at ≡ tail → spans_from other (tail + size) at (suc fuel) ≡ span_at other tail ∷ []
  last_at at fuel e = ap (λ k. spans_from other (tail + size) k (suc fuel)) e ∙ last fuel

  pub spans_more : (fuel long at : ℕ) → fuel < long → Tile at (spans_from word tail at fuel) tail → spans_from other (tail + size) at long ≡ spans_from word tail at fuel ++ span_at other tail ∷ []
  spans_more fuel zero at enough tile = absurd (omega (arith, enough))
  spans_more zero (suc long) at enough tile = last_at at long tile
  spans_more (suc fuel) (suc long) at enough tile = elim (below at tile) [
    | inl lt ↦
        ap (λ b. cond b (span_at other at ∷ spans_from other (tail + size) (at + size_of (head_len (other at))) long) []) (lt-ltb at (tail + size) (omega (arith, lt)))
        ∙ ap (λ w. span_at (λ _. w) at ∷ spans_from other (tail + size) (at + size_of (head_len w)) long) (same at lt)
        ∙ ap (λ xs. span_at word at ∷ xs) (spans_more fuel long (at + size_of (head_len (word at))) (omega (arith, enough))
        (subst (λ b. Tile at (cond b (span_at word at ∷ spans_from word tail (at + size_of (head_len (word at))) fuel) []) tail) (lt-ltb at tail lt) tile).1)
        ∙ ap (λ b. cond b (span_at word at ∷ spans_from word tail (at + size_of (head_len (word at))) fuel) [] ++ span_at other tail ∷ []) (sym (lt-ltb at tail lt))
    | inr e ↦
        last_at at long e
        ∙ ap (λ b. cond b (span_at word at ∷ spans_from word tail (at + size_of (head_len (word at))) fuel) [] ++ span_at other tail ∷ []) (sym (le-ltb at tail (omega (arith, e))))
  ] where
    below : (at : ℕ) → Tile at (spans_from word tail at (suc fuel)) tail → (at < tail) ⊎ (at ≡ tail)
    below at = cond_both (nat_lt at tail) (span_at word at ∷ spans_from word tail (at + size_of (head_len (word at))) fuel) [] (λ (xs : List Span). Tile at xs tail → (at < tail) ⊎ (at ≡ tail))
        (λ h t. inl (ltb-true at tail h)) (λ h t. inr t)

-- ---- what is true of a state that bytes are counted in: spans fill the logs, each near cell has its own, and a free log has none
pub record Sound (s : State) : Type 0 where
  pub tile : (l : ℕ) → Tile 0 (spans_of s l) (s.tail l)
  pub placed : (p len ds : ℕ) (place : Place) (marks : Marks) → read_of (s.cell p) ≡ Some (Near len ds place marks) → Contains (spans_of s place.log) (span_for p len ds place.at)
  pub inside : (p len ds : ℕ) (place : Place) (marks : Marks) → read_of (s.cell p) ≡ Some (Near len ds place marks) → place.log < s.logs
  pub bare : (l : ℕ) → s.kind l ≡ kinds.Free → s.tail l ≡ 0
  pub short : (l : ℕ) → s.tail l ≤ LOG_WORDS
  pub pointer : (p len ds : ℕ) (place : Place) (marks : Marks) → read_of (s.cell p) ≡ Some (Near len ds place marks) → p < POINTERS

-- live and dead bytes make what is used
pub all_used : (s : State) → Sound s → (l : ℕ) → live_bytes s l + dead_bytes s l ≡ 8 * s.tail l
all_used s sound l = spans_take (is_live s l) (spans_of s l) (s.tail l) (sound.tile l)

-- ---- one cell names something else
abbrev named : (ℕ → ℕ) → ℕ → Span → Bool
named cell l x = names_place (read_of (cell x.p)) l x.at

module _ (cell : ℕ → ℕ) (p new len ds : ℕ) (from : Place) (marks : Marks) (near : read_of (cell p) ≡ Some (Near len ds from marks)) where
  missed : (l at : ℕ) → (l ≢ from.log) ⊎ (at ≢ from.at) → names_place (Some (Near len ds from marks)) l at ≡ false
  missed l at (inl ne) = ap (λ b. b && nat_eq from.at at) (ne_eqb from.log l (λ e. ne (sym e)))
  missed l at (inr ne) = ap (λ b. nat_eq from.log l && b) (ne_eqb from.at at (λ e. ne (sym e))) ∙ and_none (nat_eq from.log l) where
    and_none : (b : Bool) → (b && false) ≡ false
    and_none true = refl
    and_none false = refl

  unlike : (l : ℕ) (x : Span) → names_place (read_of new) l x.at ≡ false → (l ≢ from.log) ⊎ (x.at ≢ from.at) → named (put cell p new) l x ≡ named cell l x
  unlike l x none other = put_both (λ c. names_place (read_of c) l x.at ≡ names_place (read_of (cell x.p)) l x.at) cell p new x.p
      (λ e. none ∙ sym (ap (λ q. names_place (read_of (cell q)) l x.at) e ∙ ap (λ o. names_place o l x.at) near ∙ missed l x.at other)) (λ _. refl)

  -- the object's span is live no more
  pub falls : (l : ℕ) (xs : List Span) (tail : ℕ) → Tile 0 xs tail → (l ≡ from.log → Contains xs (span_for p len ds from.at)) → ((x : Span) → Contains xs x → names_place (read_of new) l x.at ≡ false) →
      taken_by (named (put cell p new) l) xs + bytes_at l (read_of (cell p)) ≡ taken_by (named cell l) xs
  falls l xs tail tile has none = elim (cases_eq l from.log) [
    | inl e ↦
        let live : named cell l (span_for p len ds from.at) ≡ true = rw (near, eq-eqb from.log l (sym e), eq-eqb from.at from.at refl) refl in
        let dead : named (put cell p new) l (span_for p len ds from.at) ≡ false = ap (λ w. names_place (read_of w) l from.at) (put_same cell p new p refl) ∙ none (span_for p len ds from.at) (has e) in
        let mine : bytes_at l (read_of (cell p)) ≡ bytes_taken len = rw (near, eq-eqb from.log l (sym e)) refl in
        ap (λ n. taken_by (named (put cell p new) l) xs + n) mine
        ∙ taken_without (named cell l) (named (put cell p new) l) xs 0 tail (span_for p len ds from.at) tile (has e) live dead (λ x h ne. unlike l x (none x h) (inr ne))
    | inr ne ↦
        let mine : bytes_at l (read_of (cell p)) ≡ 0 = rw (near, ne_eqb from.log l (λ e. ne (sym e))) refl in
        let rest : taken_by (named (put cell p new) l) xs ≡ taken_by (named cell l) xs = taken_same (named (put cell p new) l) (named cell l) xs (λ x h. unlike l x (none x h) (inl ne)) in
        omega (arith, mine, rest)
  ]

-- ---- what dealing with one object does
pub record Dealt (s t : State) (p : ℕ) : Type 0 where
  pub sound : Sound t
  pub live : (l : ℕ) → live_bytes t l + bytes_at l (read_of (s.cell p)) ≡ live_bytes s l + bytes_at l (read_of (t.cell p))
  pub tail : (l : ℕ) → 8 * t.tail l ≡ 8 * s.tail l + bytes_at l (read_of (t.cell p))
  pub sealed : (l : ℕ) → s.kind l ≡ kinds.Sealed → (t.kind l ≡ kinds.Sealed) × (t.tail l ≡ s.tail l)
  pub used : (l : ℕ) → s.kind l ≢ kinds.Free → t.kind l ≢ kinds.Free
  pub opened : (l : ℕ) → s.kind l ≡ kinds.Free → t.kind l ≢ kinds.Free → 0 < t.tail l
  pub logs : t.logs ≡ s.logs
  pub size : is_near (read_of (t.cell p)) ≡ true → bytes_near (read_of (t.cell p)) ≡ bytes_near (read_of (s.cell p))

no_near : (o : Option PtrWord) → ((n d : ℕ) (place : Place) (m : Marks) → o ≡ Some (Near n d place m) → ⊥) → is_near o ≡ false
no_near (Some (Near len ds place marks)) away = absurd (away len ds place marks refl)
no_near _ away = refl

-- it is near no more, and all else of the logs stays
module _ (s t : State) (sound : Sound s) (p new len ds : ℕ) (from : Place) (marks : Marks) (near : read_of (s.cell p) ≡ Some (Near len ds from marks))
    (away : (n d : ℕ) (place : Place) (m : Marks) → read_of new ≡ Some (Near n d place m) → ⊥) (nowhere : (l at : ℕ) → names_place (read_of new) l at ≡ false) (nothing : (l : ℕ) → bytes_at l (read_of new) ≡ 0)
    (cell : t.cell ≡ put s.cell p new) (spans : (l : ℕ) → spans_of t l ≡ spans_of s l) (tail : t.tail ≡ s.tail) (kind : t.kind ≡ s.kind) (logs : t.logs ≡ s.logs) where
  still_near : (q n d : ℕ) (place : Place) (m : Marks) → read_of (t.cell q) ≡ Some (Near n d place m) → read_of (s.cell q) ≡ Some (Near n d place m)
  still_near q n d place m there =
      put_both (λ w. read_of w ≡ Some (Near n d place m) → read_of (s.cell q) ≡ Some (Near n d place m)) s.cell p new q (λ _ e. absurd (away n d place m e)) (λ _ e. e) (ap (λ f. read_of (f q)) (sym cell) ∙ there)

  leaves_sound : Sound t
  leaves_sound = record {
    tile = λ l. subst (λ k. Tile 0 (spans_of t l) k) (ap (λ f. f l) (sym tail)) (subst (λ xs. Tile 0 xs (s.tail l)) (sym (spans l)) (sound.tile l));
    placed = λ q n d place m there. subst (λ (xs : List Span). Contains xs (span_for q n d place.at)) (sym (spans place.log)) (sound.placed q n d place m (still_near q n d place m there));
    inside = λ q n d place m there. subst (λ n. place.log < n) (sym logs) (sound.inside q n d place m (still_near q n d place m there));
    bare = λ l free. ap (λ f. f l) tail ∙ sound.bare l (ap (λ f. f l) (sym kind) ∙ free);
    short = λ l. subst (λ (f : ℕ → ℕ). f l ≤ LOG_WORDS) (sym tail) (sound.short l);
    pointer = λ q n d place m there. sound.pointer q n d place m (still_near q n d place m there);
  }

  here_none : (l : ℕ) → bytes_at l (read_of (t.cell p)) ≡ 0
  here_none l = ap (λ f. bytes_at l (read_of (f p))) cell ∙ ap (λ w. bytes_at l (read_of w)) (put_same s.cell p new p refl) ∙ nothing l

  live_left : (l : ℕ) → live_bytes t l + bytes_at l (read_of (s.cell p)) ≡ live_bytes s l
  live_left l =
      ap (λ xs. taken_by (named t.cell l) xs + bytes_at l (read_of (s.cell p))) (spans l)
      ∙ ap (λ f. taken_by (named f l) (spans_of s l) + bytes_at l (read_of (s.cell p))) cell
      ∙ falls s.cell p new len ds from marks near l (spans_of s l) (s.tail l) (sound.tile l) (λ e. subst (λ k. Contains (spans_of s k) (span_for p len ds from.at)) (sym e) (sound.placed p len ds from marks near)) (λ x h. nowhere l x.at)

  pub leaves : Dealt s t p
  leaves = record {
    sound = leaves_sound;
    live = λ l. (let a = live_left l in let b = here_none l in omega (arith, a, b));
    tail = λ l. (let a = here_none l in let b : t.tail l ≡ s.tail l = ap (λ f. f l) tail in omega (arith, a, b));
    sealed = λ l shut. (ap (λ f. f l) kind ∙ shut, ap (λ f. f l) tail);
    used = λ l some free. some (ap (λ f. f l) (sym kind) ∙ free);
    opened = λ l free some. absurd (some (ap (λ f. f l) kind ∙ free));
    logs = logs;
    size = λ is. absurd (false≢true (sym (ap (λ f. is_near (read_of (f p))) cell ∙ ap (λ w. is_near (read_of w)) (put_same s.cell p new p refl) ∙ no_near (read_of new) away) ∙ is));
  }

-- it is near in another log, behind the last span there
module _ (s t : State) (sound : Sound s) (p new len ds : ℕ) (from to : Place) (marks others : Marks) (near : read_of (s.cell p) ≡ Some (Near len ds from marks)) (says : read_of new ≡ Some (Near len ds to others))
    (at_end : to.at ≡ s.tail to.log) (fits : to.at + size_of len ≤ LOG_WORDS) (log : to.log < s.logs) (unsealed : s.kind to.log ≢ kinds.Sealed)
    (cell : t.cell ≡ put s.cell p new) (tail : t.tail ≡ put s.tail to.log (to.at + size_of len)) (kind : t.kind ≡ put (put s.kind s.current kinds.Sealed) to.log kinds.Open) (opens : s.kind s.current ≡ kinds.Open) (logs : t.logs ≡ s.logs)
    (there : spans_of t to.log ≡ spans_of s to.log ++ span_for p len ds to.at ∷ []) (spans : (l : ℕ) → l ≢ to.log → spans_of t l ≡ spans_of s l) where
  mine : read_of (t.cell p) ≡ Some (Near len ds to others)
  mine = ap (λ f. read_of (f p)) cell ∙ ap read_of (put_same s.cell p new p refl) ∙ says

  kept_all : (l : ℕ) (x : Span) → Contains (spans_of s l) x → Contains (spans_of t l) x
  kept_all l x h = elim (cases_eq l to.log) [
    | inl e ↦ subst (λ k. Contains (spans_of t k) x) (sym e) (subst (λ (xs : List Span). Contains xs x) (sym there) (kept_in (spans_of s to.log) x (span_for p len ds to.at) (subst (λ k. Contains (spans_of s k) x) e h)))
    | inr ne ↦ subst (λ (xs : List Span). Contains xs x) (sym (spans l ne)) h
  ]

  tail_here : t.tail to.log ≡ s.tail to.log + size_of len
  tail_here = ap (λ f. f to.log) tail ∙ put_same s.tail to.log (to.at + size_of len) to.log refl ∙ ap (λ k. k + size_of len) at_end

  tail_there : (l : ℕ) → l ≢ to.log → t.tail l ≡ s.tail l
  tail_there l ne = ap (λ f. f l) tail ∙ put_other s.tail to.log (to.at + size_of len) l ne

  same_place : (n d : ℕ) (place : Place) (m : Marks) → read_of (t.cell p) ≡ Some (Near n d place m) → (to ≡ place) × (len ≡ n) × (ds ≡ d)
  same_place n d place m h = let e : Some (Near len ds to others) ≡ Some (Near n d place m) = sym mine ∙ h in (cc, cc, cc)

  other_near : (q : ℕ) → q ≢ p → (n d : ℕ) (place : Place) (m : Marks) → read_of (t.cell q) ≡ Some (Near n d place m) → read_of (s.cell q) ≡ Some (Near n d place m)
  other_near q ne n d place m h = sym (ap (λ f. read_of (f q)) cell ∙ ap read_of (put_other s.cell p new q ne)) ∙ h

  tile_then : (l : ℕ) → Tile 0 (spans_of t l) (t.tail l)
  tile_then l = elim (cases_eq l to.log) [
    | inl e ↦ subst (λ k. Tile 0 (spans_of t k) (t.tail k)) (sym e) (subst (λ xs. Tile 0 xs (t.tail to.log)) (sym there) (subst (λ k. Tile 0 (spans_of s to.log ++ span_for p len ds to.at ∷ []) k) (sym tail_here)
        (tile_more (spans_of s to.log) 0 (s.tail to.log) (span_for p len ds to.at) (sound.tile to.log) at_end)))
    | inr ne ↦ subst (λ k. Tile 0 (spans_of t l) k) (sym (tail_there l ne)) (subst (λ xs. Tile 0 xs (s.tail l)) (sym (spans l ne)) (sound.tile l))
  ]

  placed_mine : (n d : ℕ) (place : Place) (m : Marks) → read_of (t.cell p) ≡ Some (Near n d place m) → Contains (spans_of t place.log) (span_for p n d place.at)
  placed_mine n d place m h =
      let e = same_place n d place m h in
      subst (λ x. Contains (spans_of t place.log) (span_for p n x place.at)) e.2 (subst (λ x. Contains (spans_of t place.log) (span_for p x ds place.at)) e.1
      (subst (λ (x : Place). Contains (spans_of t x.log) (span_for p len ds x.at)) e.0
      (subst (λ (xs : List Span). Contains xs (span_for p len ds to.at)) (sym there) (last_in (spans_of s to.log) (span_for p len ds to.at)))))

  kind_here : t.kind to.log ≡ kinds.Open
  kind_here = ap (λ f. f to.log) kind ∙ put_same (put s.kind s.current kinds.Sealed) to.log kinds.Open to.log refl

  kind_there : (l : ℕ) → l ≢ to.log → l ≢ s.current → t.kind l ≡ s.kind l
  kind_there l ne other = ap (λ f. f l) kind ∙ put_other (put s.kind s.current kinds.Sealed) to.log kinds.Open l ne ∙ put_other s.kind s.current kinds.Sealed l other

  kind_shut : (l : ℕ) → l ≢ to.log → l ≡ s.current → t.kind l ≡ kinds.Sealed
  kind_shut l ne e = ap (λ f. f l) kind ∙ put_other (put s.kind s.current kinds.Sealed) to.log kinds.Open l ne ∙ put_same s.kind s.current kinds.Sealed l e

  -- a log that is free then was, and is another
  free_before : (l : ℕ) → t.kind l ≡ kinds.Free → (l ≢ to.log) × (s.kind l ≡ kinds.Free)
  free_before l free = elim (cases_eq l to.log) [
    | inl e ↦ (let odd : kinds.Open ≡ kinds.Free = sym kind_here ∙ ap t.kind (sym e) ∙ free in absurd cc)
    | inr ne ↦ (
      ne,
      elim (cases_eq l s.current) [
        | inl e ↦ (let odd : kinds.Sealed ≡ kinds.Free = sym (kind_shut l ne e) ∙ free in absurd cc)
        | inr other ↦ sym (kind_there l ne other) ∙ free
      ],
    )
  ]

  comes_sound : Sound t
  comes_sound = record {
    tile = tile_then;
    placed = λ q n d place m h. elim (cases_eq q p) [
      | inl e ↦ subst (λ x. Contains (spans_of t place.log) (span_for x n d place.at)) (sym e) (placed_mine n d place m (ap (λ x. read_of (t.cell x)) (sym e) ∙ h))
      | inr ne ↦ kept_all place.log (span_for q n d place.at) (sound.placed q n d place m (other_near q ne n d place m h))
    ];
    inside = λ q n d place m h. subst (λ n. place.log < n) (sym logs) (elim (cases_eq q p) [
      | inl e ↦ subst (λ (x : Place). x.log < s.logs) (same_place n d place m (ap (λ x. read_of (t.cell x)) (sym e) ∙ h)).0 log
      | inr ne ↦ sound.inside q n d place m (other_near q ne n d place m h)
    ]);
    bare = λ l free. (let h = free_before l free in tail_there l h.0 ∙ sound.bare l h.1);
    short = λ l. subst (λ (f : ℕ → ℕ). f l ≤ LOG_WORDS) (sym tail) (put_both (λ n. n ≤ LOG_WORDS) s.tail to.log (to.at + size_of len) l (λ _. fits) (λ _. sound.short l));
    pointer = λ q n d place m h. elim (cases_eq q p) [
      | inl e ↦ subst (λ x. x < POINTERS) (sym e) (sound.pointer p len ds from marks near)
      | inr ne ↦ sound.pointer q n d place m (other_near q ne n d place m h)
    ];
  }

  -- no span that was there begins where it goes
  clear_of : (l : ℕ) (x : Span) → Contains (spans_of s l) x → names_place (read_of new) l x.at ≡ false
  clear_of l x h = ap (λ o. names_place o l x.at) says ∙ missed (λ _. new) p new len ds to others says l x.at (elim (cases_eq l to.log) [
    | inl e ↦ inr (λ same. (let b = (tile_bounds (spans_of s l) 0 (s.tail l) x (sound.tile l) h).1 in let c : s.tail l ≡ s.tail to.log = ap s.tail e in omega (arith, b, c, same, at_end)))
    | inr ne ↦ inl ne
  ])

  live_old : (l : ℕ) → taken_by (named t.cell l) (spans_of s l) + bytes_at l (read_of (s.cell p)) ≡ live_bytes s l
  live_old l = ap (λ f. taken_by (named f l) (spans_of s l) + bytes_at l (read_of (s.cell p))) cell
      ∙ falls s.cell p new len ds from marks near l (spans_of s l) (s.tail l) (sound.tile l) (λ e. subst (λ k. Contains (spans_of s k) (span_for p len ds from.at)) (sym e) (sound.placed p len ds from marks near)) (clear_of l)

  mine_here : (l : ℕ) → l ≡ to.log → bytes_at l (read_of (t.cell p)) ≡ bytes_taken len
  mine_here l e = ap (bytes_at l) mine ∙ ap (λ b. cond b (bytes_taken len) 0) (eq-eqb to.log l (sym e))

  mine_there : (l : ℕ) → l ≢ to.log → bytes_at l (read_of (t.cell p)) ≡ 0
  mine_there l ne = ap (bytes_at l) mine ∙ ap (λ b. cond b (bytes_taken len) 0) (ne_eqb to.log l (λ e. ne (sym e)))

  new_live : named t.cell to.log (span_for p len ds to.at) ≡ true
  new_live = ap (λ o. names_place o to.log to.at) mine ∙ rw (eq-eqb to.log to.log refl, eq-eqb to.at to.at refl) refl

  live_new : live_bytes t to.log ≡ taken_by (named t.cell to.log) (spans_of s to.log) + bytes_taken len
  live_new = ap (taken_by (named t.cell to.log)) there ∙ taken_more (named t.cell to.log) (spans_of s to.log) (span_for p len ds to.at) ∙ ap (λ b. taken_by (named t.cell to.log) (spans_of s to.log) + cond b (bytes_taken len) 0) new_live

  live_then : (l : ℕ) → live_bytes t l + bytes_at l (read_of (s.cell p)) ≡ live_bytes s l + bytes_at l (read_of (t.cell p))
  live_then l = elim (cases_eq l to.log) [
    | inl e ↦
        let a = live_old l in
        let b : live_bytes t l ≡ taken_by (named t.cell l) (spans_of s l) + bytes_taken len = subst (λ k. live_bytes t k ≡ taken_by (named t.cell k) (spans_of s k) + bytes_taken len) (sym e) live_new in
        let c = mine_here l e in omega (arith, a, b, c)
    | inr ne ↦
        let a = live_old l in
        let b : live_bytes t l ≡ taken_by (named t.cell l) (spans_of s l) = ap (taken_by (named t.cell l)) (spans l ne) in
        let c = mine_there l ne in omega (arith, a, b, c)
  ]

  tails : (l : ℕ) → 8 * t.tail l ≡ 8 * s.tail l + bytes_at l (read_of (t.cell p))
  tails l = elim (cases_eq l to.log) [
    | inl e ↦ (let a = mine_here l e in let b : t.tail l ≡ s.tail l + size_of len = subst (λ k. t.tail k ≡ s.tail k + size_of len) (sym e) tail_here in omega (arith, a, b))
    | inr ne ↦ (let a = mine_there l ne in let b = tail_there l ne in omega (arith, a, b))
  ]

  pub comes : Dealt s t p
  comes = record {
    sound = comes_sound;
    live = live_then;
    tail = tails;
    sealed = λ l shut.
        let ne : l ≢ to.log = λ e. unsealed (ap s.kind (sym e) ∙ shut) in
        let other : l ≢ s.current = λ e. (let odd : kinds.Open ≡ kinds.Sealed = sym opens ∙ ap s.kind (sym e) ∙ shut in cc) in
        (kind_there l ne other ∙ shut, tail_there l ne);
    used = λ l some free. some (free_before l free).1;
    opened = λ l free some. elim (cases_eq l to.log) [
      | inl e ↦ subst (λ k. 0 < t.tail k) (sym e) (omega (arith, tail_here))
      | inr ne ↦ absurd (elim (cases_eq l s.current) [
        | inl e ↦ (let odd : kinds.Open ≡ kinds.Free = sym opens ∙ ap s.kind (sym e) ∙ free in absurd cc)
        | inr other ↦ some (kind_there l ne other ∙ free)
      ])
    ];
    logs = logs;
    size = λ _. ap bytes_near mine ∙ sym (ap bytes_near near);
  }
