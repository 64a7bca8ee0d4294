-- The live spans of a log, one after the other: what lies at a boundary, and behind it.
use Rattle.std.proofs.Common.{◌≡◌, ℕ, ◌+◌, ◌*◌, ◌/◌, ◌%◌, ◌<◌, ◌≤◌, Bool, true, false, cond, nat_le, arith, refl, sym, ap, subst, ◌∙◌, Some, List, [], ◌∷◌, ◌++◌, inl, inr}
use Rattle.std.specs.Prelude.{◌&&◌, ◌⊎◌, Contains, IsSome, is_some}
use Rattle.std.specs.List.{filter}
use Rattle.std.proofs.lemmas.Bool.{cases_lt, false_from_ne_true}
use Rattle.std.proofs.lemmas.Bool.Decides.{nat_tests}
use Rattle.std.proofs.lemmas.List.Elements.{All-contains, filter-append}
use Rattle.far_word.specs.declared.header.HeadWord.{HeadWord}
use Rattle.far_word.specs.declared.pointer.PtrWord.TheVariants.{Near}
use Rattle.far_word.specs.declared.sizes.TheConstants.{CELLS, LOG_WORDS}
use Rattle.far_word.specs.Header.{head_of}
use Rattle.far_word.specs.Pointer.{read_of}
use Rattle.far_word.specs.Sizes.{size_of}
use Rattle.far_log.specs.declared.span.Span.{Span}
use Rattle.far_log.specs.Spans.{Stands, Tile, head_len, header_of, span_at, pointer_in, ds_in}
use Rattle.far_log.proofs.Members.{here, there, split, none_in}
use Rattle.far_log.proofs.SpanLaws.{tile_bounds, reads_as}
use Rattle.far_core.specs.laws.Observed.{live_bytes, span_for}
use Rattle.far_events.specs.state.Law.{Law}
use Rattle.far_events.specs.state.Spans.{IsOfHeap, names_place, spans_of, is_live, word_in}
use Rattle.far_events.specs.state.State.{State, put}
use Rattle.far_events.proofs.Cells.{live_names as names_live}
use Rattle.far_core.proofs.Observations.{found, listed, walks, of_heap, one_live, live_names}
use Rattle.far_events.proofs.Put.{put_both}
use Rattle.far_hand.specs.Finds.{Finds}
use Rattle.far_book.specs.book.NextLive.{IsBoundary, IsHomeOf, IsNamedBetween, live_from, LivesBehind, LivesFromStart, SpansAreBounded}
use Rattle.far_book.specs.book.Own.{own_part}
use Rattle.far_hand.proofs.Finding.{finds_more, near_found, some_found}
use Rattle.far_book.proofs.region.Founds.{names_found}
use Rattle.far_book.proofs.region.Owns.{own_header, own_spans}
use Rattle.far_book.proofs.region.Releasing.{vacant_fact}

-- ---- lists of spans that follow each other, by a test
-- two tests that say the same of each member leave the same of a list
filter_same : (f g : Span → Bool) (xs : List Span) → ((x : Span) → Contains xs x → f x ≡ g x) → filter f xs ≡ filter g xs
filter_same f g [] same = refl
filter_same f g (x ∷ xs) same =
    let first = same x (here x xs) in
    let rest : filter f xs ≡ filter g xs = filter_same f g xs (λ y h. same y (there y x xs h)) in
    λ i. cond (first i) (x ∷ rest i) (rest i)

filter_none : (f : Span → Bool) (xs : List Span) → ((x : Span) → Contains xs x → f x ≡ false) → filter f xs ≡ []
filter_none f [] none = refl
filter_none f (x ∷ xs) none =
    let first = none x (here x xs) in
    let rest : filter f xs ≡ [] = filter_none f xs (λ y h. none y (there y x xs h)) in
    λ i. cond (first i) (x ∷ rest i) (rest i)

at_or_behind : (b : Bool) (m n : ℕ) → m ≤ n → (b && nat_le m n) ≡ b
at_or_behind true m n le = grind (arith, nat_tests)
at_or_behind false m n le = refl

before : (b : Bool) (m n : ℕ) → n < m → (b && nat_le m n) ≡ false
before true m n lt = grind (arith, nat_tests)
before false m n lt = refl

module _ (f : Span → Bool) where
  abbrev from : ℕ → List Span → List Span
  from at xs = filter (λ (x : Span). f x && nat_le at x.at) xs

  all_behind : (xs : List Span) (at first tail : ℕ) → Tile first xs tail → at ≤ first → from at xs ≡ filter f xs
  all_behind xs at first tail tile le = filter_same (λ x. f x && nat_le at x.at) f xs (λ x h. at_or_behind (f x) at x.at (omega (arith, (tile_bounds xs first tail x tile h).0)))

  none_behind : (xs : List Span) (first at : ℕ) → Tile first xs at → from at xs ≡ []
  none_behind xs first at tile = filter_none (λ x. f x && nat_le at x.at) xs (λ x h. before (f x) at x.at (omega (arith, (tile_bounds xs first at x tile h).1)))

  -- from where a span begins on there is that span, if it passes the test, and what is from its end on
  span_first : (xs : List Span) (first tail : ℕ) (x : Span) → Tile first xs tail → Contains xs x →
      from x.at xs ≡ cond (f x) (x ∷ from (x.at + size_of x.len) xs) (from (x.at + size_of x.len) xs)
  span_first [] first tail x tile h = absurd (none_in x h)
  span_first (y ∷ ys) first tail x tile h = elim (split x y ys h) [
    | inl e ↦ subst (λ (z : Span). from z.at (y ∷ ys) ≡ cond (f z) (z ∷ from (z.at + size_of z.len) (y ∷ ys)) (from (z.at + size_of z.len) (y ∷ ys))) e itself
    | inr more ↦ later more (span_first ys (first + size_of y.len) tail x tile.1 more)
  ] where
    next : ℕ
    next = first + size_of y.len

    begins : y.at ≡ first
    begins = tile.0

    itself : from y.at (y ∷ ys) ≡ cond (f y) (y ∷ from (y.at + size_of y.len) (y ∷ ys)) (from (y.at + size_of y.len) (y ∷ ys))
    itself =
        let yes = at_or_behind (f y) y.at y.at (omega arith) in
        let no = before (f y) (y.at + size_of y.len) y.at (omega arith) in
        let low : from y.at ys ≡ filter f ys = all_behind ys y.at next tail tile.1 (omega (arith, begins)) in
        let high : from (y.at + size_of y.len) ys ≡ filter f ys = all_behind ys (y.at + size_of y.len) next tail tile.1 (omega (arith, begins)) in
        let rest : from (y.at + size_of y.len) (y ∷ ys) ≡ filter f ys = (λ i. cond (no i) (y ∷ high i) (high i)) in
        (λ i. cond (yes i) (y ∷ low i) (low i)) ∙ sym (λ i. cond (f y) (y ∷ rest i) (rest i))

    later : Contains ys x → from x.at ys ≡ cond (f x) (x ∷ from (x.at + size_of x.len) ys) (from (x.at + size_of x.len) ys) →
        from x.at (y ∷ ys) ≡ cond (f x) (x ∷ from (x.at + size_of x.len) (y ∷ ys)) (from (x.at + size_of x.len) (y ∷ ys))
    later more behind =
        let low = (tile_bounds ys next tail x tile.1 more).0 in
        let no = before (f y) x.at y.at (omega (arith, begins, low)) in
        let never = before (f y) (x.at + size_of x.len) y.at (omega (arith, begins, low)) in
        let rest : from (x.at + size_of x.len) (y ∷ ys) ≡ from (x.at + size_of x.len) ys = (λ i. cond (never i) (y ∷ from (x.at + size_of x.len) ys) (from (x.at + size_of x.len) ys)) in
        (λ i. cond (no i) (y ∷ from x.at ys) (from x.at ys)) ∙ behind ∙ sym (λ i. cond (f x) (x ∷ rest i) (rest i))

-- ---- a boundary parts a list
abbrev Parts : List Span → ℕ → ℕ → ℕ → Type 0
Parts xs first at tail = (front behind : List Span) × (xs ≡ front ++ behind) × Tile first front at × Tile at behind tail

parts_end : (xs : List Span) (first tail : ℕ) → Tile first xs tail → Parts xs first tail tail
parts_end [] first tail tile = ([], [], refl, tile, refl)
parts_end (x ∷ xs) first tail tile =
    let r = parts_end xs (first + size_of x.len) tail tile.1 in
    (x ∷ r.0, r.1, ap (λ ys. x ∷ ys) r.2, (tile.0, r.3), r.4)

parts_at : (xs : List Span) (first tail : ℕ) (x : Span) → Tile first xs tail → Contains xs x → Parts xs first x.at tail
parts_at [] first tail x tile h = absurd (none_in x h)
parts_at (y ∷ ys) first tail x tile h = elim (split x y ys h) [
  | inl e ↦ subst (λ (z : Span). Parts (y ∷ ys) first z.at tail) e ([], y ∷ ys, refl, sym tile.0, (refl, subst (λ n. Tile (n + size_of y.len) ys tail) (sym tile.0) tile.1))
  | inr more ↦ (let r = parts_at ys (first + size_of y.len) tail x tile.1 more in
      (y ∷ r.0, r.1, ap (λ zs. y ∷ zs) r.2, (tile.0, r.3), r.4))
]

-- where the live spans of a log take no bytes, none is live
pub none_lives : (s : State) → Law (own_part s) → (l : ℕ) → live_bytes (own_part s) l ≡ 0 → (at : ℕ) → live_from s l at ≡ []
none_lives s law l none at =
    let vacant = vacant_fact (own_part s) law l none in
    filter_none (λ x. is_live s l x && nat_le at x.at) (spans_of s l) (λ x h. ap (λ b. b && nat_le at x.at) (false_from_ne_true _ (λ live.
    let n = names_live (read_of (s.cell x.p)) l x.at live in vacant x.p n.0 n.1 n.2 n.3 n.4 n.5)))

-- the span of a header at a place
abbrev pub span_of : ℕ → HeadWord → Span
span_of at head = record { at = at; p = head.pointer; len = head.len; ds = head.ds }

module _ (s : State) (law : Law (own_part s)) (l : ℕ) where
  tiled : Tile 0 (spans_of s l) (s.tail l)
  tiled = subst (λ xs. Tile 0 xs (s.tail l)) (sym (own_spans s law l)) (walks (own_part s) law l).tile

  pub none_from_tail : live_from s l (s.tail l) ≡ []
  none_from_tail = none_behind (is_live s l) (spans_of s l) 0 (s.tail l) tiled

  module _ (at : ℕ) (below : at < s.tail l) (begins : s.starts (l * LOG_WORDS + at) ≡ true) where
    abbrev x : Span
    x = span_at (word_in s l) at

    own_is : span_at (word_in (own_part s) l) at ≡ x
    own_is = λ i. let w = own_header s (l * LOG_WORDS + at) begins i in record { at = at; p = pointer_in (head_of w); len = head_len w; ds = ds_in (head_of w) }

    own_member : Contains (spans_of (own_part s) l) x
    own_member = subst (Contains (spans_of (own_part s) l)) own_is (listed (own_part s) law l at below begins)

    pub member : Contains (spans_of s l) x
    member = subst (λ xs. Contains xs x) (sym (own_spans s law l)) own_member

    fits : at + size_of x.len ≤ s.tail l
    fits = (tile_bounds (spans_of s l) 0 (s.tail l) x tiled member).1

    pub short : at + size_of x.len ≤ LOG_WORDS
    short = omega (arith, fits, law.logs.tail_end l)

    pub step : live_from s l at ≡ cond (is_live s l x) (x ∷ live_from s l (at + size_of x.len)) (live_from s l (at + size_of x.len))
    step = span_first (is_live s l) (spans_of s l) 0 (s.tail l) x tiled member

    pub says : head_of (s.word (l * LOG_WORDS + at)) ≡ Some (header_of x)
    says =
        let stands : Stands (word_in (own_part s) l) x = All-contains (Stands (word_in (own_part s) l)) (spans_of (own_part s) l) x (walks (own_part s) law l).stand own_member in
        ap head_of (sym (own_header s (l * LOG_WORDS + at) begins)) ∙ reads_as (word_in (own_part s) l) x stands.header

    pub of_pointer : x.p < CELLS * s.mutators
    of_pointer = All-contains (IsOfHeap (own_part s)) (spans_of (own_part s) l) x (of_heap (own_part s) law l) own_member

    pub next_boundary : IsBoundary s l (at + size_of x.len)
    next_boundary = elim (cases_lt (at + size_of x.len) (s.tail l)) [
      | inl inside ↦ inr (inside, starts_there inside)
      | inr end ↦ inl (omega (arith, fits))
    ] where
      a : ℕ
      a = l * LOG_WORDS + at

      starts_there : at + size_of x.len < s.tail l → s.starts (l * LOG_WORDS + (at + size_of x.len)) ≡ true
      starts_there inside =
          let log : a / LOG_WORDS ≡ l = omega (arith, below, law.logs.tail_end l) in
          let word : a % LOG_WORDS ≡ at = omega (arith, below, law.logs.tail_end l) in
          let tail : s.tail (a / LOG_WORDS) ≡ s.tail l = ap s.tail log in
          let long : head_len ((own_part s).word a) ≡ x.len = ap head_len (own_header s a begins) in
          let there : a + size_of (head_len ((own_part s).word a)) ≡ l * LOG_WORDS + (at + size_of x.len) = omega (arith, long) in
          sym (ap s.starts there) ∙ (law.spans.span a begins).next (omega (arith, inside, word, tail, long))

    -- what a header that was read says
    pub record Reads (head : HeadWord) : Type 0 where
      pub is : span_of at head ≡ x
      pub pointer : head.pointer < CELLS * s.mutators
      pub short : at + size_of head.len ≤ LOG_WORDS
      pub next : IsBoundary s l (at + size_of head.len)

    pub reads : (w : ℕ) (head : HeadWord) → w ≡ s.word (l * LOG_WORDS + at) → head_of w ≡ Some head → Reads head
    reads w head same found =
        let read : Some head ≡ Some (header_of x) = sym found ∙ ap head_of same ∙ says in
        let is : head ≡ header_of x = cc in
        record {
          is = ap (span_of at) is;
          pointer = subst (λ (h : HeadWord). h.pointer < CELLS * s.mutators) (sym is) of_pointer;
          short = subst (λ (h : HeadWord). at + size_of h.len ≤ LOG_WORDS) (sym is) short;
          next = subst (λ (h : HeadWord). IsBoundary s l (at + size_of h.len)) (sym is) next_boundary;
        }

    pub some_header : (w : ℕ) → w ≡ s.word (l * LOG_WORDS + at) → IsSome (head_of w)
    some_header w same = ap is_some (ap head_of same ∙ says)

    -- a live span is named by its cell, as the header says
    pub is_home : is_live s l x ≡ true → IsHomeOf s l x
    is_home live =
        let n = live_names (read_of (s.cell x.p)) l at live in
        let same : x ≡ span_for x.p n.0 n.1 n.2.at = ((one_live (own_part s) law x.p n.0 n.1 n.2 n.3 n.4).only l x own_member live refl).1 in
        record {
          pointer = of_pointer;
          marks = n.3;
          near = n.4 ∙ (λ i. Some (Near (ap (λ (y : Span). y.len) (sym same) i) (ap (λ (y : Span). y.ds) (sym same) i) (record { log = n.5 i; at = n.6 i }) n.3));
        }

-- what a cell is found to say
pub home_found : (s t : State) (l : ℕ) (x : Span) → IsHomeOf s l x → t.mutators ≡ s.mutators → Finds (s.cell x.p) (t.cell x.p) → IsHomeOf t l x
home_found s t l x h same finds =
    let near = near_found (s.cell x.p) (t.cell x.p) finds x.len x.ds (record { log = l; at = x.at }) h.marks h.near in
    record { pointer = subst (λ n. x.p < CELLS * n) (sym same) h.pointer; marks = near.marks; near = near.near }

-- ---- one step: the span at a boundary is read, and its cell is seen
pub begun : (s : State) (l at : ℕ) → IsBoundary s l at → at < s.tail l → s.starts (l * LOG_WORDS + at) ≡ true
begun s l at (inl e) below = absurd (omega arith)
begun s l at (inr begins) below = begins.1

pub below_tail : (s : State) (l at n : ℕ) → n ≡ s.tail l → at < n → at < s.tail l
below_tail s l at n is lt = omega (arith, is)

pub ended : (s : State) → Law (own_part s) → (l at n : ℕ) → IsBoundary s l at → n ≡ s.tail l → n ≤ at → live_from s l at ≡ []
ended s law l at n (inl e) is past = ap (live_from s l) e ∙ none_from_tail s law l
ended s law l at n (inr begins) is past = absurd (omega (arith, begins.0, is))

-- a span between two words lies between wider ones
pub named_more : (s : State) (l first at end p : ℕ) → at ≤ end → IsNamedBetween s l first at p → IsNamedBetween s l first end p
named_more s l first at end p le named = (named.0, named.1, named.2, named.3, omega (arith, le, named.4))

-- where a search ended without a span
pub none_more : (s t : State) (l first at : ℕ) → IsBoundary s l at → (p : ℕ) → IsNamedBetween s l first at p ⊎ (t.cell p ≡ s.cell p) → IsNamedBetween s l first (s.tail l) p ⊎ (t.cell p ≡ s.cell p)
none_more s t l first at edge p (inl named) = inl (named_more s l first at (s.tail l) p (low edge) named) where
  low : IsBoundary s l at → at ≤ s.tail l
  low (inl e) = omega (arith, e)
  low (inr begins) = omega (arith, begins.0)
none_more s t l first at edge p (inr same) = inr same

-- one cell is found anew, in a state that is s but for cells that were found
module _ (s r u : State) (q w : ℕ) (noted : u ≡ record r { cell = put r.cell q w }) where
  pub found_once : ((p : ℕ) → Finds (s.cell p) (r.cell p)) → Finds (r.cell q) w → (p : ℕ) → Finds (s.cell p) (u.cell p)
  found_once found seen p = subst (Finds (s.cell p)) (ap (λ (v : State). v.cell p) (sym noted)) (put_both (λ (v : ℕ). Finds (s.cell p) v) r.cell q w p
      (λ e. subst (λ n. Finds (s.cell n) w) (sym e) (finds_more (s.cell q) (r.cell q) w (found q) seen))
      (λ _. found p))

  pub kept_once : r ≡ record s { cell = r.cell } → u ≡ record s { cell = u.cell }
  kept_once kept = noted ∙ (λ i. record r { cell = sym (ap (λ (v : State). v.cell) noted) i }) ∙ ap (λ (v : State). record v { cell = u.cell }) kept

-- s is the state at first, t the one at the boundary, r once the header is read, u once the cell was found
pub record Step (s t r u : State) (l at : ℕ) (x : Span) (w : ℕ) : Type 0 where
  pub law : Law (own_part s)
  pub below : at < s.tail l
  pub begins : s.starts (l * LOG_WORDS + at) ≡ true
  pub kept : t ≡ record s { cell = t.cell }
  pub found : (p : ℕ) → Finds (s.cell p) (t.cell p)
  pub same : r ≡ t
  pub is : x ≡ span_at (word_in t l) at
  pub seen : Finds (r.cell x.p) w
  pub noted : u ≡ record r { cell = put r.cell x.p w }

module _ {s t r u : State} {l at : ℕ} {x : Span} {w : ℕ} (h : Step s t r u l at x w) where
  here_is : span_at (word_in s l) at ≡ x
  here_is = sym (h.is ∙ ap (λ (v : State). span_at (word_in v l) at) h.kept)

  finds : Finds (s.cell x.p) w
  finds = finds_more (s.cell x.p) (t.cell x.p) w (h.found x.p) (subst (λ (v : State). Finds (v.cell x.p) w) h.same h.seen)

  pub found_more : (p : ℕ) → Finds (s.cell p) (u.cell p)
  found_more = found_once s r u x.p w h.noted (λ p. subst (λ (v : State). Finds (s.cell p) (v.cell p)) (sym h.same) (h.found p)) h.seen

  -- the cell that was found anew is named by the header here
  pub named_here : (first : ℕ) → first ≤ at → IsNamedBetween s l first (at + size_of x.len) x.p
  named_here first low =
      let in_list : Contains (spans_of s l) x = subst (Contains (spans_of s l)) here_is (member s h.law l at h.below h.begins) in
      let place : x.at ≡ at = ap (λ (y : Span). y.at) h.is in
      (x, in_list, refl, omega (arith, low, place), omega (arith, place))

  pub others_more : (first : ℕ) → first ≤ at → (p : ℕ) → IsNamedBetween s l first at p ⊎ (t.cell p ≡ s.cell p) → IsNamedBetween s l first (at + size_of x.len) p ⊎ (u.cell p ≡ s.cell p)
  others_more first low p (inl named) = inl (named_more s l first at (at + size_of x.len) p (omega arith) named)
  others_more first low p (inr as_before) = subst (λ (v : ℕ). IsNamedBetween s l first (at + size_of x.len) p ⊎ (v ≡ s.cell p)) (ap (λ (v : State). v.cell p) (sym h.noted))
      (put_both (λ (v : ℕ). IsNamedBetween s l first (at + size_of x.len) p ⊎ (v ≡ s.cell p)) r.cell x.p w p
      (λ e. inl (subst (IsNamedBetween s l first (at + size_of x.len)) (sym e) (named_here first low)))
      (λ _. inr (ap (λ (v : State). v.cell p) h.same ∙ as_before)))

  pub kept_more : u ≡ record s { cell = u.cell }
  kept_more = kept_once s r u x.p w h.noted (subst (λ (v : State). v ≡ record s { cell = v.cell }) (sym h.same) h.kept)

  pub here_reads : IsSome (read_of w)
  here_reads = some_found (s.cell x.p) w finds (h.law.cells.cell_read x.p).1

  live_is : is_live s l x ≡ names_place (read_of w) l at
  live_is = sym (names_found (s.cell x.p) w finds l x.at) ∙ ap (λ n. names_place (read_of w) l n) (ap (λ (y : Span). y.at) h.is)

  pub here_live : names_place (read_of w) l at ≡ true → live_from s l at ≡ x ∷ live_from s l (x.at + size_of x.len)
  here_live names = subst (λ (y : Span). live_from s l at ≡ cond (is_live s l y) (y ∷ live_from s l (y.at + size_of y.len)) (live_from s l (y.at + size_of y.len))) here_is (step s h.law l at h.below h.begins)
      ∙ ap (λ b. cond b (x ∷ live_from s l (x.at + size_of x.len)) (live_from s l (x.at + size_of x.len))) (live_is ∙ names)

  pub here_dead : names_place (read_of w) l at ≡ false → live_from s l at ≡ live_from s l (at + size_of x.len)
  here_dead names = subst (λ (y : Span). live_from s l at ≡ cond (is_live s l y) (y ∷ live_from s l (at + size_of y.len)) (live_from s l (at + size_of y.len))) here_is (step s h.law l at h.below h.begins)
      ∙ ap (λ b. cond b (x ∷ live_from s l (at + size_of x.len)) (live_from s l (at + size_of x.len))) (live_is ∙ names)

  pub here_next : IsBoundary s l (at + size_of x.len)
  here_next = subst (λ (y : Span). IsBoundary s l (at + size_of y.len)) here_is (next_boundary s h.law l at h.below h.begins)

  pub here_lies : names_place (read_of w) l at ≡ true → IsHomeOf u l x
  here_lies names =
      let mutators : u.mutators ≡ s.mutators = ap (λ (v : State). v.mutators) h.noted ∙ ap (λ (v : State). v.mutators) h.same ∙ ap (λ (v : State). v.mutators) h.kept in
      home_found s u l x (subst (λ (y : Span). is_live s l y ≡ true → IsHomeOf s l y) here_is (is_home s h.law l at h.below h.begins) (live_is ∙ names)) mutators (found_more x.p)

-- ---- laws
pub lives_from_start : LivesFromStart
lives_from_start s law l = (first, all_behind (is_live s l) (spans_of s l) 0 0 (s.tail l) (tiled s law l) (omega arith)) where
  first : IsBoundary s l 0
  first = elim (cases_lt 0 (s.tail l)) [
    | inl some ↦ (let at : l * LOG_WORDS ≡ l * LOG_WORDS + 0 = omega arith in inr (some, sym (ap s.starts at) ∙ law.spans.first_span l some))
    | inr none ↦ inl (omega arith)
  ]

pub spans_are_bounded : SpansAreBounded
spans_are_bounded s law l x member =
    let own : Contains (spans_of (own_part s) l) x = subst (λ xs. Contains xs x) (own_spans s law l) member in
    let r = found (own_part s) law l x own in
    let same : x ≡ span_at (word_in s l) x.at = r.2 ∙ own_is s law l x.at r.0 r.1 in
    (inr (r.0, r.1), subst (λ (y : Span). IsBoundary s l (x.at + size_of y.len)) (sym same) (next_boundary s law l x.at r.0 r.1))

pub lives_behind : LivesBehind
lives_behind s law l at edge =
    let r : Parts (spans_of s l) 0 at (s.tail l) = parted edge in (
      r.0,
      r.1,
      r.2,
      r.3,
      r.4,
      ap (from (is_live s l) at) r.2 ∙ filter-append (λ (x : Span). is_live s l x && nat_le at x.at) r.0 r.1
          ∙ ap (λ xs. xs ++ from (is_live s l) at r.1) (none_behind (is_live s l) r.0 0 at r.3) ∙ all_behind (is_live s l) r.1 at at (s.tail l) r.4 (omega arith),
    ) where
      parted : IsBoundary s l at → Parts (spans_of s l) 0 at (s.tail l)
      parted (inl e) = subst (λ n. Parts (spans_of s l) 0 n (s.tail l)) (sym e) (parts_end (spans_of s l) 0 (s.tail l) (tiled s law l))
      parted (inr begins) = parts_at (spans_of s l) 0 (s.tail l) (span_at (word_in s l) at) (tiled s law l) (member s law l at begins.0 begins.1)
