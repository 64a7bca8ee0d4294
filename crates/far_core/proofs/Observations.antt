-- The spans of a log, as a list: they fill it, each object has one, and each word is of one.
use Rattle.std.proofs.Common.{◌≡◌, ◌≢◌, ℕ, ◌+◌, ◌-◌, ◌*◌, ◌/◌, ◌%◌, ◌^◌, ◌<◌, ◌≤◌, true, arith, zero, suc, sym, refl, ap, subst, ◌∙◌, Option, Some, None, List, [], ◌∷◌, inl, inr}
use Rattle.std.specs.Prelude.{nat_lt, ◌⊎◌, All, Contains}
use Rattle.std.proofs.lemmas.Bool.{cond_both, cases_lt, ltb-true, ltb-false, eq-eqb, false≢true}
use Rattle.far_word.specs.declared.header.HeadWord.{HeadWord}
use Rattle.far_word.specs.declared.mark.Marks.{Marks}
use Rattle.far_word.specs.declared.pointer.Place.{Place}
use Rattle.far_word.specs.declared.pointer.PtrWord.{PtrWord}
use Rattle.far_word.specs.declared.pointer.PtrWord.TheVariants.{Free, Near, Far}
use Rattle.far_word.specs.declared.sizes.TheConstants.{LOG_WORDS}
use Rattle.far_word.specs.Header.{head_of}
use Rattle.far_word.specs.Pointer.{read_of}
use Rattle.far_word.specs.Sizes.{size_of}
use Rattle.far_word.proofs.HeaderLaws.{head_says}
use Rattle.far_word.proofs.PointerLaws.{read_says}
use Rattle.far_log.specs.declared.span.Span.{Span}
use Rattle.far_log.specs.Spans.{Stands, Tile, HasOneSpan, HasNoSpan, span_at, spans_from, spans_in, pointer_in, len_in, ds_in, head_len}
use Rattle.far_log.specs.Walk.{IsWalk}
use Rattle.far_log.proofs.Members.{here, there, split, none_in, All-from}
use Rattle.far_log.proofs.SpanLaws.{has_one_span, has_no_span, spans_take}
use Rattle.far_events.specs.declared.event.Kind.TheVariants as kinds
use Rattle.far_events.specs.state.Law.{Law, Padded, in_use}
use Rattle.far_core.specs.laws.Observed.{live_bytes, dead_bytes, unused_bytes, span_for, OneLive, LiesNear, LiesFar, HasOnePlace, NamesOnce, LogsStand, NearHasOneLive, PlacedExactly}
use Rattle.far_events.specs.state.Spans.{IsOfHeap, word_in, spans_of, is_live}
use Rattle.far_events.specs.state.State.{State, addr}
use Rattle.far_events.proofs.Bounds.{span_len, header}
pub use Rattle.far_events.proofs.Cells.{live_names}
use Rattle.far_core.proofs.Keeps.{one_name}

-- ---- from one header to the next
module _ (s : State) (law : Law s) (l : ℕ) where
  abbrev word : ℕ → ℕ
  word = word_in s l

  -- at is the tail or a span's header
  abbrev pub IsEdge : ℕ → Type 0
  IsEdge at = (at ≡ s.tail l) ⊎ (s.starts (l * LOG_WORDS + at) ≡ true)

  in_log : (at : ℕ) → at < s.tail l → ((l * LOG_WORDS + at) / LOG_WORDS ≡ l) × ((l * LOG_WORDS + at) % LOG_WORDS ≡ at)
  in_log at lt = (omega (arith, law.logs.tail_end l), omega (arith, law.logs.tail_end l))

  span_fits : (at : ℕ) → at < s.tail l → s.starts (l * LOG_WORDS + at) ≡ true → at + size_of (head_len (word at)) ≤ s.tail l
  span_fits at lt start =
      let q = in_log at lt in
      let same : s.tail ((l * LOG_WORDS + at) / LOG_WORDS) ≡ s.tail l = ap s.tail q.0 in
      omega (arith, (law.spans.span (l * LOG_WORDS + at) start).fits, q.1)

  next_edge : (at : ℕ) → at < s.tail l → s.starts (l * LOG_WORDS + at) ≡ true → IsEdge (at + size_of (head_len (word at)))
  next_edge at lt start =
      let q = in_log at lt in
      let same : s.tail ((l * LOG_WORDS + at) / LOG_WORDS) ≡ s.tail l = ap s.tail q.0 in
      let fits : at + size_of (head_len (word at)) ≤ s.tail l = span_fits at lt start in
      elim (cases_lt (at + size_of (head_len (word at))) (s.tail l)) [
        | inl inside ↦ inr (let e : l * LOG_WORDS + at + size_of (head_len (word at)) ≡ l * LOG_WORDS + (at + size_of (head_len (word at))) = omega arith in
            sym (ap s.starts e) ∙ (law.spans.span (l * LOG_WORDS + at) start).next (omega (arith, q.1)))
        | inr end ↦ inl (omega arith)
      ]

  at_edge : (at : ℕ) → IsEdge at → at < s.tail l → s.starts (l * LOG_WORDS + at) ≡ true
  at_edge at (inl e) lt = absurd (omega arith)
  at_edge at (inr start) lt = start

  first_edge : IsEdge 0
  first_edge = elim (cases_lt 0 (s.tail l)) [
    | inl some ↦ inr (let e : l * LOG_WORDS + 0 ≡ l * LOG_WORDS = omega arith in ap s.starts e ∙ law.spans.first_span l some)
    | inr none ↦ inl (omega arith)
  ]

  -- ---- the walk fills what is left of the log
  tile_from : (fuel at : ℕ) → IsEdge at → at ≤ s.tail l → s.tail l ≤ at + fuel → Tile at (spans_from word (s.tail l) at fuel) (s.tail l)
  tile_from zero at edge low high = omega arith
  tile_from (suc fuel) at edge low high = cond_both (nat_lt at (s.tail l)) _ _ (λ xs. Tile at xs (s.tail l))
      (λ t. let lt : at < s.tail l = ltb-true at (s.tail l) t in
      let start : s.starts (l * LOG_WORDS + at) ≡ true = at_edge at edge lt in
      (refl, tile_from fuel (at + size_of (head_len (word at))) (next_edge at lt start) (span_fits at lt start) (omega arith)))
      (λ f. let le : s.tail l ≤ at = ltb-false at (s.tail l) f in omega arith)

  -- ---- who is in the list
  -- a span in the list starts where a header stands, and is what the header says
  abbrev FoundFrom : ℕ → Span → Type 0
  FoundFrom at x = (at ≤ x.at) × (x.at < s.tail l) × (s.starts (l * LOG_WORDS + x.at) ≡ true) × (x ≡ span_at word x.at)

  found_first : (at : ℕ) (x : Span) → at < s.tail l → s.starts (l * LOG_WORDS + at) ≡ true → span_at word at ≡ x → FoundFrom at x
  found_first at x lt start e = let same : at ≡ x.at = ap (λ (y : Span). y.at) e in (omega arith, omega arith, rw (← same) start, sym e ∙ ap (span_at word) same)

  found_later : (at next : ℕ) (x : Span) → at ≤ next → FoundFrom next x → FoundFrom at x
  found_later at next x le r = (omega (arith, r.0), r.1, r.2, r.3)

  found_from : (fuel at : ℕ) (x : Span) → IsEdge at → at ≤ s.tail l → s.tail l ≤ at + fuel → Contains (spans_from word (s.tail l) at fuel) x → FoundFrom at x
  found_from zero at x edge low high h = absurd (none_in x h)
  found_from (suc fuel) at x edge low high h = cond_both (nat_lt at (s.tail l)) (span_at word at ∷ spans_from word (s.tail l) (at + size_of (head_len (word at))) fuel) [] (λ (xs : List Span). Contains xs x → FoundFrom at x)
      (λ t some. let lt : at < s.tail l = ltb-true at (s.tail l) t in
      let start : s.starts (l * LOG_WORDS + at) ≡ true = at_edge at edge lt in
      elim (split x (span_at word at) (spans_from word (s.tail l) (at + size_of (head_len (word at))) fuel) some) [
        | inl e ↦ found_first at x lt start e
        | inr more ↦ found_later at (at + size_of (head_len (word at))) x (omega arith) (found_from fuel (at + size_of (head_len (word at))) x (next_edge at lt start) (span_fits at lt start) (omega arith) more)
      ])
      (λ f none. absurd (none_in x none)) h

  -- where a header stands, its span is in the list
  listed_from : (fuel at k : ℕ) → IsEdge at → at ≤ s.tail l → s.tail l ≤ at + fuel → at ≤ k → k < s.tail l → s.starts (l * LOG_WORDS + k) ≡ true → Contains (spans_from word (s.tail l) at fuel) (span_at word k)
  listed_from zero at k edge low high from to start = absurd (omega arith)
  listed_from (suc fuel) at k edge low high from to start = cond_both (nat_lt at (s.tail l)) _ _ (λ xs. Contains xs (span_at word k))
      (λ t. let lt : at < s.tail l = ltb-true at (s.tail l) t in
      let first : s.starts (l * LOG_WORDS + at) ≡ true = at_edge at edge lt in
      elim (cases_lt at k) [
        | inl below ↦ there (span_at word k) (span_at word at) _ (listed_from fuel (at + size_of (head_len (word at))) k (next_edge at lt first) (span_fits at lt first) (omega arith) (past at k lt first below start) to start)
        | inr above ↦ (let same : at ≡ k = omega arith in subst (λ j. Contains (span_at word at ∷ spans_from word (s.tail l) (at + size_of (head_len (word at))) fuel) (span_at word j)) same (here (span_at word at) _))
      ])
      (λ f. let le : s.tail l ≤ at = ltb-false at (s.tail l) f in absurd (omega arith)) where
        past : (i j : ℕ) → i < s.tail l → s.starts (l * LOG_WORDS + i) ≡ true → i < j → s.starts (l * LOG_WORDS + j) ≡ true → i + size_of (head_len (word i)) ≤ j
        past i j lt first below second = elim (cases_lt j (i + size_of (head_len (word i)))) [
          | inl inside ↦ (let e : l * LOG_WORDS + i + (j - i) ≡ l * LOG_WORDS + j = omega arith in
              absurd (false≢true (sym ((law.spans.span (l * LOG_WORDS + i) first).alone (j - i) (omega arith) (omega arith)) ∙ ap s.starts e ∙ second)))
          | inr le ↦ le
        ]

  pub found : (x : Span) → Contains (spans_of s l) x → (x.at < s.tail l) × (s.starts (l * LOG_WORDS + x.at) ≡ true) × (x ≡ span_at word x.at)
  unfolding spans_of spans_in
  found x h = let r = found_from (s.tail l) 0 x first_edge (omega arith) (omega arith) h in (r.1, r.2, r.3)

  pub listed : (k : ℕ) → k < s.tail l → s.starts (l * LOG_WORDS + k) ≡ true → Contains (spans_of s l) (span_at word k)
  unfolding spans_of spans_in
  listed k lt start = listed_from (s.tail l) 0 k first_edge (omega arith) (omega arith) (omega arith) lt start

  -- ---- the words of the log walk to its spans
  -- the header of a span is read, as what the span says
  header_found : (x : Span) → Contains (spans_of s l) x → (h : HeadWord) × (head_of (word x.at) ≡ Some h) × (x ≡ record { at = x.at; p = h.pointer; len = h.len; ds = h.ds })
  header_found x member =
      let r = found x member in
      let head = some_head (word x.at) (law.spans.span (l * LOG_WORDS + x.at) r.1).some in
      (head.0, head.1, r.2 ∙ (λ i. record { at = x.at; p = pointer_in (head.1 i); len = len_in (head.1 i); ds = ds_in (head.1 i) })) where
        some_head : (w : ℕ) → 0 < head_len w → (h : HeadWord) × (head_of w ≡ Some h)
        some_head w some = at_head (head_of w) some refl where
          at_head : (o : Option HeadWord) → 0 < len_in o → head_of w ≡ o → (h : HeadWord) × (head_of w ≡ Some h)
          at_head None some e = absurd (omega arith)
          at_head (Some h) some e = (h, e)

  stands : (x : Span) → Contains (spans_of s l) x → Stands word x
  stands x member =
      let start = (found x member).1 in
      let head = header_found x member in
      let says = head_says (word x.at) head.0 (law.spans.word_fits _) head.1 in
      let padded : Padded s.word (l * LOG_WORDS + x.at) head.0.len = subst (Padded s.word (l * LOG_WORDS + x.at)) (ap len_in head.1) (law.spans.span_padding (l * LOG_WORDS + x.at) start) in
      subst (Stands word) (sym head.2) record {
        header = record { layout = says.0; header = sym says.1 };
        padding = λ i lt. let place : l * LOG_WORDS + x.at + 1 + i ≡ l * LOG_WORDS + (x.at + 1 + i) = omega arith in
            subst (λ k. s.word k < 2 ^ (8 * (head.0.len - 8 * i))) place (padded i lt);
      }

  pub walks : IsWalk word (s.tail l) (spans_of s l)
  unfolding spans_of spans_in
  walks = record {
    tile = tile_from (s.tail l) 0 first_edge (omega arith) (omega arith);
    stand = All-from (Stands word) (spans_of s l) stands;
    inside = law.logs.tail_end l;
  }

  pub of_heap : All (IsOfHeap s) (spans_of s l)
  of_heap = All-from (IsOfHeap s) (spans_of s l) (λ x member. let head = header_found x member in
      subst (IsOfHeap s) (sym head.2) (law.spans.span_header (l * LOG_WORDS + x.at) head.0 (found x member).1 head.1))

  pub bytes_make_log : live_bytes s l + dead_bytes s l + unused_bytes s l ≡ 8 * LOG_WORDS
  bytes_make_log = omega (arith, spans_take (is_live s l) (spans_of s l) (s.tail l) walks.tile, law.logs.tail_end l)

-- ---- one span for each object
module _ (s : State) (law : Law s) (p len ds : ℕ) (place : Place) (m : Marks) (e : read_of (s.cell p) ≡ Some (Near len ds place m)) where
  head_here : head_of (s.word (addr place)) ≡ Some (header p len ds)
  head_here = span_len s law p len ds place m e

  pub in_range : (place.at + size_of len ≤ s.tail place.log) × (s.starts (place.log * LOG_WORDS + place.at) ≡ true)
  in_range =
      let x = read_says (s.cell p) (Near len ds place m) (law.cells.cell_read p).0 e in
      let start = (law.cells.cell_near p len ds place m e).placed in
      let span = law.spans.span (addr place) start in
      let size : head_len (s.word (addr place)) ≡ len = rw head_here refl in
      let log : addr place / LOG_WORDS ≡ place.log = omega (arith, x.0) in
      let same : s.tail (addr place / LOG_WORDS) ≡ s.tail place.log = ap s.tail log in
      (omega (arith, span.fits, x.0), start)

  here_is : span_at (λ j. s.word (place.log * LOG_WORDS + j)) place.at ≡ span_for p len ds place.at
  here_is = rw head_here refl

  pub one_live : OneLive s p len ds place
  one_live = record {
    placed = subst (Contains (spans_of s place.log)) here_is (listed s law place.log place.at (omega (arith, in_range)) in_range.1);
    live = rw (e, eq-eqb place.log place.log refl, eq-eqb place.at place.at refl) refl;
    only = λ l span listed_there live is.
        let names = live_names (read_of (s.cell span.p)) l span.at live in
        let both : Some (Near len ds place m) ≡ Some (Near names.0 names.1 names.2 names.3) = sym e ∙ ap (λ q. read_of (s.cell q)) (sym is) ∙ names.4 in
        let there : place ≡ names.2 = cc in
        let log : l ≡ place.log = sym names.5 ∙ ap (λ (q : Place). q.log) (sym there) in
        let at : span.at ≡ place.at = sym names.6 ∙ ap (λ (q : Place). q.at) (sym there) in
        (log, (found s law l span listed_there).2 ∙ (λ i. span_at (λ j. s.word (log i * LOG_WORDS + j)) (at i)) ∙ here_is);
  }

-- a live span's pointer is near
far_is_dead : (s : State) (p len ds : ℕ) (m : Marks) → read_of (s.cell p) ≡ Some (Far len ds m) → (l : ℕ) (span : Span) → is_live s l span ≡ true → span.p ≢ p
far_is_dead s p len ds m e l span live is =
    let names = live_names (read_of (s.cell span.p)) l span.at live in
    let odd : Some (Far len ds m) ≡ Some (Near names.0 names.1 names.2 names.3) = sym e ∙ ap (λ q. read_of (s.cell q)) (sym is) ∙ names.4 in
    cc

pub has_one_place : (s : State) → Law s → (p : ℕ) → HasOnePlace s p
has_one_place s law p used = at_cell (read_of (s.cell p)) refl used where
  at_cell : (o : Option PtrWord) → read_of (s.cell p) ≡ o → in_use o ≡ true → LiesNear s p ⊎ LiesFar s p
  at_cell None e u = absurd (false≢true u)
  at_cell (Some Free) e u = absurd (false≢true u)
  at_cell (Some (Near len ds place m)) e u = inl (len, ds, place, m, e, one_live s law p len ds place m e)
  at_cell (Some (Far len ds m)) e u = inr (len, ds, m, e, law.cells.cell_far p len ds m e, λ l span _. far_is_dead s p len ds m e l span)

pub names_once : (s : State) → Law s → NamesOnce s
names_once s law p q len n ds d place m k e f =
    let a = law.cells.cell_near p len ds place m e in
    let b = law.cells.cell_near q n d place k f in
    let x = read_says (s.cell p) (Near len ds place m) (law.cells.cell_read p).0 e in
    let y = read_says (s.cell q) (Near n d place k) (law.cells.cell_read q).0 f in
    one_name s.word p q len n ds d (addr place) a.head b.head (omega (arith, x.0)) (omega (arith, y.0)) (omega (arith, x.0)) (omega (arith, y.0))

-- ---- each word of a log
pub word_has_one_span : (s : State) → Law s → (l i : ℕ) → i < s.tail l → HasOneSpan (spans_of s l) i
word_has_one_span s law l i lt = has_one_span (spans_of s l) (s.tail l) i (walks s law l).tile lt

pub word_has_no_span : (s : State) → Law s → (l i : ℕ) → s.tail l ≤ i → HasNoSpan (spans_of s l) i
word_has_no_span s law l i past = has_no_span (spans_of s l) (s.tail l) i (walks s law l).tile past

pub near_has_one_live : (s : State) → Law s → (p : ℕ) → NearHasOneLive s p
near_has_one_live s law p len ds place m e = one_live s law p len ds place m e

-- ---- the logs
-- a header stands below the tail of its log
below_tail : (s : State) → Law s → (l at : ℕ) → at < LOG_WORDS → s.starts (l * LOG_WORDS + at) ≡ true → at < s.tail l
below_tail s law l at lt start =
    let q : ((l * LOG_WORDS + at) / LOG_WORDS ≡ l) × ((l * LOG_WORDS + at) % LOG_WORDS ≡ at) = (omega arith, omega arith) in
    let same : s.tail ((l * LOG_WORDS + at) / LOG_WORDS) ≡ s.tail l = ap s.tail q.0 in
    omega (arith, (law.spans.span (l * LOG_WORDS + at) start).fits, q.1)

pub placed_exactly : (s : State) → Law s → (l at : ℕ) → PlacedExactly s l at
placed_exactly s law l at lt = (
  λ start. (span_at (λ i. s.word (l * LOG_WORDS + i)) at, listed s law l at (below_tail s law l at lt start) start, refl),
  λ h. rw h.2 at (found s law l h.0 h.1).1,
)

no_spans : (s : State) (l : ℕ) → s.tail l ≡ 0 → spans_of s l ≡ []
unfolding spans_of spans_in
no_spans s l e = ap (λ n. spans_from (word_in s l) n 0 n) e

pub logs_stand : (s : State) → Law s → LogsStand s
logs_stand s law = record {
  free_empty = λ l free. let none = law.logs.free_tail l free in (none, no_spans s l none);
  one_open = (s.current, law.logs.log_range s.current (λ f. let odd : kinds.Open ≡ kinds.Free = sym law.logs.is_open ∙ f in cc), law.logs.is_open, law.logs.one_open);
}
