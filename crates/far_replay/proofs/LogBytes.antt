-- The bytes of the logs: where they stay, and where an object comes to a log.
use Rattle.std.proofs.Common.{◌≡◌, ◌≢◌, ℕ, ◌+◌, ◌-◌, ◌*◌, ◌<◌, ◌≤◌, Bool, true, false, cond, not, Option, Some, [], ◌∷◌, ◌++◌, inl, inr, arith, ap, sym, refl, ◌∙◌, subst}
use Rattle.std.specs.Prelude.{Contains, ◌⊎◌}
use Rattle.std.proofs.lemmas.Bool.{cases_eq, cases_lt, eq-eqb, ne_eqb}
use mathlib.Core.Path.{fun_ext}
use Rattle.far_word.specs.declared.header.HeadWord.{HeadWord}
use Rattle.far_word.specs.declared.mark.Mark.{Mark}
use Rattle.far_word.specs.declared.mark.Marks.{Marks}
use Rattle.far_word.specs.declared.pointer.Place.{Place}
use Rattle.far_word.specs.declared.pointer.PtrWord.{PtrWord}
use Rattle.far_word.specs.declared.pointer.PtrWord.TheVariants.{Free, Near}
use Rattle.far_word.specs.declared.sizes.TheConstants.{CELLS, LOG_WORDS}
use Rattle.far_word.specs.Header.{IsHead, head_of, head_word}
use Rattle.far_word.specs.Pointer.{IsPtr, read_of}
use Rattle.far_word.specs.Sizes.{bytes_taken, size_of}
use Rattle.far_word.proofs.HeaderLaws.{head_back}
use Rattle.far_word.proofs.PointerLaws.{read_says}
use Rattle.far_log.specs.declared.span.Span.{Span}
use Rattle.far_log.specs.Spans.{ds_in, head_len, len_in, pointer_in, span_at, spans_from, spans_in, taken_by}
use Rattle.far_log.proofs.SpanLaws.{tile_bounds}
use Rattle.far_core.specs.laws.Observed.{live_bytes, span_for}
use Rattle.far_events.specs.state.Law.{Law}
use Rattle.far_events.specs.state.Spans.{is_live, names_place, spans_of, word_in}
use Rattle.far_events.specs.state.State.{State, addr, put}
use Rattle.far_events.proofs.Cells.{map_mark, unused}
use Rattle.far_core.proofs.Observations.{bytes_make_log}
use Rattle.far_events.proofs.Put.{put_other, put_same}
use Rattle.far_book.specs.book.Own.{own_part}
use Rattle.far_book.proofs.region.Owns.{own_headers, own_law, own_spans}
use Rattle.far_book.proofs.region.SpanLists.{taken_more, taken_same}
use Rattle.far_evac.specs.Laws.{but_evac}
use Rattle.far_evac.specs.TakesRoom.{bytes_at}
use Rattle.far_evac.proofs.LiveLists.{same_spans}
use Rattle.far_evac.proofs.RoomLaw.{sound_of}
use Rattle.far_evac.proofs.SpanBytes.{Sound, falls, spans_more}
use Rattle.far_evac.proofs.Lacking.{names_but}
use Rattle.far_replay.specs.Taking.{BytesMove, TakesNone, share}

-- ---- they stay
pub none_taken : (s : State) → TakesNone s s
none_taken s = (refl, refl, λ l. (refl, refl, refl))

pub none_more : (s t u : State) → TakesNone s t → TakesNone t u → TakesNone s u
none_more s t u a b = (b.0 ∙ a.0, b.1 ∙ a.1, λ l. (let x = a.2 l in let y = b.2 l in (y.0 ∙ x.0, y.1 ∙ x.1, y.2 ∙ x.2)))

-- cells name the places that they named
abbrev pub NamesStay : State → State → Type 0
NamesStay s t = (q l at : ℕ) → names_place (read_of (t.cell q)) l at ≡ names_place (read_of (s.cell q)) l at

by_spans : (s t : State) → t.tail ≡ s.tail → t.kind ≡ s.kind → ((l : ℕ) → spans_of t l ≡ spans_of s l) → NamesStay s t → TakesNone s t
by_spans s t tail kind spans names = (
  tail,
  kind,
  λ l. (
    ap (taken_by (is_live t l)) (spans l) ∙ taken_same (is_live t l) (is_live s l) (spans_of s l) (λ x h. names x.p l x.at),
    ap (taken_by (λ x. not (is_live t l x))) (spans l) ∙ taken_same (λ x. not (is_live t l x)) (λ x. not (is_live s l x)) (spans_of s l) (λ x h. ap not (names x.p l x.at)),
    ap (λ (f : ℕ → ℕ). 8 * LOG_WORDS - 8 * f l) tail,
  ),
)

-- where no word changes
spans_worded : (s t : State) → t.word ≡ s.word → t.tail ≡ s.tail → (l : ℕ) → spans_of t l ≡ spans_of s l
unfolding spans_of
spans_worded s t word tail l = λ i. spans_in (λ j. word i (l * LOG_WORDS + j)) (tail i l)

pub worded_takes : (s t : State) → t.word ≡ s.word → t.tail ≡ s.tail → t.kind ≡ s.kind → NamesStay s t → TakesNone s t
worded_takes s t word tail kind names = by_spans s t tail kind (spans_worded s t word tail) names

pub celled_takes : (s t : State) → t.cell ≡ s.cell → t.word ≡ s.word → t.tail ≡ s.tail → t.kind ≡ s.kind → TakesNone s t
celled_takes s t cell word tail kind = worded_takes s t word tail kind (λ q l at. ap (λ (f : ℕ → ℕ). names_place (read_of (f q)) l at) cell)

-- where no header changes
module _ (s t : State) (law : Law s) (heads : (a : ℕ) → s.starts a ≡ true → t.word a ≡ s.word a) (tail : t.tail ≡ s.tail) where
  abbrev then : State
  then = record s { word = t.word }

  spans_headed : (l : ℕ) → spans_of then l ≡ spans_of s l
  spans_headed l =
      let same : own_part then ≡ own_part s = own_headers s then refl heads in
      own_spans then (subst Law (sym same) (own_law s law)) l ∙ ap (λ (u : State). spans_of u l) same ∙ sym (own_spans s (own_law s law) l)

  pub headed_takes : t.kind ≡ s.kind → NamesStay s t → TakesNone s t
  headed_takes kind names = by_spans s t tail kind (λ l. spans_worded then t refl tail l ∙ spans_headed l) names

-- a mark that is set in a cell
names_marked : (mark : Mark) (o : Option PtrWord) (l at : ℕ) → names_place (map_mark mark o) l at ≡ names_place o l at
names_marked mark (Some Free) l at = refl
names_marked mark _ l at = refl

pub names_one : (s t : State) (p : ℕ) → ((q : ℕ) → q ≢ p → t.cell q ≡ s.cell q) → ((l at : ℕ) → names_place (read_of (t.cell p)) l at ≡ names_place (read_of (s.cell p)) l at) → NamesStay s t
names_one s t p others says q l at = elim (cases_eq q p) [
  | inl e ↦ subst (λ x. names_place (read_of (t.cell x)) l at ≡ names_place (read_of (s.cell x)) l at) (sym e) (says l at)
  | inr ne ↦ ap (λ w. names_place (read_of w) l at) (others q ne)
]

pub names_at : (s t : State) (p : ℕ) (mark : Mark) → ((q : ℕ) → q ≢ p → t.cell q ≡ s.cell q) → read_of (t.cell p) ≡ map_mark mark (read_of (s.cell p)) → NamesStay s t
names_at s t p mark others says = names_one s t p others (λ l at. ap (λ o. names_place o l at) says ∙ names_marked mark (read_of (s.cell p)) l at)

-- where EVAC alone may change
pub names_bare : (s t : State) → ((q : ℕ) → but_evac (read_of (t.cell q)) ≡ but_evac (read_of (s.cell q))) → NamesStay s t
names_bare s t same q l at = names_but (read_of (t.cell q)) l at ∙ ap (λ o. names_place o l at) (same q) ∙ sym (names_but (read_of (s.cell q)) l at)

-- ---- an object comes to the end of a log
module _ (s t : State) (law : Law s) (kept : Law t) (p len ds : ℕ) (place : Place) {k : Marks} (at_end : place.at ≡ s.tail place.log) (cell : read_of (t.cell p) ≡ Some (Near len ds place k))
    (cells : (q : ℕ) → q ≢ p → t.cell q ≡ s.cell q) (header : t.word (addr place) ≡ head_word p len ds) (words : (a : ℕ) → (a < addr place) ⊎ (addr place + size_of len ≤ a) → t.word a ≡ s.word a)
    (tail : t.tail place.log ≡ s.tail place.log + size_of len) (tails : (l : ℕ) → l ≢ place.log → t.tail l ≡ s.tail l) where
  sound : Sound s
  sound = sound_of s (own_law s law)

  layout : IsPtr (Near len ds place k)
  layout = (read_says (t.cell p) (Near len ds place k) (kept.cells.cell_read p).0 cell).0

  inside : p < CELLS * t.mutators
  inside = kept.cells.cell_range p (λ none. let odd : Some (Near len ds place k) ≡ Some Free = sym cell ∙ ap read_of none ∙ unused in absurd cc)

  abbrev head : HeadWord
  head = record { pointer = p; len = len; ds = ds }

  is_head : IsHead head
  is_head = record { some = layout.0; most = layout.1; structure = layout.2; cell = omega (arith, inside, kept.shape.few_mutators) }

  -- words below the tails stay
  word_still : (l i : ℕ) → i < s.tail l → t.word (l * LOG_WORDS + i) ≡ s.word (l * LOG_WORDS + i)
  word_still l i below =
      let short = sound.short l in
      let fits = layout.4 in
      words (l * LOG_WORDS + i) (elim (cases_eq l place.log) [
        | inl e ↦ (let same : s.tail l ≡ s.tail place.log = ap s.tail e in inl (omega (arith, e, same, at_end, below)))
        | inr ne ↦ elim (cases_lt l place.log) [
          | inl lt ↦ inl (omega (arith, lt, below, short))
          | inr le ↦ inr (omega (arith, le, ne, fits))
        ]
      ])

  -- behind them stands the header
  head_new : head_of (word_in t place.log (s.tail place.log)) ≡ Some head
  head_new =
      let same : place.log * LOG_WORDS + s.tail place.log ≡ addr place = ap (λ k. place.log * LOG_WORDS + k) (sym at_end) in
      ap head_of (ap t.word same ∙ header) ∙ head_back head is_head

  size_new : head_len (word_in t place.log (s.tail place.log)) ≡ len
  size_new = ap len_in head_new

  span_new : span_at (word_in t place.log) (s.tail place.log) ≡ span_for p len ds place.at
  span_new = λ i. record { at = sym at_end i; p = pointer_in (head_new i); len = len_in (head_new i); ds = ds_in (head_new i) }

  spans_there : (l : ℕ) → l ≢ place.log → spans_of t l ≡ spans_of s l
  unfolding spans_of spans_in
  spans_there l ne = ap (λ n. spans_in (word_in t l) n) (tails l ne) ∙ same_spans (word_in s l) (word_in t l) (s.tail l) 0 (s.tail l) (word_still l)

  spans_here : spans_of t place.log ≡ spans_of s place.log ++ span_for p len ds place.at ∷ []
  unfolding spans_of spans_in
  spans_here =
      let long : s.tail place.log + size_of len ≡ s.tail place.log + size_of (head_len (word_in t place.log (s.tail place.log))) = ap (λ n. s.tail place.log + size_of n) (sym size_new) in
      ap (λ n. spans_from (word_in t place.log) n 0 n) tail
      ∙ ap (λ n. spans_from (word_in t place.log) n 0 (s.tail place.log + size_of len)) long
      ∙ spans_more (word_in s place.log) (word_in t place.log) (s.tail place.log) (word_still place.log) (s.tail place.log) (s.tail place.log + size_of len) 0 (omega arith) (sound.tile place.log)
      ∙ ap (λ x. spans_of s place.log ++ x ∷ []) span_new

  -- no span that was there begins where it goes
  clear_of : (l : ℕ) (x : Span) → Contains (spans_of s l) x → names_place (read_of (t.cell p)) l x.at ≡ false
  clear_of l x member = ap (λ o. names_place o l x.at) cell ∙ elim (cases_eq place.log l) [
    | inl e ↦ (let below = (tile_bounds (spans_of s l) 0 (s.tail l) x (sound.tile l) member).1 in
        let same : s.tail place.log ≡ s.tail l = ap s.tail e in
        rw (eq-eqb place.log l e) (ne_eqb place.at x.at (λ is. omega (arith, at_end, below, same, is))))
    | inr ne ↦ rw (ne_eqb place.log l ne) refl
  ]

  abbrev named : (ℕ → ℕ) → ℕ → Span → Bool
  named f l x = names_place (read_of (f x.p)) l x.at

  cells_are : t.cell ≡ put s.cell p (t.cell p)
  cells_are = fun_ext (λ q. elim (cases_eq q p) [
    | inl e ↦ ap t.cell e ∙ sym (put_same s.cell p (t.cell p) q e)
    | inr ne ↦ cells q ne ∙ sym (put_other s.cell p (t.cell p) q ne)
  ])

  -- the spans that were there are as live as before, but for its own
  unnamed : (l : ℕ) → ((at : ℕ) → names_place (read_of (s.cell p)) l at ≡ false) → taken_by (named t.cell l) (spans_of s l) ≡ taken_by (named s.cell l) (spans_of s l)
  unnamed l none = taken_same (named t.cell l) (named s.cell l) (spans_of s l) (λ x h. elim (cases_eq x.p p) [
    | inl e ↦ (ap (λ q. names_place (read_of (t.cell q)) l x.at) e ∙ clear_of l x h ∙ sym (ap (λ q. names_place (read_of (s.cell q)) l x.at) e ∙ none x.at))
    | inr ne ↦ ap (λ w. names_place (read_of w) l x.at) (cells x.p ne)
  ])

  old_live : (l : ℕ) (o : Option PtrWord) → read_of (s.cell p) ≡ o → taken_by (named t.cell l) (spans_of s l) + bytes_at l o ≡ live_bytes s l
  old_live l (Some (Near n d from marks)) e =
      ap (λ (f : ℕ → ℕ). taken_by (named f l) (spans_of s l) + bytes_at l (Some (Near n d from marks))) cells_are
      ∙ ap (λ x. taken_by (named (put s.cell p (t.cell p)) l) (spans_of s l) + bytes_at l x) (sym e)
      ∙ falls s.cell p (t.cell p) n d from marks e l (spans_of s l) (s.tail l) (sound.tile l)
      (λ is. subst (λ k. Contains (spans_of s k) (span_for p n d from.at)) (sym is) (sound.placed p n d from marks e)) (λ x h. clear_of l x h)
  old_live l _ e = (let same = unnamed l (λ at. ap (λ x. names_place x l at) e) in omega (arith, same))

  new_live : is_live t place.log (span_for p len ds place.at) ≡ true
  new_live = ap (λ o. names_place o place.log place.at) cell ∙ rw (eq-eqb place.log place.log refl, eq-eqb place.at place.at refl) refl

  live_then : (l : ℕ) → live_bytes t l ≡ taken_by (named t.cell l) (spans_of s l) + share (Some place.log) len l
  live_then l = elim (cases_eq l place.log) [
    | inl e ↦ subst (λ k. live_bytes t k ≡ taken_by (named t.cell k) (spans_of s k) + share (Some place.log) len k) (sym e)
        (ap (taken_by (is_live t place.log)) spans_here
        ∙ taken_more (is_live t place.log) (spans_of s place.log) (span_for p len ds place.at)
        ∙ ap (λ b. taken_by (named t.cell place.log) (spans_of s place.log) + cond b (bytes_taken len) 0) (new_live ∙ sym (eq-eqb place.log place.log refl)))
    | inr ne ↦ (let none : share (Some place.log) len l ≡ 0 = ap (λ b. cond b (bytes_taken len) 0) (ne_eqb place.log l (λ e. ne (sym e))) in
        let same : live_bytes t l ≡ taken_by (named t.cell l) (spans_of s l) = ap (taken_by (is_live t l)) (spans_there l ne) in
        omega (arith, none, same))
  ]

  tail_then : (l : ℕ) → 8 * t.tail l ≡ 8 * s.tail l + share (Some place.log) len l
  tail_then l = elim (cases_eq l place.log) [
    | inl e ↦ (let some : share (Some place.log) len l ≡ bytes_taken len = ap (λ b. cond b (bytes_taken len) 0) (eq-eqb place.log l (sym e)) in
        let there : t.tail l ≡ t.tail place.log = ap t.tail e in
        let was : s.tail l ≡ s.tail place.log = ap s.tail e in
        omega (arith, some, there, was, tail))
    | inr ne ↦ (let none : share (Some place.log) len l ≡ 0 = ap (λ b. cond b (bytes_taken len) 0) (ne_eqb place.log l (λ e. ne (sym e))) in
        let same = tails l ne in
        omega (arith, none, same))
  ]

  pub bytes_move : (from : Option ℕ) (o : Option PtrWord) → read_of (s.cell p) ≡ o → ((l : ℕ) → bytes_at l o ≡ share from len l) → (l : ℕ) → BytesMove s t len from place.log l
  bytes_move from o e was l =
      let mine = was l in
      let old = old_live l o e in
      let new = live_then l in
      let ends = tail_then l in
      let live : live_bytes t l + share from len l ≡ live_bytes s l + share (Some place.log) len l = omega (arith, mine, old, new) in
      let all = bytes_make_log s law l in
      let then = bytes_make_log t kept l in
      let short = sound.short l in
      let short_then = kept.logs.tail_end l in
      record {
        live = live;
        dead = omega (arith, live, all, then, ends, short, short_then);
        unused = omega (arith, ends, short, short_then);
      }

-- ---- what is taken from a state is taken from one with the same bytes, and so is what is taken before one
pub move_from : (s u t : State) (len : ℕ) (from : Option ℕ) (to l : ℕ) → TakesNone s u → BytesMove u t len from to l → BytesMove s t len from to l
move_from s u t len from to l same h =
    let x = same.2 l in
    let a = h.live in
    let b = h.dead in
    let c = h.unused in
    let d = x.0 in
    let e = x.1 in
    let f = x.2 in
    record { live = omega (arith, a, d); dead = omega (arith, b, e); unused = c ∙ f }

pub move_then : (s t v : State) (len : ℕ) (from : Option ℕ) (to l : ℕ) → TakesNone t v → BytesMove s t len from to l → BytesMove s v len from to l
move_then s t v len from to l same h =
    let x = same.2 l in
    let a = h.live in
    let b = h.dead in
    let c = h.unused in
    let d = x.0 in
    let e = x.1 in
    let f = x.2 in
    record { live = omega (arith, a, d); dead = e ∙ b; unused = ap (λ n. n + share (Some to) len l) f ∙ c }
