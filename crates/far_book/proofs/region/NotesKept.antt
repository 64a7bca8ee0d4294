-- A ledger that was right is right again after a span was taken, or a cell freed.
use Rattle.std.proofs.Common.{◌≡◌, ◌≢◌, ℕ, ◌+◌, ◌*◌, ◌<◌, Bool, true, false, arith, sym, refl, ap, subst, ◌∙◌, Some, List, [], ◌∷◌, ◌++◌, length, inl, inr, nat_lt}
use Rattle.std.specs.Prelude.{◌&&◌, ◌||◌, ◌==◌, not, cond, eqb, slice_index_or}
use Rattle.std.specs.Cmp.{nat_eq_equiv}
use Rattle.std.specs.List.{IsDistinct, list_any}
use Rattle.std.specs.Vec.{vec_len}
use Rattle.std.proofs.lemmas.Bool.{cases_eq, eq-eqb, ne_eqb, eqb-true, eqb-false, true≢false, cond_both}
use Rattle.std.proofs.lemmas.List.{length_push}
use Rattle.std.proofs.lemmas.List.Folds.{list_any-append, list_any_at}
use Rattle.std.proofs.lemmas.Map.Keys.{IsDistinct-push}
use Rattle.std.proofs.lemmas.Map.Steps.{length-le_from_distinct_below}
use Rattle.std.proofs.lemmas.Map.Views.{any-filter_same}
use Rattle.far_word.specs.declared.mark.Marks.{Marks}
use Rattle.far_word.specs.declared.pointer.Place.{Place}
use Rattle.far_word.specs.declared.pointer.PtrWord.TheVariants.{Near, Far}
use Rattle.far_word.specs.declared.sizes.TheConstants.{CELLS, MOST_LOGS}
use Rattle.far_word.specs.Pointer.{read_of}
use Rattle.far_word.specs.Sizes.{size_of}
use Rattle.far_events.specs.declared.event.Kind.{Kind}
use Rattle.far_events.specs.declared.event.Kind.TheVariants as kinds
use Rattle.far_events.specs.events.Legal.{IsNext}
use Rattle.far_events.specs.events.Mark.{is_sealed}
use Rattle.far_events.specs.events.Naming.{is_dropped}
use Rattle.far_core.specs.laws.Observed.{live_bytes}
use Rattle.far_events.specs.state.Law.{Law}
use Rattle.far_core.specs.state.Room.{is_free}
use Rattle.far_events.specs.state.State.{State, put}
use Rattle.far_events.proofs.Put.{put_both, put_other}
use Rattle.far_book.specs.declared.ledger.Filled.{Filled}
use Rattle.far_book.specs.declared.ledger.Ledger.{Ledger}
use Rattle.far_book.specs.declared.number_set.NumberSet.{NumberSet}
use Rattle.far_book.specs.book.Effects.{near_word, with_free_cell}
use Rattle.far_book.specs.book.Ledger.{Notes, filled_of, is_noted_free, Takes, TakesAgain, Loses, Frees}
use Rattle.far_book.specs.book.Jobs.{NotesJobs}
use Rattle.far_book.specs.book.NumberSet.{has}
use Rattle.far_book.specs.book.Order.{still_in}
use Rattle.far_book.specs.book.Placeable.{Placeable, with_object}
use Rattle.far_book.proofs.region.Founds.{near_used}
use Rattle.far_book.proofs.region.Places as places
use Rattle.far_book.proofs.region.Retires as retires

and_false : (b : Bool) → (b && false) ≡ false
and_false true = refl
and_false false = refl

or_false : (b : Bool) → (b || false) ≡ b
or_false true = refl
or_false false = refl

-- ---- the sealed logs are fewer than all
module _ (s : State) (ledger : Ledger) (notes : Notes s ledger) where
  current_inside : s.current < s.logs
  current_inside = notes.law.logs.log_range s.current (λ f. let odd : kinds.Open ≡ kinds.Free = sym notes.law.logs.is_open ∙ f in cc)

  current_out : list_any (eqb s.current) ledger.order ≡ false
  current_out = notes.sealed s.current ∙ ap is_sealed notes.law.logs.is_open

  with_current : IsDistinct eqb (ledger.order ++ s.current ∷ [])
  with_current = IsDistinct-push nat_eq_equiv ledger.order s.current notes.once current_out

  sealed_inside : (k : Kind) → (l : ℕ) → s.kind l ≡ k → is_sealed k ≡ true → l < s.logs
  sealed_inside k l is sealed = notes.law.logs.log_range l (λ f. let odd : is_sealed k ≡ false = ap is_sealed (sym is ∙ f) in true≢false (sym sealed ∙ odd))

  all_inside : (q : ℕ) → list_any (eqb q) (ledger.order ++ s.current ∷ []) ≡ true → q < s.logs
  all_inside q h = elim (cases_eq q s.current) [
    | inl e ↦ (let inside = current_inside in omega arith)
    | inr ne ↦ sealed_inside (s.kind q) q refl (sym (notes.sealed q) ∙ (
        let both : list_any (eqb q) ledger.order ≡ list_any (eqb q) (ledger.order ++ s.current ∷ []) = sym (list_any-append (eqb q) ledger.order (s.current ∷ []) ∙ last q ne) in both ∙ h))
  ] where
    last : (l : ℕ) → l ≢ s.current → (list_any (eqb l) ledger.order || list_any (eqb l) (s.current ∷ [])) ≡ list_any (eqb l) ledger.order
    last l ne = ap (λ b. list_any (eqb l) ledger.order || (b || false)) (ne_eqb l s.current ne) ∙ or_false (list_any (eqb l) ledger.order)

  -- the open log isn't free
  pub current_taken : has ledger.free_logs ledger.current ≡ false
  current_taken = ap (has ledger.free_logs) notes.current ∙ notes.free s.current (omega (arith, current_inside, notes.law.shape.few_logs))
      ∙ ap (λ k. nat_lt s.current s.logs && is_free k) notes.law.logs.is_open ∙ and_false (nat_lt s.current s.logs)

  pub order_short : length ledger.order < MOST_LOGS
  order_short = omega (arith, length-le_from_distinct_below (ledger.order ++ s.current ∷ []) s.logs with_current all_inside, length_push ledger.order s.current, notes.law.shape.few_logs)

-- each log of a list that isn't gone is one of the heap's
pub listed_inside : (s : State) (ledger : Ledger) → Notes s ledger → (gone : NumberSet) (listed : List ℕ) → still_in gone listed ≡ ledger.order → (i : ℕ) → i < length listed → has gone (slice_index_or listed i 0) ≡ false →
    slice_index_or listed i 0 < s.logs
listed_inside s ledger notes gone listed is i lt stays =
    let l = slice_index_or listed i 0 in
    let there : list_any (eqb l) listed ≡ true = list_any_at (eqb l) listed i 0 lt (eq-eqb l l refl) in
    let kept : list_any (eqb l) (still_in gone listed) ≡ (true && list_any (eqb l) listed) = any-filter_same (eqb l) (λ k. not (has gone k)) true (λ k h. ap (λ x. not (has gone x)) (sym (eqb-true l k h)) ∙ ap not stays) listed in
    sealed_inside s ledger notes (s.kind l) l refl (sym (notes.sealed l) ∙ ap (list_any (eqb l)) (sym is) ∙ kept ∙ there)

-- ---- a log is the open one
module _ (s : State) (ledger : Ledger) (notes : Notes s ledger) (place : Place) (next : IsNext s place) where
  -- the kinds after it: the log is open, the one that was open is sealed
  abbrev kind_then : ℕ → Kind
  kind_then = put (put s.kind s.current kinds.Sealed) place.log kinds.Open

  -- where the log isn't the open one, it was free
  was_free : place.log ≢ s.current → s.kind place.log ≡ kinds.Free
  was_free ne = by_next next where
    by_next : IsNext s place → s.kind place.log ≡ kinds.Free
    by_next (log, inl end) = absurd (ne (notes.law.logs.one_open place.log end.0))
    by_next (log, inr free) = free.0

  by_kind : (f : Kind → Bool) (l : ℕ) (b : Bool) → (l ≡ place.log → b ≡ f kinds.Open) → (l ≢ place.log → l ≡ s.current → b ≡ f kinds.Sealed) → (l ≢ place.log → l ≢ s.current → b ≡ f (s.kind l)) → b ≡ f (kind_then l)
  by_kind f l b here was other = put_both (λ k. b ≡ f k) (put s.kind s.current kinds.Sealed) place.log kinds.Open l here
      (λ ne. put_both (λ k. b ≡ f k) s.kind s.current kinds.Sealed l (was ne) (other ne))

  pub free_then : (logs : NumberSet) → ((l : ℕ) → l < 64 → has logs l ≡ (not (l == place.log) && has ledger.free_logs l)) → (l : ℕ) → l < 64 → has logs l ≡ (nat_lt l s.logs && is_free (kind_then l))
  free_then logs less l few = less l few ∙ by_kind (λ k. nat_lt l s.logs && is_free k) l (not (l == place.log) && has ledger.free_logs l)
      (λ e. rw (eq-eqb l place.log e) (sym (and_false (nat_lt l s.logs))))
      (λ ne e. rw (ne_eqb l place.log ne) (notes.free l few ∙ ap (λ k. nat_lt l s.logs && is_free k) (ap s.kind e ∙ notes.law.logs.is_open)))
      (λ ne _. rw (ne_eqb l place.log ne) (notes.free l few))

  module _ (order : List ℕ) (is : order ≡ cond (place.log == ledger.current) ledger.order (ledger.order ++ ledger.current ∷ [])) where
    pub sealed_then : (l : ℕ) → list_any (eqb l) order ≡ is_sealed (kind_then l)
    sealed_then l = ap (list_any (eqb l)) is ∙ cond_both (place.log == ledger.current) ledger.order (ledger.order ++ ledger.current ∷ []) (λ (xs : List ℕ). list_any (eqb l) xs ≡ is_sealed (kind_then l))
        (λ e. let same : place.log ≡ s.current = eqb-true place.log ledger.current e ∙ notes.current in by_kind is_sealed l (list_any (eqb l) ledger.order)
        (λ e2. notes.sealed l ∙ ap is_sealed (ap s.kind (e2 ∙ same) ∙ notes.law.logs.is_open))
        (λ ne e2. absurd (ne (e2 ∙ sym same)))
        (λ _ _. notes.sealed l))
        (λ ne. let other : place.log ≢ s.current = (λ is. eqb-false place.log ledger.current ne (is ∙ sym notes.current)) in
        let more : list_any (eqb l) (ledger.order ++ ledger.current ∷ []) ≡ (is_sealed (s.kind l) || eqb l s.current) = list_any-append (eqb l) ledger.order (ledger.current ∷ []) ∙ (λ i. notes.sealed l i || or_false (eqb l (notes.current i)) i) in
        more ∙ by_kind is_sealed l (is_sealed (s.kind l) || eqb l s.current)
        (λ e2. rw (e2, was_free other) (ne_eqb place.log s.current other))
        (λ _ e2. rw (e2, notes.law.logs.is_open) (eq-eqb s.current s.current refl))
        (λ _ ne2. rw (ne_eqb l s.current ne2) (or_false (is_sealed (s.kind l)))))

    pub once_then : IsDistinct eqb order
    once_then = subst (IsDistinct eqb) (sym is) (cond_both (place.log == ledger.current) ledger.order (ledger.order ++ ledger.current ∷ []) (IsDistinct eqb)
        (λ _. notes.once) (λ _. subst (λ c. IsDistinct eqb (ledger.order ++ c ∷ [])) (sym notes.current) (with_current s ledger notes)))

  tail_by : (new : Ledger) (size : ℕ) → place.at ≡ s.tail place.log → (filled_of new place.log).tail ≡ (filled_of ledger place.log).tail + size →
      ((l : ℕ) → l ≢ place.log → (filled_of new l).tail ≡ (filled_of ledger l).tail) → (l : ℕ) → l < s.logs → (filled_of new l).tail ≡ put s.tail place.log (place.at + size) l
  tail_by new size at here there l lt = put_both (λ t. (filled_of new l).tail ≡ t) s.tail place.log (place.at + size) l
      (λ e. ap (λ k. (filled_of new k).tail) e ∙ here ∙ ap (λ n. n + size) (notes.tails place.log next.0 ∙ sym at))
      (λ ne. there l ne ∙ notes.tails l lt)

  pub tail_then : (new : Ledger) (size : ℕ) → place.at ≡ s.tail place.log → (filled_of new place.log).tail ≡ (filled_of ledger place.log).tail + size →
      ((l : ℕ) → l ≢ place.log → filled_of new l ≡ filled_of ledger l) → (l : ℕ) → l < s.logs → (filled_of new l).tail ≡ put s.tail place.log (place.at + size) l
  tail_then new size at here there = tail_by new size at here (λ l ne. ap (λ (f : Filled). f.tail) (there l ne))

-- ---- a span is taken
module _ (s : State) (ledger new : Ledger) (notes : Notes s ledger) (p len ds : ℕ) (place : Place) (h : Placeable s p len ds place) (dirty : Bool) (kept : Law (with_object s dirty p len ds place)) (takes : Takes ledger new p (size_of len) place) where
  abbrev then : State
  then = with_object s dirty p len ds place

  live_then : (l : ℕ) → l < s.logs → (filled_of new l).live ≡ live_bytes then l
  live_then l lt = elim (cases_eq l place.log) [
    | inl e ↦ ap (λ k. (filled_of new k).live) e ∙ ap (λ (f : Filled). f.live) takes.here ∙ ap (λ n. n + 8 * size_of len) (notes.lives place.log h.next.0)
        ∙ sym (places.live_here s notes.law p len ds place h dirty kept) ∙ sym (ap (live_bytes then) e)
    | inr ne ↦ ap (λ (f : Filled). f.live) (takes.there l ne) ∙ notes.lives l lt ∙ sym (places.live_there s notes.law p len ds place h dirty kept l ne)
  ]

  named : near_word dirty len ds place ≢ 0
  named e = omega arith

  cell_then : (q : ℕ) → q < CELLS * s.mutators → is_noted_free new q ≡ (then.cell q == 0)
  cell_then q lt = takes.cell q ∙ put_both (λ c. (not (q == p) && is_noted_free ledger q) ≡ (c == 0)) s.cell p (near_word dirty len ds place) q
      (λ e. rw (eq-eqb q p e) (sym (ne_eqb (near_word dirty len ds place) 0 named)))
      (λ ne. rw (ne_eqb q p ne) (notes.cell q lt))

  pub notes_placed : Notes then new
  notes_placed = record {
    law = kept;
    current = takes.current;
    free = free_then s ledger notes place h.next new.free_logs takes.free;
    logs = takes.logs ∙ notes.logs;
    tails = tail_then s ledger notes place h.next new (size_of len) (places.at_end s notes.law p len ds place h) (ap (λ (f : Filled). f.tail) takes.here) takes.there;
    lives = live_then;
    sealed = sealed_then s ledger notes place h.next new.order takes.order;
    once = once_then s ledger notes place h.next new.order takes.order;
    cells = takes.cells ∙ notes.cells;
    cell = cell_then;
    jobs = subst (NotesJobs s.round_epoch s.round s.copying) (sym takes.jobs) notes.jobs;
  }

-- ---- a cell is freed
module _ (s : State) (ledger new : Ledger) (notes : Notes s ledger) (p : ℕ) (inside : p < CELLS * s.mutators) (dropped : is_dropped (read_of (s.cell p)) ≡ true) where
  cell_freed : ((q : ℕ) → is_noted_free new q ≡ ((q == p) || is_noted_free ledger q)) → (q : ℕ) → q < CELLS * s.mutators → is_noted_free new q ≡ ((with_free_cell s p).cell q == 0)
  cell_freed gives q lt = gives q ∙ put_both (λ c. ((q == p) || is_noted_free ledger q) ≡ (c == 0)) s.cell p 0 q
      (λ e. rw (eq-eqb q p e) refl)
      (λ ne. rw (ne_eqb q p ne) (notes.cell q lt))

  -- the object was far
  pub notes_far : (len ds : ℕ) (m : Marks) → read_of (s.cell p) ≡ Some (Far len ds m) → Frees ledger new p → Notes (with_free_cell s p) new
  notes_far len ds m e frees =
      let filled : new.filled ≡ ledger.filled = ap (λ (l : Ledger). l.filled) frees.rest in
      let order : new.order ≡ ledger.order = ap (λ (l : Ledger). l.order) frees.rest in
      let logs : new.free_logs ≡ ledger.free_logs = ap (λ (l : Ledger). l.free_logs) frees.rest in
      record {
        law = retires.law_freed s notes.law p inside dropped;
        current = ap (λ (l : Ledger). l.current) frees.rest ∙ notes.current;
        free = λ l few. ap (λ set. has set l) logs ∙ notes.free l few;
        logs = ap vec_len filled ∙ notes.logs;
        tails = λ l lt. ap (λ (n : Ledger). (filled_of n l).tail) frees.rest ∙ notes.tails l lt;
        lives = λ l lt. ap (λ (n : Ledger). (filled_of n l).live) frees.rest ∙ notes.lives l lt ∙ sym (retires.live_far s notes.law p len ds m e l);
        sealed = λ l. ap (λ (n : Ledger). list_any (eqb l) n.order) frees.rest ∙ notes.sealed l;
        once = subst (λ (n : Ledger). IsDistinct eqb n.order) (sym frees.rest) notes.once;
        cells = frees.cells ∙ notes.cells;
        cell = cell_freed frees.cell;
        jobs = subst (λ (n : Ledger). NotesJobs s.round_epoch s.round s.copying n.jobs) (sym frees.rest) notes.jobs;
      }

  -- the object was near
  pub notes_near : (mid : Ledger) (len ds : ℕ) (place : Place) (m : Marks) → read_of (s.cell p) ≡ Some (Near len ds place m) → Loses ledger mid place.log (size_of len) → Frees mid new p → Notes (with_free_cell s p) new
  notes_near mid len ds place m e loses frees =
      let here = retires.live_here s notes.law p len ds place m e in
      let there = retires.live_there s notes.law p len ds place m e in
      let rest : new ≡ record ledger { filled = mid.filled; free_cells = new.free_cells } = frees.rest ∙ (λ i. record (loses.rest i) { free_cells = new.free_cells }) in
      let filled : (l : ℕ) → filled_of new l ≡ filled_of mid l = (λ l. ap (λ (n : Ledger). filled_of n l) frees.rest) in
      record {
        law = retires.law_freed s notes.law p inside dropped;
        current = ap (λ (l : Ledger). l.current) rest ∙ notes.current;
        free = λ l few. ap (λ (n : Ledger). has n.free_logs l) rest ∙ notes.free l few;
        logs = ap (λ (n : Ledger). vec_len n.filled) frees.rest ∙ loses.logs ∙ notes.logs;
        tails = λ l lt. elim (cases_eq l place.log) [
          | inl same ↦ ap (λ (f : Filled). f.tail) (filled l) ∙ ap (λ k. (filled_of mid k).tail) same ∙ loses.tail ∙ sym (ap (λ k. (filled_of ledger k).tail) same) ∙ notes.tails l lt
          | inr ne ↦ ap (λ (f : Filled). f.tail) (filled l ∙ loses.there l ne) ∙ notes.tails l lt
        ];
        lives = λ l lt. elim (cases_eq l place.log) [
          | inl same ↦ (let mine : (filled_of ledger place.log).live ≡ live_bytes s place.log = subst (λ k. (filled_of ledger k).live ≡ live_bytes s k) same (notes.lives l lt) in
              let less : (filled_of mid place.log).live ≡ live_bytes (with_free_cell s p) place.log = omega (arith, loses.here, here, mine) in
              ap (λ (f : Filled). f.live) (filled l) ∙ subst (λ k. (filled_of mid k).live ≡ live_bytes (with_free_cell s p) k) (sym same) less)
          | inr ne ↦ ap (λ (f : Filled). f.live) (filled l ∙ loses.there l ne) ∙ notes.lives l lt ∙ sym (there l ne)
        ];
        sealed = λ l. ap (λ (n : Ledger). list_any (eqb l) n.order) rest ∙ notes.sealed l;
        once = subst (λ (n : Ledger). IsDistinct eqb n.order) (sym rest) notes.once;
        cells = frees.cells ∙ ap (λ (n : Ledger). vec_len n.free_cells) loses.rest ∙ notes.cells;
        jobs = subst (λ (n : Ledger). NotesJobs s.round_epoch s.round s.copying n.jobs) (sym rest) notes.jobs;
        cell = cell_freed (λ q. frees.cell q ∙ ap (λ (n : Ledger). (q == p) || is_noted_free n q) loses.rest);
      }

-- ---- an object's span is dead, and another one is taken for it
module _ (s : State) (ledger mid new : Ledger) (notes : Notes s ledger) (p len ds : ℕ) (from : Place) (m : Marks) (near : read_of (s.cell p) ≡ Some (Near len ds from m)) (freed : Law (with_free_cell s p)) (place : Place)
    (h : Placeable (with_free_cell s p) p len ds place) (dirty : Bool) (kept : Law (with_object (with_free_cell s p) dirty p len ds place)) (loses : Loses ledger mid from.log (size_of len)) (fills : TakesAgain mid new (size_of len) place) where
  abbrev bare : State
  bare = with_free_cell s p

  abbrev carried : State
  carried = with_object bare dirty p len ds place

  tail_mid : (l : ℕ) → (filled_of mid l).tail ≡ (filled_of ledger l).tail
  tail_mid l = elim (cases_eq l from.log) [
    | inl same ↦ ap (λ k. (filled_of mid k).tail) same ∙ loses.tail ∙ sym (ap (λ k. (filled_of ledger k).tail) same)
    | inr ne ↦ ap (λ (f : Filled). f.tail) (loses.there l ne)
  ]

  live_mid : (l : ℕ) → l < s.logs → (filled_of mid l).live ≡ live_bytes bare l
  live_mid l lt = elim (cases_eq l from.log) [
    | inl same ↦ (let mine : (filled_of ledger from.log).live ≡ live_bytes s from.log = subst (λ k. (filled_of ledger k).live ≡ live_bytes s k) same (notes.lives l lt) in
        let less : (filled_of mid from.log).live ≡ live_bytes bare from.log = omega (arith, loses.here, retires.live_here s notes.law p len ds from m near, mine) in
        subst (λ k. (filled_of mid k).live ≡ live_bytes bare k) (sym same) less)
    | inr ne ↦ ap (λ (f : Filled). f.live) (loses.there l ne) ∙ notes.lives l lt ∙ sym (retires.live_there s notes.law p len ds from m near l ne)
  ]

  live_carried : (l : ℕ) → l < s.logs → (filled_of new l).live ≡ live_bytes carried l
  live_carried l lt = elim (cases_eq l place.log) [
    | inl e ↦ ap (λ k. (filled_of new k).live) e ∙ ap (λ (f : Filled). f.live) fills.here ∙ ap (λ n. n + 8 * size_of len) (live_mid place.log h.next.0)
        ∙ sym (places.live_here bare freed p len ds place h dirty kept) ∙ sym (ap (live_bytes carried) e)
    | inr ne ↦ ap (λ (f : Filled). f.live) (fills.there l ne) ∙ live_mid l lt ∙ sym (places.live_there bare freed p len ds place h dirty kept l ne)
  ]

  order_carried : new.order ≡ cond (place.log == ledger.current) ledger.order (ledger.order ++ ledger.current ∷ [])
  order_carried = fills.order ∙ ap (λ (n : Ledger). cond (place.log == n.current) n.order (n.order ++ n.current ∷ [])) loses.rest

  pub notes_carried : Notes carried new
  notes_carried = record {
    law = kept;
    current = fills.current;
    free = free_then s ledger notes place h.next new.free_logs (λ l few. fills.free l few ∙ ap (λ (n : Ledger). not (l == place.log) && has n.free_logs l) loses.rest);
    logs = fills.logs ∙ loses.logs ∙ notes.logs;
    tails = tail_by s ledger notes place h.next new (size_of len) (places.at_end bare freed p len ds place h) (ap (λ (f : Filled). f.tail) fills.here ∙ ap (λ n. n + size_of len) (tail_mid place.log))
        (λ l ne. ap (λ (f : Filled). f.tail) (fills.there l ne) ∙ tail_mid l);
    lives = live_carried;
    sealed = sealed_then s ledger notes place h.next new.order order_carried;
    once = once_then s ledger notes place h.next new.order order_carried;
    cells = ap (λ (n : Ledger). vec_len n.free_cells) fills.rest ∙ ap (λ (n : Ledger). vec_len n.free_cells) loses.rest ∙ notes.cells;
    cell = λ q lt. ap (λ (n : Ledger). is_noted_free n q) fills.rest ∙ ap (λ (n : Ledger). is_noted_free n q) loses.rest ∙ notes.cell q lt ∙ put_both (λ c. (s.cell q == 0) ≡ (c == 0)) bare.cell p (near_word dirty len ds place) q
        (λ e. ap (λ k. s.cell k == 0) e ∙ near_used (s.cell p) len ds from m near ∙ sym (ne_eqb (near_word dirty len ds place) 0 (λ z. omega (arith, z))))
        (λ ne. ap (λ c. c == 0) (sym (put_other s.cell p 0 q ne)));
    jobs = subst (λ (n : Ledger). NotesJobs s.round_epoch s.round s.copying n.jobs) (sym (fills.rest ∙ (λ i. record (loses.rest i) { current = new.current; free_logs = new.free_logs; order = new.order; filled = new.filled }))) notes.jobs;
  }
