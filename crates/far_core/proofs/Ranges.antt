-- Rows of stores, of puts, and of gets and puts: each is legal when it is made, the law stays, and together they write a row of words.
use Rattle.std.proofs.Common.{true, ◌≡◌, ◌⊎◌, ℕ, zero, suc, List, Some, refl, sym, ap, subst, ◌∙◌, arith, ◌+◌, ◌-◌, ◌*◌, ◌/◌, ◌^◌, ◌<◌, ◌≤◌, length, cond}
use Rattle.std.specs.Prelude.{◌≢◌, false, map, slice_index}
use Rattle.std.specs.List.{range_with_len}
use mathlib.Core.Path.{fun_ext}
use Rattle.far_word.specs.Pointer.{read_of}
use Rattle.far_word.specs.Sizes.{words_for}
use Rattle.far_word.specs.declared.pointer.Place.{Place}
use Rattle.far_word.specs.declared.sizes.TheConstants.{CELLS, LOG_WORDS}
use Rattle.far_events.specs.declared.event.Event.{Event}
use Rattle.far_events.specs.declared.event.Event.TheVariants.{Get, Put, Store}
use Rattle.far_events.specs.declared.event.Kind.TheVariants.{Sealed}
use Rattle.far_events.specs.declared.event.Reply.{Reply}
use Rattle.far_events.specs.declared.event.Reply.TheVariants.{Refused}
use Rattle.far_core.specs.declared.machine.Core.{Core}
use Rattle.far_events.specs.declared.memory.Memory.{Memory}
use Rattle.far_events.specs.events.Legal.{Legal}
use Rattle.far_events.specs.events.Ranges.{AllLegal, after_events, copies, puts, stores, with_copy, with_row}
use Rattle.far_events.specs.events.Step.{after, answer, data_len, data_word, near_data, near_len, step_of}
use Rattle.far_core.specs.state.CoreState.{core_state}
use Rattle.far_events.specs.state.Law.{Law}
use Rattle.far_events.specs.state.Memory.{state_of}
use Rattle.far_events.specs.state.State.{State, addr, put}
use Rattle.far_core.proofs.Kept.{rows_after}
use Rattle.far_core.proofs.Calls.{store_legal}
use Rattle.far_events.proofs.Calls.{word_behind, next_is_after}
use Rattle.far_events.proofs.Ranges.{memory_put}
use Rattle.far_core.proofs.Owing.{is_test, keeps}
use Rattle.far_events.proofs.PackedRows.{copy_first}
use Rattle.far_events.proofs.Rows.{row_first, row_in, row_none, row_out}

-- a row of events, of which event k writes word k of a row; Good stays from one to the next
module _ (e : ℕ → Event) (d n : ℕ) (w : ℕ → ℕ) (Good : State → Type 0)
    (legal : (u : State) → Good u → (k : ℕ) → k < n → Legal u (e k))
    (makes : (u : State) → Good u → (k : ℕ) → k < n → after u (e k) ≡ record u { word = put u.word (d + k) (w k) })
    (stays : (u : State) → Good u → (k : ℕ) → k < n → Good (after u (e k))) where
  made_one : (u : State) → Good u → (k : ℕ) → k < n → (step_of u (e k)).0 ≡ after u (e k)
  made_one u good k lt = ap (λ (x : State × Reply). x.0) (ap (λ b. cond b (after u (e k), answer u (e k)) (u, Refused)) (is_test u (e k) (legal u good k lt)))

  made_from : (count j : ℕ) (u : State) → Good u → ((k : ℕ) → k < count → j + k < n) →
      AllLegal u (map e (range_with_len j count)) × Good (after_events u (map e (range_with_len j count)))
      × (after_events u (map e (range_with_len j count)) ≡ record u { word = with_row u.word (d + j) count (λ k. w (j + k)) })
  made_from zero j u good inside = (tt, good, ap (λ (f : ℕ → ℕ). record u { word = f }) (row_none u.word (d + j) (λ k. w (j + k))))
  made_from (suc count) j u good inside =
      let at : j + 0 ≡ j = omega arith in
      let lt : j < n = subst (λ k. k < n) at (inside 0 (omega arith)) in
      let is : (step_of u (e j)).0 ≡ after u (e j) = made_one u good j lt in
      let rest = made_from count (j + 1) (after u (e j)) (stays u good j lt)
      (λ k less. let same : j + suc k ≡ j + 1 + k = omega arith in subst (λ i. i < n) same (inside (suc k) (omega arith))) in
      let row : List Event = map e (range_with_len (j + 1) count) in
      let one : d + (j + 1) ≡ d + j + 1 = omega arith in
      let next : (λ (k : ℕ). w (j + 1 + k)) ≡ (λ k. w (j + (k + 1))) = fun_ext (λ k. let same : j + 1 + k ≡ j + (k + 1) = omega arith in ap w same) in (
        (legal u good j lt, subst (λ t. AllLegal t row) (sym is) rest.0),
        subst (λ t. Good (after_events t row)) (sym is) rest.1,
        ap (λ t. after_events t row) is ∙ rest.2
            ∙ ap (λ (t : State). record t { word = with_row t.word (d + (j + 1)) count (λ k. w (j + 1 + k)) }) (makes u good j lt)
            ∙ ap (λ (f : ℕ → ℕ). record u { word = f })
            ((λ i. with_row (put u.word (d + j) (w j)) (one i) count (next i)) ∙ row_first u.word (d + j) count (w j) (λ k. w (j + k)) (ap w (sym at))),
      )

  -- all of them, from the first on
  pub row_made : (u : State) → Good u →
      AllLegal u (map e (range_with_len 0 n)) × Good (after_events u (map e (range_with_len 0 n)))
      × (after_events u (map e (range_with_len 0 n)) ≡ record u { word = with_row u.word d n w })
  row_made u good =
      let all = made_from n 0 u good (λ k lt. omega arith) in
      let at : d + 0 ≡ d = omega arith in
      let same : (λ (k : ℕ). w (0 + k)) ≡ w = fun_ext (λ k. let one : 0 + k ≡ k = omega arith in ap w one) in
      (all.0, all.1, all.2 ∙ (λ i. record u { word = with_row u.word (at i) n (same i) }))

-- ---- stores into an object that is held
module _ (s : State) (law : Law s) (m p first : ℕ) (words : List ℕ) (own : p / CELLS ≡ m) (soiled : s.soiled p ≡ true)
    (inside : first + length words ≤ words_for (data_len s p))
    (pad : (k : ℕ) → k < length words → slice_index words k < 2 ^ (8 * (data_len s p - 8 * (first + k))))
    (wide : (k : ℕ) → slice_index words k < 2 ^ 64) where
  -- the object is soiled as it was, and has the same length
  abbrev Stays : State → Type 0
  Stays u = Law u × (u.cell p ≡ s.cell p) × (u.soiled p ≡ s.soiled p)

  word_legal : (u : State) → Stays u → (k : ℕ) → k < length words → Legal u (Store m p (first + k) (slice_index words k))
  word_legal u good k lt =
      let long : data_len u p ≡ data_len s p = ap (λ c. near_len (read_of c)) good.1 in
      store_legal u m p (first + k) (slice_index words k) good.0 own (good.2 ∙ soiled)
      (subst (λ n. first + k < words_for n) (sym long) (omega arith)) (subst (λ n. slice_index words k < 2 ^ (8 * (n - 8 * (first + k)))) (sym long) (pad k lt))

  word_made : (u : State) → Stays u → (k : ℕ) → k < length words →
      after u (Store m p (first + k) (slice_index words k)) ≡ record u { word = put u.word (data_word s p first + k) (slice_index words k) }
  word_made u good k lt =
      let at : data_word u p (first + k) ≡ data_word s p first + k = (let same : near_data (read_of (u.cell p)) ≡ near_data (read_of (s.cell p)) = ap (λ c. near_data (read_of c)) good.1 in omega arith) in
      ap (λ a. record u { word = put u.word a (slice_index words k) }) at

  word_stays : (u : State) → Stays u → (k : ℕ) → k < length words → Stays (after u (Store m p (first + k) (slice_index words k)))
  word_stays u good k lt = (keeps u (Store m p (first + k) (slice_index words k)) good.0 (wide k) (word_legal u good k lt), good.1, good.2)

  stored : AllLegal s (stores m p first words) × Stays (after_events s (stores m p first words))
      × (after_events s (stores m p first words) ≡ record s { word = with_row s.word (data_word s p first) (length words) (λ k. slice_index words k) })
  stored = row_made (λ k. Store m p (first + k) (slice_index words k)) (data_word s p first) (length words) (λ k. slice_index words k) Stays word_legal word_made word_stays s (law, refl, refl)

  pub stores_legal : AllLegal s (stores m p first words)
  stores_legal = stored.0

  pub stores_keep : Law record s { word = with_row s.word (data_word s p first) (length words) (λ k. slice_index words k) }
  stores_keep = subst Law stored.2 stored.1.0

  pub stores_end : after_events s (stores m p first words) ≡ record s { word = with_row s.word (data_word s p first) (length words) (λ k. slice_index words k) }
  stores_end = stored.2

-- ---- a row written over data words of an object that is held, by the addresses behind its place
module _ (s : State) (law : Law s) (p first n : ℕ) (row : ℕ → ℕ) (t : State) (is : t ≡ record s { word = with_row s.word (data_word s p first) n row }) (place : Place) (held : s.held p ≡ Some place) where
  as_row : t.word ≡ with_row s.word (addr place + 1 + first) n row
  as_row = ap (λ (u : State). u.word) is ∙ ap (λ a. with_row s.word a n row) (word_behind s law p first place held)

  pub stored_at : (k : ℕ) → k < n → t.word (addr place + 1 + (first + k)) ≡ row k
  stored_at k lt =
      let here : addr place + 1 + (first + k) - (addr place + 1 + first) ≡ k = omega arith in
      ap (λ (f : ℕ → ℕ). f (addr place + 1 + (first + k))) as_row
      ∙ row_in s.word (addr place + 1 + first) n row (addr place + 1 + (first + k)) (omega arith) (omega arith) ∙ ap row here

  pub stored_beside : (a : ℕ) → (a < addr place + 1 + first) ⊎ (addr place + 1 + first + n ≤ a) → t.word a ≡ s.word a
  stored_beside a out = ap (λ (f : ℕ → ℕ). f a) as_row ∙ row_out s.word (addr place + 1 + first) n row a out

-- ---- words put past a tail
module _ (s : State) (law : Law s) (l at count : ℕ) (log : l < s.logs) (unsealed : s.kind l ≢ Sealed) (past : s.tail l ≤ at) (inside : at + count ≤ LOG_WORDS) where
  module _ (row : ℕ → ℕ) (wide : (k : ℕ) → k < count → row k < 2 ^ 64) where
    abbrev Lies : State → Type 0
    Lies u = Law u × (l < u.logs) × (u.kind l ≢ Sealed) × (u.tail l ≤ at)

    one_legal : (u : State) → Lies u → (k : ℕ) → k < count → Legal u (Put l (at + k) (row k))
    one_legal u good k lt = (good.1, good.2, omega (arith, good.3), omega arith)

    one_put : (u : State) → Lies u → (k : ℕ) → k < count → after u (Put l (at + k) (row k)) ≡ record u { word = put u.word (l * LOG_WORDS + at + k) (row k) }
    one_put u good k lt = let same : l * LOG_WORDS + (at + k) ≡ l * LOG_WORDS + at + k = omega arith in ap (λ a. record u { word = put u.word a (row k) }) same

    one_lies : (u : State) → Lies u → (k : ℕ) → k < count → Lies (after u (Put l (at + k) (row k)))
    one_lies u good k lt = (keeps u (Put l (at + k) (row k)) good.0 (wide k lt) (one_legal u good k lt), good.1, good.2, good.3)

    all_put : AllLegal s (puts l at count row) × Lies (after_events s (puts l at count row))
        × (after_events s (puts l at count row) ≡ record s { word = with_row s.word (l * LOG_WORDS + at) count row })
    all_put = row_made (λ k. Put l (at + k) (row k)) (l * LOG_WORDS + at) count row Lies one_legal one_put one_lies s (law, log, unsealed, past)

    pub puts_legal : AllLegal s (puts l at count row)
    puts_legal = all_put.0

    pub puts_keep : Law record s { word = with_row s.word (l * LOG_WORDS + at) count row }
    puts_keep = subst Law all_put.2 all_put.1.0

    pub puts_end : after_events s (puts l at count row) ≡ record s { word = with_row s.word (l * LOG_WORDS + at) count row }
    puts_end = all_put.2

  pub zeros_legal : AllLegal s (puts l at count (λ _. 0))
  zeros_legal = puts_legal (λ _. 0) (λ _ _. omega arith)

  pub zeros_keep : Law record s { word = with_row s.word (l * LOG_WORDS + at) count (λ _. 0) }
  zeros_keep = puts_keep (λ _. 0) (λ _ _. omega arith)

  pub zeros_end : after_events s (puts l at count (λ _. 0)) ≡ record s { word = with_row s.word (l * LOG_WORDS + at) count (λ _. 0) }
  zeros_end = puts_end (λ _. 0) (λ _ _. omega arith)

-- ---- words got from one log and put past the tail of another
pub one_made : (u : State) (e : Event) → Legal u e → (step_of u e).0 ≡ after u e
one_made u e legal = ap (λ (x : State × Reply). x.0) (ap (λ b. cond b (after u e, answer u e) (u, Refused)) (is_test u e legal))

module _ (l m : ℕ) where
  all_copied : (n : ℕ) (s : State) (a b : ℕ) → Law s → l < s.logs → a + n ≤ LOG_WORDS → m < s.logs → s.kind m ≢ Sealed → s.tail m ≤ b → b + n ≤ LOG_WORDS →
      AllLegal s (copies s l a m b n) × Law (after_events s (copies s l a m b n))
      × (after_events s (copies s l a m b n) ≡ record s { word = with_copy s.word (l * LOG_WORDS + a) (m * LOG_WORDS + b) n })
  all_copied zero s a b law source within target unsealed past inside = (tt, law, refl)
  all_copied (suc n) s a b law source within target unsealed past inside =
      let from : ℕ = l * LOG_WORDS + a in
      let to : ℕ = m * LOG_WORDS + b in
      let get : Event = Get l a false in
      let put_it : Event = Put m b (s.word from) in
      let may_get : Legal s get = (source, omega arith, tt) in
      let may_put : Legal s put_it = (target, unsealed, past, omega arith) in
      let got : (step_of s get).0 ≡ s = one_made s get may_get in
      let made : (step_of s put_it).0 ≡ after s put_it = one_made s put_it may_put in
      let more = all_copied n (after s put_it) (a + 1) (b + 1) (keeps s put_it law (law.spans.word_fits from) may_put) source (omega arith) target unsealed (omega arith) (omega arith) in
      let rest : List Event = copies (after s put_it) l (a + 1) m (b + 1) n in
      let source_next : l * LOG_WORDS + (a + 1) ≡ from + 1 = omega arith in
      let target_next : m * LOG_WORDS + (b + 1) ≡ to + 1 = omega arith in
      let end : (λ (u : State). after_events (step_of u put_it).0 rest) (step_of s get).0 ≡ after_events (after s put_it) rest =
      ap (λ (u : State). after_events (step_of u put_it).0 rest) got ∙ ap (λ (u : State). after_events u rest) made in (
        (may_get, subst (λ (u : State). Legal u put_it × AllLegal (step_of u put_it).0 rest) (sym got) (may_put, subst (λ (u : State). AllLegal u rest) (sym made) more.0)),
        subst Law (sym end) more.1,
        end ∙ more.2 ∙ ap (λ (f : ℕ → ℕ). record s { word = f })
            ((λ i. with_copy (put s.word to (s.word from)) (source_next i) (target_next i) n) ∙ copy_first s.word from to n),
      )

module _ (s : State) (law : Law s) (l a m b n : ℕ) (source : l < s.logs) (within : a + n ≤ LOG_WORDS) (target : m < s.logs) (unsealed : s.kind m ≢ Sealed) (past : s.tail m ≤ b)
    (inside : b + n ≤ LOG_WORDS) where
  pub copies_legal : AllLegal s (copies s l a m b n)
  copies_legal = (all_copied l m n s a b law source within target unsealed past inside).0

  pub copies_end : after_events s (copies s l a m b n) ≡ record s { word = with_copy s.word (l * LOG_WORDS + a) (m * LOG_WORDS + b) n }
  copies_end = (all_copied l m n s a b law source within target unsealed past inside).2

  pub copies_keep : Law record s { word = with_copy s.word (l * LOG_WORDS + a) (m * LOG_WORDS + b) n }
  copies_keep = subst Law copies_end (all_copied l m n s a b law source within target unsealed past inside).1

-- ---- there is a core whose state is that after a put
module _ (c : Core) (l at w : ℕ) (wide : w < 2 ^ 64) (legal : Legal (core_state c) (Put l at w)) where
  made : (d : Memory) × (state_of d ≡ after (core_state c) (Put l at w))
  made = memory_put c.memory (l * LOG_WORDS + at) w wide (omega (arith, legal.0, legal.3))

  pub core_put : (d : Core) × (core_state d ≡ after (core_state c) (Put l at w))
  core_put = (
    record {
      memory = made.0;
      rows = c.rows;
      law = subst Law (sym made.1) (keeps (core_state c) (Put l at w) c.law wide legal);
      rows_are = rows_after c.rows (state_of c.memory) (state_of made.0) (Put l at w) (made.1 ∙ sym (next_is_after (state_of c.memory) (Put l at w))) refl c.rows_are;
    },
    made.1,
  )
