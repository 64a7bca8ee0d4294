-- A new object is put, named and adopted: each event is made, and what holds between commands stays.
use Rattle.std.proofs.Common.{◌≡◌, ◌≢◌, ℕ, zero, suc, ◌+◌, ◌*◌, ◌/◌, ◌<◌, ◌≤◌, ◌⊎◌, true, false, cond, refl, sym, ap, subst, ◌∙◌, arith, Some, List, [], ◌∷◌, ◌++◌, map, inl, inr}
use Rattle.std.specs.List.{range_with_len}
use Rattle.std.proofs.lemmas.Bool.{false≢true, cases_eq, eq-eqb, false_from_ne_true}
use Rattle.far_word.specs.declared.pointer.Place.{Place}
use Rattle.far_word.specs.declared.pointer.PtrWord.TheVariants as pointer
use Rattle.far_word.specs.declared.pointer.PtrWord.TheVariants.{Near}
use Rattle.far_word.specs.declared.sizes.TheConstants.{CELLS, LOG_WORDS, LONGEST}
use Rattle.far_word.specs.Header.{head_word}
use Rattle.far_word.specs.Pointer.{read_of}
use Rattle.far_word.specs.Sizes.{size_of, words_for}
use Rattle.far_events.specs.declared.event.Event.{Event}
use Rattle.far_events.specs.declared.event.Event.TheVariants.{Put, Name, Adopt}
use Rattle.far_events.specs.declared.event.Kind.TheVariants.{Free, Open, Sealed}
use Rattle.far_events.specs.declared.event.Reply.TheVariants.{Done, Word}
use Rattle.far_events.specs.events.Legal.{IsNext}
use Rattle.far_events.specs.state.Law.{Law, in_use}
use Rattle.far_events.specs.declared.naming.Naming.TheVariants.{Places}
use Rattle.far_events.specs.events.Name.{after_naming}
use Rattle.far_events.specs.events.Naming.{naming_of, unmarked}
use Rattle.far_events.proofs.Namings.{naming_only}
use Rattle.far_events.specs.state.State.{State, put, addr}
use Rattle.far_events.specs.events.Step.{step_of, is_legal, after, answer, with_span}
use Rattle.far_events.proofs.Cells.{unused}
use Rattle.far_core.proofs.Owing.{is_test}
use Rattle.far_events.proofs.Put.{put_same, put_other}
use Rattle.far_book.specs.book.Effects.{near_word, placed as placed_by}
use Rattle.far_events.specs.events.Ranges.{with_row, after_events}
use Rattle.far_alone.specs.EventRows.{Succeeds, AllSucceed}
use Rattle.far_alone.specs.Between.{Between}
use Rattle.far_alone.specs.Events.{zero_puts}
use Rattle.far_events.proofs.Rows.{row_is}
use Rattle.far_alone.proofs.MadeLemmas.{made-append, AllSucceed-append, made_first, first_succeeds}

-- ---- a row of zeros
-- events that change words alone, to zeros from low up to high
pub record Zeroed (s : State) (es : List Event) (low high : ℕ) : Type 0 where
  pub word : ℕ → ℕ
  pub state : after_events s es ≡ record s { word = word }
  pub succeed : AllSucceed s es
  pub zeroed : (q : ℕ) → low ≤ q → q < high → word q ≡ 0
  pub same : (q : ℕ) → (q < low) ⊎ (high ≤ q) → word q ≡ s.word q

-- zeros that are put past a tail
pub zero_row : (l base n a : ℕ) (s : State) → l < s.logs → (s.kind l ≢ Sealed) → s.tail l ≤ base + a → base + a + n ≤ LOG_WORDS →
    Zeroed s (map (λ i. Put l (base + i) 0) (range_with_len a n)) (l * LOG_WORDS + (base + a)) (l * LOG_WORDS + (base + a) + n)
zero_row l base zero a s log kind past fits = record { word = s.word; state = refl; succeed = tt; zeroed = λ q low high. absurd (omega arith); same = λ q out. refl }
zero_row l base (suc n) a s log kind past fits =
    let legal : is_legal s (Put l (base + a) 0) ≡ true = is_test s (Put l (base + a) 0) (log, kind, past, omega arith) in
    let rest = zero_row l base n (a + 1) (after s (Put l (base + a) 0)) log kind (omega arith) (omega arith) in
    let row : List Event = map (λ i. Put l (base + i) 0) (range_with_len (a + 1) n) in
    record {
      word = rest.word;
      state = made_first s (Put l (base + a) 0) row legal ∙ rest.state;
      succeed = first_succeeds s (Put l (base + a) 0) row legal tt rest.succeed;
      zeroed = λ q low high. elim (cases_eq q (l * LOG_WORDS + (base + a))) [
        | inl e ↦ rest.same q (inl (omega arith)) ∙ put_same s.word (l * LOG_WORDS + (base + a)) 0 q e
        | inr ne ↦ rest.zeroed q (omega arith) (omega arith)
      ];
      same = λ q out. rest.same q (out_of q out) ∙ put_other s.word (l * LOG_WORDS + (base + a)) 0 q (apart q out);
    } where
      out_of : (q : ℕ) → (q < l * LOG_WORDS + (base + a)) ⊎ (l * LOG_WORDS + (base + a) + suc n ≤ q) →
          (q < l * LOG_WORDS + (base + (a + 1))) ⊎ (l * LOG_WORDS + (base + (a + 1)) + n ≤ q)
      out_of q (inl lt) = inl (omega arith)
      out_of q (inr le) = inr (omega arith)

      apart : (q : ℕ) → (q < l * LOG_WORDS + (base + a)) ⊎ (l * LOG_WORDS + (base + a) + suc n ≤ q) → q ≢ l * LOG_WORDS + (base + a)
      apart q (inl lt) e = omega arith
      apart q (inr le) e = omega arith

-- ---- the object
module _ (s : State) (law : Law s) (m p len ds new : ℕ) (place : Place)
    (mutator : m < s.mutators) (low : m * CELLS ≤ p) (high : p < m * CELLS + CELLS) (empty : s.cell p ≡ 0)
    (some : 0 < len) (most : len ≤ LONGEST) (structure : ds < 256)
    (next : IsNext s place) (fits : place.at + size_of len ≤ LOG_WORDS) (here : place.at ≡ s.tail place.log)
    (says : read_of new ≡ Some (Near len ds place (unmarked true))) where
  -- the log isn't sealed
  not_sealed : s.kind place.log ≢ Sealed
  not_sealed e = shut next.1 where
    shut : ((s.kind place.log ≡ Open) × (place.at ≡ s.tail place.log)) ⊎ ((s.kind place.log ≡ Free) × (place.at ≡ 0)) → ⊥
    shut (inl h) = let odd : Open ≡ Sealed = sym h.0 ∙ e in cc
    shut (inr h) = let odd : Free ≡ Sealed = sym h.0 ∙ e in cc

  -- the cell reads as free
  unread_cell : read_of (s.cell p) ≡ Some pointer.Free
  unread_cell = ap read_of empty ∙ unused

  -- nobody uses it
  not_used : s.used p ≡ false
  not_used = false_from_ne_true (s.used p) (λ h. false≢true (sym (ap in_use unread_cell) ∙ law.views.used_cell p h))

  -- it is one of the heap's
  in_range : p < CELLS * s.mutators
  in_range = omega (arith, law.shape.some_mutators)

  -- and its owner's
  owner : p / CELLS ≡ m
  owner = omega arith

  -- the header is put
  abbrev first : Event
  first = Put place.log place.at (head_word p len ds)

  -- that is legal
  first_legal : is_legal s first ≡ true
  first_legal = is_test s first (next.0, not_sealed, omega arith, omega arith)

  -- the state after it
  abbrev headed : State
  headed = record s { word = put s.word (place.log * LOG_WORDS + place.at) (head_word p len ds) }

  -- zeros are put behind it
  zeros_put : Zeroed headed (zero_puts place (words_for len)) (place.log * LOG_WORDS + (place.at + 1 + 0)) (place.log * LOG_WORDS + (place.at + 1 + 0) + words_for len)
  zeros_put = zero_row place.log (place.at + 1) (words_for len) 0 headed next.0 not_sealed (omega arith) (omega arith)

  -- the state after the puts
  puts_made : after_events s (first ∷ zero_puts place (words_for len)) ≡ record s { word = zeros_put.word }
  puts_made = made_first s first (zero_puts place (words_for len)) first_legal ∙ zeros_put.state

  -- they succeed
  puts_succeed : AllSucceed s (first ∷ zero_puts place (words_for len))
  puts_succeed = first_succeeds s first (zero_puts place (words_for len)) first_legal tt zeros_put.succeed

  -- the header stands where it was put
  head_put : zeros_put.word (addr place) ≡ head_word p len ds
  head_put = zeros_put.same (addr place) (inl (omega arith)) ∙ put_same s.word (place.log * LOG_WORDS + place.at) (head_word p len ds) (addr place) refl

  -- zeros stand behind it
  zeros_there : (i : ℕ) → i < words_for len → zeros_put.word (addr place + 1 + i) ≡ 0
  zeros_there i lt = zeros_put.zeroed (addr place + 1 + i) (omega arith) (omega arith)

  -- ---- the cell is named and adopted
  module _ (word : ℕ → ℕ) (head_is : word (addr place) ≡ head_word p len ds) (blank : (i : ℕ) → i < words_for len → word (addr place + 1 + i) ≡ 0) where
    -- the state after the puts
    abbrev filled : State
    filled = record s { word = word }

    -- the state after the naming
    abbrev placed : State
    placed = with_span filled p new len place

    -- the state after the adoption
    abbrev adopted : State
    adopted = record placed { used = put s.used p true }

    -- the naming is legal
    name_legal : is_legal filled (Name p 0 new) ≡ true
    name_legal = is_test filled (Name p 0 new) (in_range, (Places len ds place, (unused, says), (record { next = next; head = head_is }, blank)))

    -- it takes the span
    named_so : after filled (Name p 0 new) ≡ placed
    named_so =
        ap (λ b. cond b (after_naming filled p new (naming_of (read_of 0) (read_of new))) filled) (eq-eqb (s.cell p) 0 empty)
        ∙ ap (after_naming filled p new) (naming_only (Places len ds place) (read_of 0) (read_of new) (unused, says))

    -- it wins
    name_done : answer filled (Name p 0 new) ≡ Done
    name_done = ap (λ b. cond b Done (Word (s.cell p))) (eq-eqb (s.cell p) 0 empty)

    -- the cell says where the object lies
    new_read : read_of (placed.cell p) ≡ Some (Near len ds place (unmarked true))
    new_read = ap read_of (put_same s.cell p new p refl) ∙ says

    -- the adoption is legal
    adopt_legal : is_legal placed (Adopt m p) ≡ true
    adopt_legal = is_test placed (Adopt m p) (mutator, owner, not_used, ap in_use new_read)

    -- the state after both
    pub taking_made : after_events filled (Name p 0 new ∷ Adopt m p ∷ []) ≡ adopted
    taking_made = made_first filled (Name p 0 new) (Adopt m p ∷ []) name_legal ∙ ap (λ t. after_events t (Adopt m p ∷ [])) named_so ∙ made_first placed (Adopt m p) [] adopt_legal

    -- the naming and the adoption succeed
    pub taking_succeeds : AllSucceed filled (Name p 0 new ∷ Adopt m p ∷ [])
    taking_succeeds = first_succeeds filled (Name p 0 new) (Adopt m p ∷ []) name_legal (subst (Succeeds (Name p 0 new)) (sym name_done) tt)
        (subst (λ t. AllSucceed t (Adopt m p ∷ [])) (sym named_so) (first_succeeds placed (Adopt m p) [] adopt_legal tt tt))

    -- each named pointer is used, the new one too
    all_named : Between s → (q : ℕ) → adopted.cell q ≢ 0 → adopted.used q ≡ true
    all_named between q ne = elim (cases_eq q p) [
      | inl e ↦ put_same s.used p true q e
      | inr other ↦ (put_other s.used p true q other ∙ between.named q (λ z. ne (put_other s.cell p new q other ∙ z)))
    ]

    -- so they leave what holds between commands
    pub taking_between : Between s → Between adopted
    taking_between between = record { named = all_named between }

  -- the events of a new object
  abbrev row : List Event
  row = (first ∷ zero_puts place (words_for len)) ++ Name p 0 new ∷ Adopt m p ∷ []

  -- the events of a new object succeed
  pub new_succeeds : AllSucceed s row
  new_succeeds = AllSucceed-append s (first ∷ zero_puts place (words_for len)) (Name p 0 new ∷ Adopt m p ∷ []) puts_succeed
      (subst (λ t. AllSucceed t (Name p 0 new ∷ Adopt m p ∷ [])) (sym puts_made) (taking_succeeds zeros_put.word head_put zeros_there))

  -- the puts make a header and a row of zeros
  puts_row : zeros_put.word ≡ with_row (put s.word (addr place) (head_word p len ds)) (addr place + 1) (words_for len) (λ _. 0)
  puts_row = row_is (put s.word (addr place) (head_word p len ds)) zeros_put.word (addr place + 1) (words_for len) (λ _. 0)
      (λ k low high. zeros_put.zeroed k (omega arith) (omega arith)) (λ k out. zeros_put.same k (outside k out)) where
        outside : (k : ℕ) → (k < addr place + 1) ⊎ (addr place + 1 + words_for len ≤ k) →
            (k < place.log * LOG_WORDS + (place.at + 1 + 0)) ⊎ (place.log * LOG_WORDS + (place.at + 1 + 0) + words_for len ≤ k)
        outside k (inl low) = inl (omega arith)
        outside k (inr high) = inr (omega arith)

  -- the events of a new object end in the state that has it
  pub new_end : after_events s row ≡ record (with_span record s { word = with_row (put s.word (addr place) (head_word p len ds)) (addr place + 1) (words_for len) (λ _. 0) } p new len place) { used = put s.used p true }
  new_end = made-append s (first ∷ zero_puts place (words_for len)) (Name p 0 new ∷ Adopt m p ∷ []) ∙ ap (λ t. after_events t (Name p 0 new ∷ Adopt m p ∷ [])) puts_made
      ∙ taking_made zeros_put.word head_put zeros_there ∙ ap (λ (f : ℕ → ℕ). record (with_span record s { word = f } p new len place) { used = put s.used p true }) puts_row

  -- and they leave what holds between commands
  pub new_between : Between s → Between (after_events s row)
  new_between between =
      let end : after_events s row ≡ record (with_span record s { word = zeros_put.word } p new len place) { used = put s.used p true } =
      made-append s (first ∷ zero_puts place (words_for len)) (Name p 0 new ∷ Adopt m p ∷ []) ∙ ap (λ t. after_events t (Name p 0 new ∷ Adopt m p ∷ [])) puts_made
      ∙ taking_made zeros_put.word head_put zeros_there in
      subst Between (sym end) (taking_between zeros_put.word head_put zeros_there between)

  -- the words once a header and zeros are written
  abbrev blank_word : ℕ → ℕ
  blank_word = with_row (put s.word (addr place) (head_word p len ds)) (addr place + 1) (words_for len) (λ _. 0)

  blank_head : blank_word (addr place) ≡ head_word p len ds
  blank_head = sym (ap (λ (f : ℕ → ℕ). f (addr place)) puts_row) ∙ head_put

  blank_zeros : (i : ℕ) → i < words_for len → blank_word (addr place + 1 + i) ≡ 0
  blank_zeros i lt = sym (ap (λ (f : ℕ → ℕ). f (addr place + 1 + i)) puts_row) ∙ zeros_there i lt

  -- so does what a book and its owner make
  pub object_is : new ≡ near_word true len ds place → after (placed_by s p len ds place) (Adopt m p) ≡ record (with_span record s { word = blank_word } p new len place) { used = put s.used p true }
  object_is is = ap (λ w. after (after record s { word = blank_word } (Name p 0 w)) (Adopt m p)) (sym is) ∙ ap (λ t. after t (Adopt m p)) (named_so blank_word blank_head blank_zeros)

  -- and the book's placing with the owner's event
  pub placed_end : new ≡ near_word true len ds place → (step_of (placed_by s p len ds place) (Adopt m p)).0 ≡ record (with_span record s { word = blank_word } p new len place) { used = put s.used p true }
  placed_end is =
      ap (λ w. (step_of (after record s { word = blank_word } (Name p 0 w)) (Adopt m p)).0) (sym is)
      ∙ ap (λ t. (step_of t (Adopt m p)).0) (named_so blank_word blank_head blank_zeros)
      ∙ made_first (placed blank_word blank_head blank_zeros) (Adopt m p) [] (adopt_legal blank_word blank_head blank_zeros)
