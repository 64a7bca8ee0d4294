-- What the law says of bounds, and the test of padding.
use Rattle.std.proofs.Common.{◌≡◌, ◌≢◌, ℕ, ◌+◌, ◌*◌, ◌/◌, ◌^◌, ◌<◌, ◌≤◌, true, Option, Some, None, arith, nat_eq, nat_lt, inl, inr, ap, sym, ◌∙◌, refl}
use Rattle.std.specs.Prelude.{is_some}
use Rattle.std.proofs.lemmas.Bool.{cases_lt, eq-eqb, ne_eqb, lt-ltb, le-ltb, false≢true}
use Rattle.std.proofs.lemmas.Bool.Decides.{nat_tests}
use Rattle.std.proofs.lemmas.Nat.{le-div}
use native.Mathlib.Nat.{div-eq_of_lt}
use lib.Pow.{pow_mono}
use Rattle.far_word.specs.declared.mark.Marks.{Marks}
use Rattle.far_word.specs.declared.pointer.Place.{Place}
use Rattle.far_word.specs.declared.pointer.PtrWord.TheVariants.{Near}
use Rattle.far_word.specs.declared.sizes.TheConstants.{CELLS, LOG_WORDS}
use Rattle.far_word.specs.Sizes.{words_for}
use Rattle.far_word.specs.Header.{head_of, head_word}
use Rattle.far_word.specs.Pointer.{read_of}
use Rattle.far_word.proofs.PointerLaws.{read_says}
use Rattle.far_word.proofs.HeaderLaws.{head_back}
use Rattle.far_events.specs.state.Law.{Law, head_len}
use Rattle.far_events.specs.state.State.{State, addr}
use Rattle.far_events.specs.events.Step.{holds, data_len, data_word, near_len, near_data}
use Rattle.far_events.proofs.Cells.{held_near}
use Rattle.far_word.specs.declared.header.HeadWord.{HeadWord}

-- a header that is written stands for its pointer
abbrev pub header : ℕ → ℕ → ℕ → HeadWord
header p len ds = record { pointer = p; len = len; ds = ds }

-- an option that isn't empty has a value
pub some_of : {X : Type 0} (o : Option X) → is_some o ≡ true → (x : X) × (o ≡ Some x)
some_of None h = absurd (false≢true h)
some_of (Some x) h = (x, refl)

-- what an owner holds: the place, and what the cell says of it
pub held_of : (s : State) (m p : ℕ) → holds s m p ≡ true → (place : Place) × (s.held p ≡ Some place) × (p / CELLS ≡ m)
held_of s m p h =
    let x = some_of (s.held p) (grind (arith, nat_tests)) in
    (x.0, x.1, grind (arith, nat_tests))

-- a log with words in it is one of the heap's
pub log_inside : (s : State) → Law s → (l : ℕ) → 0 < s.tail l → l < s.logs
log_inside s law l some = law.logs.log_range l (λ free. let none : s.tail l ≡ 0 = law.logs.free_tail l free in omega arith)

-- a header of a near cell is that of a span of its length
pub span_len : (s : State) → Law s → (p len ds : ℕ) (place : Place) (m : Marks) → read_of (s.cell p) ≡ Some (Near len ds place m) → head_of (s.word (addr place)) ≡ Some (header p len ds)
span_len s law p len ds place m e =
    let x = read_says (s.cell p) (Near len ds place m) (law.cells.cell_read p).0 e in
    let there = law.cells.cell_near p len ds place m e in
    let used : s.cell p ≢ 0 = (λ z. let none : 0 ≡ s.cell p = sym z in absurd (omega (arith, x.1))) in
    let within : p < CELLS * s.mutators = law.cells.cell_range p used in
    ap head_of there.head ∙ head_back (header p len ds) (record { some = omega (arith, x.0); most = omega (arith, x.0); structure = omega (arith, x.0); cell = omega (arith, law.shape.few_mutators) })

-- a near object lies in a log of the heap, with all its words
pub near_inside : (s : State) → Law s → (p len ds : ℕ) (place : Place) (m : Marks) → read_of (s.cell p) ≡ Some (Near len ds place m) →
    (place.log < s.logs) × (addr place + 1 + words_for len ≤ LOG_WORDS * s.logs) × (words_for len ≤ LOG_WORDS)
near_inside s law p len ds place m e =
    let x = read_says (s.cell p) (Near len ds place m) (law.cells.cell_read p).0 e in
    let there = law.cells.cell_near p len ds place m e in
    let span = law.spans.span (addr place) there.placed in
    let long : head_len (s.word (addr place)) ≡ len = rw (span_len s law p len ds place m e) refl in
    let log : addr place / LOG_WORDS < s.logs = log_inside s law (addr place / LOG_WORDS) (omega (arith, span.fits)) in
    let here : addr place / LOG_WORDS ≡ place.log = omega (arith, x.0) in
    (omega (arith, log, here), omega (arith, log, here, x.0), omega (arith, x.0))

-- a data word of an object that is held is a word of the heap
pub in_memory : (s : State) → Law s → (m p i : ℕ) → holds s m p ≡ true → i < words_for (data_len s p) → data_word s p i < LOG_WORDS * s.logs
in_memory s law m p i h inside =
    let x = held_of s m p h in
    let near = held_near _ x.0 (law.views.held_names p x.0 x.1) in
    let there = law.cells.cell_near p near.len near.ds x.0 near.marks near.near in
    let head = span_len s law p near.len near.ds x.0 near.marks near.near in
    let span = law.spans.span (addr x.0) there.placed in
    let long : head_len (s.word (addr x.0)) ≡ near.len = rw head refl in
    let len : data_len s p ≡ near.len = ap near_len near.near in
    let at : data_word s p i ≡ addr x.0 + 1 + i = ap (λ o. near_data o + i) near.near in
    let log : addr x.0 / LOG_WORDS < s.logs = log_inside s law (addr x.0 / LOG_WORDS) (omega (arith, span.fits)) in
    omega (arith, span.fits, law.logs.tail_end (addr x.0 / LOG_WORDS))

-- ---- padding
pub shifted_out : (w n : ℕ) → 0 < n → nat_eq (w / n) 0 ≡ nat_lt w n
shifted_out w n h = elim (cases_lt w n) [
  | inl lt ↦ eq-eqb (w / n) 0 (div-eq_of_lt lt) ∙ sym (lt-ltb w n lt)
  | inr le ↦ (let some : 1 ≤ w / n = le-div 1 w n h (omega arith) in ne_eqb (w / n) 0 (λ e. omega arith) ∙ sym (le-ltb w n le))
]

pub all_fit : (w left : ℕ) → w < 2 ^ 64 → 8 ≤ left → true ≡ nat_lt w (2 ^ (8 * left))
all_fit w left fits le = let more : 2 ^ 64 ≤ 2 ^ (8 * left) = (let h : 64 ≤ 8 * left = omega arith in pow_mono h) in sym (lt-ltb w _ (omega arith))

-- two pointers that are named back by one span are one
pub one_name : (word : ℕ → ℕ) (p q len n ds d a : ℕ) → word a ≡ head_word p len ds → word a ≡ head_word q n d → len < 2 ^ 16 → n < 2 ^ 16 → ds < 2 ^ 8 → d < 2 ^ 8 → p ≡ q
one_name word p q len n ds d a e f k l m o = omega arith
