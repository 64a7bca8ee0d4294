-- Records by their index, where one has been written.
use Rattle.std.proofs.Common.{◌≡◌, ◌≢◌, ℕ, ◌+◌, ◌*◌, ◌/◌, ◌%◌, ◌<◌, ◌≤◌, true, Some, None, List, length, take, drop, sym, ◌∙◌, ap, subst, inl, inr, arith}
use Rattle.std.proofs.lemmas.Bool.{cases_eq, cases_lt}
use Rattle.std.proofs.Math.Nat.{div-lt_iff_lt-mul, div-add-mod, mul_comm, add-mul, mul-le-mul_right}
use Rattle.std.proofs.lemmas.Nat.{div-mul-add, mod-mul-add}
use Rattle.std.specs.Prelude.{IfSome, slice_index}
use Rattle.far_objects.specs.Far.{Far, Known, Writes, with_range, barred}
use Rattle.far_array.specs.Rows.{bytes_of, row}
use Rattle.far_array.specs.Places.{Placed, Wrote}
use Rattle.far_array.proofs.Pieces.{at_itself, before_it, after_it, piece_of, step_below}
use Rattle.far_array.proofs.Reached.{free}

pub place_low : (i per n : ℕ) → 0 < per → i < per * n → i / per < n
place_low i per n some low = (div-lt_iff_lt-mul {k = per} {x = i} {y = n} some).1 (omega arith)

pub same_index : (k i per : ℕ) → k / per ≡ i / per → k % per ≡ i % per → k ≡ i
same_index k i per e f = sym (div-add-mod k per) ∙ (λ j. per * e j + f j) ∙ div-add-mod i per

-- further on in the same block
pub shifted : (i k per : ℕ) → i % per + k < per → ((i + k) / per ≡ i / per) × ((i + k) % per ≡ i % per + k)
shifted i k per l =
    let e : i + k ≡ (i / per) * per + (i % per + k) = omega (arith, div-add-mod i per, mul_comm per (i / per)) in
    (ap (λ n. n / per) e ∙ div-mul-add (i / per) per (i % per + k) l, ap (λ n. n % per) e ∙ mod-mul-add (i / per) per (i % per + k) l)

-- a record's bytes are within its object
pub within : (i per size : ℕ) → 0 < per → (i % per) * size + size ≤ per * size
within i per size some = step_below (i % per) per size (omega arith)

-- a record that isn't written
pub piece_other : (size : ℕ) (bytes : List ℕ) → length bytes ≡ size → (xs : List ℕ) (a b : ℕ) → b ≢ a → a * size + length bytes ≤ length xs →
    take size (drop (b * size) (with_range xs (a * size) bytes)) ≡ take size (drop (b * size) xs)
piece_other size bytes long xs a b ne inside = elim (cases_lt b a) [
  | inl below ↦ before_it xs bytes (a * size) (b * size) size inside (step_below b a size below)
  | inr above ↦ after_it xs bytes (a * size) (b * size) size inside (let m = step_below a b size (omega arith) in omega (arith, m, long))
]

module _ (f : Far) (hs : List ℕ) (per size i : ℕ) (placed : Placed f hs per size) (low : i < per * length hs) where
  pub its_size : (h : ℕ) → h ≡ slice_index hs (i / per) → f.sizes h ≡ Some (per * size)
  its_size h named = ap f.sizes named ∙ placed.held (i / per) (place_low i per (length hs) placed.some low)

  -- it isn't barred
  pub unbarred : (h from n : ℕ) → h ≡ slice_index hs (i / per) → from ≡ (i % per) * size → n ≡ size → barred (f.sizes h) from n ≡ None
  unbarred h from n named at long = free (f.sizes h) (per * size) from n (its_size h named) (omega (arith, long, placed.sized)) (omega (arith, at, long, within i per size placed.some))

  -- so many are read
  module _ (n : ℕ) (one : i % per + n ≤ per) where
    room : (i % per) * size + n * size ≤ per * size
    room = let m : (i % per + n) * size ≤ per * size = mul-le-mul_right size one in omega (arith, m, add-mul (i % per) n size)

    pub unbarred_all : (h from m : ℕ) → 0 < n → h ≡ slice_index hs (i / per) → from ≡ (i % per) * size → m ≡ n * size → barred (f.sizes h) from m ≡ None
    unbarred_all h from m some named at long =
        let less : 1 * size ≤ n * size = mul-le-mul_right {m = 1} {n = n} size (omega (arith, some)) in
        free (f.sizes h) (per * size) from m (its_size h named) (omega (arith, long, less, placed.sized)) (omega (arith, at, long, room))

    pub read_all : (h from m : ℕ) (out : List ℕ) → Known f → h ≡ slice_index hs (i / per) → from ≡ (i % per) * size → m ≡ n * size → f.honest ≡ true →
        IfSome (f.bytes h) (λ bytes. out ≡ take m (drop from bytes)) → (k : ℕ) → k < n → take size (drop (k * size) out) ≡ row f hs per size (i + k)
    read_all h from m out known named at long o told = λ k l.
        let w = (known h (per * size) (its_size h named)).known o in
        let e : out ≡ take m (drop from w.0) = subst (λ x. IfSome x (λ bytes. out ≡ take m (drop from bytes))) w.1 told in
        let s = shifted i k per (omega (arith, one)) in
        ap (λ xs. take size (drop (k * size) xs)) (e ∙ (λ j. take (long j) (drop (at j) w.0)))
        ∙ piece_of w.0 ((i % per) * size) (k * size) (n * size) size (step_below k n size l)
        ∙ ap (λ j. take size (drop j w.0)) (sym (add-mul (i % per) k size) ∙ ap (λ j. j * size) (sym s.1))
        ∙ ap (λ b. take size (drop (((i + k) % per) * size) (bytes_of b))) (sym w.1 ∙ ap f.bytes named)
        ∙ ap (λ j. take size (drop (((i + k) % per) * size) (bytes_of (f.bytes (slice_index hs j))))) (sym s.0)

-- what stands first in what was read is the record
pub first_row : (f : Far) (hs : List ℕ) (per size i : ℕ) (out : List ℕ) → ((k : ℕ) → k < 1 → take size (drop (k * size) out) ≡ row f hs per size (i + k)) → take size out ≡ row f hs per size i
first_row f hs per size i out each =
    ap (λ k. take size (drop k out)) (no_times size) ∙ each 0 (omega arith) ∙ ap (row f hs per size) (no_more i)
  where
    no_times : (n : ℕ) → 0 ≡ 0 * n
    no_times n = omega arith

    no_more : (n : ℕ) → n + 0 ≡ n
    no_more n = omega arith

module _ (f g : Far) (hs : List ℕ) (per size i : ℕ) (bytes : List ℕ) (known : Known f) (placed : Placed f hs per size) (low : i < per * length hs) (long : length bytes ≡ size)
    (writes : Writes (slice_index hs (i / per)) ((i % per) * size) bytes f g) where
  block_low : (k : ℕ) → k < per * length hs → k / per < length hs
  block_low k l = place_low k per (length hs) placed.some l

  -- what the object was
  was : f.honest ≡ true → (xs : List ℕ) × (f.bytes (slice_index hs (i / per)) ≡ Some xs) × (length xs ≡ per * size)
  was o = (known (slice_index hs (i / per)) (per * size) (placed.held (i / per) (block_low i low))).known o

  inside : (i % per) * size + length bytes ≤ per * size
  inside = omega (arith, within i per size placed.some, long)

  itself : f.honest ≡ true → row g hs per size i ≡ bytes
  itself o =
      let w = was o in
      ap (λ x. take size (drop ((i % per) * size) (bytes_of x))) (writes.bytes o w.0 w.1)
      ∙ at_itself w.0 bytes ((i % per) * size) size (omega (arith, w.2, inside)) long

  others : f.honest ≡ true → (k : ℕ) → k ≢ i → k < per * length hs → row g hs per size k ≡ row f hs per size k
  others o k ne l = elim (cases_eq (k / per) (i / per)) [
    | inl same ↦
        let w = was o in
        let h : slice_index hs (k / per) ≡ slice_index hs (i / per) = ap (slice_index hs) same in
        let apart : k % per ≢ i % per = λ e. ne (same_index k i per same e) in
        ap (λ x. take size (drop ((k % per) * size) (bytes_of (g.bytes x)))) h
        ∙ ap (λ b. take size (drop ((k % per) * size) (bytes_of b))) (writes.bytes o w.0 w.1)
        ∙ piece_other size bytes long w.0 (i % per) (k % per) apart (omega (arith, w.2, inside))
        ∙ ap (λ b. take size (drop ((k % per) * size) (bytes_of b))) (sym w.1)
        ∙ ap (λ x. take size (drop ((k % per) * size) (bytes_of (f.bytes x)))) (sym h)
    | inr other ↦
        ap (λ b. take size (drop ((k % per) * size) (bytes_of b)))
        (writes.others.bytes (slice_index hs (k / per)) (λ e. other (placed.apart (k / per) (i / per) (block_low k l) (block_low i low) e)))
  ]

  still : Placed g hs per size
  still = record {
    sized = placed.sized;
    all = placed.all;
    some = placed.some;
    fits = placed.fits;
    held = λ j l. elim (cases_eq j (i / per)) [
      | inl e ↦ ap (λ k. g.sizes (slice_index hs k)) e ∙ writes.size ∙ placed.held (i / per) (block_low i low)
      | inr ne ↦ writes.others.sizes (slice_index hs j) (λ e. ne (placed.apart j (i / per) l (block_low i low) e)) ∙ placed.held j l
    ];
    apart = placed.apart;
  }

  pub wrote : Wrote i bytes f g hs hs per size
  wrote = record { honest = writes.others.honest; placed = still; itself = itself; others = others }
