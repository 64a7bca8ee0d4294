-- Two records that change places: one's block is made anew.
use Rattle.std.proofs.Common.{◌≡◌, ◌≢◌, ℕ, ◌+◌, ◌*◌, ◌/◌, ◌%◌, ◌<◌, ◌≤◌, true, Some, List, length, take, drop, set, refl, sym, ◌∙◌, ap, subst, inl, inr, arith, length-set, get_or-set_same, get_or-set_other}
use Rattle.std.specs.List.{swap}
use Rattle.std.specs.Prelude.{slice_index}
use Rattle.std.proofs.lemmas.Bool.{cases_eq}
use Rattle.std.proofs.lemmas.List.{set-set, set-get_or}
use Rattle.std.proofs.lemmas.List.Edits.{swap_is}
use Rattle.far_objects.specs.Far.{Far, Makes, Others}
use Rattle.far_array.specs.Rows.{bytes_of, row, rows, rows_of}
use Rattle.far_array.specs.Places.{IsMadeAnew, IsPieced, Kept, Placed, Remade, Sound, Wrote}
use Rattle.far_array.proofs.Growing.{kept, none_size, not_there, then_others}
use Rattle.far_array.proofs.Lists.{at_row, kept_rows, len_of_rows, set_rows}
use Rattle.far_array.proofs.Pieces.{at_itself}
use Rattle.far_array.proofs.Written.{piece_other, place_low, same_index, within}

module _ (f g : Far) (hs : List ℕ) (per size i h : ℕ) (bytes all : List ℕ) (placed : Placed f hs per size) (low : i < per * length hs) (long : length bytes ≡ size) (makes : Makes h all f g)
    (all_long : length all ≡ per * size) (is : f.honest ≡ true → IsPieced f (slice_index hs (i / per)) ((i % per) * size) bytes all (per * size)) where
  block_low : (k : ℕ) → k < per * length hs → k / per < length hs
  block_low k l = place_low k per (length hs) placed.some l

  away : (j : ℕ) → j < length hs → slice_index hs j ≢ h
  away = not_there f hs per size h placed makes.fresh

  at_same : (j : ℕ) → j ≡ i / per → slice_index (set hs (i / per) h) j ≡ h
  at_same j e = ap (slice_index (set hs (i / per) h)) e ∙ get_or-set_same hs (i / per) h 0 (block_low i low)

  at_other : (j : ℕ) → j ≢ i / per → slice_index (set hs (i / per) h) j ≡ slice_index hs j
  at_other j ne = get_or-set_other hs (i / per) j h 0 ne

  as_low : (j : ℕ) → j < length (set hs (i / per) h) → j < length hs
  as_low j l = omega (arith, l, length-set hs (i / per) h)

  remade_placed : Placed g (set hs (i / per) h) per size
  remade_placed = record {
    sized = placed.sized;
    all = placed.all;
    some = placed.some;
    fits = placed.fits;
    held = λ j l. elim (cases_eq j (i / per)) [
      | inl e ↦ ap g.sizes (at_same j e) ∙ makes.size ∙ ap (λ n. Some n) all_long
      | inr ne ↦ ap g.sizes (at_other j ne) ∙ makes.others.sizes (slice_index hs j) (away j (as_low j l)) ∙ placed.held j (as_low j l)
    ];
    apart = λ j k l m same. elim (cases_eq j (i / per)) [
      | inl e ↦ elim (cases_eq k (i / per)) [
        | inl d ↦ e ∙ sym d
        | inr nd ↦ absurd (away k (as_low k m) (sym (at_other k nd) ∙ sym same ∙ at_same j e))
      ]
      | inr ne ↦ elim (cases_eq k (i / per)) [
        | inl d ↦ absurd (away j (as_low j l) (sym (at_other j ne) ∙ same ∙ at_same k d))
        | inr nd ↦ placed.apart j k (as_low j l) (as_low k m) (sym (at_other j ne) ∙ same ∙ at_other k nd)
      ]
    ];
  }

  inside : (i % per) * size + length bytes ≤ per * size
  inside = omega (arith, within i per size placed.some, long)

  itself : f.honest ≡ true → row g (set hs (i / per) h) per size i ≡ bytes
  itself o =
      let w = is o in
      ap (λ x. take size (drop ((i % per) * size) (bytes_of (g.bytes x)))) (at_same (i / per) refl)
      ∙ ap (λ b. take size (drop ((i % per) * size) (bytes_of b))) (makes.bytes o ∙ ap (λ xs. Some xs) w.3)
      ∙ at_itself w.0 bytes ((i % per) * size) size (omega (arith, w.2, inside)) long

  others : f.honest ≡ true → (k : ℕ) → k ≢ i → k < per * length hs → row g (set hs (i / per) h) per size k ≡ row f hs per size k
  others o k ne l = elim (cases_eq (k / per) (i / per)) [
    | inl same ↦
        let w = is o in
        ap (λ x. take size (drop ((k % per) * size) (bytes_of (g.bytes x)))) (at_same (k / per) same)
        ∙ ap (λ b. take size (drop ((k % per) * size) (bytes_of b))) (makes.bytes o ∙ ap (λ xs. Some xs) w.3)
        ∙ piece_other size bytes long w.0 (i % per) (k % per) (λ e. ne (same_index k i per same e)) (omega (arith, w.2, inside))
        ∙ ap (λ b. take size (drop ((k % per) * size) (bytes_of b))) (sym w.1)
        ∙ ap (λ j. take size (drop ((k % per) * size) (bytes_of (f.bytes (slice_index hs j))))) (sym same)
    | inr other ↦
        ap (λ x. take size (drop ((k % per) * size) (bytes_of (g.bytes x)))) (at_other (k / per) other)
        ∙ ap (λ b. take size (drop ((k % per) * size) (bytes_of b))) (makes.others.bytes (slice_index hs (k / per)) (away (k / per) (block_low k l)))
  ]

  remade_wrote : Wrote i bytes f g hs (set hs (i / per) h) per size
  remade_wrote = record { honest = makes.others.honest; placed = remade_placed; itself = itself; others = others }

pub remade : (f g : Far) (hs gs : List ℕ) (per size i was : ℕ) (bytes all : List ℕ) → Placed f hs per size → i < per * length hs → length bytes ≡ size → length all ≡ per * size →
    was ≡ slice_index hs (i / per) → (f.honest ≡ true → IsPieced f was ((i % per) * size) bytes all (per * size)) → IsMadeAnew (i / per) all f g hs gs → Remade i was bytes f g hs gs per size
remade f g hs gs per size i was bytes all placed low long all_long named is anew = record {
  number = anew.number;
  named = named;
  later_is = anew.later_is;
  fresh = anew.makes.fresh;
  others = anew.makes.others;
  wrote = subst (λ xs. Wrote i bytes f g hs xs per size) (sym anew.later_is)
      (remade_wrote f g hs per size i anew.number bytes all placed low long anew.makes all_long (λ o. subst (λ k. IsPieced f k ((i % per) * size) bytes all (per * size)) named (is o)));
}

-- ---- after it
module _ (f g : Far) (hs gs : List ℕ) (per size i was : ℕ) (bytes : List ℕ) (placed : Placed f hs per size) (low : i < per * length hs) (r : Remade i was bytes f g hs gs per size) where
  pub as_many : length gs ≡ length hs
  as_many = ap (λ (xs : List ℕ). length xs) r.later_is ∙ length-set hs (i / per) r.number

  pub block_within : i / per < length gs
  block_within = omega (arith, as_many, place_low i per (length hs) placed.some low)

  pub its_number : slice_index gs (i / per) ≡ r.number
  its_number = ap (λ xs. slice_index xs (i / per)) r.later_is ∙ get_or-set_same hs (i / per) r.number 0 (place_low i per (length hs) placed.some low)

  pub is_back : set gs (i / per) was ≡ hs
  is_back = ap (λ xs. set xs (i / per) was) r.later_is ∙ set-set hs (i / per) r.number was ∙ ap (set hs (i / per)) r.named ∙ set-get_or hs (i / per) 0

  -- the old block is none of them
  not_old : (j : ℕ) → j < length gs → slice_index gs j ≢ was
  not_old j l e = elim (cases_eq j (i / per)) [
    | inl same ↦
        none_size (per * size) (f.sizes was) (ap f.sizes (sym e ∙ ap (slice_index gs) same ∙ its_number) ∙ r.fresh)
        (ap f.sizes r.named ∙ placed.held (i / per) (place_low i per (length hs) placed.some low))
    | inr ne ↦
        ne (placed.apart j (i / per) (omega (arith, l, as_many)) (place_low i per (length hs) placed.some low)
        (sym (get_or-set_other hs (i / per) j r.number 0 ne) ∙ ap (λ xs. slice_index xs j) (sym r.later_is) ∙ e ∙ r.named))
  ]

  pub old_gone : (m n : Far) → Placed m gs per size → Others was m n → Kept m n gs gs per size
  old_gone m n there others = kept m n gs per size was there not_old others

  pub room_of_it : (len : ℕ) → len ≤ per * length hs → len ≤ per * length gs
  room_of_it len room = subst (λ n. len ≤ per * n) (sym as_many) room

-- an array of as many blocks
pub still_sound : (f g : Far) (hs gs : List ℕ) (per size len : ℕ) → length gs ≡ length hs → Placed g gs per size → Sound f hs per size len → Sound g gs per size len
still_sound f g hs gs per size len e placed sound =
    let rooms : per * length gs ≡ per * length hs = ap (λ n. per * n) e in
    record { placed = placed; room = omega (arith, rooms, sound.room); few = omega (arith, rooms, sound.few); count = omega (arith, e, sound.count) }

-- ---- both are written
module _ (f g m n : Far) (hs gs ks : List ℕ) (per per1 per2 size size1 size2 len len2 i j was : ℕ) (one two : List ℕ) (sound : Sound f hs per size len) (low : i < len) (also : j < len)
    (r : Remade i was one f g hs gs per size) (p1 : per1 ≡ per) (s1 : size1 ≡ size) (p2 : per2 ≡ per) (s2 : size2 ≡ size) (l2 : len2 ≡ len) where
  i_within : i < per * length hs
  i_within = omega (arith, low, sound.room)

  many : length gs ≡ length hs
  many = as_many f g hs gs per size i was one sound.placed i_within r

  pub placed_1 : Placed g gs per1 size1
  placed_1 = subst (λ (x : ℕ × ℕ). Placed g gs x.0 x.1) (λ k. (sym p1 k, sym s1 k)) r.wrote.placed

  pub j_within_1 : j < per1 * length gs
  j_within_1 = subst (λ x. j < x * length gs) (sym p1) (let w : len ≤ per * length gs = room_of_it f g hs gs per size i was one sound.placed i_within r len sound.room in omega (arith, w, also))

  module _ (same : ks ≡ gs) (wrote : Wrote j two g m gs ks per1 size1) (others : Others was m n) where
    w : Wrote j two g m gs gs per size
    w = subst (λ (x : List ℕ × ℕ × ℕ). Wrote j two g m gs x.0 x.1 x.2) (λ k. (same k, p1 k, s1 k)) wrote

    gone : Kept m n gs gs per size
    gone = old_gone f g hs gs per size i was one sound.placed i_within r m n w.placed others

    pub done_honest : n.honest ≡ f.honest
    done_honest = gone.honest ∙ w.honest ∙ r.wrote.honest

    pub done_long : length ks ≡ length hs
    done_long = ap (λ (xs : List ℕ). length xs) same ∙ many

    pub done_sound : Sound n ks per2 size2 len2
    done_sound = subst (λ (x : List ℕ × ℕ × ℕ × ℕ). Sound n x.0 x.1 x.2 x.3) (λ k. (sym same k, sym p2 k, sym s2 k, sym l2 k)) (still_sound f n hs gs per size len many gone.placed sound)

    pub done_rows : f.honest ≡ true → rows n ks per2 size2 len2 ≡ set (set (rows f hs per size len) i one) j two
    done_rows o =
        let room = room_of_it f g hs gs per size i was one sound.placed i_within r len sound.room in
        (λ k. rows n (same k) (p2 k) (s2 k) (l2 k))
        ∙ kept_rows m n gs gs per size len room gone
        ∙ set_rows j two g m gs gs per size len also room (r.wrote.honest ∙ o) w
        ∙ ap (λ xs. set xs j two) (set_rows i one f g hs gs per size len low sound.room o r.wrote)

  -- or neither
  module _ (ns : List ℕ) (same : ks ≡ gs) (still : m ≡ g) (back : ns ≡ set ks (i / per) was) (others : Others (slice_index ks (i / per)) m n) where
    as_before : ns ≡ hs
    as_before = back ∙ ap (λ xs. set xs (i / per) was) same ∙ is_back f g hs gs per size i was one sound.placed i_within r

    its : slice_index ks (i / per) ≡ r.number
    its = ap (λ xs. slice_index xs (i / per)) same ∙ its_number f g hs gs per size i was one sound.placed i_within r

    undone : Kept f n hs hs per size
    undone = kept f n hs per size r.number sound.placed (not_there f hs per size r.number sound.placed r.fresh)
        (then_others r.number f g n r.others (subst (λ (x : ℕ × Far). Others x.0 x.1 n) (λ k. (its k, still k)) others))

    pub undone_honest : n.honest ≡ f.honest
    undone_honest = undone.honest

    pub undone_long : length ns ≡ length hs
    undone_long = ap (λ (xs : List ℕ). length xs) as_before

    pub undone_sound : Sound n ns per2 size2 len2
    undone_sound = subst (λ (x : List ℕ × ℕ × ℕ × ℕ). Sound n x.0 x.1 x.2 x.3) (λ k. (sym as_before k, sym p2 k, sym s2 k, sym l2 k)) (still_sound f n hs hs per size len refl undone.placed sound)

    pub undone_rows : rows_of n ns per2 size2 len2 ≡ rows_of f hs per size len
    undone_rows =
        let items = (λ k. rows n (as_before k) (p2 k) (s2 k) (l2 k)) ∙ kept_rows f n hs hs per size len sound.room undone in
        λ k. record { honest = undone.honest k; size = s2 k; blocks = length (as_before k); items = items k }

swapped_rows : (f : Far) (hs : List ℕ) (per size len i j : ℕ) (one two : List ℕ) → i < len → j < len → one ≡ row f hs per size j → two ≡ row f hs per size i →
    set (set (rows f hs per size len) i one) j two ≡ swap (rows f hs per size len) i j
swapped_rows f hs per size len i j one two il jl a b =
    (λ k. set (set (rows f hs per size len) i ((a ∙ sym (at_row f hs per size len j one jl)) k)) j ((b ∙ sym (at_row f hs per size len i one il)) k))
    ∙ swap_is (rows f hs per size len) i j one (omega (arith, il, len_of_rows f hs per size len)) (omega (arith, jl, len_of_rows f hs per size len))

pub swapped_as : (f : Far) (hs : List ℕ) (per size len i j : ℕ) (one two : List ℕ) (was is : List (List ℕ)) → i < len → j < len → one ≡ row f hs per size j → two ≡ row f hs per size i →
    was ≡ rows f hs per size len → is ≡ set (set was i one) j two → is ≡ swap (rows f hs per size len) i j
swapped_as f hs per size len i j one two was is il jl a b same e = e ∙ ap (λ xs. set (set xs i one) j two) same ∙ swapped_rows f hs per size len i j one two il jl a b
