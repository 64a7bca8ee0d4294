-- What is reached of a value.
use Rattle.std.proofs.Common.{◌≡◌, ◌≢◌, ℕ, ◌+◌, ◌-◌, ◌/◌, ◌<◌, ◌≤◌, Bool, true, false, cond, Option, Some, None, List, length, take, drop, refl, sym, ap, subst, ◌∙◌, arith, inl, inr, ◌⊎◌}
use Rattle.std.specs.Prelude.{◌&&◌, nat_lt, nat_le, IfSome}
use Rattle.std.proofs.lemmas.Bool.{cases_eq, cases_lt, ltb-true, leb-true, and_parts}
use Rattle.far_word.specs.declared.refused.Refused.{Refused}
use Rattle.far_word.specs.declared.refused.Refused.TheVariants.{NotHeld, Range}
use Rattle.far_objects.specs.declared.objects.TheConstants.{MOST}
use Rattle.far_objects.specs.Far.{Far, IsWhyUnreached, Known, Makes, Writes, barred, with_range}
use Rattle.far_packed.specs.declared.near.Place.{Place}
use Rattle.far_packed.specs.declared.near.Place.TheVariants.{Open, Sealed}
use Rattle.far_packed.specs.declared.near.Slot.{Slot}
use Rattle.far_packed.specs.declared.near.TheConstants.{SLOTS}
use Rattle.far_packed.specs.Blocks.{Held, Sound, Table, block_bytes, block_len, bytes_of, far_of, from_of, is_open, len_of, or_zero, piece, place_at, shown, slot_at, some_len, with_buffer}
use Rattle.far_packed.specs.Law.{IsBlock, is_block, shown_is}
use Rattle.far_packed.proofs.Pieces.{after_it, before_it, inside_it, length_range, piece_of}
use Rattle.far_packed.proofs.Values.{bytes_apart, bytes_beside, len_apart, len_same, shown_same}

-- ---- a sealed block's object is there, so a new one isn't it
pub fresh_of : (far later : Far) (t : Table) (n : ℕ) (xs : List ℕ) → Held far t → Makes n xs far later → (b : ℕ) → place_at t.places b ≡ Sealed n → ⊥
fresh_of far later t n xs held makes b e =
    let z : or_zero (far.sizes n) ≡ 0 = ap or_zero makes.fresh in
    let l = held.there b n e in absurd (omega arith)

-- ---- when an access is barred
some_cond : (b : Bool) → ◌≡◌ {A = Option Refused} (cond b None (Some Range)) None → b ≡ true
some_cond true e = refl
some_cond false e = absurd (cc)

-- the range lies in the value
pub record IsInside (n from count : ℕ) : Type 0 where
  pub some : 0 < count
  pub within : from + count ≤ n

inside_some : (n from count : ℕ) → barred (Some n) from count ≡ None → IsInside n from count
inside_some n from count e =
    let both = and_parts (nat_lt 0 count) (nat_le (from + count) n) (some_cond (nat_lt 0 count && nat_le (from + count) n) e) in
    record { some = ltb-true 0 count both.0; within = leb-true (from + count) n both.1 }

inside_by : (n from count : ℕ) (b : Bool) → barred (cond b (Some n) None) from count ≡ None → IsInside n from count
inside_by n from count true e = inside_some n from count e
inside_by n from count false e = absurd (cc)

pub inside_of : (n from count : ℕ) → barred (some_len n) from count ≡ None → IsInside n from count
inside_of n from count e = inside_by n from count (nat_lt 0 n) e

same_why : {a b : Refused} → Some a ≡ Some b → a ≡ b
same_why e = cc

why_cond : (unreached : Bool → Refused → Type 0) (honest : Bool) (b : Bool) (why : Refused) → ◌≡◌ {A = Option Refused} (cond b None (Some Range)) (Some why) → IsWhyUnreached unreached honest (cond b None (Some Range)) why
why_cond unreached honest true why e = absurd (cc)
why_cond unreached honest false why e = subst (λ w. IsWhyUnreached unreached honest (Some Range) w) (same_why e) refl

-- what bars an access is why it is refused
pub why_barred : (unreached : Bool → Refused → Type 0) (honest : Bool) (o : Option ℕ) (from count : ℕ) (why : Refused) → barred o from count ≡ Some why → IsWhyUnreached unreached honest (barred o from count) why
why_barred unreached honest None from count why e = subst (λ w. IsWhyUnreached unreached honest (Some NotHeld) w) (same_why e) refl
why_barred unreached honest (Some n) from count why e = why_cond unreached honest (nat_lt 0 count && nat_le (from + count) n) why e

-- ---- reads
read_by : (a : Bool) (s : Slot) (o : Option (List ℕ)) (from count : ℕ) (out : List ℕ) → from + count ≤ s.len → IfSome o (λ xs. out ≡ take count (drop (s.from + from) xs))
    → IfSome (cond a (piece s.from s.len o) None) (λ bytes. out ≡ take count (drop from bytes))
read_by true s (Some xs) from count out l is = is ∙ sym (piece_of xs s.from from s.len count l)
read_by true s None from count out l is = tt
read_by false s o from count out l is = tt

-- what is read of a block there is a range of the value
pub read_piece : (honest : Bool) (s : Slot) (o : Option (List ℕ)) (from count : ℕ) (out : List ℕ) → from + count ≤ s.len → IfSome o (λ xs. out ≡ take count (drop (s.from + from) xs))
    → IfSome (shown honest s o) (λ bytes. out ≡ take count (drop from bytes))
read_piece honest s o from count out l is = read_by (honest && nat_lt 0 s.len) s o from count out l is

same_some : (a b : List ℕ) → Some a ≡ Some b → a ≡ b
same_some a b e = cc

-- what is read of the block that is filled, as code has it
pub read_open : (far : Far) (t : Table) (number from at count : ℕ) (out raw : List ℕ) → place_at t.places (number / SLOTS) ≡ Open → at ≡ from_of t number + from → raw ≡ t.buffer → from + count ≤ len_of t number
    → out ≡ take (at + count - at) (drop at raw) → IfSome (bytes_of far t number) (λ bytes. out ≡ take count (drop from bytes))
read_open far t number from at count out raw is its_at same l e =
    let back : at + count - at ≡ count = omega arith in
    let all : out ≡ take count (drop (from_of t number + from) t.buffer) = e ∙ ap (λ n. take n (drop at raw)) back ∙ ap (λ n. take count (drop n raw)) its_at ∙ ap (λ ys. take count (drop (from_of t number + from) ys)) same in
    read_piece far.honest (slot_at t number) (block_bytes far t.buffer (place_at t.places (number / SLOTS))) from count out l
    (subst (λ o. IfSome o (λ ys. out ≡ take count (drop (from_of t number + from) ys))) (sym (ap (block_bytes far t.buffer) is)) all)

pub read_sealed : (far : Far) (t : Table) (number from at count n : ℕ) (out : List ℕ) → place_at t.places (number / SLOTS) ≡ Sealed n → at ≡ from_of t number + from → from + count ≤ len_of t number
    → IfSome (far.bytes n) (λ ys. out ≡ take count (drop at ys)) → IfSome (bytes_of far t number) (λ bytes. out ≡ take count (drop from bytes))
read_sealed far t number from at count n out is its_at l e =
    read_piece far.honest (slot_at t number) (block_bytes far t.buffer (place_at t.places (number / SLOTS))) from count out l
    (subst (λ o. IfSome o (λ ys. out ≡ take count (drop (from_of t number + from) ys))) (sym (ap (block_bytes far t.buffer) is))
    (subst (λ m. IfSome (far.bytes n) (λ ys. out ≡ take count (drop m ys))) its_at e))

-- ---- writes: one block has other bytes in a range of a value
module _ (far later : Far) (t : Table) (buffer : List ℕ) (sound : Sound far t) (known : Known far) (number from : ℕ) (xs : List ℕ) (inside : IsInside (len_of t number) from (length xs)) (honest : later.honest ≡ far.honest) where
  abbrev pub rewritten : Table
  rewritten = with_buffer t buffer

  abbrev place_of : Place
  place_of = place_at t.places (number / SLOTS)

  live : 0 < len_of t number
  live = omega (arith, inside.some, inside.within)

  fits : from_of t number + len_of t number ≤ block_len far t.buffer place_of
  fits = sound.held.fits number live

  block : IsBlock far t.buffer place_of
  block = is_block far t.buffer place_of known sound.shaped.most (omega (arith, fits, live))

  -- values in order lie apart
  apart : (was : List ℕ) → length was ≡ block_len far t.buffer place_of → (k : ℕ) → k ≢ number → k / SLOTS ≡ number / SLOTS → 0 < len_of t k
      → take (len_of t k) (drop (from_of t k) (with_range was (from_of t number + from) xs)) ≡ take (len_of t k) (drop (from_of t k) was)
  apart was long k ne same some = elim (cases_lt k number) [
    | inl l ↦ (let o = sound.shaped.ordered k number l same some live in
        before_it was xs (from_of t number + from) (from_of t k) (len_of t k) (omega (arith, fits, inside.within, long)) (omega arith))
    | inr l ↦ (let m : number < k = omega arith in let o = sound.shaped.ordered number k m (sym same) live some in
        after_it was xs (from_of t number + from) (from_of t k) (len_of t k) (omega (arith, fits, inside.within, long)) (omega (arith, o, inside.within)))
  ]

  module _ (its : far.honest ≡ true → (was : List ℕ) → block_bytes far t.buffer place_of ≡ Some was → block_bytes later buffer place_of ≡ Some (with_range was (from_of t number + from) xs))
      (beside : (b : ℕ) → b ≢ number / SLOTS → block_bytes later buffer (place_at t.places b) ≡ block_bytes far t.buffer (place_at t.places b)) where
    others_by : (k : ℕ) → k ≢ number → (k / SLOTS ≡ number / SLOTS) ⊎ (k / SLOTS ≢ number / SLOTS) → far.honest ≡ true → 0 < len_of t k
        → piece (from_of t k) (len_of t k) (block_bytes later buffer (place_at t.places (k / SLOTS))) ≡ piece (from_of t k) (len_of t k) (block_bytes far t.buffer (place_at t.places (k / SLOTS)))
    others_by k ne (inl same) o some =
        let w = block.known o in
        let at = λ (f : Far) (b : List ℕ). ap (λ j. block_bytes f b (place_at t.places j)) same in
        ap (piece (from_of t k) (len_of t k)) (at later buffer ∙ its o w.0 w.1)
        ∙ ap Some (apart w.0 w.2 k ne same some)
        ∙ sym (ap (piece (from_of t k) (len_of t k)) (at far t.buffer ∙ w.1))
    others_by k ne (inr nb) o some = ap (piece (from_of t k) (len_of t k)) (beside (k / SLOTS) nb)

    other_bytes : (k : ℕ) → k ≢ number → bytes_of later rewritten k ≡ bytes_of far t k
    other_bytes k ne =
        let x = block_bytes later buffer (place_at t.places (k / SLOTS)) in
        ap (λ a. shown a (slot_at t k) x) honest
        ∙ shown_same far.honest (slot_at t k) x (block_bytes far t.buffer (place_at t.places (k / SLOTS))) (λ o some. others_by k ne (cases_eq (k / SLOTS) (number / SLOTS)) o some)

    its_bytes : far.honest ≡ true → (was : List ℕ) → bytes_of far t number ≡ Some was → bytes_of later rewritten number ≡ Some (with_range was from xs)
    its_bytes o was e =
        let w = block.known o in
        let s : Slot = slot_at t number in
        let old : Some was ≡ Some (take s.len (drop s.from w.0)) = sym e ∙ shown_is far.honest s (block_bytes far t.buffer place_of) w.0 o live w.1 in
        ap (λ a. shown a s (block_bytes later buffer place_of)) honest
        ∙ shown_is far.honest s (block_bytes later buffer place_of) (with_range w.0 (s.from + from) xs) o live (its o w.0 w.1)
        ∙ ap Some (inside_it w.0 xs s.from from s.len (omega (arith, fits, w.2)) inside.within)
        ∙ ap (λ ys. Some (with_range ys from xs)) (sym (same_some was (take s.len (drop s.from w.0)) old))

    pub writes : Writes number from xs (far_of far t) (far_of later rewritten)
    writes = record { size = refl; bytes = its_bytes; others = record { honest = honest; sizes = λ k ne. refl; bytes = other_bytes } }

-- a write to the block that is filled
module _ (far : Far) (t : Table) (sound : Sound far t) (known : Known far) (number from at : ℕ) (xs : List ℕ) (inside : IsInside (len_of t number) from (length xs))
    (is : place_at t.places (number / SLOTS) ≡ Open) (its_at : at ≡ from_of t number + from) where
  abbrev pub overwritten : List ℕ
  overwritten = with_range t.buffer at xs

  pub within : at + length xs ≤ length t.buffer
  within =
      let some : 0 < len_of t number = omega (arith, inside.some, inside.within) in
      let l : from_of t number + len_of t number ≤ length t.buffer = subst (λ p. from_of t number + len_of t number ≤ block_len far t.buffer p) is (sound.held.fits number some) in
      omega (arith, l, inside.within, its_at)

  long : length overwritten ≡ length t.buffer
  long = length_range t.buffer xs at within

  not_filled : (b : ℕ) → b ≢ number / SLOTS → is_open (place_at t.places b) ≢ true
  not_filled b ne o = ne (sound.shaped.alone b o ∙ sym (sound.shaped.alone (number / SLOTS) (ap is_open is)))

  pub overwritten_sound : Sound far (with_buffer t overwritten)
  overwritten_sound = let s = sound.shaped in record {
    shaped = record {
      room = s.room;
      few = s.few;
      current = s.current;
      open_is = s.open_is;
      alone = s.alone;
      apart = s.apart;
      ordered = s.ordered;
      live = s.live;
      used = s.used;
      unused = s.unused;
      filled = λ l. subst (λ n. 0 < n) (sym long) (s.filled l);
      most = subst (λ n. n ≤ MOST) (sym long) s.most;
    };
    held = record {
      fits = λ h l. subst (λ n. from_of t h + len_of t h ≤ n) (sym (len_same far overwritten t.buffer (place_at t.places (h / SLOTS)) long)) (sound.held.fits h l);
      there = sound.held.there;
    };
  }

  its_block : far.honest ≡ true → (was : List ℕ) → block_bytes far t.buffer (place_at t.places (number / SLOTS)) ≡ Some was
      → block_bytes far overwritten (place_at t.places (number / SLOTS)) ≡ Some (with_range was (from_of t number + from) xs)
  its_block o was e =
      let same : t.buffer ≡ was = same_some t.buffer was (sym (ap (block_bytes far t.buffer) is) ∙ e) in
      ap (block_bytes far overwritten) is ∙ ap (λ ys. Some (with_range ys at xs)) same ∙ ap (λ n. Some (with_range was n xs)) its_at

  pub overwritten_writes : Writes number from xs (far_of far t) (far_of far (with_buffer t overwritten))
  overwritten_writes = writes far far t overwritten sound known number from xs inside refl its_block
      (λ b ne. bytes_beside far overwritten t.buffer (place_at t.places b) (not_filled b ne))

-- a write to a sealed block
module _ (far later : Far) (t : Table) (sound : Sound far t) (known : Known far) (number from at n : ℕ) (xs : List ℕ) (inside : IsInside (len_of t number) from (length xs))
    (is : place_at t.places (number / SLOTS) ≡ Sealed n) (its_at : at ≡ from_of t number + from) (w : Writes n at xs far later) where
  sizes_as : (m : ℕ) → later.sizes m ≡ far.sizes m
  sizes_as m = elim (cases_eq m n) [
    | inl e ↦ ap later.sizes e ∙ w.size ∙ sym (ap far.sizes e)
    | inr ne ↦ w.others.sizes m ne
  ]

  pub sealed_sound : Sound later t
  sealed_sound = record {
    shaped = sound.shaped;
    held = record {
      fits = λ h l. subst (λ m. from_of t h + len_of t h ≤ m) (sym (len_apart far later t.buffer (place_at t.places (h / SLOTS)) (λ m e. sizes_as m))) (sound.held.fits h l);
      there = λ b m e. subst (λ o. 0 < or_zero o) (sym (sizes_as m)) (sound.held.there b m e);
    };
  }

  its_sealed : far.honest ≡ true → (was : List ℕ) → block_bytes far t.buffer (place_at t.places (number / SLOTS)) ≡ Some was
      → block_bytes later t.buffer (place_at t.places (number / SLOTS)) ≡ Some (with_range was (from_of t number + from) xs)
  its_sealed o was e =
      ap (block_bytes later t.buffer) is ∙ w.bytes o was (sym (ap (block_bytes far t.buffer) is) ∙ e) ∙ ap (λ m. Some (with_range was m xs)) its_at

  pub sealed_writes : Writes number from xs (far_of far t) (far_of later t)
  sealed_writes = writes far later t t.buffer sound known number from xs inside w.others.honest its_sealed
      (λ b ne. bytes_apart far later t.buffer (place_at t.places b) (λ m e. w.others.bytes m (λ f. ne (sound.shaped.apart b (number / SLOTS) n (e ∙ ap Sealed f) is))))
