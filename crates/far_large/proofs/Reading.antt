-- Parts looked at and read one by one.
use Rattle.std.proofs.Common.{◌≡◌, ◌≢◌, ℕ, ◌+◌, ◌-◌, ◌*◌, ◌/◌, ◌%◌, ◌<◌, ◌≤◌, min, Bool, true, Option, Some, None, List, ◌++◌, length, take, drop, refl, sym, ◌∙◌, ap, subst, arith, IfSome}
use Rattle.std.proofs.lemmas.List.{drop-drop, drop-take, length-append, length-drop, length-take, take-take}
use Rattle.std.proofs.lemmas.Bool.{le-leb, lt-ltb}
use Rattle.std.proofs.lemmas.Nat.{div-add-mod'}
use Rattle.std.proofs.lemmas.Slice.{take-put_mid}
use Rattle.std.proofs.Math.Seq.{take-add}
use borrow.Rule.Slice.PartMut.{put_mid}
use Rattle.far_word.specs.declared.refused.Refused.{Refused}
use Rattle.far_word.specs.declared.refused.Refused.TheVariants.{NotHeld, Range}
use Rattle.far_objects.specs.declared.objects.TheConstants.{MOST}
use Rattle.far_objects.specs.Far.{Far, barred}
use Rattle.far_large.specs.Parts.{HasParts, IsWhyMissed, IsWhyNotRead, Parts, Stands, number_of, part_len, part_of}

pub differ : (n m : ℕ) (o : Option ℕ) → Some n ≡ o → o ≡ Some m → n ≢ m → ⊥
differ n m o e f ne = ne (same (e ∙ f))
  where
    same : Some n ≡ Some m → n ≡ m
    same g = cc

-- ---- a range that is in an object
pub is_open : (len from count : ℕ) → 0 < count → from + count ≤ len → barred (Some len) from count ≡ None
is_open len from count some within = rw (lt-ltb 0 count some, le-leb (from + count) len within) refl

-- ---- where a byte of a value is
inside_both : (m len q r at count : ℕ) → q + r ≡ at → at + count ≤ len → r + count ≤ m → r + count ≤ min m (len - q)
inside_both m len q r at count e inside fits = omega arith

pieces_of : (m count q r at : ℕ) (xs : List ℕ) → q + r ≡ at → r + count ≤ m → take count (drop r (take m (drop q xs))) ≡ take count (drop at xs)
pieces_of m count q r at xs e fits =
    let rest : m ≡ r + (m - r) = omega arith in
    ap (λ k. take count (drop r (take k (drop q xs)))) rest ∙ ap (take count) (drop-take r (m - r) (drop q xs)) ∙ take-take count (m - r) (drop r (drop q xs)) (omega arith)
    ∙ ap (take count) (drop-drop r q xs ∙ ap (λ n. drop n xs) e)

-- a range of a list, as code writes it
pub long_range : (a count : ℕ) (xs : List ℕ) → a + count ≤ length xs → length (take (a + count - a) (drop a xs)) ≡ count
long_range a count xs h = simp (length-take, length-drop) (omega arith)

pub long_mid : (a k : ℕ) (xs ys : List ℕ) → a + k ≤ length xs → length ys ≡ k → length (put_mid a k xs ys) ≡ length xs
long_mid a k xs ys h e = simp (length-append, length-take, length-drop) (omega arith)

-- what is read in one part doesn't pass its end
within_part : (m len at count : ℕ) → 0 < m → at + count ≤ len → at % m + count ≤ m → at % m + count ≤ min m (len - at / m * m)
within_part m len at count some inside fits = inside_both m len (at / m * m) (at % m) at count (div-add-mod' at m) inside fits

-- bytes of a part are those of the value, from there on
part_read : (m at count : ℕ) (xs : List ℕ) → 0 < m → at % m + count ≤ m → take count (drop (at % m) (take m (drop (at / m * m) xs))) ≡ take count (drop at xs)
part_read m at count xs some fits = pieces_of m count (at / m * m) (at % m) at xs (div-add-mod' at m) fits

-- ---- a range read so far, and the next piece of it
pub joins : (a k count from : ℕ) (out piece xs : List ℕ) → a ≤ length out → length piece ≡ count → take a out ≡ take a (drop from xs) → piece ≡ take count (drop (from + a) xs) → take (a + count) (put_mid a k out piece) ≡ take (a + count) (drop from xs)
joins a k count from out piece xs within long before here =
    take-put_mid a k out piece (a + count) (ap (λ n. a + n) (sym long)) within
    ∙ ap (λ l. l ++ piece) before ∙ ap (λ l. take a (drop from xs) ++ l) (here ∙ ap (take count) (sym (drop-drop a from xs)))
    ∙ sym (take-add a count (drop from xs))

-- a piece of a part is one of the value
pub piece_is : (far : Far) (numbers : List ℕ) (xs piece : List ℕ) (at count n : ℕ) → far.honest ≡ true → HasParts far numbers xs → at / MOST < length numbers → at % MOST + count ≤ MOST
    → IfSome (far.bytes (number_of numbers (at / MOST))) (λ bytes. piece ≡ take n (drop (at % MOST) bytes)) → n ≡ count → piece ≡ take count (drop at xs)
unfolding part_of
piece_is far numbers xs piece at count n honest parts there fits read e =
    subst (λ o. IfSome o (λ bytes. piece ≡ take n (drop (at % MOST) bytes))) ((parts (at / MOST) there).bytes honest) read
    ∙ ap (λ n. take n (drop (at % MOST) (take MOST (drop (at / MOST * MOST) xs)))) e
    ∙ part_read MOST at count xs (omega arith) fits

-- ---- why a part wasn't read
lost : (unreached : Bool → Refused → Type 0) (far : Far) (large : Parts) (o : Option Refused) (why : Refused) → IsWhyMissed unreached far.honest o why → (Stands far large → o ≡ None) → IsWhyNotRead unreached far large None why
lost unreached far large o NotHeld missed there = (refl, λ s. missed (there s))
lost unreached far large o Range missed there = absurd missed
lost unreached far large o why missed there = (refl, missed.1)

pub not_read : (unreached : Bool → Refused → Type 0) (far : Far) (large : Parts) (at count : ℕ) (why : Refused) → at / MOST < length large.numbers → 0 < count → at + count ≤ large.len → at % MOST + count ≤ MOST
    → IsWhyMissed unreached far.honest (barred (far.sizes (number_of large.numbers (at / MOST))) (at % MOST) count) why → IsWhyNotRead unreached far large None why
unfolding part_len
not_read unreached far large at count why there some inside fits missed = lost unreached far large _ why missed
    (λ s. ap (λ o. barred o (at % MOST) count) (s (at / MOST) there) ∙ is_open (part_len large.len (at / MOST)) (at % MOST) count some (within_part MOST large.len at count (omega arith) inside fits))

-- ---- of a whole value
pub there_at : (far : Far) (large : Parts) (numbers : List ℕ) (count : ℕ) → Stands far large → large.numbers ≡ numbers → count ≤ length numbers → (i : ℕ) → i < count → (n : ℕ) × (far.sizes (number_of numbers i) ≡ Some n)
there_at far large numbers count s e few i h = (part_len large.len i, subst (λ l. far.sizes (number_of l i) ≡ Some (part_len large.len i)) e (s i (subst (λ l. i < length l) (sym e) (omega arith))))
