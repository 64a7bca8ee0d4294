-- Slots as words and the rests of their tags.
use Rattle.std.proofs.Common.{◌≡◌, ◌≢◌, ℕ, zero, suc, ◌<◌, ◌≤◌, ◌+◌, ◌*◌, ◌/◌, ◌%◌, List, [], ◌∷◌, ◌++◌, length, get_or, set, replicate, true, false, refl, sym, ◌∙◌, ap, inl, inr, arith}
use Rattle.std.specs.Prelude.{nat_le}
use Rattle.std.proofs.lemmas.Bool.{cases_eq, cases_lt}
use Rattle.std.proofs.lemmas.Bool.Decides.{nat_tests}
use Rattle.std.proofs.lemmas.Grind.{get_or_default_zero}
use Rattle.far_index.specs.declared.slot.Slot.{Slot}
use Rattle.far_index.specs.declared.slot.Slot.TheVariants.{Empty, Gone, Full}
use Rattle.far_index.specs.declared.slot.Met.TheVariants.{Tag}
use Rattle.far_index.specs.Slots.{slot_of, slots_of, slot_at, IsTag}

pub full_empty : (t h : ℕ) → Full t h ≡ Empty → ⊥
full_empty t h e = cc

gone_full : (t h : ℕ) → Gone ≡ Full t h → ⊥
gone_full t h e = cc

gone_empty : Gone ≡ Empty → ⊥
gone_empty e = cc

pub full_tag : (t h u k : ℕ) → Full t h ≡ Full u k → t ≡ u
full_tag t h u k e = cc

pub full_number : (t h u k : ℕ) → Full t h ≡ Full u k → h ≡ k
full_number t h u k e = cc

pub met_number : (h k : ℕ) → Tag h ≡ Tag k → h ≡ k
met_number h k e = cc

le_if : (a b : ℕ) → nat_le a b ≡ true → a ≤ b
le_if a b h = grind (arith, nat_tests, h)

gt_if : (a b : ℕ) → nat_le a b ≡ false → b < a
gt_if a b h = grind (arith, nat_tests, h)

-- ---- one slot
pub is_empty : (w r : ℕ) → w ≡ 0 → slot_of w r ≡ Empty
is_empty w r e = grind (arith, nat_tests)

pub is_gone : (w r : ℕ) → 0 < w → w < 4294967296 → slot_of w r ≡ Gone
is_gone w r some low = grind (arith, nat_tests)

pub is_full : (w r : ℕ) → 4294967296 ≤ w → slot_of w r ≡ Full (w / 4294967296 * 65536 + r % 65536) (w % 4294967296)
is_full w r high = grind (arith, nat_tests)

pub not_empty : (w r : ℕ) → w ≢ 0 → slot_of w r ≢ Empty
not_empty w r some e = elim (cases_lt w 4294967296) [
  | inl low ↦ gone_empty (sym (is_gone w r (omega (arith, some)) low) ∙ e)
  | inr high ↦ full_empty _ _ (sym (is_full w r high) ∙ e)
]

pub not_full : (w r t h : ℕ) → w < 4294967296 → slot_of w r ≢ Full t h
not_full w r t h low e = elim (cases_eq w 0) [
  | inl none ↦ full_empty t h (sym e ∙ is_empty w r none)
  | inr some ↦ gone_full t h (sym (is_gone w r (omega (arith, some)) low) ∙ e)
]

pub not_empty_if : (w r : ℕ) → nat_le 4294967296 w ≡ true → slot_of w r ≢ Empty
not_empty_if w r h = not_empty w r (λ e. omega (arith, e, le_if 4294967296 w h))

pub not_full_if : (w r t n : ℕ) → nat_le 4294967296 w ≡ false → slot_of w r ≢ Full t n
not_full_if w r t n h = not_full w r t n (gt_if 4294967296 w h)

-- a slot whose upper bits, or whose rest, are another tag's
pub other_upper : (w r tag h : ℕ) → w / 4294967296 ≢ tag / 65536 → slot_of w r ≢ Full tag h
other_upper w r tag h other e = elim (cases_lt w 4294967296) [
  | inl low ↦ not_full w r tag h low e
  | inr high ↦ other (omega (arith, full_tag _ _ _ _ (sym (is_full w r high) ∙ e)))
]

pub other_rest : (w r tag h : ℕ) → r ≢ tag % 65536 → r < 65536 → slot_of w r ≢ Full tag h
other_rest w r tag h other small e = elim (cases_lt w 4294967296) [
  | inl low ↦ not_full w r tag h low e
  | inr high ↦ other (omega (arith, small, full_tag _ _ _ _ (sym (is_full w r high) ∙ e)))
]

pub has_tag : (w r tag : ℕ) → IsTag tag → w / 4294967296 ≡ tag / 65536 → r ≡ tag % 65536 → slot_of w r ≡ Full tag (w % 4294967296)
has_tag w r tag is upper rest =
    is_full w r (omega (arith, is.0, upper)) ∙ ap (λ t. Full t (w % 4294967296)) (omega (arith, upper, rest))

-- ---- all slots
pub empties : (n : ℕ) → slots_of (replicate n 0) (replicate n 0) ≡ replicate n Empty
unfolding slots_of
empties zero = refl
empties (suc n) = ap (λ ss. Empty ∷ ss) (empties n)

pub so_many : (words rests : List ℕ) → length (slots_of words rests) ≡ length words
unfolding slots_of
so_many [] rests = refl
so_many (w ∷ ws) [] = ap suc (so_many ws [])
so_many (w ∷ ws) (r ∷ rs) = ap suc (so_many ws rs)

-- a slot is that of its word and its rest
pub is_slot : (words rests : List ℕ) (i : ℕ) → slot_at (slots_of words rests) i ≡ slot_of (get_or words i 0) (get_or rests i 0)
unfolding slots_of
is_slot [] rests i = refl
is_slot (w ∷ ws) [] zero = refl
is_slot (w ∷ ws) [] (suc i) = is_slot ws [] i
is_slot (w ∷ ws) (r ∷ rs) zero = refl
is_slot (w ∷ ws) (r ∷ rs) (suc i) = is_slot ws rs i

pub is_set : (words rests : List ℕ) (i word rest : ℕ) → length rests ≡ length words → slots_of (set words i word) (set rests i rest) ≡ set (slots_of words rests) i (slot_of word rest)
unfolding slots_of
is_set [] rests i word rest e = refl
is_set (w ∷ ws) [] i word rest e = absurd (omega (arith, e))
is_set (w ∷ ws) (r ∷ rs) zero word rest e = refl
is_set (w ∷ ws) (r ∷ rs) (suc i) word rest e = ap (λ ss. slot_of w r ∷ ss) (is_set ws rs i word rest (omega (arith, e)))

pub is_pushed : (words rests : List ℕ) → length rests ≡ length words → slots_of (words ++ 0 ∷ []) (rests ++ 0 ∷ []) ≡ slots_of words rests ++ Empty ∷ []
unfolding slots_of
is_pushed [] [] e = refl
is_pushed [] (r ∷ rs) e = absurd (omega (arith, e))
is_pushed (w ∷ ws) [] e = absurd (omega (arith, e))
is_pushed (w ∷ ws) (r ∷ rs) e = ap (λ ss. slot_of w r ∷ ss) (is_pushed ws rs (omega (arith, e)))

-- what stands at a place of an index
module _ (ws rs : List ℕ) (slots : List Slot) (view : slots_of ws rs ≡ slots) (even : length rs ≡ length ws) where
  pub so_long : length slots ≡ length ws
  so_long = ap length (sym view) ∙ so_many ws rs

  pub within : (i : ℕ) → i < length slots → i < length ws
  within i inside = omega (arith, inside, so_long)

  pub within_rests : (i : ℕ) → i < length slots → i < length rs
  within_rests i inside = omega (arith, inside, so_long, even)

  pub by_word : (i w : ℕ) → i < length slots → w ≡ get_or ws i w → slot_at slots i ≡ slot_of w (get_or rs i 0)
  by_word i w inside is =
      ap (λ ss. slot_at ss i) (sym view) ∙ is_slot ws rs i
      ∙ ap (λ x. slot_of x (get_or rs i 0)) (sym (is ∙ get_or_default_zero ws i w (within i inside)))

  pub by_both : (i w r : ℕ) → i < length slots → w ≡ get_or ws i w → r ≡ get_or rs i r → slot_at slots i ≡ slot_of w r
  by_both i w r inside is rest = by_word i w inside is ∙ ap (slot_of w) (sym (rest ∙ get_or_default_zero rs i r (within_rests i inside)))
