-- Values, and the records that are read as they.
use Rattle.std.proofs.Common.{◌≡◌, ℕ, zero, suc, ◌-◌, ◌*◌, ◌<◌, ◌≤◌, Bool, Option, Some, None, List, [], ◌∷◌, length, get_or, set, map, refl, sym, ◌∙◌, ap, subst, inl, inr, arith}
use Rattle.std.specs.Prelude.{Result, Ok, Err, IfErr, IfOk, OnOk, nat_lt, if◌then◌else◌}
use Rattle.std.specs.List.{slice_get, swap}
use Rattle.std.specs.Option.{option_map}
use Rattle.std.proofs.lemmas.Bool.{cases_lt}
use Rattle.std.proofs.lemmas.Bool.Decides.{nat_tests}
use Rattle.std.proofs.lemmas.Option.{slice_get-map, slice_get-get_or}
use Rattle.std.proofs.lemmas.List.{map-set, length-map}
use Rattle.far_word.specs.declared.refused.Refused.{Refused}
use Rattle.far_word.specs.declared.refused.Refused.TheVariants.{Range}
use Rattle.far_array.specs.Rows.{Rows, has_room, per_block}
use Rattle.far_array.specs.Listed.{Listed, beyond, beyond_two, listed}
use Rattle.far_array.specs.Reasons.{IsWhy, IsWhyMissed, IsWhyUnswapped, barred_at, barred_two, wrong_length}
use Rattle.far_array.proofs.Reached.{on_ok}

beyond_is : (len size i n : ℕ) → size ≡ n → ◌≡◌ {A = Option Refused} (if nat_lt i len then wrong_length size n else Some Range) (if nat_lt i len then None else Some Range)
beyond_is len size i n e = grind (arith, nat_tests)

past_is : (len size i n : ℕ) → len ≤ i → ◌≡◌ {A = Option Refused} (if nat_lt i len then wrong_length size n else Some Range) (Some Range)
past_is len size i n e = grind (arith, nat_tests)

none_range : (o : Option Refused) → o ≡ None → o ≡ Some Range → ⊥
none_range o e f = cc

low_of : (r : Rows) (i n : ℕ) → barred_at r i n ≡ None → i < length r.items
low_of r i n e = elim (cases_lt i (length r.items)) [
  | inl low ↦ low
  | inr past ↦ absurd (none_range (barred_at r i n) e (past_is (length r.items) r.size i n past))
]

last_is : (len : ℕ) → beyond (len - 1) len ≡ beyond 0 len
last_is len = grind (arith, nat_tests)

module _ {A : Type 0} (decoded : List ℕ → A) (r : Rows) (v : Listed A) (is : listed decoded r ≡ v) where
  pub items_of : map decoded r.items ≡ v.items
  items_of = ap (λ (u : Listed A). u.items) is

  pub len_of : length r.items ≡ length v.items
  len_of = sym (length-map r.items decoded) ∙ ap (λ (xs : List A). length xs) items_of

  pub honest_of : r.honest ≡ v.honest
  honest_of = ap (λ (u : Listed A). u.honest) is

  pub blocks_of : r.blocks ≡ v.blocks
  blocks_of = ap (λ (u : Listed A). u.blocks) is

  pub bar_of : (i n : ℕ) → r.size ≡ n → barred_at r i n ≡ beyond i (length v.items)
  bar_of i n e = beyond_is (length r.items) r.size i n e ∙ ap (λ k. beyond i k) len_of

  pub done_of : {B : Type 0} → (t : Result B Refused) (i n : ℕ) → r.size ≡ n → OnOk t (barred_at r i n ≡ None) → OnOk t (beyond i (length v.items) ≡ None)
  done_of t i n e = on_ok t (barred_at r i n ≡ None) (beyond i (length v.items) ≡ None) (λ f. sym (bar_of i n e) ∙ f)

  pub why_of : {B : Type 0} → (t : Result B Refused) (u : Bool → Refused → Type 0) (i n : ℕ) → r.size ≡ n → IfErr t (IsWhy (barred_at r i n) (IsWhyMissed (u r.honest))) → IfErr t (IsWhy (beyond i (length v.items)) (IsWhyMissed (u v.honest)))
  why_of t u i n e w = subst (λ (q : Option Refused × Bool). IfErr t (IsWhy q.0 (IsWhyMissed (u q.1)))) (λ k. (bar_of i n e k, honest_of k)) w

  got_one : (i : ℕ) (x : A) → i < length r.items → x ≡ decoded (get_or r.items i []) → slice_get v.items i ≡ Some x
  got_one i x l e =
      ap (λ xs. slice_get xs i) (sym items_of) ∙ slice_get-map decoded r.items i ∙ ap (option_map decoded) (slice_get-get_or r.items i [] l) ∙ ap (λ y. Some y) (sym e)

  pub got_of : (t : Result A Refused) (i n : ℕ) → IfOk t (λ x. x ≡ decoded (get_or r.items i [])) → OnOk t (barred_at r i n ≡ None) → IfOk t (λ x. slice_get v.items i ≡ Some x)
  got_of (Ok x) i n e low = got_one i x (low_of r i n low) e
  got_of (Err why) i n e low = tt

  -- the last one
  pub last_bar : (n : ℕ) → r.size ≡ n → barred_at r (length r.items - 1) n ≡ beyond 0 (length v.items)
  last_bar n e = bar_of (length r.items - 1) n e ∙ ap (λ k. beyond (k - 1) (length v.items)) len_of ∙ last_is (length v.items)

  pub last_done : {B : Type 0} → (t : Result B Refused) (n : ℕ) → r.size ≡ n → OnOk t (barred_at r (length r.items - 1) n ≡ None) → OnOk t (beyond 0 (length v.items) ≡ None)
  last_done t n e = on_ok t (barred_at r (length r.items - 1) n ≡ None) (beyond 0 (length v.items) ≡ None) (λ f. sym (last_bar n e) ∙ f)

  pub last_why : {B : Type 0} → (t : Result B Refused) (u : Bool → Refused → Type 0) (n : ℕ) → r.size ≡ n → IfErr t (IsWhy (barred_at r (length r.items - 1) n) (IsWhyMissed (u r.honest))) → IfErr t (IsWhy (beyond 0 (length v.items)) (IsWhyMissed (u v.honest)))
  last_why t u n e w = subst (λ (q : Option Refused × Bool). IfErr t (IsWhy q.0 (IsWhyMissed (u q.1)))) (λ k. (last_bar n e k, honest_of k)) w

  pub last_got : (t : Result A Refused) (n : ℕ) → IfOk t (λ x. x ≡ decoded (get_or r.items (length r.items - 1) [])) → OnOk t (barred_at r (length r.items - 1) n ≡ None) → IfOk t (λ x. slice_get v.items (length v.items - 1) ≡ Some x)
  last_got t n e low = subst (λ k. IfOk t (λ x. slice_get v.items (k - 1) ≡ Some x)) len_of (got_of t (length r.items - 1) n e low)

  -- whether one more fits
  pub room_of : (n : ℕ) → r.size ≡ n → has_room r ≡ nat_lt (length v.items) (per_block n * v.blocks)
  room_of n e = λ k. nat_lt (len_of k) (per_block (e k) * blocks_of k)

  -- two of them
  pub two_of : (i j : ℕ) → barred_two r i j ≡ beyond_two i j (length v.items)
  two_of i j = ap (λ n. beyond_two i j n) len_of

  pub two_done : {B : Type 0} → (t : Result B Refused) (i j : ℕ) → OnOk t (barred_two r i j ≡ None) → OnOk t (beyond_two i j (length v.items) ≡ None)
  two_done t i j = on_ok t (barred_two r i j ≡ None) (beyond_two i j (length v.items) ≡ None) (λ f. sym (two_of i j) ∙ f)

  pub two_why : {B : Type 0} → (t : Result B Refused) (u : Bool → Refused → Type 0) (m : Refused → Type 0) (i j : ℕ) → IfErr t (IsWhy (barred_two r i j) (IsWhyUnswapped (u r.honest) m)) →
      IfErr t (IsWhy (beyond_two i j (length v.items)) (IsWhyUnswapped (u v.honest) m))
  two_why t u m i j w = subst (λ (q : Option Refused × Bool). IfErr t (IsWhy q.0 (IsWhyUnswapped (u q.1) m))) (λ k. (two_of i j k, honest_of k)) w

-- a swap of what is read is what a swap is read as
at_mapped : {A B : Type 0} (f : A → B) (ys : List A) (n : ℕ) (d : A) → f (get_or ys n d) ≡ get_or (map f ys) n (f d)
at_mapped f [] n d = refl
at_mapped f (y ∷ ys) zero d = refl
at_mapped f (y ∷ ys) (suc n) d = at_mapped f ys n d

pub map-swap : {A B : Type 0} (f : A → B) (xs : List A) (i j : ℕ) → map f (swap xs i j) ≡ swap (map f xs) i j
map-swap f [] i j = refl
map-swap f (x ∷ xs) i j =
    map-set f (set (x ∷ xs) i (get_or (x ∷ xs) j x)) j (get_or (x ∷ xs) i x)
    ∙ (λ k. set (map-set f (x ∷ xs) i (get_or (x ∷ xs) j x) k) j (f (get_or (x ∷ xs) i x)))
    ∙ (λ k. set (set (map f (x ∷ xs)) i (at_mapped f (x ∷ xs) j x k)) j (at_mapped f (x ∷ xs) i x k))
