-- What calls tell of an array's records.
use Rattle.std.proofs.Common.{◌≡◌, ◌≢◌, ◌⊎◌, ℕ, ◌+◌, ◌-◌, ◌*◌, ◌/◌, ◌%◌, ◌<◌, ◌≤◌, Bool, true, Option, Some, None, List, [], length, take, drop, get_or, set, refl, sym, ◌∙◌, ap, subst, inl, inr, min, arith}
use Rattle.std.specs.Prelude.{Result, Ok, Err, IfErr, OnOk, nat_lt, ◌&&◌, if◌then◌else◌}
use Rattle.std.proofs.lemmas.Bool.Decides.{nat_tests}
use Rattle.far_word.specs.declared.refused.Refused.{Refused}
use Rattle.far_word.specs.declared.refused.Refused.TheVariants.{Length, Range}
use Rattle.far_objects.specs.Far.{Far}
use Rattle.far_array.specs.Rows.{Rows, has_room, many_at, per_block, row, rows, rows_of}
use Rattle.far_array.specs.Places.{Sound, Wrote}
use Rattle.far_array.specs.Reasons.{IsWhy, IsWhyMissed, IsWhyUnput, IsWhyUnswapped, barred_at, barred_many, barred_two, wrong_length}
use Rattle.far_array.proofs.Lists.{at_row, len_of_rows, set_rows}
use Rattle.far_objects.specs.declared.objects.TheConstants.{MOST}
use Rattle.far_array.proofs.Sizes.{size_low}
use Rattle.far_array.proofs.Reached.{if_err}

pub ok_if : {A E : Type 0} → (r : Result A E) (P : Type 0) → P → OnOk r P
ok_if (Ok x) P p = p
ok_if (Err e) P p = tt

range_bar : (len size i n : ℕ) → len ≤ i → ◌≡◌ {A = Option Refused} (if nat_lt i len then wrong_length size n else Some Range) (Some Range)
range_bar len size i n l = grind (arith, nat_tests)

length_bar : (size n : ℕ) → n ≢ size → wrong_length size n ≡ Some Length
length_bar size n ne = grind (arith, nat_tests)

no_length_bar : (size n : ℕ) → n ≡ size → wrong_length size n ≡ None
no_length_bar size n e = grind (arith, nat_tests)

no_range_bar : (len size i n : ℕ) → i < len → ◌≡◌ {A = Option Refused} (if nat_lt i len then wrong_length size n else Some Range) (wrong_length size n)
no_range_bar len size i n l = grind (arith, nat_tests)

range_many_bar : (len size i n : ℕ) → len ≤ i → ◌≡◌ {A = Option Refused} (if nat_lt i len then (if nat_lt n size then Some Length else None) else Some Range) (Some Range)
range_many_bar len size i n l = grind (arith, nat_tests)

length_many_bar : (len size i n : ℕ) → i < len → n < size → ◌≡◌ {A = Option Refused} (if nat_lt i len then (if nat_lt n size then Some Length else None) else Some Range) (Some Length)
length_many_bar len size i n l m = grind (arith, nat_tests)

two_bar : (len i j : ℕ) → (len ≤ i) ⊎ (len ≤ j) → ◌≡◌ {A = Option Refused} (if nat_lt i len && nat_lt j len then None else Some Range) (Some Range)
two_bar len i j past = elim past [
  | inl l ↦ grind (arith, nat_tests)
  | inr l ↦ grind (arith, nat_tests)
]

no_two_bar : (len i j : ℕ) → i < len → j < len → ◌≡◌ {A = Option Refused} (if nat_lt i len && nat_lt j len then None else Some Range) None
no_two_bar len i j l m = grind (arith, nat_tests)

no_many_bar : (len size i n : ℕ) → i < len → size ≤ n → ◌≡◌ {A = Option Refused} (if nat_lt i len then (if nat_lt n size then Some Length else None) else Some Range) None
no_many_bar len size i n l m = grind (arith, nat_tests)

pub bars : (o : Option Refused) (far : Refused → Type 0) (why : Refused) → o ≡ Some why → IsWhy o far why
bars o far why e = subst (λ x. IsWhy x far why) (sym e) refl

pub far_says : (o : Option Refused) (far : Refused → Type 0) (why : Refused) → o ≡ None → far why → IsWhy o far why
far_says o far why e w = subst (λ x. IsWhy x far why) (sym e) w

module _ (f : Far) (hs : List ℕ) (per size len : ℕ) (v : Rows) (is : rows_of f hs per size len ≡ v) where
  pub len_is : len ≡ length v.items
  len_is = sym (len_of_rows f hs per size len) ∙ ap (λ (u : Rows). length u.items) is

  pub honest_is : f.honest ≡ v.honest
  honest_is = ap (λ (u : Rows). u.honest) is

  pub size_is : size ≡ v.size
  size_is = ap (λ (u : Rows). u.size) is

  pub at_range : (i n : ℕ) (F : Refused → Type 0) → len ≤ i → IsWhy (barred_at v i n) F Range
  at_range i n F l = bars (barred_at v i n) F Range (range_bar (length v.items) v.size i n (omega (arith, l, len_is)))

  pub at_length : (i n : ℕ) (F : Refused → Type 0) → i < len → n ≢ size → IsWhy (barred_at v i n) F Length
  at_length i n F l ne = bars (barred_at v i n) F Length
      (no_range_bar (length v.items) v.size i n (omega (arith, l, len_is)) ∙ length_bar v.size n (λ e. ne (e ∙ sym size_is)))

  pub unbarred_at : (i n : ℕ) → i < len → n ≡ size → barred_at v i n ≡ None
  unbarred_at i n l e = no_range_bar (length v.items) v.size i n (omega (arith, l, len_is)) ∙ no_length_bar v.size n (e ∙ size_is)

  pub why_missed : {A : Type 0} → (r : Result A Refused) (u : Bool → Refused → Type 0) (i n : ℕ) → i < len → n ≡ size → IfErr r (IsWhyMissed (u f.honest)) → IfErr r (IsWhy (barred_at v i n) (IsWhyMissed (u v.honest)))
  why_missed r u i n l e w = if_err r (IsWhyMissed (u f.honest)) (IsWhy (barred_at v i n) (IsWhyMissed (u v.honest)))
      (λ why s. far_says (barred_at v i n) (IsWhyMissed (u v.honest)) why (unbarred_at i n l e) (subst (λ h. IsWhyMissed (u h) why) honest_is s)) w

  pub many_range : (i n : ℕ) (F : Refused → Type 0) → len ≤ i → IsWhy (barred_many v i n) F Range
  many_range i n F l = bars (barred_many v i n) F Range (range_many_bar (length v.items) v.size i n (omega (arith, l, len_is)))

  pub many_length : (i n : ℕ) (F : Refused → Type 0) → i < len → n < size → IsWhy (barred_many v i n) F Length
  many_length i n F l m = bars (barred_many v i n) F Length (length_many_bar (length v.items) v.size i n (omega (arith, l, len_is)) (omega (arith, m, size_is)))

  pub unbarred_many : (i n : ℕ) → i < len → size ≤ n → barred_many v i n ≡ None
  unbarred_many i n l m = no_many_bar (length v.items) v.size i n (omega (arith, l, len_is)) (omega (arith, m, size_is))

  pub many_missed : (u : Bool → Refused → Type 0) (i n : ℕ) (why : Refused) → i < len → size ≤ n → IsWhyMissed (u f.honest) why → IsWhy (barred_many v i n) (IsWhyMissed (u v.honest)) why
  many_missed u i n why l m w = far_says (barred_many v i n) (IsWhyMissed (u v.honest)) why (unbarred_many i n l m) (subst (λ h. IsWhyMissed (u h) why) honest_is w)

  pub got : (i : ℕ) (out : List ℕ) → i < len → out ≡ row f hs per size i → out ≡ get_or v.items i []
  got i out l e = e ∙ sym (at_row f hs per size len i [] l) ∙ ap (λ (u : Rows). get_or u.items i []) is

  -- a piece of what was read is a record
  pub got_piece : (i k : ℕ) (out : List ℕ) → i + k < len → take size (drop (k * size) out) ≡ row f hs per size (i + k) → take v.size (drop (k * v.size) out) ≡ get_or v.items (i + k) []
  got_piece i k out l e = (λ j. take (sym size_is j) (drop (k * sym size_is j) out)) ∙ got (i + k) (take size (drop (k * size) out)) l e

  pub two_range : (i j : ℕ) (F : Refused → Type 0) → (len ≤ i) ⊎ (len ≤ j) → IsWhy (barred_two v i j) F Range
  two_range i j F past = bars (barred_two v i j) F Range (two_bar (length v.items) i j (subst (λ n. (n ≤ i) ⊎ (n ≤ j)) len_is past))

  pub unbarred_two : (i j : ℕ) → i < len → j < len → barred_two v i j ≡ None
  unbarred_two i j l m = no_two_bar (length v.items) i j (omega (arith, l, len_is)) (omega (arith, m, len_is))

  pub why_unswapped : {A : Type 0} → (r : Result A Refused) (u : Bool → Refused → Type 0) (m : Refused → Type 0) (i j : ℕ) → i < len → j < len →
      IfErr r (IsWhyUnswapped (u f.honest) m) → IfErr r (IsWhy (barred_two v i j) (IsWhyUnswapped (u v.honest) m))
  why_unswapped r u m i j l k w = if_err r (IsWhyUnswapped (u f.honest) m) (IsWhy (barred_two v i j) (IsWhyUnswapped (u v.honest) m))
      (λ why s. far_says (barred_two v i j) (IsWhyUnswapped (u v.honest) m) why (unbarred_two i j l k) (subst (λ h. IsWhyUnswapped (u h) m why) honest_is s)) w

  pub was_set : (i : ℕ) (bytes : List ℕ) (g : Far) (gs : List ℕ) (per2 size2 len2 : ℕ) → per2 ≡ per → size2 ≡ size → len2 ≡ len → len ≤ per * length hs → i < len → f.honest ≡ true →
      Wrote i bytes f g hs gs per size → rows g gs per2 size2 len2 ≡ set v.items i bytes
  was_set i bytes g gs per2 size2 len2 ep es el room low o wrote =
      (λ k. rows g gs (ep k) (es k) (el k)) ∙ set_rows i bytes f g hs gs per size len low room o wrote ∙ ap (λ (u : Rows). set u.items i bytes) is

  -- ---- room
  module _ (sound : Sound f hs per size len) where
    pub has_place : length v.items ≤ per_block v.size * v.blocks
    has_place =
        let l : length (rows f hs per size len) ≤ per_block size * length hs = subst (λ k. length (rows f hs per size len) ≤ k * length hs) sound.placed.all (omega (arith, sound.room, len_of_rows f hs per size len)) in
        subst (λ (u : Rows). length u.items ≤ per_block u.size * u.blocks) is l

    pub size_some : 0 < v.size
    size_some = subst (λ k. 0 < k) size_is sound.placed.sized

    pub size_fits : v.size ≤ MOST
    size_fits = subst (λ k. k ≤ MOST) size_is (size_low f hs per size sound.placed)

    pub few_blocks : per_block v.size * v.blocks < length v.items + per_block v.size + per_block v.size
    few_blocks =
        let l : per_block size * length hs < length (rows f hs per size len) + per_block size + per_block size =
        subst (λ k. k * length hs < length (rows f hs per size len) + k + k) sound.placed.all (omega (arith, sound.few, len_of_rows f hs per size len)) in
        subst (λ (u : Rows). per_block u.size * u.blocks < length u.items + per_block u.size + per_block u.size) is l

    pub many_is : (i m n : ℕ) → n ≡ min (min (m / size) (len - i)) (per - i % per) → n ≡ many_at v i m
    many_is i m n e = e ∙ (λ k. min (min (m / size_is k) (len_is k - i)) ((sound.placed.all ∙ ap per_block size_is) k - i % (sound.placed.all ∙ ap per_block size_is) k))

    -- where no block is empty
    pub no_spare : (m n : ℕ) (items : List (List ℕ)) → per * m < n + per + per * 0 → length items ≡ n → per_block v.size * m < length items + per_block v.size
    no_spare m n items l long = subst (λ k. k * m < length items + k) (sound.placed.all ∙ ap per_block size_is) (omega (arith, l, long))

    -- whether one more fits
    pub room_is : nat_lt len (per * length hs) ≡ has_room v
    room_is =
        (λ k. nat_lt (sym (len_of_rows f hs per size len) k) (sound.placed.all k * length hs)) ∙ ap (λ (u : Rows). has_room u) is

    pub blocks_is : length hs ≡ v.blocks
    blocks_is = ap (λ (u : Rows). u.blocks) is

    pub more_blocks : (n : ℕ) → n ≡ (if nat_lt len (per * length hs) then length hs else length hs + 1) → n ≡ (if has_room v then v.blocks else v.blocks + 1)
    more_blocks n e = e ∙ (λ k. if room_is k then blocks_is k else blocks_is k + 1)

    pub why_unput : {A : Type 0} → (r : Result A Refused) (u : Bool → Refused → Type 0) (m : Refused → Type 0) (n : ℕ) → n ≡ size →
        IfErr r (IsWhyUnput (nat_lt len (per * length hs)) (u f.honest) m) → IfErr r (IsWhy (wrong_length v.size n) (IsWhyUnput (has_room v) (u v.honest) m))
    why_unput r u m n e w = if_err r (IsWhyUnput (nat_lt len (per * length hs)) (u f.honest) m) (IsWhy (wrong_length v.size n) (IsWhyUnput (has_room v) (u v.honest) m))
        (λ why s. far_says (wrong_length v.size n) (IsWhyUnput (has_room v) (u v.honest) m) why (no_length_bar v.size n (e ∙ size_is))
        (subst (λ (q : Bool × Bool). IsWhyUnput q.0 (u q.1) m why) (λ k. (room_is k, honest_is k)) s)) w
