-- When a mutator's own numbers refuse a call.
use Rattle.std.proofs.Common.{◌≡◌, ◌≢◌, ℕ, ◌+◌, ◌-◌, ◌<◌, ◌≤◌, Bool, true, false, Option, Some, None, refl, sym, ◌∙◌, inl, inr, arith}
use Rattle.std.specs.Prelude.{◌⊎◌, ◌↔◌, if◌then◌else◌}
use Rattle.std.proofs.lemmas.Bool.{cases_lt, false≢true, true≢false, false_from_ne_true}
use Rattle.std.proofs.lemmas.Bool.Decides.{nat_tests}
use mathlib.Core.Logic.{dite}
use native.Mathlib.Decide.{ℕ_discrete}
use Rattle.far_word.specs.declared.refused.Refused.{Refused}
use Rattle.far_word.specs.declared.refused.Refused.TheVariants.{Held, NotHeld, Range}
use Rattle.far_heap.specs.Mine.{Mine, access_refusal, is_length, is_range, len_in, uses, views}
use Rattle.far_heap.specs.Refusals.{RefusalsAreSo}

-- ---- by two tests
abbrev access_by : Bool → Bool → Option Refused
access_by v r = if v then (if r then None else Some Range) else Some NotHeld

reaches : (v r : Bool) → (access_by v r ≡ None) ↔ ((v ≡ true) × (r ≡ true))
reaches true true = (λ _. (refl, refl), λ _. refl)
reaches true false = (λ e. let odd : Some Range ≡ None = e in cc, λ h. absurd (false≢true h.1))
reaches false r = (λ e. let odd : Some NotHeld ≡ None = e in cc, λ h. absurd (false≢true h.0))

unviewed_by : (v r : Bool) → (access_by v r ≡ Some NotHeld) ↔ (v ≡ false)
unviewed_by true true = (λ e. let odd : None ≡ Some NotHeld = e in cc, λ h. absurd (true≢false h))
unviewed_by true false = (λ e. let odd : Some Range ≡ Some NotHeld = e in cc, λ h. absurd (true≢false h))
unviewed_by false r = (λ _. refl, λ _. refl)

outside_by : (v r : Bool) → (access_by v r ≡ Some Range) ↔ ((v ≡ true) × (r ≡ false))
outside_by true true = (λ e. let odd : None ≡ Some Range = e in cc, λ h. absurd (true≢false h.1))
outside_by true false = (λ _. (refl, refl), λ _. refl)
outside_by false r = (λ e. let odd : Some NotHeld ≡ Some Range = e in cc, λ h. absurd (false≢true h.0))

abbrev drop_by : Bool → Bool → Option Refused
drop_by u v = if u then (if v then Some Held else None) else Some NotHeld

drops : (u v : Bool) → (drop_by u v ≡ None) ↔ ((u ≡ true) × (v ≡ false))
drops true true = (λ e. let odd : Some Held ≡ None = e in cc, λ h. absurd (true≢false h.1))
drops true false = (λ _. (refl, refl), λ _. refl)
drops false v = (λ e. let odd : Some NotHeld ≡ None = e in cc, λ h. absurd (false≢true h.0))

unused_by : (u v : Bool) → (drop_by u v ≡ Some NotHeld) ↔ (u ≡ false)
unused_by true true = (λ e. let odd : Some Held ≡ Some NotHeld = e in cc, λ h. absurd (true≢false h))
unused_by true false = (λ e. let odd : None ≡ Some NotHeld = e in cc, λ h. absurd (true≢false h))
unused_by false v = (λ _. refl, λ _. refl)

viewed_by : (u v : Bool) → (drop_by u v ≡ Some Held) ↔ ((u ≡ true) × (v ≡ true))
viewed_by true true = (λ _. (refl, refl), λ _. refl)
viewed_by true false = (λ e. let odd : None ≡ Some Held = e in cc, λ h. absurd (false≢true h.1))
viewed_by false v = (λ e. let odd : Some NotHeld ≡ Some Held = e in cc, λ h. absurd (false≢true h.0))

-- ---- a range by its bytes
fits : (len from count : ℕ) → is_range len from count ≡ true → (1 ≤ count) × (from + count ≤ len)
fits len from count h = (grind (arith, nat_tests), grind (arith, nat_tests))

is_fit : (len from count : ℕ) → 1 ≤ count → from + count ≤ len → is_range len from count ≡ true
is_fit len from count some inside = grind (arith, nat_tests)

past_end : (len from count : ℕ) → is_range len from count ≡ false → count ≢ 0 → len < from + count
past_end len from count h ne = elim (cases_lt len (from + count)) [
  | inl lt ↦ lt
  | inr le ↦ absurd (false≢true (sym h ∙ is_fit len from count (omega arith) le))
]

ranges : (len from count : ℕ) → (is_range len from count ≡ true) ↔ ((1 ≤ count) × ((k : ℕ) → from ≤ k → k < from + count → k < len))
ranges len from count = (
  λ h. let f = fits len from count h in let end = f.1 in (f.0, λ k low high. omega arith),
  λ x. let some = x.0 in let last = x.1 (from + count - 1) (omega arith) (omega arith) in is_fit len from count some (omega arith),
)

no_ranges : (len from count : ℕ) → (is_range len from count ≡ false) ↔ ((count ≡ 0) ⊎ ((k : ℕ) × (from ≤ k) × (k < from + count) × (len ≤ k)))
no_ranges len from count = (
  λ h. dite (ℕ_discrete count 0) (λ e. inl e) (λ ne. let past = past_end len from count h ne in inr (from + count - 1, omega arith, omega arith, omega arith)),
  λ x. false_from_ne_true (is_range len from count) (λ h. let f = fits len from count h in let some = f.0 in let end = f.1 in elim x [
    | inl e ↦ absurd (omega arith)
    | inr y ↦ (let low = y.1 in let high = y.2 in let past = y.3 in absurd (omega arith))
  ]),
)

pub refusals_are_so : RefusalsAreSo
refusals_are_so = record {
  copiers = λ n. (λ h. (grind (arith, nat_tests), grind (arith, nat_tests)), λ h. let some = h.0 in let most = h.1 in grind (arith, nat_tests));
  lengths = λ len. (λ h. (grind (arith, nat_tests), grind (arith, nat_tests)), λ h. let some = h.0 in let most = h.1 in grind (arith, nat_tests));
  reached = λ m p from count.
      let a = reaches (views m p) (is_range (len_in m p) from count) in
      let r = ranges (len_in m p) from count in
      (λ e. let h = a.0 e in let x = r.0 h.1 in (h.0, x.0, x.1), λ x. a.1 (x.0, r.1 (x.1, x.2)));
  unviewed = λ m p from count. unviewed_by (views m p) (is_range (len_in m p) from count);
  outside = λ m p from count.
      let a = outside_by (views m p) (is_range (len_in m p) from count) in
      let r = no_ranges (len_in m p) from count in
      (λ e. let h = a.0 e in (h.0, r.0 h.1), λ x. a.1 (x.0, r.1 x.1));
  dropped = λ m p. drops (uses m p) (views m p);
  unused = λ m p. unused_by (uses m p) (views m p);
  viewed = λ m p. viewed_by (uses m p) (views m p);
}

-- an object has 1 to 4,088 bytes
pub length_within : (len : ℕ) → is_length len ≡ true → (1 ≤ len) × (len ≤ 4088)
length_within len h = (refusals_are_so.lengths len).0 h

pub length_allowed : (len : ℕ) → 1 ≤ len → len ≤ 4088 → is_length len ≡ true
length_allowed len some most = (refusals_are_so.lengths len).1 (some, most)

-- bytes are read and written of what is viewed, at least one, and none past the object's end
pub access_within : (m : Mine) (p from count : ℕ) → access_refusal m p from count ≡ None → (views m p ≡ true) × (1 ≤ count) × (from + count ≤ len_in m p)
access_within m p from count h =
    let both = (reaches (views m p) (is_range (len_in m p) from count)).0 h in
    let range = fits (len_in m p) from count both.1 in
    (both.0, range.0, range.1)

pub access_allowed : (m : Mine) (p from count : ℕ) → views m p ≡ true → 1 ≤ count → from + count ≤ len_in m p → access_refusal m p from count ≡ None
access_allowed m p from count viewed some inside =
    (reaches (views m p) (is_range (len_in m p) from count)).1 (viewed, is_fit (len_in m p) from count some inside)
