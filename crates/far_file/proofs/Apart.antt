-- Slots are apart in the storage.
use Rattle.std.proofs.Common.{◌≡◌, ◌∙◌, ◌+◌, ◌*◌, ◌/◌, ◌%◌, ◌<◌, ◌≤◌, ◌⊎◌, inl, inr, ap, subst, refl, ℕ, zero, suc, List, length, slice_index, arith}
use Rattle.far_file.specs.Positions.{HoldsAt, KeepsOutside}
use Rattle.far_file.specs.Where.{scale, unit_in, page_in, within_page, slot_at, HasExtent, AreApart}
use Rattle.far_file.specs.declared.place.TheConstants.{CLASSES, SLOTS}

-- one number is below another, or the same, or above it
more : (a b : ℕ) → (a < b) ⊎ (a ≡ b) ⊎ (b < a) → (suc a < suc b) ⊎ (suc a ≡ suc b) ⊎ (suc b < suc a)
more a b (inl less) = inl (omega arith)
more a b (inr (inl same)) = inr (inl (ap suc same))
more a b (inr (inr greater)) = inr (inr (omega arith))

pub ordered : (a b : ℕ) → (a < b) ⊎ (a ≡ b) ⊎ (b < a)
ordered zero zero = inr (inl refl)
ordered zero (suc b) = inl (omega arith)
ordered (suc a) zero = inr (inr (omega arith))
ordered (suc a) (suc b) = more a b (ordered a b)

-- slots of a class are at most half as large as those of one above it
some_scale : (c : ℕ) → 0 < scale c
some_scale zero = omega arith
some_scale (suc c) = omega (arith, some_scale c)

doubles : (c d : ℕ) → c < d → 2 * scale c ≤ scale d
doubles c zero below = absurd (omega arith)
doubles zero (suc d) below = omega (arith, some_scale d)
doubles (suc c) (suc d) below = let less : c < d = omega arith in omega (arith, doubles c d less)

-- a slot ends on the page on which it begins
pub on_page : (c s : ℕ) → c < CLASSES → within_page c s + scale c ≤ 256
on_page zero s below = omega arith
on_page (suc zero) s below = omega arith
on_page (suc (suc zero)) s below = omega arith
on_page (suc (suc (suc zero))) s below = omega arith
on_page (suc (suc (suc (suc zero)))) s below = omega arith
on_page (suc (suc (suc (suc (suc zero))))) s below = omega arith
on_page (suc (suc (suc (suc (suc (suc zero)))))) s below = omega arith
on_page (suc (suc (suc (suc (suc (suc (suc c))))))) s below = absurd (omega arith)

-- a class's slots are behind room for as many, and end before twice that
within : (c s : ℕ) → c < CLASSES → s < SLOTS → (scale c * SLOTS ≤ unit_in c s) × (unit_in c s + scale c ≤ 2 * (scale c * SLOTS))
within zero s below low = (omega arith, omega arith)
within (suc zero) s below low = (omega arith, omega arith)
within (suc (suc zero)) s below low = (omega arith, omega arith)
within (suc (suc (suc zero))) s below low = (omega arith, omega arith)
within (suc (suc (suc (suc zero)))) s below low = (omega arith, omega arith)
within (suc (suc (suc (suc (suc zero))))) s below low = (omega arith, omega arith)
within (suc (suc (suc (suc (suc (suc zero)))))) s below low = (omega arith, omega arith)
within (suc (suc (suc (suc (suc (suc (suc c))))))) s below low = absurd (omega arith)

-- of two of one class the lower ends where the other begins, or before
behind : (c s t : ℕ) → c < CLASSES → s < t → unit_in c s + scale c ≤ unit_in c t
behind zero s t below less = omega arith
behind (suc zero) s t below less = omega arith
behind (suc (suc zero)) s t below less = omega arith
behind (suc (suc (suc zero))) s t below less = omega arith
behind (suc (suc (suc (suc zero)))) s t below less = omega arith
behind (suc (suc (suc (suc (suc zero))))) s t below less = omega arith
behind (suc (suc (suc (suc (suc (suc zero)))))) s t below less = omega arith
behind (suc (suc (suc (suc (suc (suc (suc c))))))) s t below less = absurd (omega arith)

-- of two classes all slots of the lower one are before those of the other
before : (c d s t : ℕ) → c < CLASSES → d < CLASSES → s < SLOTS → t < SLOTS → c < d → unit_in c s + scale c ≤ unit_in d t
before c d s t c_below d_below s_low t_low less =
    let one = within c s c_below s_low in
    let other = within d t d_below t_low in
    let twice : 2 * scale c ≤ scale d = doubles c d less in
    omega (arith, one.1, other.0, twice)

abbrev Apart : ℕ → ℕ → ℕ → ℕ → Type 0
Apart u a v b = (u + a ≤ v) ⊎ (v + b ≤ u)

one_class : (c d s t : ℕ) → c < CLASSES → c ≡ d → (s < t) ⊎ (s ≡ t) ⊎ (t < s) → (c ≡ d → s ≡ t → ⊥) → Apart (unit_in c s) (scale c) (unit_in c t) (scale c)
one_class c d s t below same (inl less) other = inl (behind c s t below less)
one_class c d s t below same (inr (inl is)) other = absurd (other same is)
one_class c d s t below same (inr (inr greater)) other = inr (behind c t s below greater)

units_apart : (c d s t : ℕ) → c < CLASSES → d < CLASSES → s < SLOTS → t < SLOTS → (c ≡ d → s ≡ t → ⊥) → (c < d) ⊎ (c ≡ d) ⊎ (d < c) → Apart (unit_in c s) (scale c) (unit_in d t) (scale d)
units_apart c d s t c_below d_below s_low t_low other (inl less) = inl (before c d s t c_below d_below s_low t_low less)
units_apart c d s t c_below d_below s_low t_low other (inr (inl same)) = subst (λ x. Apart (unit_in c s) (scale c) (unit_in x t) (scale x)) same (one_class c d s t c_below same (ordered s t) other)
units_apart c d s t c_below d_below s_low t_low other (inr (inr greater)) = inr (before d c t s d_below c_below t_low s_low greater)

-- on pages of which no two have one extent
on_extents : (u v a b e f : ℕ) → u % 256 + a ≤ 256 → v % 256 + b ≤ 256 → (e ≡ f → u / 256 ≡ v / 256) → (e < f) ⊎ (e ≡ f) ⊎ (f < e) → Apart u a v b →
    Apart (16384 * e + 64 * (u % 256)) (64 * a) (16384 * f + 64 * (v % 256)) (64 * b)
on_extents u v a b e f first second alone (inl less) apart = inl (omega arith)
on_extents u v a b e f first second alone (inr (inl same)) (inl apart) = let page = alone same in inl (omega arith)
on_extents u v a b e f first second alone (inr (inl same)) (inr apart) = let page = alone same in inr (omega arith)
on_extents u v a b e f first second alone (inr (inr greater)) apart = inr (omega arith)

pub slots_apart : (extents : List ℕ) (below c d s t : ℕ) → AreApart extents below → HasExtent extents (page_in c s) → c < CLASSES → d < CLASSES → s < SLOTS → t < SLOTS → (c ≡ d → s ≡ t → ⊥) →
    (slot_at extents c s + 64 * scale c ≤ slot_at extents d t) ⊎ (slot_at extents d t + 64 * scale d ≤ slot_at extents c s)
slots_apart extents below c d s t law there c_below d_below s_low t_low other =
    on_extents (unit_in c s) (unit_in d t) (scale c) (scale d) (slice_index extents (page_in c s)) (slice_index extents (page_in d t)) (on_page c s c_below) (on_page d t d_below)
    (law.alone (page_in c s) (page_in d t) there) (ordered (slice_index extents (page_in c s)) (slice_index extents (page_in d t))) (units_apart c d s t c_below d_below s_low t_low other (ordered c d))

-- bytes beside which others are put stand as before
pub stand_beside : (old new : ℕ → ℕ) (at most to count room : ℕ) (bytes : List ℕ) → KeepsOutside old new to count → HoldsAt old at bytes → length bytes ≤ most → count ≤ room → (at + most ≤ to) ⊎ (to + room ≤ at) → HoldsAt new at bytes
stand_beside old new at most to count room bytes keeps stood few less (inl before) = λ k below. keeps (at + k) (inl (omega arith)) ∙ stood k below
stand_beside old new at most to count room bytes keeps stood few less (inr after) = λ k below. keeps (at + k) (inr (omega arith)) ∙ stood k below
