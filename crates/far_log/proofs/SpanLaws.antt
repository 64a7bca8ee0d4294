-- Spans by their headers, and lists of spans that follow each other.
use Rattle.std.proofs.Common.{◌≡◌, ℕ, ◌+◌, ◌*◌, ◌<◌, ◌≤◌, Bool, true, false, cond, zero, suc, arith, sym, refl, ap, subst, ◌∙◌, Some, List, [], ◌∷◌, inl, inr}
use Rattle.std.specs.Prelude.{nat_lt, not, All, Contains}
use Rattle.std.specs.List.{filter, sum_by}
use Rattle.std.proofs.lemmas.Bool.{cond_both, cases_lt, ltb-true, ltb-false}
use Rattle.std.proofs.lemmas.List.Elements.{All-head, All-tail}
use Rattle.std.proofs.lemmas.List.Sums.{sum_by-cons}
use Rattle.far_word.specs.Header.{header_in}
use Rattle.far_word.specs.declared.version.Version.{Version}
use Rattle.far_word.specs.Sizes.{size_of, bytes_taken}
use Rattle.far_word.proofs.HeaderLaws.{header_only}
use Rattle.far_log.specs.declared.span.Span.{Span}
use Rattle.far_log.specs.Spans.{HasHeader, StandsBy, Tile, IsWordOf, HasOneSpan, HasNoSpan, header_of, len_in, span_by, spans_by, taken_by}
use Rattle.far_log.proofs.Members.{here, there, split, none_in}

module _ {v : Version} where
  -- ---- a header says its span
  pub reads_as : (word : ℕ → ℕ) (span : Span) → HasHeader v word span → header_in v (word span.at) ≡ Some (header_of span)
  reads_as word span has = header_only v (word span.at) (header_of span) has.layout (sym has.header)

  pub spells : (word : ℕ → ℕ) (span : Span) → HasHeader v word span → span_by v word span.at ≡ span
  spells word span has = rw (reads_as word span has) refl

  -- two spans whose header is one word are one
  pub same_span : (word : ℕ → ℕ) (x y : Span) → x.at ≡ y.at → HasHeader v word x → HasHeader v word y → x ≡ y
  same_span word x y e has other = sym (spells word x has) ∙ ap (span_by v word) e ∙ spells word y other

-- ---- spans that follow each other
pub tile_low : (spans : List Span) (at tail : ℕ) → Tile at spans tail → at ≤ tail
tile_low [] at tail tile = omega arith
tile_low (x ∷ spans) at tail tile = omega (arith, tile_low spans (at + size_of x.len) tail tile.1)

-- each lies between the first place and the tail
pub tile_bounds : (spans : List Span) (at tail : ℕ) (x : Span) → Tile at spans tail → Contains spans x → (at ≤ x.at) × (x.at + size_of x.len ≤ tail)
tile_bounds [] at tail x tile h = absurd (none_in x h)
tile_bounds (y ∷ spans) at tail x tile h = elim (split x y spans h) [
  | inl e ↦ (let same : y.at + size_of y.len ≡ x.at + size_of x.len = ap (λ (z : Span). z.at + size_of z.len) e in
      let begins : y.at ≡ x.at = ap (λ (z : Span). z.at) e in
      (omega (arith, tile.0), omega (arith, tile.0, tile_low spans (at + size_of y.len) tail tile.1)))
  | inr more ↦ (let r = tile_bounds spans (at + size_of y.len) tail x tile.1 more in (omega (arith, r.0), r.1))
]

-- some span of a tiling has each word of it
pub covers : (spans : List Span) (at tail i : ℕ) → Tile at spans tail → at ≤ i → i < tail → (x : Span) × Contains spans x × IsWordOf i x
covers [] at tail i tile low high = absurd (omega arith)
covers (x ∷ spans) at tail i tile low high = elim (cases_lt i (at + size_of x.len)) [
  | inl inside ↦ (x, here x spans, (omega (arith, tile.0), omega (arith, tile.0)))
  | inr past ↦ (let r = covers spans (at + size_of x.len) tail i tile.1 past high in (r.0, there r.0 x spans r.1, r.2))
]

-- two spans that have a word in common are one
pub one_of : (spans : List Span) (at tail i : ℕ) (x y : Span) → Tile at spans tail → Contains spans x → Contains spans y → IsWordOf i x → IsWordOf i y → x ≡ y
one_of [] at tail i x y tile hx hy wx wy = absurd (none_in x hx)
one_of (z ∷ spans) at tail i x y tile hx hy wx wy = elim (split x z spans hx) [
  | inl ex ↦ elim (split y z spans hy) [
    | inl ey ↦ sym ex ∙ ey
    | inr my ↦ absurd (apart x y ex my wx wy)
  ]
  | inr mx ↦ elim (split y z spans hy) [
    | inl ey ↦ absurd (apart y x ey mx wy wx)
    | inr my ↦ one_of spans (at + size_of z.len) tail i x y tile.1 mx my wx wy
  ]
] where
  apart : (a b : Span) → z ≡ a → Contains spans b → IsWordOf i a → ¬ (IsWordOf i b)
  apart a b e more wa wb =
      let same : z.at + size_of z.len ≡ a.at + size_of a.len = ap (λ (s : Span). s.at + size_of s.len) e in
      omega (arith, tile.0, (tile_bounds spans (at + size_of z.len) tail b tile.1 more).0)

pub has_one_span : (spans : List Span) (tail i : ℕ) → Tile 0 spans tail → i < tail → HasOneSpan spans i
has_one_span spans tail i tile lt =
    let r = covers spans 0 tail i tile (omega arith) lt in
    (r.0, r.1, r.2, λ other h w. one_of spans 0 tail i other r.0 tile h r.1 w r.2)

pub has_no_span : (spans : List Span) (tail i : ℕ) → Tile 0 spans tail → tail ≤ i → HasNoSpan spans i
has_no_span spans tail i tile past x h w = omega (arith, (tile_bounds spans 0 tail x tile h).1)

module _ {v : Version} where
  -- ---- one list
  -- two lists of spans that stand, from one place on: where the first ends below the second's tail, a span stands there
  pub next_span : (word : ℕ → ℕ) (spans others : List Span) (at from tail : ℕ) → Tile at spans from → Tile at others tail → All (StandsBy v word) spans → All (StandsBy v word) others → from < tail →
      (y : Span) × (y.at ≡ from) × (from + size_of y.len ≤ tail) × StandsBy v word y
  next_span word [] [] at from tail tile other stand stands lt = absurd (omega arith)
  next_span word [] (y ∷ others) at from tail tile other stand stands lt =
      (y, other.0 ∙ tile, omega (arith, tile_low others (at + size_of y.len) tail other.1), All-head (StandsBy v word) y others stands)
  next_span word (x ∷ spans) [] at from tail tile other stand stands lt = absurd (omega (arith, tile_low spans (at + size_of x.len) from tile.1))
  next_span word (x ∷ spans) (y ∷ others) at from tail tile other stand stands lt =
      let same : x ≡ y = same_span word x y (tile.0 ∙ sym other.0) (All-head (StandsBy v word) x spans stand).header (All-head (StandsBy v word) y others stands).header in
      let next : Tile (at + size_of x.len) others tail = subst (λ (z : Span). Tile (at + size_of z.len) others tail) (sym same) other.1 in
      next_span word spans others (at + size_of x.len) from tail tile.1 next (All-tail (StandsBy v word) x spans stand) (All-tail (StandsBy v word) y others stands) lt

  pub one_list : (word : ℕ → ℕ) (spans others : List Span) (at tail : ℕ) → Tile at spans tail → Tile at others tail → All (StandsBy v word) spans → All (StandsBy v word) others → spans ≡ others
  one_list word [] [] at tail tile other stand stands = refl
  one_list word [] (y ∷ others) at tail tile other stand stands = absurd (omega (arith, tile_low others (at + size_of y.len) tail other.1))
  one_list word (x ∷ spans) [] at tail tile other stand stands = absurd (omega (arith, tile_low spans (at + size_of x.len) tail tile.1))
  one_list word (x ∷ spans) (y ∷ others) at tail tile other stand stands =
      let same : x ≡ y = same_span word x y (tile.0 ∙ sym other.0) (All-head (StandsBy v word) x spans stand).header (All-head (StandsBy v word) y others stands).header in
      let next : Tile (at + size_of x.len) others tail = subst (λ (z : Span). Tile (at + size_of z.len) others tail) (sym same) other.1 in
      let rest : spans ≡ others = one_list word spans others (at + size_of x.len) tail tile.1 next (All-tail (StandsBy v word) x spans stand) (All-tail (StandsBy v word) y others stands) in
      λ i. same i ∷ rest i

  -- the headers spell the list
  pub listed_from : (word : ℕ → ℕ) (spans : List Span) (fuel at tail : ℕ) → Tile at spans tail → All (StandsBy v word) spans → tail ≤ at + fuel → spans_by v word tail at fuel ≡ spans
  listed_from word [] zero at tail tile stand enough = refl
  listed_from word [] (suc fuel) at tail tile stand enough = cond_both (nat_lt at tail) _ _ (λ (xs : List Span). xs ≡ []) (λ t. absurd (omega (arith, ltb-true at tail t))) (λ _. refl)
  listed_from word (x ∷ spans) zero at tail tile stand enough = absurd (omega (arith, tile_low spans (at + size_of x.len) tail tile.1))
  listed_from word (x ∷ spans) (suc fuel) at tail tile stand enough = cond_both (nat_lt at tail) _ _ (λ (xs : List Span). xs ≡ x ∷ spans)
      (λ _. let first : span_by v word at ≡ x = ap (span_by v word) (sym tile.0) ∙ spells word x (All-head (StandsBy v word) x spans stand).header in
      let size : at + size_of (len_in (header_in v (word at))) ≡ at + size_of x.len = ap (λ (z : Span). at + size_of z.len) first in
      let rest : spans_by v word tail (at + size_of (len_in (header_in v (word at)))) fuel ≡ spans = ap (λ k. spans_by v word tail k fuel) size
      ∙ listed_from word spans fuel (at + size_of x.len) tail tile.1 (All-tail (StandsBy v word) x spans stand) (omega arith) in
      λ i. first i ∷ rest i)
      (λ f. absurd (omega (arith, ltb-false at tail f, tile_low spans (at + size_of x.len) tail tile.1)))

-- ---- what spans take
take_all : (test : Span → Bool) (spans : List Span) (at tail : ℕ) → Tile at spans tail → taken_by test spans + taken_by (λ x. not (test x)) spans + 8 * at ≡ 8 * tail
take_all test [] at tail tile = omega arith
take_all test (x ∷ spans) at tail tile = omega (arith, take_all test spans (at + size_of x.len) tail tile.1, either (test x) (bytes_taken x.len)) where
  either : (b : Bool) (n : ℕ) → cond b n 0 + cond (not b) n 0 ≡ n
  either true n = omega arith
  either false n = omega arith

pub spans_take : (test : Span → Bool) (spans : List Span) (tail : ℕ) → Tile 0 spans tail → taken_by test spans + taken_by (λ x. not (test x)) spans ≡ 8 * tail
spans_take test spans tail tile = omega (arith, take_all test spans 0 tail tile)

-- one span more, that passes the test or doesn't
one_more : (b : Bool) (x : Span) (xs : List Span) (n : ℕ) → n ≡ sum_by (λ (span : Span). bytes_taken span.len) xs →
    cond b (bytes_taken x.len) 0 + n ≡ sum_by (λ (span : Span). bytes_taken span.len) (cond b (x ∷ xs) xs)
one_more true x xs n e = ap (λ k. bytes_taken x.len + k) e ∙ sym (sum_by-cons (λ (span : Span). bytes_taken span.len) x xs)
one_more false x xs n e = omega (arith, e)

pub taken_is : (test : Span → Bool) (spans : List Span) → taken_by test spans ≡ sum_by (λ (span : Span). bytes_taken span.len) (filter test spans)
taken_is test [] = refl
taken_is test (x ∷ spans) = one_more (test x) x (filter test spans) (taken_by test spans) (taken_is test spans)
