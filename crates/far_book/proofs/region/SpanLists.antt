-- What the spans of a list take that pass a test.
use Rattle.std.proofs.Common.{◌≡◌, ◌≢◌, ℕ, ◌+◌, Bool, true, false, cond, arith, refl, ap, ◌∙◌, List, [], ◌∷◌, ◌++◌, inl, inr}
use Rattle.std.specs.Prelude.{Contains}
use Rattle.far_word.specs.Sizes.{size_of, bytes_taken}
use Rattle.far_log.specs.declared.span.Span.{Span}
use Rattle.far_log.specs.Spans.{Tile, taken_by}
use Rattle.far_log.proofs.Members.{here, there, split, none_in}
use Rattle.far_log.proofs.SpanLaws.{tile_bounds}

-- two tests that say the same of each span
pub taken_same : (f g : Span → Bool) (xs : List Span) → ((x : Span) → Contains xs x → f x ≡ g x) → taken_by f xs ≡ taken_by g xs
taken_same f g [] same = refl
taken_same f g (x ∷ xs) same =
    let first : cond (f x) (bytes_taken x.len) 0 ≡ cond (g x) (bytes_taken x.len) 0 = ap (λ b. cond b (bytes_taken x.len) 0) (same x (here x xs)) in
    let rest : taken_by f xs ≡ taken_by g xs = taken_same f g xs (λ y h. same y (there y x xs h)) in
    omega arith

-- one span more
pub taken_more : (f : Span → Bool) (xs : List Span) (y : Span) → taken_by f (xs ++ y ∷ []) ≡ taken_by f xs + cond (f y) (bytes_taken y.len) 0
taken_more f [] y = omega arith
taken_more f (x ∷ xs) y = omega (arith, taken_more f xs y)

-- two tests that say the same of each span but one, which passes the first alone
pub taken_without : (f g : Span → Bool) (xs : List Span) (at tail : ℕ) (y : Span) → Tile at xs tail → Contains xs y → f y ≡ true → g y ≡ false →
    ((x : Span) → Contains xs x → x.at ≢ y.at → g x ≡ f x) → taken_by g xs + bytes_taken y.len ≡ taken_by f xs
taken_without f g [] at tail y tile member passes fails same = absurd (none_in y member)
taken_without f g (x ∷ xs) at tail y tile member passes fails same = elim (split y x xs member) [
  | inl e ↦ (let begins : x.at ≡ y.at = ap (λ (z : Span). z.at) e in
      let long : bytes_taken x.len ≡ bytes_taken y.len = ap (λ (z : Span). bytes_taken z.len) e in
      let old : cond (f x) (bytes_taken x.len) 0 ≡ bytes_taken x.len = ap (λ b. cond b (bytes_taken x.len) 0) (ap f e ∙ passes) in
      let new : cond (g x) (bytes_taken x.len) 0 ≡ 0 = ap (λ b. cond b (bytes_taken x.len) 0) (ap g e ∙ fails) in
      let rest : taken_by g xs ≡ taken_by f xs = taken_same g f xs (λ z h. same z (there z x xs h) (λ is. omega (arith, (tile_bounds xs (at + size_of x.len) tail z tile.1 h).0, tile.0))) in
      omega arith)
  | inr more ↦ (let apart : x.at ≢ y.at = (λ is. omega (arith, (tile_bounds xs (at + size_of x.len) tail y tile.1 more).0, tile.0)) in
      let first : cond (g x) (bytes_taken x.len) 0 ≡ cond (f x) (bytes_taken x.len) 0 = ap (λ b. cond b (bytes_taken x.len) 0) (same x (here x xs) apart) in
      let rest = taken_without f g xs (at + size_of x.len) tail y tile.1 more passes fails (λ z h. same z (there z x xs h)) in
      omega arith)
]
