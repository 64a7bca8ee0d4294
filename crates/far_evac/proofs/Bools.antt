-- Truth values.
use Rattle.std.proofs.Common.{◌≡◌, Bool, true, false, refl, sym, ◌∙◌}
pub use Rattle.std.proofs.lemmas.Bool.{or_left, or_right}
use Rattle.std.proofs.lemmas.Bool.{true≢false}

-- what is false isn't implied by anything true
pub neither : (a b : Bool) → (b ≡ true → a ≡ true) → a ≡ false → b ≡ false
neither a true up none = absurd (true≢false (sym (up refl) ∙ none))
neither a false up none = refl

-- by whether copies may be offered
pub by_copying : {P : Type 0} (copying : Bool) → (copying ≡ false → P) → (copying ≡ true → P) → P
by_copying true alone beside = beside refl
by_copying false alone beside = alone refl
