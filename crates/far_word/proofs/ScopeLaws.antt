-- The scope word: what a word says, and the word that says it.
use Rattle.std.proofs.Common.{◌≡◌, ℕ, ◌+◌, ◌*◌, ◌/◌, ◌%◌, ◌^◌, ◌<◌, true, false, nat_eq, nat_lt, ◌&&◌, subst, refl, arith, Option, Some, IfSome}
use Rattle.std.proofs.lemmas.Bool.Decides.{nat_tests}
use Rattle.far_word.specs.Scope.{IsScope, scope_word, scope_of}
use Rattle.far_word.specs.declared.sizes.TheConstants.{EPOCH_END}
use Rattle.far_word.specs.declared.scope.ScopeWord.{ScopeWord}
use Rattle.far_word.specs.declared.scope.ScopeWord.TheVariants.{Closed, Open}
use Rattle.far_word.proofs.Words.{at_guard, at_choice}

-- what is read stands in the word
abbrev pub SaysScope : ℕ → ScopeWord → Type 0
SaysScope w s = IsScope s × (scope_word s ≡ w)

pub scope_found : (w : ℕ) → IfSome (scope_of w) (SaysScope w)
unfolding scope_of
scope_found w = at_choice (SaysScope w) _ _ _ (λ (h : nat_eq w 0 ≡ true). let e : 0 ≡ w = grind (arith, nat_tests) in (tt, e))
    (λ _. at_guard (SaysScope w) _ _ (λ (h : (nat_eq (w % 2) 1 && nat_lt w (2 * EPOCH_END)) ≡ true).
    let odd : w % 2 ≡ 1 = grind (arith, nat_tests) in
    let below : w < 2 * EPOCH_END = grind (arith, nat_tests) in
    (omega arith, omega arith)))

-- a scope that was read lies on the layout, and its word is the one read
pub scope_says : (w : ℕ) (s : ScopeWord) → scope_of w ≡ Some s → IsScope s × (scope_word s ≡ w)
scope_says w s e = subst (λ (o : Option ScopeWord). IfSome o (SaysScope w)) e (scope_found w)

open_only : (w epoch : ℕ) → epoch < EPOCH_END → 2 * epoch + 1 ≡ w → scope_of w ≡ Some (Open epoch)
unfolding scope_of
open_only w epoch ok e =
    let some : nat_eq w 0 ≡ false = grind (arith, nat_tests) in
    let odd : w % 2 ≡ 1 = omega arith in
    let below : w < 2 * EPOCH_END = omega arith in
    let test : (nat_eq (w % 2) 1 && nat_lt w (2 * EPOCH_END)) ≡ true = grind (arith, nat_tests) in
    let half : w / 2 ≡ epoch = omega arith in
    rw (some, test, half) refl

-- the word of a scope on the layout is read as that scope
pub scope_back : (s : ScopeWord) → IsScope s → scope_of (scope_word s) ≡ Some s
unfolding scope_of
scope_back Closed ok = refl
scope_back (Open epoch) ok = open_only _ epoch ok refl

pub scope_only : (w : ℕ) (s : ScopeWord) → IsScope s → scope_word s ≡ w → scope_of w ≡ Some s
scope_only w s ok e = subst (λ (x : ℕ). scope_of x ≡ Some s) e (scope_back s ok)

-- the word of a scope fits
pub scope_fits : (s : ScopeWord) → IsScope s → scope_word s < 2 ^ 63
scope_fits Closed ok = omega arith
scope_fits (Open epoch) ok = omega arith
