-- Why a call of the far side was refused, where the array's objects are there.
use Rattle.std.proofs.Common.{◌≡◌, ℕ, ◌+◌, ◌<◌, ◌≤◌, Bool, true, false, Option, Some, None, ◌∙◌, ap, subst, arith}
use Rattle.std.specs.Prelude.{Result, Ok, Err, IfErr, OnOk}
use Rattle.std.proofs.lemmas.Bool.Decides.{nat_tests}
use Rattle.far_word.specs.declared.refused.Refused.{Refused}
use Rattle.far_word.specs.declared.refused.Refused.TheVariants.{Length, NotHeld, Range}
use Rattle.far_objects.specs.Far.{IsWhyUnmade, IsWhyUnreached, barred, is_length}
use Rattle.far_objects.specs.declared.objects.TheConstants.{MOST}
use Rattle.far_array.specs.Reasons.{IsWhyMissed, IsWhyNotMade}

pub on_ok : {A E : Type 0} → (r : Result A E) (P Q : Type 0) → (P → Q) → OnOk r P → OnOk r Q
on_ok (Ok x) P Q f p = f p
on_ok (Err e) P Q f p = tt

pub if_err : {A E : Type 0} → (r : Result A E) (P Q : E → Type 0) → ((e : E) → P e → Q e) → IfErr r P → IfErr r Q
if_err (Ok x) P Q f p = p
if_err (Err e) P Q f p = f e p

-- a range of an object isn't barred
pub free : (o : Option ℕ) (n from count : ℕ) → o ≡ Some n → 0 < count → from + count ≤ n → barred o from count ≡ None
free o n from count e some within = ap (λ x. barred x from count) e ∙ grind (arith, nat_tests)

none_some : (why : Refused) → ◌≡◌ {A = Option Refused} None (Some why) → ⊥
none_some why e = cc

at_none : (unreached : Bool → Refused → Type 0) (honest : Bool) (why : Refused) → IsWhyUnreached unreached honest None why → IsWhyMissed (unreached honest) why
at_none unreached honest NotHeld w = none_some NotHeld w
at_none unreached honest Range w = none_some Range w
at_none unreached honest why w = w.1

pub missed : (unreached : Bool → Refused → Type 0) (honest : Bool) (o : Option Refused) (why : Refused) → o ≡ None → IsWhyUnreached unreached honest o why → IsWhyMissed (unreached honest) why
missed unreached honest o why e w = at_none unreached honest why (subst (λ x. IsWhyUnreached unreached honest x why) e w)

true_false : (b : Bool) → b ≡ true → b ≡ false → ⊥
true_false b e f = cc

pub not_made : (unmade : Refused → Type 0) (n : ℕ) (why : Refused) → is_length n ≡ true → IsWhyUnmade unmade n why → IsWhyNotMade unmade why
not_made unmade n Length e w = true_false (is_length n) e w
not_made unmade n why e w = w.1

pub is_long : (n : ℕ) → 0 < n → n ≤ MOST → is_length n ≡ true
is_long n some fits = grind (arith, nat_tests)
