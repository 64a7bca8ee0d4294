-- The law of objects, of the double.
use Rattle.std.specs.Prelude.{◌≡◌, refl, ℕ, ◌<◌, ◌≤◌, Bool, true, false, cond, Option, Some, None, List, length, is_some, nat_lt, nat_le, slice_index_or}
use Rattle.std.specs.Option.{option_map, option_and_then}
use Rattle.std.proofs.Common.{ap, subst}
use Rattle.std.proofs.lemmas.Bool.{false≢true, ltb-true, leb-true, and_parts}
use Rattle.far_objects.specs.declared.objects.TheConstants.{MOST}
use Rattle.far_objects.specs.Far.{Known, IsObject, is_length}
use Rattle.far_double.specs.Held.{far_of, fitting, known_if}

none_some : (n : ℕ) → ◌≡◌ {A = Option ℕ} None (Some n) → ⊥
none_some n e = false≢true (ap (λ (o : Option ℕ). is_some o) e)

abbrev size_of : Option ℕ → ℕ
size_of None = 0
size_of (Some n) = n

same_size : (m n : ℕ) → ◌≡◌ {A = Option ℕ} (Some m) (Some n) → m ≡ n
same_size m n e = ap size_of e

bytes_known : (honest : Bool) (xs : List ℕ) → honest ≡ true → known_if honest (Some xs) ≡ Some xs
bytes_known true xs o = refl
bytes_known false xs o = absurd (false≢true o)

fits : (honest : Bool) (xs : List ℕ) (n : ℕ) (t : Bool) → is_length (length xs) ≡ t → option_map (length {A = ℕ}) (cond t (Some xs) None) ≡ Some n →
    IsObject honest n (known_if honest (cond t (Some xs) None))
fits honest xs n true is e =
    let size : length xs ≡ n = same_size (length xs) n e in
    let both = and_parts (nat_lt 0 (length xs)) (nat_le (length xs) MOST) is in
    record {
      some = subst (λ k. 0 < k) size (ltb-true 0 (length xs) both.0);
      most = subst (λ k. k ≤ MOST) size (leb-true (length xs) MOST both.1);
      known = λ o. (xs, bytes_known honest xs o, size);
    }
fits honest xs n false is e = absurd (none_some n e)

held : (honest : Bool) (o : Option (List ℕ)) (n : ℕ) → option_map (length {A = ℕ}) (option_and_then fitting o) ≡ Some n → IsObject honest n (known_if honest (option_and_then fitting o))
held honest None n e = absurd (none_some n e)
held honest (Some xs) n e = fits honest xs n (is_length (length xs)) refl e

pub known_of : (honest : Bool) (objects : List (Option (List ℕ))) → Known (far_of honest objects)
known_of honest objects h n e = held honest (slice_index_or objects h None) n e
