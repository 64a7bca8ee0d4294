-- What objects by number are to a contract.
use Rattle.std.specs.Prelude.{◌≡◌, ◌≢◌, ℕ, ◌+◌, ◌<◌, ◌≤◌, ◌&&◌, nat_lt, nat_le, Bool, true, false, Option, Some, None, List, ◌++◌, length, take, drop, if◌then◌else◌}
use Rattle.far_word.specs.declared.refused.Refused.{Refused}
use Rattle.far_word.specs.declared.refused.Refused.TheVariants.{Length, NotHeld, Range}
use Rattle.far_objects.specs.declared.objects.TheConstants.{MOST}

-- honest: what is read is what was written. sizes: how long each object is, by its number. bytes: what it has, where that is known
pub record Far : Type 0 where
  pub honest : Bool
  pub sizes : ℕ → Option ℕ
  pub bytes : ℕ → Option (List ℕ)

-- an object has some bytes, and no more than fit; of an honest far side they are known
pub record IsObject (honest : Bool) (n : ℕ) (bytes : Option (List ℕ)) : Type 0 where
  pub some : 0 < n
  pub most : n ≤ MOST
  pub known : honest ≡ true → (xs : List ℕ) × (bytes ≡ Some xs) × (length xs ≡ n)

abbrev pub Known : Far → Type 0
Known far = (h n : ℕ) → far.sizes h ≡ Some n → IsObject far.honest n (far.bytes h)

-- all numbers but one are as before
pub record Others (h : ℕ) (old new : Far) : Type 0 where
  pub honest : new.honest ≡ old.honest
  pub sizes : (k : ℕ) → k ≢ h → new.sizes k ≡ old.sizes k
  pub bytes : (k : ℕ) → k ≢ h → new.bytes k ≡ old.bytes k

-- a call made one object, of a number that none had
pub record Makes (h : ℕ) (xs : List ℕ) (old new : Far) : Type 0 where
  pub fresh : old.sizes h ≡ None
  pub size : new.sizes h ≡ Some (length xs)
  pub bytes : old.honest ≡ true → new.bytes h ≡ Some xs
  pub others : Others h old new

-- a call took one object away
pub record Drops (h : ℕ) (old new : Far) : Type 0 where
  pub there : (n : ℕ) × (old.sizes h ≡ Some n)
  pub gone : new.sizes h ≡ None
  pub others : Others h old new

-- bytes with others in the place of those from here on
abbrev pub with_range : List ℕ → ℕ → List ℕ → List ℕ
with_range bytes from new = take from bytes ++ new ++ drop (from + length new) bytes

pub record Writes (h from : ℕ) (xs : List ℕ) (old new : Far) : Type 0 where
  pub size : new.sizes h ≡ old.sizes h
  pub bytes : old.honest ≡ true → (was : List ℕ) → old.bytes h ≡ Some was → new.bytes h ≡ Some (with_range was from xs)
  pub others : Others h old new

-- ---- when a call is refused before anything is done
abbrev pub is_length : ℕ → Bool
is_length n = nat_lt 0 n && nat_le n MOST

-- an access: there is no object, or the range is empty or passes its end
abbrev pub barred : Option ℕ → ℕ → ℕ → Option Refused
barred None from count = Some NotHeld
barred (Some n) from count = if nat_lt 0 count && nat_le (from + count) n then None else Some Range

-- why no object was made, by what else the far side may say
abbrev pub IsWhyUnmade : (Refused → Type 0) → ℕ → Refused → Type 0
IsWhyUnmade unmade n Length = is_length n ≡ false
IsWhyUnmade unmade n why = (is_length n ≡ true) × unmade why

-- why an object wasn't reached
abbrev pub IsWhyUnreached : (Bool → Refused → Type 0) → Bool → Option Refused → Refused → Type 0
IsWhyUnreached unreached honest o NotHeld = o ≡ Some NotHeld
IsWhyUnreached unreached honest o Range = o ≡ Some Range
IsWhyUnreached unreached honest o why = (o ≡ None) × unreached honest why
