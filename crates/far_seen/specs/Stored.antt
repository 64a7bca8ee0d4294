-- What stands for a line: an object, or the parts of a long one.
use Rattle.std.specs.Prelude.{◌≡◌, ℕ, ◌-◌, ◌<◌, nat_lt, true, cond, Option, Some, None, List, [], ◌∷◌, ◌++◌, length}
use Rattle.std.specs.List.{slice_get}
use Rattle.far_objects.specs.Far.{Far}
use Rattle.far_large.specs.Parts.{Holds, Parts, Stands}
use Rattle.far_seen.specs.declared.read.TheConstants.{LONG}

-- the bytes of several objects, one after the other
abbrev pub both : Option (List ℕ) → Option (List ℕ) → Option (List ℕ)
both None ys = None
both (Some xs) None = None
both (Some xs) (Some ys) = Some (xs ++ ys)

abbrev pub joined : (ℕ → Option (List ℕ)) → List ℕ → Option (List ℕ)
joined bytes [] = Some []
joined bytes (n ∷ ns) = both (bytes n) (joined bytes ns)

abbrev pub long_size : Option Parts → Option ℕ
long_size None = None
long_size (Some large) = Some large.len

abbrev pub long_bytes : (ℕ → Option (List ℕ)) → Option Parts → Option (List ℕ)
long_bytes bytes None = None
long_bytes bytes (Some large) = joined bytes large.numbers

-- objects, and long lines, by numbers from LONG on
abbrev pub with_longs : Far → List Parts → Far
with_longs far longs = record {
  honest = far.honest;
  sizes = λ k. cond (nat_lt k LONG) (far.sizes k) (long_size (slice_get longs (k - LONG)));
  bytes = λ k. cond (nat_lt k LONG) (far.bytes k) (long_bytes far.bytes (slice_get longs (k - LONG)));
}

-- long lines have bytes, and all their parts are there, and where the far side is honest they have the lines' bytes
pub record Stored (far : Far) (longs : List Parts) : Type 0 where
  pub some : (i : ℕ) (large : Parts) → slice_get longs i ≡ Some large → 0 < large.len
  pub stands : (i : ℕ) (large : Parts) → slice_get longs i ≡ Some large → Stands far large
  pub known : far.honest ≡ true → (i : ℕ) (large : Parts) → slice_get longs i ≡ Some large → (xs : List ℕ) × Holds far large xs × (joined far.bytes large.numbers ≡ Some xs)

-- what there was is as before
pub record Keeps (old new : Far) : Type 0 where
  pub honest : new.honest ≡ old.honest
  pub sizes : (k n : ℕ) → old.sizes k ≡ Some n → new.sizes k ≡ Some n
  pub bytes : (k n : ℕ) → old.sizes k ≡ Some n → new.bytes k ≡ old.bytes k

-- a line was put, for which a number stands that stood for nothing
pub record Put (h : ℕ) (line : List ℕ) (old new : Far) : Type 0 where
  pub fresh : old.sizes h ≡ None
  pub size : new.sizes h ≡ Some (length line)
  pub bytes : old.honest ≡ true → new.bytes h ≡ Some line
  pub keeps : Keeps old new
