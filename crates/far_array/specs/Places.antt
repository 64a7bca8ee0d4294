-- The objects of an array.
use Rattle.std.specs.Prelude.{◌≡◌, ◌≢◌, ℕ, ◌+◌, ◌*◌, ◌/◌, ◌<◌, ◌≤◌, true, Some, None, List, length, take, slice_index, slice_set}
use Rattle.far_objects.specs.Far.{Far, Makes, Others, with_range}
use Rattle.far_objects.specs.declared.objects.TheConstants.{MOST}
use Rattle.far_array.specs.Rows.{row, per_block}
use Rattle.far_array.specs.declared.parts.TheConstants.{MOST_BLOCKS}

-- each block has room for just `per` records, and none stands twice
pub record Placed (far : Far) (blocks : List ℕ) (per size : ℕ) : Type 0 where
  pub sized : 0 < size
  pub all : per ≡ per_block size
  pub some : 0 < per
  pub fits : per * size ≤ MOST
  pub held : (j : ℕ) → j < length blocks → far.sizes (slice_index blocks j) ≡ Some (per * size)
  pub apart : (j k : ℕ) → j < length blocks → k < length blocks → slice_index blocks j ≡ slice_index blocks k → j ≡ k

-- an array: the blocks have room for its records, and at most one of them has none
pub record Sound (far : Far) (blocks : List ℕ) (per size len : ℕ) : Type 0 where
  pub placed : Placed far blocks per size
  pub room : len ≤ per * length blocks
  pub few : per * length blocks < len + per + per
  pub count : length blocks ≤ MOST_BLOCKS

-- one record has other bytes; the blocks may have grown
pub record Wrote (i : ℕ) (bytes : List ℕ) (old new : Far) (blocks later : List ℕ) (per size : ℕ) : Type 0 where
  pub honest : new.honest ≡ old.honest
  pub placed : Placed new later per size
  pub itself : old.honest ≡ true → row new later per size i ≡ bytes
  pub others : old.honest ≡ true → (k : ℕ) → k ≢ i → k < per * length blocks → row new later per size k ≡ row old blocks per size k

-- no record has other bytes; there may be fewer blocks
pub record Kept (old new : Far) (blocks later : List ℕ) (per size : ℕ) : Type 0 where
  pub honest : new.honest ≡ old.honest
  pub placed : Placed new later per size
  pub rows : (k : ℕ) → k < per * length later → row new later per size k ≡ row old blocks per size k

-- a call made an object of n bytes, which begins with these
pub record MakesBlock (h n : ℕ) (bytes : List ℕ) (old new : Far) : Type 0 where
  pub all : List ℕ
  pub makes : Makes h all old new
  pub long : length all ≡ n
  pub begins : take (length bytes) all ≡ bytes

-- these bytes are an object's, n in all, but for those from here on
abbrev pub IsPieced : Far → ℕ → ℕ → List ℕ → List ℕ → ℕ → Type 0
IsPieced far number from bytes all n = (was : List ℕ) × (far.bytes number ≡ Some was) × (length was ≡ n) × (all ≡ with_range was from bytes)

-- a block was made anew, of these bytes
pub record IsMadeAnew (block : ℕ) (bytes : List ℕ) (old new : Far) (blocks later : List ℕ) : Type 0 where
  pub number : ℕ
  pub makes : Makes number bytes old new
  pub later_is : later ≡ slice_set blocks block number

-- record i's block was made anew, with other bytes for the record; the old one, of this number, stays
pub record Remade (i was : ℕ) (bytes : List ℕ) (old new : Far) (blocks later : List ℕ) (per size : ℕ) : Type 0 where
  pub number : ℕ
  pub named : was ≡ slice_index blocks (i / per)
  pub later_is : later ≡ slice_set blocks (i / per) number
  pub fresh : old.sizes number ≡ None
  pub others : Others number old new
  pub wrote : Wrote i bytes old new blocks later per size
