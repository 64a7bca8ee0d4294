-- What is known of keys, and where their bytes are.
use Rattle.std.specs.Prelude.{◌≡◌, ◌≢◌, ℕ, ◌<◌, ◌≤◌, ◌⊎◌, Bool, true, List, Option, Some, None, if◌then◌else◌, nat_lt}
use Rattle.std.specs.List.{slice_get}
use Rattle.std.specs.Option.{option_and_then, option_map}
use Rattle.far_file.specs.Entry.{len_in, slot_in}
use Rattle.far_file.specs.Positions.{HoldsAt}
use Rattle.far_file.specs.Where.{class_in, page_in, slot_at, HasExtent}
use Rattle.far_file.specs.declared.held.Held.{Held}
use Rattle.far_file.specs.declared.place.TheConstants.{KEYS, SLOT, SLOTS}
use Rattle.far_file.specs.declared.seal.Seal.{Ghosts}

-- one thing of a row is set, and all others stay
abbrev pub ChangesAt : {A : Type 0} → (ℕ → Option A) → (ℕ → Option A) → ℕ → Option A → Type 0
ChangesAt old new one set = (q : ℕ) → ((q ≡ one) × (new q ≡ set)) ⊎ ((q ≢ one) × (new q ≡ old q))

module _ {L : Type 0} {l : Ghosts L} where
  -- nothing is under a key whose entry says more bytes than a slot has room for
  abbrev pub known : Held L l → Option (Held L l)
  known held = if nat_lt SLOT (len_in held) then None else Some held

  -- what is known of a key that has bytes; none where the row is too short
  abbrev pub entry_in : List (Held L l) → ℕ → Option (Held L l)
  entry_in row id = option_and_then (λ held. known held) (slice_get row id)

  -- the bytes that a key was given last, if it has any
  abbrev pub bytes_of : Option (Held L l) → Option (List ℕ)
  bytes_of entry = option_map (λ held. held.was.value.items) entry

  abbrev pub bytes_in : List (Held L l) → ℕ → Option (List ℕ)
  bytes_in row id = bytes_of (entry_in row id)

  -- where they are in the storage
  abbrev pub place_of : List ℕ → Option (Held L l) → ℕ
  place_of extents (Some held) = slot_at extents (class_in (len_in held)) (slot_in held)
  place_of extents None = 0

  -- What a key was given stands in a slot that names the key, on a page that has an extent. So a slot of another key is another slot.
  pub record IsKept (seen : ℕ → ℕ) (honest : Bool) (owner : ℕ → ℕ → Option ℕ) (extents : List ℕ) (id : ℕ) (held : Held L l) : Type 0 where
    pub owned : owner (class_in (len_in held)) (slot_in held) ≡ Some id
    pub key : id < KEYS
    pub few : (len_in held) ≤ SLOT
    pub low : (slot_in held) < SLOTS
    pub there : HasExtent extents (page_in (class_in (len_in held)) (slot_in held))
    pub stands : honest ≡ true → HoldsAt seen (slot_at extents (class_in (len_in held)) (slot_in held)) held.was.value.items

  abbrev pub AreKept : (ℕ → ℕ) → Bool → (ℕ → ℕ → Option ℕ) → List ℕ → (ℕ → Option (Held L l)) → Type 0
  AreKept seen honest owner extents entry = (id : ℕ) (held : Held L l) → entry id ≡ Some held → IsKept seen honest owner extents id held

  -- no key is in this slot
  abbrev pub IsUnused : (ℕ → Option (Held L l)) → ℕ → ℕ → Type 0
  IsUnused entry class slot = (id : ℕ) (held : Held L l) → entry id ≡ Some held → class_in (len_in held) ≡ class → (slot_in held) ≡ slot → ⊥

  -- of each key as much is known as before
  abbrev pub KeepsEntries : List (Held L l) → List (Held L l) → Type 0
  KeepsEntries old new = (k : ℕ) → entry_in new k ≡ entry_in old k
