-- The double's objects.
use Rattle.std.specs.Prelude.{ℕ, Bool, true, false, cond, Option, Some, None, List, length, slice_index_or}
use Rattle.std.specs.Option.{option_map, option_and_then}
use Rattle.far_word.specs.declared.refused.Refused.{Refused}
use Rattle.far_word.specs.declared.refused.Refused.TheVariants.{Memory, NoRoom, Device}
use Rattle.far_objects.specs.Far.{Far, is_length}

-- bytes of a length that an object may have
abbrev pub fitting : List ℕ → Option (List ℕ)
fitting bytes = cond (is_length (length bytes)) (Some bytes) None

abbrev pub object_at : List (Option (List ℕ)) → ℕ → Option (List ℕ)
object_at objects h = option_and_then fitting (slice_index_or objects h None)

abbrev pub known_if : Bool → Option (List ℕ) → Option (List ℕ)
known_if true bytes = bytes
known_if false bytes = None

abbrev pub far_of : Bool → List (Option (List ℕ)) → Far
far_of honest objects = record {
  honest = honest;
  sizes = λ h. option_map (length {A = ℕ}) (object_at objects h);
  bytes = λ h. known_if honest (object_at objects h);
}

-- why no object is made, and why one isn't reached
abbrev pub IsUnmade : Refused → Type 0
IsUnmade Memory = Unit {0}
IsUnmade NoRoom = Unit {0}
IsUnmade Device = Unit {0}
IsUnmade why = ⊥

abbrev pub IsUnreached : Refused → Type 0
IsUnreached Memory = Unit {0}
IsUnreached Device = Unit {0}
IsUnreached why = ⊥
