-- What one more text leaves of a writer, and of the room before it.
use Rattle.std.specs.Prelude.{◌++◌, ℕ, List, Option, Result, Ok}
use Rattle.far_reply.specs.declared.stream.WriteFault.{WriteFault}
use Rattle.far_reply.specs.Stream.{Holds}

-- a text was printed behind what was written and waits: it was written too, or waits; or a write failed, and of all this a proper prefix was written
abbrev pub Prints : Option (List ℕ) → List ℕ → Option (List ℕ) → List ℕ → Result (Unit {0}) WriteFault → List ℕ → Type 0
Prints old before new after result text = (start : Option (List ℕ)) (bytes : List ℕ) → Holds {A = Unit {0}} {E = WriteFault} start old before (Ok tt) bytes → Holds start new after result (bytes ++ text)
