-- What an entry tells of a key.
use Rattle.std.specs.Prelude.{ℕ}
use Rattle.far_file.specs.Code.{len_of, slot_of}
use Rattle.far_file.specs.declared.held.Held.{Held}
use Rattle.far_file.specs.declared.seal.Seal.{Ghosts}

module _ {L : Type 0} {l : Ghosts L} where
  abbrev pub len_in : Held L l → ℕ
  len_in held = len_of held.code

  abbrev pub slot_in : Held L l → ℕ
  slot_in held = slot_of held.code
