-- The three refusals of an object that doesn't come near.
use Rattle.std.specs.Prelude.{Result, Ok, Err}
use Rattle.far_word.specs.declared.refused.Refused.{Refused as Refusal}
use Rattle.far_word.specs.declared.refused.Refused.TheVariants as refused
use Rattle.far_replay.specs.declared.dereferencing.NotCome.{NotCome}
use Rattle.far_replay.specs.declared.dereferencing.NotCome.TheVariants.{NoRoom, Device, Damaged}

abbrev pub IsWhyNot : Refusal → Type 0
IsWhyNot refused.NoRoom = Unit {0}
IsWhyNot refused.Device = Unit {0}
IsWhyNot refused.Damaged = Unit {0}
IsWhyNot why = ⊥

abbrev pub why_of : NotCome → Refusal
why_of NoRoom = refused.NoRoom
why_of Device = refused.Device
why_of Damaged = refused.Damaged

abbrev pub as_refused : Result (Unit {0}) NotCome → Result (Unit {0}) Refusal
as_refused (Ok done) = Ok done
as_refused (Err why) = Err (why_of why)
