-- What commands write is bytes, and no step chooses more logs than may be chosen.
use Rattle.std.specs.Prelude.{◌≤◌, List, [], ◌∷◌}
use Rattle.hex.specs.Hex.{IsBytes}
use Rattle.far_text.specs.Command.{Command, On, Writes, Mutator, Evacuator, By, Script, Step, Select, Round}
use Rattle.far_text.specs.declared.command.TheConstants.{MOST_CHOSEN}

-- a step chooses no more logs than may be chosen, and those that a script names are bytes
abbrev pub ChoosesFew : Step → Type 0
ChoosesFew (Select (By policy) most) = most ≤ MOST_CHOSEN
ChoosesFew (Select (Script logs) most) = IsBytes logs × (most ≤ MOST_CHOSEN)
ChoosesFew (Round policy most turns) = most ≤ MOST_CHOSEN
ChoosesFew step = Unit {0}

-- what the command writes, if it writes, is bytes; and a step chooses few logs
abbrev pub WritesBytes : Command → Type 0
WritesBytes (Mutator m (On p (Writes from bytes))) = IsBytes bytes
WritesBytes (Evacuator step) = ChoosesFew step
WritesBytes c = Unit {0}

abbrev pub AllWriteBytes : List Command → Type 0
AllWriteBytes [] = Unit {0}
AllWriteBytes (c ∷ cs) = WritesBytes c × AllWriteBytes cs
