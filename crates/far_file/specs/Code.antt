-- The length and the slot that three bytes tell.
use Rattle.std.specs.Prelude.{ℕ, ◌+◌, ◌*◌, ◌/◌, ◌%◌}
use Rattle.far_file.specs.declared.code.Code.{Code}

abbrev pub number_of : Code → ℕ
number_of code = code.low + 256 * code.middle + 65536 * code.high

-- a length of 0 to 4,096, or 4,097 for none
unfoldable pub len_of : Code → ℕ
len_of code = number_of code % 4098

unfoldable pub slot_of : Code → ℕ
slot_of code = number_of code / 4098
