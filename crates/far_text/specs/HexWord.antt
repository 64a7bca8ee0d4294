-- A word in hex: an even number of digits in either case, two at least, and no more than a line has room for.
use Rattle.std.specs.Prelude.{ℕ, ◌%◌, ◌==◌, ◌&&◌, nat_lt, nat_le, Bool, List, [], length}
use Rattle.std.specs.List.{list_all}
use Rattle.std.specs.Result.{result_unwrap_or}
use Rattle.hex.specs.Hex.{decode_of, is_hex_digit}
use Rattle.far_text.specs.declared.hex_word.TheConstants.{LONGEST_LINE}

abbrev pub is_hex_word : List ℕ → Bool
is_hex_word word = nat_lt 0 (length word) && nat_le (length word) LONGEST_LINE && (length word % 2 == 0) && list_all is_hex_digit word

-- the bytes that a word in hex stands for
unfoldable pub hex_bytes : List ℕ → List ℕ
hex_bytes word = result_unwrap_or (decode_of word) []
