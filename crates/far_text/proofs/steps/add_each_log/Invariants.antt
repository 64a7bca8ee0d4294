use Rattle.std.proofs.Common.{◌≡◌, ◌≤◌, ◌+◌, length, take, drop}
use Rattle.far_text.specs.declared.hex_word.TheConstants.{LONGEST_BYTES}
use Rattle.far_text.specs.Cursor.{words_in, words_left}
use Rattle.far_text.specs.Grammar.{each_log}
use Rattle.far_text.proofs.Scripts.{behind}
use Rattle.far_text.proofs.steps.add_each_log.Given as goal

-- the logs so far, and those of the words that are left, are those of all the words
abbrev pub invariant-loop-rest : goal.invariant-loop-rest
invariant-loop-rest l = record {
  kept : take (length l.fn.bytes) l.bytes ≡ l.fn.bytes;
  more : length l.fn.bytes ≤ length l.bytes;
  reads : behind (drop (length l.fn.bytes) l.bytes) (each_log (words_left l.rest)) ≡ each_log (words_in l.fn.words);
  counted : length l.bytes + length (words_left l.rest) ≡ length l.fn.bytes + length (words_in l.fn.words);
  short : length l.bytes ≤ length l.fn.bytes + LONGEST_BYTES;
}

abbrev pub decreases-loop-rest : goal.decreases-loop-rest
decreases-loop-rest l = length (words_left l.rest)
