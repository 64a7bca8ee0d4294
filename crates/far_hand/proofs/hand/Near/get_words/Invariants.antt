use Rattle.std.proofs.Common.{◌≡◌, ◌*◌, drop, length}
use Rattle.far_hand.specs.Ranges.{HasRead}
use Rattle.far_hand.proofs.hand.Near.get_words.Given as goal

abbrev pub invariant-loop-i : goal.invariant-loop-i
invariant-loop-i g l = record {
  words : HasRead g.Self.Near.still g.Self.Near.view g.Self.Near.makes l.fn.log l.fn.at l.fn.self l.self l.i l.row;
  behind : drop (8 * l.i) l.row ≡ drop (8 * l.i) l.fn.row;
  long : length l.row ≡ length l.fn.row;
}
