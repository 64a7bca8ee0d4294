use Rattle.std.proofs.Common.{◌∙◌, ◌-◌, ◌*◌, ◌^◌}
use Rattle.std.proofs.lemmas.Bool.{le-leb}
use Rattle.std.proofs.lemmas.Nat.{pow_pos}
use Rattle.far_events.proofs.Bounds.{shifted_out, all_fit}
use Rattle.tests_far_table.proofs.tests.owner.keeps_padding.Goals as goal

pub returns-then-left-ge8 : goal.returns-then-left-ge8
returns-then-left-ge8 c = le-leb 8 _ c.if-left-ge8.true ∙ all_fit c.args.word (c.args.len - 8 * c.args.index) c.ranges.word.fits c.if-left-ge8.true

pub returns-else-left-ge8 : goal.returns-else-left-ge8
returns-else-left-ge8 c = shifted_out c.args.word (2 ^ (8 * (c.args.len - 8 * c.args.index))) (pow_pos _)
