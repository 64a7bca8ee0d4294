use Rattle.std.proofs.Common.{◌^◌, ◌<◌, arith}
use Rattle.far_private.specs.FreePointers.{has}
use Rattle.far_private.proofs.FreeWords.{lowest_first, lowest_inside, lowest_set, none_set}
use Rattle.far_private.proofs.free_pointers.FreePointers.lowest.Goals as goal

pub returns-then-self-eq0 : goal.returns-then-self-eq0
unfolding has
returns-then-self-eq0 c = none_set c.args.self.now.words c.args.self.now.summary c.args.self.now.summary_is c.if-self-eq0.true

pub returns : goal.returns
unfolding has
returns c =
    let words = c.args.self.now.words in
    let s = c.args.self.now.summary in
    let is = c.args.self.now.summary_is in
    let some : 0 < s = omega (arith, c.if-self-eq0.false) in
    let fits : s < 2 ^ 32 = omega arith in
    (lowest_inside words s is some fits (omega arith), lowest_set words s is some fits (omega arith), lowest_first words s is some fits (omega arith))
