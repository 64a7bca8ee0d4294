use Rattle.std.proofs.Common.{◌≡◌, ◌+◌, ◌≤◌, arith, length, subst}
use Rattle.std.specs.Prelude.{OnOk}
use Rattle.far_private.specs.Objects.{IsRead, len_in, objects_of, state_in}
use Rattle.far_private.proofs.Ranging.{inside_on, kept_on, read_on}
use Rattle.far_private.proofs.ranges.read_brought.Goals as goal

pub read_again-requires-clause-inside : goal.read_again-requires-clause-inside
read_again-requires-clause-inside g c =
    let long : length c.args.out.now ≡ length c.read_once.new.out = omega (arith, c.read_once.auto.out) in
    subst (λ n. c.args.from + n ≤ len_in (objects_of (state_in c.read_once.new.evac)) c.args.pointer) long
    (inside_on (state_in c.args.evac.now) (state_in c.read_once.new.evac) c.read_once.ensures.keeps c.args.pointer (c.args.from + length c.args.out.now) c.requires.inside)

pub returns-in-Err-NoRoom-clause-read : goal.returns-in-Err-NoRoom-clause-read
returns-in-Err-NoRoom-clause-read g c =
    let long : length c.read_once.new.out ≡ length c.args.out.now = omega (arith, c.read_once.auto.out) in
    subst (λ n. OnOk c.read_again.result (IsRead (objects_of (state_in c.args.evac.now)) c.args.pointer c.args.from n c.read_again.new.out)) long
    (read_on (state_in c.args.evac.now) (state_in c.read_once.new.evac) c.read_once.ensures.keeps c.args.pointer c.args.from (length c.read_once.new.out) c.read_again.new.out c.read_again.result c.read_again.ensures.read)

pub returns-in-Err-NoRoom-clause-kept : goal.returns-in-Err-NoRoom-clause-kept
returns-in-Err-NoRoom-clause-kept g c = kept_on c.read_again.result c.read_again.new.out c.read_once.new.out c.args.out.now c.in-Err-NoRoom.ensures.kept c.read_again.ensures.kept
