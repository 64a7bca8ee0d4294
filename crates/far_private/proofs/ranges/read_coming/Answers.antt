use Rattle.std.proofs.Common.{◌≡◌, ◌+◌, ◌≤◌, arith, length, subst}
use Rattle.std.specs.Prelude.{OnOk}
use Rattle.far_private.specs.Objects.{IsRead, len_in, objects_of, state_in}
use Rattle.far_private.proofs.Ranging.{inside_on, kept_on, read_on}
use Rattle.far_private.proofs.ranges.read_coming.Goals as goal

pub read_there-requires-clause-inside : goal.read_there-requires-clause-inside
read_there-requires-clause-inside g c =
    let long : length c.args.out.now ≡ length c.read_brought.new.out = omega (arith, c.read_brought.auto.out) in
    subst (λ n. c.args.from + n ≤ len_in (objects_of (state_in c.read_brought.new.evac)) c.args.pointer) long
    (inside_on (state_in c.args.evac.now) (state_in c.read_brought.new.evac) c.read_brought.ensures.keeps c.args.pointer (c.args.from + length c.args.out.now) c.requires.inside)

pub read_there-requires-in-Err-EpochsSpent-clause-inside : goal.read_there-requires-in-Err-EpochsSpent-clause-inside
read_there-requires-in-Err-EpochsSpent-clause-inside g c =
    let long : length c.args.out.now ≡ length c.read_brought.new.out = omega (arith, c.read_brought.auto.out) in
    subst (λ n. c.args.from + n ≤ len_in (objects_of (state_in c.read_brought.new.evac)) c.args.pointer) long
    (inside_on (state_in c.args.evac.now) (state_in c.read_brought.new.evac) c.read_brought.ensures.keeps c.args.pointer (c.args.from + length c.args.out.now) c.requires.inside)

pub returns-in-Err-NoRoom-clause-read : goal.returns-in-Err-NoRoom-clause-read
returns-in-Err-NoRoom-clause-read g c =
    let long : length c.read_brought.new.out ≡ length c.args.out.now = omega (arith, c.read_brought.auto.out) in
    subst (λ n. OnOk c.read_there.result (IsRead (objects_of (state_in c.args.evac.now)) c.args.pointer c.args.from n c.read_there.new.out)) long
    (read_on (state_in c.args.evac.now) (state_in c.read_brought.new.evac) c.read_brought.ensures.keeps c.args.pointer c.args.from (length c.read_brought.new.out) c.read_there.new.out c.read_there.result c.read_there.ensures.read)

pub returns-in-Err-EpochsSpent-clause-read : goal.returns-in-Err-EpochsSpent-clause-read
returns-in-Err-EpochsSpent-clause-read g c =
    let there = c.read_there-in-Err-EpochsSpent in
    let long : length c.read_brought.new.out ≡ length c.args.out.now = omega (arith, c.read_brought.auto.out) in
    subst (λ n. OnOk there.result (IsRead (objects_of (state_in c.args.evac.now)) c.args.pointer c.args.from n there.new.out)) long
    (read_on (state_in c.args.evac.now) (state_in c.read_brought.new.evac) c.read_brought.ensures.keeps c.args.pointer c.args.from (length c.read_brought.new.out) there.new.out there.result there.ensures.read)

pub returns-in-Err-NoRoom-clause-kept : goal.returns-in-Err-NoRoom-clause-kept
returns-in-Err-NoRoom-clause-kept g c = kept_on c.read_there.result c.read_there.new.out c.read_brought.new.out c.args.out.now c.in-Err-NoRoom.ensures.kept c.read_there.ensures.kept

pub returns-in-Err-EpochsSpent-clause-kept : goal.returns-in-Err-EpochsSpent-clause-kept
returns-in-Err-EpochsSpent-clause-kept g c =
    let there = c.read_there-in-Err-EpochsSpent in
    kept_on there.result there.new.out c.read_brought.new.out c.args.out.now c.in-Err-EpochsSpent.ensures.kept there.ensures.kept
