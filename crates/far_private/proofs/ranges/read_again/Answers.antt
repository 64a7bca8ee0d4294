use Rattle.std.proofs.Common.{◌+◌, ◌≤◌, length, subst, sym}
use Rattle.far_private.specs.Objects.{IsRead, len_in, objects_of, state_in}
use Rattle.far_private.proofs.Keeping.{keeps_both}
use Rattle.std.specs.Prelude.{OnOk}
use Rattle.far_private.proofs.Ranging.{inside_on, kept_on, read_before, read_on}
use Rattle.far_private.proofs.ranges.read_again.Goals as goal

pub read_once-requires-clause-inside : goal.read_once-requires-clause-inside
read_once-requires-clause-inside g c =
    subst (λ n. c.args.from + n ≤ len_in (objects_of (state_in c.make.new.evac)) c.args.pointer) (sym c.loop-rounds.invariant.long)
    (inside_on (state_in c.args.evac.now) (state_in c.make.new.evac) (keeps_both (state_in c.args.evac.now) (state_in c.loop-rounds.evac) (state_in c.make.new.evac) c.loop-rounds.invariant.keeps c.make.ensures.keeps) c.args.pointer (c.args.from + length c.args.out.now)
    c.requires.inside)

pub returns-in-Ok-clause-read : goal.returns-in-Ok-clause-read
returns-in-Ok-clause-read g c =
    read_before (state_in c.args.evac.now) (state_in c.make.new.evac) (keeps_both (state_in c.args.evac.now) (state_in c.loop-rounds.evac) (state_in c.make.new.evac) c.loop-rounds.invariant.keeps c.make.ensures.keeps) c.args.pointer c.args.from (length c.args.out.now)
    c.read_once.new.out (subst (λ n. IsRead (objects_of (state_in c.make.new.evac)) c.args.pointer c.args.from n c.read_once.new.out) c.loop-rounds.invariant.long c.in-Ok.ensures.read)

pub read_last-requires-clause-inside : goal.read_last-requires-clause-inside
read_last-requires-clause-inside g c =
    subst (λ n. c.args.from + n ≤ len_in (objects_of (state_in c.make.new.evac)) c.args.pointer) (sym c.loop-rounds.invariant.long)
    (inside_on (state_in c.args.evac.now) (state_in c.make.new.evac) (keeps_both (state_in c.args.evac.now) (state_in c.loop-rounds.evac) (state_in c.make.new.evac) c.loop-rounds.invariant.keeps c.make.ensures.keeps) c.args.pointer (c.args.from + length c.args.out.now)
    c.requires.inside)

pub returns-clause-read : goal.returns-clause-read
returns-clause-read g c =
    read_on (state_in c.args.evac.now) (state_in c.make.new.evac) (keeps_both (state_in c.args.evac.now) (state_in c.loop-rounds.evac) (state_in c.make.new.evac) c.loop-rounds.invariant.keeps c.make.ensures.keeps) c.args.pointer c.args.from (length c.args.out.now)
    c.read_last.new.out c.read_last.result (subst (λ n. OnOk c.read_last.result (IsRead (objects_of (state_in c.make.new.evac)) c.args.pointer c.args.from n c.read_last.new.out)) c.loop-rounds.invariant.long c.read_last.ensures.read)

pub returns-clause-kept : goal.returns-clause-kept
returns-clause-kept g c = kept_on c.read_last.result c.read_last.new.out c.loop-rounds.out c.args.out.now c.loop-rounds.invariant.kept c.read_last.ensures.kept
