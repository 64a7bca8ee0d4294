use Rattle.std.proofs.Common.{◌+◌, ◌<◌, ◌≤◌, arith, false, get_or, length, length-set, None}
use Rattle.far_events.proofs.CopierRows.{empty_still, within_still}
use Rattle.far_events.proofs.memory.jobs.Jobs.touch.Goals as goal

pub invariant_of-self : goal.invariant_of-self
invariant_of-self c =
    let jobs = c.args.self.now in
    let n = c.args.index + 1 in
    let inside : c.args.copier < length jobs.touched = omega (arith, c.requires.copier, jobs.touched_sized) in
    let more : get_or jobs.touched c.args.copier 0 ≤ n = omega (arith, c.touched_by.ensures, c.if-touched_by-index.true) in
    record {
      words_sized = jobs.words_sized;
      since_sized = jobs.since_sized;
      named_sized = jobs.named_sized;
      tasks_sized = jobs.tasks_sized;
      lengths_sized = jobs.lengths_sized;
      tasked = jobs.tasked;
      read_within = jobs.read_within;
      read_room = jobs.read_room;
      written_within = jobs.written_within;
      written_room = jobs.written_room;
      touched_sized = simp length-set jobs.touched_sized;
      touched_within = within_still jobs.touched c.args.copier n inside (omega (arith, c.requires.index)) jobs.touched_within;
      read_behind = empty_still None jobs.touched jobs.read.items c.args.copier n inside more jobs.read_behind;
      written_behind = empty_still false jobs.touched jobs.written.items c.args.copier n inside more jobs.written_behind;
    }
