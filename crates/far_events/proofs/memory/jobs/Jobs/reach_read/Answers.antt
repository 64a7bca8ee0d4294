use Rattle.std.proofs.Common.{◌≡◌, ◌+◌, ◌*◌, ◌∙◌, sym, ℕ, ap, arith, Option, None}
use Rattle.std.specs.Vec.{vec_len}
use Rattle.far_word.specs.declared.sizes.TheConstants.{LOG_WORDS}
use Rattle.far_events.specs.state.Memory.{copying_of}
use Rattle.far_events.proofs.CopierRows.{empty_longer, has_copiers, none_behind, rows_of}
use Rattle.far_events.proofs.memory.jobs.Jobs.reach_read.Goals as goal
use mathlib.Core.Path.{fun_ext}

pub returns-then-len-end-clause-state : goal.returns-then-len-end-clause-state
unfolding copying_of
returns-then-len-end-clause-state c =
    let room = c.args.self.now.read_room (sym (has_copiers c.args.self.now) ∙ c.requires.has) in
    let ok = c.resize.ensures.succeeds (omega (arith, room, c.requires.copier)) in
    ap (λ (f : ℕ → Option ℕ). record (copying_of c.args.self.now) { read = rows_of f None })
    (fun_ext (none_behind None c.args.self.now.read.items c.resize.new.self.items c.args.self.now.read.len (c.args.copier * LOG_WORDS + LOG_WORDS) c.args.self.now.read.ok.0 (omega (arith, c.if-len-end.true, c.len.ensures)) (rw ok at c.resize.ensures.items)))

pub invariant_of-self : goal.invariant_of-self
invariant_of-self c =
    let jobs = c.args.self.now in
    let room = jobs.read_room (sym (has_copiers c.args.self.now) ∙ c.requires.has) in
    let ok = c.resize.ensures.succeeds (omega (arith, room, c.requires.copier)) in
    let len : vec_len c.resize.new.self ≡ c.args.copier * LOG_WORDS + LOG_WORDS = rw ok at c.resize.ensures.len in
    record {
      words_sized = jobs.words_sized;
      since_sized = jobs.since_sized;
      named_sized = jobs.named_sized;
      tasks_sized = jobs.tasks_sized;
      lengths_sized = jobs.lengths_sized;
      tasked = jobs.tasked;
      read_within = omega (arith, len, c.requires.copier);
      read_room = λ _. omega (arith, room, c.resize.ensures.capacity);
      written_within = jobs.written_within;
      written_room = jobs.written_room;
      touched_sized = jobs.touched_sized;
      touched_within = jobs.touched_within;
      read_behind = empty_longer None jobs.touched jobs.read.items c.resize.new.self.items (none_behind None jobs.read.items c.resize.new.self.items jobs.read.len (c.args.copier * LOG_WORDS + LOG_WORDS) jobs.read.ok.0 (omega (arith, c.if-len-end.true, c.len.ensures)) (rw ok at c.resize.ensures.items)) jobs.read_behind;
      written_behind = jobs.written_behind;
    }
