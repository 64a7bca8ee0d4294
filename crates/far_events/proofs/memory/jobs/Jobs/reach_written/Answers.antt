use Rattle.std.proofs.Common.{◌≡◌, ◌+◌, ◌*◌, ◌∙◌, sym, ℕ, ap, arith, Bool, false}
use Rattle.std.specs.Vec.{vec_len}
use Rattle.far_word.specs.declared.sizes.TheConstants.{LOG_WORDS}
use Rattle.far_events.specs.state.Memory.{copying_of}
use Rattle.far_events.proofs.CopierRows.{empty_longer, has_copiers, none_behind, rows_of}
use Rattle.far_events.proofs.memory.jobs.Jobs.reach_written.Goals as goal
use mathlib.Core.Path.{fun_ext}

pub returns-then-len-end-clause-state : goal.returns-then-len-end-clause-state
unfolding copying_of
returns-then-len-end-clause-state c =
    let room = c.args.self.now.written_room (sym (has_copiers c.args.self.now) ∙ c.requires.has) in
    let ok = c.resize.ensures.succeeds (omega (arith, room, c.requires.copier)) in
    ap (λ (f : ℕ → Bool). record (copying_of c.args.self.now) { written = rows_of f false })
    (fun_ext (none_behind false c.args.self.now.written.items c.resize.new.self.items c.args.self.now.written.len (c.args.copier * LOG_WORDS + LOG_WORDS) c.args.self.now.written.ok.0 (omega (arith, c.if-len-end.true, c.len.ensures)) (rw ok at c.resize.ensures.items)))

pub invariant_of-self : goal.invariant_of-self
invariant_of-self c =
    let jobs = c.args.self.now in
    let room = jobs.written_room (sym (has_copiers c.args.self.now) ∙ c.requires.has) in
    let ok = c.resize.ensures.succeeds (omega (arith, room, c.requires.copier)) in
    let len : vec_len c.resize.new.self ≡ c.args.copier * LOG_WORDS + LOG_WORDS = rw ok at c.resize.ensures.len in
    record {
      words_sized = jobs.words_sized;
      since_sized = jobs.since_sized;
      named_sized = jobs.named_sized;
      tasks_sized = jobs.tasks_sized;
      lengths_sized = jobs.lengths_sized;
      tasked = jobs.tasked;
      read_within = jobs.read_within;
      read_room = jobs.read_room;
      written_within = omega (arith, len, c.requires.copier);
      written_room = λ _. omega (arith, room, c.resize.ensures.capacity);
      touched_sized = jobs.touched_sized;
      touched_within = jobs.touched_within;
      read_behind = jobs.read_behind;
      written_behind = empty_longer false jobs.touched jobs.written.items c.resize.new.self.items (none_behind false jobs.written.items c.resize.new.self.items jobs.written.len (c.args.copier * LOG_WORDS + LOG_WORDS) jobs.written.ok.0 (omega (arith, c.if-len-end.true, c.len.ensures)) (rw ok at c.resize.ensures.items)) jobs.written_behind;
    }
