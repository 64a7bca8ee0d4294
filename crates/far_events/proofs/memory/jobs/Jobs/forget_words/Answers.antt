use Rattle.std.proofs.Common.{◌+◌, ◌-◌, ◌*◌, ◌≡◌, ◌≤◌, ◌<◌, arith, false, get_or, rules, None}
use Rattle.std.specs.Prelude.{length}
use Rattle.far_word.specs.declared.sizes.TheConstants.{LOG_WORDS}
use Rattle.far_events.specs.state.Memory.{copying_of}
use Rattle.far_events.proofs.CopierRows.{row_emptied, still_empty, within_still}
use Rattle.far_events.proofs.memory.jobs.Jobs.forget_words.Goals as goal

pub invariant_of-self-clause-touched_within : goal.invariant_of-self-clause-touched_within
invariant_of-self-clause-touched_within c =
    let jobs = c.args.self.now in
    within_still jobs.touched c.args.copier 0 (omega (arith, c.requires.copier, jobs.touched_sized)) (omega arith) jobs.touched_within

pub invariant_of-self-clause-read_behind : goal.invariant_of-self-clause-read_behind
invariant_of-self-clause-read_behind c =
    let jobs = c.args.self.now in
    let k = c.args.copier * LOG_WORDS + c.touched_by.result - c.args.copier * LOG_WORDS in
    still_empty jobs.read _ c.fill.new.self jobs.touched c.args.copier k None c.deref_mut.ensures.value (c.fill.ensures.after (λ y e. search rules)) (omega (arith, c.touched_by.ensures)) (jobs.touched_within c.args.copier)
    (omega (arith, c.requires.read, jobs.read.ok.0)) (omega (arith, c.requires.copier, jobs.touched_sized)) jobs.read_behind

pub invariant_of-self-clause-written_behind : goal.invariant_of-self-clause-written_behind
invariant_of-self-clause-written_behind c =
    let jobs = c.args.self.now in
    let k = c.args.copier * LOG_WORDS + c.touched_by.result - c.args.copier * LOG_WORDS in
    still_empty jobs.written _ c.fill-2.new.self jobs.touched c.args.copier k false c.deref_mut-2.ensures.value (c.fill-2.ensures.after (λ y e. e)) (omega (arith, c.touched_by.ensures)) (jobs.touched_within c.args.copier)
    (omega (arith, c.requires.written, jobs.written.ok.0)) (omega (arith, c.requires.copier, jobs.touched_sized)) jobs.written_behind

pub returns : goal.returns
unfolding copying_of
returns c =
    let jobs = c.args.self.now in
    let k = c.args.copier * LOG_WORDS + c.touched_by.result - c.args.copier * LOG_WORDS in
    let size : k ≡ get_or jobs.touched c.args.copier 0 = omega (arith, c.touched_by.ensures) in
    let few : get_or jobs.touched c.args.copier 0 ≤ LOG_WORDS = jobs.touched_within c.args.copier in
    let inside : c.args.copier < length jobs.touched = omega (arith, c.requires.copier, jobs.touched_sized) in
    λ i. record (copying_of jobs) {
      read = row_emptied jobs.read _ c.fill.new.self jobs.touched c.args.copier k None c.deref_mut.ensures.value (c.fill.ensures.after (λ y e. search rules)) size few
          (omega (arith, c.requires.read, jobs.read.ok.0)) inside jobs.read_behind i;
      written = row_emptied jobs.written _ c.fill-2.new.self jobs.touched c.args.copier k false c.deref_mut-2.ensures.value (c.fill-2.ensures.after (λ y e. e)) size few
          (omega (arith, c.requires.written, jobs.written.ok.0)) inside jobs.written_behind i;
    }

pub invariant_of-self-clause-read_within : goal.invariant_of-self-clause-read_within
invariant_of-self-clause-read_within c = c.args.self.now.read_within

pub invariant_of-self-clause-read_room : goal.invariant_of-self-clause-read_room
invariant_of-self-clause-read_room c = c.args.self.now.read_room

pub invariant_of-self-clause-written_within : goal.invariant_of-self-clause-written_within
invariant_of-self-clause-written_within c = c.args.self.now.written_within

pub invariant_of-self-clause-written_room : goal.invariant_of-self-clause-written_room
invariant_of-self-clause-written_room c = c.args.self.now.written_room

pub slice_bounds-fill-count : goal.slice_bounds-fill-count
slice_bounds-fill-count c = omega arith

pub slice_bounds-fill-end : goal.slice_bounds-fill-end
slice_bounds-fill-end c = omega (arith, c.touched_by.ensures, c.args.self.now.touched_within c.args.copier, c.requires.read, c.deref_mut.ensures.len)

pub slice_bounds-fill-count-2 : goal.slice_bounds-fill-count-2
slice_bounds-fill-count-2 c = omega arith

pub slice_bounds-fill-end-2 : goal.slice_bounds-fill-end-2
slice_bounds-fill-end-2 c = omega (arith, c.touched_by.ensures, c.args.self.now.touched_within c.args.copier, c.requires.written, c.deref_mut-2.ensures.len)
