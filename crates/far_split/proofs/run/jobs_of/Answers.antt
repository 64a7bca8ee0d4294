use Rattle.std.proofs.Common.{◌∙◌, ap, arith, length, map, refl, ℕ}
use Rattle.std.specs.List.{range_with_len}
use Rattle.std.proofs.lemmas.List.FromFn.{length-map-range_with_len}
use Rattle.far_heap.specs.Mine.{newcomer}
use Rattle.far_split.specs.declared.run.Job.TheVariants.{Mutator as MutatorJob}
use Rattle.far_split.proofs.Beginning.{first_is, jobs_more}
use Rattle.far_split.proofs.run.jobs_of.Goals as goal

pub loop-number-init : goal.loop-number-init
loop-number-init g c =
    let heap = g.K.HeapName.heap in
    let made = λ (m : ℕ). newcomer heap.table m heap.honest in
    let many = length-map-range_with_len made 0 heap.mutators in
    record {
      left = c.requires.new ∙ ap (λ n. map made (range_with_len 0 n)) (omega arith);
      jobs = record { many = ap length c.in_ok-jobs.ensures.items; each = λ at other lt. absurd (omega (arith, lt)) };
      sum = omega (arith, c.len-many.ensures);
      many = omega (arith, c.len-many.ensures, c.args.mutators.ok.0, ap length c.requires.new, many);
      buffer = omega (arith, c.in_ok-jobs.ensures.capacity);
    }

pub loop-number-preserved : goal.loop-number-preserved
loop-number-preserved g c =
    let heap = g.K.HeapName.heap in
    let n : ℕ = c.loop-number.number in
    let i = c.loop-number.invariant in
    let lt = c.loop-number-test.true in
    let first = first_is heap n c.loop-number.mutators.items c.remove.result c.remove.new.self.items (omega (arith, lt, i.many)) i.left c.remove.ensures.value c.remove.ensures.items in
    record {
      left = first.rest;
      jobs =
          jobs_more heap n c.loop-number.jobs.items i.jobs (MutatorJob c.remove.result n) c.push_reserved.new.self.items
          (refl, omega (arith, lt, i.many), first.first) c.push_reserved.ensures.items;
      sum = omega (arith, i.sum, c.remove.ensures.len);
      many = i.many;
      buffer = omega (arith, i.buffer, c.push_reserved.ensures.capacity);
    }
