use Rattle.std.proofs.Common.{◌≡◌, ◌++◌, Some, length, take, drop, sym, ◌∙◌}
use Rattle.far_pool.specs.Pool.{found}
use Rattle.far_pool.proofs.Wholes.{found_well, whole_into, whole_told, why_whole}
use Rattle.far_pool.proofs.counted.Counted.read_into.Goals as goal

pub returns-in-Ok-read-clause-read : goal.returns-in-Ok-read-clause-read
returns-in-Ok-read-clause-read g c =
    let s = c.args.self.now in
    let long : length c.as_mut_slice.result.now ≡ c.in-Some.len = c.as_mut_slice.ensures.len ∙ c.in-Ok.ensures.len in
    let same : c.resize.new.self.len ≡ c.in-Some.len = c.in-Ok.ensures.len in
    whole_into s.honest (found s c.args.pointer c.args.generation) c.in-Some.len c.as_mut_slice.result.now c.read.new.out _ (found_well s c.args.pointer c.args.generation (c.keeps_law.ensures.well c.args.pointer))
    (sym c.len_of.ensures ∙ c.in-Some.is) long c.in-Ok-read.ensures.long c.in-Ok-read.ensures.read
    (λ i. take (same i) (c.read.new.out ++ drop (length c.read.new.out) (sym c.as_mut_slice.ensures.value i)))

pub returns-in-Err-clause-why : goal.returns-in-Err-clause-why
returns-in-Err-clause-why g c =
    let s = c.args.self.now in
    why_whole s.honest (found s c.args.pointer c.args.generation) c.in-Some.len (length c.as_mut_slice.result.now) c.in-Err.why (found_well s c.args.pointer c.args.generation (c.keeps_law.ensures.well c.args.pointer))
    (sym c.len_of.ensures ∙ c.in-Some.is) (c.as_mut_slice.ensures.len ∙ c.in-Ok.ensures.len) c.in-Err.ensures.why

pub returns-in-Err-clause-fault : goal.returns-in-Err-clause-fault
returns-in-Err-clause-fault g c =
    let s = c.args.self.now in
    λ _. whole_told s.honest (found s c.args.pointer c.args.generation) c.in-Some.len (length c.as_mut_slice.result.now) (found_well s c.args.pointer c.args.generation (c.keeps_law.ensures.well c.args.pointer))
    (sym c.len_of.ensures ∙ c.in-Some.is) (c.as_mut_slice.ensures.len ∙ c.in-Ok.ensures.len) c.in-Err.ensures.fault
