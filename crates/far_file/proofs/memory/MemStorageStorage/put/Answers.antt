use Rattle.std.proofs.Common.{◌≡◌, ◌∙◌, ◌+◌, ◌-◌, ◌<◌, ◌≤◌, ◌⊎◌, max, ap, subst, sym, refl, List, ℕ, length, slice_index, arith}
use Rattle.far_file.specs.Positions.{HoldsAt, KeepsOutside}
use Rattle.far_file.proofs.Putting.{after_put, put_beside, put_here}
use Rattle.far_file.proofs.memory.MemStorageStorage.put.Goals.{After-copy_from_slice}
use Rattle.far_file.proofs.memory.MemStorageStorage.put.Goals as goal

-- the bytes after the copy
abbrev filled : After-copy_from_slice → List ℕ
filled c = let v = c.lengthen.new.bytes in after_put v.len c.args.at (c.in-Some.end - c.args.at) v.items c.deref_mut.result.now c.copy_from_slice.new.self

-- what the copy put in is as long as the part that it was put over, and the part lies within the bytes
as_many : (c : After-copy_from_slice) → c.in-Some.end - c.args.at ≡ length c.copy_from_slice.new.self
as_many c = omega (arith, c.in-Some.ensures.1, ap length c.copy_from_slice.ensures.after)

fits : (c : After-copy_from_slice) → c.args.at + (c.in-Some.end - c.args.at) ≤ c.lengthen.new.bytes.len
fits c = omega (arith, c.in-Some.ensures.1, c.if-not-lengthen.ensures.long refl)

here : (c : After-copy_from_slice) → HoldsAt (slice_index (filled c)) c.args.at c.args.bytes.now
here c k below =
    let v = c.lengthen.new.bytes in
    let same = c.copy_from_slice.ensures.after in
    let copied : k < length c.copy_from_slice.new.self = omega (arith, ap length same) in
    put_here v.len c.args.at (c.in-Some.end - c.args.at) v.items c.deref_mut.result.now c.copy_from_slice.new.self c.deref_mut.ensures.len (as_many c) (fits c) k copied ∙ ap (λ bytes. slice_index bytes k) same

beside : (c : After-copy_from_slice) → KeepsOutside (slice_index c.args.self.now.bytes.items) (slice_index (filled c)) c.args.at (length c.args.bytes.now)
beside c k out =
    let v = c.lengthen.new.bytes in
    let outside = subst (λ n. (k < c.args.at) ⊎ (c.args.at + n ≤ k)) (sym (ap length c.copy_from_slice.ensures.after)) out in
    put_beside v.len c.args.at (c.in-Some.end - c.args.at) v.items c.deref_mut.result.now c.copy_from_slice.new.self c.deref_mut.ensures.len (as_many c) (fits c) k outside
    ∙ ap (λ row. slice_index row k) c.deref_mut.ensures.value ∙ c.if-not-lengthen.ensures.same k

pub returns-clause-called : goal.returns-clause-called
returns-clause-called c =
    let call = (goal.at.returns-clause-called c).After-copy_from_slice in
    let long = c.if-not-lengthen.ensures.long refl ∙ ap (λ end. max c.args.self.now.bytes.len end) c.in-Some.ensures.1 in
    (c.in-Some.ensures.0, long, here call, beside call)

pub returns-clause-put : goal.returns-clause-put
returns-clause-put c = λ honest. here (goal.at.returns-clause-put c).After-copy_from_slice

pub returns-clause-others : goal.returns-clause-others
returns-clause-others c = λ honest. beside (goal.at.returns-clause-others c).After-copy_from_slice
