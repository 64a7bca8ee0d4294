use Rattle.std.proofs.Common.{◌≡◌, ◌-◌, ◌<◌, ℕ, Option, Some, length, take, vec_len, sym, ◌∙◌, ap, refl, subst, arith}
use Rattle.std.specs.Prelude.{slice_index}
use Rattle.far_objects.specs.Far.{Others}
use Rattle.far_array.specs.Places.{Kept}
use Rattle.far_array.proofs.Growing.{kept_fewer}
use Rattle.far_array.proofs.blocks.pop_block.Goals as goal

same_some : (m n : ℕ) → ◌≡◌ {A = Option ℕ} (Some m) (Some n) → m ≡ n
same_some m n e = cc

pub returns-clause-kept : goal.returns-clause-kept
returns-clause-kept g c =
    let p = c.args.parts.now in
    let f = g.O.Objects.far p.worker in
    let h = g.O.Objects.far c.let_go.new.worker in
    let full = c.in-Some.ensures.variant.0 refl in
    let long : vec_len p.blocks ≡ length p.blocks.items = omega (arith, p.blocks.ok.0) in
    let some : 0 < length p.blocks.items = omega (arith, full, long) in
    let last : c.in-Some.number ≡ slice_index p.blocks.items (length p.blocks.items - 1) =
    same_some c.in-Some.number (slice_index p.blocks.items (length p.blocks.items - 1)) (c.in-Some.ensures.value 0 full ∙ ap (λ k. Some (slice_index p.blocks.items (k - 1))) long) in
    subst (λ xs. Kept f h p.blocks.items xs p.per p.size) (sym (c.pop.ensures.rest ∙ ap (λ k. take (k - 1) p.blocks.items) long))
    (kept_fewer f h p.blocks.items p.per p.size c.requires.placed some (subst (λ k. Others k f h) last c.let_go.ensures.others))
