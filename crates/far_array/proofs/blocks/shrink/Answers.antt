use Rattle.std.proofs.Common.{◌≡◌, ◌≤◌, ◌-◌, ℕ, length, take, vec_len, sym, ◌∙◌, ap, refl, subst, arith}
use Rattle.std.proofs.lemmas.List.{length-take, take-take, take_all}
use Rattle.far_array.specs.Places.{Kept, Placed}
use Rattle.far_array.proofs.Growing.{kept_all, then_kept}
use Rattle.far_array.proofs.blocks.shrink.Goals as goal

pub loop-parts-init : goal.loop-parts-init
loop-parts-init g c =
    let p = c.args.parts.now in
    record { per = refl; size = refl; len = refl; front = refl; kept = kept_all (g.O.Objects.far p.worker) p.blocks.items p.blocks.items p.per p.size c.requires.placed refl }

pub pop_block-requires : goal.pop_block-requires
pop_block-requires g c =
    let l = c.loop-parts.parts in
    let i = c.loop-parts.invariant in
    record { placed = subst (λ (q : ℕ × ℕ). Placed (g.O.Objects.far l.worker) l.blocks.items q.0 q.1) (λ k. (sym i.per k, sym i.size k)) i.kept.placed }

pub loop-parts-preserved : goal.loop-parts-preserved
loop-parts-preserved g c =
    let p = c.args.parts.now in
    let l = c.loop-parts.parts in
    let i = c.loop-parts.invariant in
    let n = c.pop_block.new.parts in
    let e = c.pop_block.ensures in
    let f = g.O.Objects.far p.worker in
    let m = g.O.Objects.far l.worker in
    let h = g.O.Objects.far n.worker in
    let long : vec_len l.blocks ≡ length l.blocks.items = omega (arith, l.blocks.ok.0) in
    let cut : length n.blocks.items ≡ length (take (length l.blocks.items - 1) l.blocks.items) = ap (λ xs. length xs) e.blocks in
    let less : length n.blocks.items ≤ length l.blocks.items = omega (arith, cut, length-take (length l.blocks.items - 1) l.blocks.items) in
    let more : c.args.n ≤ length l.blocks.items - 1 = omega (arith, long) in
    let two : Kept m h l.blocks.items n.blocks.items p.per p.size = subst (λ (q : ℕ × ℕ). Kept m h l.blocks.items n.blocks.items q.0 q.1) (λ k. (i.per k, i.size k)) e.kept in
    record {
      per = e.per ∙ i.per;
      size = e.size ∙ i.size;
      len = e.len ∙ i.len;
      front = ap (λ xs. take c.args.n xs) e.blocks ∙ take-take c.args.n (length l.blocks.items - 1) l.blocks.items more ∙ i.front;
      kept = then_kept f m h p.blocks.items l.blocks.items n.blocks.items p.per p.size less i.kept two;
    }

pub returns-clause-blocks : goal.returns-clause-blocks
returns-clause-blocks g c =
    let l = c.loop-parts.parts in
    let long : vec_len l.blocks ≡ length l.blocks.items = omega (arith, l.blocks.ok.0) in
    sym (take_all c.args.n l.blocks.items (omega (arith, long))) ∙ c.loop-parts.invariant.front
