use Rattle.std.proofs.Common.{◌≡◌, ℕ, ◌+◌, ◌*◌, ◌<◌, [], length, map, take, drop, get_or, ap, subst, ◌∙◌, arith}
use Rattle.std.proofs.lemmas.List.FromFn.{length-map-range_with_len}
use Rattle.far_array.specs.Listed.{many_from}
use Rattle.far_array.proofs.Folded.{all_from, block_is, first_there, many_facts}
use Rattle.far_array.proofs.reads.read_values.Goals as goal

pub returns-clause-many : goal.returns-clause-many
returns-clause-many g c =
    let d = g.T.Record.decoded in
    let z = g.T.Record.SIZE in
    let v = c.args.rows.now in
    let n = c.in-Ok.n in
    ap length c.push_values.ensures ∙ length-map-range_with_len (λ (k : ℕ). d (take z (drop (k * z) c.get_many.new.out))) 0 n
    ∙ all_from v c.args.i _ n (omega arith) c.in-Ok.ensures.many ∙ ap (λ s. many_from s (length v.items) c.args.i) c.requires.sized

pub returns-clause-got : goal.returns-clause-got
returns-clause-got g c = λ h.
    let d = g.T.Record.decoded in
    let z = g.T.Record.SIZE in
    let v = c.args.rows.now in
    let i = c.args.i in
    let n = c.in-Ok.n in
    let bytes = c.get_many.new.out in
    let many : n ≡ many_from z (length v.items) i = all_from v i _ n (omega arith) c.in-Ok.ensures.many ∙ ap (λ s. many_from s (length v.items) i) c.requires.sized in
    let low = first_there v i _ c.in-Ok.ensures.done in
    let facts = many_facts v i _ n c.size-size.ensures.some (omega (arith, c.size-size.ensures.fits)) (omega arith) low c.in-Ok.ensures.many in
    let each = subst (λ s. (k : ℕ) → k < n → take s (drop (k * s) bytes) ≡ get_or v.items (i + k) []) c.requires.sized (c.in-Ok.ensures.got h) in
    c.push_values.ensures ∙ block_is d v.items z i n bytes facts.1 each ∙ ap (λ m. take m (drop i (map d v.items))) many
