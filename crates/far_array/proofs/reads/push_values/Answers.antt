use Rattle.std.proofs.Common.{◌≡◌, ℕ, ◌+◌, ◌-◌, ◌*◌, ◌++◌, ◌∷◌, [], take, drop, ap, sym, ◌∙◌, arith}
use Rattle.std.specs.List.{slice_range}
use Rattle.std.proofs.lemmas.List.FromFn.{map-range_with_len_more}
use Rattle.far_array.specs.Listed.{values_in}
use Rattle.far_array.proofs.reads.push_values.Goals as goal

more : (a z : ℕ) → a + z - a ≡ z
more a z = omega arith

pub loop-k-preserved : goal.loop-k-preserved
loop-k-preserved g c =
    let d = g.T.Record.decoded in
    let z = g.T.Record.SIZE in
    let bytes = c.args.bytes.now in
    let k = c.loop-k.k in
    let e = c.SIZE-size.ensures in
    let value : c.decode.result ≡ d (take z (drop (k * z) bytes)) =
    c.decode.ensures ∙ (λ j. d (slice_range bytes (k * e j) (k * e j + e j))) ∙ ap (λ n. d (take n (drop (k * z) bytes))) (more (k * z) z) in
    record {
      put = c.push_reserved.ensures.items ∙ (λ j. c.loop-k.invariant.put j ++ value j ∷ []) ∙ sym (map-range_with_len_more (λ (j : ℕ). d (take z (drop (j * z) bytes))) 0 k k (omega arith));
      len = c.push_reserved.ensures.len ∙ ap (λ n. n + 1) c.loop-k.invariant.len ∙ omega arith;
      room = c.push_reserved.ensures.capacity ∙ c.loop-k.invariant.room;
    }
