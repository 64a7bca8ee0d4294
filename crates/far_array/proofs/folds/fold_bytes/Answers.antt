use Rattle.std.proofs.Common.{◌≡◌, ℕ, ◌+◌, ◌-◌, ◌*◌, take, drop, ap, sym, ◌∙◌, subst, arith}
use Rattle.std.specs.List.{FoldsTo, slice_range}
use Rattle.std.proofs.lemmas.Fn.{FoldsTo-push}
use Rattle.std.proofs.lemmas.List.FromFn.{map-range_with_len_more}
use Rattle.far_array.specs.Listed.{values_in}
use Rattle.far_array.proofs.folds.fold_bytes.Given as given
use Rattle.far_array.proofs.folds.fold_bytes.Goals as goal

more : (a z : ℕ) → a + z - a ≡ z
more a z = omega arith

pub loop-k-preserved : goal.loop-k-preserved
loop-k-preserved g c =
    let d = g.T.Record.decoded in
    let z = g.T.Record.SIZE in
    let bytes = c.args.bytes.now in
    let k = c.loop-k.k in
    let e = c.SIZE-size.ensures in
    let value : c.decode-value.result ≡ d (take z (drop (k * z) bytes)) =
    c.decode-value.ensures ∙ (λ j. d (slice_range bytes (k * e j) (k * e j + e j))) ∙ ap (λ n. d (take n (drop (k * z) bytes))) (more (k * z) z) in
    subst (λ xs. FoldsTo {P = g.row.A.Denot} {A = g.row.T.Denot} (λ a x b. given.F-post g c.args.f.now a x b) c.args.first xs c.f-folded.result)
    (sym (map-range_with_len_more (λ (j : ℕ). d (take z (drop (j * z) bytes))) 0 k k (omega arith)))
    (FoldsTo-push (λ a x b. given.F-post g c.args.f.now a x b) c.args.first (values_in d z k bytes) c.loop-k.folded (d (take z (drop (k * z) bytes))) c.f-folded.result c.loop-k.invariant
    (subst (λ x. given.F-post g c.args.f.now c.loop-k.folded x c.f-folded.result) value c.f-folded.ensures))
