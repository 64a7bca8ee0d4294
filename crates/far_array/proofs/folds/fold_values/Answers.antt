use Rattle.std.proofs.Common.{◌≡◌, ℕ, ◌+◌, ◌*◌, ◌<◌, List, [], length, map, take, drop, get_or, ap, ◌∙◌, subst, arith}
use Rattle.std.specs.List.{FoldsTo}
use Rattle.std.proofs.lemmas.List.{length-map, take_all}
use Rattle.far_array.specs.Rows.{Rows, many_at}
use Rattle.far_array.proofs.Folded.{fold_more, many_facts}
use Rattle.far_array.proofs.folds.fold_values.Given as given
use Rattle.far_array.proofs.folds.fold_values.Goals as goal

each_of : (r v : Rows) (z i n : ℕ) (bytes : List ℕ) → r ≡ v → v.size ≡ z → ((k : ℕ) → k < n → take r.size (drop (k * r.size) bytes) ≡ get_or r.items (i + k) []) → (k : ℕ) → k < n → take z (drop (k * z) bytes) ≡ get_or v.items (i + k) []
each_of r v z i n bytes e f each = λ k l.
    subst (λ y. take y (drop (k * y) bytes) ≡ get_or v.items (i + k) []) f (subst (λ (u : Rows). take u.size (drop (k * u.size) bytes) ≡ get_or u.items (i + k) []) e (each k l))

pub loop-i-preserved : goal.loop-i-preserved
loop-i-preserved g c =
    let d = g.T.Record.decoded in
    let z = g.T.Record.SIZE in
    let v = c.args.rows.now in
    let r = c.loop-i.rows in
    let i = c.loop-i.i in
    let n = c.in-Ok.n in
    let same = c.loop-i.invariant.same in
    let m = length c.loop-i.block in
    let many : n ≡ many_at v i m = subst (λ (u : Rows). n ≡ many_at u i m) same c.in-Ok.ensures.many in
    let low : i < length v.items = omega arith in
    let facts = many_facts v i m n c.size-size.ensures.some (omega arith) (omega arith) low many in
    record {
      low = omega (arith, facts.1);
      same = c.get_many.ensures.same ∙ same;
      folded = λ h. fold_more (λ a x b. given.F-post g c.args.f.now a x b) d v.items z i n c.get_many.new.out c.args.first c.loop-i.folded c.fold_bytes-folded.result facts.1
          (each_of r v z i n c.get_many.new.out same c.requires.sized (c.in-Ok.ensures.got (ap (λ (u : Rows). u.honest) same ∙ h)))
          (c.loop-i.invariant.folded h) c.fold_bytes-folded.ensures;
    }

pub returns-clause-folded : goal.returns-clause-folded
returns-clause-folded g c = λ h.
    let d = g.T.Record.decoded in
    let xs = map d c.args.rows.now.items in
    subst (λ ys. FoldsTo {P = g.row.A.Denot} {A = g.row.T.Denot} (λ a x b. given.F-post g c.args.f.now a x b) c.args.first ys c.loop-i.folded)
    (take_all c.loop-i.i xs (omega (arith, length-map c.args.rows.now.items d))) (c.loop-i.invariant.folded h)
