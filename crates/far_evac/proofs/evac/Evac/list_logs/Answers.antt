use Rattle.std.proofs.Common.{◌≡◌, ℕ, [], ◌∷◌, ◌++◌, map, ap, sym, ◌∙◌, arith}
use Rattle.std.specs.List.{range_with_len}
use Rattle.std.proofs.lemmas.List.FromFn.{map-range_with_len_more}
use Rattle.far_book.specs.book.Rows.{row_of}
use Rattle.far_evac.specs.declared.census.LogState.{LogState}
use Rattle.far_evac.specs.Census.{kind_in}
use Rattle.far_evac.specs.EvacOf.{moment}
use Rattle.far_evac.proofs.evac.Evac.list_logs.Goals as goal

pub loop-log-preserved : goal.loop-log-preserved
loop-log-preserved g c =
    let s = g.N.Near.view c.args.self.now.book.near in
    let row : ℕ → LogState = λ k. record { kind = kind_in (moment g.N.Near.view c.args.self.now) k; row = row_of s k } in
    let one : c.log.result ≡ row c.loop-log.log = (λ i. record { kind = c.log.ensures.kind i; row = c.log.ensures.row i }) in
    record {
      logs = c.push_reserved.ensures.items ∙ ap (λ xs. xs ++ c.log.result ∷ []) c.loop-log.invariant.logs ∙ ap (λ x. map row (range_with_len 0 c.loop-log.log) ++ x ∷ []) one
          ∙ sym (map-range_with_len_more row 0 c.loop-log.log c.loop-log.log (omega arith));
      count = omega (arith, c.push_reserved.ensures.len, c.loop-log.invariant.count);
      room = c.push_reserved.ensures.capacity ∙ c.loop-log.invariant.room;
    }
