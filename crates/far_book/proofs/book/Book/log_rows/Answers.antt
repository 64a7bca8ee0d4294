use Rattle.far_book.proofs.book.Book.log_rows.Goals as goal
use Rattle.std.proofs.Common.{◌∙◌, ap, sym, arith, length, ◌++◌, ◌∷◌, []}
use Rattle.std.specs.Prelude.{slice_index_or}
use Rattle.far_book.specs.book.Own.{own_part}
use Rattle.far_book.proofs.region.Calls.{row_own}
use Rattle.far_book.proofs.region.Gone.{rows_few, rows_gone, rows_kept}
use Rattle.far_book.proofs.region.NotesKept.{listed_inside}

pub row-requires : goal.row-requires
row-requires g c =
    let s = g.N.Near.view c.self.inside.near in
    let notes = c.self.invariant.0.notes in
    let stays = sym c.has.ensures ∙ c.if-has.false in
    record { known = (own_part s, (notes, listed_inside (own_part s) c.self.inside.ledger notes c.parts.result.1 c.parts.result.0.now c.parts.ensures.sealed c.loop-log.log-index c.loop-log-test.true stays)) }

pub push-requires : goal.push-requires
push-requires g c =
    let few = rows_few (g.N.Near.view c.self.inside.near) c.parts.result.1 c.parts.result.0.now c.loop-log.log-index c.loop-log-test.true in
    record { room = omega (arith, ap length c.loop-log.invariant.rows, few, c.loop-log-test.true, c.parts.ensures.few) }

pub loop-log-preserved-then-has : goal.loop-log-preserved-then-has
loop-log-preserved-then-has g c =
    let away = sym c.has.ensures ∙ c.if-has.true in
    record {
      rows = c.loop-log.invariant.rows ∙ rows_gone (g.N.Near.view c.self.inside.near) c.parts.result.1 c.parts.result.0.now c.loop-log.log-index c.loop-log-test.true away;
    }

pub loop-log-preserved : goal.loop-log-preserved
loop-log-preserved g c =
    let s = g.N.Near.view c.self.inside.near in
    let notes = c.self.invariant.0.notes in
    let i = c.loop-log.log-index in
    let stays = sym c.has.ensures ∙ c.if-has.false in
    let inside = listed_inside (own_part s) c.self.inside.ledger notes c.parts.result.1 c.parts.result.0.now c.parts.ensures.sealed i c.loop-log-test.true stays in
    let row = c.row.ensures (own_part s) (notes, inside) ∙ row_own s notes.law (slice_index_or c.parts.result.0.now i 0) in
    record {
      rows = c.push.ensures ∙ ap (λ xs. xs ++ c.row.result ∷ []) c.loop-log.invariant.rows ∙ rows_kept s c.parts.result.1 c.parts.result.0.now i c.loop-log-test.true stays c.row.result row;
    }
