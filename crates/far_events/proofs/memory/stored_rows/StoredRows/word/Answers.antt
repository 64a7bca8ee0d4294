use Rattle.std.proofs.Common.{◌+◌, ◌<◌, ◌∙◌, ap, arith, sym, get_or}
use Rattle.std.specs.Prelude.{length}
use Rattle.std.proofs.lemmas.Grind.{get_or_default_zero}
use Rattle.far_events.specs.declared.memory.stored_rows.Row.{Row}
use Rattle.far_events.specs.state.Rows.{room_in, row_at}
use Rattle.far_events.specs.state.StoredRows.{stored_in}
use Rattle.far_events.proofs.KeptRows.{word_in, word_past}
use Rattle.far_events.proofs.memory.stored_rows.StoredRows.word.Goals as goal

pub returns-then-index-row : goal.returns-then-index-row
unfolding stored_in
returns-then-index-row c =
    let rows = c.args.self.now in
    sym (word_past rows.words.items (row_at rows.row_of.items c.args.pointer) c.args.index (omega (arith, c.if-index-row.true, ap room_in c.row-row.ensures)))

pub returns : goal.returns
unfolding stored_in
returns c =
    let rows = c.args.self.now in
    let row = row_at rows.row_of.items c.args.pointer in
    let low : c.args.index < row.room = omega (arith, c.if-index-row.false, ap room_in c.row-row.ensures) in
    let same = ap (λ (r : Row). r.start) c.row-row.ensures in
    let inside : c.row-row.result.start + c.args.index < length rows.words.items = omega (arith, rows.fit c.args.pointer, rows.words.ok.0, low, same) in
    c.index.ensures ∙ get_or_default_zero rows.words.items (c.row-row.result.start + c.args.index) c.index.result.now inside
    ∙ ap (λ start. get_or rows.words.items (start + c.args.index) 0) same ∙ sym (word_in rows.words.items row c.args.index low)
