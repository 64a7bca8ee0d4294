use Rattle.std.proofs.Common.{◌≡◌, ◌+◌, ◌-◌, ◌∙◌, ◌≤◌, ℕ, ap, arith, get_or}
use Rattle.std.specs.Prelude.{length}
use Rattle.far_word.specs.Bytes.{words_of}
use Rattle.far_word.proofs.ByteLaws.{length-words_of}
use Rattle.far_events.specs.declared.memory.stored_rows.Row.{Row}
use Rattle.far_events.specs.events.Ranges.{with_row}
use Rattle.far_events.specs.state.StoredRows.{stored_in}
use Rattle.far_events.proofs.Rows.{row_written}
use Rattle.far_events.proofs.KeptRows.{row_kept}
use Rattle.far_events.proofs.memory.stored_rows.StoredRows.write_row.Goals as goal

pub returns-clause-stored : goal.returns-clause-stored
unfolding stored_in
returns-clause-stored c =
    let rows = c.args.self.now in
    let words = words_of c.args.bytes.now in
    let start = c.row-start.result.start in
    let same = ap (λ (r : Row). r.start) c.row-start.ensures in
    let long : length words ≡ c.args.count = omega (arith, length-words_of c.args.bytes.now, c.requires.bytes) in
    let short : length words ≤ c.args.count = omega (arith, long) in
    let fits : start + length words ≤ length rows.words.items = omega (arith, rows.fit c.args.pointer, rows.words.ok.0, c.requires.short, same, long) in
    row_kept rows.row_of.items rows.apart c.args.pointer rows.words.items _ words (omega (arith, short, c.requires.short))
    (row_written rows.words _ c.pack_bytes.new.words start (start + c.args.count - start) c.deref_mut.ensures.value words c.pack_bytes.ensures (omega (arith, long)) fits
    ∙ ap (λ (a : ℕ). with_row (λ q. get_or rows.words.items q 0) a (length words) (λ i. get_or words i 0)) same)
