use Rattle.std.proofs.Common.{◌≡◌, ◌+◌, ◌<◌, ◌∙◌, ℕ, ap, arith, get_or}
use Rattle.std.specs.Prelude.{length}
use Rattle.far_word.specs.Bytes.{words_of}
use Rattle.far_word.proofs.ByteLaws.{length-words_of}
use Rattle.far_events.specs.declared.memory.stored_rows.Row.{Row}
use Rattle.far_events.specs.state.Rows.{room_in}
use Rattle.far_events.specs.state.StoredRows.{stored_in}
use Rattle.far_events.proofs.KeptRows.{few_words, has_room, row_added}
use Rattle.far_events.proofs.memory.stored_rows.StoredRows.append_row.Goals as goal

pub overflow_cast-start : goal.overflow_cast-start
overflow_cast-start c = omega (arith, few_words c.args.self.now, c.args.self.now.few, c.len-start.ensures)

pub add_row-requires-clause-room : goal.add_row-requires-clause-room
add_row-requires-clause-room c =
    let row : Row = record { start = c.len-start.result; room = c.next_room-room.result } in
    has_room c.args.self.now c.args.pointer row c.requires.pointer c.next_room-room.ensures.sized (omega (arith, c.next_room-room.ensures.twice, ap room_in c.row.ensures))

pub returns-clause-stored : goal.returns-clause-stored
unfolding stored_in
returns-clause-stored c =
    let rows = c.args.self.now in
    let words = words_of c.args.bytes.now in
    let row : Row = record { start = c.len-start.result; room = c.next_room-room.result } in
    let inside : c.args.pointer < length rows.row_of.items = omega (arith, c.requires.pointer, rows.row_of.ok.0) in
    let long : length words ≡ c.args.count = omega (arith, length-words_of c.args.bytes.now, c.requires.bytes) in
    row_added rows.row_of.items c.args.pointer row inside rows.words.items c.add_row.new.words.items words
    (λ q. omega (arith, rows.fit q, rows.words.ok.0)) (omega (arith, c.requires.longer, long)) (omega (arith, c.next_room-room.ensures.long, long))
    (λ k lt. c.add_row.ensures.before k (omega (arith, lt, rows.words.ok.0)))
    (λ i lt. ap (λ (n : ℕ). get_or c.add_row.new.words.items (n + i) 0) c.len-start.ensures ∙ c.add_row.ensures.row i (omega (arith, lt, long)))
    (λ k le. c.add_row.ensures.zeros k (omega (arith, le, c.len-start.ensures, long)))
