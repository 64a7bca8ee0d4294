use Rattle.std.proofs.Common.{◌≡◌, ◌+◌, ◌-◌, arith}
use Rattle.std.specs.Prelude.{length}
use Rattle.std.specs.Vec.{vec_len}
use Rattle.far_word.specs.Bytes.{words_of}
use Rattle.far_word.proofs.ByteLaws.{length-words_of}
use Rattle.far_events.proofs.KeptRows.{at_end, before_end, behind_end}
use Rattle.far_events.proofs.memory.stored_rows.add_row.Goals as goal

pub returns-clause-before : goal.returns-clause-before
returns-clause-before c =
    let words = words_of c.args.bytes.now in
    let old = c.args.words.now in
    let more = c.resize.new.self in
    let start = c.len-start.result in
    let long : length words ≡ c.args.count = omega (arith, length-words_of c.args.bytes.now, c.requires.bytes) in
    let ok = c.resize.ensures.succeeds (omega (arith, c.requires.room, c.len-start.ensures)) in
    let size : vec_len more ≡ start + c.args.room = rw ok at c.resize.ensures.len in
    before_end old.items more _ c.pack_bytes.new.words words start old.len c.args.room (start + c.args.count - start) c.args.count
    old.ok.0 c.len-start.ensures (rw ok at c.resize.ensures.items) c.deref_mut.ensures.value c.pack_bytes.ensures (omega arith) long (omega (arith, size, more.ok.0, c.requires.long))

pub returns-clause-row : goal.returns-clause-row
returns-clause-row c =
    let words = words_of c.args.bytes.now in
    let old = c.args.words.now in
    let more = c.resize.new.self in
    let start = c.len-start.result in
    let long : length words ≡ c.args.count = omega (arith, length-words_of c.args.bytes.now, c.requires.bytes) in
    let ok = c.resize.ensures.succeeds (omega (arith, c.requires.room, c.len-start.ensures)) in
    let size : vec_len more ≡ start + c.args.room = rw ok at c.resize.ensures.len in
    at_end old.items more _ c.pack_bytes.new.words words start old.len c.args.room (start + c.args.count - start) c.args.count
    old.ok.0 c.len-start.ensures (rw ok at c.resize.ensures.items) c.deref_mut.ensures.value c.pack_bytes.ensures (omega arith) long (omega (arith, size, more.ok.0, c.requires.long))

pub returns-clause-zeros : goal.returns-clause-zeros
returns-clause-zeros c =
    let words = words_of c.args.bytes.now in
    let old = c.args.words.now in
    let more = c.resize.new.self in
    let start = c.len-start.result in
    let long : length words ≡ c.args.count = omega (arith, length-words_of c.args.bytes.now, c.requires.bytes) in
    let ok = c.resize.ensures.succeeds (omega (arith, c.requires.room, c.len-start.ensures)) in
    let size : vec_len more ≡ start + c.args.room = rw ok at c.resize.ensures.len in
    behind_end old.items more _ c.pack_bytes.new.words words start old.len c.args.room (start + c.args.count - start) c.args.count
    old.ok.0 c.len-start.ensures (rw ok at c.resize.ensures.items) c.deref_mut.ensures.value c.pack_bytes.ensures (omega arith) long (omega (arith, size, more.ok.0, c.requires.long))
