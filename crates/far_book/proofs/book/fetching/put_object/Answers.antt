use Rattle.far_book.proofs.book.fetching.put_object.Given.{Over}
use Rattle.far_book.proofs.book.fetching.put_object.Goals.{After-put_words}
use Rattle.far_book.proofs.book.fetching.put_object.Goals as goal
use Rattle.std.proofs.Common.{◌≡◌, ◌+◌, ◌*◌, ◌/◌, arith, refl}
use Rattle.far_word.specs.declared.sizes.TheConstants.{LOG_WORDS}
use Rattle.far_word.specs.Bytes.{packed_word}
use Rattle.far_word.specs.Sizes.{words_for}
use Rattle.far_events.specs.state.State.{addr}
use Rattle.far_hand.specs.Came.{Came, only}
use Rattle.far_hand.proofs.Ranges.{may_put, word_rest, words_again, writes_rest}
use Rattle.far_book.specs.book.Only.{Writes}
use Rattle.far_book.proofs.region.Blanks.{row_puts, row_set, span_set, with_words, word_then}
use Rattle.far_book.proofs.region.Places.{next_unsealed}
use Rattle.far_hand.proofs.Closure.{first_call, then_call, then_came}

-- the whole words are written
whole : (g : Over) (c : After-put_words g) → g.N.Near.view c.put_words.new.self ≡ with_words (g.N.Near.view c.put.new.self) c.args.place.log (c.args.place.at + 1) (c.args.len / 8) (packed_word c.args.bytes.now)
whole g c = row_set g.N.Near.still g.N.Near.view g.N.Near.makes c.args.place.log (c.args.place.at + 1) (packed_word c.args.bytes.now) (c.args.len / 8) c.put.new.self c.put_words.new.self c.put_words.ensures

puts : (g : Over) (c : After-put_words g) → Came (only (Writes c.args.place.log) g.N.Near.makes) c.args.near.now c.put_words.new.self
puts g c = then_came (first_call _ _ ((_, _, refl), c.put.ensures.made))
    (row_puts g.N.Near.still g.N.Near.view g.N.Near.makes c.args.place.log (c.args.place.at + 1) (packed_word c.args.bytes.now) (c.args.len / 8) c.put.new.self c.put_words.new.self c.put_words.ensures)

pub put-requires-then-whole-words_for : goal.put-requires-then-whole-words_for
put-requires-then-whole-words_for g c =
    let s = g.N.Near.view c.args.near.now in
    let t = g.N.Near.view c.put.new.self in
    let u = g.N.Near.view c.put_words.new.self in
    let place = c.args.place in
    let more = writes_rest g.N.Near.still g.N.Near.view g.N.Near.makes place.log (place.at + 1) (packed_word c.args.bytes.now) 0 (c.args.len / 8) c.put.new.self c.put_words.new.self c.put_words.ensures in
    let is = words_again s t u (word_rest s t (addr place) c.pack.result c.put.ensures.set) more in
    record {
      legal = may_put s u is place.log (place.at + 1) (words_for c.args.len) (c.args.len / 8) c.last_word.result
          (c.requires.next.0, next_unsealed s place c.requires.next, omega (arith, c.requires.tail), omega (arith, c.requires.layout.4)) (omega (arith, c.words_for.ensures, c.if-whole-words_for.true));
    }

pub returns-then-whole-words_for-clause-set : goal.returns-then-whole-words_for-clause-set
returns-then-whole-words_for-clause-set g c =
    let s = g.N.Near.view c.args.near.now in
    let t = g.N.Near.view c.put.new.self in
    let u = g.N.Near.view c.put-then-whole-words_for.new.self in
    let n = c.args.len / 8 in
    let place = c.args.place in
    let row = packed_word c.args.bytes.now in
    let all : n + 1 ≡ words_for c.args.len = omega (arith, c.words_for.ensures, c.if-whole-words_for.true) in
    let last = word_then t (g.N.Near.view c.put_words.new.self) u place.log (place.at + 1) n (place.log * LOG_WORDS + (place.at + 1 + n)) c.last_word.result row
    (whole g (goal.at.returns-then-whole-words_for-clause-set g c).After-put_words) (omega arith) c.last_word.ensures c.put-then-whole-words_for.ensures.set in
    span_set s t u c.args.pointer c.args.len c.args.ds c.pack.result (n + 1) place row c.put.ensures.set c.pack.ensures all last

pub returns-then-whole-words_for-clause-puts : goal.returns-then-whole-words_for-clause-puts
returns-then-whole-words_for-clause-puts g c = then_call _ _ (puts g (goal.at.returns-then-whole-words_for-clause-puts g c).After-put_words) ((_, _, refl), c.put-then-whole-words_for.ensures.made)

pub returns-else-whole-words_for-clause-set : goal.returns-else-whole-words_for-clause-set
returns-else-whole-words_for-clause-set g c =
    let n = c.args.len / 8 in
    let all : n ≡ words_for c.args.len = omega (arith, c.words_for.ensures, c.if-whole-words_for.false) in
    span_set (g.N.Near.view c.args.near.now) (g.N.Near.view c.put.new.self) (g.N.Near.view c.put_words.new.self) c.args.pointer c.args.len c.args.ds c.pack.result n c.args.place (packed_word c.args.bytes.now)
    c.put.ensures.set c.pack.ensures all (whole g (goal.at.returns-else-whole-words_for-clause-set g c).After-put_words)

pub returns-else-whole-words_for-clause-puts : goal.returns-else-whole-words_for-clause-puts
returns-else-whole-words_for-clause-puts g c = puts g (goal.at.returns-else-whole-words_for-clause-puts g c).After-put_words
