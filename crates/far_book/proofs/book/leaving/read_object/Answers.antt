use Rattle.far_book.proofs.book.leaving.read_object.Given.{Over}
use Rattle.far_book.proofs.book.leaving.read_object.Goals.{After-get_words}
use Rattle.far_book.proofs.book.leaving.read_object.Goals as goal
use Rattle.std.proofs.Common.{◌≡◌, arith, subst}
use Rattle.far_word.specs.Sizes.{words_for}
use Rattle.far_events.specs.events.Copies.{data_at}
use Rattle.far_book.specs.book.Evicting.{Learns}
use Rattle.far_book.proofs.region.Learning.{bytes_front}
use Rattle.far_book.proofs.region.LearningOn.{Known, bytes_known, row_known, row_reads, row_same}

read : (g : Over) (c : After-get_words g) → Known (g.N.Near.view c.args.near.now) (g.N.Near.view c.get_words.new.self) c.args.place c.get_words.ensures.words.0 c.words_for.result
read g c = let h = c.get_words.ensures.words in
    row_known g.N.Near.still g.N.Near.view g.N.Near.makes c.args.place h.0 c.words_for.result c.args.near.now c.get_words.new.self h.1 c.args.len c.requires.object (omega (arith, c.words_for.ensures))

pub get_words-requires : goal.get_words-requires
get_words-requires g c = record {
  within = (c.requires.object.log, omega (arith, c.requires.object.inside, c.words_for.ensures));
  room = omega (arith, c.requires.room, c.words_for.ensures);
}

pub returns-clause-kept : goal.returns-clause-kept
returns-clause-kept g c = (read g (goal.at.returns-clause-kept g c).After-get_words).kept

pub returns-clause-learned : goal.returns-clause-learned
returns-clause-learned g c =
    let all : c.words_for.result ≡ words_for c.args.len = c.words_for.ensures in
    subst (Learns (g.N.Near.view c.args.near.now) (g.N.Near.view c.get_words.new.self).word c.args.place) all (read g (goal.at.returns-clause-learned g c).After-get_words).learned

pub returns-clause-exact : goal.returns-clause-exact
returns-clause-exact g c = let h = c.get_words.ensures.words in row_same g.N.Near.still g.N.Near.view g.N.Near.makes c.args.place h.0 c.words_for.result c.args.near.now c.get_words.new.self h.1

pub returns-clause-reads : goal.returns-clause-reads
returns-clause-reads g c = let h = c.get_words.ensures.words in row_reads g.N.Near.still g.N.Near.view g.N.Near.makes c.args.place h.0 c.words_for.result c.args.near.now c.get_words.new.self h.1

pub returns-clause-bytes : goal.returns-clause-bytes
returns-clause-bytes g c =
    let h = c.get_words.ensures.words in
    let t = g.N.Near.view c.get_words.new.self in
    bytes_front (data_at t.word c.args.place) c.get_words.new.row c.words_for.result c.args.len (omega (arith, c.words_for.ensures)) (omega (arith, c.get_words.ensures.length, c.words_for.ensures, c.requires.room))
    (bytes_known (g.N.Near.view c.args.near.now) t c.args.place h.0 c.words_for.result c.get_words.new.row (read g (goal.at.returns-clause-bytes g c).After-get_words) h.2)
