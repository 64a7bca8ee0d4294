use Rattle.far_book.proofs.book.moving.copy_object.Given.{Over}
use Rattle.far_book.proofs.book.moving.copy_object.Goals.{After-copy_words}
use Rattle.far_book.proofs.book.moving.copy_object.Goals as goal
use Rattle.std.proofs.Common.{◌≡◌, ◌∙◌, ◌+◌, subst, sym, ap, arith, refl, ℕ}
use Rattle.far_word.specs.Sizes.{words_for}
use Rattle.far_word.specs.Header.{head_word}
use Rattle.far_events.specs.state.State.{State, addr, put}
use Rattle.far_hand.specs.Ranges.{CopiesRow, IsPast, IsWithin}
use Rattle.far_book.proofs.region.Copying.{copied, head, put_legal}
use Rattle.far_book.proofs.region.CopyingMore.{may_read, may_write, row_came, row_copied, row_only}
use Rattle.far_hand.proofs.Closure.{first_call, then_came}
use Rattle.far_hand.proofs.Ranges.{word_rest}

-- the header stands
headed : (s t : State) (at w v : ℕ) → t ≡ record s { word = put s.word at w } → w ≡ v → t ≡ record s { word = put s.word at v }
headed s t at w v is same = is ∙ ap (λ x. record s { word = put s.word at x }) same

-- all words are copied
row : (g : Over) (c : After-copy_words g) → CopiesRow g.N.Near.still g.N.Near.view g.N.Near.makes c.args.from c.args.to 0 (words_for c.args.len) c.put.new.self c.copy_words.new.self
row g c = let all : c.words_for.result ≡ words_for c.args.len = c.words_for.ensures in
    subst (λ n. CopiesRow g.N.Near.still g.N.Near.view g.N.Near.makes c.args.from c.args.to 0 n c.put.new.self c.copy_words.new.self) all c.copy_words.ensures

pub pack-requires : goal.pack-requires
pack-requires g c = head (g.N.Near.view c.args.near.now) c.args.pointer c.args.len c.args.ds c.args.from c.args.to c.requires

pub put-requires : goal.put-requires
put-requires g c = record {
  legal = put_legal (g.N.Near.view c.args.near.now) c.args.pointer c.args.len c.args.ds c.args.from c.args.to c.requires (g.N.Near.view c.args.near.now) refl c.args.to.at c.pack.result (omega arith) (omega (arith, c.requires.fits));
}

pub copy_words-requires : goal.copy_words-requires
copy_words-requires g c =
    let s = g.N.Near.view c.args.near.now in
    let t = g.N.Near.view c.put.new.self in
    let is = word_rest s t (addr c.args.to) c.pack.result c.put.ensures.set in
    let all : words_for c.args.len ≡ c.words_for.result = sym c.words_for.ensures in
    record {
      from = subst (IsWithin t c.args.from.log (c.args.from.at + 1)) all (may_read g.N.Near.still g.N.Near.view g.N.Near.makes c.args.from c.args.to s c.args.pointer c.args.len c.args.ds c.requires t is);
      to = subst (IsPast t c.args.to.log (c.args.to.at + 1)) all (may_write g.N.Near.still g.N.Near.view g.N.Near.makes c.args.from c.args.to s c.args.pointer c.args.len c.args.ds c.requires t is);
    }

pub returns-clause-copied : goal.returns-clause-copied
returns-clause-copied g c =
    let s = g.N.Near.view c.args.near.now in
    let first = headed s (g.N.Near.view c.put.new.self) (addr c.args.to) c.pack.result (head_word c.args.pointer c.args.len c.args.ds) c.put.ensures.set c.pack.ensures in
    copied s c.args.pointer c.args.len c.args.ds c.args.from c.args.to c.requires (g.N.Near.view c.copy_words.new.self)
    (row_copied g.N.Near.still g.N.Near.view g.N.Near.makes c.args.from c.args.to s c.args.pointer c.args.len c.args.ds c.requires c.put.new.self c.copy_words.new.self
    (row g (goal.at.returns-clause-copied g c).After-copy_words) first)

pub returns-clause-exact : goal.returns-clause-exact
returns-clause-exact g c =
    let s = g.N.Near.view c.args.near.now in
    let first = headed s (g.N.Near.view c.put.new.self) (addr c.args.to) c.pack.result (head_word c.args.pointer c.args.len c.args.ds) c.put.ensures.set c.pack.ensures in
    row_only g.N.Near.still g.N.Near.view g.N.Near.makes c.args.from c.args.to s c.args.pointer c.args.len c.args.ds c.requires c.put.new.self c.copy_words.new.self (row g (goal.at.returns-clause-exact g c).After-copy_words) first

pub returns-clause-came : goal.returns-clause-came
returns-clause-came g c =
    then_came (first_call _ _ c.put.ensures.made) (row_came g.N.Near.still g.N.Near.view g.N.Near.makes c.args.from c.args.to c.words_for.result c.put.new.self c.copy_words.new.self c.copy_words.ensures)
