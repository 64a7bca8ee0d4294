use Rattle.std.proofs.Common.{◌≡◌, ◌+◌, ◌*◌, ◌<◌, ℕ, true, length}
use Rattle.std.specs.Prelude.{slice_index}
use Rattle.far_word.specs.declared.sizes.TheConstants.{LOG_WORDS}
use Rattle.far_hand.specs.Came.{Came, only}
use Rattle.far_book.specs.book.Only.{Reads}
use Rattle.far_book.specs.book.Reading.{IsReadAt}
use Rattle.far_book.proofs.book.read_words.Given as goal

abbrev pub invariant-loop-i : goal.invariant-loop-i
invariant-loop-i g l = record {
  words : (k : ℕ) → k < l.i → IsReadAt (g.N.Near.view l.fn.near) (l.fn.log * LOG_WORDS + k) (slice_index l.words k);
  long : length l.words ≡ LOG_WORDS;
  kept : g.N.Near.view l.near ≡ record (g.N.Near.view l.fn.near) { word = (g.N.Near.view l.near).word };
  headers : (a : ℕ) → (g.N.Near.view l.fn.near).starts a ≡ true → (g.N.Near.view l.near).word a ≡ (g.N.Near.view l.fn.near).word a;
  reads : Came (only (Reads l.fn.log) g.N.Near.makes) l.fn.near l.near;
  exact : g.N.Near.still → g.N.Near.view l.near ≡ g.N.Near.view l.fn.near;
}
