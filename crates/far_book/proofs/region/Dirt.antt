-- DIRTY of what is found.
use Rattle.std.proofs.Common.{◌≡◌, ◌∙◌, ℕ, ap, refl, sym, Bool, true, false, Option, Some, None}
use Rattle.std.proofs.lemmas.Bool.{false≢true, true≢false}
use Rattle.std.specs.Prelude.{◌&&◌, ◌||◌, not}
use Rattle.far_word.specs.declared.pointer.PtrWord.{PtrWord}
use Rattle.far_word.specs.declared.pointer.PtrWord.TheVariants.{Free, Near, Far}
use Rattle.far_word.specs.Pointer.{read_of}
use Rattle.far_events.specs.events.Naming.{is_dropped}
use Rattle.far_events.specs.state.Law.{is_dirty}
use Rattle.far_hand.specs.Finds.{Finds, body_of, marks_in}
use Rattle.far_book.specs.book.Renaming.{stops}

-- DIRTY of a word that is found is there at least where it was known
pub up_by : (o n : Option PtrWord) → body_of n ≡ body_of o → ((marks_in o).dirty ≡ true → (marks_in n).dirty ≡ true) → is_dirty o ≡ true → is_dirty n ≡ true
up_by None n body up h = absurd (false≢true h)
up_by (Some Free) n body up h = absurd (false≢true h)
up_by (Some (Far len ds m)) n body up h = absurd (false≢true h)
up_by (Some (Near len ds place m)) (Some (Near n d at k)) body up h = up h
up_by (Some (Near len ds place m)) n body up h = absurd cc

-- ---- a word that doesn't stop a naming
pub no_more : (d a k : Bool) → (d || (a && not k)) ≡ false → k ≡ false → a ≡ false
no_more true a k h e = absurd (true≢false h)
no_more false true k h e = absurd (false≢true (sym h ∙ ap not e))
no_more false false k h e = refl

as_known : (a k : Bool) → (k ≡ true → a ≡ true) → (k ≡ false → a ≡ false) → a ≡ k
as_known a true up down = up refl
as_known a false up down = down refl

-- it has DIRTY as it was known
pub same_dirt : (v w : ℕ) → Finds v w → stops (read_of v) (read_of w) ≡ false → is_dirty (read_of w) ≡ is_dirty (read_of v)
same_dirt v w f on = as_known (is_dirty (read_of w)) (is_dirty (read_of v)) (up_by (read_of v) (read_of w) f.body f.dirty) (no_more (is_dropped (read_of w)) (is_dirty (read_of w)) (is_dirty (read_of v)) on)

either_false : (d x : Bool) → (d || x) ≡ false → d ≡ false
either_false true x h = h
either_false false x h = refl

-- nor DROP
pub not_dropped : (v w : ℕ) → stops (read_of v) (read_of w) ≡ false → is_dropped (read_of w) ≡ false
not_dropped v w on = either_false (is_dropped (read_of w)) (is_dirty (read_of w) && not (is_dirty (read_of v))) on
