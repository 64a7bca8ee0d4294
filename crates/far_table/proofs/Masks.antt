-- The book's view and the words, as a beset hand has them: words found in the cells, and words of the logs that are counted on.
use Rattle.std.proofs.Common.{◌≡◌, ◌<◌, ◌≤◌, ◌^◌, ℕ, Bool, true, false, cond, nat_lt, List, Option, Some, None, sym, refl, ap, ◌∙◌, subst, arith}
use Rattle.std.specs.Prelude.{is_some, ◌||◌}
use Rattle.std.proofs.lemmas.Bool.{false≢true, cond_both, ltb-true, ltb-false}
use mathlib.Core.Path.{fun_ext}
use Rattle.far_events.specs.declared.event.Event.{Event}
use Rattle.far_events.specs.events.Legal.{Legal}
use Rattle.far_events.specs.state.Law.{Law}
use Rattle.far_events.specs.state.State.{State}
use Rattle.far_hand.specs.Known.{IsKnown, unknown}
use Rattle.far_hand.specs.Masked.{masked, masked_word, AllFind, AllFindJobs, CountsOnRest}
use Rattle.far_hand.specs.Quiet.{RestsAt}
use Rattle.far_hand.proofs.Reading.{header_known}
use Rattle.far_hand.proofs.Reading as reading
use Rattle.far_table.specs.View.{BookView, OtherViews}
use Rattle.far_table.specs.Layout.{cell_in, epoch_in, job_in, word_in}
use Rattle.far_table.specs.Rows.{over}
use Rattle.far_table.specs.Rule.{BookTies, Facts}
use Rattle.far_table.specs.Stands.{IsPlain}
use Rattle.far_table.specs.StateOf.{book_state, head_at, head_or, known_word, state_of}

-- which words the view knows
abbrev pub counts : BookView → ℕ → Bool
counts b a = nat_lt (known_word b a) (2 ^ 64)

-- a word as it is known
word_here : (h : Option ℕ) (k w a : ℕ) → (is_some h ≡ true → w ≡ head_or h k) → (head_or h k < 2 ^ 64 → w ≡ head_or h k) → (2 ^ 64 ≤ k → k ≡ unknown a) →
    head_or h k ≡ cond (is_some h || nat_lt (head_or h k) (2 ^ 64)) w (unknown a)
word_here (Some x) k w a heads words plain = sym (heads refl)
word_here None k w a heads words plain = cond_both (nat_lt k (2 ^ 64)) w (unknown a) (λ v. k ≡ v) (λ t. sym (words (ltb-true k (2 ^ 64) t))) (λ t. plain (ltb-false k (2 ^ 64) t))

-- from the rule to what a beset hand has
module _ (ws : List ℕ) (b : BookView) (os : OtherViews) (f : Facts ws b os) where
  abbrev s : State
  s = state_of ws b os

  abbrev o : State
  o = book_state b

  pub epoch_is : epoch_in ws ≡ b.epoch
  epoch_is = ap (λ (z : State). z.epoch) f.book.shown.rest

  pub finds : AllFind o.cell s.cell
  finds = f.book.shown.cells

  pub words_are : IsPlain b → known_word b ≡ masked_word s.word s.starts (counts b)
  words_are plain = fun_ext (λ a. word_here (head_at b a) (over b.known unknown a) (s.word a) a (f.book.shown.headers a) (f.book.shown.words a) (plain a))

  pub going : AllFindJobs o.copying.word s.copying.word
  going = f.book.shown.jobs

  pub is_masked : IsPlain b → o ≡ masked s o.cell (counts b) o.copying.word
  is_masked plain = λ i. record o { epoch = sym epoch_is i; word = words_are plain i }

  -- what is legal by the view is legal by that of a beset hand
  pub by_view : IsPlain b → (e : Event) → Legal o e → Legal (masked s o.cell (counts b) o.copying.word) e
  by_view plain e = subst (λ (z : State). Legal z e) (is_masked plain)

  pub rests : CountsOnRest s o.cell (counts b)
  rests a known plain = f.book.rests a (ltb-true (known_word b a) (2 ^ 64) known) plain

-- what a beset hand's view would be
pub view_masked : (ws : List ℕ) (b : BookView) (os : OtherViews) (counted : ℕ → Bool) → known_word b ≡ masked_word (word_in ws) (λ a. is_some (head_at b a)) counted → epoch_in ws ≡ b.epoch →
    book_state b ≡ masked (state_of ws b os) (over b.cells (λ _. 0)) counted (over b.jobs (λ _. 0))
view_masked ws b os counted words epoch = λ i. record (book_state b) { epoch = sym epoch i; word = words i }

either : (a b : Bool) → (a || b) ≡ true → a ≡ false → b ≡ true
either true b e h = absurd (false≢true (sym h))
either false b e h = e

-- a word that is known is a header or counted on
counted_known : (t : Bool) (w a : ℕ) → IsKnown (cond t w (unknown a)) → t ≡ true
counted_known true w a h = refl
counted_known false w a h = absurd (omega arith)

-- and back
module _ (ws : List ℕ) (b : BookView) (os : OtherViews) (law : Law (state_of ws b os)) (counted : ℕ → Bool)
    (words : known_word b ≡ masked_word (word_in ws) (λ a. is_some (head_at b a)) counted) (all : AllFind (over b.cells (λ _. 0)) (cell_in ws))
    (rest : CountsOnRest (book_state b) (over b.cells (λ _. 0)) counted) (epoch : epoch_in ws ≡ b.epoch)
    (jobs : AllFindJobs (over b.jobs (λ _. 0)) (job_in ws)) where
  abbrev t : State
  t = state_of ws b os

  word_is : (a : ℕ) → known_word b a ≡ cond (t.starts a || counted a) (t.word a) (unknown a)
  word_is a = ap (λ f. f a) words

  at_rest : (a : ℕ) → IsKnown (known_word b a) → t.starts a ≡ false → RestsAt (book_state b) a
  at_rest a known plain = rest a (either (t.starts a) (counted a) (counted_known (t.starts a || counted a) (t.word a) a (subst IsKnown (word_is a) known)) plain) plain

  pub ties : BookTies b t
  ties = record {
    shown = record {
      cells = all;
      words = λ a known. sym (word_is a ∙ reading.known_word (t.starts a || counted a) (t.word a) a (subst IsKnown (word_is a) known));
      headers = λ a st. sym (word_is a ∙ header_known t.word t.starts counted a st);
      jobs = jobs;
      rest = λ i. record t { epoch = epoch i };
    };
    rests = at_rest;
  }
