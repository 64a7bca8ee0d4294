-- The book writes a word past a tail, reads one, and gives a log back: each is its event of the core.
use Rattle.std.proofs.Common.{◌≡◌, ◌+◌, ◌*◌, ◌/◌, ◌<◌, ◌^◌, ℕ, zero, suc, Bool, true, false, cond, List, set, Option, None, sym, refl, ap, ◌∙◌, subst, arith}
use Rattle.std.specs.Prelude.{slice_index, is_some, ◌==◌, ◌||◌}
use Rattle.std.proofs.lemmas.Bool.{false≢true, true≢false, false_from_ne_true, cond_both}
use mathlib.Core.Logic.{dite}
use mathlib.Core.Option.{none}
use native.Mathlib.Decide.{ℕ_discrete}
use Rattle.atomic_table.specs.Table.{Me, step, Allows}
use Rattle.far_word.specs.declared.sizes.TheConstants.{CELLS, LOG_WORDS}
use Rattle.far_word.specs.Pointer.{read_of}
use Rattle.far_events.specs.declared.event.Event.TheVariants.{Get, Put}
use Rattle.far_events.specs.declared.event.Reply.TheVariants.{Done, Word}
use Rattle.far_events.specs.events.Advance.{is_among}
use Rattle.far_events.specs.events.Get.{with_free_log}
use Rattle.far_events.specs.events.Legal.{Legal}
use Rattle.far_events.specs.events.Step.{after}
use Rattle.far_events.specs.state.State.{State, put}
use Rattle.far_core.proofs.SpanFrames.{past_tail}
use Rattle.far_hand.specs.Known.{unknown}
use Rattle.far_hand.specs.Masked.{AllFind, AllFindJobs, masked, masked_word}
use Rattle.far_hand.specs.Quiet.{IsQuietAt, is_quiet_word}
use Rattle.far_hand.proofs.Counting.{counts_none, counts_past, counts_read}
use Rattle.far_hand.proofs.Finding.{near_found}
use Rattle.far_hand.proofs.Masking.{lies, no_header}
use Rattle.far_hand.proofs.Quietness.{quiet_fact, quiet_test}
use Rattle.far_hand.specs.Ranges.{Gets}
use Rattle.far_hand.proofs.Reading.{count_read, count_word, gets, may_free}
use Rattle.far_table.specs.View.{BookView, View, Book, OtherViews}
use Rattle.far_table.specs.BookPlays.{Freed, Got, Putted}
use Rattle.far_table.specs.BookTells.{BookTells}
use Rattle.far_table.specs.BookViews.{freed_view, got_view, is_quiet_at, is_quiet_below, put_view}
use Rattle.far_table.specs.Layout.{data_at, epoch_in, word_in}
use Rattle.far_table.specs.Rows.{over}
use Rattle.far_table.specs.Rule.{Facts, Running}
use Rattle.far_table.specs.Stands.{IsPlain, book_of}
use Rattle.far_table.specs.StateOf.{book_state, head_at, head_or, known_word, state_of}
use Rattle.far_table.proofs.BookFrames.{BookStep, cells_stay}
use Rattle.far_table.proofs.BookKnown.{elsewhere, forgotten, head_same, no_head, plain_more, put_known}
use Rattle.far_table.proofs.BookLift.{book_makes, book_reads}
use Rattle.far_table.proofs.Masks.{counts, epoch_is, finds, going, is_masked, rests, ties, view_masked, words_are}
use Rattle.far_table.proofs.OwnSteps.{reads, state_is}
use Rattle.far_table.proofs.Words.{data_word_set}

-- ---- which words the view shows quiet
either_one : (a b : Bool) → (a || b) ≡ true → b ≡ false → a ≡ true
either_one true b h e = refl
either_one false b h e = absurd (false≢true (sym e ∙ h))

none_of : (a b : Bool) → (a || b) ≡ false → (a ≡ false) × (b ≡ false)
none_of true b h = absurd (true≢false h)
none_of false b h = (refl, h)

module _ (b : BookView) (l at : ℕ) where
  abbrev quiet_of : ℕ → Bool
  quiet_of p = is_quiet_word (over b.round (is_among b.chosen)) (over b.clear (λ _. false)) p (read_of (over b.cells (λ _. 0) p)) l at

  -- one of the first n pointers' objects has the word
  abbrev Among : ℕ → Type 0
  Among n = (p : ℕ) × (p < n) × (quiet_of p ≡ true)

  found_last : (n : ℕ) (t : Bool) → is_quiet_below b l at n ≡ t → (is_quiet_below b l at n ≡ true → Among n) → (quiet_of n || is_quiet_below b l at n) ≡ true → Among (suc n)
  found_last n true e before h = let x = before e in let low = x.1 in (x.0, omega arith, x.2)
  found_last n false e before h = (n, omega arith, either_one (quiet_of n) (is_quiet_below b l at n) h e)

  quiet_found : (n : ℕ) → is_quiet_below b l at n ≡ true → Among n
  quiet_found zero h = absurd (false≢true h)
  quiet_found (suc n) h = found_last n (is_quiet_below b l at n) refl (quiet_found n) h

  quiet_none : (n p : ℕ) → is_quiet_below b l at n ≡ false → p < n → quiet_of p ≡ false
  quiet_none zero p h low = absurd (omega arith)
  quiet_none (suc n) p h low = let x = none_of (quiet_of n) (is_quiet_below b l at n) h in dite (ℕ_discrete p n) (λ e. ap quiet_of e ∙ x.0) (λ ne. quiet_none n p x.1 (omega arith))

some_cond : (t : Bool) (h : Option ℕ) → is_some (cond t None h) ≡ cond t false (is_some h)
some_cond true h = refl
some_cond false h = refl

pub plain_got : (q : Bool) (b : BookView) (a n : ℕ) → IsPlain b → n < 2 ^ 64 → IsPlain (got_view q a n b)
plain_got true b a n plain fits = plain_more b a n plain fits
plain_got false b a n plain fits = plain

module _ (ws : List ℕ) (b : BookView) (os : OtherViews) (f : Facts ws b os) (plain : IsPlain b) (l at : ℕ) (inside : at < LOG_WORDS) where
  abbrev s : State
  s = state_of ws b os

  abbrev o : State
  o = book_state b

  abbrev a : ℕ
  a = l * LOG_WORDS + at

  abbrev n : ℕ
  n = word_in ws a

  abbrev known : State
  known = masked s o.cell (counts b) o.copying.word

  mask : o ≡ known
  mask = is_masked ws b os f plain

  seen : AllFind o.cell s.cell
  seen = finds ws b os f

  epoch : epoch_in ws ≡ b.epoch
  epoch = epoch_is ws b os f

  quiet_so : is_quiet_at b l at ≡ true → IsQuietAt known a
  quiet_so h = let x = quiet_found b l at (CELLS * b.mutators) h in quiet_fact s f.law o.cell seen l at x.0 x.1 x.2

  quiet_not : is_quiet_at b l at ≡ false → ¬ IsQuietAt known a
  quiet_not h x = false≢true (sym (quiet_none b l at (CELLS * b.mutators) x.p h x.pointer) ∙ quiet_test s f.law o.cell seen l at inside x)

  -- a quiet object's word is no header
  quiet_plain : IsQuietAt known a → head_at b a ≡ None
  quiet_plain x =
      let y = near_found (o.cell x.p) (s.cell x.p) (seen x.p) x.len x.ds x.place x.marks x.near in
      no_head (head_at b a) (ap s.starts x.here ∙ no_header s f.law x.p x.len x.ds x.index x.place (lies s f.law x.p x.len x.ds x.place y.marks y.near) x.inside)

  -- ---- a word is read
  got_words : IsQuietAt known a → known_word (put_view a n b) ≡ masked_word (word_in ws) o.starts (put (counts b) a true)
  got_words quiet = put_known b a n (quiet_plain quiet) ∙ (ap (λ v. put v a n) (words_are ws b os f plain) ∙ sym (count_read s.word s.starts (counts b) a))

  get_step : l < b.logs → (q : Bool) → is_quiet_at b l at ≡ q → BookStep ws b os (Get l at false) (Word n) ws (got_view q a n b)
  get_step low true quiet = record {
    legal = (low, inside, tt);
    says = refl;
    becomes = reads f s (put_view a n b) os refl refl;
    book = λ law. ties ws (put_view a n b) os law (put (counts b) a true) (got_words (quiet_so quiet)) seen
        (counts_read s o.cell (counts b) l a false true (λ _. quiet_so quiet) (rests ws b os f)) epoch (going ws b os f);
    leaves = cells_stay refl refl refl (λ _ _. (refl, refl, refl, refl, refl));
  }
  get_step low false quiet = record {
    legal = (low, inside, tt);
    says = refl;
    becomes = reads f s b os refl refl;
    book = λ _. f.book;
    leaves = cells_stay refl refl refl (λ _ _. (refl, refl, refl, refl, refl));
  }

  -- what far_hand says of a beset hand's view, of this one
  as_seen : (free : Bool) (v v' : State) → v ≡ v' → Gets known v' l at free n → Gets o v l at free n
  as_seen free v v' same g = subst (λ (z : State × State). Gets z.0 z.1 l at free n) (λ i. (sym mask i, sym same i)) g

  got_gets : (q : Bool) → is_quiet_at b l at ≡ q → Gets o (book_state (got_view q a n b)) l at false n
  got_gets true quiet = as_seen false (book_state (put_view a n b)) (masked s o.cell (put (counts b) a true) o.copying.word) (view_masked ws (put_view a n b) os (put (counts b) a true) (got_words (quiet_so quiet)) epoch)
      (gets s f.law o.cell (counts b) o.copying.word l at false true (λ _ _. quiet_so quiet) (λ e. absurd (true≢false e)))
  got_gets false quiet = as_seen false o known mask (gets s f.law o.cell (counts b) o.copying.word l at false false (λ _ e. absurd (false≢true e)) (λ _. quiet_not quiet))

  -- ---- a log is given back
  abbrev left : BookView
  left = freed_view l b

  left_head : (c : ℕ) → head_at left c ≡ cond (c / LOG_WORDS == l) None (head_at b c)
  left_head = elsewhere l b.heads (λ _. None)

  free_becomes : with_free_log s l ≡ state_of ws left os
  free_becomes = λ i. record (with_free_log s l) { starts = λ c. sym (ap is_some (left_head c) ∙ some_cond (c / LOG_WORDS == l) (head_at b c)) i }

  free_words : known_word left ≡ masked_word (word_in ws) (λ c. is_some (head_at left c)) (λ _. false)
  free_words = forgotten left (word_in ws) (λ c. subst (λ h. is_some h ≡ true → word_in ws c ≡ head_or h (unknown c)) (sym (left_head c))
      (cond_both (c / LOG_WORDS == l) None (head_at b c) (λ h. is_some h ≡ true → word_in ws c ≡ head_or h (unknown c)) (λ _ h. absurd (false≢true h))
      (λ _ st. f.book.shown.headers c st ∙ head_same (head_at b c) (over b.known unknown c) (unknown c) st)))

  free_step : Legal o (Get l at true) → BookStep ws b os (Get l at true) (Word n) ws left
  free_step h = record {
    legal = (h.0, h.1, may_free s o.cell (counts b) o.copying.word l true seen (going ws b os f) h.2);
    says = refl;
    becomes = reads f (with_free_log s l) left os free_becomes refl;
    book = λ law. ties ws left os law (λ _. false) free_words seen (counts_none (book_state left) o.cell) epoch (going ws b os f);
    leaves = cells_stay refl refl refl (λ _ _. (refl, refl, refl, refl, refl));
  }

  free_gets : Gets o (book_state left) l at true n
  free_gets = as_seen true (book_state left) (masked (with_free_log s l) o.cell (λ _. false) o.copying.word)
      (view_masked ws left os (λ _. false) free_words epoch ∙ ap (λ (u : State). masked u o.cell (λ _. false) o.copying.word) (sym free_becomes))
      (gets s f.law o.cell (counts b) o.copying.word l at true true (λ e. absurd (true≢false e)) (λ e. absurd (true≢false e)))

  -- ---- a word is written
  module _ (w : ℕ) (h : Legal o (Put l at w)) where
    pub no_start : head_at b a ≡ None
    no_start = no_head (head_at b a) (false_from_ne_true (s.starts a) (λ st. past_tail s f.law l at a 0 h.2 inside st (omega arith) (omega arith)))

    put_step : BookStep ws b os (Put l at w) Done (set ws (data_at a) w) (put_view a w b)
    put_step =
        let later : List ℕ = set ws (data_at a) w in
        let low = h.0 in
        let most = f.law.shape.few_logs in
        let are = data_word_set b.logs ws f.wide a w (omega arith) in record {
          legal = h;
          says = refl;
          becomes = state_is later (put_view a w b) os are refl refl refl refl;
          book = λ law. ties later (put_view a w b) os law (put (counts b) a true)
              (put_known b a w no_start ∙ (ap (λ v. put v a w) (words_are ws b os f plain)
              ∙ (sym (count_word s.word s.starts (counts b) a w) ∙ ap (λ v. masked_word v o.starts (put (counts b) a true)) (sym are.word_is))))
              (subst (AllFind o.cell) (sym are.cell_is) seen)
              (counts_past s o.cell (counts b) l at h.2 inside (rests ws b os f)) (are.epoch_is ∙ epoch) (subst (AllFindJobs o.copying.word) (sym are.job_is) (going ws b os f));
          leaves = cells_stay are.cell_is are.scope_is refl (λ _ _. (refl, refl, refl, refl, refl));
        }

-- what is put is known
pub put_after : (b : BookView) (l at w : ℕ) → head_at b (l * LOG_WORDS + at) ≡ None → book_state (put_view (l * LOG_WORDS + at) w b) ≡ after (book_state b) (Put l at w)
put_after b l at w bare = λ i. record (book_state b) { word = put_known b (l * LOG_WORDS + at) w bare i }

-- one word of the logs has one log and place
one_place : (l at k i : ℕ) → at < LOG_WORDS → i < LOG_WORDS → data_at (l * LOG_WORDS + at) ≡ data_at (k * LOG_WORDS + i) → (l ≡ k) × (at ≡ i)
one_place l at k i a b e = (omega arith, omega arith)

module _ {S : Type 0} (slots id : ℕ) (me : Me S View) (is : me.0 ≡ Book (book_of me.0)) (plain : IsPlain (book_of me.0)) (l at : ℕ) (inside : at < LOG_WORDS) where
  abbrev view : BookView
  view = book_of me.0

  abbrev here : ℕ
  here = data_at (l * LOG_WORDS + at)

  abbrev got : ℕ × ℕ → ℕ → BookView
  got z found = got_view (is_quiet_at view z.0 z.1) (z.0 * LOG_WORDS + z.1) found view

  pub reads_word : l < view.logs → Allows Running slots id me here (λ n. n) (Got (step slots here 0 0 none) me)
  reads_word low = book_reads slots id here me is (Get l at false) refl (λ n. Word n) (got (l, at)) (Got (step slots here 0 0 none) me) tt
      (λ ws os f _. get_step ws view os f plain l at inside low (is_quiet_at view l at) refl)
      (λ ws os f small t k i low' e. let n : ℕ = slice_index ws here in let same = one_place l at k i inside low' e in
      subst (λ (z : ℕ × ℕ). Gets (book_state view) (book_state (got z n)) z.0 z.1 false n × IsPlain (got z n) × BookTells me.0 (Book (got (l, at) n)) (Get z.0 z.1 false) (Word n) (got z n)) (λ j. (same.0 j, same.1 j))
      (got_gets ws view os f plain l at inside (is_quiet_at view l at) refl, plain_got (is_quiet_at view l at) view (l * LOG_WORDS + at) n plain small, t))

  pub frees_log : Legal (book_state view) (Get l at true) → Allows Running slots id me here (λ n. n) (Freed (step slots here 0 0 none) me)
  frees_log h = book_reads slots id here me is (Get l at true) refl (λ n. Word n) (λ n. freed_view l view) (Freed (step slots here 0 0 none) me) tt
      (λ ws os f _. free_step ws view os f plain l at inside h)
      (λ ws os f small t k i low' e. let n : ℕ = slice_index ws here in let same = one_place l at k i inside low' e in
      subst (λ (z : ℕ × ℕ). Gets (book_state view) (book_state (freed_view z.0 view)) z.0 z.1 true n × BookTells me.0 (Book (freed_view l view)) (Get z.0 z.1 true) (Word n) (freed_view z.0 view)) (λ j. (same.0 j, same.1 j))
      (free_gets ws view os f plain l at inside, t))

  pub writes_word : (w : ℕ) → w < 2 ^ 64 → Legal (book_state view) (Put l at w) → Allows Running slots id me here (λ _. w) (λ _. Putted (step slots here w 0 none) me w)
  writes_word w fits h = book_makes slots id here me is (Put l at w) refl (λ _. Done) (λ _. put_view (l * LOG_WORDS + at) w view) (λ _. Putted (step slots here w 0 none) me w) (λ _. w) fits
      (λ ws os f _. put_step ws view os f plain l at inside w h)
      (λ ws os f small t k i low' e. let same = one_place l at k i inside low' e in
      subst (λ (z : ℕ × ℕ). (head_at view (z.0 * LOG_WORDS + z.1) ≡ None) × BookTells me.0 (Book (put_view (l * LOG_WORDS + at) w view)) (Put z.0 z.1 w) Done (put_view (z.0 * LOG_WORDS + z.1) w view)) (λ j. (same.0 j, same.1 j))
      (no_start ws view os f plain l at inside w h, t))
