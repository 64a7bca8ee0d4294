-- The book looks at a scope, takes EVAC away, and begins a round: each is its event of the core.
use Rattle.std.proofs.Common.{◌≡◌, ◌+◌, ◌-◌, ◌<◌, ◌^◌, ℕ, Bool, false, cond, bit_and, List, set, Option, Some, None, sym, refl, ap, ◌∙◌, subst, arith}
use Rattle.std.specs.Prelude.{slice_index, ◌==◌}
use Rattle.std.proofs.lemmas.Bool.{eq-eqb}
use mathlib.Core.Option.{none, some, some-injective}
use Rattle.atomic_table.specs.Table.{Me, step, Allows}
use Rattle.far_word.specs.declared.pointer.PtrWord.{PtrWord}
use Rattle.far_word.specs.declared.pointer.PtrWord.TheVariants.{Free, Near, Far}
use Rattle.far_word.specs.declared.sizes.TheConstants.{EPOCH_END, MOST_MUTATORS, POINTERS}
use Rattle.far_word.specs.Pointer.{read_of}
use Rattle.far_word.specs.Scope.{scope_of}
use Rattle.far_word.proofs.PointerLaws.{without_evac_read}
use Rattle.far_events.specs.declared.event.Event.TheVariants.{Advance, Clear, Look}
use Rattle.far_events.specs.declared.event.Reply.TheVariants.{Epoch, Word}
use Rattle.far_events.specs.events.Advance.{is_among}
use Rattle.far_events.specs.events.Clear.{evac_cleared, round_left}
use Rattle.far_events.specs.events.Legal.{Legal}
use Rattle.far_events.specs.events.Look.{shows_clear}
use Rattle.far_events.specs.events.Naming.{is_dropped}
use Rattle.far_events.specs.events.Quiet.{has_move}
use Rattle.far_events.specs.events.Step.{after}
use Rattle.far_events.specs.state.Law.{is_dirty}
use Rattle.far_events.specs.state.State.{State}
use Rattle.far_hand.specs.Cleared.{cleared}
use Rattle.far_hand.specs.Known.{Forgets, unknown}
use Rattle.far_hand.specs.Masked.{AllFind, AllFindJobs, masked_word}
use Rattle.far_hand.specs.Rounds.{IsScopeAt, MayChoose}
use Rattle.far_hand.proofs.Counting.{counts_none}
use Rattle.far_hand.proofs.Finding.{near_found}
use Rattle.far_hand.proofs.RoundSteps.{counts_looked, may_advance}
use Rattle.far_hand.proofs.RoundSteps as looking
use Rattle.far_table.specs.View.{BookView, View, Book, OtherViews}
use Rattle.far_table.specs.BookPlays.{Advanced, Cleared, Looked}
use Rattle.far_table.specs.BookTells.{BookTells}
use Rattle.far_table.specs.BookViews.{cleared_view, looked_view, raised_view, rows_left}
use Rattle.far_table.specs.Layout.{EPOCH_AT, cell_at, cell_in, epoch_in, scope_at, scope_in, word_in}
use Rattle.far_table.specs.Rows.{over}
use Rattle.far_table.specs.Rule.{Facts, Running}
use Rattle.far_table.specs.Stands.{IsPlain, book_of}
use Rattle.far_table.specs.StateOf.{book_state, head_at, head_or, known_word, state_of}
use Rattle.far_table.specs.Views.{has_hot}
use Rattle.far_table.proofs.BookFrames.{BookStep, MarksAs, cells_stay, marks_stay}
use Rattle.far_table.proofs.BookKnown.{forgets, forgotten, head_same}
use Rattle.far_table.proofs.BookLift.{book_makes, book_reads}
use Rattle.far_table.proofs.BookSees.{cell_after, cells_few, epoch_after, finds_after, found_at, marks_as, going_after}
use Rattle.far_table.proofs.Masks.{counts, epoch_is, finds, going, rests, ties, words_are}
use Rattle.far_table.proofs.OwnSteps.{led_by, reads, state_is}
use Rattle.far_table.proofs.Words.{cell_here, epoch_word_set, scope_here}

-- a round that a log leaves
pub round_rows : (rows : List (ℕ × Bool)) (f : ℕ → Bool) (x : Option PtrWord) → over (rows_left rows x) f ≡ round_left (over rows f) x
round_rows rows f None = refl
round_rows rows f (Some Free) = refl
round_rows rows f (Some (Near len ds place m)) = refl
round_rows rows f (Some (Far len ds m)) = refl

pub cleared_kept : (b : BookView) (p n : ℕ) → book_state (cleared_view p n b) ≡ record (cleared (book_state b) p n) { word = known_word (cleared_view p n b) }
cleared_kept b p n = λ i. record (book_state (cleared_view p n b)) { round = round_rows b.round (is_among b.chosen) (read_of n) i }

-- words are forgotten, and no header
pub forgets_all : (b b' : BookView) → b'.heads ≡ b.heads → (known_word b' ≡ (λ a. head_or (head_at b' a) (unknown a))) → Forgets (book_state b) (book_state b')
forgets_all b b' heads all = forgets b b' all (λ a st. head_same (head_at b' a) (unknown a) (over b.known unknown a) st ∙ ap (λ rows. head_or (over rows (λ _. None) a) (over b.known unknown a)) heads)

module _ (ws : List ℕ) (b : BookView) (os : OtherViews) (f : Facts ws b os) where
  abbrev s : State
  s = state_of ws b os

  abbrev o : State
  o = book_state b

  -- headers alone are known from now on
  pub heads_left : (word : ℕ → ℕ) → word ≡ word_in ws → (λ a. head_or (head_at b a) (unknown a)) ≡ masked_word word o.starts (λ _. false)
  heads_left word same = forgotten b word (λ a st. ap (λ f. f a) same ∙ (f.book.shown.headers a st ∙ head_same (head_at b a) (over b.known unknown a) (unknown a) st))

  pub owners_few : (m : ℕ) → m < b.mutators → m < MOST_MUTATORS
  owners_few m low = let most = f.law.shape.few_mutators in omega arith

  look_step : IsPlain b → (m : ℕ) → m < b.mutators → BookStep ws b os (Look m) (Word (scope_in ws m)) ws (looked_view m (scope_in ws m) b)
  look_step plain m low = record {
    legal = low;
    says = refl;
    becomes = reads f (after s (Look m)) (looked_view m (scope_in ws m) b) os refl refl;
    book = λ law. ties ws (looked_view m (scope_in ws m) b) os law (counts b) (words_are ws b os f plain) (finds ws b os f)
        (counts_looked s o.cell (counts b) m (shows_clear b.epoch (scope_of (scope_in ws m))) (rests ws b os f)) (epoch_is ws b os f) (going ws b os f);
    leaves = cells_stay refl refl refl (λ _ _. (refl, refl, refl, refl, refl));
  }

  look_scope : (m : ℕ) → IsScopeAt b.epoch (scope_in ws m)
  look_scope m = subst (λ e. IsScopeAt e (scope_in ws m)) (epoch_is ws b os f) (looking.scope_at s f.law m (scope_in ws m) refl)

  module _ (p : ℕ) (h : Legal o (Clear p)) where
    abbrev n : ℕ
    n = cell_in ws p

    abbrev w : ℕ
    w = evac_cleared n

    clear_legal : Legal s (Clear p)
    clear_legal = let near = h.1 in let x = near_found (o.cell p) n (finds ws b os f p) near.0 near.1 near.2 near.3 near.4 in (h.0, (near.0, near.1, near.2, x.marks, x.near))

    few : p < POINTERS
    few = cells_few ws b os f p h.0

    same_marks : MarksAs w n
    same_marks =
        let near = clear_legal.1 in
        let read = without_evac_read n (Near near.0 near.1 near.2 near.3) (f.law.cells.cell_read p).0 near.4 in (
          ap (λ x. cond (has_move x) 1 0) read ∙ sym (ap (λ x. cond (has_move x) 1 0) near.4),
          ap (λ x. cond (is_dropped x) 1 0) read ∙ sym (ap (λ x. cond (is_dropped x) 1 0) near.4),
          ap (λ x. cond (has_hot x) 1 0) read ∙ sym (ap (λ x. cond (has_hot x) 1 0) near.4),
          ap (λ x. cond (is_dirty x) 1 0) read ∙ sym (ap (λ x. cond (is_dirty x) 1 0) near.4),
        )

    clear_step : BookStep ws b os (Clear p) (Word n) (set ws (cell_at p) w) (cleared_view p n b)
    clear_step =
        let b' : BookView = cleared_view p n b in
        let later : List ℕ = set ws (cell_at p) w in record {
          legal = clear_legal;
          says = refl;
          becomes = led_by (λ i. record (after s (Clear p)) { round = sym (round_rows b.round (is_among b.chosen) (read_of n)) i }) (state_is later b' os (cell_after ws b os f p w few) refl refl refl refl);
          book = λ law. ties later b' os law (λ _. false) (heads_left (word_in later) (cell_after ws b os f p w few).word_is) (finds_after ws b os f p w few)
              (counts_none (book_state b') (book_state b').cell) (epoch_after ws b os f p w few) (going_after ws b os f p w few);
          leaves = marks_stay (marks_as ws b os f p w few same_marks) (cell_after ws b os f p w few).scope_is refl (λ _ _. (refl, refl, refl, refl, refl));
        }

  module _ (logs : ℕ) (h : MayChoose o logs) (below : b.epoch + 1 < EPOCH_END) where
    advance_legal : Legal s (Advance logs)
    advance_legal = may_advance s o.cell (counts b) o.copying.word logs (finds ws b os f) (subst (λ e. e + 1 < EPOCH_END) (sym (epoch_is ws b os f)) below) record { shut = h.shut; marked = h.marked }

    advance_step : BookStep ws b os (Advance logs) (Epoch (b.epoch + 1)) (set ws EPOCH_AT (b.epoch + 1)) (raised_view logs b)
    advance_step =
        let b' : BookView = raised_view logs b in
        let later : List ℕ = set ws EPOCH_AT (b.epoch + 1) in
        let are = epoch_word_set b.logs ws f.wide (b.epoch + 1) in
        let up : epoch_in ws + 1 ≡ b.epoch + 1 = ap (λ e. e + 1) (epoch_is ws b os f) in record {
          legal = advance_legal;
          says = ap Epoch (sym up);
          becomes = led_by (λ i. record (after s (Advance logs)) { epoch = up i; round_epoch = up i }) (state_is later b' os are refl refl refl refl);
          book = λ law. ties later b' os law (λ _. false) (heads_left (word_in later) are.word_is) (subst (AllFind o.cell) (sym are.cell_is) (finds ws b os f))
              (counts_none (book_state b') o.cell) are.epoch_is (subst (AllFindJobs o.copying.word) (sym are.job_is) (going ws b os f));
          leaves = cells_stay are.cell_is are.scope_is refl (λ _ _. (refl, refl, refl, refl, refl));
        }

module _ {S : Type 0} (slots id : ℕ) (me : Me S View) (is : me.0 ≡ Book (book_of me.0)) where
  abbrev view : BookView
  view = book_of me.0

  pub looks : IsPlain view → (m : ℕ) → m < view.mutators → Allows Running slots id me (scope_at m) (λ n. n) (Looked (step slots (scope_at m) 0 0 none) me)
  looks plain m low = book_reads slots id (scope_at m) me is (Look m) refl (λ n. Word n) (λ n. looked_view m n view) (Looked (step slots (scope_at m) 0 0 none) me) tt
      (λ ws os f _. subst (λ n. BookStep ws view os (Look m) (Word n) ws (looked_view m n view)) (scope_here ws m (owners_few ws view os f m low)) (look_step ws view os f plain m low))
      (λ ws os f _ t q e. let n : ℕ = slice_index ws (scope_at m) in let same : m ≡ q = omega arith in
      subst (λ z. IsScopeAt view.epoch n × BookTells me.0 (Book (looked_view m n view)) (Look z) (Word n) (looked_view z n view)) same
      (subst (IsScopeAt view.epoch) (scope_here ws m (owners_few ws view os f m low)) (look_scope ws view os f m), t))

  clears_evac : IsPlain view → (p : ℕ) → Legal (book_state view) (Clear p) → Allows Running slots id me (cell_at p) (λ n. evac_cleared n) (Cleared (step slots (cell_at p) (2 ^ 64 - 1 - 2 ^ 61) 0 none) me)
  clears_evac plain p h = book_makes slots id (cell_at p) me is (Clear p) refl (λ n. Word n) (λ n. cleared_view p n view) (Cleared (step slots (cell_at p) (2 ^ 64 - 1 - 2 ^ 61) 0 none) me) evac_cleared tt
      (λ ws os f _. subst (λ n. BookStep ws view os (Clear p) (Word n) (set ws (cell_at p) (evac_cleared n)) (cleared_view p n view)) (cell_here ws p (cells_few ws view os f p h.0)) (clear_step ws view os f p h))
      (λ ws os f _ t. (
        refl,
        λ q e. let n : ℕ = slice_index ws (cell_at p) in
            found_at slots id me is plain p ws os f h.0 q e (λ z. BookTells me.0 (Book (cleared_view p n view)) (Clear z) (Word n) (cleared_view z n view)) t,
      ))

  pub clears : IsPlain view → (p k : ℕ) → k ≡ 2 ^ 64 - 1 - 2 ^ 61 → Legal (book_state view) (Clear p) → Allows Running slots id me (cell_at p) (λ n. bit_and n k) (Cleared (step slots (cell_at p) k 0 none) me)
  clears plain p k mask h = subst (λ z. Allows Running slots id me (cell_at p) (λ n. bit_and n z) (Cleared (step slots (cell_at p) z 0 none) me)) (sym mask) (clears_evac plain p h)

-- the exchange always wins, and the logs are announced
module _ (slots id : ℕ) (me : Me ℕ View) (is : me.0 ≡ Book (book_of me.0)) where
  abbrev its : BookView
  its = book_of me.0

  pub advances : (logs e : ℕ) → its.epoch ≡ e → e + 1 < EPOCH_END → MayChoose (book_state its) logs →
      Allows Running slots id me EPOCH_AT (λ n. cond (n == e) (e + 1) n) (Advanced (step slots EPOCH_AT e (e + 1) (some logs)) me)
  advances logs e now below may = book_makes slots id EPOCH_AT me is (Advance logs) refl (λ _. Epoch (e + 1)) (λ _. raised_view logs its) (Advanced (step slots EPOCH_AT e (e + 1) (some logs)) me) (λ n. cond (n == e) (e + 1) n) tt
      (λ ws os f _.
      let here : epoch_in ws ≡ e = epoch_is ws its os f ∙ now in
      let up : its.epoch + 1 ≡ e + 1 = ap (λ z. z + 1) now in
      let new : its.epoch + 1 ≡ cond (epoch_in ws == e) (e + 1) (epoch_in ws) = up ∙ sym (ap (λ t. cond t (e + 1) (epoch_in ws)) (eq-eqb (epoch_in ws) e here)) in
      subst (λ (z : ℕ × ℕ). BookStep ws its os (Advance logs) (Epoch z.0) (set ws EPOCH_AT z.1) (raised_view logs its)) (λ i. (up i, new i)) (advance_step ws its os f logs may (subst (λ z. z + 1 < EPOCH_END) (sym now) below)))
      (λ ws os f _ t other same. subst (λ z. BookTells me.0 (Book (raised_view logs its)) (Advance z) (Epoch (e + 1)) (raised_view z its)) (some-injective logs other same) t)
