-- The book exchanges a cell: it is its event of the core, won or lost.
use Rattle.std.proofs.Common.{◌≡◌, ◌≢◌, ◌+◌, ◌<◌, ◌^◌, ℕ, Bool, true, false, cond, inl, inr, [], ◌∷◌, List, Option, Some, None, set, sym, refl, ap, ◌∙◌, subst, arith}
use Rattle.std.specs.Prelude.{is_some, IsSome, slice_index, ◌⊎◌, ◌==◌, ◌||◌}
use Rattle.std.proofs.lemmas.Bool.{cond_both, eq-eqb, false≢true, ne_eqb}
use mathlib.Core.Logic.{dite}
use native.Mathlib.Decide.{ℕ_discrete}
use prog.Atomic.{either}
use mathlib.Core.Option.{none}
use Rattle.atomic_table.specs.Table.{Me, step, Allows}
use Rattle.far_word.specs.declared.pointer.Place.{Place}
use Rattle.far_word.specs.declared.pointer.PtrWord.{PtrWord}
use Rattle.far_word.specs.declared.pointer.PtrWord.TheVariants.{Free, Near, Far}
use Rattle.far_word.specs.declared.sizes.TheConstants.{POINTERS}
use Rattle.far_word.specs.Header.{head_word}
use Rattle.far_word.specs.Pointer.{read_of}
use Rattle.far_word.specs.Sizes.{words_for}
use Rattle.far_events.specs.declared.event.Event.TheVariants.{Name}
use Rattle.far_events.specs.declared.event.Reply.TheVariants.{Done, Word}
use Rattle.far_events.specs.declared.naming.Naming.{Naming}
use Rattle.far_events.specs.declared.naming.Naming.TheVariants.{Places, Retires, Evicts, Stays, Moves, Fetches}
use Rattle.far_events.specs.events.Copied.{WasCopied, copied_job}
use Rattle.far_events.specs.events.Legal.{Legal}
use Rattle.far_events.specs.events.Naming.{IsNaming, is_dropped, naming_of, naming_row}
use Rattle.far_events.specs.events.namings.Moves.{MayMove, after_move}
use Rattle.far_events.specs.events.Quiet.{has_move}
use Rattle.far_events.specs.events.Step.{after}
use Rattle.far_events.specs.state.Law.{IsStored, Law, held_place, is_dirty}
use Rattle.far_events.specs.state.State.{State, addr, put}
use Rattle.far_events.proofs.Copied.{copied_test, moves_quiet}
use Rattle.far_events.proofs.Namings.{naming_only}
use Rattle.far_events.proofs.Put.{put_both, put_other, put_same}
use Rattle.far_events.proofs.Quieting.{quiet_unheld}
use Rattle.far_hand.specs.Known.{Forgets, KnowsLeaving, StoresLeaving, unknown}
use Rattle.far_hand.specs.Masked.{AllFind, AllFindJobs, masked, masked_word}
use Rattle.far_hand.proofs.Counting.{counts_none}
use Rattle.far_hand.proofs.Naming.{job_too, left_words, legal_name, lost_state, stores_leaving, won_state}
use Rattle.far_table.specs.View.{BookView, View, Book, OtherViews}
use Rattle.far_table.specs.BookPlays.{Named}
use Rattle.far_table.specs.BookTells.{BookTells, cleaned_by, cooled_by, retired_by, stained_by, taken_by}
use Rattle.far_table.specs.BookViews.{saw_view}
use Rattle.far_table.specs.Layout.{cell_at, cell_in, epoch_in, job_in, scope_in, word_in}
use Rattle.far_table.specs.NameViews.{exchange_reply, exchanged_view, form_view, formed_view, move_view, named_view, retires, span_view, view_by}
use Rattle.far_table.specs.Rows.{over}
use Rattle.far_table.specs.Rule.{Facts, Running}
use Rattle.far_table.specs.Stands.{IsPlain, book_of}
use Rattle.far_table.specs.StateOf.{book_state, cleaned_at, cooled_at, head_at, head_or, held_by, known_word, retired_at, stained_at, state_of, stored_word, taken_at}
use Rattle.far_table.specs.Views.{dirts, drops, has_hot, hots, moves}
use Rattle.far_table.proofs.BookFrames.{BookStep, book_facts, book_made, cells_stay}
use Rattle.far_table.proofs.BookKnown.{forgets, forgotten}
use Rattle.far_table.proofs.BookLift.{book_allows}
use Rattle.far_table.proofs.BookSees.{cell_after, cells_few, epoch_after, finds_after, found_at, see_step, going_after}
use Rattle.far_table.proofs.Exchanges.{by_case, lost_says, won_says}
use Rattle.far_table.proofs.Masks.{counts, finds, going, is_masked, ties}
use Rattle.far_table.proofs.Masks as masks
use Rattle.far_table.proofs.NameRows.{begins_put, stored_after}
use Rattle.far_table.proofs.OwnSteps.{led_by, reads, state_is}
use Rattle.far_table.proofs.Words.{WordsAre, cell_here}

-- ---- what a form leaves of the view
-- a move takes a span, or names what was copied
move_sizes : (p len ds : ℕ) (to : Place) (j : Option ℕ) (b : BookView) →
    ((move_view p len ds to j b).mutators ≡ b.mutators) × ((move_view p len ds to j b).honest ≡ b.honest) × ((move_view p len ds to j b).rest ≡ b.rest) × ((move_view p len ds to j b).epoch ≡ b.epoch)
move_sizes p len ds to None b = (refl, refl, refl, refl)
move_sizes p len ds to (Some j) b = (refl, refl, refl, refl)

move_logs : (p len ds : ℕ) (to : Place) (j : Option ℕ) (b : BookView) → (move_view p len ds to j b).logs ≡ b.logs
move_logs p len ds to None b = refl
move_logs p len ds to (Some j) b = refl

move_jobs : (p len ds : ℕ) (to : Place) (j : Option ℕ) (b : BookView) → over (move_view p len ds to j b).jobs (λ _. 0) ≡ over b.jobs (λ _. 0)
move_jobs p len ds to None b = refl
move_jobs p len ds to (Some j) b = refl

form_sizes : (word : ℕ → ℕ) (p : ℕ) (form : Naming) (b : BookView) → ((form_view word p form b).mutators ≡ b.mutators) × ((form_view word p form b).honest ≡ b.honest) × ((form_view word p form b).rest ≡ b.rest) × ((form_view word p form b).epoch ≡ b.epoch)
form_sizes word p (Places len ds place) b = (refl, refl, refl, refl)
form_sizes word p Retires b = (refl, refl, refl, refl)
form_sizes word p (Evicts len place) b = (refl, refl, refl, refl)
form_sizes word p Stays b = (refl, refl, refl, refl)
form_sizes word p (Moves len ds from to) b = move_sizes p len ds to (copied_job (book_state b) p from to) b
form_sizes word p (Fetches len ds place) b = (refl, refl, refl, refl)

form_logs : (word : ℕ → ℕ) (p : ℕ) (form : Naming) (b : BookView) → (form_view word p form b).logs ≡ b.logs
form_logs word p (Places len ds place) b = refl
form_logs word p Retires b = refl
form_logs word p (Evicts len place) b = refl
form_logs word p Stays b = refl
form_logs word p (Moves len ds from to) b = move_logs p len ds to (copied_job (book_state b) p from to) b
form_logs word p (Fetches len ds place) b = refl

form_jobs : (word : ℕ → ℕ) (p : ℕ) (form : Naming) (b : BookView) → over (form_view word p form b).jobs (λ _. 0) ≡ over b.jobs (λ _. 0)
form_jobs word p (Places len ds place) b = refl
form_jobs word p Retires b = refl
form_jobs word p (Evicts len place) b = refl
form_jobs word p Stays b = refl
form_jobs word p (Moves len ds from to) b = move_jobs p len ds to (copied_job (book_state b) p from to) b
form_jobs word p (Fetches len ds place) b = refl

-- what an exchange leaves as the seat's struct has it
pub record KeepsShape (b b' : BookView) : Type 0 where
  pub logs : b'.logs ≡ b.logs
  pub mutators : b'.mutators ≡ b.mutators
  pub epoch : b'.epoch ≡ b.epoch
  pub rest : b'.rest ≡ b.rest
  pub plain : IsPlain b'

by_form_keeps : (word : ℕ → ℕ) (p old new : ℕ) (x : Option Naming) (b : BookView) → IsPlain b → KeepsShape b (view_by word p old new x b)
by_form_keeps word p old new None b plain = record { logs = refl; mutators = refl; epoch = refl; rest = refl; plain = plain }
by_form_keeps word p old new (Some form) b plain = let z = form_sizes word p form b in record { logs = form_logs word p form b; mutators = z.0; epoch = z.3; rest = z.2; plain = λ a _. refl }

pub exchanged_keeps : (word : ℕ → ℕ) (p old new found : ℕ) (b : BookView) → IsPlain b → KeepsShape b (exchanged_view word p old new found b)
exchanged_keeps word p old new found b plain = cond_both (found == old) (named_view word p old new b) (saw_view p found b) (KeepsShape b)
    (λ _. by_form_keeps word p old new (naming_of (read_of old) (read_of new)) b plain) (λ _. record { logs = refl; mutators = refl; epoch = refl; rest = refl; plain = plain })

-- the new word hasn't MOVE
new_moves : (form : Naming) (old new : ℕ) → IsNaming form (read_of old) (read_of new) → moves new ≡ 0
new_moves (Places len ds place) old new n = ap (λ x. cond (has_move x) 1 0) n.1
new_moves Retires old new n = ap (λ x. cond (has_move x) 1 0) n.1
new_moves (Evicts len place) old new n = ap (λ x. cond (has_move x) 1 0) n.5
new_moves Stays old new n = ap (λ x. cond (has_move x) 1 0) n.8
new_moves (Moves len ds from to) old new n = ap (λ x. cond (has_move x) 1 0) n.1
new_moves (Fetches len ds place) old new n = ap (λ x. cond (has_move x) 1 0) n.1

-- nor HOT
new_hots : (form : Naming) (old new : ℕ) → IsNaming form (read_of old) (read_of new) → hots new ≡ 0
new_hots (Places len ds place) old new n = ap (λ x. cond (has_hot x) 1 0) n.1
new_hots Retires old new n = ap (λ x. cond (has_hot x) 1 0) n.1
new_hots (Evicts len place) old new n = ap (λ x. cond (has_hot x) 1 0) n.5
new_hots Stays old new n = ap (λ x. cond (has_hot x) 1 0) n.8
new_hots (Moves len ds from to) old new n = ap (λ x. cond (has_hot x) 1 0) n.1
new_hots (Fetches len ds place) old new n = ap (λ x. cond (has_hot x) 1 0) n.1

-- nor DROP; and the old one has it exactly where the object is retired
new_drops : (form : Naming) (old new : ℕ) → IsNaming form (read_of old) (read_of new) → drops new ≡ 0
new_drops (Places len ds place) old new n = ap (λ x. cond (is_dropped x) 1 0) n.1
new_drops Retires old new n = ap (λ x. cond (is_dropped x) 1 0) n.1
new_drops (Evicts len place) old new n = ap (λ x. cond (is_dropped x) 1 0) n.5
new_drops Stays old new n = ap (λ x. cond (is_dropped x) 1 0) n.8
new_drops (Moves len ds from to) old new n = ap (λ x. cond (is_dropped x) 1 0) n.1
new_drops (Fetches len ds place) old new n = ap (λ x. cond (is_dropped x) 1 0) n.1

old_drops : (form : Naming) (old new : ℕ) → IsNaming form (read_of old) (read_of new) → drops old ≡ retires form
old_drops (Places len ds place) old new n = ap (λ x. cond (is_dropped x) 1 0) n.0
old_drops Retires old new n = ap (λ t. cond t 1 0) n.0
old_drops (Evicts len place) old new n = ap (λ x. cond (is_dropped x) 1 0) n.2 ∙ ap (λ t. cond t 1 0) n.3
old_drops Stays old new n = ap (λ x. cond (is_dropped x) 1 0) n.4 ∙ ap (λ t. cond t 1 0) n.5
old_drops (Moves len ds from to) old new n = ap (λ x. cond (is_dropped x) 1 0) n.0.1 ∙ ap (λ t. cond t 1 0) n.0.2
old_drops (Fetches len ds place) old new n = ap (λ x. cond (is_dropped x) 1 0) n.0.1 ∙ ap (λ t. cond t 1 0) n.0.2

-- ---- no place is held of a cell whose exchange wins
dropped_place : (x : Option PtrWord) → is_dropped x ≡ true → held_place x ≡ None
dropped_place None h = refl
dropped_place (Some Free) h = refl
dropped_place (Some (Near len ds place m)) h = ap (λ t. cond (m.moved || t) None (Some place)) h ∙ either_way m.moved where
  either_way : (t : Bool) → cond (t || true) None (Some place) ≡ None
  either_way true = refl
  either_way false = refl
dropped_place (Some (Far len ds m)) h = refl

module _ (s : State) (law : Law s) (p : ℕ) where
  none_held : held_place (read_of (s.cell p)) ≡ None → s.held p ≡ None
  none_held nowhere = at (s.held p) refl where
    at : (x : Option Place) → s.held p ≡ x → s.held p ≡ None
    at None e = e
    at (Some place) e = let odd : None ≡ Some place = sym nowhere ∙ law.views.held_names p place e in absurd (cc)

  unheld : (form : Naming) (old new : ℕ) → s.cell p ≡ old → IsNaming form (read_of old) (read_of new) → (naming_row s p new form).Legal → s.held p ≡ None
  unheld (Places len ds place) old new won n legal = none_held (ap held_place (ap read_of won ∙ n.0))
  unheld Retires old new won n legal = none_held (dropped_place (read_of (s.cell p)) (ap (λ w. is_dropped (read_of w)) won ∙ n.0))
  unheld (Evicts len place) old new won n legal = quiet_unheld s law p legal
  unheld Stays old new won n legal = quiet_unheld s law p (inl (ap has_move (ap read_of won ∙ n.4) ∙ n.6))
  unheld (Moves len ds from to) old new won n legal = quiet_unheld s law p (moves_quiet s law p len ds from to legal)
  unheld (Fetches len ds place) old new won n legal = none_held (ap held_place (ap read_of won ∙ n.0.1))

-- where a header stands, it is this word
pub header_is : (h : Option ℕ) (w k : ℕ) → ((x : ℕ) → h ≡ Some x → w ≡ x) → is_some h ≡ true → w ≡ head_or h k
header_is None w k same there = absurd (cc)
header_is (Some x) w k same there = same x refl

-- a view that knows headers alone, each of which stands there, and was known
module _ (b : BookView) (word : ℕ → ℕ) (heads : (a x : ℕ) → head_at b a ≡ Some x → word a ≡ x) where
  pub heads_words : (λ a. head_or (head_at b a) (unknown a)) ≡ masked_word word (λ a. is_some (head_at b a)) (λ _. false)
  heads_words = forgotten b word (λ a st. header_is (head_at b a) (word a) (unknown a) (heads a) st)

  pub heads_forget : (before : BookView) → known_word before ≡ word → (known_word b ≡ (λ a. head_or (head_at b a) (unknown a))) → Forgets (book_state before) (book_state b)
  heads_forget before same gone = forgets before b gone (λ a st. sym (header_is (head_at b a) (word a) (unknown a) (heads a) st) ∙ ap (λ f. f a) (sym same))

pub head_known : (b : BookView) (a x : ℕ) → head_at b a ≡ Some x → known_word b a ≡ x
head_known b a x e = ap (λ z. head_or z (over b.known unknown a)) e

-- the headers that the view knows are those that stand there
pub known_heads : (ws : List ℕ) (b : BookView) (os : OtherViews) → Facts ws b os → (a x : ℕ) → head_at b a ≡ Some x → word_in ws a ≡ x
known_heads ws b os f a x e = f.book.shown.headers a (ap is_some e) ∙ ap (λ z. head_or z (over b.known unknown a)) e

-- which job has copied an object that moves, is what the view says
abbrev IsJobTold : BookView → ℕ → State → Naming → Type 0
IsJobTold b p s (Moves len ds from to) = copied_job s p from to ≡ copied_job (book_state b) p from to
IsJobTold b p s form = Unit {0}

-- ---- headers, where a span of p may begin: each of them is the word that stands there
module _ (b : BookView) (p : ℕ) (word : ℕ → ℕ) (old_heads : (a x : ℕ) → head_at b a ≡ Some x → word a ≡ x) where
  pub span_heads : (len ds : ℕ) (place : Place) → word (addr place) ≡ head_word p len ds → (a x : ℕ) → head_at (span_view p len ds place b) a ≡ Some x → word a ≡ x
  span_heads len ds place head a x = put_both (λ v. v ≡ Some x → word a ≡ x) (head_at b) (addr place) (Some (head_word p len ds)) a
      (λ at e. let is : head_word p len ds ≡ x = cc in ap word at ∙ (head ∙ is)) (λ _ e. old_heads a x e)

  -- in a state in which the job that has copied the object is the one that has by the view
  module _ (row : ℕ → ℕ) (new : ℕ) (s : State) (same : s.word ≡ word) where
    move_heads : (len ds : ℕ) (from to : Place) → MayMove s p len ds from to ⊎ WasCopied s p from to → (j : Option ℕ) → copied_job s p from to ≡ j →
        (a x : ℕ) → head_at (move_view p len ds to j b) a ≡ Some x → word a ≡ x
    move_heads len ds from to legal (Some j) e = old_heads
    move_heads len ds from to (inl legal) None e = span_heads len ds to (ap (λ f. f (addr to)) (sym same) ∙ legal.span.head)
    move_heads len ds from to (inr has) None e = absurd (false≢true (sym (ap is_some e) ∙ copied_test s p from to has))

    pub form_heads : (form : Naming) → IsJobTold b p s form → (naming_row s p new form).Legal → (a x : ℕ) → head_at (form_view row p form b) a ≡ Some x → word a ≡ x
    form_heads (Places len ds place) told legal = span_heads len ds place (ap (λ f. f (addr place)) (sym same) ∙ legal.0.head)
    form_heads Retires told legal = old_heads
    form_heads (Evicts len place) told legal = old_heads
    form_heads Stays told legal = old_heads
    form_heads (Moves len ds from to) told legal = move_heads len ds from to legal (copied_job (book_state b) p from to) told
    form_heads (Fetches len ds place) told legal = span_heads len ds place (ap (λ f. f (addr place)) (sym same) ∙ legal.span.head)

-- ---- a move by the job that has copied the object, if one has
module _ (b : BookView) (p old new : ℕ) where
  abbrev moved_by : ℕ → ℕ → Place → Option ℕ → BookView
  moved_by len ds to j = record (move_view p len ds to j b) {
    cells = (p, new) ∷ b.cells;
    taken = (p, taken_at b p + moves old) ∷ b.taken;
    retired = (p, retired_at b p + 0) ∷ b.retired;
    cooled = (p, cooled_at b p + hots old) ∷ b.cooled;
    stained = (p, stained_at b p + dirts new) ∷ b.stained;
    cleaned = (p, cleaned_at b p + dirts old) ∷ b.cleaned;
    known = [];
  }

  move_done : (len ds : ℕ) (to : Place) (j : Option ℕ) → book_state (moved_by len ds to j) ≡ record (after_move (book_state b) p new len to j) { word = known_word (moved_by len ds to j); stored = stored_word (moved_by len ds to j) }
  move_done len ds to None = λ i. record (book_state (moved_by len ds to None)) { starts = begins_put (head_at b) (addr to) (head_word p len ds) i }
  move_done len ds to (Some j) = refl

  move_stored : (len ds : ℕ) (to : Place) (j : Option ℕ) → stored_word (moved_by len ds to j) ≡ (after_move (book_state b) p new len to j).stored
  move_stored len ds to None = refl
  move_stored len ds to (Some j) = refl

-- ---- the view after a naming is what the core's event makes of the view, but for words
module _ (row : ℕ → ℕ) (b : BookView) (p old new : ℕ) where
  abbrev v : Naming → BookView
  v form = formed_view row p old new form b

  form_done : (form : Naming) → book_state (v form) ≡ record (naming_row (book_state b) p new form).after { word = known_word (v form); stored = stored_word (v form) }
  form_done (Places len ds place) = λ i. record (book_state (v (Places len ds place))) { starts = begins_put (head_at b) (addr place) (head_word p len ds) i }
  form_done Retires = refl
  form_done (Evicts len place) = refl
  form_done Stays = refl
  form_done (Moves len ds from to) = move_done b p old new len ds to (copied_job (book_state b) p from to)
  form_done (Fetches len ds place) = λ i. record (book_state (v (Fetches len ds place))) { starts = begins_put (head_at b) (addr place) (head_word p len ds) i }

  module _ (h : Legal (book_state b) (Name p old new)) (seen : old ≡ (book_state b).cell p) where
    abbrev o : State
    o = book_state b

    told_itself : (form : Naming) → IsJobTold b p o form
    told_itself (Places len ds place) = tt
    told_itself Retires = tt
    told_itself (Evicts len place) = tt
    told_itself Stays = tt
    told_itself (Moves len ds from to) = refl
    told_itself (Fetches len ds place) = tt

    named_is : named_view row p old new b ≡ v h.1.0
    named_is = ap (λ x. view_by row p old new x b) (naming_only h.1.0 (read_of old) (read_of new) h.1.1)

    pub named_done : book_state (named_view row p old new b) ≡ record (after o (Name p old new)) { word = known_word (named_view row p old new b); stored = stored_word (named_view row p old new b) }
    named_done = subst (λ z. book_state z ≡ record (after o (Name p old new)) { word = known_word z; stored = stored_word z }) (sym named_is)
        (form_done h.1.0 ∙ ap (λ (u : State). record u { word = known_word (v h.1.0); stored = stored_word (v h.1.0) }) (sym (won_state o p old new h.1.0 (sym seen) h.1.1)))

    head_same : (a x : ℕ) → head_at (v h.1.0) a ≡ Some x → known_word b a ≡ x
    head_same = form_heads b p (known_word b) (head_known b) row new o refl h.1.0 (told_itself h.1.0) h.1.2

    pub named_forgets : Forgets o (book_state (named_view row p old new b))
    named_forgets = subst (λ z. Forgets o (book_state z)) (sym named_is)
        (heads_forget (v h.1.0) (known_word b) head_same b refl refl)

-- ---- the step
module _ (ws : List ℕ) (b : BookView) (os : OtherViews) (f : Facts ws b os) (plain : IsPlain b) (p old new : ℕ) (fits : new < 2 ^ 64)
    (h : Legal (book_state b) (Name p old new)) (known : KnowsLeaving (book_state b) old new) where
  abbrev s : State
  s = state_of ws b os

  abbrev view : State
  view = book_state b

  -- it is legal by the view of a beset hand
  by_view : Legal (masked s view.cell (counts b) view.copying.word) (Name p old new)
  by_view = masks.by_view ws b os f plain (Name p old new) h

  legal : Legal s (Name p old new)
  legal = legal_name s f.law view.cell (counts b) view.copying.word (finds ws b os f) (going ws b os f) p old new h.0 fits by_view

  abbrev form : Naming
  form = by_view.1.0

  form_legal : (naming_row s p new form).Legal
  form_legal =
      let both : Some legal.1.0 ≡ Some form = sym (naming_only legal.1.0 (read_of old) (read_of new) legal.1.1) ∙ naming_only form (read_of old) (read_of new) by_view.1.1 in
      let same : legal.1.0 ≡ form = cc in
      subst (λ x. (naming_row s p new x).Legal) same legal.1.2

  few : p < POINTERS
  few = cells_few ws b os f p h.0

  abbrev later : List ℕ
  later = set ws (cell_at p) new

  abbrev b' : BookView
  b' = formed_view s.word p old new form b

  old_heads : (a x : ℕ) → head_at b a ≡ Some x → s.word a ≡ x
  old_heads = known_heads ws b os f

  leaving : (len : ℕ) (place : Place) → IsNaming (Evicts len place) (read_of old) (read_of new) → is_dirty (read_of old) ≡ true → (i : ℕ) → i < words_for len → known_word b (addr place + 1 + i) ≡ s.word (addr place + 1 + i)
  leaving len place n dirty i lt = sym (f.book.shown.words (addr place + 1 + i) (known len place n dirty i lt))

  abbrev made : Naming → State
  made x = record (state_of ws (formed_view s.word p old new x b) os) { cell = put (cell_in ws) p new }

  -- what the view says was copied, was copied
  told : (x : Naming) → IsNaming x (read_of old) (read_of new) → (naming_row (masked s view.cell (counts b) view.copying.word) p new x).Legal → IsJobTold b p s x
  told (Places len ds place) n l = tt
  told Retires n l = tt
  told (Evicts len place) n l = tt
  told Stays n l = tt
  told (Moves len ds from to) n l = sym (job_too s f.law view.cell (counts b) view.copying.word (finds ws b os f) (going ws b os f) p old new h.0 fits len ds from to n.1 l)
      ∙ ap (λ (z : State). copied_job z p from to) (sym (is_masked ws b os f plain))
  told (Fetches len ds place) n l = tt

  move_becomes : (len ds : ℕ) (to : Place) (j : Option ℕ) → after_move s p new len to j ≡ record (state_of ws (moved_by b p old new len ds to j) os) { cell = put (cell_in ws) p new }
  move_becomes len ds to None = λ i. record (state_of ws (moved_by b p old new len ds to None) os) { cell = put (cell_in ws) p new; starts = sym (begins_put (head_at b) (addr to) (head_word p len ds)) i }
  move_becomes len ds to (Some j) = refl

  row_becomes : (x : Naming) → IsJobTold b p s x → IsNaming x (read_of old) (read_of new) → (naming_row s p new x).after ≡ made x
  row_becomes (Places len ds place) t n = λ i. record (made (Places len ds place)) { starts = sym (begins_put (head_at b) (addr place) (head_word p len ds)) i }
  row_becomes Retires t n = refl
  row_becomes (Evicts len place) t n = λ i. record (made (Evicts len place)) { stored = stored_after b p len place s.word s.word (λ _ _. refl) i }
  row_becomes Stays t n = refl
  row_becomes (Moves len ds from to) t n = ap (after_move s p new len to) t ∙ move_becomes len ds to (copied_job view p from to)
  row_becomes (Fetches len ds place) t n = λ i. record (made (Fetches len ds place)) { starts = sym (begins_put (head_at b) (addr place) (head_word p len ds)) i }

  words_named : known_word b' ≡ masked_word (word_in later) (λ a. is_some (head_at b' a)) (λ _. false)
  words_named = heads_words b' (word_in later) (λ a x e. ap (λ g. g a) (cell_after ws b os f p new few).word_is ∙ form_heads b p s.word old_heads s.word new s refl form (told form by_view.1.1 by_view.1.2) form_legal a x e)

  -- what was counted before, and once more where the old word has the mark, which the new one hasn't
  counted : (count before : ℕ → ℕ) → count new ≡ 0 → cell_in ws p ≡ old → (q : ℕ) → before q + count (cell_in ws q) ≡ put before p (before p + count old) q + count (cell_in later q)
  counted count before gone won q =
      let cells : cell_in later q ≡ put (cell_in ws) p new q = ap (λ g. g q) (cell_after ws b os f p new few).cell_is in
      dite (ℕ_discrete q p)
      (λ e. let was : count (cell_in ws q) ≡ count old = ap count (ap (cell_in ws) e ∙ won) in
      let left : count (cell_in later q) ≡ 0 = ap count (cells ∙ put_same (cell_in ws) p new q e) ∙ gone in
      let more : put before p (before p + count old) q ≡ before p + count old = put_same before p (before p + count old) q e in
      let here : before q ≡ before p = ap before e in omega arith)
      (λ ne. let same : count (cell_in later q) ≡ count (cell_in ws q) = ap count (cells ∙ put_other (cell_in ws) p new q ne) in
      let more : put before p (before p + count old) q ≡ before q = put_other before p (before p + count old) q ne in omega arith)

  -- a mark that is counted where it is left, and where it was found
  counted_both : (count left found : ℕ → ℕ) → cell_in ws p ≡ old → (q : ℕ) →
      put left p (left p + count new) q + (found q + count (cell_in ws q)) ≡ left q + (put found p (found p + count old) q + count (cell_in later q))
  counted_both count left found won q =
      let cells : cell_in later q ≡ put (cell_in ws) p new q = ap (λ g. g q) (cell_after ws b os f p new few).cell_is in
      dite (ℕ_discrete q p)
      (λ e. let was : count (cell_in ws q) ≡ count old = ap count (ap (cell_in ws) e ∙ won) in
      let is : count (cell_in later q) ≡ count new = ap count (cells ∙ put_same (cell_in ws) p new q e) in
      let more : put left p (left p + count new) q ≡ left p + count new = put_same left p (left p + count new) q e in
      let met : put found p (found p + count old) q ≡ found p + count old = put_same found p (found p + count old) q e in
      let here : left q ≡ left p = ap left e in
      let there : found q ≡ found p = ap found e in omega arith)
      (λ ne. let same : count (cell_in later q) ≡ count (cell_in ws q) = ap count (cells ∙ put_other (cell_in ws) p new q ne) in
      let more : put left p (left p + count new) q ≡ left q = put_other left p (left p + count new) q ne in
      let met : put found p (found p + count old) q ≡ found q = put_other found p (found p + count old) q ne in omega arith)

  drops_old : retired_at b' ≡ put (retired_at b) p (retired_at b p + drops old)
  drops_old = ap (λ n. put (retired_at b) p (retired_at b p + n)) (sym (old_drops form old new by_view.1.1))

  counts_named : cell_in ws p ≡ old → (q : ℕ) → (taken_at b q + moves (cell_in ws q) ≡ taken_at b' q + moves (cell_in later q)) × (retired_at b q + drops (cell_in ws q) ≡ retired_at b' q + drops (cell_in later q))
      × (cooled_at b q + hots (cell_in ws q) ≡ cooled_at b' q + hots (cell_in later q))
      × (stained_at b' q + (cleaned_at b q + dirts (cell_in ws q)) ≡ stained_at b q + (cleaned_at b' q + dirts (cell_in later q)))
  counts_named won q = (
    counted moves (taken_at b) (new_moves form old new by_view.1.1) won q,
    counted drops (retired_at b) (new_drops form old new by_view.1.1) won q ∙ ap (λ g. g q + drops (cell_in later q)) (sym drops_old),
    counted hots (cooled_at b) (new_hots form old new by_view.1.1) won q,
    counted_both dirts (stained_at b) (cleaned_at b) won q,
  )

  -- what is held has HOT as it had
  warm_named : cell_in ws p ≡ old → (q : ℕ) → IsSome (held_by os.owners q) → hots (cell_in later q) ≡ hots (cell_in ws q)
  warm_named won q held =
      let free : held_by os.owners p ≡ None = unheld s f.law p form old new won by_view.1.1 form_legal in
      let ne : q ≢ p = λ e. false≢true (sym (ap is_some (ap (held_by os.owners) e ∙ free)) ∙ held) in
      ap hots (ap (λ g. g q) (cell_after ws b os f p new few).cell_is ∙ put_other (cell_in ws) p new q ne)

  -- so says the step
  told_named : (q : ℕ) → (taken_at b' q ≡ taken_by (Name p old new) Done q (taken_at b q)) × (retired_at b' q ≡ retired_by (Name p old new) Done q (retired_at b q))
      × (cooled_at b' q ≡ cooled_by (Name p old new) Done q (cooled_at b q)) × (stained_at b' q ≡ stained_by (Name p old new) Done q (stained_at b q))
      × (cleaned_at b' q ≡ cleaned_by (Name p old new) Done q (cleaned_at b q))
  told_named q = (
    said (moves old) (taken_at b) q,
    ap (λ g. g q) drops_old ∙ said (drops old) (retired_at b) q,
    said (hots old) (cooled_at b) q,
    said (dirts new) (stained_at b) q,
    said (dirts old) (cleaned_at b) q,
  ) where
    said : (more : ℕ) (before : ℕ → ℕ) (q : ℕ) → put before p (before p + more) q ≡ cond (p == q) (before q + more) (before q)
    said more before q = dite (ℕ_discrete q p)
        (λ e. put_same before p (before p + more) q e ∙ (ap (λ z. before z + more) (sym e) ∙ sym (ap (λ t. cond t (before q + more) (before q)) (eq-eqb p q (sym e)))))
        (λ ne. put_other before p (before p + more) q ne ∙ sym (ap (λ t. cond t (before q + more) (before q)) (ne_eqb p q (λ e. ne (sym e)))))

  -- no naming changes a job's word
  going_named : (x : Naming) → AllFindJobs (over (formed_view s.word p old new x b).jobs (λ _. 0)) (job_in later)
  going_named x = subst (λ (z : ℕ → ℕ). AllFindJobs z (job_in later)) (sym (form_jobs s.word p x b)) (going_after ws b os f p new few)

  finds_named_too : (x : Naming) → AllFind (over (formed_view s.word p old new x b).cells (λ _. 0)) (cell_in later)
  finds_named_too x = finds_after ws b os f p new few

  won_step : cell_in ws p ≡ old → BookStep ws b os (Name p old new) Done later b'
  won_step won = let sizes = form_sizes s.word p form b in
      let many = form_logs s.word p form b in
      let sized = subst (λ n. WordsAre n later (epoch_in ws) (scope_in ws) (put (cell_in ws) p new) (word_in ws) (job_in ws)) (sym many) (cell_after ws b os f p new few) in record {
        legal = legal;
        says = won_says (cell_in ws p) old won;
        becomes = led_by (won_state s p old new form won by_view.1.1 ∙ row_becomes form (told form by_view.1.1 by_view.1.2) by_view.1.1) (state_is later b' os sized refl refl refl refl);
        book = λ law. ties later b' os law (λ _. false) words_named (finds_named_too form) (counts_none (book_state b') (book_state b').cell) (epoch_after ws b os f p new few ∙ sym sizes.3) (going_named form);
        leaves = record {
          mutators = sizes.0;
          logs = many;
          honest = sizes.1;
          rest = sizes.2;
          scopes = (cell_after ws b os f p new few).scope_is;
          counts = counts_named won;
          warm = warm_named won;
          told = told_named;
        };
      }

  lost_step : cell_in ws p ≢ old → BookStep ws b os (Name p old new) (Word (cell_in ws p)) ws (saw_view p (cell_in ws p) b)
  lost_step ne = let seen = see_step ws b os f plain p h.0 in record {
    legal = legal;
    says = lost_says (cell_in ws p) old ne;
    becomes = reads f (after s (Name p old new)) (saw_view p (cell_in ws p) b) os (lost_state s p old new ne) refl;
    book = seen.book;
    leaves = cells_stay refl refl refl (λ _ _. (refl, refl, refl, refl, refl));
  }

  pub exchange_step : BookStep ws b os (Name p old new) (exchange_reply old (cell_in ws p)) (set ws (cell_at p) (either (cell_in ws p == old) new (cell_in ws p))) (exchanged_view s.word p old new (cell_in ws p) b)
  exchange_step = by_case (BookStep ws b os (Name p old new)) ws (cell_at p) (cell_in ws p) old new (named_view s.word p old new b) (saw_view p (cell_in ws p) b) (cell_here ws p few)
      (λ won. subst (BookStep ws b os (Name p old new) Done later) (sym (ap (λ x. view_by s.word p old new x b) (naming_only form (read_of old) (read_of new) by_view.1.1))) (won_step won)) lost_step

  -- what is stored, where it won
  row_stored : (x : Naming) → IsNaming x (read_of old) (read_of new) →
      ((len : ℕ) (place : Place) → IsNaming (Evicts len place) (read_of old) (read_of new) → is_dirty (read_of old) ≡ true) → stored_word (formed_view s.word p old new x b) ≡ (naming_row view p new x).after.stored
  row_stored (Places len ds place) n dirty = refl
  row_stored Retires n dirty = refl
  row_stored (Evicts len place) n dirty = sym (stored_after b p len place (known_word b) s.word (leaving len place n (dirty len place n)))
  row_stored Stays n dirty = refl
  row_stored (Moves len ds from to) n dirty = move_stored b p old new len ds to (copied_job view p from to)
  row_stored (Fetches len ds place) n dirty = refl

  pub stores : old ≡ view.cell p → cell_in ws p ≡ old → StoresLeaving view (book_state (named_view s.word p old new b)) p old new
  stores seen won =
      let real = stores_leaving s f.law p old new legal won in
      let kept : stored_word b' ≡ (after s (Name p old new)).stored = ap (λ (u : State). u.stored) (sym (won_state s p old new form won by_view.1.1 ∙ row_becomes form (told form by_view.1.1 by_view.1.2) by_view.1.1)) in
      let named : named_view s.word p old new b ≡ b' = ap (λ x. view_by s.word p old new x b) (naming_only form (read_of old) (read_of new) by_view.1.1) in
      subst (λ z. StoresLeaving view (book_state z) p old new) (sym named) (record {
        kept = λ dirty. row_stored form by_view.1.1 dirty ∙ sym (ap (λ (u : State). u.stored) (won_state view p old new form (sym seen) by_view.1.1));
        others = λ q ne. ap (λ g. g q) kept ∙ real.others q ne;
        fits = λ len place n. subst (λ (g : ℕ → ℕ → ℕ). IsStored (g p) len) (sym kept) (real.fits len place n);
        own = λ len place n i lt is. ap (λ (g : ℕ → ℕ → ℕ). g p i) kept ∙ left_words s f.law p old new won len place n i lt ∙ f.book.shown.words (addr place + 1 + i) is;
        same = λ honest len place n none i lt. ap (λ (g : ℕ → ℕ → ℕ). g p i) kept ∙ real.same honest len place n none i lt;
      })

module _ {S : Type 0} (slots id : ℕ) (me : Me S View) (is : me.0 ≡ Book (book_of me.0)) (plain : IsPlain (book_of me.0)) (p old new : ℕ) (old_fits : old < 2 ^ 64) (fits : new < 2 ^ 64) where
  abbrev mine : BookView
  mine = book_of me.0

  pub exchanges : Legal (book_state mine) (Name p old new) → old ≡ (book_state mine).cell p → KnowsLeaving (book_state mine) old new →
      Allows Running slots id me (cell_at p) (λ n. either (n == old) new n) (Named (step slots (cell_at p) old new none) me)
  exchanges h seen known = book_allows slots id (cell_at p) me mine (λ n. either (n == old) new n) (Named (step slots (cell_at p) old new none) me) is (λ ws os f small.
      let n : ℕ = slice_index ws (cell_at p) in
      let word : ℕ → ℕ = word_in ws in
      let here : cell_in ws p ≡ n = cell_here ws p (cells_few ws mine os f p h.0) in
      let k = subst (λ n. BookStep ws mine os (Name p old new) (exchange_reply old n) (set ws (cell_at p) (either (n == old) new n)) (exchanged_view word p old new n mine)) here (exchange_step ws mine os f plain p old new fits h known) in
      let t : BookTells me.0 (Book (exchanged_view word p old new n mine)) (Name p old new) (exchange_reply old n) (exchanged_view word p old new n mine) =
      record { after_is = refl; made = book_made ws mine os f (Name p old new) refl (old_fits, fits) (exchange_reply old n) (set ws (cell_at p) (either (n == old) new n)) (exchanged_view word p old new n mine) k } in (
        exchanged_view word p old new n mine,
        k.leaves.rest,
        book_facts ws mine os f (Name p old new) refl (old_fits, fits) (exchange_reply old n) (set ws (cell_at p) (either (n == old) new n)) (exchanged_view word p old new n mine) k,
        λ q e.
            let x = found_at slots id me is plain p ws os f h.0 q e (λ z. (n ≡ old → StoresLeaving (book_state mine) (book_state (named_view word z old new mine)) z old new) × BookTells me.0 (Book (exchanged_view word p old new n mine)) (Name z old new) (exchange_reply old n) (exchanged_view word z old new n mine))
            (λ is_old. stores ws mine os f plain p old new fits h known seen (here ∙ is_old), t) in
            (x.0, word, x.1.0, x.1.1),
      ))
