-- What the struct of the book's seat keeps over a step, for all kinds of step.
use Rattle.std.proofs.Common.{◌≡◌, ◌+◌, ◌*◌, ◌<◌, ℕ, Bool, true, false, sym, refl, ap, ◌∙◌, subst, arith}
use Rattle.atomic_table.specs.Seated.{TableId}
use Rattle.far_word.specs.declared.sizes.TheConstants.{CELLS, EPOCH_END, LOG_WORDS}
use Rattle.far_events.specs.declared.event.Event.{Event}
use Rattle.far_events.specs.declared.event.Event.TheVariants.{Look}
use Rattle.far_events.specs.declared.event.Reply.{Reply}
use Rattle.far_events.specs.declared.event.Reply.TheVariants.{Word}
use Rattle.far_events.specs.events.Step.{after}
use Rattle.far_events.specs.state.State.{State}
use Rattle.far_hand.specs.Known.{Forgets}
use Rattle.far_table.specs.View.{BookView, View, Book}
use Rattle.far_table.specs.Layout.{table_words, cell_at, data_at, scope_at, scope_in}
use Rattle.far_table.specs.BookSeats.{MayBe}
use Rattle.far_table.specs.BookTells.{BookMade, BookTells}
use Rattle.far_table.specs.BookViews.{got_view}
use Rattle.far_table.specs.StateOf.{book_state, known_word, state_of}
use Rattle.far_table.specs.Stands.{BookOk, IsPlain, Stands, book_of}

-- what a view after a step shares with the one before, and that its epoch is the struct's
pub record SameShape (b b' : BookView) (epoch : ℕ) : Type 0 where
  pub logs : b'.logs ≡ b.logs
  pub mutators : b'.mutators ≡ b.mutators
  pub epoch_is : b'.epoch ≡ epoch
  pub below : epoch < EPOCH_END
  pub rest : b'.rest ≡ b.rest
  pub plain : IsPlain b'

-- where nothing of that changes
pub shape_stays : (id here : TableId) (v : View) (logs mutators epoch : ℕ) (b' : BookView) → BookOk id here v logs mutators epoch → b'.logs ≡ (book_of v).logs → b'.mutators ≡ (book_of v).mutators →
    b'.epoch ≡ (book_of v).epoch → b'.rest ≡ (book_of v).rest → IsPlain b' → SameShape (book_of v) b' epoch
shape_stays id here v logs mutators epoch b' i l m e r plain = record { logs = l; mutators = m; epoch_is = e ∙ i.epoch_is; below = i.epoch_below; rest = r; plain = plain }

-- a cell's word is one of the table's
pub cell_inside : (id here : TableId) (v : View) (logs mutators epoch p : ℕ) → BookOk id here v logs mutators epoch → p < CELLS * (book_of v).mutators → cell_at p < table_words logs
cell_inside id here v logs mutators epoch p i low = let a = i.mutators_are in let few = i.few_mutators in omega arith

pub scope_inside : (id here : TableId) (v : View) (logs mutators epoch m : ℕ) → BookOk id here v logs mutators epoch → m < (book_of v).mutators → scope_at m < table_words logs
scope_inside id here v logs mutators epoch m i low = let a = i.mutators_are in let few = i.few_mutators in omega arith

pub word_inside : (id here : TableId) (v : View) (logs mutators epoch l at : ℕ) → BookOk id here v logs mutators epoch → l < (book_of v).logs → at < LOG_WORDS → data_at (l * LOG_WORDS + at) < table_words logs
word_inside id here v logs mutators epoch l at i low within = let a = i.logs_are in omega arith

-- a word that is learned changes no shape
pub got_shape : (id here : TableId) (v : View) (logs mutators epoch : ℕ) (q : Bool) (a n : ℕ) → BookOk id here v logs mutators epoch → IsPlain (got_view q a n (book_of v)) → SameShape (book_of v) (got_view q a n (book_of v)) epoch
got_shape id here v logs mutators epoch true a n i plain = record { logs = refl; mutators = refl; epoch_is = i.epoch_is; below = i.epoch_below; rest = refl; plain = plain }
got_shape id here v logs mutators epoch false a n i plain = record { logs = refl; mutators = refl; epoch_is = i.epoch_is; below = i.epoch_below; rest = refl; plain = plain }

-- what was found in a scope word stands there
pub scope_found : (b b' : BookView) (m n : ℕ) → BookMade (Look m) b (Word n) b' → ∥ ((x : State) × MayBe b' x × (x.scope m ≡ n)) ∥₁
scope_found b b' m n made =
    let says : Word n ≡ Word (scope_in made.words m) = made.says in
    let is : n ≡ scope_in made.words m = cc in
    ∣ (state_of made.later b' made.others, record { words = made.later; others = made.others; facts = made.keeps; is = refl }, sym (ap (λ (z : State). z.scope m) made.becomes) ∙ sym is) ∣₁

module _ (v v' : View) (e : Event) (r : Reply) (b' : BookView) (t : BookTells v v' e r b') where
  pub view_is : book_of v' ≡ b'
  view_is = ap book_of t.after_is

  pub book_stays : (id later here : TableId) (logs mutators epoch epoch' : ℕ) → BookOk id here v logs mutators epoch → later ≡ id → SameShape (book_of v) b' epoch' → BookOk later here v' logs mutators epoch'
  book_stays id later here logs mutators epoch epoch' i same k = record {
    same = same ∙ i.same;
    wide = ap (λ (z : TableId). z.words) same ∙ i.wide;
    is_book = t.after_is ∙ ap (λ z. Book (book_of z)) (sym t.after_is);
    logs_are = ap (λ (z : BookView). z.logs) view_is ∙ (k.logs ∙ i.logs_are);
    mutators_are = ap (λ (z : BookView). z.mutators) view_is ∙ (k.mutators ∙ i.mutators_are);
    epoch_is = ap (λ (z : BookView). z.epoch) view_is ∙ k.epoch_is;
    two_logs = i.two_logs;
    few_logs = i.few_logs;
    some_mutators = i.some_mutators;
    few_mutators = i.few_mutators;
    epoch_below = k.below;
    dealt = ap (λ (z : BookView). z.rest) view_is ∙ (k.rest ∙ i.dealt);
    plain = subst IsPlain (sym view_is) k.plain;
  }

  -- where the view is what the event makes of the view before, but for words, and where words are forgotten, so it is of the seat
  pub seat_kept : book_state b' ≡ record (after (book_state (book_of v)) e) { word = known_word b' } → book_state (book_of v') ≡ record (after (book_state (book_of v)) e) { word = known_word (book_of v') }
  seat_kept = subst (λ z. book_state z ≡ record (after (book_state (book_of v)) e) { word = known_word z }) (sym view_is)

  pub seat_forgets : Forgets (book_state (book_of v)) (book_state b') → Forgets (book_state (book_of v)) (book_state (book_of v'))
  seat_forgets = subst (λ z. Forgets (book_state (book_of v)) (book_state z)) (sym view_is)

  -- there are words with which the rule holds
  pub stands_after : ∥ Stands (book_of v') ∥₁
  stands_after = subst (λ (z : BookView). ∥ Stands z ∥₁) (sym view_is) ∣ record { words = t.made.later; others = t.made.others; facts = t.made.keeps } ∣₁

  -- where nothing of its shape changes
  pub seat_keeps : (id later here : TableId) (logs mutators epoch : ℕ) → BookOk id here v logs mutators epoch → later ≡ id → b'.logs ≡ (book_of v).logs → b'.mutators ≡ (book_of v).mutators →
      b'.epoch ≡ (book_of v).epoch → b'.rest ≡ (book_of v).rest → IsPlain b' → BookOk later here v' logs mutators epoch × ∥ Stands (book_of v') ∥₁
  seat_keeps id later here logs mutators epoch i same l m e r plain = (book_stays id later here logs mutators epoch epoch i same (shape_stays id here v logs mutators epoch b' i l m e r plain), stands_after)

  pub seat_made : BookMade e (book_of v) r (book_of v')
  seat_made = subst (λ z. BookMade e (book_of v) r z) (sym view_is) t.made
