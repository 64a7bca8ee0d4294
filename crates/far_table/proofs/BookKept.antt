-- What an owner's event leaves of the book's ties.
use Rattle.std.proofs.Common.{◌≡◌, ◌<◌, ◌^◌, ℕ, false, sym, ap, ◌∙◌, subst}
use Rattle.far_events.specs.state.Law.{Law}
use Rattle.far_events.specs.state.State.{State}
use Rattle.far_hand.specs.Beside.{beside}
use Rattle.far_hand.specs.Known.{IsKnown}
use Rattle.far_hand.specs.MayBe.{Shows}
use Rattle.far_hand.specs.Others.{OthersChange}
use Rattle.far_hand.specs.Quiet.{RestsAt}
use Rattle.far_hand.proofs.Finding.{finds_more}
use Rattle.far_hand.proofs.JobsFound.{job_more}
use Rattle.far_hand.proofs.Masking.{shown_still}
use Rattle.far_table.specs.View.{BookView}
use Rattle.far_table.specs.Rule.{BookTies}
use Rattle.far_table.specs.StateOf.{book_state}

module _ (o s t : State) (law : Law s) (shown : Shows o s) (change : OthersChange s t) (rests : (a : ℕ) → IsKnown (o.word a) → o.starts a ≡ false → RestsAt o a) where
  kept_word : (a : ℕ) → IsKnown (o.word a) → t.word a ≡ s.word a
  kept_word a known = change.words a (shown_still o s law shown a (rests a known))

  same_starts : t.starts ≡ s.starts
  same_starts = ap (λ (z : State). z.starts) change.rest

  pub shows_on : Shows o t
  shows_on = record {
    cells = λ p. finds_more (o.cell p) (s.cell p) (t.cell p) (shown.cells p) (change.cells p);
    words = λ a known. kept_word a known ∙ shown.words a known;
    headers = λ a starts. let head = shown.headers a (sym (ap (λ f. f a) same_starts) ∙ starts) in
        kept_word a (subst (λ w. w < 2 ^ 64) head (law.spans.word_fits a)) ∙ head;
    jobs = λ j. job_more (o.copying.word j) (s.copying.word j) (t.copying.word j) (shown.jobs j) (change.jobs j);
    rest = change.rest ∙ ap (λ (z : State). beside z t) shown.rest;
  }

pub book_on : (b : BookView) (s t : State) → Law s → BookTies b s → OthersChange s t → BookTies b t
book_on b s t law ties change = record { shown = shows_on (book_state b) s t law ties.shown change ties.rests; rests = ties.rests }
