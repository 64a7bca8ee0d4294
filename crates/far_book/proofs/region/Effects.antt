-- What the effects of the book's calls are, in the subject's words.
use Rattle.std.proofs.Common.{◌≡◌, ℕ, ◌+◌, true, sym, refl, ap, subst, ◌∙◌}
use Rattle.far_word.specs.declared.pointer.Place.{Place}
use Rattle.far_word.specs.declared.pointer.PtrWord.TheVariants.{Near}
use Rattle.far_word.specs.Pointer.{IsPtr, read_of}
use Rattle.far_word.specs.Sizes.{size_of}
use Rattle.far_word.proofs.PointerLaws.{read_back}
use Rattle.far_events.specs.events.Naming.{is_dropped, no_marks, unmarked}
use Rattle.far_events.specs.state.Law.{Law}
use Rattle.far_events.specs.state.State.{State}
use Rattle.far_core.proofs.NewSpans.{takes_span}
use Rattle.far_events.proofs.Put.{put_same, put_other}
use Rattle.far_book.specs.book.Effects.{near_word, placed, retired, with_blank_span}
use Rattle.far_book.specs.book.Laws.{IsPlaced, IsFreed}
use Rattle.far_book.proofs.region.Coming.{header, stands, written_outside}
use Rattle.far_book.proofs.region.Places.{named_is}
use Rattle.far_book.proofs.region.Retires.{retired_is}

pub is_placed : (s : State) (p len ds : ℕ) (place : Place) → Law s → s.cell p ≡ 0 → IsPtr (Near len ds place no_marks) → place.at ≡ s.tail place.log → IsPlaced s (placed s p len ds place) p len ds place
is_placed s p len ds place law free layout end = let span = takes_span s law p (near_word true len ds place) len place in
    subst (λ (t : State). IsPlaced s t p len ds place) (sym (named_is (with_blank_span s p len ds place) p len ds place free layout)) record {
      cell = ap read_of (put_same s.cell p (near_word true len ds place) p refl) ∙ read_back (Near len ds place (unmarked true)) layout;
      cells = λ q ne. put_other s.cell p (near_word true len ds place) q ne;
      header = header s p len ds place (λ _. 0);
      zeros = stands s p len ds place (λ _. 0);
      words = written_outside s p len ds place (λ _. 0);
      tail = span.ends ∙ ap (λ k. k + size_of len) end;
      tails = λ l ne. (span.others l ne).0;
      opens = span.opens.0;
      seals = span.seals;
      kinds = λ l ne. (span.others l ne).1;
    }

pub is_freed : (s : State) (p : ℕ) → is_dropped (read_of (s.cell p)) ≡ true → IsFreed s (retired s p) p
is_freed s p dropped = subst (λ (t : State). IsFreed s t p) (sym (retired_is s p dropped)) record {
  cell = put_same s.cell p 0 p refl;
  cells = λ q ne. put_other s.cell p 0 q ne;
  words = λ a. refl;
  tails = λ l. refl;
  kinds = λ l. refl;
}
