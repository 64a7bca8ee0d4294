-- A dropped object's cell is freed: the law stays, and its log has one live span less, if the object lay near.
use Rattle.std.proofs.Common.{◌≡◌, ◌≢◌, ℕ, ◌+◌, ◌*◌, ◌<◌, true, false, arith, sym, refl, ap, subst, ◌∙◌, Option, Some, None}
use Rattle.std.specs.Prelude.{Contains}
use Rattle.std.proofs.lemmas.Bool.{eq-eqb, ne_eqb, false≢true}
use Rattle.far_word.specs.declared.mark.Marks.{Marks}
use Rattle.far_word.specs.declared.pointer.Place.{Place}
use Rattle.far_word.specs.declared.pointer.PtrWord.{PtrWord}
use Rattle.far_word.specs.declared.pointer.PtrWord.TheVariants.{Free, Near, Far}
use Rattle.far_word.specs.declared.sizes.TheConstants.{CELLS}
use Rattle.far_word.specs.Pointer.{read_of}
use Rattle.far_word.specs.Sizes.{bytes_taken}
use Rattle.far_log.specs.declared.span.Span.{Span}
use Rattle.far_log.specs.Spans.{taken_by}
use Rattle.far_events.specs.declared.event.Event.TheVariants as events
use Rattle.far_events.specs.declared.naming.Naming.TheVariants as naming
use Rattle.far_events.specs.events.Legal.{Legal}
use Rattle.far_events.specs.events.Naming.{is_dropped, naming_of}
use Rattle.far_events.specs.events.Step.{after}
use Rattle.far_core.specs.laws.Observed.{live_bytes, span_for}
use Rattle.far_events.specs.state.Law.{Law}
use Rattle.far_events.specs.state.Spans.{spans_of, is_live, names_place}
use Rattle.far_events.specs.state.State.{State}
use Rattle.far_events.proofs.Cells.{unused}
use Rattle.far_core.proofs.Observations.{walks, one_live}
use Rattle.far_core.proofs.Owing.{keeps}
use Rattle.far_events.proofs.Put.{put_both, put_same}
use Rattle.far_book.specs.book.Effects.{retired, with_free_cell}
use Rattle.far_book.proofs.region.SpanLists.{taken_same, taken_without}

pub retires_form : (o : Option PtrWord) → is_dropped o ≡ true → naming_of o (Some Free) ≡ Some naming.Retires
retires_form None d = absurd (false≢true d)
retires_form (Some Free) d = absurd (false≢true d)
retires_form (Some (Near len ds place m)) d = rw d refl
retires_form (Some (Far len ds m)) d = rw d refl

-- a dropped cell that is named 0 is free, and nothing else changes
pub freed_is : (s : State) (p old : ℕ) → s.cell p ≡ old → is_dropped (read_of old) ≡ true → after s (events.Name p old 0) ≡ with_free_cell s p
freed_is s p old is dropped = rw (eq-eqb (s.cell p) old is, unused, retires_form (read_of old) dropped) refl

pub retired_is : (s : State) (p : ℕ) → is_dropped (read_of (s.cell p)) ≡ true → retired s p ≡ with_free_cell s p
retired_is s p dropped = freed_is s p (s.cell p) refl dropped

pub may_retire : (s : State) (p old : ℕ) → p < CELLS * s.mutators → is_dropped (read_of old) ≡ true → Legal s (events.Name p old 0)
may_retire s p old cell dropped = (cell, (naming.Retires, (dropped, unused), tt))

module _ (s : State) (law : Law s) (p : ℕ) where
  abbrev then : State
  then = with_free_cell s p

  pub law_freed : p < CELLS * s.mutators → is_dropped (read_of (s.cell p)) ≡ true → Law then
  law_freed cell dropped = subst Law (retired_is s p dropped)
      (keeps s (events.Name p (s.cell p) 0) law ((law.cells.cell_read p).0, omega arith) (may_retire s p (s.cell p) cell dropped))

  pub spans_freed : (l : ℕ) → spans_of then l ≡ spans_of s l
  unfolding spans_of
  spans_freed l = refl

  -- a span is as live as before, unless the cell named it
  as_live : (l : ℕ) (x : Span) → names_place (read_of (s.cell p)) l x.at ≡ false → is_live then l x ≡ is_live s l x
  as_live l x none = put_both (λ c. names_place (read_of c) l x.at ≡ names_place (read_of (s.cell x.p)) l x.at) s.cell p 0 x.p
      (λ e. rw (unused, ap s.cell e) (sym none)) (λ _. refl)

  same_bytes : (l : ℕ) → ((x : Span) → Contains (spans_of s l) x → names_place (read_of (s.cell p)) l x.at ≡ false) → live_bytes then l ≡ live_bytes s l
  same_bytes l none = ap (taken_by (is_live then l)) (spans_freed l) ∙ taken_same (is_live then l) (is_live s l) (spans_of s l) (λ x h. as_live l x (none x h))

  pub live_far : (len ds : ℕ) (m : Marks) → read_of (s.cell p) ≡ Some (Far len ds m) → (l : ℕ) → live_bytes then l ≡ live_bytes s l
  live_far len ds m e l = same_bytes l (λ x h. rw e refl)

module _ (s : State) (law : Law s) (p len ds : ℕ) (place : Place) (m : Marks) (e : read_of (s.cell p) ≡ Some (Near len ds place m)) where
  pub live_there : (l : ℕ) → l ≢ place.log → live_bytes (with_free_cell s p) l ≡ live_bytes s l
  live_there l ne = same_bytes s law p l (λ x h. rw (e, ne_eqb place.log l (λ is. ne (sym is))) refl)

  pub live_here : live_bytes (with_free_cell s p) place.log + bytes_taken len ≡ live_bytes s place.log
  live_here =
      let one = one_live s law p len ds place m e in
      let dead : is_live (with_free_cell s p) place.log (span_for p len ds place.at) ≡ false = rw (put_same s.cell p 0 p refl, unused) refl in
      ap (λ n. n + bytes_taken len) (ap (taken_by (is_live (with_free_cell s p) place.log)) (spans_freed s law p place.log))
      ∙ taken_without (is_live s place.log) (is_live (with_free_cell s p) place.log) (spans_of s place.log) 0 (s.tail place.log) (span_for p len ds place.at) (walks s law place.log).tile one.placed one.live dead
      (λ x h ne. as_live s law p place.log x (rw (e, eq-eqb place.log place.log refl) (ne_eqb place.at x.at (λ is. ne (sym is)))))
