-- A live span is named by its cell, and live and dead bytes are sums over the list.
use Rattle.std.proofs.Common.{◌≡◌, ℕ, refl, ap, ◌∙◌, Some}
use Rattle.std.specs.Prelude.{not}
use Rattle.std.proofs.lemmas.Bool.{eq-eqb}
use Rattle.far_word.specs.declared.pointer.PtrWord.TheVariants.{Near}
use Rattle.far_word.specs.declared.pointer.Place.{Place}
use Rattle.far_word.specs.Pointer.{read_of}
use Rattle.far_log.specs.declared.span.Span.{Span}
use Rattle.far_log.proofs.SpanLaws.{taken_is}
use Rattle.far_core.specs.laws.Live.{place_in, LiveIs, LiveBytesAre}
use Rattle.far_events.specs.state.Spans.{spans_of, is_live}
use Rattle.far_events.specs.state.State.{State}
use Rattle.far_core.proofs.Observations.{live_names}

pub live_is : (s : State) (l : ℕ) (span : Span) → LiveIs s l span
live_is s l span = (
  λ live. let n = live_names (read_of (s.cell span.p)) l span.at live in
      let here : n.2 ≡ place_in l span.at = λ i. record { log = n.5 i; at = n.6 i } in
      (n.0, n.1, n.3, n.4 ∙ ap (λ (x : Place). Some (Near n.0 n.1 x n.3)) here),
  λ h. rw (h.3, eq-eqb l l refl, eq-eqb span.at span.at refl) refl,
)

pub live_bytes_are : (s : State) (l : ℕ) → LiveBytesAre s l
live_bytes_are s l = (taken_is (is_live s l) (spans_of s l), taken_is (λ span. not (is_live s l span)) (spans_of s l))
