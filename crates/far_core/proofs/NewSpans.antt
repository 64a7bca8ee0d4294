-- What a new span's tests say, what taking it changes, and the groups after it.
use Rattle.std.proofs.Common.{◌≡◌, ℕ, ◌+◌, true, refl, sym, ap, ◌∙◌, Some}
use Rattle.far_word.specs.declared.pointer.Place.{Place}
use Rattle.far_word.specs.Sizes.{size_of}
use Rattle.far_events.specs.declared.event.Kind.{Kind}
use Rattle.far_events.specs.declared.event.Kind.TheVariants.{Open, Sealed}
use Rattle.far_events.specs.events.NewSpans.{with_begun, with_span, Takes}
use Rattle.far_events.specs.events.Touch.{CellAt, BookView, Touches}
use Rattle.far_events.specs.state.Law.{Law}
use Rattle.far_events.specs.state.State.{State, put, addr}
use Rattle.far_core.specs.world.WorldOf.{is_group}
use Rattle.far_events.proofs.Put.{put_both, put_same, put_other}
use Rattle.far_core.proofs.Touching.{same_copier, one_cell}

-- ---- what taking a span changes
pub takes_begun : (s : State) → Law s → (len : ℕ) (place : Place) → Takes s len place (with_begun s len place)
takes_begun s law len place = record {
  ends = put_same s.tail place.log (place.at + size_of len) place.log refl;
  opens = (put_same (put s.kind s.current Sealed) place.log Open place.log refl, refl);
  seals = λ l ne is. put_other (put s.kind s.current Sealed) place.log Open l ne ∙ put_same s.kind s.current Sealed l (law.logs.one_open l is);
  others = λ l ne. (
    put_other s.tail place.log (place.at + size_of len) l ne,
    λ shut. put_other (put s.kind s.current Sealed) place.log Open l ne ∙ put_other s.kind s.current Sealed l (λ e. shut (ap s.kind e ∙ law.logs.is_open)),
  );
  begins = put_same s.starts (addr place) true (addr place) refl;
  starts = λ a ne. put_other s.starts (addr place) true a ne;
  round = refl;
  clear = refl;
  stored = refl;
}

-- and naming it nothing more
pub takes_span : (s : State) → Law s → (p new len : ℕ) (place : Place) → Takes s len place (with_span s p new len place)
takes_span s law p new len place =
    let x = takes_begun s law len place in
    record { ends = x.ends; opens = x.opens; seals = x.seals; others = x.others; begins = x.begins; starts = x.starts; round = refl; clear = refl; stored = refl }

pub touch_span : (s : State) (p new len : ℕ) (place : Place) → Touches s (record { word = Some (CellAt p); part = BookView }) (with_span s p new len place)
touch_span s p new len place = record {
  words = one_cell s.epoch s.scope s.cell s.word s.copying.word p new;
  remembered = λ k a b. refl;
  used = λ q a. refl;
  held = λ q a b. refl;
  soiled = λ q a b. refl;
  book = λ ne. absurd (ne refl);
  copiers = λ c ne. same_copier;
  rest = (refl, refl, refl, refl);
}

-- the groups, where one log is sealed that was open and another is open
pub groups_then : (kind : ℕ → Kind) (current log : ℕ) → kind current ≡ Open → (l : ℕ) → is_group (put (put kind current Sealed) log Open l) ≡ put (λ k. is_group (kind k)) log true l
groups_then kind current log is l = put_both (λ k. is_group k ≡ put (λ k. is_group (kind k)) log true l) (put kind current Sealed) log Open l
    (λ e. sym (put_same (λ k. is_group (kind k)) log true l e))
    (λ ne. put_both (λ k. is_group k ≡ put (λ k. is_group (kind k)) log true l) kind current Sealed l
    (λ e. sym (put_other (λ k. is_group (kind k)) log true l ne ∙ ap (λ k. is_group (kind k)) e ∙ ap is_group is))
    (λ _. sym (put_other (λ k. is_group (kind k)) log true l ne)))
