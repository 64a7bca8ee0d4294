-- The law at the start.
use Rattle.std.proofs.Common.{◌≡◌, ◌≢◌, ◌<◌, Bool, true, false, Some, refl, arith, sym, ◌∙◌}
use Rattle.std.proofs.lemmas.Bool.{false≢true}
use Rattle.far_word.specs.declared.pointer.PtrWord.TheVariants as pointer
use Rattle.far_word.specs.declared.pointer.PtrWord.TheVariants.{Near, Far}
use Rattle.far_word.specs.declared.scope.ScopeWord.TheVariants as scoped
use Rattle.far_events.specs.declared.event.Kind.TheVariants.{Free, Open}
use Rattle.far_events.specs.declared.shape.Shape.{Shape}
use Rattle.far_events.specs.state.Law.{Law}
use Rattle.far_events.specs.state.Opening.{for_copiers, opening}
use Rattle.far_events.specs.state.Shape.{is_shape}
use Rattle.far_events.proofs.Cells.{unused}
use Rattle.far_core.proofs.KeepOwner.{closed_word}
use Rattle.far_core.proofs.KeepJobs.{no_copies}
use Rattle.far_events.proofs.Put.{put_both}
use Rattle.far_events.proofs.Begins.{in_range}

pub begins : (has : Bool) (shape : Shape) (honest : Bool) → is_shape shape ≡ true → Law (for_copiers has (opening shape honest))
begins has shape honest fits = let range = in_range shape fits in record {
  shape = record { two_logs = range.two_logs; few_logs = range.few_logs; some_mutators = range.some_mutators; few_mutators = range.few_mutators };
  cells = record {
    cell_read = λ p. (omega arith, rw unused refl);
    cell_range = λ p ne. absurd (ne refl);
    cell_near = λ p len ds place m e. let f : Some pointer.Free ≡ Some (Near len ds place m) = sym unused ∙ e in absurd cc;
    cell_far = λ p len ds m e. let f : Some pointer.Free ≡ Some (Far len ds m) = sym unused ∙ e in absurd cc;
  };
  spans = record {
    word_fits = λ a. omega arith;
    first_span = λ l h. absurd (omega arith);
    span = λ a h. absurd (false≢true h);
    span_header = λ a head h e. absurd (false≢true h);
    span_padding = λ a h. absurd (false≢true h);
  };
  logs = record {
    tail_end = λ l. omega arith;
    free_tail = λ l h. refl;
    log_range = λ l. put_both (λ k. k ≢ Free → l < shape.logs) (λ _. Free) 0 Open l (λ e _. omega (arith, range.two_logs)) (λ _ ne. absurd (ne refl));
    is_open = refl;
    one_open = λ l h. put_both (λ k. k ≡ Open → l ≡ 0) (λ _. Free) 0 Open l (λ e _. e) (λ _ is. absurd cc) h;
  };
  scopes = record {
    scope_read = λ m. rw closed_word refl;
    scope_range = λ m ne. absurd (ne refl);
    epoch_below = range.epoch;
    open_bound = λ m e h. let f : Some scoped.Closed ≡ Some (scoped.Open e) = sym closed_word ∙ h in absurd cc;
    remembered_bound = λ m e h. absurd cc;
    remembered_range = λ m e h. absurd cc;
  };
  views = record {
    held_open = λ p h. absurd (false≢true h);
    held_names = λ p place h. absurd cc;
    held_used = λ p h. absurd (false≢true h);
    used_cell = λ p h. absurd (false≢true h);
  };
  rounds = record { round_sealed = λ l h. absurd (false≢true h); round_evac = λ p len ds place m e h. absurd (false≢true h); own_epoch = refl };
  clears = record { clear_unviewed = λ p place h c. refl; late_unviewed = λ p e place h is late. refl };
  unadopted = λ _ p _. record {
    near = λ len ds place m e. let f : Some pointer.Free ≡ Some (Near len ds place m) = sym unused ∙ e in absurd cc;
    far = λ len ds m e. let f : Some pointer.Free ≡ Some (Far len ds m) = sym unused ∙ e in absurd cc;
  };
  copies = no_copies has (λ _. 0) (λ _. 0) (λ _. false) (λ _. false) shape.epoch (λ _. false);
  soils = record { soiled_held = λ p h. absurd (false≢true h); soiled_dirty = λ p h. absurd (false≢true h) };
  cleans = λ p. record {
    back = λ len ds place m e. let f : Some pointer.Free ≡ Some (Near len ds place m) = sym unused ∙ e in absurd cc;
    same = λ _ len ds place m e. let f : Some pointer.Free ≡ Some (Near len ds place m) = sym unused ∙ e in absurd cc;
  };
}
