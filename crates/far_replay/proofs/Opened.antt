-- What holds of the first state.
use Rattle.std.proofs.Common.{◌≡◌, ◌==◌, ℕ, Bool, true, false, refl, []}
use Rattle.far_evac.specs.declared.phase.Phase.TheVariants.{Idle}
use Rattle.far_evac.proofs.HeldJobs.{none_held}
use Rattle.std.proofs.lemmas.Bool.{cond_both, false≢true}
use Rattle.far_events.specs.declared.event.Kind.{Kind}
use Rattle.far_events.specs.declared.event.Kind.TheVariants.{Free, Open}
use Rattle.far_events.specs.state.Law.{Law}
use Rattle.far_events.specs.state.Shape.{is_shape}
use Rattle.far_core.proofs.Begins.{begins}
use Rattle.far_replay.specs.Answers.{shape_of, first_moment}
use Rattle.far_alone.specs.Between.{Between}
use Rattle.far_events.specs.events.Mark.{is_sealed}
use Rattle.far_evac.specs.MomentLaw.{MomentLaw}
use Rattle.far_evac.specs.Strays.{NoneStrays}
use Rattle.far_evac.proofs.Standings.{none_once}
use Rattle.far_evac.proofs.Strays.{no_round}

-- the law holds of the first state
pub opening_law : (logs mutators epoch : ℕ) (honest : Bool) → is_shape (shape_of logs mutators epoch) ≡ true → Law (first_moment logs mutators epoch honest).core
opening_law logs mutators epoch honest fits = begins true (shape_of logs mutators epoch) honest fits

-- in the first state no cell is named
pub opening_between : (logs mutators epoch : ℕ) (honest : Bool) → is_shape (shape_of logs mutators epoch) ≡ true → Between (first_moment logs mutators epoch honest).core
opening_between logs mutators epoch honest fits = record { named = λ p ne. absurd (ne refl) }

-- no log is sealed, and no round runs
pub opening_round : (logs mutators epoch : ℕ) (honest : Bool) → is_shape (shape_of logs mutators epoch) ≡ true → MomentLaw (first_moment logs mutators epoch honest)
opening_round logs mutators epoch honest fits = record {
  order = λ l. cond_both (l == 0) Open Free (λ (kind : Kind). false ≡ is_sealed kind) (λ _. refl) (λ _. refl);
  order_once = none_once;
  sealed = λ l h. absurd (false≢true h);
  collection_once = none_once;
  runs = refl;
  round = λ risen. absurd (false≢true risen);
  only = λ risen. absurd (false≢true risen);
  clear = λ leaves. absurd cc;
  later = λ marks. absurd cc;
  alone = λ _ j. refl;
  held = none_held (first_moment logs mutators epoch honest).core Idle [] (λ j. refl);
}

-- and the core has none
pub opening_strays : (logs mutators epoch : ℕ) (honest : Bool) → is_shape (shape_of logs mutators epoch) ≡ true → NoneStrays (first_moment logs mutators epoch honest)
opening_strays logs mutators epoch honest fits = no_round (first_moment logs mutators epoch honest) (λ l. refl)
