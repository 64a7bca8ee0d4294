-- The logs of the core's round are the chosen ones.
use Rattle.std.proofs.Common.{◌≡◌, ℕ, true, ap, sym, ◌∙◌}
use Rattle.std.specs.Prelude.{◌↔◌}
use Rattle.far_evac.specs.MomentLaw.{MomentLaw, has_risen}
use Rattle.far_evac.specs.RoundSteps.{among}
use Rattle.far_replay_laws.specs.Chosen.{RoundsAreChosen}
use Rattle.far_replay.specs.Moment.{Moment}
use Rattle.far_replay_laws.specs.Steps.{IsChosen, LiesIn}
use Rattle.far_replay.proofs.Lasting.{Lasts, moment_lasts}
use Rattle.far_replay_laws.proofs.StepsTell.{held_chosen}
use Rattle.far_replay.proofs.Strays.{chosen_held}

risen_chosen : (now : Moment) → MomentLaw now → has_risen now.phase ≡ true → (l : ℕ) → (now.core.round l ≡ true) ↔ IsChosen now l
risen_chosen now moment risen l = (λ is. held_chosen now moment l (moment.only risen l is), λ chosen. moment.round risen l (chosen_held (among now.collection l) (now.core.kind l) chosen))

lies_chosen : (now : Moment) → Lasts now → (p l : ℕ) → now.core.round l ≡ true → LiesIn now.core p l → IsChosen now l
lies_chosen now lasts p l in_it (len, ds, place, marks, near, log) =
    held_chosen now lasts.round l (ap (among now.collection) (sym log) ∙ lasts.strays p len ds place marks near (ap now.core.round log ∙ in_it))

pub rounds_are_chosen : RoundsAreChosen
rounds_are_chosen now is =
    let lasts = moment_lasts now is in
    record { waits = λ e. risen_chosen now lasts.round (ap has_risen e); leaves = λ e. risen_chosen now lasts.round (ap has_risen e); lies = lies_chosen now lasts }
