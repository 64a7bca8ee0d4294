-- Each command that is told by events leaves a round alone, and so keeps what is true of a heap between two calls of the evacuator.
use Rattle.std.proofs.Common.{◌≡◌, ℕ, false, None, refl, sym, subst, ◌∙◌}
use Rattle.std.proofs.lemmas.Bool.{false≢true}
use Rattle.far_events.specs.state.Law.{Law}
use Rattle.far_evac.specs.Callers.{StepsAside}
use Rattle.far_evac.specs.MomentLaw.{MomentLaw}
use Rattle.far_evac.proofs.StepsAside.{steps_keep}
use Rattle.far_text.specs.Command.{Command, On, Use, Writes, Mutator}
use Rattle.far_replay.specs.Events.{IsNoStep}
use Rattle.far_replay.specs.Moment.{Moment, with_core}
use Rattle.far_replay.specs.Turn.{after_use, effect, refusal}
use Rattle.far_alone.specs.Dereference.{dereferenced}
use Rattle.far_replay.proofs.Asides.{close_aside, derefs_aside, epoch_aside, new_aside, same_aside, scope_aside, sought_aside, view_aside, without_aside, writes_aside}
use Rattle.far_replay.proofs.Ways.{by_way, may_reach, new_numbers}
use Rattle.far_replay.proofs.WithCore.{same_core}

-- the core that a command makes is all that it makes
pub told_effect : (now : Moment) (c : Command) → IsNoStep c → effect now c ≡ with_core now (effect now c).core
told_effect now c told = by_way now (λ d es (x : Moment). x ≡ with_core now x.core)
    (λ d. sym (same_core now))
    (λ m len ds p place e cell found. refl)
    (λ m shut. refl)
    (λ m shut. refl)
    (λ m opened. refl)
    (λ m p opened ours. refl)
    (λ m p how opened ours full. refl)
    (λ m p how e. refl)
    (λ m p within ours unheld. refl)
    c told

-- it leaves the round alone
use_aside : (now : Moment) (m p : ℕ) (how : Use) → Law now.core → refusal now (Mutator m (On p how)) ≡ None → StepsAside now.core (after_use (dereferenced now.core m p) p how)
use_aside now m p (Writes from bytes) law e = let h = may_reach now m p (Writes from bytes) e in writes_aside now.core m p from bytes law h.0 h.1 h.2
use_aside now m p how law e = let h = may_reach now m p how e in derefs_aside now.core m p law h.0 h.1 h.2

pub aside : (now : Moment) (c : Command) → IsNoStep c → Law now.core → StepsAside now.core (effect now c).core
aside now c told law = by_way now (λ d es (x : Moment). StepsAside now.core x.core)
    (λ d. same_aside now.core)
    (λ m len ds p place e cell found. let h = new_numbers now.core m len ds e in new_aside now.core m len ds p place law h.2 h.3 h.1 cell found)
    (λ m shut. scope_aside now.core m)
    (λ m shut. epoch_aside now.core m)
    (λ m opened. close_aside now.core m)
    (λ m p opened ours. view_aside now.core p)
    (λ m p how opened ours full. sought_aside now.core m p)
    (λ m p how e. use_aside now m p how law e)
    (λ m p within ours unheld. without_aside now.core m p)
    c told

-- ---- and keeps what is true between two calls
pub told_round : (now : Moment) (c : Command) → IsNoStep c → Law now.core → Law (effect now c).core → MomentLaw now → now.copying ≡ false → MomentLaw (effect now c)
told_round now c told law then moment alone =
    subst MomentLaw (sym (told_effect now c told)) (steps_keep now (effect now c).core law moment then (aside now c told law) (λ copies. absurd (false≢true (sym alone ∙ copies))))
