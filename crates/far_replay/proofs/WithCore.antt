-- Where no other log was opened, the sealed logs are those that there were.
use Rattle.std.proofs.Common.{◌≡◌, [], ◌∷◌, ◌++◌, ap, refl, if◌then◌else◌}
use Rattle.std.proofs.lemmas.Bool.{eq-eqb}
use Rattle.far_events.specs.state.State.{State}
use Rattle.far_replay.specs.Moment.{Moment, with_core}

pub same_order : (m : Moment) (t : State) → t.current ≡ m.core.current → (with_core m t).order ≡ m.order
same_order m t e = ap (λ b. if b then m.order else m.order ++ m.core.current ∷ []) (eq-eqb t.current m.core.current e)

pub same_core : (m : Moment) → with_core m m.core ≡ m
same_core m = ap (λ order. record m { order = order }) (same_order m m.core refl)

-- a moment by its parts
pub moment_joined : (m next : Moment) (t : State) → next.core ≡ t → next.order ≡ (with_core m t).order → next.phase ≡ m.phase → next.collection ≡ m.collection → next.copying ≡ m.copying → next ≡ with_core m t
moment_joined m next t core order phase held copying = λ i. record { core = core i; order = order i; phase = phase i; collection = held i; copying = copying i }
