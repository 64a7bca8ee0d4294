-- What the device is, in each state that the words may be in.
use Rattle.std.proofs.Common.{◌≡◌, true, sym, ap, ◌∙◌}
use Rattle.far_events.specs.state.State.{State}
use Rattle.far_hand.specs.MayBe.{Shows}

pub honest_shown : (o x : State) → Shows o x → x.honest ≡ true → o.honest ≡ true
honest_shown o x shows h = sym (ap (λ (u : State). u.honest) shows.rest) ∙ h
