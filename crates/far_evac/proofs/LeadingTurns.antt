-- Turns lead by legal events, and so does a whole round.
use Rattle.std.proofs.Common.{◌≡◌, ℕ, zero, suc, true, false, [], ◌∷◌, sym, refl, subst, ◌∙◌}
use Rattle.std.proofs.lemmas.Bool.{cond_both}
use Rattle.far_events.specs.state.Law.{Law}
use Rattle.far_book.proofs.region.Reaching.{reached_more}
use Rattle.far_evac.specs.declared.phase.Phase.{Phase}
use Rattle.far_evac.specs.declared.phase.Phase.TheVariants.{Idle, Marking, Waiting, Evacuating}
use Rattle.far_evac.specs.Choosing.{after_selecting}
use Rattle.far_evac.specs.Leading.{Leads, RoundLeads, TurnsLead}
use Rattle.far_evac.specs.Moment.{Moment}
use Rattle.far_evac.specs.MomentLaw.{MomentLaw, is_idle}
use Rattle.far_evac.specs.Turns.{Turned, begun_turns, turn_size, turned, turns_made}
use Rattle.far_evac.proofs.Leading.{polling, reached_none, selecting}
use Rattle.far_evac.proofs.LeadingMarks.{marking}
use Rattle.far_evac.proofs.LeadingWalks.{walking}

leads_none : (m : Moment) → Law m.core → MomentLaw m → Leads m m
leads_none m law moment = record { reached = reached_none m.core; law = law; moment = moment; copying = refl }

leads_more : (m t u : Moment) → Leads m t → Leads t u → Leads m u
leads_more m t u a b = record { reached = reached_more m.core t.core u.core a.reached b.reached; law = b.law; moment = b.moment; copying = b.copying ∙ a.copying }

pub turn_leads : (r : Turned) → Law r.moment.core → MomentLaw r.moment → r.moment.copying ≡ false → (phase : Phase) → r.moment.phase ≡ phase → Leads r.moment (turned r phase).moment
turn_leads r law moment alone Idle e = leads_none r.moment law moment
turn_leads r law moment alone Marking e = marking r.moment turn_size law moment e
turn_leads r law moment alone Waiting e = polling r.moment law moment e
turn_leads r law moment alone Evacuating e = (walking r.moment turn_size law moment alone e).answer

pub turns_lead : TurnsLead
turns_lead m zero law moment alone runs = leads_none m law moment
turns_lead m (suc n) law moment alone runs =
    let r = turns_made m n in
    let h = turns_lead m n law moment alone runs in
    cond_both r.over r (turned r r.moment.phase) (λ (x : Turned). Leads m x.moment) (λ _. h)
    (λ _. leads_more m r.moment (turned r r.moment.phase).moment h (turn_leads r h.law h.moment (h.copying ∙ alone) r.moment.phase refl))

-- ---- what holds of turns one after the other: each is made where both laws hold, unless the round is over
pub through_turns : (P : ℕ → Turned → Type 0) (m : Moment) → Law m.core → MomentLaw m → m.copying ≡ false → is_idle m.phase ≡ false → P 0 (begun_turns m) → ((n : ℕ) (r : Turned) → r.over ≡ true → P n r → P (suc n) r) →
    ((n : ℕ) (r : Turned) → Law r.moment.core → MomentLaw r.moment → r.moment.copying ≡ false → r.over ≡ false → P n r → P (suc n) (turned r r.moment.phase)) → (n : ℕ) → P n (turns_made m n)
through_turns P m law moment alone runs first stays more zero = first
through_turns P m law moment alone runs first stays more (suc n) =
    let r = turns_made m n in
    let leads = turns_lead m n law moment alone runs in
    let h = through_turns P m law moment alone runs first stays more n in
    cond_both r.over r (turned r r.moment.phase) (P (suc n)) (λ over. stays n r over h) (λ goes. more n r leads.law leads.moment (leads.copying ∙ alone) goes h)

pub round_leads : RoundLeads
round_leads m [] turns end t law moment alone idle left once of_order is = subst (Leads m) (sym is.1) (leads_none m law moment)
round_leads m (l ∷ ls) turns end t law moment alone idle left once of_order is =
    let begun = selecting m (l ∷ ls) law moment idle left once of_order in
    let u = after_selecting m (l ∷ ls) in
    subst (Leads m) (sym is.1) (leads_more m u (turns_made u turns).moment begun (turns_lead u turns begun.law begun.moment alone refl))
