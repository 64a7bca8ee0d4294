-- Events made one after the other: parts put together, and the law that they keep.
use Rattle.std.proofs.Common.{◌≡◌, ◌≢◌, ℕ, true, cond, refl, sym, ap, subst, List, [], ◌∷◌, ◌++◌}
use Rattle.std.proofs.lemmas.Bool.{cond_both}
use Rattle.far_events.specs.declared.event.Event.{Event}
use Rattle.far_events.specs.declared.event.Event.TheVariants.{Load}
use Rattle.far_events.specs.declared.event.Reply.{Reply}
use Rattle.far_events.specs.declared.event.Reply.TheVariants.{Refused}
use Rattle.far_events.specs.state.Law.{Law}
use Rattle.far_events.specs.state.State.{State}
use Rattle.far_events.specs.events.Step.{step_of, is_legal, after, answer, Fits}
use Rattle.far_core.proofs.Keeps.{step_keeps}
use Rattle.far_events.specs.events.Ranges.{after_events}
use Rattle.far_alone.specs.EventRows.{Succeeds, AllSucceed, ComesToPass, AllComeToPass}
use Rattle.std.specs.List.{AllByRecursion as Each}

-- the state after two rows of events
pub made-append : (s : State) (es fs : List Event) → after_events s (es ++ fs) ≡ after_events (after_events s es) fs
made-append s [] fs = refl
made-append s (e ∷ es) fs = made-append (step_of s e).0 es fs

-- two rows of events succeed, if the first does, and the second does from where the first leads
pub AllSucceed-append : (s : State) (es fs : List Event) → AllSucceed s es → AllSucceed (after_events s es) fs → AllSucceed s (es ++ fs)
AllSucceed-append s [] fs a b = b
AllSucceed-append s (e ∷ es) fs a b = (a.0, AllSucceed-append (step_of s e).0 es fs a.1 b)

-- what two rows succeed in, each does
pub AllSucceed-parts : (s : State) (es fs : List Event) → AllSucceed s (es ++ fs) → AllSucceed s es × AllSucceed (after_events s es) fs
AllSucceed-parts s [] fs h = (tt, h)
AllSucceed-parts s (e ∷ es) fs h = let rest = AllSucceed-parts (step_of s e).0 es fs h.1 in ((h.0, rest.0), rest.1)

-- so it is with what they are for
pub AllComeToPass-append : (s : State) (es fs : List Event) → AllComeToPass s es → AllComeToPass (after_events s es) fs → AllComeToPass s (es ++ fs)
AllComeToPass-append s [] fs a b = b
AllComeToPass-append s (e ∷ es) fs a b = (a.0, AllComeToPass-append (step_of s e).0 es fs a.1 b)

pub AllComeToPass-parts : (s : State) (es fs : List Event) → AllComeToPass s (es ++ fs) → AllComeToPass s es × AllComeToPass (after_events s es) fs
AllComeToPass-parts s [] fs h = (tt, h)
AllComeToPass-parts s (e ∷ es) fs h = let rest = AllComeToPass-parts (step_of s e).0 es fs h.1 in ((h.0, rest.0), rest.1)

-- another answer than a refusal
pub not_refused : (e : Event) (r : Reply) → r ≢ Refused → Succeeds e r
not_refused e Refused ne = absurd (ne refl)
not_refused e r ne = tt

-- a legal event is made
pub legal_step : (s : State) (e : Event) → is_legal s e ≡ true → step_of s e ≡ (after s e, answer s e)
legal_step s e h = ap (λ b. cond b (after s e, answer s e) (s, Refused)) h

-- the state after a row that begins with a legal event
pub made_first : (s : State) (e : Event) (es : List Event) → is_legal s e ≡ true → after_events s (e ∷ es) ≡ after_events (after s e) es
made_first s e es h = ap (λ (x : State × Reply). after_events x.0 es) (legal_step s e h)

-- a row succeeds that begins with a legal event, if its answer is what it is for, and the rest succeeds
pub first_succeeds : (s : State) (e : Event) (es : List Event) → is_legal s e ≡ true → Succeeds e (answer s e) → AllSucceed (after s e) es → AllSucceed s (e ∷ es)
first_succeeds s e es h here rest = subst (λ (x : State × Reply). Succeeds e x.1 × AllSucceed x.0 es) (sym (legal_step s e h)) (here, rest)

-- and so what it is for comes to pass
pub first_comes : (s : State) (e : Event) (es : List Event) → is_legal s e ≡ true → ComesToPass e (answer s e) → AllComeToPass (after s e) es → AllComeToPass s (e ∷ es)
first_comes s e es h here rest = subst (λ (x : State × Reply). ComesToPass e x.1 × AllComeToPass x.0 es) (sym (legal_step s e h)) (here, rest)

-- events keep the law
pub made_law : (s : State) (es : List Event) → Law s → Each Fits es → Law (after_events s es)
made_law s [] law fit = law
made_law s (e ∷ es) law fit = made_law (step_of s e).0 es (step_keeps s e law fit.0) fit.1

-- a load leaves the state
pub load_stays : (s : State) (m p i : ℕ) → (step_of s (Load m p i)).0 ≡ s
load_stays s m p i = cond_both (is_legal s (Load m p i)) _ _ (λ (x : State × Reply). x.0 ≡ s) (λ _. refl) (λ _. refl)
