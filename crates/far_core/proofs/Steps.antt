-- Each step makes its step of the world, with its reply, and keeps views on what they may rest on.
use Rattle.std.proofs.Common.{Bool, List, [], ap, cond, false, true, refl, subst, sym, ◌++◌, ◌/◌, ◌∙◌, ◌∷◌, ◌≡◌}
use Rattle.std.proofs.lemmas.Bool.{cond_both, false_from_ne_true}
use Rattle.std.specs.Prelude.{map}
use Rattle.far_events.proofs.Cells.{held_near}
use Rattle.far_core.proofs.Keeps.{step_keeps}
use Rattle.far_core.proofs.Owing.{is_fact, is_test, does, never_refused}
use Rattle.far_core.specs.state.Agrees.{Agrees}
use Rattle.far_core.specs.world.Happens.{Happens}
use Rattle.far_events.specs.state.Law.{Law}
use Rattle.far_events.specs.events.Legal.{Legal}
use Rattle.far_core.specs.world.Runs.{Leads, Passes, Runs}
use Rattle.far_events.specs.state.State.{State}
use Rattle.far_events.specs.events.Step.{Fits, after, answer, is_legal, step_of}
use Rattle.far_core.specs.world.WorldOf.{world_of}
use Rattle.far_events.specs.declared.event.Event.{Event}
use Rattle.far_events.specs.declared.event.Reply.{Reply}
use Rattle.far_events.specs.declared.event.Reply.TheVariants.{Refused}
use Rattle.far_word.specs.declared.sizes.TheConstants.{CELLS}

-- ---- views rest on what the law says
pub agrees : (s : State) → Law s → Agrees s
agrees s law = record {
  opened = λ p place h. let opened = law.views.held_open p (rw h refl) in (law.scopes.scope_range (p / CELLS) opened, opened);
  names = λ p place h. let x = held_near _ place (law.views.held_names p place h) in (x.len, x.ds, x.marks, x.near, x.unmoved, x.kept);
  uses = law.views.used_cell;
}

pub step_does : (s : State) (e : Event) → Law s → Fits e → Happens (world_of s) e (step_of s e).1 (world_of (step_of s e).0)
step_does s e law fits = cond_both (is_legal s e) _ _ (λ (x : State × Reply). Happens (world_of s) e x.1 (world_of x.0)) (λ h. does s e law fits (is_fact s e law h)) (λ _. refl)

-- ---- one step that was made
module _ (s t : State) (r : Reply) (e : Event) (law : Law s) (fits : Fits e) (is : (t, r) ≡ step_of s e) where
  pub passes : Passes s e r t
  passes =
      let after : Law t = subst (λ (x : State × Reply). Law x.0) (sym is) (step_keeps s e law fits) in
      record { step = is; law = after; agrees = agrees t after }

  pub happens : Happens (world_of s) e r (world_of t)
  happens = subst (λ (x : State × Reply). Happens (world_of s) e x.1 (world_of x.0)) (sym is) (step_does s e law fits)

  pub made : Legal s e → (t ≡ after s e) × (r ≡ answer s e)
  made h = let both : (t, r) ≡ (after s e, answer s e) = is ∙ ap (λ b. cond b (after s e, answer s e) (s, Refused)) (is_test s e h) in (ap (λ x. x.0) both, ap (λ x. x.1) both)

  pub turned : ¬ (Legal s e) → (t ≡ s) × (r ≡ Refused)
  turned h = let both : (t, r) ≡ (s, Refused) = is ∙ ap (λ b. cond b (after s e, answer s e) (s, Refused)) (not_legal h) in (ap (λ x. x.0) both, ap (λ x. x.1) both) where
    not_legal : ¬ (Legal s e) → is_legal s e ≡ false
    not_legal no_way = false_from_ne_true (is_legal s e) (λ yes. no_way (is_fact s e law yes))

-- ---- one step that was made where it could be told, and refused where not
module _ (s t : State) (r : Reply) (e : Event) (law : Law s) where
  pub happens_told : (told : Bool) → (told ≡ true → Fits e) → (told ≡ true → (t, r) ≡ step_of s e) → (told ≡ false → (t ≡ s) × (r ≡ Refused)) → Happens (world_of s) e r (world_of t)
  happens_told true fits is un = happens s t r e law (fits refl) (is refl)
  happens_told false fits is un =
      let both : (s, Refused) ≡ (t, r) = (λ i. (sym (un refl).0 i, sym (un refl).1 i)) in
      subst (λ (x : State × Reply). Happens (world_of s) e x.1 (world_of x.0)) both refl

module _ (s t : State) (r : Reply) (e : Event) (law : Law s) (fits : Fits e) (is : (t, r) ≡ step_of s e) where
  -- a reply Refused says that the event wasn't legal
  pub made_only : r ≡ Refused → ¬ (Legal s e)
  made_only h legal = never_refused s e (sym (made s t r e law fits is legal).1 ∙ h)

-- ---- whole runs
pub leads_more : (s : State) (es : List Event) (rs : List Reply) (us : List State) (e : Event) (r : Reply) (t u : State) →
    Leads s es rs us t → Passes t e r u → Leads s (es ++ e ∷ []) (rs ++ r ∷ []) (us ++ u ∷ []) u
leads_more s [] [] [] e r t u h k = (subst (λ x. Passes x e r u) h k, refl)
leads_more s [] [] (v ∷ us) e r t u h k = absurd h
leads_more s [] (q ∷ rs) us e r t u h k = absurd h
leads_more s (d ∷ es) [] us e r t u h k = absurd h
leads_more s (d ∷ es) (q ∷ rs) [] e r t u h k = absurd h
leads_more s (d ∷ es) (q ∷ rs) (v ∷ us) e r t u h k = (h.0, leads_more v es rs us e r t u h.1 k)

-- the worlds of the states run on with them
pub runs_more : (s : State) (es : List Event) (rs : List Reply) (us : List State) (e : Event) (r : Reply) (t u : State) →
    Leads s es rs us t → Runs (world_of s) es rs (map world_of us) → Happens (world_of t) e r (world_of u) → Runs (world_of s) (es ++ e ∷ []) (rs ++ r ∷ []) (map world_of (us ++ u ∷ []))
runs_more s [] [] [] e r t u h w k = (subst (λ x. Happens (world_of x) e r (world_of u)) h k, tt)
runs_more s [] [] (v ∷ us) e r t u h w k = absurd h
runs_more s [] (q ∷ rs) us e r t u h w k = absurd h
runs_more s (d ∷ es) [] us e r t u h w k = absurd h
runs_more s (d ∷ es) (q ∷ rs) [] e r t u h w k = absurd h
runs_more s (d ∷ es) (q ∷ rs) (v ∷ us) e r t u h w k = (w.0, runs_more v es rs us e r t u h.1 w.1 k)

-- a step by what is known of its event
pub step_made : (s t : State) (r : Reply) (e : Event) → is_legal s e ≡ true → t ≡ after s e → r ≡ answer s e → (t, r) ≡ step_of s e
step_made s t r e legal is says = (λ i. (is i, says i)) ∙ ap (λ (b : Bool). cond b (after s e, answer s e) (s, Refused)) (sym legal)

pub step_not : (s : State) (e : Event) → Law s → ¬ (Legal s e) → (s, Refused) ≡ step_of s e
step_not s e law illegal = ap (λ (b : Bool). cond b (after s e, answer s e) (s, Refused)) (sym (false_from_ne_true (is_legal s e) (λ h. illegal (is_fact s e law h))))
