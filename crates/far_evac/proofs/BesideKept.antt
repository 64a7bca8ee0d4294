-- What each small step of an evacuation keeps where copies may be offered, the evacuation keeps.
use Rattle.std.proofs.Common.{◌≡◌, ℕ, zero, suc, Bool, true, false, cond, Option, Result, Ok, Err, List, [], ◌∷◌, inl, inr, ap, sym, refl, ◌∙◌, subst}
use Rattle.std.proofs.lemmas.Bool.{cond_both, false≢true}
use Rattle.std.specs.Prelude.{IfErr, IfOk}
use Rattle.far_word.specs.declared.refused.Refused.{Refused}
use Rattle.far_events.specs.state.State.{State}
use Rattle.far_device.specs.declared.fault.DeviceFault.{DeviceFault}
use Rattle.far_book.specs.book.Jobs.{has_job}
use Rattle.far_evac.specs.declared.phase.Phase.TheVariants.{Idle}
use Rattle.far_evac.specs.AnyHand.{KnowsWalked}
use Rattle.far_evac.specs.Beside.{At, Before, Behind, Dealing, End, EvacuatesBeside, OverLogs, OverObjects, StopsBeside, WalksBeside, WalksOver, by_end, dealt_by, freed_if, may_free}
use Rattle.far_evac.specs.ByCopying.{ByCopying, EvacuatesAsking, StopsRefused}
use Rattle.far_evac.specs.Live.{is_empty, live_in}
use Rattle.far_evac.specs.Moment.{Moment, Tally}
use Rattle.far_evac.specs.Walk.{Walked, ended, freed, is_done}

-- ---- by a truth value, and by where a walk ended
pub by_cond : {A B C : Type 0} (b : Bool) → (A → C) → (B → C) → cond b A B → C
by_cond true f g h = f h
by_cond false f g h = g h

map_cond : {A B C D : Type 0} (b : Bool) → (A → C) → (B → D) → cond b A B → cond b C D
map_cond true f g h = f h
map_cond false f g h = g h

pub by_ended : {A B C : Type 0} (at : End) → (A → C) → (B → C) → by_end at A B → C
by_ended Behind f g h = f h
by_ended Before f g h = g h
by_ended (At p why) f g h = g h

map_ended : {A B C D : Type 0} (at : End) → (A → C) → (B → D) → by_end at A B → by_end at C D
map_ended Behind f g h = f h
map_ended Before f g h = g h
map_ended (At p why) f g h = g h

-- ---- what an object that is dealt with keeps, and marks that are found, a walk over objects keeps; and what a log keeps that is given back, a walk over logs
module _ (P : Walked → Type 0) (learns : (w t : Walked) → KnowsWalked w t → P w → P t) (deals : (w : Walked) (p : ℕ) (d : Dealing) → P w → P (dealt_by w p d)) where
  module _ (D : Type 0) (Asks : State → ℕ → Dealing → D → D → Type 0) (Fails : State → ℕ → Refused → D → D → Type 0) where
    pub objects_kept : (ps : List ℕ) (n : ℕ) (w t : Walked) (more : ℕ) (end : End) (old new : D) → OverObjects D Asks Fails ps n w t more end old new → P w → P t
    objects_kept [] n w t more end old new (knows, _, _, _) h = learns w t knows h
    objects_kept (p ∷ ps) zero w t more end old new over h = by_cond (has_job w.moment.core p) (λ then. objects_kept ps zero w t more end old new then h) (λ stop. learns w t stop.0 h) over
    objects_kept (p ∷ ps) (suc n) w t more end old new over h = by_cond (has_job w.moment.core p) (λ then. objects_kept ps (suc n) w t more end old new then h)
        (λ one. elim one [
          | inl (v, u, between, knows, dealt, then) ↦ objects_kept ps n u t more end between new then (learns (dealt_by v p _) u dealt.known (deals v p _ (learns w v knows h)))
          | inr (v, why, knows, known, _, _, _) ↦ learns v t known (learns w v knows h)
        ])
        over

    module _ (frees : (w : Walked) (l : ℕ) → may_free w.moment.core l ≡ true → P w → P (freed w l)) where
      freed_kept : (w : Walked) (l : ℕ) → P w → P (freed_if w l)
      freed_kept w l h = cond_both (may_free w.moment.core l) (freed w l) w P (λ may. frees w l may h) (λ _. h)

      pub logs_kept : (ls : List ℕ) (n : ℕ) (w t : Walked) (kept : List ℕ) (end : End) (old new : D) → OverLogs D Asks Fails ls n w t kept end old new → P w → P t
      logs_kept [] n w t kept end old new (knows, _, _, _) h = learns w t knows h
      logs_kept (l ∷ ls) n w t kept end old new (v, u, more, at, between, knows, over, then) h =
          let here : P u = objects_kept (live_in v.moment.core l) n v u more at old between over (learns w v knows h) in
          by_ended at (λ (rest, on, _). logs_kept ls more (freed_if u l) t rest end between new on (freed_kept u l here)) (λ stop. subst P (sym stop.0) here) then

-- ---- whatever is asked of a device, the walk is the same
abbrev Nothing : State → ℕ → Dealing → Unit {0} → Unit {0} → Type 0
Nothing s p dealing old new = Unit {0}

abbrev Never : State → ℕ → Refused → Unit {0} → Unit {0} → Type 0
Never s p why old new = Unit {0}

abbrev Objects : List ℕ → ℕ → Walked → Walked → ℕ → End → Type 0
Objects ps n w t more end = OverObjects (Unit {0}) Nothing Never ps n w t more end tt tt

abbrev Logs : List ℕ → ℕ → Walked → Walked → List ℕ → End → Type 0
Logs ls n w t kept end = OverLogs (Unit {0}) Nothing Never ls n w t kept end tt tt

module _ (D : Type 0) (Asks : State → ℕ → Dealing → D → D → Type 0) (Fails : State → ℕ → Refused → D → D → Type 0) where
  objects_alone : (ps : List ℕ) (n : ℕ) (w t : Walked) (more : ℕ) (end : End) (old new : D) → OverObjects D Asks Fails ps n w t more end old new → Objects ps n w t more end
  objects_alone [] n w t more end old new (knows, many, is, _) = (knows, many, is, refl)
  objects_alone (p ∷ ps) zero w t more end old new over =
      map_cond (has_job w.moment.core p) (λ then. objects_alone ps zero w t more end old new then) (λ (knows, many, is, _). (knows, many, is, refl)) over
  objects_alone (p ∷ ps) (suc n) w t more end old new over = map_cond (has_job w.moment.core p) (λ then. objects_alone ps (suc n) w t more end old new then)
      (λ one. elim one [
        | inl (v, u, between, knows, dealt, then) ↦ inl (v, u, tt, knows, record { word = dealt.word; found = dealt.found; known = dealt.known; asks = tt }, objects_alone ps n u t more end between new then)
        | inr (v, why, knows, known, _, many, is) ↦ inr (v, why, knows, known, tt, many, is)
      ])
      over

  logs_alone : (ls : List ℕ) (n : ℕ) (w t : Walked) (kept : List ℕ) (end : End) (old new : D) → OverLogs D Asks Fails ls n w t kept end old new → Logs ls n w t kept end
  logs_alone [] n w t kept end old new (knows, none, is, _) = (knows, none, is, refl)
  logs_alone (l ∷ ls) n w t kept end old new (v, u, more, at, between, knows, over, then) = (
    v,
    u,
    more,
    at,
    tt,
    knows,
    objects_alone (live_in v.moment.core l) n v u more at old between over,
    map_ended at (λ (rest, on, is). (rest, logs_alone ls more (freed_if u l) t rest end between new on, is)) (λ (same, all, is, _). (same, all, is, refl)) then,
  )

  pub walks_alone : (m : Moment) (n : ℕ) (w : Walked) (end : End) (old new : D) → WalksBeside D Asks Fails m n w end old new → WalksOver m n w end
  walks_alone m n w end old new (u, t, kept, collects, over, is) = (u, t, kept, collects, logs_alone m.collection n u t kept end old new over, is)

-- ---- where nothing is ever refused, no walk stops at an object
behind_not : (q : ℕ) (why : Refused) → Behind ≡ At q why → ⊥
behind_not q why e = absurd cc

before_not : (q : ℕ) (why : Refused) → Before ≡ At q why → ⊥
before_not q why e = absurd cc

module _ (D : Type 0) (Asks : State → ℕ → Dealing → D → D → Type 0) where
  abbrev Nowhere : State → ℕ → Refused → D → D → Type 0
  Nowhere s p why old new = ⊥

  module _ (q : ℕ) (why : Refused) where
    objects_whole : (ps : List ℕ) (n : ℕ) (w t : Walked) (more : ℕ) (end : End) (old new : D) → OverObjects D Asks Nowhere ps n w t more end old new → end ≡ At q why → ⊥
    objects_whole [] n w t more end old new (_, _, is, _) e = behind_not q why (sym is ∙ e)
    objects_whole (p ∷ ps) zero w t more end old new over e =
        by_cond (has_job w.moment.core p) (λ then. objects_whole ps zero w t more end old new then e) (λ (_, _, is, _). before_not q why (sym is ∙ e)) over
    objects_whole (p ∷ ps) (suc n) w t more end old new over e = by_cond (has_job w.moment.core p) (λ then. objects_whole ps (suc n) w t more end old new then e)
        (λ one. elim one [
          | inl (v, u, between, _, _, then) ↦ objects_whole ps n u t more end between new then e
          | inr (v, because, _, _, odd, _, _) ↦ odd
        ])
        over

    logs_whole : (ls : List ℕ) (n : ℕ) (w t : Walked) (kept : List ℕ) (end : End) (old new : D) → OverLogs D Asks Nowhere ls n w t kept end old new → end ≡ At q why → ⊥
    logs_whole [] n w t kept end old new (_, _, is, _) e = behind_not q why (sym is ∙ e)
    logs_whole (l ∷ ls) n w t kept end old new (v, u, more, at, between, knows, over, then) e = by_ended at (λ (rest, on, _). logs_whole ls more (freed_if u l) t rest end between new on e)
        (λ (_, _, stops, _). objects_whole (live_in v.moment.core l) n v u more at old between over (sym stops ∙ e)) then

  pub walks_whole : (m : Moment) (n : ℕ) (w : Walked) (end : End) (old new : D) → WalksBeside D Asks Nowhere m n w end old new → (q : ℕ) (why : Refused) → end ≡ At q why → ⊥
  walks_whole m n w end old new (u, t, kept, _, over, _) q why = logs_whole q why m.collection n u t kept end old new over

-- ---- a call, without its device
held_at_end : (w : Walked) → (ended w).collection ≡ w.moment.collection
held_at_end w = cond_both (is_done w) (record w.moment { phase = Idle }) w.moment (λ (t : Moment). t.collection ≡ w.moment.collection) (λ _. refl) (λ _. refl)

module _ (D : Type 0) (writes : D → ℕ → List ℕ → Result (Unit {0}) DeviceFault → D → Type 0) (lets_go : D → ℕ → D → Type 0) (contents : D → ℕ → Option (List ℕ)) (m : Moment) (n : ℕ) (t : Moment) (tally : Tally) (old new : D) where
  pub evacuates_alone : EvacuatesAsking D writes lets_go contents m n t tally old new → (done : Bool) → done ≡ is_empty t.collection → EvacuatesBeside m n t tally done
  evacuates_alone h done over = record {
    stood = h.stood;
    end = h.end;
    walks = walks_alone D _ _ m n h.stood h.end old new h.walks;
    whole = walks_whole D _ m n h.stood h.end old new h.walks;
    ends = h.ends;
    counts = h.counts;
    over = over ∙ ap is_empty (ap (λ (x : Moment). x.collection) h.ends ∙ held_at_end h.stood);
  }

  pub stops_alone : (why : Refused) → StopsRefused D writes lets_go contents m n t tally why old new → StopsBeside m n t tally
  stops_alone why h = record {
    stood = h.stood;
    next = h.next;
    why = why;
    walks = walks_alone D _ _ m n h.stood (At h.next why) old new h.walks;
    stops = h.stops;
    counts = h.counts;
  }

-- ---- answers
pub ok_both : {A E : Type 0} (P Q R : A → Type 0) (r : Result A E) → ((x : A) → P x → Q x → R x) → IfOk r P → IfOk r Q → IfOk r R
ok_both P Q R (Ok x) f h g = f x h g
ok_both P Q R (Err why) f h g = tt

pub ok_one : {A E : Type 0} (P R : A → Type 0) (r : Result A E) → ((x : A) → P x → R x) → IfOk r P → IfOk r R
ok_one P R (Ok x) f h = f x h
ok_one P R (Err why) f h = tt

pub err_one : {A E : Type 0} (P R : E → Type 0) (r : Result A E) → ((why : E) → P why → R why) → IfErr r P → IfErr r R
err_one P R (Ok x) f h = tt
err_one P R (Err why) f h = f why h

-- ---- by whether copies may be offered
module _ {A B : Type 0} {copying : Bool} where
  pub alone_so : copying ≡ false → A → ByCopying copying A B
  alone_so alone h = record { alone = λ _. h; beside = λ odd. absurd (false≢true (sym alone ∙ odd)) }

  pub beside_so : copying ≡ true → B → ByCopying copying A B
  beside_so copies h = record { alone = λ odd. absurd (false≢true (sym odd ∙ copies)); beside = λ _. h }
