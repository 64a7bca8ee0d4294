-- A walk over logs where copies may be offered: log after log, and what holds of it whatever a device is asked.
use Rattle.std.proofs.Common.{◌≡◌, ◌≢◌, ◌++◌, ◌⊎◌, ℕ, zero, suc, Bool, true, false, cond, List, [], ◌∷◌, inl, inr, ap, sym, refl, ◌∙◌, subst}
use Rattle.std.proofs.lemmas.List.{append_assoc, append-nil}
use Rattle.far_word.specs.declared.refused.Refused.{Refused}
use Rattle.far_events.specs.state.State.{State}
use Rattle.far_book.specs.book.Jobs.{has_job}
use Rattle.far_evac.specs.AnyHand.{KnowsWalked}
use Rattle.far_evac.specs.Beside.{At, Before, Behind, Dealing, DealsBeside, End, OverLogs, OverObjects, by_end, freed_if, kept_if, may_free}
use Rattle.far_evac.specs.Live.{is_empty, live_in}
use Rattle.far_evac.specs.Walk.{Walked}
use Rattle.far_evac.proofs.BesideOver.{then_known}
use Rattle.far_evac.proofs.Walks.{walked_same}

-- ---- where a walk ends
pub stops_at : (at : End) (Goes Stops : Type 0) → at ≢ Behind → Stops → by_end at Goes Stops
stops_at Behind Goes Stops other h = absurd (other refl)
stops_at Before Goes Stops other h = h
stops_at (At p why) Goes Stops other h = h

pub not_behind_at : (p : ℕ) (why : Refused) → At p why ≢ Behind
not_behind_at p why e = absurd cc

-- ---- which logs are kept
kept_front : (b : Bool) (kept rest : List ℕ) (l : ℕ) → kept ++ cond b rest (l ∷ rest) ≡ cond b kept (kept ++ l ∷ []) ++ rest
kept_front true kept rest l = refl
kept_front false kept rest l = sym (append_assoc kept (l ∷ []) rest)

module _ (D : Type 0) (Asks : State → ℕ → Dealing → D → D → Type 0) (Fails : State → ℕ → Refused → D → D → Type 0) where
  -- ---- marks that are found before a walk are found on it
  pub logs_more : (ls : List ℕ) (n : ℕ) (w u t : Walked) (kept : List ℕ) (e : End) (old new : D) → KnowsWalked w u → OverLogs D Asks Fails ls n u t kept e old new → OverLogs D Asks Fails ls n w t kept e old new
  logs_more [] n w u t kept e old new k (knows, none, end, same) = (then_known w u t k knows, none, end, same)
  logs_more (l ∷ ls) n w u t kept e old new k (v, x, more, at, between, knows, objects, rest) = (v, x, more, at, between, then_known w u v k knows, objects, rest)

  -- ---- a walk over these logs goes on where such a one over its rest does
  abbrev pub GoesOn : List ℕ → ℕ → Walked → List ℕ → List ℕ → ℕ → Walked → D → D → Type 0
  GoesOn all n w kept ls left v old now = (t : Walked) (rest : List ℕ) (e : End) (new : D) → OverLogs D Asks Fails ls left v t rest e now new → OverLogs D Asks Fails all n w t (kept ++ rest) e old new

  pub goes_first : (all : List ℕ) (n : ℕ) (w : Walked) (kept : List ℕ) (old : D) → kept ≡ [] → GoesOn all n w kept all n w old old
  goes_first all n w kept old none t rest e new h = subst (λ ks. OverLogs D Asks Fails all n w t (ks ++ rest) e old new) (sym none) h

  module _ (all : List ℕ) (n : ℕ) (w : Walked) (kept : List ℕ) (l : ℕ) (ls : List ℕ) (left : ℕ) (v : Walked) (old now : D) (goes : GoesOn all n w kept (l ∷ ls) left v old now)
      (x u : Walked) (more : ℕ) (mid : D) (knows : KnowsWalked v x) where
    -- a log was walked over, and was given back or kept
    pub goes_next : OverObjects D Asks Fails (live_in x.moment.core l) left x u more Behind now mid → (y : Walked) (next : List ℕ) → KnowsWalked (freed_if u l) y → next ≡ cond (may_free u.moment.core l) kept (kept ++ l ∷ []) →
        GoesOn all n w next ls more y old mid
    goes_next objects y next known is t rest e new h =
        subst (λ ks. OverLogs D Asks Fails all n w t ks e old new) (kept_front (may_free u.moment.core l) kept rest l ∙ ap (λ ks. ks ++ rest) (sym is))
        (goes t (kept_if u l rest) e new (x, u, more, Behind, mid, knows, objects, (rest, logs_more ls more (freed_if u l) y t rest e mid new known h, refl)))

    -- the walk stops in it
    pub goes_stop : (at : End) → at ≢ Behind → OverObjects D Asks Fails (live_in x.moment.core l) left x u more at now mid → OverLogs D Asks Fails all n w u (kept ++ l ∷ ls) at old mid
    goes_stop at other objects =
        goes u (l ∷ ls) at mid (
          x,
          u,
          more,
          at,
          mid,
          knows,
          objects,
          stops_at at ((rest : List ℕ) × OverLogs D Asks Fails ls more (freed_if u l) u rest at mid mid × (l ∷ ls ≡ kept_if u l rest)) ((u ≡ u) × (l ∷ ls ≡ l ∷ ls) × (at ≡ at) × (mid ≡ mid)) other (refl, refl, refl, refl),
        )

  -- no log is left
  pub goes_end : (all : List ℕ) (n : ℕ) (w : Walked) (kept ls : List ℕ) (left : ℕ) (v : Walked) (old now : D) → ls ≡ [] → GoesOn all n w kept ls left v old now → OverLogs D Asks Fails all n w v kept Behind old now
  goes_end all n w kept ls left v old now none goes =
      subst (λ ks. OverLogs D Asks Fails all n w v ks Behind old now) (append-nil kept)
      (goes v [] Behind now (subst (λ ks. OverLogs D Asks Fails ks left v v [] Behind now now) (sym none) (walked_same v, refl, refl, refl)))

  -- ---- a walk that has stopped keeps a log
  some_front : (b : Bool) (l : ℕ) (rest : List ℕ) → is_empty rest ≡ false → is_empty (cond b rest (l ∷ rest)) ≡ false
  some_front true l rest h = h
  some_front false l rest h = refl

  pub some_kept : (ls : List ℕ) (n : ℕ) (w t : Walked) (kept : List ℕ) (e : End) (old new : D) → OverLogs D Asks Fails ls n w t kept e old new → e ≢ Behind → is_empty kept ≡ false
  some_kept [] n w t kept e old new (knows, none, end, same) other = absurd (other end)
  some_kept (l ∷ ls) n w t kept e old new (v, u, more, Behind, between, knows, objects, (rest, over, is)) other =
      ap is_empty is ∙ some_front (may_free u.moment.core l) l rest (some_kept ls more (freed_if u l) t rest e between new over other)
  some_kept (l ∷ ls) n w t kept e old new (v, u, more, Before, between, knows, objects, (ends, is, end, same)) other = ap is_empty is
  some_kept (l ∷ ls) n w t kept e old new (v, u, more, At p why, between, knows, objects, (ends, is, end, same)) other = ap is_empty is

-- ---- what is said of a device is another thing
module _ (D : Type 0) (Asks : State → ℕ → Dealing → D → D → Type 0) (Fails : State → ℕ → Refused → D → D → Type 0)
    (E : Type 0) (Asks' : State → ℕ → Dealing → E → E → Type 0) (Fails' : State → ℕ → Refused → E → E → Type 0)
    (to : D → E) (asks : (s : State) (p : ℕ) (d : Dealing) (a b : D) → Asks s p d a b → Asks' s p d (to a) (to b)) where
  deals_to : (w : Walked) (p : ℕ) (t : Walked) (old new : D) → DealsBeside D Asks w p t old new → DealsBeside E Asks' w p t (to old) (to new)
  deals_to w p t old new h = record { word = h.word; found = h.found; known = h.known; asks = asks _ _ _ _ _ h.asks }

  -- an object may be refused only where the walk ends so
  module _ (end : End) (fails : (s : State) (p : ℕ) (why : Refused) (a b : D) → end ≡ At p why → Fails s p why a b → Fails' s p why (to a) (to b)) where
    none_to : (b : Bool) (w t : Walked) (more : ℕ) (old new : D) → {Rest Rest' : Type 0} → (Rest → Rest') → cond b Rest (KnowsWalked w t × (more ≡ 0) × (end ≡ Before) × (new ≡ old)) →
        cond b Rest' (KnowsWalked w t × (more ≡ 0) × (end ≡ Before) × (to new ≡ to old))
    none_to true w t more old new on h = on h
    none_to false w t more old new on (knows, none, ends, same) = (knows, none, ends, ap to same)

    some_to : (b : Bool) (p : ℕ) (ps : List ℕ) (n : ℕ) (w t : Walked) (more : ℕ) (old new : D) → {Rest Rest' : Type 0} → (Rest → Rest') →
        ((u : Walked) (between : D) → OverObjects D Asks Fails ps n u t more end between new → OverObjects E Asks' Fails' ps n u t more end (to between) (to new)) →
        cond b Rest (((v u : Walked) × (between : D) × KnowsWalked w v × DealsBeside D Asks v p u old between × OverObjects D Asks Fails ps n u t more end between new)
        ⊎ ((v : Walked) × (why : Refused) × KnowsWalked w v × KnowsWalked v t × Fails v.moment.core p why old new × (more ≡ suc n) × (end ≡ At p why))) →
        cond b Rest' (((v u : Walked) × (between : E) × KnowsWalked w v × DealsBeside E Asks' v p u (to old) between × OverObjects E Asks' Fails' ps n u t more end between (to new))
        ⊎ ((v : Walked) × (why : Refused) × KnowsWalked w v × KnowsWalked v t × Fails' v.moment.core p why (to old) (to new) × (more ≡ suc n) × (end ≡ At p why)))
    some_to true p ps n w t more old new on then h = on h
    some_to false p ps n w t more old new on then (inl (v, u, between, knows, deals, rest)) = inl (v, u, to between, knows, deals_to v p u old between deals, then u between rest)
    some_to false p ps n w t more old new on then (inr (v, why, knows, next, failed, left, ends)) = inr (v, why, knows, next, fails v.moment.core p why old new ends failed, left, ends)

    pub objects_to : (ps : List ℕ) (n : ℕ) (w t : Walked) (more : ℕ) (old new : D) → OverObjects D Asks Fails ps n w t more end old new → OverObjects E Asks' Fails' ps n w t more end (to old) (to new)
    objects_to [] n w t more old new (knows, is, ends, same) = (knows, is, ends, ap to same)
    objects_to (p ∷ ps) zero w t more old new h = none_to (has_job w.moment.core p) w t more old new (objects_to ps zero w t more old new) h
    objects_to (p ∷ ps) (suc n) w t more old new h = some_to (has_job w.moment.core p) p ps n w t more old new (objects_to ps (suc n) w t more old new) (λ u between. objects_to ps n u t more between new) h

  module _ (end : End) (fails : (s : State) (p : ℕ) (why : Refused) (a b : D) → end ≡ At p why → Fails s p why a b → Fails' s p why (to a) (to b)) where
    pub logs_to : (ls : List ℕ) (n : ℕ) (w t : Walked) (kept : List ℕ) (old new : D) → OverLogs D Asks Fails ls n w t kept end old new → OverLogs E Asks' Fails' ls n w t kept end (to old) (to new)
    logs_to [] n w t kept old new (knows, none, ends, same) = (knows, none, ends, ap to same)
    logs_to (l ∷ ls) n w t kept old new (v, u, more, Behind, between, knows, objects, (rest, over, is)) = (
      v,
      u,
      more,
      Behind,
      to between,
      knows,
      objects_to Behind (λ s p why a b odd _. absurd (not_behind_at p why (sym odd))) (live_in v.moment.core l) n v u more old between objects,
      (rest, logs_to ls more (freed_if u l) t rest between new over, is),
    )
    logs_to (l ∷ ls) n w t kept old new (v, u, more, Before, between, knows, objects, (ends, is, end_is, same)) = (
      v,
      u,
      more,
      Before,
      to between,
      knows,
      objects_to Before (λ s p why a b odd failed. fails s p why a b (end_is ∙ odd) failed) (live_in v.moment.core l) n v u more old between objects,
      (ends, is, end_is, ap to same),
    )
    logs_to (l ∷ ls) n w t kept old new (v, u, more, At q cause, between, knows, objects, (ends, is, end_is, same)) = (
      v,
      u,
      more,
      At q cause,
      to between,
      knows,
      objects_to (At q cause) (λ s p why a b odd failed. fails s p why a b (end_is ∙ odd) failed) (live_in v.moment.core l) n v u more old between objects,
      (ends, is, end_is, ap to same),
    )
