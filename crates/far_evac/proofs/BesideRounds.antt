-- Which logs are in the round after an evacuation where copies may be offered; and what it leaves of the round's record.
use Rattle.std.proofs.Common.{◌≡◌, ◌≢◌, ◌||◌, ℕ, zero, suc, Bool, true, false, cond, Option, Some, None, List, [], ◌∷◌, eqb, inl, inr, ap, sym, refl, ◌∙◌}
use Rattle.std.proofs.lemmas.Bool.{cases_eq, eq-eqb, false≢true, ne_eqb}
use Rattle.far_word.specs.declared.job.Job.{Job}
use Rattle.far_word.specs.declared.pointer.Place.{Place}
use Rattle.far_word.specs.declared.pointer.PtrWord.{PtrWord}
use Rattle.far_word.specs.declared.pointer.PtrWord.TheVariants.{Free, Near, Far}
use Rattle.far_word.specs.declared.refused.Refused.{Refused}
use Rattle.far_word.specs.declared.sizes.TheConstants.{JOBS}
use Rattle.far_word.specs.Pointer.{read_of}
use Rattle.far_events.specs.events.Offer as event
use Rattle.far_events.specs.state.Jobs.{job_at}
use Rattle.far_events.specs.state.State.{State}
use Rattle.far_events.proofs.Put.{put_other, put_same}
use Rattle.far_book.specs.book.Collecting.{CollectsKnown, Collects, Empties, Fate, Names, Stays, fate_in, found_so, made_of, named_of}
use Rattle.far_book.specs.book.Effects.{near_word}
use Rattle.far_book.specs.book.Offering.{offered_of, with_ends}
use Rattle.far_evac.specs.AnyHand.{KnowsWalked}
use Rattle.far_evac.specs.Beside.{Dealing, End, Leaves, Offers, OverLogs, OverObjects, WalksOver, dealt_by, freed_if, may_free}
use Rattle.far_evac.specs.Live.{live_in}
use Rattle.far_evac.specs.Moment.{Moment}
use Rattle.far_evac.specs.RoundSteps.{among}
use Rattle.far_evac.specs.Walk.{Drops, Goes, Moves, Walked, Way, begun, freed}
use Rattle.far_evac.proofs.BesideKept.{by_ended, logs_kept, objects_kept}
use Rattle.far_evac.proofs.Bools.{or_left, or_right}
use Rattle.far_evac.proofs.Framed.{name_one, so_one}
use Rattle.far_evac.proofs.Tours.{core_so}

-- ---- the phase, and whether copies may be offered
abbrev pub StaysSo : Walked → Walked → Type 0
StaysSo v w = (w.moment.phase ≡ v.moment.phase) × (w.moment.copying ≡ v.moment.copying)

so_known : (v w t : Walked) → KnowsWalked w t → StaysSo v w → StaysSo v t
so_known v w t known (phase, copying) = (ap (λ (m : Moment). m.phase) known.moment.rest ∙ phase, ap (λ (m : Moment). m.copying) known.moment.rest ∙ copying)

so_dealt : (v w : Walked) (p : ℕ) (d : Dealing) → StaysSo v w → StaysSo v (dealt_by w p d)
so_dealt v w p (Leaves Drops) h = h
so_dealt v w p (Leaves (Moves place)) h = h
so_dealt v w p (Leaves Goes) h = h
so_dealt v w p (Offers j place) h = h

pub walks_so : (m : Moment) (n : ℕ) (w : Walked) (end : End) → WalksOver m n w end → (w.moment.phase ≡ m.phase) × (w.moment.copying ≡ m.copying)
walks_so m n w end (u, t, kept, (count, _, first), over, is) =
    let begins : StaysSo (begun m) u = (ap (λ (x : Walked). x.moment.phase) first, ap (λ (x : Walked). x.moment.copying) first) in
    let h : StaysSo (begun m) t = logs_kept (StaysSo (begun m)) (so_known (begun m)) (so_dealt (begun m)) (Unit {0}) (λ s p dealing old new. Unit {0}) (λ s p why old new. Unit {0}) (λ w l may h. h) m.collection n u t kept end tt tt over begins in
    (ap (λ (x : Walked). x.moment.phase) is ∙ h.0, ap (λ (x : Walked). x.moment.copying) is ∙ h.1)

-- ---- the round stays while objects are dealt with
offered_round : (s : State) (j p : ℕ) (to : Place) (o : Option PtrWord) → (offered_of s j p to o).round ≡ s.round
offered_round s j p to None = refl
offered_round s j p to (Some Free) = refl
offered_round s j p to (Some (Far len ds m)) = refl
offered_round s j p to (Some (Near len ds from m)) = made (read_of (s.cell p)) where
  made : (o : Option PtrWord) → (event.after_offer (with_ends s p len ds to) j p to o).round ≡ s.round
  made None = refl
  made (Some Free) = refl
  made (Some (Near n d at k)) = refl
  made (Some (Far n d k)) = refl

way_round : (w : Walked) (p : ℕ) (way : Way) → (dealt_by w p (Leaves way)).moment.core ≡ core_so w.moment.core p way
way_round w p Drops = refl
way_round w p (Moves place) = refl
way_round w p Goes = refl

dealt_round : (w : Walked) (p : ℕ) (d : Dealing) → (dealt_by w p d).moment.core.round ≡ w.moment.core.round
dealt_round w p (Leaves way) = ap (λ (s : State). s.round) (way_round w p way) ∙ ap (λ (s : State). s.round) (so_one w.moment.core p way).frame
dealt_round w p (Offers j place) = offered_round w.moment.core j p place (read_of (w.moment.core.cell p))

module _ (D : Type 0) (Asks : State → ℕ → Dealing → D → D → Type 0) (Fails : State → ℕ → Refused → D → D → Type 0) where
  pub objects_round : (ps : List ℕ) (n : ℕ) (w t : Walked) (more : ℕ) (end : End) (old new : D) → OverObjects D Asks Fails ps n w t more end old new → t.moment.core.round ≡ w.moment.core.round
  objects_round ps n w t more end old new over = objects_kept (λ x. x.moment.core.round ≡ w.moment.core.round) (λ x y known h. ap (λ (s : State). s.round) known.moment.core.rest ∙ h) (λ x p d h. dealt_round x p d ∙ h)
      D Asks Fails ps n w t more end old new over refl

  -- a log that was given back is out of it, and each other that is in it was in it, and is kept
  abbrev Rest : List ℕ → List ℕ → State → State → Type 0
  Rest logs kept s t = (j : ℕ) → t.round j ≡ true → (s.round j ≡ true) × (among logs j ≡ true → among kept j ≡ true)

  rest_more : (logs kept : List ℕ) (s t u : State) → t.round ≡ s.round → Rest logs kept t u → Rest logs kept s u
  rest_more logs kept s t u same h j is = (sym (ap (λ (f : ℕ → Bool). f j) same) ∙ (h j is).0, (h j is).1)

  -- behind a log: it was given back, or is kept
  module _ (l : ℕ) (ls rest kept : List ℕ) (u t : Walked) where
    next_rest : (b : Bool) → Rest ls rest (cond b (freed u l) u).moment.core t.moment.core → kept ≡ cond b rest (l ∷ rest) → Rest (l ∷ ls) kept u.moment.core t.moment.core
    next_rest true h is j in_round =
        let x = h j in_round in
        let other : j ≢ l = λ e. false≢true (sym (put_same u.moment.core.round l false j e) ∙ x.0) in (
          sym (put_other u.moment.core.round l false j other) ∙ x.0,
          λ member. ap (λ ks. among ks j) is ∙ x.1 (sym (ap (λ b. b || among ls j) (ne_eqb j l other)) ∙ member),
        )
    next_rest false h is j in_round =
        let x = h j in_round in (
          x.0,
          λ member. ap (λ ks. among ks j) is ∙ (elim (cases_eq j l) [
            | inl e ↦ or_left (eqb j l) (among rest j) (eq-eqb j l e)
            | inr ne ↦ or_right (eqb j l) (among rest j) (x.1 (sym (ap (λ b. b || among ls j) (ne_eqb j l ne)) ∙ member))
          ]),
        )

    here_rest : t ≡ u → kept ≡ l ∷ ls → Rest (l ∷ ls) kept u.moment.core t.moment.core
    here_rest same all j is = (sym (ap (λ (x : Walked). x.moment.core.round j) same) ∙ is, λ member. ap (λ ks. among ks j) all ∙ member)

  pub logs_rest : (ls : List ℕ) (n : ℕ) (w t : Walked) (kept : List ℕ) (end : End) (old new : D) → OverLogs D Asks Fails ls n w t kept end old new → Rest ls kept w.moment.core t.moment.core
  logs_rest [] n w t kept end old new (knows, _, _, _) = λ j is. (sym (ap (λ (s : State). s.round j) knows.moment.core.rest) ∙ is, λ odd. absurd (false≢true odd))
  logs_rest (l ∷ ls) n w t kept end old new (v, u, more, at, between, knows, over, then) =
      rest_more (l ∷ ls) kept w.moment.core u.moment.core t.moment.core
      (objects_round (live_in v.moment.core l) n v u more at old between over ∙ ap (λ (s : State). s.round) knows.moment.core.rest)
      (by_ended at (λ (rest, on, is). next_rest l ls rest kept u t (may_free u.moment.core l) (logs_rest ls more (freed_if u l) t rest end between new on) is) (λ stop. here_rest l ls [] kept u t stop.0 stop.1) then)

-- ---- and while jobs are collected
named_round : (s : State) (p : ℕ) (to : Place) (o : Option PtrWord) → (named_of s p to o).round ≡ s.round
named_round s p to None = refl
named_round s p to (Some Free) = refl
named_round s p to (Some (Near len ds from m)) = ap (λ (t : State). t.round) (name_one s p (near_word m.dirty len ds to) (s.cell p)).frame
named_round s p to (Some (Far len ds m)) = refl

made_round : (s : State) (j : ℕ) (job : Job) (fate : Fate) → (made_of s j job fate).round ≡ s.round
made_round s j job Stays = refl
made_round s j job Empties = refl
made_round s j job Names = named_round s job.pointer job.to (read_of (s.cell job.pointer))

collects_round : (s : State) (n : ℕ) (t : State) (count : ℕ) → Collects s n t count → t.round ≡ s.round
collects_round s zero t count (is, _) = ap (λ (x : State). x.round) is
collects_round s (suc n) t count (u, before, names, first, job, _) = by_job (job_at u.copying.word n) job ∙ collects_round s n u before first where
  by_job : (o : Option Job) → CollectsKnown u t n o names → t.round ≡ u.round
  by_job None (is, _) = ap (λ (x : State). x.round) is
  by_job (Some job) h = ap (λ (x : State). x.round) h.leads ∙ made_round (found_so u n job h.word h.cell) n job (fate_in (found_so u n job h.word h.cell) n job h.word h.cell)

-- ---- of an evacuation: each log that is in the round then is in the collection set, if those that were in it were
pub walks_only : (m : Moment) (n : ℕ) (w : Walked) (end : End) → WalksOver m n w end → ((l : ℕ) → m.core.round l ≡ true → among m.collection l ≡ true) → (l : ℕ) → w.moment.core.round l ≡ true → among w.moment.collection l ≡ true
walks_only m n w end (u, t, kept, (count, collects, first), over, is) only l in_round =
    let rest = logs_rest (Unit {0}) (λ s p dealing old new. Unit {0}) (λ s p why old new. Unit {0}) m.collection n u t kept end tt tt over l (sym (ap (λ (x : Walked). x.moment.core.round l) is) ∙ in_round) in
    ap (λ (x : Walked). among x.moment.collection l) is ∙ rest.1 (only l (sym (ap (λ (f : ℕ → Bool). f l) (collects_round m.core JOBS u.moment.core count collects)) ∙ rest.0))
