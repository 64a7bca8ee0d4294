-- A log that a walk or a round has given back is free, or something came to it since.
use Rattle.std.proofs.Common.{◌+◌, cond, ◌≡◌, ℕ, ◌<◌, true, false, ◌||◌, List, [], ◌∷◌, inl, inr, arith, ap, sym, refl, ◌∙◌, subst}
use Rattle.std.specs.Prelude.{◌⊎◌}
use Rattle.std.proofs.lemmas.Bool.{cases_eq, cond_both, ne_eqb, true≢false}
use Rattle.far_events.specs.declared.event.Kind.{Kind}
use Rattle.far_events.specs.declared.event.Kind.TheVariants as kinds
use Rattle.far_events.specs.state.Law.{Law}
use Rattle.far_events.specs.state.State.{State}
use Rattle.far_events.proofs.Put.{put_other, put_same}
use Rattle.far_hand.proofs.Finding.{finds_same}
use Rattle.far_book.specs.book.Releasing.{released}
use Rattle.far_book.proofs.region.Owns.{own_law}
use Rattle.far_evac.specs.Choosing.{after_selecting}
use Rattle.far_evac.specs.Moment.{Moment}
use Rattle.far_evac.specs.MomentLaw.{MomentLaw, is_idle}
use Rattle.far_evac.specs.RoundSteps.{among}
use Rattle.far_evac.specs.Turns.{turns_made}
use Rattle.far_evac.specs.Walk.{Walked, begun, ended, is_done, walked}
use Rattle.far_evac.specs.declared.phase.Phase.TheVariants.{Idle, Evacuating}
use Rattle.far_evac.proofs.RoomLaw.{sound_of}
use Rattle.far_evac.proofs.SpanBytes.{Dealt}
use Rattle.far_evac.proofs.SpansDealt.{way_dealt}
use Rattle.far_evac.proofs.Targets.{lie_below}
use Rattle.far_evac.proofs.Tours.{core_so}
use Rattle.far_replay.specs.Rounds.{after_round}
use Rattle.far_replay_laws.proofs.RoundCounts.{spans}
use Rattle.far_evac.proofs.Joined.{walks_join}
use Rattle.far_evac.proofs.LeadingTurns.{turns_lead}
use Rattle.far_evac.proofs.LeadingWalks.{KeepsLawfully, lifted_lawfully}

-- of some logs each that has left the collection set is free, or words of it were taken
abbrev pub GivenFree : List ℕ → State → List ℕ → Type 0
GivenFree logs s held = (l : ℕ) → among logs l ≡ true → among held l ≡ false → (s.kind l ≡ kinds.Free) ⊎ (0 < s.tail l)

still_held : (s : State) (logs held : List ℕ) → held ≡ logs → GivenFree logs s held
still_held s logs held same l was is = absurd (true≢false (sym was ∙ ap (λ xs. among xs l) (sym same) ∙ is))

module _ (logs : List ℕ) where
  -- ---- logs in front are given back
  freed_free : (s : State) (l : ℕ) (ls : List ℕ) → GivenFree logs s (l ∷ ls) → GivenFree logs (released s l) ls
  freed_free s l ls h k was is = elim (cases_eq k l) [
    | inl e ↦ inl (put_same s.kind l kinds.Free k e)
    | inr ne ↦ elim (h k was (ap (λ b. b || among ls k) (ne_eqb k l ne) ∙ is)) [
      | inl free ↦ inl (put_other s.kind l kinds.Free k ne ∙ free)
      | inr some ↦ inr (subst (λ n. 0 < n) (sym (put_other s.tail l 0 k ne)) some)
    ]
  ]

  -- ---- the first object is dealt with
  dealt_free : (s t : State) (held : List ℕ) (p : ℕ) → Dealt s t p → GivenFree logs s held → GivenFree logs t held
  dealt_free s t held p d h l was is = elim (h l was is) [
    | inl free ↦ by_kind free (t.kind l) refl
    | inr some ↦ (let more = d.tail l in inr (omega (arith, some, more)))
  ] where
    by_kind : s.kind l ≡ kinds.Free → (kind : Kind) → t.kind l ≡ kind → (t.kind l ≡ kinds.Free) ⊎ (0 < t.tail l)
    by_kind free kinds.Free e = inl e
    by_kind free kinds.Open e = inr (d.opened l free (λ f. let odd : kinds.Open ≡ kinds.Free = sym e ∙ f in cc))
    by_kind free kinds.Sealed e = inr (d.opened l free (λ f. let odd : kinds.Sealed ≡ kinds.Free = sym e ∙ f in cc))

  keeps_free : KeepsLawfully (λ w. GivenFree logs w.moment.core w.moment.collection)
  keeps_free = record {
    gives = λ w l ls h. freed_free w.moment.core l ls h;
    deals = λ w l ls p way ready x h. let s : State = w.moment.core in
        dealt_free s (core_so s p way) (l ∷ ls) p (way_dealt s (sound_of s (own_law s x.law)) (lie_below s (own_law s x.law)) l ls p x.rest ready x.live (s.cell p) (finds_same (s.cell p)) way x.goes) h;
  }

-- ---- a walk
module _ (m : Moment) (law : Law m.core) (moment : MomentLaw m) (alone : m.copying ≡ false) (leaves : m.phase ≡ Evacuating) where
  walked_free : (n : ℕ) → GivenFree m.collection (walked m n).moment.core (walked m n).moment.collection
  walked_free n = (lifted_lawfully m (λ w. GivenFree m.collection w.moment.core w.moment.collection) (keeps_free m.collection) law moment alone leaves (still_held m.core m.collection m.collection refl) n).2.keeps.1

  pub ended_free : (n : ℕ) → GivenFree m.collection (ended (walked m n)).core (ended (walked m n)).collection
  ended_free n = cond_both (is_done (walked m n)) (record (walked m n).moment { phase = Idle }) (walked m n).moment (λ (t : Moment). GivenFree m.collection t.core t.collection) (λ _. walked_free n) (λ _. walked_free n)

-- ---- a round
turns_free : (m : Moment) → Law m.core → MomentLaw m → m.copying ≡ false → is_idle m.phase ≡ false → (n : ℕ) → GivenFree m.collection (turns_made m n).moment.core (turns_made m n).moment.collection
turns_free m law moment alone runs n = elim (spans m law moment alone runs n) [
  | inl h ↦ still_held (turns_made m n).moment.core m.collection (turns_made m n).moment.collection h.held
  | inr h ↦ subst (λ (t : Moment). GivenFree m.collection t.core t.collection) (sym h.is)
      (subst (λ logs. GivenFree logs (ended (walked h.at h.many)).core (ended (walked h.at h.many)).collection) h.held (ended_free h.at h.law h.moment h.alone h.leaves h.many))
]

-- and, where objects leave then, of a walk more that isn't over
pub stop_free : (m : Moment) → Law m.core → MomentLaw m → m.copying ≡ false → is_idle m.phase ≡ false → (n objects : ℕ) → (turns_made m n).over ≡ false → (turns_made m n).moment.phase ≡ Evacuating →
    let t = (walked (turns_made m n).moment objects).moment in GivenFree m.collection t.core t.collection
stop_free m law moment alone runs n objects goes leaves =
    let r = turns_made m n in
    let leads = turns_lead m n law moment alone runs in
    elim (spans m law moment alone runs n) [
      | inl h ↦ subst (λ logs. GivenFree logs (walked r.moment objects).moment.core (walked r.moment objects).moment.collection) h.held (walked_free r.moment leads.law leads.moment (leads.copying ∙ alone) leaves objects)
      | inr h ↦ (let w = walked h.at h.many in
          let stands : r.moment ≡ w.moment = h.is ∙ ap (λ b. cond b (record w.moment { phase = Idle }) w.moment) (sym h.over ∙ goes) in
          subst (λ (x : Moment). GivenFree m.collection (walked x objects).moment.core (walked x objects).moment.collection) (sym stands)
          (subst (λ (x : Walked). GivenFree m.collection x.moment.core x.moment.collection) (walks_join h.at h.many objects)
          (subst (λ logs. GivenFree logs (walked h.at (h.many + objects)).moment.core (walked h.at (h.many + objects)).moment.collection) h.held (walked_free h.at h.law h.moment h.alone h.leaves (h.many + objects)))))
    ]

pub round_free : (now : Moment) → Law now.core → (logs : List ℕ) (turns : ℕ) → MomentLaw (after_selecting now logs) → now.copying ≡ false →
    GivenFree (after_selecting now logs).collection (after_round now logs turns).core (after_round now logs turns).collection
round_free now law [] turns begun alone = still_held now.core now.collection now.collection refl
round_free now law (l ∷ ls) turns begun alone = turns_free (after_selecting now (l ∷ ls)) law begun alone refl turns
