-- A walk over a log where copies may be offered: what is met, and what is left.
use Rattle.std.proofs.Common.{◌≡◌, ◌≢◌, ◌⊎◌, ◌+◌, ◌/◌, ◌<◌, ◌≤◌, ◌++◌, ℕ, zero, suc, true, false, Bool, List, [], ◌∷◌, Option, Some, arith, ap, sym, refl, ◌∙◌, subst}
use Rattle.std.proofs.lemmas.List.{append_assoc}
use Rattle.std.specs.List.{AllByRecursion}
use Rattle.far_word.specs.declared.refused.Refused.{Refused}
use Rattle.far_word.specs.declared.refused.Refused.TheVariants.{Device as Failed, Memory}
use Rattle.far_word.specs.declared.sizes.TheConstants.{CELLS}
use Rattle.far_word.specs.Pointer.{read_of}
use Rattle.far_word.specs.Sizes.{size_of}
use Rattle.far_device.specs.Following.{Follows, none_of, other_than}
use Rattle.far_device.proofs.Following.{follows_itself, follows_on, follows_still}
use Rattle.far_log.specs.declared.span.Span.{Span}
use Rattle.far_events.specs.declared.event.Event.{Event}
use Rattle.far_events.specs.declared.event.Reply.{Reply}
use Rattle.far_events.specs.declared.event.Kind.{Kind}
use Rattle.far_events.specs.declared.event.Kind.TheVariants as kinds
use Rattle.far_events.specs.events.Quiet.{IsClearNear}
use Rattle.far_events.specs.state.Jobs.{near_place}
use Rattle.far_events.specs.state.Law.{Law}
use Rattle.far_events.specs.state.State.{State}
use Rattle.far_hand.specs.Came.{Came}
use Rattle.far_hand.proofs.Closure.{then_came}
use Rattle.far_book.specs.book.BookOf.{BookOf}
use Rattle.far_book.specs.book.Jobs.{has_job}
use Rattle.far_book.specs.book.NextLive.{IsBoundary, IsHomeOf, live_from}
use Rattle.far_book.specs.book.Own.{own_part}
use Rattle.far_evac.specs.declared.answers.Progress.{Progress}
use Rattle.far_evac.specs.AnyHand.{Knows, KnowsWalked}
use Rattle.far_evac.specs.Beside.{At, Before, Behind, Dealing, DealsBeside, End, OverObjects}
use Rattle.far_evac.specs.BookStands.{IsChosen, KeepsChosen, stands}
use Rattle.far_evac.specs.Live.{pointers_of}
use Rattle.far_evac.specs.Moment.{objects_in, tally_of}
use Rattle.far_evac.specs.Walk.{Walked}
use Rattle.far_evac.proofs.BesideOver.{job_known, over_fails, over_job, over_one, over_stops, over_then, walked_same}
use Rattle.far_evac.proofs.BesideSteps.{LeavesRest, bounded_step, keeps_found, keeps_step, keeps_then, known_by, left_step, made_by, rest_by}
use Rattle.far_evac.proofs.Passing.{boundary_known, from_known}

-- ---- where it stands
pub stands_known : {N D : Type 0} (view : N → State) (a b : BookOf N D) (p q : Progress) (held : List ℕ) → Knows (view a.near) (view b.near) → b.order ≡ a.order → q ≡ p → KnowsWalked (stands view a p held) (stands view b q held)
stands_known view a b p q held known order same = record {
  moment = record { core = known; rest = λ i. record (stands view b q held).moment { order = order i } };
  tally = ap tally_of same;
}

-- ---- an object that lives in a log that may be walked over
not_free : (kind : Kind) → kind ≡ kinds.Sealed → kind ≢ kinds.Free
not_free kind sealed free = absurd cc

pub chosen_log : (s : State) → Law (own_part s) → (l : ℕ) → IsChosen s l → l < s.logs
chosen_log s law l chosen = law.logs.log_range l (not_free (s.kind l) chosen.sealed)

module _ (s : State) (l : ℕ) (span : Span) (lies : IsHomeOf s l span) where
  pub lies_at : near_place (read_of (s.cell span.p)) ≡ Some (record { log = l; at = span.at })
  lies_at = ap near_place lies.near

  pub clear_there : IsChosen s l → IsClearNear s span.p
  clear_there chosen = (
    span.len,
    span.ds,
    record { log = l; at = span.at },
    lies.marks,
    lies.near,
    chosen.marked span.p span.len span.ds (record { log = l; at = span.at }) lies.marks lies.near refl,
    chosen.round,
    chosen.clear (span.p / CELLS) (omega (arith, lies.pointer)),
  )

-- ---- what was met, and the first of what is left
pub next_parts : (all done : List ℕ) (from : List Span) (span : Span) (rest later : List Span) → all ≡ done ++ pointers_of from → from ≡ span ∷ rest → later ≡ rest → all ≡ (done ++ span.p ∷ []) ++ pointers_of later
next_parts all done from span rest later parts first same =
    parts ∙ ap (λ spans. done ++ pointers_of spans) first ∙ sym (append_assoc done (span.p ∷ []) (pointers_of rest)) ∙ ap (λ spans. (done ++ span.p ∷ []) ++ pointers_of spans) (sym same)

pub first_part : (all done : List ℕ) (from : List Span) (span : Span) (rest : List Span) → all ≡ done ++ pointers_of from → from ≡ span ∷ rest → all ≡ done ++ span.p ∷ pointers_of rest
first_part all done from span rest parts first = parts ∙ ap (λ spans. done ++ pointers_of spans) first

pub none_left : (all done : List ℕ) (from : List Span) → all ≡ done ++ pointers_of from → from ≡ [] → all ≡ done ++ []
none_left all done from parts none = parts ∙ ap (λ spans. done ++ pointers_of spans) none

-- ---- keys
member_of : (P : ℕ → Type 0) (xs : List ℕ) (y : ℕ) (ys : List ℕ) → AllByRecursion P (xs ++ y ∷ ys) → P y
member_of P [] y ys h = h.0
member_of P (x ∷ xs) y ys h = member_of P xs y ys h.1

pub alone_in : (all done : List ℕ) (p : ℕ) (rest : List ℕ) → all ≡ done ++ p ∷ rest → (q : ℕ) → none_of all q → other_than p q
alone_in all done p rest is q none e = member_of (λ key. key ≢ q) done p rest (subst (AllByRecursion (λ key. key ≢ q)) is none) (sym e)

module _ {D : Type 0} (contents : D → ℕ → Option (List ℕ)) (is_honest : D → Bool) (faults : D → ℕ) (few : D → ℕ → Type 0) where
  pub follows_one : (all done : List ℕ) (p : ℕ) (rest : List ℕ) (fault : Bool) (a b c d : D) → all ≡ done ++ p ∷ rest → c ≡ b →
      Follows contents is_honest faults few (none_of all) false a b → Follows contents is_honest faults few (other_than p) fault c d → Follows contents is_honest faults few (none_of all) fault a d
  follows_one all done p rest fault a b c d is same first then =
      follows_on contents is_honest faults few (none_of all) fault a b d first
      (follows_still contents is_honest faults few (other_than p) (none_of all) fault b d
      (alone_in all done p rest is)
      (subst (λ (x : D). Follows contents is_honest faults few (other_than p) fault x d) same then))

-- ---- refusals
pub why_at : (p q : ℕ) (why other : Refused) → (why ≡ Memory) ⊎ (why ≡ Failed) → At p why ≡ At q other → (other ≡ Memory) ⊎ (other ≡ Failed)
why_at p q why other h e = let same : why ≡ other = cc in subst (λ x. (x ≡ Memory) ⊎ (x ≡ Failed)) same h

-- ---- one object is met: a is the book before, and b then
module _ {N D : Type 0} (view : N → State) (makes : N → Event → Reply → N → Type 0) (contents : D → ℕ → Option (List ℕ)) (is_honest : D → Bool) (faults : D → ℕ) (few : D → ℕ → Type 0)
    (Asks : State → ℕ → Dealing → D → D → Type 0) (Fails : State → ℕ → Refused → D → D → Type 0) where
  abbrev Over : List ℕ → ℕ → Walked → Walked → ℕ → End → D → D → Type 0
  Over = OverObjects D Asks Fails

  pub record Meets (keys : List ℕ) (l past p : ℕ) (a : BookOf N D) (q : Progress) (n : ℕ) (b : BookOf N D) (r : Progress) (m : ℕ) : Type 0 where
    pub over : (held : List ℕ) → OverObjects D Asks Fails (p ∷ []) n (stands view a q held) (stands view b r held) m Behind a.device b.device
    pub keeps : KeepsChosen (view a.near) l (view b.near)
    pub left : live_from (view b.near) l past ≡ live_from (view a.near) l past
    pub begins : IsBoundary (view b.near) l past
    pub counted : objects_in (tally_of r) ≤ objects_in (tally_of q) + 1
    pub rest : (r.freed ≡ q.freed) × (r.done ≡ q.done)
    pub follows : Follows contents is_honest faults few (none_of keys) false a.device b.device
    pub came : Came makes a.near b.near

  -- v is the book once its cell was looked at
  module _ (a v : BookOf N D) (known : Knows (view a.near) (view v.near)) (order : v.order ≡ a.order) (same : v.device ≡ a.device) (came : Came makes a.near v.near) (q : Progress) where
    abbrev s : State
    s = view a.near

    abbrev t : State
    t = view v.near

    knows : (held : List ℕ) → KnowsWalked (stands view a q held) (stands view v q held)
    knows held = stands_known view a v q q held known order refl

    -- it has a job
    pub meets_job : (keys : List ℕ) (l past p n : ℕ) → has_job t p ≡ true → IsBoundary s l past → Meets keys l past p a q n v q n
    meets_job keys l past p n has bounded = record {
      over = λ held. subst (Over (p ∷ []) n (stands view a q held) (stands view v q held) n Behind a.device) (sym same)
          (over_job D Asks Fails p n (stands view a q held) (stands view v q held) a.device (sym (job_known s t known p) ∙ has) (knows held));
      keeps = keeps_found s t l known;
      left = from_known s t known l past;
      begins = boundary_known s t known l past bounded;
      counted = omega arith;
      rest = (refl, refl);
      follows = subst (Follows contents is_honest faults few (none_of keys) false a.device) (sym same) (follows_itself contents is_honest faults few (none_of keys) a.device);
      came = came;
    }

    -- it has none
    module _ (p : ℕ) (none : has_job t p ≡ false) where
      none_before : has_job s p ≡ false
      none_before = sym (job_known s t known p) ∙ none

      -- as many as were asked for were dealt with
      pub ends_before : (ps : List ℕ) (n : ℕ) (held : List ℕ) → n ≡ 0 → Over (p ∷ ps) n (stands view a q held) (stands view v q held) 0 Before a.device v.device
      ends_before ps n held e = subst (λ k. Over (p ∷ ps) k (stands view a q held) (stands view v q held) 0 Before a.device v.device) (sym e)
          (subst (Over (p ∷ ps) 0 (stands view a q held) (stands view v q held) 0 Before a.device) (sym same) (over_stops D Asks Fails p ps (stands view a q held) (stands view v q held) a.device none_before (knows held)))

      -- it was refused
      pub ends_refused : (ps : List ℕ) (n : ℕ) (held : List ℕ) (b : BookOf N D) (r : Progress) (why : Refused) → (n ≡ 0 → ⊥) → Knows t (view b.near) → b.order ≡ v.order → r ≡ q → Fails t p why v.device b.device →
          Over (p ∷ ps) n (stands view a q held) (stands view b r held) n (At p why) a.device b.device
      ends_refused ps zero held b r why some then shut uncounted fails = absurd (some refl)
      ends_refused ps (suc n) held b r why some then shut uncounted fails =
          over_fails D Asks Fails p ps n (stands view a q held) (stands view v q held) (stands view b r held) why a.device b.device none_before (knows held) (stands_known view v b q r held then shut uncounted)
          (subst (λ (d : D). Fails t p why d b.device) same fails)

    -- and was dealt with
    module _ (l : ℕ) (span : Span) (lies : IsHomeOf t l span) (law : Law (own_part t)) (chosen : IsChosen t l) (none : has_job t span.p ≡ false) (b : BookOf N D) (r : Progress)
        (deals : (held : List ℕ) → DealsBeside D Asks (stands view v q held) span.p (stands view b r held) v.device b.device) where
      abbrev past : ℕ
      past = span.at + size_of span.len

      abbrev u : State
      u = view b.near

      abbrev first : DealsBeside D Asks (stands view v q []) span.p (stands view b r []) v.device b.device
      first = deals []

      abbrev made : State
      made = made_by D Asks (stands view v q []) (stands view b r []) span.p v.device b.device first law (clear_there t l span lies chosen)

      rest : LeavesRest t made span.p
      rest = rest_by D Asks (stands view v q []) (stands view b r []) span.p v.device b.device first law (clear_there t l span lies chosen)

      then : Knows made u
      then = known_by D Asks (stands view v q []) (stands view b r []) span.p v.device b.device first law (clear_there t l span lies chosen)

      pub meets_dealt : (keys : List ℕ) (n m : ℕ) → n ≡ suc m → IsBoundary s l past → objects_in (tally_of r) ≤ objects_in (tally_of q) + 1 → (r.freed ≡ q.freed) × (r.done ≡ q.done) →
          Follows contents is_honest faults few (none_of keys) false v.device b.device → Came makes v.near b.near → Meets keys l past span.p a q n b r m
      meets_dealt keys n m is bounded counted uncounted follows more = record {
        over = λ held. subst (λ k. Over (span.p ∷ []) k (stands view a q held) (stands view b r held) m Behind a.device b.device) (sym is)
            (subst (λ (d : D). Over (span.p ∷ []) (suc m) (stands view a q held) (stands view b r held) m Behind d b.device) same
            (over_one D Asks Fails span.p m (stands view a q held) (stands view v q held) (stands view b r held) v.device b.device (none_before span.p none) (knows held) (deals held)));
        keeps = keeps_then s t u l (keeps_found s t l known) (keeps_step t made u span.p span.len span.ds l span.at lies.marks lies.near rest then);
        left = left_step t made u span.p span.len span.ds l span.at lies.marks lies.near rest then chosen.sealed past (omega arith) ∙ from_known s t known l past;
        begins = bounded_step t made u span.p span.len span.ds l span.at lies.marks lies.near rest then chosen.sealed past (boundary_known s t known l past bounded);
        counted = counted;
        rest = uncounted;
        follows = subst (λ (d : D). Follows contents is_honest faults few (none_of keys) false d b.device) same follows;
        came = then_came came more;
      }

  -- ---- the walk ends
  pub ends_walk : (all : Walked → List ℕ) (done ps : List ℕ) (n more m : ℕ) (w u t : Walked) (e : End) (old mid new : D) → all w ≡ done ++ ps → Over done n w u more Behind old mid → Over ps more u t m e mid new →
      (v : Walked) × KnowsWalked w v × Over (all v) n v t m e old new
  ends_walk all done ps n more m w u t e old mid new parts first then =
      (w, walked_same w, subst (λ xs. Over xs n w t m e old new) (sym parts) (over_then D Asks Fails done ps n w u t more m e old mid new first then))
