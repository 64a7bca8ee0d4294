-- The walk goes on behind the object that left.
use Rattle.std.proofs.Common.{◌≡◌, ◌≢◌, ℕ, ◌+◌, ◌≤◌, true, false, ◌&&◌, nat_eq, Some, List, ◌∷◌, inl, inr, ap, sym, refl, ◌∙◌, subst}
use Rattle.std.proofs.lemmas.Bool.{cases_eq, eq-eqb, true≢false}
use Rattle.far_word.specs.declared.mark.Marks.{Marks}
use Rattle.far_word.specs.declared.pointer.Place.{Place}
use Rattle.far_word.specs.declared.pointer.PtrWord.TheVariants.{Near}
use Rattle.far_word.specs.declared.sizes.TheConstants.{LOG_WORDS}
use Rattle.far_word.specs.Pointer.{read_of}
use Rattle.far_word.specs.Sizes.{size_of}
use Rattle.far_log.specs.declared.span.Span.{Span}
use Rattle.far_events.specs.state.Law.{Law}
use Rattle.far_events.specs.state.Spans.{names_place}
use Rattle.far_events.specs.state.State.{State}
use Rattle.far_book.specs.book.Dealing.{has_evac}
use Rattle.far_hand.specs.Quiet.{IsQuietNear}
use Rattle.far_book.specs.book.NextLive.{IsBoundary, live_from}
use Rattle.far_book.specs.book.Own.{own_part}
use Rattle.far_hand.proofs.Finding.{near_known}
use Rattle.far_evac.specs.declared.evac.evacuating.Fate.{Fate}
use Rattle.far_evac.specs.declared.phase.Phase.TheVariants.{Evacuating}
use Rattle.far_evac.specs.declared.round.Round.{Round}
use Rattle.far_evac.specs.AnyHand.{Knows, KnowsWalked}
use Rattle.far_evac.specs.Cursor.{IsNextLeaving}
use Rattle.far_evac.specs.Leaving.{LeavesAs, LeavesBy, core_by, counted_as, fate_by, order_by}
use Rattle.far_evac.specs.Moment.{Moment, Tally}
use Rattle.far_evac.specs.Ready.{Ready}
use Rattle.far_evac.specs.RoundSteps.{among}
use Rattle.far_evac.specs.Standing.{InRound, LiesFrom, collection_in}
use Rattle.far_evac.specs.Walk.{Walked, Way, Goes, dealt_as, dealt_so, way_of}
use Rattle.far_evac.proofs.Framed.{framed, so_one}
use Rattle.far_evac.proofs.Fronts.{first_lives}
use Rattle.far_evac.proofs.HeldJobs.{KeepsJobs, jobs_more, keeps_named, knows_jobs}
use Rattle.far_evac.proofs.Keeping.{KeepsLogs, bounded_kept, keeps_known, keeps_more, keeps_sealed, round_kept}
use Rattle.far_evac.proofs.LiveLists.{finds_place, knows_live}
use Rattle.far_evac.proofs.Passing.{boundary_known, one_or_behind}
use Rattle.far_evac.proofs.SendingOff.{sealed_kept}
use Rattle.far_evac.proofs.Tours.{core_so, gone_found}
use Rattle.far_evac.proofs.Walking.{among_front, stands_at}

-- ---- the first live object of the log in front was found
module _ (s t : State) (law : Law (own_part s)) (known : Knows s t) (l at : ℕ) (lies : LiesFrom s l at) (span : Span)
    (first : live_from s l at ≡ span ∷ live_from s l (span.at + size_of span.len)) where
  behind_it : (p len ds : ℕ) (place : Place) (marks : Marks) → read_of (t.cell p) ≡ Some (Near len ds place marks) → place.log ≡ l → p ≢ span.p → span.at + size_of span.len ≤ place.at
  behind_it p len ds place marks near log other =
      let x = near_known (s.cell p) (t.cell p) (known.found p) len ds place marks near in
      elim (one_or_behind s law l at span first p len ds place x.marks x.near log (lies p len ds place x.marks x.near log)) [
        | inl e ↦ absurd (other (sym (ap (λ (y : Span). y.p) e)))
        | inr more ↦ more
      ]

  pub next_leaving : (held ls : List ℕ) → held ≡ l ∷ ls → IsBoundary s l (span.at + size_of span.len) → span.at + size_of span.len ≤ LOG_WORDS → IsNextLeaving t held span
  next_leaving held ls front next inside =
      let lives = first_lives s law l at lies span first in record {
        log = l;
        more = ls;
        front = front;
        rest = lives.0;
        first = knows_live s t known l ∙ lives.1;
        behind = boundary_known s t known l (span.at + size_of span.len) next;
        inside = inside;
        others = behind_it;
      }

-- ---- it has left
pub so_by : (s : State) (p : ℕ) (way : Way) → core_so s p way ≡ core_by s p way
so_by s p Goes = refl
so_by s p _ = refl

pub names_own : (len ds l : ℕ) (place : Place) (marks : Marks) → place.log ≡ l → names_place (Some (Near len ds place marks)) l place.at ≡ true
names_own len ds l place marks e = ap (λ b. b && nat_eq place.at place.at) (eq-eqb place.log l e) ∙ eq-eqb place.at place.at refl

module _ (s t : State) (r : Round) (in_round : InRound s r) (walks : r.phase ≡ Evacuating) (span : Span) (next : IsNextLeaving s (collection_in r) span) (ready : Ready s (collection_in r))
    (q : IsQuietNear s span.p) (law : Law (own_part s)) (then : Law (own_part t)) (evac : has_evac (read_of (s.cell span.p)) ≡ true) (order after : List ℕ) (fate : Fate)
    (leaves : LeavesBy s order t after span.p fate) where
  abbrev way : Way
  way = way_of s (read_of leaves.word)

  keeps : KeepsLogs s t (collection_in r)
  keeps = keeps_more s (core_by s span.p way) t (collection_in r)
      (keeps_sealed s (core_by s span.p way) (collection_in r) in_round.holds.sealed (sealed_kept s span.p q law evac leaves.word leaves.found way refl))
      (keeps_known (core_by s span.p way) t (collection_in r) leaves.core)

  gone : (at : ℕ) → names_place (read_of (t.cell span.p)) next.log at ≡ false
  gone at =
      let off = (gone_found s next.log next.more span.p next.rest (subst (Ready s) next.front ready) next.first leaves.word leaves.found way refl).off.0 at in
      finds_place ((core_by s span.p way).cell span.p) (t.cell span.p) (leaves.core.found span.p) next.log at
      ∙ ap (λ (u : State). names_place (read_of (u.cell span.p)) next.log at) (sym (so_by s span.p way)) ∙ off

  front_among : among (collection_in r) next.log ≡ true
  front_among = among_front (collection_in r) next.log next.more next.front

  lies_behind : LiesFrom t next.log (span.at + size_of span.len)
  lies_behind p len ds place marks near log =
      let was = keeps.near p len ds place marks near (subst (λ k. among (collection_in r) k ≡ true) (sym log) front_among) in
      elim (cases_eq p span.p) [
        | inl e ↦ absurd (true≢false (sym (names_own len ds next.log place marks log) ∙ sym (ap (λ o. names_place o next.log place.at) near)
            ∙ ap (λ x. names_place (read_of (t.cell x)) next.log place.at) e ∙ gone place.at))
        | inr other ↦ next.others p len ds place was.0 was.1 log other
      ]

  pub jobs_on : KeepsJobs s t
  jobs_on = jobs_more s (core_by s span.p way) t
      (keeps_named s (core_by s span.p way) law (sealed_kept s span.p q law evac leaves.word leaves.found way refl) (subst (λ (u : State). u ≡ framed s u) (so_by s span.p way) (so_one s span.p way).frame))
      (knows_jobs (core_by s span.p way) t leaves.core)

  pub walks_on : (size : ℕ) → size ≡ size_of span.len → InRound t (record r { at = span.at + size })
  walks_on size e = subst (λ n. InRound t (record r { at = span.at + n })) (sym e)
      (stands_at t r (round_kept s t r keeps in_round) then walks next.log next.more next.front (span.at + size_of span.len)
      (bounded_kept s t r keeps in_round next.log (span.at + size_of span.len) front_among next.behind) lies_behind)

-- ---- and is counted
pub dealt_way : (w : Walked) (t : Moment) (tally : Tally) (p : ℕ) (fate : Fate) (way : Way) → Knows (core_by w.moment.core p way) t.core → t.order ≡ order_by w.moment.core w.moment.order way → fate ≡ fate_by way →
    t.phase ≡ w.moment.phase → t.collection ≡ w.moment.collection → t.copying ≡ w.moment.copying → tally ≡ counted_as w.tally fate → KnowsWalked (dealt_so w p way) (record { moment = t; tally = tally })
dealt_way w t tally p fate Goes core order is phase held copies counted = record {
  moment = record { core = core; rest = λ i. record { core = t.core; order = order i; phase = phase i; collection = held i; copying = copies i } };
  tally = counted ∙ ap (counted_as w.tally) is;
}
dealt_way w t tally p fate _ core order is phase held copies counted = record {
  moment = record { core = core; rest = λ i. record { core = t.core; order = order i; phase = phase i; collection = held i; copying = copies i } };
  tally = counted ∙ ap (counted_as w.tally) is;
}

pub dealt_known : (w : Walked) (t : Moment) (tally : Tally) (p : ℕ) (fate : Fate) (leaves : LeavesBy w.moment.core w.moment.order t.core t.order p fate) → t.phase ≡ w.moment.phase → t.collection ≡ w.moment.collection → t.copying ≡ w.moment.copying →
    tally ≡ counted_as w.tally fate → KnowsWalked (dealt_as w p (read_of leaves.word)) (record { moment = t; tally = tally })
dealt_known w t tally p fate leaves phase held copies counted =
    dealt_way w t tally p fate (way_of w.moment.core (read_of leaves.word)) leaves.core leaves.sealed leaves.is phase held copies counted

-- ---- the same, where no word changes but by this
exact_way : (w v : Walked) (p : ℕ) (fate : Fate) (way : Way) → v.moment.core ≡ core_by w.moment.core p way → v.moment.order ≡ order_by w.moment.core w.moment.order way → fate ≡ fate_by way →
    v.moment.phase ≡ w.moment.phase → v.moment.collection ≡ w.moment.collection → v.moment.copying ≡ w.moment.copying → v.tally ≡ counted_as w.tally fate → v ≡ dealt_so w p way
exact_way w v p fate Goes core order is phase held copies counted = λ i. record {
  moment = record { core = core i; order = order i; phase = phase i; collection = held i; copying = copies i };
  tally = (counted ∙ ap (counted_as w.tally) is) i;
}
exact_way w v p fate _ core order is phase held copies counted = λ i. record {
  moment = record { core = core i; order = order i; phase = phase i; collection = held i; copying = copies i };
  tally = (counted ∙ ap (counted_as w.tally) is) i;
}

pub dealt_exact : (w v : Walked) (p word : ℕ) (fate : Fate) → LeavesAs w.moment.core w.moment.order v.moment.core v.moment.order p word fate → v.moment.phase ≡ w.moment.phase → v.moment.collection ≡ w.moment.collection → v.moment.copying ≡ w.moment.copying →
    v.tally ≡ counted_as w.tally fate → v ≡ dealt_as w p (read_of word)
dealt_exact w v p word fate leaves phase held copies counted = exact_way w v p fate (way_of w.moment.core (read_of word)) leaves.core leaves.sealed leaves.is phase held copies counted
