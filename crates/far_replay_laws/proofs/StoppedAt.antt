-- Where a step stops an object is to be written: it stands first of those that are left.
use Rattle.std.proofs.Common.{◌≡◌, ◌≢◌, ℕ, Bool, true, false, cond, Option, Some, None, ◌∷◌, ap, sym, refl, ◌∙◌, subst, inl, inr}
use Rattle.std.specs.Prelude.{Contains}
use Rattle.std.proofs.lemmas.Bool.{false≢true}
use Rattle.far_word.specs.declared.pointer.Place.{Place}
use Rattle.far_word.specs.Sizes.{size_of}
use Rattle.far_log.proofs.Members.{here, split}
use Rattle.far_events.specs.state.Law.{is_dirty}
use Rattle.far_core.specs.state.Room.{room}
use Rattle.far_events.specs.state.State.{State}
use Rattle.far_book.proofs.region.Owns.{own_law}
use Rattle.far_evac.specs.Live.{live_among}
use Rattle.far_evac.specs.LiveLaws.{ComesFirst, IsInTurn, IsNearIn, ListsLive}
use Rattle.far_evac.specs.RoundSteps.{among}
use Rattle.far_evac.specs.Walk.{Drops, Goes, hot_way, way_of}
use Rattle.far_evac.proofs.LiveOrder.{live_in_order}
use Rattle.far_replay.specs.Commanded.{StopsAtWrite}
use Rattle.far_replay.specs.Moment.{Moment}
use Rattle.far_replay.proofs.Lasting.{Lasts}
use Rattle.far_replay_laws.specs.Steps.{IsAt, IsChosen, IsStoppedAt, StandsFirst}
use Rattle.far_replay_laws.proofs.CountedOnce.{all_at}
use Rattle.far_replay_laws.proofs.StepsTell.{held_by, held_chosen}

-- what goes far isn't dropped, and if it is hot there is no room
goes_so : (dropped hot : Bool) (o : Option Place) → cond dropped Drops (cond hot (hot_way o) Goes) ≡ Goes → (dropped ≡ false) × (hot ≡ true → o ≡ None)
goes_so true hot o e = absurd cc
goes_so false false o e = (refl, λ odd. absurd (false≢true odd))
goes_so false true None e = (refl, λ _. refl)
goes_so false true (Some place) e = absurd cc

module _ (t : Moment) (lasts : Lasts t) (h : StopsAtWrite t) where
  abbrev s : State
  s = t.core

  lists : ListsLive s t.collection (live_among s t.collection)
  lists = live_in_order s t.collection (own_law s lasts.law) lasts.round.collection_once

  near : IsNearIn s t.collection h.next
  near = (lists.each h.next).0 (subst (λ xs. Contains xs h.next) (sym h.first) (here h.next h.rest))

  way : (near.marks.dropped ≡ false) × (near.marks.hot ≡ true → room s (size_of near.len) false ≡ None)
  way = goes_so near.marks.dropped near.marks.hot (room s (size_of near.len) false) (sym (ap (way_of s) near.near) ∙ h.goes)

  -- each other object of the chosen logs is among the rest
  stands_first : (q : ℕ) (at : Place) → q ≢ h.next → IsAt s q at → IsChosen t at.log → StandsFirst t.collection near.place at
  stands_first q at other (n, d, m, there) chosen =
      let lives : Contains (live_among s t.collection) q =
      (lists.each q).1 record { len = n; ds = d; place = at; marks = m; near = there; log = held_by (among t.collection at.log) (s.kind at.log) chosen } in
      let rest : Contains h.rest q = elim (split q h.next h.rest (subst (λ xs. Contains xs q) h.first lives)) [
        | inl e ↦ absurd (other (sym e))
        | inr more ↦ more
      ] in
      let order : IsInTurn (ComesFirst s t.collection) (h.next ∷ h.rest) = subst (IsInTurn (ComesFirst s t.collection)) h.first lists.order in
      all_at (ComesFirst s t.collection h.next) q h.rest order.0 rest near.len near.ds n d near.place at near.marks m near.near there

  pub stopped_at : (p : ℕ) × IsStoppedAt t p
  stopped_at = (
    h.next,
    record {
      len = near.len;
      ds = near.ds;
      place = near.place;
      marks = near.marks;
      lies = near.near;
      chosen = held_chosen t lasts.round near.place.log near.log;
      first = stands_first;
      written = sym (ap is_dirty near.near) ∙ h.owed;
      kept = way.0;
      cold = way.1;
    },
  )
