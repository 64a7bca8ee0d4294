-- An object that lies in none of the chosen logs stays where it lies, with its bytes, through a walk, and through the turns of a round.
use Rattle.std.proofs.Common.{◌≡◌, ◌≢◌, ℕ, true, false, Option, Some, None, List, ◌∷◌, ap, sym, refl, ◌∙◌, subst, inl, inr, arith}
use Rattle.std.specs.Prelude.{Contains}
use Rattle.std.proofs.lemmas.Bool.{cond_both}
use Rattle.far_word.specs.declared.pointer.PtrWord.TheVariants.{Near}
use Rattle.far_word.specs.Pointer.{read_of}
use Rattle.far_word.specs.Sizes.{size_of}
use Rattle.far_word.proofs.PointerLaws.{read_says}
use Rattle.far_log.proofs.Members.{here, there}
use Rattle.far_events.specs.state.Law.{Law}
use Rattle.far_core.specs.state.Room.{room}
use Rattle.far_events.specs.state.State.{State, put}
use Rattle.far_core.specs.world.World.{FarSide, Group, Object, World}
use Rattle.far_core.specs.world.Steps.{with_home}
use Rattle.far_core.specs.world.WorldOf.{object_of, world_of}
use Rattle.far_events.proofs.Put.{put_other}
use Rattle.far_book.specs.book.Effects.{evicted, moved, with_free_cell}
use Rattle.far_book.specs.book.Releasing.{released}
use Rattle.far_book.proofs.region.Owns.{own_law}
use Rattle.far_book.proofs.region.EvictingLaw.{evicting}
use Rattle.far_book.proofs.region.Moved.{moved_is, no_copy_in_room}
use Rattle.far_book.proofs.region.MovesReached.{moving}
use Rattle.far_evac.specs.declared.phase.Phase.TheVariants.{Idle, Evacuating}
use Rattle.far_evac.specs.Live.{lacking, live_among}
use Rattle.far_evac.specs.Marking.{after_marking, newly_marked}
use Rattle.far_evac.specs.Moment.{Moment}
use Rattle.far_evac.specs.MomentLaw.{MomentLaw, is_idle}
use Rattle.far_evac.specs.RoundSteps.{with_clear_below}
use Rattle.far_evac.specs.Turns.{turns_made}
use Rattle.far_evac.specs.Waiting.{after_polling, first_open, polled_to}
use Rattle.far_evac.specs.Walk.{Drops, Goes, Moves, Way, ended, is_done, walked}
use Rattle.far_evac.proofs.LeadingWalks.{GoesLawfully, KeepsLawfully, lifted_lawfully}
use Rattle.far_evac.proofs.Marks.{is_marked, marking_frame as frame}
use Rattle.far_evac.proofs.StepsAside.{layout}
use Rattle.far_evac.proofs.Tours.{goes_when, moves_when, core_so}
use Rattle.far_replay_laws.specs.Left.{StaysPut}
use Rattle.far_replay_laws.specs.Steps.{LiesIn}
use Rattle.far_replay_laws.proofs.CountedOnce.{filtered, in_front, member_or_apart}
use Rattle.far_replay_laws.proofs.StepsTell.{live_of, near_in}
use Rattle.far_evac.proofs.RoomTurns.{marking_held}
use Rattle.far_evac.proofs.TurnSteps.{KeepsTurns, turns_kept_exactly}

-- ---- one step after another
pub put_none : (s : State) (q : ℕ) → StaysPut s s q
put_none s q = record { cell = refl; object = refl; stored = λ i. refl }

pub put_more : (s t u : State) (q : ℕ) → StaysPut s t q → StaysPut t u q → StaysPut s u q
put_more s t u q a b = record { cell = b.cell ∙ a.cell; object = b.object ∙ a.object; stored = λ i. b.stored i ∙ a.stored i }

-- it lies where it lay
pub lay_there : (s t : State) (q l : ℕ) → t.cell q ≡ s.cell q → LiesIn t q l → LiesIn s q l
lay_there s t q l same (len, ds, place, marks, near, log) = (len, ds, place, marks, ap read_of (sym same) ∙ near, log)

-- of a moment q's object lies in no log of the collection set
abbrev pub IsApart : State → List ℕ → ℕ → Type 0
IsApart s held q = (l : ℕ) → Contains held l → ¬ LiesIn s q l

-- then it is none of their live objects
pub apart_from : (s : State) (held : List ℕ) (q p : ℕ) → IsApart s held q → Contains (live_among s held) p → q ≢ p
apart_from s held q p none member e =
    let (l, holds, lives) = live_of s held p member in
    none l holds (subst (λ x. LiesIn s x l) (sym e) (near_in s l p lives))

-- from a moment on it has stayed, and the collection set then was part of the one before
pub record Stayed (s : State) (logs : List ℕ) (q : ℕ) (t : State) (held : List ℕ) : Type 0 where
  pub put_there : StaysPut s t q
  pub fewer : (l : ℕ) → Contains held l → Contains logs l

pub stayed_none : (s : State) (held : List ℕ) (q : ℕ) → Stayed s held q s held
stayed_none s held q = record { put_there = put_none s q; fewer = λ l c. c }

stayed_more : (s t u : State) (a b c : List ℕ) (q : ℕ) → Stayed s a q t b → Stayed t b q u c → Stayed s a q u c
stayed_more s t u a b c q x y = record { put_there = put_more s t u q x.put_there y.put_there; fewer = λ l m. x.fewer l (y.fewer l m) }

still_apart : (s t : State) (logs held : List ℕ) (q : ℕ) → IsApart s logs q → Stayed s logs q t held → IsApart t held q
still_apart s t logs held q none h l member lies = none l (h.fewer l member) (lay_there s t q l h.put_there.cell lies)

-- ---- logs are given back
pub released_put : (s : State) (l q : ℕ) → StaysPut s (released s l) q
unfolding world_of
released_put s l q = record { cell = refl; object = refl; stored = λ i. refl }

-- ---- another object is dealt with
module _ (s : State) (p q : ℕ) (other : q ≢ p) where
  freed_put : StaysPut s (with_free_cell s p) q
  unfolding world_of
  freed_put = record { cell = put_other s.cell p 0 q other; object = ap (λ w. object_of s.word (s.stored q) q (read_of w)) (put_other s.cell p 0 q other); stored = λ i. refl }

  world_put : (w : World) (o : Option Object) → w.object ≡ put (world_of s).object p o → w.object q ≡ (world_of s).object q
  world_put w o is = ap (λ (f : ℕ → Option Object). f q) is ∙ put_other (world_of s).object p o q other

module _ (s : State) (l p q : ℕ) (other : q ≢ p) where
  pub gone_put : (way : Way) → GoesLawfully s l p way → StaysPut s (core_so s p way) q
  gone_put Drops x = freed_put s p q other
  gone_put (Moves to) x =
      let why = moves_when x.marks.dropped x.marks.hot (room s (size_of x.len) false) to x.is in
      let way = moving s p x.len x.ds x.place to x.marks x.law x.near x.quiet why.0 x.evac why.1 in
      let says = (read_says (s.cell p) (Near x.len x.ds x.place x.marks) (x.law.cells.cell_read p).0 x.near).0 in
      let made = moved_is s p x.len x.ds x.place to x.marks x.near why.0 x.evac (layout s x.law x.len x.ds to false says.0 says.1 says.2 why.1)
      (no_copy_in_room s (own_law s x.law) p (size_of x.len) x.place to false (omega arith) (omega (arith, says.1)) why.1) in
      let gone = way.2.moved in
      record {
        cell = way.3.cells q other;
        object = world_put s p q other (world_of (moved s p to)) (Some (with_home gone.0 (Group to.log))) (ap (λ (v : World). v.object) gone.4);
        stored = λ i. ap (λ (t : State). t.stored q i) made;
      }
  gone_put Goes x =
      let alive = goes_when x.marks.dropped x.marks.hot (room s (size_of x.len) false) x.is in
      let way = evicting s p x.len x.ds x.place x.marks x.law x.pointer x.near x.quiet x.evac alive in
      let gone = way.2.gone in
      record {
        cell = way.3.cells q other;
        object = world_put s p q other (world_of (evicted s p)) (Some (with_home gone.0 FarSide)) (ap (λ (v : World). v.object) gone.4);
        stored = λ i. ap (λ (f : ℕ → ℕ). f i) (way.3.others q other);
      }

-- ---- object after object
pub lies_lawfully : (s : State) (l p : ℕ) (way : Way) → GoesLawfully s l p way → LiesIn s p l
lies_lawfully s l p way x = (x.len, x.ds, x.place, x.marks, x.near, x.log)

module _ (m : Moment) (q : ℕ) (none : IsApart m.core m.collection q) where
  abbrev HasStayed : Moment → Type 0
  HasStayed t = Stayed m.core m.collection q t.core t.collection

  keeps_put : KeepsLawfully (λ w. HasStayed w.moment)
  keeps_put = record {
    gives = λ w l ls h. record { put_there = put_more m.core w.moment.core (released w.moment.core l) q h.put_there (released_put w.moment.core l q); fewer = λ k c. h.fewer k (there k l ls c) };
    deals = λ w l ls p way ready x h.
        let s : State = w.moment.core in
        let other : q ≢ p = λ e. still_apart m.core s m.collection (l ∷ ls) q none h l (here l ls) (subst (λ y. LiesIn s y l) (sym e) (lies_lawfully s l p way x)) in
        record { put_there = put_more m.core s (core_so s p way) q h.put_there (gone_put s l p q other way x); fewer = h.fewer };
  }

  walk_put : Law m.core → MomentLaw m → m.copying ≡ false → m.phase ≡ Evacuating → (n : ℕ) → HasStayed (walked m n).moment
  walk_put law moment alone leaves n = (lifted_lawfully m (λ w. HasStayed w.moment) keeps_put law moment alone leaves (stayed_none m.core m.collection q) n).2.keeps.1

pub ended_put : (m : Moment) → Law m.core → MomentLaw m → m.copying ≡ false → m.phase ≡ Evacuating → (q : ℕ) → IsApart m.core m.collection q → (n : ℕ) → Stayed m.core m.collection q (ended (walked m n)).core (ended (walked m n)).collection
ended_put m law moment alone leaves q none n =
    let h = walk_put m q none law moment alone leaves n in
    cond_both (is_done (walked m n)) (record (walked m n).moment { phase = Idle }) (walked m n).moment (λ (t : Moment). Stayed m.core m.collection q t.core t.collection) (λ _. h) (λ _. h)

-- ---- marking and waiting
-- where cells say the same object, words and stored words the same, so does the world
abbrev pub marked_frame : State → State → State
marked_frame s t = record s { cell = t.cell; epoch = t.epoch; round = t.round; round_epoch = t.round_epoch; clear = t.clear }

pub framed_put : (s t : State) (q : ℕ) → t ≡ marked_frame s t → t.cell q ≡ s.cell q → StaysPut s t q
unfolding world_of
framed_put s t q rest same = record {
  cell = same;
  object = ap (λ (u : State). object_of u.word (u.stored q) q (read_of (t.cell q))) rest ∙ ap (λ w. object_of s.word (s.stored q) q (read_of w)) same;
  stored = λ i. ap (λ (u : State). u.stored q i) rest;
}

pub marking_frame : (m : Moment) (n : ℕ) → (after_marking m n).core ≡ marked_frame m.core (after_marking m n).core
marking_frame m n = ap (λ (t : Moment). t.core) (frame m n)

pub lacking_live : (m : Moment) (n p : ℕ) → Contains (newly_marked m n) p → Contains (live_among m.core m.collection) p
lacking_live m n p c = (filtered _ (live_among m.core m.collection) p (in_front n p (lacking m.core m.collection) c)).0

pub marking_put : (m : Moment) (n q : ℕ) → Law m.core → IsApart m.core m.collection q → Stayed m.core m.collection q (after_marking m n).core (after_marking m n).collection
marking_put m n q law none = record {
  put_there = framed_put m.core (after_marking m n).core q (marking_frame m n) (elim (member_or_apart q (newly_marked m n)) [
    | inl c ↦ absurd (apart_from m.core m.collection q q none (lacking_live m n q c) refl)
    | inr apart ↦ (is_marked m n (λ p. (law.cells.cell_read p).0)).others q apart
  ]);
  fewer = λ l c. subst (λ xs. Contains xs l) (marking_held m n) c;
}

pub looked_put : (m : Moment) (q k : ℕ) → StaysPut m.core (with_clear_below m.core k) q
looked_put m q k = framed_put m.core (with_clear_below m.core k) q refl refl

polled_put : (m : Moment) (q : ℕ) (o : Option ℕ) → Stayed m.core m.collection q (polled_to m o).core (polled_to m o).collection
polled_put m q None = record { put_there = looked_put m q m.core.mutators; fewer = λ l c. c }
polled_put m q (Some k) = record { put_there = looked_put m q k; fewer = λ l c. c }

pub polling_put : (m : Moment) (q : ℕ) → Stayed m.core m.collection q (after_polling m).core (after_polling m).collection
polling_put m q = polled_put m q (first_open m.core)

-- ---- turn after turn
keeps_turns : (m : Moment) (q : ℕ) → IsApart m.core m.collection q → KeepsTurns true (λ t tally. Stayed m.core m.collection q t.core t.collection)
keeps_turns m q none = record {
  learns = tt;
  beside = tt;
  marks = λ u n tally lawful is h. stayed_more m.core u.core (after_marking u n).core m.collection u.collection (after_marking u n).collection q h (marking_put u n q lawful.0 (still_apart m.core u.core m.collection u.collection q none h));
  looks = λ u k phase tally lawful is h. record { put_there = put_more m.core u.core (with_clear_below u.core k) q h.put_there (looked_put u q k); fewer = h.fewer };
  walks = λ u n tally law moment alone is h.
      stayed_more m.core u.core (walked u n).moment.core m.collection u.collection (walked u n).moment.collection q h (walk_put u q (still_apart m.core u.core m.collection u.collection q none h) law moment alone is n);
  ends = λ u tally h. h;
}

pub turns_put : (m : Moment) (q : ℕ) → Law m.core → MomentLaw m → m.copying ≡ false → is_idle m.phase ≡ false → IsApart m.core m.collection q → (n : ℕ) →
    Stayed m.core m.collection q (turns_made m n).moment.core (turns_made m n).moment.collection
turns_put m q law moment alone runs none n = turns_kept_exactly (λ t tally. Stayed m.core m.collection q t.core t.collection) (keeps_turns m q none) m n law moment alone runs (stayed_none m.core m.collection q)
