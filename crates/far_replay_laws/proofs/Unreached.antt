-- An object that lies, after a walk or the turns of a round, in the log in which it lay wasn't dealt with, and stays as it was: what was dealt with lies in no log of the collection set then.
use Rattle.std.proofs.Common.{◌≡◌, ℕ, Bool, true, false, Option, Some, None, List, ◌∷◌, arith, ap, sym, refl, ◌∙◌, subst, inl, inr}
use Rattle.std.specs.Prelude.{Contains, ◌⊎◌}
use Rattle.std.proofs.lemmas.Bool.{cases_eq, cond_both}
use Rattle.far_word.specs.declared.mark.Marks.{Marks}
use Rattle.far_word.specs.declared.pointer.Place.{Place}
use Rattle.far_word.specs.declared.pointer.PtrWord.{PtrWord}
use Rattle.far_word.specs.declared.pointer.PtrWord.TheVariants.{Free, Near, Far}
use Rattle.far_word.specs.Pointer.{read_of}
use Rattle.far_word.specs.Sizes.{size_of}
use Rattle.far_word.proofs.PointerLaws.{read_says}
use Rattle.far_log.proofs.Members.{here, there}
use Rattle.far_events.specs.events.Naming.{no_marks, unmarked}
use Rattle.far_core.specs.laws.Rooms.{IsRoom, RoomIs}
use Rattle.far_events.specs.state.Law.{Law, is_dirty}
use Rattle.far_core.specs.state.Room.{room}
use Rattle.far_events.specs.state.State.{State}
use Rattle.far_core.specs.world.WorldOf.{object_of, world_of}
use Rattle.far_events.proofs.Put.{put_same}
use Rattle.far_core.proofs.RoomLaws.{room_right}
use Rattle.far_book.specs.book.Dealing.{has_evac}
use Rattle.far_book.proofs.region.EvictingLaw.{evicting}
use Rattle.far_book.proofs.region.MovesReached.{moving}
use Rattle.far_book.proofs.region.Places.{next_unsealed}
use Rattle.far_evac.specs.declared.phase.Phase.TheVariants.{Idle, Evacuating}
use Rattle.far_evac.specs.Laws.{but_evac}
use Rattle.far_evac.specs.Marking.{after_marking, newly_marked}
use Rattle.far_evac.specs.Moment.{Moment}
use Rattle.far_evac.specs.MomentLaw.{MomentLaw, is_idle}
use Rattle.far_evac.specs.Turns.{turns_made}
use Rattle.far_evac.specs.Walk.{Drops, Goes, Moves, Walked, Way, ended, is_done, walked}
use Rattle.far_evac.proofs.Dealt.{free_place}
use Rattle.far_evac.proofs.LeadingWalks.{GoesLawfully, KeepsLawfully, lifted_lawfully}
use Rattle.far_evac.proofs.Marks.{is_marked}
use Rattle.far_evac.proofs.Tours.{goes_when, moves_when, core_so}
use Rattle.far_replay_laws.specs.Left.{CellBy, GainsNoneButEvac, StaysMarked, StaysPut}
use Rattle.far_replay_laws.specs.Steps.{LiesIn}
use Rattle.far_replay_laws.proofs.CountedOnce.{all_at, member_or_apart}
use Rattle.far_replay_laws.proofs.LeftByWalks.{IsApart, Stayed, gone_put, lay_there, lies_lawfully, looked_put, marked_frame, marking_frame, put_more, put_none, released_put, stayed_none}
use Rattle.far_evac.specs.Ready.{IsOfRound, Ready}
use Rattle.far_evac.specs.RoundSteps.{with_clear_below}
use Rattle.far_book.specs.book.Releasing.{released}
use Rattle.far_evac.proofs.RoomTurns.{marking_held}
use Rattle.far_evac.proofs.TurnSteps.{KeepsTurns, turns_kept_exactly}

-- ---- cells that say the same but for EVAC
abbrev marks_or : Marks → Option PtrWord → Marks
marks_or other (Some (Near len ds place marks)) = marks
marks_or other (Some (Far len ds marks)) = marks
marks_or other _ = other

abbrev pub EvacIs : Bool → Marks → Marks → Type 0
EvacIs evac a b = (b ≡ a) ⊎ (b ≡ record a { evac = evac })

with_evac : (a b : Marks) (evac : Bool) → b.evac ≡ evac → record b { evac = false } ≡ record a { evac = false } → b ≡ record a { evac = evac }
with_evac a b evac has same = λ i. record { hot = (same i).hot; evac = has i; moved = (same i).moved; dropped = (same i).dropped; dirty = (same i).dirty }

pub evac_alone : (evac : Bool) (o n : Option PtrWord) → has_evac n ≡ evac → but_evac n ≡ but_evac o → CellBy (EvacIs evac) o n
evac_alone evac None None has same = tt
evac_alone evac (Some Free) (Some Free) has same = tt
evac_alone evac (Some (Near len ds place a)) (Some (Near n d at b)) has same =
    let bare : record b { evac = false } ≡ record a { evac = false } = ap (marks_or a) same in
    (cc, cc, cc, inr (with_evac a b evac has bare))
evac_alone evac (Some (Far len ds a)) (Some (Far n d b)) has same = let bare : b ≡ a = ap (marks_or a) same in (cc, cc, inl bare)
evac_alone evac _ _ has same = absurd cc

pub cell_still : (Keeps : Marks → Marks → Type 0) → ((a : Marks) → Keeps a a) → (o : Option PtrWord) → CellBy Keeps o o
cell_still Keeps same (Some (Near len ds place a)) = (refl, refl, refl, same a)
cell_still Keeps same (Some (Far len ds a)) = (refl, refl, same a)
cell_still Keeps same _ = tt

-- the word's object is the same
same_object : (word stored : ℕ → ℕ) (p : ℕ) (o : Option PtrWord) → object_of word stored p o ≡ object_of word stored p (but_evac o)
same_object word stored p None = refl
same_object word stored p (Some Free) = refl
same_object word stored p _ = refl

pub evac_object : (s t : State) → t ≡ marked_frame s t → (p : ℕ) → but_evac (read_of (t.cell p)) ≡ but_evac (read_of (s.cell p)) → (world_of t).object p ≡ (world_of s).object p
unfolding world_of
evac_object s t rest p same =
    ap (λ (u : State). object_of u.word (u.stored p) p (read_of (t.cell p))) rest
    ∙ same_object s.word (s.stored p) p (read_of (t.cell p)) ∙ ap (object_of s.word (s.stored p) p) same ∙ sym (same_object s.word (s.stored p) p (read_of (s.cell p)))

-- one cell after another
evac_more : (a b c : Marks) → GainsNoneButEvac a b → GainsNoneButEvac b c → GainsNoneButEvac a c
evac_more a b c (inl e) (inl f) = inl (f ∙ e)
evac_more a b c (inl e) (inr f) = inr (f ∙ ap (λ (x : Marks). record x { evac = true }) e)
evac_more a b c (inr e) (inl f) = inr (f ∙ e)
evac_more a b c (inr e) (inr f) = inr (f ∙ ap (λ (x : Marks). record x { evac = true }) e)

cell_more : (o n u : Option PtrWord) → CellBy GainsNoneButEvac o n → CellBy GainsNoneButEvac n u → CellBy GainsNoneButEvac o u
cell_more None None u a b = b
cell_more (Some Free) (Some Free) u a b = b
cell_more (Some (Near len ds place j)) (Some (Near n d at k)) None a b = absurd b
cell_more (Some (Near len ds place j)) (Some (Near n d at k)) (Some Free) a b = absurd b
cell_more (Some (Near len ds place j)) (Some (Near n d at k)) (Some (Near x y to m)) a b = (b.0 ∙ a.0, b.1 ∙ a.1, b.2 ∙ a.2, evac_more j k m a.3 b.3)
cell_more (Some (Near len ds place j)) (Some (Near n d at k)) (Some (Far x y m)) a b = absurd b
cell_more (Some (Far len ds j)) (Some (Far n d k)) None a b = absurd b
cell_more (Some (Far len ds j)) (Some (Far n d k)) (Some Free) a b = absurd b
cell_more (Some (Far len ds j)) (Some (Far n d k)) (Some (Near x y to m)) a b = absurd b
cell_more (Some (Far len ds j)) (Some (Far n d k)) (Some (Far x y m)) a b = (b.0 ∙ a.0, b.1 ∙ a.1, evac_more j k m a.2 b.2)
cell_more _ _ u a b = absurd a

-- it lies at the same place
near_then : (n : Option PtrWord) (len ds : ℕ) (place : Place) (a : Marks) → CellBy GainsNoneButEvac (Some (Near len ds place a)) n → (b : Marks) × (n ≡ Some (Near len ds place b))
near_then (Some (Near n d at b)) len ds place a h = (b, λ i. Some (Near (h.0 i) (h.1 i) (h.2 i) b))
near_then _ len ds place a h = absurd h

near_before : (o : Option PtrWord) (len ds : ℕ) (place : Place) (b : Marks) → CellBy GainsNoneButEvac o (Some (Near len ds place b)) → (a : Marks) × (o ≡ Some (Near len ds place a))
near_before (Some (Near n d at a)) len ds place b h = (a, λ i. Some (Near (sym h.0 i) (sym h.1 i) (sym h.2 i) a))
near_before _ len ds place b h = absurd h

-- ---- what stays under its marks, or EVAC beside them
put_marked : (s t : State) (q : ℕ) → StaysPut s t q → StaysMarked s t q
put_marked s t q h = record {
  cell = subst (λ w. CellBy GainsNoneButEvac (read_of (s.cell q)) (read_of w)) (sym h.cell) (cell_still GainsNoneButEvac (λ a. inl refl) (read_of (s.cell q)));
  object = h.object;
  stored = h.stored;
}

pub marked_none : (s : State) (q : ℕ) → StaysMarked s s q
marked_none s q = put_marked s s q (put_none s q)

marked_more : (s t u : State) (q : ℕ) → StaysMarked s t q → StaysMarked t u q → StaysMarked s u q
marked_more s t u q a b = record {
  cell = cell_more (read_of (s.cell q)) (read_of (t.cell q)) (read_of (u.cell q)) a.cell b.cell;
  object = b.object ∙ a.object;
  stored = λ i. b.stored i ∙ a.stored i;
}

marked_lay : (s t : State) (q l : ℕ) → StaysMarked s t q → LiesIn t q l → LiesIn s q l
marked_lay s t q l h (len, ds, place, marks, near, log) =
    let was = near_before (read_of (s.cell q)) len ds place marks (subst (λ o. CellBy GainsNoneButEvac (read_of (s.cell q)) o) near h.cell) in
    (len, ds, place, was.0, was.1, log)

marked_lies : (s t : State) (q l : ℕ) → StaysMarked s t q → LiesIn s q l → LiesIn t q l
marked_lies s t q l h (len, ds, place, marks, near, log) =
    let is = near_then (read_of (t.cell q)) len ds place marks (subst (λ o. CellBy GainsNoneButEvac o (read_of (t.cell q))) near h.cell) in
    (len, ds, place, is.0, is.1, log)

put_lay : (s t : State) (q l : ℕ) → StaysPut s t q → LiesIn t q l → LiesIn s q l
put_lay s t q l h = lay_there s t q l h.cell

put_lies : (s t : State) (q l : ℕ) → StaysPut s t q → LiesIn s q l → LiesIn t q l
put_lies s t q l h = lay_there t s q l (sym h.cell)

-- ---- an object's fate, from a moment with this collection set to one with that: it has stayed; or it has left its log, and lies in none of the collection set
pub record HasLeft (s t : State) (held : List ℕ) (q : ℕ) : Type 0 where
  pub apart : IsApart t held q
  pub away : (l : ℕ) → LiesIn s q l → ¬ LiesIn t q l

pub record Fate (Stays : State → State → ℕ → Type 0) (s : State) (logs : List ℕ) (q : ℕ) (t : State) (held : List ℕ) : Type 0 where
  pub fewer : (l : ℕ) → Contains held l → Contains logs l
  pub still : IsApart s logs q → Stays s t q
  pub either : Stays s t q ⊎ HasLeft s t held q

-- what lies where it lay has stayed
pub has_stayed : (Stays : State → State → ℕ → Type 0) (s : State) (logs : List ℕ) (q : ℕ) (t : State) (held : List ℕ) → Fate Stays s logs q t held → (l : ℕ) → LiesIn s q l → LiesIn t q l → Stays s t q
has_stayed Stays s logs q t held h l was is = elim h.either [
  | inl stays ↦ stays
  | inr gone ↦ absurd (gone.away l was is)
]

-- one fate after another
module _ (Stays : State → State → ℕ → Type 0) (more : (s t u : State) (q : ℕ) → Stays s t q → Stays t u q → Stays s u q)
    (lay : (s t : State) (q l : ℕ) → Stays s t q → LiesIn t q l → LiesIn s q l) (lies : (s t : State) (q l : ℕ) → Stays s t q → LiesIn s q l → LiesIn t q l) where
  apart_still : (s t : State) (logs held : List ℕ) (q : ℕ) → Fate Stays s logs q t held → Stays s t q → IsApart s logs q → IsApart t held q
  apart_still s t logs held q h stays none l member there = none l (h.fewer l member) (lay s t q l stays there)

  fate_more : (s t u : State) (a b c : List ℕ) (q : ℕ) → Fate Stays s a q t b → Fate Stays t b q u c → Fate Stays s a q u c
  fate_more s t u a b c q x y = record {
    fewer = λ l m. x.fewer l (y.fewer l m);
    still = λ none. (let first = x.still none in more s t u q first (y.still (apart_still s t a b q x first none)));
    either = elim x.either [
      | inl stays ↦ elim y.either [
        | inl stay ↦ inl (more s t u q stays stay)
        | inr gone ↦ inr record { apart = gone.apart; away = λ l was is. gone.away l (lies s t q l stays was) is }
      ]
      | inr gone ↦ (let rest = y.still gone.apart in inr record {
        apart = λ l member is. gone.apart l (y.fewer l member) (lay t u q l rest is);
        away = λ l was is. gone.away l was (lay t u q l rest is);
      })
    ];
  }

put_fate : (s t u : State) (a b c : List ℕ) (q : ℕ) → Fate StaysPut s a q t b → Fate StaysPut t b q u c → Fate StaysPut s a q u c
put_fate s t u a b c q x y = fate_more StaysPut put_more put_lay put_lies s t u a b c q x y

pub marked_fate : (s t u : State) (a b c : List ℕ) (q : ℕ) → Fate StaysMarked s a q t b → Fate StaysMarked t b q u c → Fate StaysMarked s a q u c
marked_fate s t u a b c q x y = fate_more StaysMarked marked_more marked_lay marked_lies s t u a b c q x y

fate_stayed : (s t : State) (a b : List ℕ) (q : ℕ) → Stayed s a q t b → Fate StaysPut s a q t b
fate_stayed s t a b q h = record { fewer = h.fewer; still = λ none. h.put_there; either = inl h.put_there }

pub fate_marked : (s t : State) (a b : List ℕ) (q : ℕ) → Fate StaysPut s a q t b → Fate StaysMarked s a q t b
fate_marked s t a b q h = record {
  fewer = h.fewer;
  still = λ none. put_marked s t q (h.still none);
  either = elim h.either [ inl stays ↦ inl (put_marked s t q stays) | inr gone ↦ inr gone ];
}

fate_none : (s : State) (held : List ℕ) (q : ℕ) → Fate StaysMarked s held q s held
fate_none s held q = record { fewer = λ l c. c; still = λ none. marked_none s q; either = inl (marked_none s q) }

-- ---- an object is dealt with
module _ (s : State) (l : ℕ) (ls : List ℕ) (p : ℕ) (ready : Ready s (l ∷ ls)) where
  -- then it lies in no log of the collection set
  found_off : (way : Way) → GoesLawfully s l p way → (k : ℕ) → LiesIn (core_so s p way) p k → ¬ Contains (l ∷ ls) k
  found_off Drops x k (len, ds, place, marks, lies, log) held = free_place len ds place marks (ap read_of (sym (put_same s.cell p 0 p refl)) ∙ lies)
  found_off (Moves to) x k (len, ds, place, marks, lies, log) held =
      let why = moves_when x.marks.dropped x.marks.hot (room s (size_of x.len) false) to x.is in
      let way = moving s p x.len x.ds x.place to x.marks x.law x.near x.quiet why.0 x.evac why.1 in
      let says = (read_says (s.cell p) (Near x.len x.ds x.place x.marks) (x.law.cells.cell_read p).0 x.near).0 in
      let same : Some (Near x.len x.ds to (unmarked (is_dirty (read_of (s.cell p))))) ≡ Some (Near len ds place marks) = sym way.3.cell ∙ lies in
      let places : to ≡ place = cc in
      let right : IsRoom s (size_of x.len) false to = subst (RoomIs s (size_of x.len) false) why.1 (room_right s x.law (size_of x.len) false (omega (arith, says))) in
      let mine : to.log ≡ k = ap (λ (x : Place). x.log) places ∙ log in
      next_unsealed s to right.next (ap s.kind mine ∙ (all_at (IsOfRound s) k (l ∷ ls) ready.logs held).0)
  found_off Goes x k (len, ds, place, marks, lies, log) held =
      let alive = goes_when x.marks.dropped x.marks.hot (room s (size_of x.len) false) x.is in
      let way = evicting s p x.len x.ds x.place x.marks x.law x.pointer x.near x.quiet x.evac alive in
      let odd : Some (Far x.len x.ds no_marks) ≡ Some (Near len ds place marks) = sym way.3.cell ∙ lies in
      absurd cc

  module _ (way : Way) (x : GoesLawfully s l p way) where
    abbrev then : State
    then = core_so s p way

    one_log : (k : ℕ) → LiesIn s p k → l ≡ k
    one_log k (len, ds, place, marks, lies, log) =
        let same : Some (Near x.len x.ds x.place x.marks) ≡ Some (Near len ds place marks) = sym x.near ∙ lies in
        let places : x.place ≡ place = cc in
        sym x.log ∙ ap (λ (y : Place). y.log) places ∙ log

    left_fate : Fate StaysPut s (l ∷ ls) p then (l ∷ ls)
    left_fate = record {
      fewer = λ k c. c;
      still = λ none. absurd (none l (here l ls) (lies_lawfully s l p way x));
      either = inr record { apart = λ k held lies. found_off way x k lies held; away = λ k was lies. found_off way x k lies (subst (Contains (l ∷ ls)) (one_log k was) (here l ls)) };
    }

    gone_fate : (q : ℕ) → Fate StaysPut s (l ∷ ls) q then (l ∷ ls)
    gone_fate q = elim (cases_eq q p) [
      | inl e ↦ subst (λ y. Fate StaysPut s (l ∷ ls) y then (l ∷ ls)) (sym e) left_fate
      | inr other ↦ fate_stayed s then (l ∷ ls) (l ∷ ls) q record { put_there = gone_put s l p q other way x; fewer = λ k c. c }
    ]

-- ---- object after object
module _ (m : Moment) (q : ℕ) where
  abbrev HasFate : Walked → Type 0
  HasFate w = Fate StaysPut m.core m.collection q w.moment.core w.moment.collection

  keeps_fate : KeepsLawfully HasFate
  keeps_fate = record {
    gives = λ w l ls h. put_fate m.core w.moment.core (released w.moment.core l) m.collection (l ∷ ls) ls q h
        (fate_stayed w.moment.core (released w.moment.core l) (l ∷ ls) ls q record { put_there = released_put w.moment.core l q; fewer = λ k c. there k l ls c });
    deals = λ w l ls p way ready x h. put_fate m.core w.moment.core (core_so w.moment.core p way) m.collection (l ∷ ls) (l ∷ ls) q h (gone_fate w.moment.core l ls p ready way x q);
  }

module _ (m : Moment) (law : Law m.core) (moment : MomentLaw m) (alone : m.copying ≡ false) (leaves : m.phase ≡ Evacuating) (q : ℕ) where
  walk_fate : (n : ℕ) → HasFate m q (walked m n)
  walk_fate n = (lifted_lawfully m (HasFate m q) (keeps_fate m q) law moment alone leaves (fate_stayed m.core m.core m.collection m.collection q (stayed_none m.core m.collection q)) n).2.keeps.1

  pub ended_fate : (n : ℕ) → Fate StaysPut m.core m.collection q (ended (walked m n)).core (ended (walked m n)).collection
  ended_fate n = cond_both (is_done (walked m n)) (record (walked m n).moment { phase = Idle }) (walked m n).moment (λ (t : Moment). Fate StaysPut m.core m.collection q t.core t.collection) (λ _. walk_fate n) (λ _. walk_fate n)

-- ---- marking and waiting
marking_marked : (m : Moment) (n q : ℕ) → Law m.core → StaysMarked m.core (after_marking m n).core q
marking_marked m n q law =
    let t : State = (after_marking m n).core in
    let is = is_marked m n (λ p. (law.cells.cell_read p).0) in
    let frame : t ≡ marked_frame m.core t = marking_frame m n in
    record {
      cell = elim (member_or_apart q (newly_marked m n)) [
        | inl c ↦ evac_alone true (read_of (m.core.cell q)) (read_of (t.cell q)) (all_at (λ p. has_evac (read_of (t.cell p)) ≡ true) q (newly_marked m n) is.now c) (is.same q)
        | inr apart ↦ subst (λ w. CellBy GainsNoneButEvac (read_of (m.core.cell q)) (read_of w)) (sym (is.others q apart)) (cell_still GainsNoneButEvac (λ a. inl refl) (read_of (m.core.cell q)))
      ];
      object = evac_object m.core t frame q (is.same q);
      stored = λ i. ap (λ (u : State). u.stored q i) frame;
    }

marking_fate : (m : Moment) (n q : ℕ) → Law m.core → Fate StaysMarked m.core m.collection q (after_marking m n).core (after_marking m n).collection
marking_fate m n q law = record {
  fewer = λ l c. subst (λ xs. Contains xs l) (marking_held m n) c;
  still = λ none. marking_marked m n q law;
  either = inl (marking_marked m n q law);
}

-- ---- turn after turn
keeps_turns : (m : Moment) (q : ℕ) → KeepsTurns true (λ t tally. Fate StaysMarked m.core m.collection q t.core t.collection)
keeps_turns m q = record {
  learns = tt;
  beside = tt;
  marks = λ u n tally lawful is h. marked_fate m.core u.core (after_marking u n).core m.collection u.collection (after_marking u n).collection q h (marking_fate u n q lawful.0);
  looks = λ u k phase tally lawful is h. marked_fate m.core u.core (with_clear_below u.core k) m.collection u.collection u.collection q h
      (fate_marked u.core (with_clear_below u.core k) u.collection u.collection q (fate_stayed u.core (with_clear_below u.core k) u.collection u.collection q record { put_there = looked_put u q k; fewer = λ l c. c }));
  walks = λ u n tally law moment alone is h. let w : Walked = walked u n in
      marked_fate m.core u.core w.moment.core m.collection u.collection w.moment.collection q h (fate_marked u.core w.moment.core u.collection w.moment.collection q (walk_fate u law moment alone is q n));
  ends = λ u tally h. h;
}

pub turns_fate : (m : Moment) (q : ℕ) → Law m.core → MomentLaw m → m.copying ≡ false → is_idle m.phase ≡ false → (n : ℕ) → Fate StaysMarked m.core m.collection q (turns_made m n).moment.core (turns_made m n).moment.collection
turns_fate m q law moment alone runs n = turns_kept_exactly (λ t tally. Fate StaysMarked m.core m.collection q t.core t.collection) (keeps_turns m q) m n law moment alone runs (fate_none m.core m.collection q)
