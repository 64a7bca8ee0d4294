-- What the device of a heap holds once objects have left their logs.
use Rattle.std.proofs.Common.{◌≡◌, ◌≢◌, inl, inr, ℕ, zero, suc, ◌+◌, true, false, cond, arith, refl, sym, ap, subst, ◌∙◌, List, [], ◌∷◌, Some, None}
use Rattle.std.proofs.lemmas.Bool.{cases_eq, cond_both, false≢true, lt-ltb}
use Rattle.far_word.specs.declared.mark.Marks.{Marks}
use Rattle.far_word.specs.declared.pointer.Place.{Place}
use Rattle.far_word.specs.declared.pointer.PtrWord.TheVariants.{Near, Far}
use Rattle.far_word.specs.declared.refused.Refused.{Refused as Refusal}
use Rattle.far_word.specs.Bytes.{bytes_of}
use Rattle.far_word.specs.Pointer.{IsPtr, read_of}
use Rattle.far_word.specs.Sizes.{size_of, words_for}
use Rattle.far_word.proofs.ByteLaws.{bytes_of-same}
use Rattle.far_word.proofs.PointerLaws.{read_back, read_says}
use Rattle.far_events.specs.events.Naming.{no_marks, unmarked}
use Rattle.far_events.specs.events.namings.Evicts.{with_kept}
use Rattle.far_events.specs.state.Law.{Law, is_dirty}
use Rattle.far_core.specs.state.Room.{room}
use Rattle.far_events.specs.state.State.{State, addr}
use Rattle.far_events.proofs.Cells.{unused}
use Rattle.far_events.proofs.Put.{put_other, put_same}
use Rattle.far_book.specs.book.Asking.{HasBytes, fault_of}
use Rattle.far_book.specs.book.Effects.{evicted, far_word, moved, near_word, with_free_cell}
use Rattle.far_book.specs.book.FarSide.{kept_len}
use Rattle.far_book.proofs.region.Evictions.{evicted_is, far_says}
use Rattle.far_book.proofs.region.Moved.{moved_is, no_copy_in_room}
use Rattle.far_book.proofs.region.Owns.{own_law}
use Rattle.far_evac.specs.declared.phase.Phase.TheVariants.{Evacuating, Idle}
use Rattle.far_evac.specs.Asked.{AsksAsKnown, AsksOnItsWay, AsksSo, IsRefusedWrite, SparesClean, WalksAsking}
use Rattle.far_evac.specs.Live.{is_empty, live_in}
use Rattle.far_evac.specs.Moment.{Moment, Tally, objects_in}
use Rattle.far_evac.specs.MomentLaw.{MomentLaw}
use Rattle.far_evac.specs.Walk.{Drops, Goes, Moves, Walked, Way, begun, dealt_first, dealt_so, ended, freed, is_done, left, passed, settled, walked, way_of}
use Rattle.far_evac.proofs.LeadingWalks.{GoesLawfully, first_goes}
use Rattle.far_evac.proofs.StepsAside.{layout}
use Rattle.far_evac.proofs.Tours.{core_so, goes_when, moves_when}
use Rattle.far_replay.specs.Far.{FarBytes, HoldsAs, WentFar, far_of}
use Rattle.far_replay.specs.Moment.{FarSide}
use Rattle.far_replay.proofs.FarReads.{FarLetsGo, FarWrites, refused_there, written_there}

-- ---- what was written
pub went : (d e : FarSide) (p : ℕ) → FarLetsGo d p e → (q : ℕ) → q ≢ p → far_of e q ≡ far_of d q
went d e p goes q other = goes.0.0.1 q other

module _ (s : State) (law : Law s) (p : ℕ) (bytes : List ℕ) (has : HasBytes s p bytes) where
  -- the words that stand at its place are known
  pub are_words : (len ds : ℕ) (place : Place) (m : Marks) → read_of (s.cell p) ≡ Some (Near len ds place m) → bytes ≡ bytes_of (λ i. s.word (addr place + 1 + i)) len
  are_words len ds place m near =
      let both : Some (Near has.len has.ds has.place has.marks) ≡ Some (Near len ds place m) = sym has.near ∙ near in
      let long : has.len ≡ len = cc in
      let there : has.place ≡ place = cc in
      has.are ∙ bytes_of-same has.row (λ i. s.word (addr has.place + 1 + i)) has.len (λ i lt. has.own i lt (law.spans.word_fits (addr has.place + 1 + i)))
      ∙ ap (λ (at : Place). bytes_of (λ i. s.word (addr at + 1 + i)) has.len) there ∙ ap (bytes_of (λ i. s.word (addr place + 1 + i))) long

-- ---- from a state on
-- of what it holds, with what the walk keeps: what has DIRTY had it
abbrev pub HoldsStill : State → State → FarBytes → FarBytes → ℕ → Type 0
HoldsStill s t held now p = (is_dirty (read_of (t.cell p)) ≡ true → is_dirty (read_of (s.cell p)) ≡ true) × HoldsAs s t held now p

module _ (s0 s : State) (held c : FarBytes) where
  went_on : (t : State) (now : FarBytes) (q : ℕ) → ((len ds : ℕ) (m : Marks) → read_of (s.cell q) ≡ Some (Far len ds m) → (k : Marks) × (read_of (t.cell q) ≡ Some (Far len ds k)) × (bytes_of (t.stored q) len ≡ bytes_of (s.stored q) len)) → now q ≡ c q →
      WentFar s0 s c q → WentFar s0 t now q
  went_on t now q still same (dirty, len, ds, m, far, there) = let x = still len ds m far in (dirty, len, ds, x.0, x.1, same ∙ there ∙ ap (λ bs. Some bs) (sym x.2))

  -- where nothing got DIRTY, it is to hold no more than before, and what was far is far still, with what is stored of it
  pub holds_on : (t : State) (now : FarBytes) (q : ℕ) → (is_dirty (read_of (t.cell q)) ≡ true → is_dirty (read_of (s.cell q)) ≡ true) → ((len : ℕ) → kept_len (read_of (t.cell q)) ≡ Some len → kept_len (read_of (s.cell q)) ≡ Some len) →
      ((len ds : ℕ) (m : Marks) → read_of (s.cell q) ≡ Some (Far len ds m) → (k : Marks) × (read_of (t.cell q) ≡ Some (Far len ds k)) × (bytes_of (t.stored q) len ≡ bytes_of (s.stored q) len)) → now q ≡ c q →
      HoldsStill s0 s held c q → HoldsStill s0 t held now q
  holds_on t now q dirt fewer still same (before, h) = (
    λ dirty. before (dirt dirty),
    λ len k. elim (h len (fewer len k)) [
      | inl x ↦ inl (same ∙ x.0, x.1)
      | inr w ↦ inr (went_on t now q still same w)
    ],
  )

  -- where nothing was made of it
  pub holds_beside : (t : State) (now : FarBytes) (q : ℕ) → t.cell q ≡ s.cell q → t.stored q ≡ s.stored q → now q ≡ c q → HoldsStill s0 s held c q → HoldsStill s0 t held now q
  holds_beside t now q cell stored same h = holds_on t now q (λ dirty. ap (λ w. is_dirty (read_of w)) (sym cell) ∙ dirty) (λ len k. ap (λ w. kept_len (read_of w)) (sym cell) ∙ k)
      (λ len ds m far. (m, ap read_of cell ∙ far, ap (λ (f : ℕ → ℕ). bytes_of f len) stored)) same h

  -- a near object that lies elsewhere now, or went far unwritten
  holds_still : (t : State) (now : FarBytes) (p len ds : ℕ) (place : Place) (m : Marks) → read_of (s.cell p) ≡ Some (Near len ds place m) → (is_dirty (read_of (t.cell p)) ≡ true → is_dirty (read_of (s.cell p)) ≡ true) → kept_len (read_of (t.cell p)) ≡ kept_len (read_of (s.cell p)) → now p ≡ c p →
      HoldsStill s0 s held c p → HoldsStill s0 t held now p
  holds_still t now p len ds place m near dirt kept same h = holds_on t now p dirt (λ n k. sym kept ∙ k) (λ n d k far. let odd : Some (Near len ds place m) ≡ Some (Far n d k) = sym near ∙ far in absurd cc) same h

  module _ (l p : ℕ) (d e : FarSide) (is : (q : ℕ) → far_of d q ≡ c q) where
    -- an object has gone its way
    holds_at : (way : Way) → GoesLawfully s l p way → AsksSo FarSide FarWrites FarLetsGo s p way d e → (way ≡ Goes → SparesClean FarSide s p d e) → HoldsStill s0 s held c p → HoldsStill s0 (core_so s p way) held (far_of e) p
    holds_at Drops x asks spares h = (
      λ dirty. absurd (false≢true (sym (ap (λ w. is_dirty (read_of w)) (put_same s.cell p 0 p refl) ∙ ap is_dirty unused) ∙ dirty)),
      λ len k. let odd : None ≡ Some len = sym (ap (λ w. kept_len (read_of w)) (put_same s.cell p 0 p refl) ∙ ap kept_len unused) ∙ k in absurd cc,
    )
    holds_at (Moves to) x asks spares h =
        let why = moves_when x.marks.dropped x.marks.hot (room s (size_of x.len) false) to x.is in
        let says = (read_says (s.cell p) (Near x.len x.ds x.place x.marks) (x.law.cells.cell_read p).0 x.near).0 in
        let fits = layout s x.law x.len x.ds to false says.0 says.1 says.2 why.1 in
        let made = moved_is s p x.len x.ds x.place to x.marks x.near why.0 x.evac fits
        (no_copy_in_room s (own_law s x.law) p (size_of x.len) x.place to false (omega arith) (omega (arith, says.1)) why.1) in
        let cell : read_of ((moved s p to).cell p) ≡ Some (Near x.len x.ds to (unmarked x.marks.dirty)) =
        ap (λ (t : State). read_of (t.cell p)) made ∙ ap read_of (put_same s.cell p (near_word x.marks.dirty x.len x.ds to) p refl) ∙ read_back (Near x.len x.ds to (unmarked x.marks.dirty)) fits in
        holds_still (moved s p to) (far_of e) p x.len x.ds x.place x.marks x.near (λ dirty. ap is_dirty x.near ∙ sym (ap is_dirty cell) ∙ dirty) (ap kept_len cell ∙ sym (ap kept_len x.near)) (ap (λ (f : FarSide). far_of f p) asks ∙ is p) h
    holds_at Goes x asks spares h =
        let alive = goes_when x.marks.dropped x.marks.hot (room s (size_of x.len) false) x.is in
        let says = (read_says (s.cell p) (Near x.len x.ds x.place x.marks) (x.law.cells.cell_read p).0 x.near).0 in
        let fits : IsPtr (Far x.len x.ds no_marks) = (says.0, says.1, says.2, refl, refl) in
        let made = evicted_is s p x.len x.ds x.place fits x.marks x.near alive x.evac in
        let cell : read_of ((evicted s p).cell p) ≡ Some (Far x.len x.ds no_marks) = ap (λ (t : State). read_of (t.cell p)) made ∙ ap read_of (put_same s.cell p (far_word x.len x.ds) p refl) ∙ far_says x.len x.ds fits in
        let clean : is_dirty (read_of ((evicted s p).cell p)) ≡ true → ⊥ = λ dirty. false≢true (sym (ap is_dirty cell) ∙ dirty) in
        let row : (evicted s p).stored p ≡ with_kept s.word s.stored p (addr x.place + 1) (words_for x.len) =
        ap (λ (t : State). t.stored p) made ∙ put_same s.stored p (with_kept s.word s.stored p (addr x.place + 1) (words_for x.len)) p refl in
        let spared : is_dirty (read_of (s.cell p)) ≡ false → e ≡ d → HoldsStill s0 (evicted s p) held (far_of e) p = (λ none same.
        holds_still (evicted s p) (far_of e) p x.len x.ds x.place x.marks x.near (λ dirty. absurd (clean dirty))
        (ap kept_len cell ∙ sym (ap kept_len x.near ∙ ap (λ b. cond b None (Some x.len)) (sym (ap is_dirty x.near) ∙ none)))
        (ap (λ (f : FarSide). far_of f p) same ∙ is p) h) in
        elim asks [
          | inl wrote ↦ elim (is_dirty (read_of (s.cell p))) as (λ b. is_dirty (read_of (s.cell p)) ≡ b → HoldsStill s0 (evicted s p) held (far_of e) p) [
            | true ↦ λ dirty. (
              λ again. absurd (clean again),
              λ len k. inr (
                h.0 dirty,
                x.len,
                x.ds,
                no_marks,
                cell,
                (written_there d e p wrote.0 wrote.2).0
                    ∙ ap (λ bs. Some bs) (are_words s x.law p wrote.0 wrote.1 x.len x.ds x.place x.marks x.near
                    ∙ bytes_of-same (λ i. s.word (addr x.place + 1 + i)) (with_kept s.word s.stored p (addr x.place + 1) (words_for x.len)) x.len
                    (λ i lt. sym (ap (λ b. cond b (s.word (addr x.place + 1 + i)) (s.stored p i)) (lt-ltb i (words_for x.len) lt))))
                    ∙ ap (λ (f : ℕ → ℕ). Some (bytes_of f x.len)) (sym row),
              ),
            )
            | false ↦ λ none. spared none (spares refl none)
          ] refl
          | inr same ↦ spared same.1 same.0
        ]

    holds_other : (way : Way) → GoesLawfully s l p way → AsksSo FarSide FarWrites FarLetsGo s p way d e → (q : ℕ) → q ≢ p → HoldsStill s0 s held c q → HoldsStill s0 (core_so s p way) held (far_of e) q
    holds_other Drops x (inl goes) q other h = holds_beside (with_free_cell s p) (far_of e) q (put_other s.cell p 0 q other) refl (went d e p goes q other ∙ is q) h
    holds_other Drops x (inr (between, wrote, goes, alive)) q other h =
        holds_beside (with_free_cell s p) (far_of e) q (put_other s.cell p 0 q other) refl (went between e p goes q other ∙ (written_there d between p wrote.0 wrote.2).1 q other ∙ is q) h
    holds_other (Moves to) x asks q other h =
        let why = moves_when x.marks.dropped x.marks.hot (room s (size_of x.len) false) to x.is in
        let says = (read_says (s.cell p) (Near x.len x.ds x.place x.marks) (x.law.cells.cell_read p).0 x.near).0 in
        let made = moved_is s p x.len x.ds x.place to x.marks x.near why.0 x.evac (layout s x.law x.len x.ds to false says.0 says.1 says.2 why.1)
        (no_copy_in_room s (own_law s x.law) p (size_of x.len) x.place to false (omega arith) (omega (arith, says.1)) why.1) in
        holds_beside (moved s p to) (far_of e) q (ap (λ (t : State). t.cell q) made ∙ put_other s.cell p (near_word x.marks.dirty x.len x.ds to) q other) (ap (λ (t : State). t.stored q) made)
        (ap (λ (f : FarSide). far_of f q) asks ∙ is q) h
    holds_other Goes x asks q other h =
        let alive = goes_when x.marks.dropped x.marks.hot (room s (size_of x.len) false) x.is in
        let says = (read_says (s.cell p) (Near x.len x.ds x.place x.marks) (x.law.cells.cell_read p).0 x.near).0 in
        let made = evicted_is s p x.len x.ds x.place (says.0, says.1, says.2, refl, refl) x.marks x.near alive x.evac in
        let same : far_of e q ≡ far_of d q = elim asks [
          | inl wrote ↦ (written_there d e p wrote.0 wrote.2).1 q other
          | inr clean ↦ ap (λ (f : FarSide). far_of f q) clean.0
        ] in
        holds_beside (evicted s p) (far_of e) q (ap (λ (t : State). t.cell q) made ∙ put_other s.cell p (far_word x.len x.ds) q other)
        (ap (λ (t : State). t.stored q) made ∙ put_other s.stored p (with_kept s.word s.stored p (addr x.place + 1) (words_for x.len)) q other) (same ∙ is q) h

    pub holds_so : (way : Way) → GoesLawfully s l p way → AsksSo FarSide FarWrites FarLetsGo s p way d e → (way ≡ Goes → SparesClean FarSide s p d e) → ((q : ℕ) → HoldsStill s0 s held c q) → (q : ℕ) → HoldsStill s0 (core_so s p way) held (far_of e) q
    holds_so way x asks spares h q = elim (cases_eq q p) [
      | inl same ↦ subst (λ k. HoldsStill s0 (core_so s p way) held (far_of e) k) (sym same) (holds_at way x asks spares (h p))
      | inr other ↦ holds_other way x asks q other (h q)
    ]

-- ---- logs that are given back
abbrev Same : Walked → Walked → Type 0
Same w v = (w.moment.core.cell ≡ v.moment.core.cell) × (w.moment.core.stored ≡ v.moment.core.stored)

passed_same : (v : Walked) (ls : List ℕ) → Same (passed v ls) v
passed_same v [] = (refl, refl)
passed_same v (l ∷ ls) = cond_both (is_empty (live_in v.moment.core l)) (passed (freed v l) ls) (record v { moment = record v.moment { collection = l ∷ ls } }) (λ w. Same w v)
    (λ none. passed_same (freed v l) ls) (λ some. (refl, refl))

settled_same : (w : Walked) → Same (settled w) w
settled_same w = passed_same w w.moment.collection

dealt_core : (w : Walked) (p : ℕ) (way : Way) → (dealt_so w p way).moment.core ≡ core_so w.moment.core p way
dealt_core w p Drops = refl
dealt_core w p (Moves place) = refl
dealt_core w p Goes = refl

-- ---- a walk, of what was so from a state on
module _ (s0 : State) (held : FarBytes) (m : Moment) (law : Law m.core) (moment : MomentLaw m) (alone : m.copying ≡ false) (leaves : m.phase ≡ Evacuating) (d : FarSide)
    (before : (q : ℕ) → HoldsStill s0 m.core held (far_of d) q) where
  abbrev Holds : Walked → FarSide → Type 0
  Holds w e = (q : ℕ) → HoldsStill s0 w.moment.core held (far_of e) q

  one_holds : (u t : Walked) (k : ℕ) (between e : FarSide) → u ≡ walked m k → Holds u between → t ≡ dealt_first u (left u) → (ps : List ℕ) → left u ≡ ps → AsksAsKnown FarSide FarWrites FarLetsGo u ps between e → Holds t e
  one_holds u t k between e is h next [] first asks = absurd asks
  one_holds u t k between e is h next (p ∷ ps) first asks =
      let way = way_of u.moment.core (read_of (u.moment.core.cell p)) in
      let (l, x) = subst (λ (w : Walked). left w ≡ p ∷ ps → (l : ℕ) × GoesLawfully w.moment.core l p (way_of w.moment.core (read_of (w.moment.core.cell p)))) (sym is) (λ e. first_goes m k law moment alone leaves p ps e) first in
      let w = dealt_so u p way in
      let to : t ≡ settled w = next ∙ ap (dealt_first u) first in
      let same = settled_same w in
      let core = dealt_core u p way in
      let gone = holds_so s0 u.moment.core held (far_of between) l p between e (λ q. refl) way x asks.0 asks.1 h in
      λ q. subst (λ (v : Walked). HoldsStill s0 v.moment.core held (far_of e) q) (sym to)
      (holds_beside s0 (core_so u.moment.core p way) held (far_of e) (settled w).moment.core (far_of e) q
      (ap (λ (f : ℕ → ℕ). f q) same.0 ∙ ap (λ (s : State). s.cell q) core) (ap (λ (f : ℕ → ℕ → ℕ). f q) same.1 ∙ ap (λ (s : State). s.stored q) core) refl (gone q))

  pub walk_holds : (k : ℕ) (t : Walked) (e : FarSide) → WalksAsking (Unit {0}) FarSide FarWrites FarLetsGo m k t d e → (t ≡ walked m k) × Holds t e
  walk_holds zero t e h = let is = h.2 tt in let same = settled_same (begun m) in (
    is,
    λ q. subst (λ (w : Walked). HoldsStill s0 w.moment.core held (far_of e) q) (sym is)
        (holds_beside s0 m.core held (far_of d) (settled (begun m)).moment.core (far_of e) q (ap (λ (f : ℕ → ℕ). f q) same.0) (ap (λ (f : ℕ → ℕ → ℕ). f q) same.1) (ap (λ (f : FarSide). far_of f q) h.1) (before q)),
  )
  walk_holds (suc k) t e (u, word, between, walks, deals, asks) =
      let (is, holds) = walk_holds k u between walks in
      let exact = asks.1 tt in (
        exact.0 ∙ ap (λ (w : Walked). dealt_first w (left w)) is,
        one_holds u t k between e is holds exact.0 (left u) refl exact.1,
      )

  -- as a call of the evacuator says it
  pub way_holds : (t : Moment) (tally : Tally) (e : FarSide) → AsksOnItsWay (Unit {0}) FarSide FarWrites FarLetsGo m t tally d e → (q : ℕ) → HoldsStill s0 t.core held (far_of e) q
  way_holds t tally e (w, walks, ends, counts) q =
      let h = (walk_holds (objects_in tally) w e walks).1 q in
      let core : t.core ≡ w.moment.core = ap (λ (x : Moment). x.core) ends ∙ ended_core w in
      subst (λ (s : State). HoldsStill s0 s held (far_of e) q) (sym core) h
    where
      ended_core : (w : Walked) → (ended w).core ≡ w.moment.core
      ended_core w = cond_both (is_done w) (record w.moment { phase = Idle }) w.moment (λ (t : Moment). t.core ≡ w.moment.core) (λ _. refl) (λ _. refl)

  -- and where it stopped at an object whose write was refused
  pub stop_holds : (t : Moment) (tally : Tally) (why : Refusal) (e : FarSide) → IsRefusedWrite (Unit {0}) FarSide FarWrites FarLetsGo m t tally why d e → (q : ℕ) → HoldsStill s0 t.core held (far_of e) q
  stop_holds t tally why e h q =
      let stood = (walk_holds (objects_in tally) h.stood h.between h.walks).1 q in
      let (bytes, has, wrote) = h.write in
      let core : t.core ≡ h.stood.moment.core = ap (λ (x : Moment). x.core) (h.exact tt) in
      holds_beside s0 h.stood.moment.core held (far_of h.between) t.core (far_of e) q (ap (λ (s : State). s.cell q) core) (ap (λ (s : State). s.stored q) core) (refused_there h.between e h.next bytes (fault_of why) wrote q) stood
