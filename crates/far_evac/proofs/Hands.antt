-- What a call of the book leaves is known of the state that its effect says.
use Rattle.far_word.proofs.PointerLaws.{read_back}
use Rattle.std.proofs.Common.{◌≡◌, ℕ, ◌+◌, ◌<◌, true, false, cond, nat_lt, Some, inl, inr, arith, ap, sym, refl, ◌∙◌, subst, Bool}
use Rattle.std.proofs.lemmas.Bool.{cases_eq, false≢true}
use Rattle.std.proofs.lemmas.Bool.Decides.{nat_tests}
use Rattle.far_word.specs.declared.mark.Marks.{Marks}
use Rattle.far_word.specs.declared.pointer.Place.{Place}
use Rattle.far_word.specs.declared.pointer.PtrWord.TheVariants.{Near, Far}
use Rattle.far_word.specs.Pointer.{IsPtr, read_of}
use Rattle.far_word.specs.Sizes.{words_for}
use Rattle.far_events.specs.events.Copies.{data_at}
use Rattle.far_events.specs.events.Naming.{is_dropped, no_marks, unmarked}
use Rattle.far_events.specs.events.NewSpans.{with_span}
use Rattle.far_events.specs.state.Law.{Law}
use Rattle.far_events.specs.state.Spans.{spans_of}
use Rattle.far_events.specs.state.State.{State, addr}
use Rattle.far_events.specs.events.namings.Evicts.{with_kept}
use Rattle.far_events.proofs.Copied.{NoCopy}
use Rattle.far_events.proofs.Put.{put_both, put_other, put_same}
use Rattle.far_hand.specs.Finds.{Finds, marks_in, body_of}
use Rattle.far_hand.specs.Known.{Forgets, IsKnown}
use Rattle.far_book.specs.book.Dealing.{Leaves, LeavesSpans}
use Rattle.far_book.specs.book.Effects.{evicted, far_word, moved, near_word, with_free_cell, with_written_span}
use Rattle.far_book.specs.book.Evicting.{GoesFar}
use Rattle.far_book.specs.book.Own.{own_part}
use Rattle.far_book.specs.book.Renaming.{seen}
use Rattle.far_hand.proofs.Finding.{finds_is, finds_more, finds_same, near_found}
use Rattle.far_book.proofs.region.Calls.{put_put}
use Rattle.far_book.proofs.region.Coming.{far_found}
use Rattle.far_book.proofs.region.Evictions.{evicted_is, far_says, sent}
use Rattle.far_book.proofs.region.Moved.{moved_is}
use Rattle.far_book.proofs.region.Owns.{own_headers, own_spans}
use Rattle.far_evac.specs.AnyHand.{Knows}
use Rattle.far_evac.proofs.Bools.{neither}

-- ---- one thing after the other
pub knows_more : (s t u : State) → Knows s t → Knows t u → Knows s u
knows_more s t u first then = record {
  found = λ p. finds_more (s.cell p) (t.cell p) (u.cell p) (first.found p) (then.found p);
  spans = λ l. then.spans l ∙ first.spans l;
  stored = λ p len ds i marks far lt known.
      let same = first.stored p len ds i marks far lt known in
      let there = far_found (s.cell p) (t.cell p) len ds marks (first.found p) far in
      then.stored p len ds i there.0 there.1 lt (subst IsKnown (sym same) known) ∙ same;
  rest = then.rest ∙ ap (λ (x : State). record x { cell = u.cell; word = u.word; stored = u.stored }) first.rest;
}

-- a word is found in a cell
pub knows_seen : (s : State) (p word : ℕ) → Finds (s.cell p) word → Knows s (seen s p word)
unfolding spans_of
knows_seen s p word finds = record {
  found = λ q. put_both (λ w. Finds (s.cell q) w) s.cell p word q (λ e. subst (λ x. Finds (s.cell x) word) (sym e) finds) (λ _. finds_same (s.cell q));
  spans = λ l. refl;
  stored = λ q len ds i marks far lt known. refl;
  rest = refl;
}

-- ---- words that are no header were read, written or forgotten
module _ (s t : State) (is : t ≡ record s { word = t.word }) (headers : (a : ℕ) → s.starts a ≡ true → t.word a ≡ s.word a) (law : Law (own_part t)) where
  spans_known : (l : ℕ) → spans_of t l ≡ spans_of s l
  spans_known l =
      let own : own_part t ≡ own_part s = own_headers s t is headers in
      own_spans t law l ∙ ap (λ o. spans_of o l) own ∙ sym (own_spans s (subst Law own law) l)

  same_cells : t.cell ≡ s.cell
  same_cells = ap (λ (u : State). u.cell) is

  same_stored : t.stored ≡ s.stored
  same_stored = ap (λ (u : State). u.stored) is

  pub knows_words : Knows s t
  knows_words = record {
    found = λ p. finds_is (s.cell p) (t.cell p) (ap (λ cell. cell p) same_cells);
    spans = spans_known;
    stored = λ p len ds i marks far lt known. ap (λ stored. stored p i) same_stored;
    rest = is ∙ (λ i. record s { cell = (sym same_cells) i; word = t.word; stored = (sym same_stored) i });
  }

begun_still : (s t : State) → t ≡ record s { word = t.word } → (a : ℕ) → s.starts a ≡ true → t.starts a ≡ true
begun_still s t is a begun = ap (λ (u : State). u.starts a) is ∙ begun

pub knows_left : (s t : State) → Leaves s t → Law (own_part t) → Knows s t
knows_left s t leaves law = knows_words s t leaves.0 (λ a begun. leaves.1.headers a (begun_still s t leaves.0 a begun)) law

pub knows_forgotten : (s t : State) → t ≡ record s { word = t.word } → Forgets s t → Law (own_part t) → Knows s t
knows_forgotten s t is forgot law = knows_words s t is (λ a begun. forgot.headers a (begun_still s t is a begun)) law

pub knows_spans : (s t : State) → LeavesSpans s t → Law (own_part t) → Knows s t
knows_spans s t leaves law = knows_words s t leaves.is leaves.headers law

-- a near word with DIRTY more is found
near_finds : (d e : Bool) (len ds : ℕ) (to : Place) → IsPtr (Near len ds to no_marks) → (d ≡ true → e ≡ true) → Finds (near_word d len ds to) (near_word e len ds to)
near_finds d e len ds to layout up =
    let a = read_back (Near len ds to (unmarked d)) layout in
    let b = read_back (Near len ds to (unmarked e)) layout in record {
      body = ap body_of b ∙ sym (ap body_of a);
      hot = λ h. absurd (false≢true (sym (ap (λ o. (marks_in o).hot) a) ∙ h));
      moved = λ h. absurd (false≢true (sym (ap (λ o. (marks_in o).moved) a) ∙ h));
      dropped = λ h. absurd (false≢true (sym (ap (λ o. (marks_in o).dropped) a) ∙ h));
      dirty = λ h. ap (λ o. (marks_in o).dirty) b ∙ up (sym (ap (λ o. (marks_in o).dirty) a) ∙ h);
    }

-- ---- what an effect makes of a state doesn't hang on marks that were found before
pub freed_seen : (s : State) (p word : ℕ) → with_free_cell (seen s p word) p ≡ with_free_cell s p
freed_seen s p word = λ i. record s { cell = put_put s.cell p word 0 i }

module _ (s : State) (p word len ds : ℕ) (from : Place) (marks : Marks) (near : read_of (s.cell p) ≡ Some (Near len ds from marks)) (finds : Finds (s.cell p) word)
    (alive : is_dropped (read_of word) ≡ false) (evac : marks.evac ≡ true) where
  found : (more : Marks) × (read_of ((seen s p word).cell p) ≡ Some (Near len ds from more)) × (more.dropped ≡ false) × (more.evac ≡ true)
  found =
      let x = near_found (s.cell p) word finds len ds from marks near in
      (x.marks, ap read_of (put_same s.cell p word p refl) ∙ x.near, sym (ap is_dropped x.near) ∙ alive, x.same ∙ evac)

  alive_before : marks.dropped ≡ false
  alive_before =
      let x = near_found (s.cell p) word finds len ds from marks near in
      neither x.marks.dropped marks.dropped (λ h. sym (ap (λ o. (marks_in o).dropped) x.near) ∙ finds.dropped (ap (λ o. (marks_in o).dropped) near ∙ h)) (sym (ap is_dropped x.near) ∙ alive)

  -- DIRTY is there at least where it was known
  up : marks.dirty ≡ true → found.0.dirty ≡ true
  up h = sym (ap (λ o. (marks_in o).dirty) (sym (ap read_of (put_same s.cell p word p refl)) ∙ found.1)) ∙ finds.dirty (ap (λ o. (marks_in o).dirty) near ∙ h)

  pub moved_more : (to : Place) → IsPtr (Near len ds to no_marks) → NoCopy s.copying p from to → Knows (moved s p to) (moved (seen s p word) p to)
  moved_more to layout uncopied =
      let old = near_word marks.dirty len ds to in
      let new = near_word found.0.dirty len ds to in
      let first = moved_is s p len ds from to marks near alive_before evac layout uncopied in
      let is : moved (seen s p word) p to ≡ seen (moved s p to) p new =
      moved_is (seen s p word) p len ds from to found.0 found.1 found.2 found.3 layout uncopied
      ∙ (λ i. record (with_span (with_written_span s p len ds to (data_at s.word from)) p new len to) { cell = put_put s.cell p word new i })
      ∙ sym (ap (λ (x : State). seen x p new) first ∙ (λ i. record (with_span (with_written_span s p len ds to (data_at s.word from)) p old len to) { cell = put_put s.cell p old new i })) in
      let cell : (moved s p to).cell p ≡ old = ap (λ (x : State). x.cell p) first ∙ put_same s.cell p old p refl in
      subst (Knows (moved s p to)) (sym is) (knows_seen (moved s p to) p new (subst (λ v. Finds v new) (sym cell) (near_finds marks.dirty found.0.dirty len ds to layout up)))

  pub evicted_seen : IsPtr (Far len ds no_marks) → evicted (seen s p word) p ≡ evicted s p
  evicted_seen layout =
      evicted_is (seen s p word) p len ds from layout found.0 found.1 found.2 found.3
      ∙ (λ i. record (sent s p len ds from) { cell = put_put s.cell p word (far_word len ds) i })
      ∙ sym (evicted_is s p len ds from layout marks near alive_before evac)

-- ---- an object that went far
module _ (s t : State) (p len ds : ℕ) (from : Place) (marks : Marks) (near : read_of (s.cell p) ≡ Some (Near len ds from marks)) (layout : IsPtr (Far len ds no_marks))
    (is : evicted s p ≡ sent s p len ds from) (goes : GoesFar s t p) (law : Law (own_part t)) where
  abbrev there : State
  there = sent s p len ds from

  leads : t ≡ record there { word = t.word; stored = t.stored }
  leads = goes.leads ∙ ap (λ (u : State). record u { word = t.word; stored = t.stored }) is

  far_spans : (l : ℕ) → spans_of t l ≡ spans_of there l
  unfolding spans_of
  far_spans = spans_known (record there { stored = t.stored }) t leads (λ a begun. goes.keeps.headers a (ap (λ (u : State). u.starts a) leads ∙ begun)) law

  kept_here : (i : ℕ) → i < words_for len → there.stored p i ≡ s.word (addr from + 1 + i)
  kept_here i lt =
      let below : nat_lt i (words_for len) ≡ true = grind (arith, nat_tests, lt) in
      ap (λ stored. stored i) (put_same s.stored p (with_kept s.word s.stored p (addr from + 1) (words_for len)) p refl)
      ∙ ap (λ b. cond b (s.word (addr from + 1 + i)) (s.stored p i)) below

  far_stored : (q n d i : ℕ) (k : Marks) → read_of (there.cell q) ≡ Some (Far n d k) → i < words_for n → IsKnown (there.stored q i) → t.stored q i ≡ there.stored q i
  far_stored q n d i k far lt known = elim (cases_eq q p) [
    | inl e ↦
        let here : read_of (there.cell q) ≡ Some (Far len ds no_marks) = ap read_of (put_same s.cell p (far_word len ds) q e) ∙ far_says len ds layout in
        let both : Some (Far len ds no_marks) ≡ Some (Far n d k) = sym here ∙ far in
        let lens : len ≡ n = cc in
        let within : i < words_for len = subst (λ x. i < words_for x) (sym lens) lt in
        let word = kept_here i within in
        let same : there.stored q i ≡ s.word (addr from + 1 + i) = ap (λ x. there.stored x i) e ∙ word in
        ap (λ x. t.stored x i) e ∙ (goes.stored len ds from marks near i within).1 (subst IsKnown same known) ∙ sym same
    | inr other ↦ ap (λ stored. stored i) (goes.others q other ∙ sym (put_other s.stored p (with_kept s.word s.stored p (addr from + 1) (words_for len)) q other))
  ]

  known_there : Knows there t
  known_there = record {
    found = λ q. finds_is (there.cell q) (t.cell q) (ap (λ (u : State). u.cell q) leads);
    spans = far_spans;
    stored = far_stored;
    rest = leads ∙ (λ i. record there { cell = (ap (λ (u : State). u.cell) (sym leads)) i; word = t.word; stored = t.stored });
  }

  pub knows_far : Knows (evicted s p) t
  knows_far = subst (λ u. Knows u t) (sym is) known_there
