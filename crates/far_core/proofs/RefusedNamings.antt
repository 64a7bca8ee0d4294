-- Why namings are refused: each cause speaks against what the form of a legal naming is.
use Rattle.std.proofs.Common.{◌≡◌, ◌≢◌, ℕ, ◌+◌, ◌-◌, ◌*◌, ◌/◌, ◌%◌, ◌^◌, ◌<◌, ◌≤◌, ◌∙◌, Bool, true, false, arith, ap, refl, sym, subst, inl, inr, Option, Some, None}
use Rattle.std.specs.Prelude.{◌⊎◌}
use Rattle.std.proofs.lemmas.Bool.{false≢true, true≢false}
use Rattle.std.proofs.lemmas.Nat.{pow_pos}
use Rattle.far_word.specs.declared.mark.Marks.{Marks}
use Rattle.far_word.specs.declared.pointer.Place.{Place}
use Rattle.far_word.specs.declared.pointer.PtrWord.{PtrWord}
use Rattle.far_word.specs.declared.pointer.PtrWord.TheVariants.{Free, Near, Far}
use Rattle.far_word.specs.declared.sizes.TheConstants.{CELLS, LOG_WORDS}
use Rattle.far_word.specs.Mark.{field}
use Rattle.far_word.specs.Pointer.{read_of}
use Rattle.far_word.specs.Sizes.{size_of, words_for}
use Rattle.far_word.proofs.PointerLaws.{read_says}
use Rattle.far_events.specs.declared.event.Event.TheVariants.{Name}
use Rattle.far_events.specs.declared.naming.Naming.{Naming}
use Rattle.far_events.specs.declared.naming.Naming.TheVariants.{Places, Retires, Evicts, Stays, Moves, Fetches}
use Rattle.far_events.specs.events.Copies.{Alike, data_at, EndsPadded}
use Rattle.far_events.specs.events.Legal.{Legal, IsNewSpan, IsNext}
use Rattle.far_events.specs.events.Naming.{IsNaming, is_dropped, naming_row, no_marks, unmarked}
use Rattle.far_events.specs.events.Quiet.{has_move, IsQuiet}
use Rattle.far_core.specs.laws.Namings.{IsPlain}
use Rattle.far_core.specs.laws.RefusedNamings.{NewWordIsRefused, ReachedIsRefused, StayIsRefused, PlaceIsRefused, IsElsewhere, NamingsAreRefused}
use Rattle.far_events.specs.events.Copied.{WasCopied}
use Rattle.far_events.proofs.Copied.{copied_elsewhere, copied_quiet}
use Rattle.far_events.specs.state.Law.{Law, Blank, head_len}
use Rattle.far_events.specs.state.State.{State, addr}
use Rattle.far_events.proofs.Cells.{held_near, unused}
use Rattle.far_core.proofs.NamingFacts.{drop_bit, namings_are_plain}
use Rattle.far_events.proofs.NewSpans.{at_tail, unsealed}
use Rattle.far_events.proofs.Quieting.{quiet_unheld}
use Rattle.far_core.proofs.RefusedEvents.{refused, over}

-- ---- by the words alone
old_reads : (form : Naming) (a b : Option PtrWord) → IsNaming form a b → a ≢ None
old_reads (Places len ds place) a b h none = let odd : Some Free ≡ None = sym h.0 ∙ none in cc
old_reads Retires a b h none = false≢true (ap is_dropped (sym none) ∙ h.0)
old_reads (Evicts len place) a b (ds, m, was, alive, wanted, is) none = let odd : Some (Near len ds place m) ≡ None = sym was ∙ none in cc
old_reads Stays a b (len, ds, place, m, was, alive, moved, out, is) none = let odd : Some (Near len ds place m) ≡ None = sym was ∙ none in cc
old_reads (Moves len ds from to) a b ((m, was, alive, other), is) none = let odd : Some (Near len ds from m) ≡ None = sym was ∙ none in cc
old_reads (Fetches len ds place) a b ((m, was, alive), is) none = let odd : Some (Far len ds m) ≡ None = sym was ∙ none in cc

new_reads : (form : Naming) (a b : Option PtrWord) → IsNaming form a b → b ≢ None
new_reads (Places len ds place) a b h none = let odd : Some (Near len ds place (unmarked true)) ≡ None = sym h.1 ∙ none in cc
new_reads Retires a b h none = let odd : Some Free ≡ None = sym h.1 ∙ none in cc
new_reads (Evicts len place) a b (ds, m, was, alive, wanted, is) none = let odd : Some (Far len ds no_marks) ≡ None = sym is ∙ none in cc
new_reads Stays a b (len, ds, place, m, was, alive, moved, out, is) none = let odd : Some (Near len ds place (unmarked m.dirty)) ≡ None = sym is ∙ none in cc
new_reads (Moves len ds from to) a b (h, is) none = let odd : Some (Near len ds to (unmarked h.0.dirty)) ≡ None = sym is ∙ none in cc
new_reads (Fetches len ds place) a b (h, is) none = let odd : Some (Near len ds place no_marks) ≡ None = sym is ∙ none in cc

-- what goes far was near, and the book wanted its log
abbrev WasNear : Option PtrWord → Type 0
WasNear a = (len ds : ℕ) × (place : Place) × (m : Marks) × (a ≡ Some (Near len ds place m)) × (m.evac ≡ true)

was_near : (form : Naming) (a b : Option PtrWord) (n d : ℕ) (k : Marks) → IsNaming form a b → b ≡ Some (Far n d k) → WasNear a
was_near (Places len ds place) a b n d k h e = let odd : Some (Near len ds place (unmarked true)) ≡ Some (Far n d k) = sym h.1 ∙ e in absurd cc
was_near Retires a b n d k h e = let odd : Some Free ≡ Some (Far n d k) = sym h.1 ∙ e in absurd cc
was_near (Evicts len place) a b n d k (ds, m, was, alive, wanted, is) e = (len, ds, place, m, was, wanted)
was_near Stays a b n d k (len, ds, place, m, was, alive, moved, out, is) e = let odd : Some (Near len ds place (unmarked m.dirty)) ≡ Some (Far n d k) = sym is ∙ e in absurd cc
was_near (Moves len ds from to) a b n d k (h, is) e = let odd : Some (Near len ds to (unmarked h.0.dirty)) ≡ Some (Far n d k) = sym is ∙ e in absurd cc
was_near (Fetches len ds place) a b n d k (h, is) e = let odd : Some (Near len ds place no_marks) ≡ Some (Far n d k) = sym is ∙ e in absurd cc

-- what is free from then on was dropped
was_dropped : (form : Naming) (a b : Option PtrWord) → IsNaming form a b → b ≡ Some Free → is_dropped a ≡ true
was_dropped (Places len ds place) a b h e = let odd : Some (Near len ds place (unmarked true)) ≡ Some Free = sym h.1 ∙ e in absurd cc
was_dropped Retires a b h e = h.0
was_dropped (Evicts len place) a b (ds, m, was, alive, wanted, is) e = let odd : Some (Far len ds no_marks) ≡ Some Free = sym is ∙ e in absurd cc
was_dropped Stays a b (len, ds, place, m, was, alive, moved, out, is) e = let odd : Some (Near len ds place (unmarked m.dirty)) ≡ Some Free = sym is ∙ e in absurd cc
was_dropped (Moves len ds from to) a b (h, is) e = let odd : Some (Near len ds to (unmarked h.0.dirty)) ≡ Some Free = sym is ∙ e in absurd cc
was_dropped (Fetches len ds place) a b (h, is) e = let odd : Some (Near len ds place no_marks) ≡ Some Free = sym is ∙ e in absurd cc

-- DIRTY of a near word, by what was there before: a new object has it, one that was near as it had it, one that was far hasn't
abbrev dirty_after : Option PtrWord → Bool
dirty_after None = true
dirty_after (Some Free) = true
dirty_after (Some (Near len ds place m)) = m.dirty
dirty_after (Some (Far len ds m)) = false

near_dirty : (form : Naming) (a b : Option PtrWord) (n d : ℕ) (at : Place) (k : Marks) → IsNaming form a b → b ≡ Some (Near n d at k) → k.dirty ≡ dirty_after a
near_dirty (Places len ds place) a b n d at k h e =
    let same : Some (Near len ds place (unmarked true)) ≡ Some (Near n d at k) = sym h.1 ∙ e in
    let marks : unmarked true ≡ k = cc in
    sym (ap (λ (y : Marks). y.dirty) marks) ∙ sym (ap dirty_after h.0)
near_dirty Retires a b n d at k h e = let odd : Some Free ≡ Some (Near n d at k) = sym h.1 ∙ e in absurd cc
near_dirty (Evicts len place) a b n d at k (ds, m, was, alive, wanted, is) e = let odd : Some (Far len ds no_marks) ≡ Some (Near n d at k) = sym is ∙ e in absurd cc
near_dirty Stays a b n d at k (len, ds, place, m, was, alive, moved, out, is) e =
    let same : Some (Near len ds place (unmarked m.dirty)) ≡ Some (Near n d at k) = sym is ∙ e in
    let marks : unmarked m.dirty ≡ k = cc in
    sym (ap (λ (y : Marks). y.dirty) marks) ∙ sym (ap dirty_after was)
near_dirty (Moves len ds from to) a b n d at k (h, is) e =
    let same : Some (Near len ds to (unmarked h.0.dirty)) ≡ Some (Near n d at k) = sym is ∙ e in
    let marks : unmarked h.0.dirty ≡ k = cc in
    sym (ap (λ (y : Marks). y.dirty) marks) ∙ sym (ap dirty_after h.1)
near_dirty (Fetches len ds place) a b n d at k (h, is) e =
    let same : Some (Near len ds place no_marks) ≡ Some (Near n d at k) = sym is ∙ e in
    let marks : no_marks ≡ k = cc in
    sym (ap (λ (y : Marks). y.dirty) marks) ∙ sym (ap dirty_after h.1)

module _ (s : State) (law : Law s) (p old new : ℕ) where
  by_plain : old < 2 ^ 64 → new < 2 ^ 64 → (IsPlain old new → ⊥) → ¬ Legal s (Name p old new)
  by_plain a b never h = never (namings_are_plain s p old new a b h)

  went_far : (n d : ℕ) (k : Marks) → Legal s (Name p old new) → read_of new ≡ Some (Far n d k) → WasNear (read_of old)
  went_far n d k h e = was_near h.1.0 (read_of old) (read_of new) n d k h.1.1 e

  named_dirty : (n d : ℕ) (at : Place) (k : Marks) → Legal s (Name p old new) → read_of new ≡ Some (Near n d at k) → k.dirty ≡ dirty_after (read_of old)
  named_dirty n d at k h is = near_dirty h.1.0 (read_of old) (read_of new) n d at k h.1.1 is

  pub new_word_refused : old < 2 ^ 64 → new < 2 ^ 64 → NewWordIsRefused s p old new
  new_word_refused a b = record {
    past = λ le. refused s law (Name p old new) (λ h. omega (arith, h.0, le));
    old_off_layout = λ none. refused s law (Name p old new) (λ h. old_reads h.1.0 _ _ h.1.1 none);
    new_off_layout = λ none. refused s law (Name p old new) (λ h. new_reads h.1.0 _ _ h.1.1 none);
    marked = λ ne. refused s law (Name p old new) (by_plain a b (λ h. elim h [ inl x ↦ ne (ap (λ w. field w 59 4) x.0) | inr x ↦ ne x.1 ]));
    other_length = λ some more ne. refused s law (Name p old new) (by_plain a b (λ h. elim h [ inl x ↦ more x.0 | inr x ↦ elim x.2 [ inl none ↦ some none | inr same ↦ ne same.0 ] ]));
    other_structure = λ some more ne. refused s law (Name p old new) (by_plain a b (λ h. elim h [ inl x ↦ more x.0 | inr x ↦ elim x.2 [ inl none ↦ some none | inr same ↦ ne same.1 ] ]));
    freed_alive = λ none alive. refused s law (Name p old new) (λ h.
        let was : is_dropped (read_of old) ≡ true = was_dropped h.1.0 (read_of old) (read_of new) h.1.1 (ap read_of none ∙ unused) in
        let odd : 1 ≡ 0 = sym (drop_bit old a (read_of old) refl was) ∙ alive in omega (arith, odd));
    kept_dropped = λ some dropped. refused s law (Name p old new)
        (by_plain a b (λ h. elim h [ inl x ↦ some x.0 | inr x ↦ (let odd : 1 ≡ 0 = sym dropped ∙ x.0 in omega (arith, odd)) ]));
    far_from_nothing = λ len ds k none is. refused s law (Name p old new) (λ h.
        let x = went_far len ds k h is in
        let odd : Some Free ≡ Some (Near x.0 x.1 x.2 x.3) = sym unused ∙ sym (ap read_of none) ∙ x.4 in cc);
    far_twice = λ len ds n d m k was is. refused s law (Name p old new) (λ h.
        let x = went_far len ds k h is in
        let odd : Some (Far n d m) ≡ Some (Near x.0 x.1 x.2 x.3) = sym was ∙ x.4 in cc);
    far_unwanted = λ len ds n d place m k was out is. refused s law (Name p old new) (λ h.
        let x = went_far len ds k h is in
        let same : Some (Near n d place m) ≡ Some (Near x.0 x.1 x.2 x.3) = sym was ∙ x.4 in
        let marks : m ≡ x.3 = cc in
        false≢true (sym out ∙ ap (λ (y : Marks). y.evac) marks ∙ x.5));
    new_clean = λ n d at k none is clean. refused s law (Name p old new) (λ h. false≢true (sym clean ∙ named_dirty n d at k h is ∙ ap (λ w. dirty_after (read_of w)) none ∙ ap dirty_after unused));
    fetched_dirty = λ len ds n d at m k was is dirty. refused s law (Name p old new) (λ h. false≢true (sym (named_dirty len ds at k h is ∙ ap dirty_after was) ∙ dirty));
    other_dirty = λ len ds n d from to m k was is ne. refused s law (Name p old new) (λ h. ne (named_dirty len ds to k h is ∙ ap dirty_after was));
  }

-- ---- by the object
-- a near object without DROP and MOVE is named anew only where it is quiet
was_quiet : (s : State) → Law s → (p new : ℕ) (form : Naming) (a b : Option PtrWord) (len ds : ℕ) (place : Place) (m : Marks) → IsNaming form a b → (naming_row s p new form).Legal →
    a ≡ Some (Near len ds place m) → m.dropped ≡ false → m.moved ≡ false → IsQuiet s p
was_quiet s law p new (Places n d at) a b len ds place m h legal e alive still = let odd : Some Free ≡ Some (Near len ds place m) = sym h.0 ∙ e in absurd cc
was_quiet s law p new Retires a b len ds place m h legal e alive still = absurd (false≢true (sym alive ∙ sym (ap is_dropped e) ∙ h.0))
was_quiet s law p new (Evicts n at) a b len ds place m h legal e alive still = legal
was_quiet s law p new Stays a b len ds place m (n, d, at, k, was, kept, moved, out, is) legal e alive still =
    absurd (false≢true (sym still ∙ sym (ap has_move e) ∙ ap has_move was ∙ moved))
was_quiet s law p new (Moves n d from to) a b len ds place m h legal e alive still = elim legal [ inl moves ↦ moves.quiet | inr has ↦ copied_quiet s law p from to has.0 has.1 has.2 ]
was_quiet s law p new (Fetches n d at) a b len ds place m ((k, was, kept), is) legal e alive still = let odd : Some (Far n d k) ≡ Some (Near len ds place m) = sym was ∙ e in absurd cc

module _ (s : State) (law : Law s) (p old new : ℕ) where
  -- what the cell's quiet says, where it has no MOVE
  record Unreached (place : Place) (m : Marks) : Type 0 where
    pub wanted : m.evac ≡ true
    pub chosen : s.round place.log ≡ true
    pub seen : s.clear (p / CELLS) ≡ true

  unreached : (len ds : ℕ) (place : Place) (m : Marks) → IsQuiet s p → read_of (s.cell p) ≡ Some (Near len ds place m) → m.moved ≡ false → Unreached place m
  unreached len ds place m (inl moved) e still = absurd (false≢true (sym still ∙ sym (ap has_move e) ∙ moved))
  unreached len ds place m (inr (n, d, at, k, was, evac, round, clear)) e still =
      let same : Some (Near n d at k) ≡ Some (Near len ds place m) = sym was ∙ e in
      let there : at ≡ place = cc in
      let marks : k ≡ m = cc in
      record { wanted = ap (λ (x : Marks). x.evac) (sym marks) ∙ evac; chosen = ap (λ (x : Place). s.round x.log) (sym there) ∙ round; seen = clear }

  quiet_now : (len ds : ℕ) (place : Place) (m : Marks) → Legal s (Name p old new) → s.cell p ≡ old → read_of old ≡ Some (Near len ds place m) → m.dropped ≡ false → m.moved ≡ false →
      Unreached place m
  quiet_now len ds place m h is near alive still =
      unreached len ds place m (was_quiet s law p new h.1.0 (read_of old) (read_of new) len ds place m h.1.1 h.1.2 near alive still) (ap read_of is ∙ near) still

  pub reached_refused : ReachedIsRefused s p old new
  reached_refused = record {
    viewed = λ place is rests. refused s law (Name p old new) (λ h.
        let x = held_near _ place (law.views.held_names p place rests) in
        let quiet = was_quiet s law p new h.1.0 (read_of old) (read_of new) x.len x.ds place x.marks h.1.1 h.1.2 (ap read_of (sym is) ∙ x.near) x.kept x.unmoved in
        let odd : Some place ≡ None = sym rests ∙ quiet_unheld s law p quiet in cc);
    unwanted = λ len ds place m is near alive still out. refused s law (Name p old new) (λ h. false≢true (sym out ∙ (quiet_now len ds place m h is near alive still).wanted));
    outside = λ len ds place m is near alive still out. refused s law (Name p old new) (λ h. false≢true (sym out ∙ (quiet_now len ds place m h is near alive still).chosen));
    unseen = λ len ds place m is near alive still out. refused s law (Name p old new) (λ h. false≢true (sym out ∙ (quiet_now len ds place m h is near alive still).seen));
  }

-- ---- by the place
-- a new span is taken: what stands there
pub record Spanned (s : State) (p : ℕ) (a : Option PtrWord) (len ds : ℕ) (to : Place) : Type 0 where
  pub span : IsNewSpan s p len ds to
  pub blank : a ≡ Some Free → Blank s.word len to
  pub copied : (n d : ℕ) (from : Place) (m : Marks) → a ≡ Some (Near n d from m) → Alike (data_at s.word to) (data_at s.word from) (words_for len)
  pub fetched : (n d : ℕ) (m : Marks) → a ≡ Some (Far n d m) → s.honest ≡ true → Alike (data_at s.word to) (s.stored p) (words_for len)
  pub padded : 0 < len → EndsPadded s.word len to

same_spanned : (s : State) (p : ℕ) (a : Option PtrWord) (n d len ds : ℕ) (at to : Place) (j k : Marks) → Some (Near n d at j) ≡ Some (Near len ds to k) → Spanned s p a n d at → Spanned s p a len ds to
same_spanned s p a n d len ds at to j k e h =
    let x : n ≡ len = cc in
    let y : d ≡ ds = cc in
    let z : at ≡ to = cc in
    subst (λ l. Spanned s p a l ds to) x (subst (λ t. Spanned s p a n t to) y (subst (λ (w : Place). Spanned s p a n d w) z h))

pub spanned : (s : State) (p new : ℕ) (form : Naming) (a b : Option PtrWord) (len ds : ℕ) (to : Place) (k : Marks) → IsNaming form a b → (naming_row s p new form).Legal →
    b ≡ Some (Near len ds to k) → ((n d : ℕ) (m : Marks) → a ≢ Some (Near n d to m)) → ((from : Place) → ¬ WasCopied s p from to) → Spanned s p a len ds to
spanned s p new (Places n d at) a b len ds to k h legal e elsewhere uncopied = same_spanned s p a n d len ds at to (unmarked true) k (sym h.1 ∙ e) record {
  span = legal.0;
  blank = λ _. legal.1;
  copied = λ l t from m is. let odd : Some Free ≡ Some (Near l t from m) = sym h.0 ∙ is in absurd cc;
  fetched = λ l t m is. let odd : Some Free ≡ Some (Far l t m) = sym h.0 ∙ is in absurd cc;
  padded = λ some. let last : words_for n - 1 < words_for n = omega (arith, some) in subst (λ x. x < 2 ^ (8 * (n - 8 * (words_for n - 1)))) (sym (legal.1 (words_for n - 1) last)) (pow_pos _);
}
spanned s p new Retires a b len ds to k h legal e elsewhere uncopied = let odd : Some Free ≡ Some (Near len ds to k) = sym h.1 ∙ e in absurd cc
spanned s p new (Evicts n at) a b len ds to k (d, m, was, alive, wanted, is) legal e elsewhere uncopied = let odd : Some (Far n d no_marks) ≡ Some (Near len ds to k) = sym is ∙ e in absurd cc
spanned s p new Stays a b len ds to k (n, d, at, m, was, alive, moved, out, is) legal e elsewhere uncopied =
    let same : Some (Near n d at (unmarked m.dirty)) ≡ Some (Near len ds to k) = sym is ∙ e in
    let there : at ≡ to = cc in
    absurd (elsewhere n d m (was ∙ ap (λ x. Some (Near n d x m)) there))
spanned s p new (Moves n d from at) a b len ds to k ((m, was, alive, other), is) (inr has) e elsewhere uncopied =
    let same : Some (Near n d at (unmarked m.dirty)) ≡ Some (Near len ds to k) = sym is ∙ e in
    let there : at ≡ to = cc in
    absurd (uncopied from (subst (WasCopied s p from) there has))
spanned s p new (Moves n d from at) a b len ds to k ((m, was, alive, other), is) (inl legal) e elsewhere uncopied = same_spanned s p a n d len ds at to (unmarked m.dirty) k (sym is ∙ e) record {
  span = legal.span;
  blank = λ free. let odd : Some Free ≡ Some (Near n d from m) = sym free ∙ was in absurd cc;
  copied = λ l t place j near.
      let same : Some (Near n d from m) ≡ Some (Near l t place j) = sym was ∙ near in
      let there : from ≡ place = cc in
      subst (λ (x : Place). Alike (data_at s.word at) (data_at s.word x) (words_for n)) there legal.same;
  fetched = λ l t j far. let odd : Some (Near n d from m) ≡ Some (Far l t j) = sym was ∙ far in absurd cc;
  padded = λ _. legal.padded;
}
spanned s p new (Fetches n d at) a b len ds to k ((m, was, alive), is) legal e elsewhere uncopied = same_spanned s p a n d len ds at to no_marks k (sym is ∙ e) record {
  span = legal.span;
  blank = λ free. let odd : Some Free ≡ Some (Far n d m) = sym free ∙ was in absurd cc;
  copied = λ l t place j near. let odd : Some (Far n d m) ≡ Some (Near l t place j) = sym was ∙ near in absurd cc;
  fetched = λ l t j far honest. (legal.stored honest).same;
  padded = λ _. legal.padded;
}

module _ (s : State) (law : Law s) (p old new len ds : ℕ) (to : Place) (k : Marks) (near : read_of new ≡ Some (Near len ds to k)) (elsewhere : IsElsewhere old to) (uncopied : (from : Place) → ¬ WasCopied s p from to) where
  taken : Legal s (Name p old new) → Spanned s p (read_of old) len ds to
  taken h = spanned s p new h.1.0 (read_of old) (read_of new) len ds to k h.1.1 h.1.2 near elsewhere uncopied

  pub place_refused : PlaceIsRefused s p old new len ds to
  place_refused = record {
    past = λ le. refused s law (Name p old new) (λ h. let low : to.log < s.logs = (taken h).span.next.0 in omega (arith, low, le));
    shut = λ is. refused s law (Name p old new) (λ h. unsealed s to (taken h).span.next is);
    off_tail = λ is ne. refused s law (Name p old new) (λ h. ne (at_tail s law to (taken h).span.next));
    off_start = λ is ne. refused s law (Name p old new) (λ h. ne (at_tail s law to (taken h).span.next ∙ law.logs.free_tail to.log is));
    headless = λ ne. refused s law (Name p old new) (λ h. ne (taken h).span.head);
    not_zero = λ i none lt ne. refused s law (Name p old new) (λ h. ne ((taken h).blank (ap read_of none ∙ unused) i (omega (arith, lt))));
    uncopied = λ i n d from m was lt ne. refused s law (Name p old new) (λ h. ne ((taken h).copied n d from m was i (omega (arith, lt))));
    unfetched = λ i n d m was honest lt ne. refused s law (Name p old new) (λ h. ne ((taken h).fetched n d m was honest i (omega (arith, lt))));
    unpadded = λ i n byte lt le ne. refused s law (Name p old new) (λ h.
        let last : i ≡ words_for len - 1 = omega (arith, byte, lt, le) in
        let ends : s.word (addr to + 1 + i) < 2 ^ (8 * (len - 8 * i)) = subst (λ x. data_at s.word to x < 2 ^ (8 * (len - 8 * x))) (sym last) ((taken h).padded (omega (arith, lt))) in
        over i (s.word (addr to + 1 + i)) n len le ne ends);
  }

-- what is named where it lies already is asked for and not wanted, or the next span may stand there
stayed : (s : State) (p new : ℕ) (form : Naming) (a b : Option PtrWord) (n d len ds : ℕ) (place : Place) (m k : Marks) → IsNaming form a b → (naming_row s p new form).Legal →
    a ≡ Some (Near n d place m) → b ≡ Some (Near len ds place k) → ((m.moved ≡ true) × (m.evac ≡ false)) ⊎ (IsNext s place ⊎ WasCopied s p place place)
stayed s p new (Places l t at) a b n d len ds place m k h legal was is = let odd : Some Free ≡ Some (Near n d place m) = sym h.0 ∙ was in absurd cc
stayed s p new Retires a b n d len ds place m k h legal was is = let odd : Some Free ≡ Some (Near len ds place k) = sym h.1 ∙ is in absurd cc
stayed s p new (Evicts l at) a b n d len ds place m k (t, j, old, alive, wanted, says) legal was is = let odd : Some (Far l t no_marks) ≡ Some (Near len ds place k) = sym says ∙ is in absurd cc
stayed s p new Stays a b n d len ds place m k (l, t, at, j, old, alive, moved, out, says) legal was is =
    let same : Some (Near l t at j) ≡ Some (Near n d place m) = sym old ∙ was in
    let marks : j ≡ m = cc in
    inl (ap (λ (x : Marks). x.moved) (sym marks) ∙ moved, ap (λ (x : Marks). x.evac) (sym marks) ∙ out)
stayed s p new (Moves l t from to) a b n d len ds place m k (h, says) (inl legal) was is =
    let same : Some (Near l t to (unmarked h.0.dirty)) ≡ Some (Near len ds place k) = sym says ∙ is in
    let there : to ≡ place = cc in
    inr (inl (subst (λ (x : Place). IsNext s x) there legal.span.next))
stayed s p new (Moves l t from to) a b n d len ds place m k (h, says) (inr has) was is =
    let same : Some (Near l t to (unmarked h.0.dirty)) ≡ Some (Near len ds place k) = sym says ∙ is in
    let there : to ≡ place = cc in
    let both : Some (Near l t from h.0) ≡ Some (Near n d place m) = sym h.1 ∙ was in
    let here : from ≡ place = cc in
    inr (inr (subst (λ (x : Place). WasCopied s p place x) there (subst (λ (x : Place). WasCopied s p x to) here has)))
stayed s p new (Fetches l t at) a b n d len ds place m k ((j, old, alive), says) legal was is = let odd : Some (Far l t j) ≡ Some (Near n d place m) = sym old ∙ was in absurd cc

-- where an object lies no next span may stand
no_room_there : (s : State) → Law s → (p n d : ℕ) (place : Place) (m : Marks) → read_of (s.cell p) ≡ Some (Near n d place m) → ¬ IsNext s place
no_room_there s law p n d place m near next =
    let span = law.spans.span (addr place) (law.cells.cell_near p n d place m near).placed in
    let ok = (read_says (s.cell p) (Near n d place m) (law.cells.cell_read p).0 near).0 in
    let home : addr place / LOG_WORDS ≡ place.log = omega (arith, ok.4) in
    let fits : addr place % LOG_WORDS + size_of (head_len (s.word (addr place))) ≤ s.tail place.log = subst (λ l. addr place % LOG_WORDS + size_of (head_len (s.word (addr place))) ≤ s.tail l) home span.fits in
    omega (arith, fits, at_tail s law place next, ok.4)

module _ (s : State) (law : Law s) (p old new len ds n d : ℕ) (place : Place) (m k : Marks) (is : s.cell p ≡ old) (was : read_of old ≡ Some (Near n d place m)) (near : read_of new ≡ Some (Near len ds place k)) where
  staying : Legal s (Name p old new) → (m.moved ≡ true) × (m.evac ≡ false)
  staying h = elim (stayed s p new h.1.0 (read_of old) (read_of new) n d len ds place m k h.1.1 h.1.2 was near) [
    | inl x ↦ x
    | inr (inl next) ↦ absurd (no_room_there s law p n d place m (ap read_of is ∙ was) next)
    | inr (inr has) ↦ absurd (copied_elsewhere s law p place place has.0 has.1 has.2 refl)
  ]

  pub stay_refused : StayIsRefused s p old new m
  stay_refused = record {
    unasked = λ out. refused s law (Name p old new) (λ h. false≢true (sym out ∙ (staying h).0));
    wanted = λ evac. refused s law (Name p old new) (λ h. true≢false (sym evac ∙ (staying h).1));
  }

pub namings_refused : (s : State) → Law s → NamingsAreRefused s
namings_refused s law = record {
  words = λ p old new a b. new_word_refused s law p old new a b;
  reached = λ p old new. reached_refused s law p old new;
  stays = λ p old new len ds n d place m k is was near. stay_refused s law p old new len ds n d place m k is was near;
  places = λ p old new len ds to k near elsewhere uncopied. place_refused s law p old new len ds to k near elsewhere uncopied;
}
