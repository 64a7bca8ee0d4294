-- A cell gets the near word that has DIRTY as it was found there: at once, or, where DIRTY was found added, by a second naming.
use Rattle.std.proofs.Common.{◌≡◌, ℕ, ap, refl, subst, sym, ◌∙◌, Result, Ok, Err, Bool, true, false}
use Rattle.std.proofs.lemmas.Bool.{false≢true, true≢false}
use Rattle.std.specs.Prelude.{IfErr, IfOk, ◌^◌, ◌<◌, ◌&&◌, ◌||◌, not}
use Rattle.far_word.specs.declared.pointer.Place.{Place}
use Rattle.far_word.specs.Pointer.{read_of}
use Rattle.far_events.specs.declared.event.Event.{Event}
use Rattle.far_events.specs.declared.event.Event.TheVariants.{Name}
use Rattle.far_events.specs.declared.event.Reply.{Reply}
use Rattle.far_events.specs.events.Legal.{Legal}
use Rattle.far_events.specs.events.Naming.{is_dropped}
use Rattle.far_events.specs.state.Law.{is_dirty}
use Rattle.far_events.specs.state.State.{State}
use Rattle.far_hand.specs.Came.{Came, only}
use Rattle.far_hand.specs.Finds.{Finds}
use Rattle.far_hand.specs.Known.{KnowsLeaving}
use Rattle.far_hand.proofs.Closure.{came_more}
use Rattle.far_hand.proofs.Finding.{finds_is}
use Rattle.far_book.specs.book.Effects.{near_word}
use Rattle.far_book.specs.book.Only.{Names, NamesNear}
use Rattle.far_book.specs.book.Renaming.{MayRename, MayRenameNear, Renamed, RenamedNear, seen, stops}
use Rattle.far_book.proofs.region.Dirt.{not_dropped, same_dirt, up_by}
use Rattle.far_book.proofs.region.Renamings.{more, named, same_seen, twice}

-- ---- a word that stops a naming
only_drop : (d a k : Bool) → k ≡ true → (d || (a && not k)) ≡ true → d ≡ true
only_drop true a k e h = refl
only_drop false true k e h = absurd (false≢true (sym (ap not e) ∙ h))
only_drop false false k e h = h

only_dirt : (d a k : Bool) → d ≡ false → (d || (a && not k)) ≡ true → a ≡ true
only_dirt true a k e h = absurd (true≢false e)
only_dirt false true k e h = refl
only_dirt false false k e h = h

-- has DIRTY, if it hasn't DROP
pub stops_dirty : (v w : ℕ) → is_dropped (read_of w) ≡ false → stops (read_of v) (read_of w) ≡ true → is_dirty (read_of w) ≡ true
stops_dirty v w alive on = only_dirt (is_dropped (read_of w)) (is_dirty (read_of w)) (is_dirty (read_of v)) alive on

-- and DROP, if the one that is known has DIRTY
pub stopped_by : (v w : ℕ) → is_dirty (read_of v) ≡ true → stops (read_of v) (read_of w) ≡ true → is_dropped (read_of w) ≡ true
stopped_by v w dirty h = only_drop (is_dropped (read_of w)) (is_dirty (read_of w)) (is_dirty (read_of v)) dirty h

pub stops_dropped : {A : Type 0} (r : Result A ℕ) (v : ℕ) → is_dirty (read_of v) ≡ true → IfErr r (λ w. stops (read_of v) (read_of w) ≡ true) → IfErr r (λ w. is_dropped (read_of w) ≡ true)
stops_dropped (Ok x) v dirty h = h
stops_dropped (Err w) v dirty h = stopped_by v w dirty h

module _ (s : State) (p len ds : ℕ) (place : Place) where
  May : ℕ → Bool → Type 0
  May v d = Legal (seen s p v) (Name p v (near_word d len ds place)) × KnowsLeaving (seen s p v) v (near_word d len ds place)

  -- ---- by the word that is known there
  pub may_first : MayRenameNear s p len ds place → (w : ℕ) → w ≡ s.cell p → MayRename s p (near_word (is_dirty (read_of w)) len ds place)
  unfolding May
  may_first may w is v lt f on =
      let dirt = same_dirt (s.cell p) v f on ∙ ap (λ x. is_dirty (read_of x)) (sym is) in
      subst (May v) dirt (may v lt f (not_dropped (s.cell p) v on))

  pub named_first : (t : State) (w : ℕ) → w < 2 ^ 64 → w ≡ s.cell p → is_dropped (read_of w) ≡ false → Renamed s t p (near_word (is_dirty (read_of w)) len ds place) → RenamedNear s t p len ds place
  named_first t w fits is alive r = record {
    from = w;
    fits = fits;
    finds = finds_is (s.cell p) w is;
    alive = alive;
    named = subst (λ (x : State). Renamed x t p (near_word (is_dirty (read_of w)) len ds place)) (sym (same_seen s p w w is)) r;
  }

  -- ---- by one that was found there, with DIRTY
  module _ (t : State) (w : ℕ) (is : t ≡ seen s p w) (finds : Finds (s.cell p) w) (dirty : is_dirty (read_of w) ≡ true) where
    pub may_second : MayRenameNear s p len ds place → MayRename t p (near_word true len ds place)
    unfolding May
    may_second may v lt f on =
        let from : Finds w v = subst (λ x. Finds x v) (sym (named s t p w is finds)) f in
        let dirt = up_by (read_of w) (read_of v) from.body from.dirty dirty in
        subst (λ (u : State). Legal u (Name p v (near_word true len ds place)) × KnowsLeaving u v (near_word true len ds place)) (sym (twice s t p w is finds v))
        (subst (May v) dirt (may v lt (more s t p w is finds v f) (not_dropped (t.cell p) v on)))

    pub named_second : {A : Type 0} (r : Result A ℕ) (u : State) → w < 2 ^ 64 → is_dropped (read_of w) ≡ false → IfOk r (λ _. Renamed t u p (near_word true len ds place)) → IfOk r (λ _. RenamedNear s u p len ds place)
    named_second (Ok x) u fits alive h = record {
      from = w;
      fits = fits;
      finds = finds;
      alive = alive;
      named = subst (λ (z : State). Renamed z u p (near_word (is_dirty (read_of w)) len ds place)) is (subst (λ (d : Bool). Renamed t u p (near_word d len ds place)) (sym dirty) h);
    }
    named_second (Err v) u fits alive h = h

-- ---- what it came by
pub names_near : {N : Type 0} {makes : N → Event → Reply → N → Type 0} {hand next : N} (p : ℕ) (dirty : Bool) (len ds : ℕ) (place : Place) → Came (only (Names p (near_word dirty len ds place)) makes) hand next → Came (only (NamesNear p len ds place) makes) hand next
names_near {N} {makes} {hand} {next} p dirty len ds place c = came_more (only (Names p (near_word dirty len ds place)) makes) (only (NamesNear p len ds place) makes) (λ u v e r h. ((dirty, h.0), h.1)) hand next c
