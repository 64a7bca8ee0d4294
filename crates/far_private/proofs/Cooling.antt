-- Objects lose HOT where they lie.
use Rattle.std.proofs.Common.{◌≡◌, ◌≢◌, ℕ, ◌+◌, ◌*◌, ◌<◌, arith, refl, sym, ap, subst, ◌∙◌, Bool, true, false, cond, not, ◌&&◌, Option, Some, None, List, inl, inr}
use Rattle.std.specs.Prelude.{IfSome, MatchOption}
use Rattle.std.proofs.lemmas.Bool.{cases_eq, false≢true, true≢false}
use Rattle.far_word.specs.declared.mark.Mark.TheVariants.{Moved}
use Rattle.far_word.specs.declared.mark.Marks.{Marks}
use Rattle.far_word.specs.declared.pointer.Place.{Place}
use Rattle.far_word.specs.declared.pointer.PtrWord.{PtrWord}
use Rattle.far_word.specs.declared.pointer.PtrWord.TheVariants.{Free, Near, Far}
use Rattle.far_word.specs.declared.sizes.TheConstants.{CELLS}
use Rattle.far_word.specs.Mark.{marks_with}
use Rattle.far_word.specs.Pointer.{read_of}
use Rattle.far_events.specs.events.Naming.{unmarked}
use Rattle.far_events.specs.state.Law.{Law, is_dirty}
use Rattle.far_events.specs.state.State.{State}
use Rattle.far_events.proofs.Put.{put_other}
use Rattle.far_book.specs.book.Dealing.{has_evac, moved_now, order_moved}
use Rattle.far_book.specs.book.Effects.{moved, order_after, stayed}
use Rattle.far_book.specs.book.Laws.{IsUnmarked}
use Rattle.far_book.proofs.region.MovesReached.{staying}
use Rattle.far_alone.specs.Dereference.{says_near}
use Rattle.far_private.specs.LastRound.{IsBare, IsCold, IsCooled, may_cool}
use Rattle.far_private.specs.Objects.{Settled}
use Rattle.far_private.specs.Steps.{Keeps}
use Rattle.far_private.proofs.Coming.{asked_read, asks, asks_law, evac_is, kept, said}
use Rattle.far_private.proofs.SameLogs.{stayed_logs}
use Rattle.far_private.proofs.LastRounds.{free_not_near, same_none}
use Rattle.far_private.proofs.TwoFree.{by_either}

pub cool_near : (o : Option PtrWord) → may_cool o ≡ true → says_near o ≡ true
cool_near (Some (Near len ds place marks)) e = refl
cool_near (Some Free) e = absurd (false≢true e)
cool_near (Some (Far len ds marks)) e = absurd (false≢true e)
cool_near None e = absurd (false≢true e)

bare_by : (hot evac : Bool) → (hot && not evac) ≡ true → evac ≡ false
bare_by true true e = absurd (false≢true e)
bare_by _ false e = refl
bare_by false true e = absurd (false≢true e)

hot_by : (hot evac : Bool) → (hot && not evac) ≡ false → evac ≡ false → hot ≡ false
hot_by true true e f = absurd (true≢false f)
hot_by true false e f = absurd (true≢false e)
hot_by false _ e f = refl

same_near : (len ds n d : ℕ) (place at : Place) (marks m : Marks) → Some (Near len ds place marks) ≡ Some (Near n d at m) → (len ≡ n) × (ds ≡ d) × (place ≡ at) × (marks ≡ m)
same_near len ds n d place at marks m e =
    let lens : len ≡ n = cc in
    let structures : ds ≡ d = cc in
    let places : place ≡ at = cc in
    let same : marks ≡ m = cc in
    (lens, structures, places, same)

-- ---- one object
module _ (s : State) (p : ℕ) (law : Law s) (settled : Settled s) (used : s.used p ≡ true) (may : may_cool (read_of (s.cell p)) ≡ true) where
  pub near : says_near (read_of (s.cell p)) ≡ true
  near = cool_near (read_of (s.cell p)) may

  abbrev marks : Marks
  marks = (said s p law settled used near).marks

  bare : marks.evac ≡ false
  bare = bare_by marks.hot marks.evac (sym (ap may_cool (said s p law settled used near).is) ∙ may)

  unwanted : has_evac (read_of ((asks s p law settled used near).cell p)) ≡ false
  unwanted = evac_is s p law settled used near ∙ bare

  abbrev u : State
  u = asks s p law settled used near

  way : IsUnmarked u (stayed u p) p (said s p law settled used near).len (said s p law settled used near).ds (said s p law settled used near).place
  way = (staying u p (said s p law settled used near).len (said s p law settled used near).ds (said s p law settled used near).place (marks_with Moved marks) (asks_law s p law settled used near) (asked_read s p law settled used near) refl (kept s p law settled used near) bare).3

  stays_so : (len ds : ℕ) (place : Place) (m : Marks) → read_of ((stayed u p).cell p) ≡ Some (Near len ds place m) → (old : Marks) × (read_of (s.cell p) ≡ Some (Near len ds place old)) × (m.evac ≡ true → old.evac ≡ true)
  stays_so len ds place m e =
      let x = said s p law settled used near in
      let same = same_near x.len x.ds len ds x.place place (unmarked (is_dirty (read_of (u.cell p)))) m (sym way.cell ∙ e) in
      (marks, x.is ∙ (λ i. Some (Near (same.0 i) (same.1 i) (same.2 i) marks)), λ like. absurd (false≢true (ap (λ (k : Marks). k.evac) same.3 ∙ like)))

  stayed_cooled : IsCooled s p (stayed u p)
  stayed_cooled = record {
    logs = record { logs = stayed_logs u p (read_of (u.cell p)); kinds = way.kinds };
    others = λ q ne. way.cells q ne ∙ put_other s.cell p _ q ne;
    cold = λ _. ap may_cool way.cell;
    stays = stays_so;
  }

  stayed_is : (place : Place) → moved_now u p place ≡ stayed u p
  stayed_is place = ap (λ b. cond b (moved u p place) (stayed u p)) unwanted

  pub cools : (v t : State) (o : Option Place) (place : Place) → o ≡ Some place → v ≡ u → IfSome o (λ x. t ≡ moved_now v p x) → IsCooled s p t
  cools v t o place e is done =
      let there : t ≡ moved_now v p place = subst (λ y. IfSome y (λ x. t ≡ moved_now v p x)) e done in
      subst (IsCooled s p) (sym (there ∙ ap (λ (x : State). moved_now x p place) is ∙ stayed_is place)) stayed_cooled

  pub cools_order : (v : State) (o : Option Place) (place : Place) (order now : List ℕ) → o ≡ Some place → v ≡ u → MatchOption o (now ≡ order) (λ x. now ≡ order_moved v p order x) → now ≡ order
  cools_order v o place order now e is told =
      subst (λ y. MatchOption y (now ≡ order) (λ x. now ≡ order_moved v p order x)) e told ∙ ap (λ b. cond b (order_after v order place) order) (ap (λ (x : State). has_evac (read_of (x.cell p))) is ∙ unwanted)

-- ---- or nothing has to be done
pub cooled_none : (s : State) (p : ℕ) → (s.used p ≡ true → may_cool (read_of (s.cell p)) ≡ false) → IsCooled s p s
cooled_none s p cold = record { logs = same_none s; others = λ q ne. refl; cold = cold; stays = λ len ds place marks near. (marks, near, λ like. like) }

-- ---- one after the other
module _ (s t : State) (p : ℕ) (x : IsCooled s p t) where
  pub cooled_bare : (logs : List ℕ) → IsBare s logs → IsBare t logs
  cooled_bare logs bare q len ds place marks near here = elim (cases_eq q p) [
    | inl e ↦ (let (old, was, kept) = x.stays len ds place marks (ap (λ k. read_of (t.cell k)) (sym e) ∙ near) in
        by_either marks.evac (λ like. absurd (true≢false (sym (kept like) ∙ bare p len ds place old was here))) (λ unlike. unlike))
    | inr ne ↦ bare q len ds place marks (ap read_of (sym (x.others q ne)) ∙ near) here
  ]

  pub cooled_below : Keeps s t → ((q : ℕ) → q < p → s.used q ≡ true → may_cool (read_of (s.cell q)) ≡ false) → (q : ℕ) → q < p + 1 → t.used q ≡ true → may_cool (read_of (t.cell q)) ≡ false
  cooled_below keeps below q lt used =
      let was : s.used q ≡ true = sym (ap (λ (f : ℕ → Bool). f q) keeps.used) ∙ used in
      elim (cases_eq q p) [
        | inl e ↦ ap (λ k. may_cool (read_of (t.cell k))) e ∙ x.cold (ap s.used (sym e) ∙ was)
        | inr ne ↦ ap (λ w. may_cool (read_of w)) (x.others q ne) ∙ below q (omega (arith, lt, ne)) was
      ]

-- ---- all
pub all_cold : (s : State) (logs : List ℕ) → Law s → Settled s → IsBare s logs → ((q : ℕ) → q < 2048 → s.used q ≡ true → may_cool (read_of (s.cell q)) ≡ false) → IsCold s logs
all_cold s logs law settled bare below p len ds place marks near here =
    let busy : s.cell p ≢ 0 = λ e. free_not_near len ds place marks (ap read_of (sym e) ∙ near) in
    let lt : p < CELLS * s.mutators = law.cells.cell_range p busy in
    hot_by marks.hot marks.evac (sym (ap may_cool near) ∙ below p (omega (arith, lt, settled.mutators)) (settled.named p busy)) (bare p len ds place marks near here)
