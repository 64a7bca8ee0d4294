-- A drop: its owner asks, and the cell is retired. Its events succeed and keep the law, its object is gone, and its span is dead.
use Rattle.std.proofs.Common.{◌≡◌, ◌≢◌, ℕ, ◌+◌, ◌*◌, ◌/◌, ◌^◌, ◌<◌, Bool, true, false, cond, nat_eq, sym, refl, ap, subst, ◌∙◌, arith, bit_or, is_some, Option, Some, None, List, [], ◌∷◌, inl, inr}
use Rattle.std.proofs.lemmas.Bool.{and_parts, cond_both, cases_eq, eq-eqb, eqb-true, ne_eqb, false≢true}
use mathlib.Core.Path.{fun_ext}
use Rattle.far_word.specs.declared.mark.Mark.TheVariants.{Dropped}
use Rattle.far_word.specs.declared.mark.Marks.{Marks}
use Rattle.far_word.specs.declared.pointer.Place.{Place}
use Rattle.far_word.specs.declared.pointer.PtrWord.{PtrWord}
use Rattle.far_word.specs.declared.pointer.PtrWord.TheVariants.{Free, Near, Far}
use Rattle.far_word.specs.declared.sizes.TheConstants.{CELLS}
use Rattle.far_word.specs.Mark.{position, marks_with}
use Rattle.far_word.specs.Pointer.{read_of}
use Rattle.far_word.specs.Sizes.{bytes_taken}
use Rattle.far_log.specs.declared.span.Span.{Span}
use Rattle.far_log.specs.Spans.{taken_by}
use Rattle.far_events.specs.declared.event.Event.{Event}
use Rattle.far_events.specs.declared.event.Event.TheVariants.{Ask as Asks, See as Sees, Name as Names}
use Rattle.far_events.specs.declared.event.Reply.TheVariants.{Done as Made, Word}
use Rattle.far_events.specs.declared.naming.Naming.{Naming}
use Rattle.far_events.specs.declared.naming.Naming.TheVariants.{Retires}
use Rattle.far_events.specs.events.Legal.{Legal}
use Rattle.far_events.specs.events.Name.{after_naming}
use Rattle.far_events.specs.events.Naming.{is_dropped, naming_of}
use Rattle.far_events.specs.events.Step.{Fits, after, answer, is_legal}
use Rattle.far_core.specs.laws.Observed.{live_bytes, dead_bytes, unused_bytes}
use Rattle.far_events.specs.state.Law.{Law, in_use}
use Rattle.far_events.specs.state.Spans.{spans_of, is_live, names_place}
use Rattle.far_events.specs.state.State.{State, put}
use Rattle.far_core.specs.world.World.{World, Object}
use Rattle.far_core.specs.world.WorldOf.{world_of}
use Rattle.far_events.proofs.Cells.{map_mark, unused}
use Rattle.far_core.proofs.Observations.{bytes_make_log}
use Rattle.far_core.proofs.Owing.{keeps, is_test}
use Rattle.far_events.proofs.Put.{put_both, put_same, put_other}
use Rattle.far_core.proofs.events.Ask.{reads, drop_drops}
use Rattle.far_book.specs.book.Effects.{retired, with_free_cell}
use Rattle.far_book.proofs.region.Reaching.{retiring}
use Rattle.far_book.proofs.region.Retires.{retired_is, may_retire, live_here, live_there}
use Rattle.far_book.proofs.region.SpanLists.{taken_same}
use Rattle.far_alone.specs.Own.{own_of, bytes_in_world}
use Rattle.far_alone.specs.Effects.{without_object}
use Rattle.far_events.specs.events.Ranges.{after_events}
use Rattle.far_alone.specs.EventRows.{Succeeds, AllSucceed, ComesToPass, AllComeToPass}
use Rattle.far_alone.specs.Events.{drop_events}
use Rattle.far_alone.specs.Objects.{uses}
use Rattle.far_alone.proofs.AloneRuns.{Own-ext, put_twice, views_of}
use Rattle.std.specs.List.{AllByRecursion as Each}
use Rattle.far_alone.proofs.MadeLemmas.{made_first, first_succeeds, first_comes, made_law}

-- ---- retiring a cell, whatever it says
named_either : (P : State → Type 0) (s : State) (p : ℕ) (o : Option PtrWord) → P s → P (with_free_cell s p) → P (after_naming s p 0 (naming_of o (Some Free)))
named_either P s p (Some (Near len ds place m)) same free = cond_both m.dropped (Some Retires) None (λ (x : Option Naming). P (after_naming s p 0 x)) (λ _. free) (λ _. same)
named_either P s p (Some (Far len ds m)) same free = cond_both m.dropped (Some Retires) None (λ (x : Option Naming). P (after_naming s p 0 x)) (λ _. free) (λ _. same)
named_either P s p _ same free = same

-- the cell is freed, or nothing changes
pub retired_either : (P : State → Type 0) (s : State) (p : ℕ) → P s → P (with_free_cell s p) → P (retired s p)
retired_either P s p same free = rw (eq-eqb (s.cell p) (s.cell p) refl, unused) (named_either P s p (read_of (s.cell p)) same free)

-- ---- what DROP leaves of a cell
drops : (o : Option PtrWord) → in_use o ≡ true → is_dropped (map_mark Dropped o) ≡ true
drops (Some (Near len ds place m)) u = refl
drops (Some (Far len ds m)) u = refl
drops _ u = absurd (false≢true u)

names_same : (o : Option PtrWord) (l at : ℕ) → names_place (map_mark Dropped o) l at ≡ names_place o l at
names_same (Some Free) l at = refl
names_same _ l at = refl

module _ (s : State) (m p : ℕ) (law : Law s) (within : m < s.mutators) (ours : uses s m p ≡ true) (unheld : s.held p ≡ None) where
  pub own : p / CELLS ≡ m
  own = eqb-true (p / CELLS) m (and_parts (nat_eq (p / CELLS) m) (s.used p) ours).0

  used : s.used p ≡ true
  used = (and_parts (nat_eq (p / CELLS) m) (s.used p) ours).1

  in_range : p < CELLS * s.mutators
  in_range = omega (arith, own, within)

  -- the state once its owner asked
  abbrev asked : State
  asked = after s (Asks m p Dropped)

  pub ask_fact : Legal s (Asks m p Dropped)
  ask_fact = (refl, within, own, used, unheld)

  asked_law : Law asked
  asked_law = keeps s (Asks m p Dropped) law tt ask_fact

  asked_reads : read_of (asked.cell p) ≡ map_mark Dropped (read_of (s.cell p))
  asked_reads = ap read_of (put_same s.cell p (bit_or (s.cell p) (2 ^ position Dropped)) p refl) ∙ (reads s law p used unheld Dropped refl).0

  pub asked_is_dropped : is_dropped (read_of (asked.cell p)) ≡ true
  asked_is_dropped = ap is_dropped asked_reads ∙ drops (read_of (s.cell p)) (law.views.used_cell p used)

  -- the state after it: the cell is free, its owner doesn't use it, and nothing else changes
  pub drop_is : without_object s m p ≡ record s { cell = put s.cell p 0; used = put s.used p false }
  drop_is = retired_is asked p asked_is_dropped ∙ ap (λ (f : ℕ → ℕ). record s { cell = f; used = put s.used p false }) (put_twice s.cell p (bit_or (s.cell p) (2 ^ position Dropped)) 0)

  -- ---- its events
  ask_legal : is_legal s (Asks m p Dropped) ≡ true
  ask_legal = is_test s (Asks m p Dropped) ask_fact

  see_legal : is_legal asked (Sees p) ≡ true
  see_legal = is_test asked (Sees p) in_range

  name_legal : is_legal asked (Names p (asked.cell p) 0) ≡ true
  name_legal = is_test asked (Names p (asked.cell p) 0) (may_retire asked p (asked.cell p) in_range asked_is_dropped)

  name_done : answer asked (Names p (asked.cell p) 0) ≡ Made
  name_done = ap (λ b. cond b Made (Word (asked.cell p))) (eq-eqb (asked.cell p) (asked.cell p) refl)

  abbrev last : List Event
  last = Names p (asked.cell p) 0 ∷ []

  pub drop_succeeds : AllSucceed s (drop_events s m p)
  drop_succeeds = first_succeeds s (Asks m p Dropped) (Sees p ∷ last) ask_legal tt
      (first_succeeds asked (Sees p) last see_legal tt (first_succeeds asked (Names p (asked.cell p) 0) [] name_legal (subst (Succeeds (Names p (asked.cell p) 0)) (sym name_done) tt) tt))

  -- and come to pass: the naming wins
  pub drop_comes : AllComeToPass s (drop_events s m p)
  drop_comes = first_comes s (Asks m p Dropped) (Sees p ∷ last) ask_legal tt
      (first_comes asked (Sees p) last see_legal tt (first_comes asked (Names p (asked.cell p) 0) [] name_legal (subst (ComesToPass (Names p (asked.cell p) 0)) (sym name_done) tt) tt))

  pub drop_ends : after_events s (drop_events s m p) ≡ without_object s m p
  drop_ends = made_first s (Asks m p Dropped) (Sees p ∷ last) ask_legal ∙ made_first asked (Sees p) last see_legal ∙ made_first asked (Names p (asked.cell p) 0) [] name_legal

  pub drop_fits : Each Fits (drop_events s m p)
  drop_fits = (tt, (tt, (((asked_law.cells.cell_read p).0, omega arith), tt)))

  pub drop_law : Law (without_object s m p)
  drop_law = subst Law drop_ends (made_law s (drop_events s m p) law drop_fits)

  -- all other named pointers stay used
  pub drop_named : ((q : ℕ) → s.cell q ≢ 0 → s.used q ≡ true) → (q : ℕ) → (without_object s m p).cell q ≢ 0 → (without_object s m p).used q ≡ true
  drop_named named = subst (λ (t : State). (q : ℕ) → t.cell q ≢ 0 → t.used q ≡ true) (sym drop_is) (λ q some.
      let other : q ≢ p = (λ e. some (put_same s.cell p 0 q e)) in
      put_other s.used p false q other ∙ named q (λ z. some (put_other s.cell p 0 q other ∙ z)))

  -- ---- the world: its object is gone
  pub drop_world : world_of (without_object s m p) ≡ record (world_of s) { object = put (world_of s).object p None; marked = put (world_of s).marked p false }
  drop_world = (retiring asked p asked_law in_range asked_is_dropped).2 ∙ (drop_drops s law p used unheld m own).after

  -- ---- bytes: its span is dead
  same_live : (l : ℕ) (x : Span) → is_live asked l x ≡ is_live s l x
  same_live l x = put_both (λ w. names_place (read_of w) l x.at ≡ names_place (read_of (s.cell x.p)) l x.at) s.cell p (bit_or (s.cell p) (2 ^ position Dropped)) x.p
      (λ e. ap (λ o. names_place o l x.at) (reads s law p used unheld Dropped refl).0 ∙ names_same (read_of (s.cell p)) l x.at ∙ ap (λ q. names_place (read_of (s.cell q)) l x.at) (sym e)) (λ _. refl)

  asked_spans : (l : ℕ) → spans_of asked l ≡ spans_of s l
  unfolding spans_of
  asked_spans l = refl

  asked_live : (l : ℕ) → live_bytes asked l ≡ live_bytes s l
  asked_live l = ap (taken_by (is_live asked l)) (asked_spans l) ∙ taken_same (is_live asked l) (is_live s l) (spans_of s l) (λ x _. same_live l x)

  without_is : without_object s m p ≡ with_free_cell asked p
  without_is = retired_is asked p asked_is_dropped

  unused_same : (l : ℕ) → unused_bytes (without_object s m p) l ≡ unused_bytes s l
  unused_same l = ap (λ (t : State). unused_bytes t l) without_is

  module _ (len ds : ℕ) (place : Place) (marks : Marks) (e : read_of (s.cell p) ≡ Some (Near len ds place marks)) where
    asked_near : read_of (asked.cell p) ≡ Some (Near len ds place (marks_with Dropped marks))
    asked_near = asked_reads ∙ ap (map_mark Dropped) e

    pub live_falls : live_bytes (without_object s m p) place.log + bytes_taken len ≡ live_bytes s place.log
    live_falls = ap (λ (t : State). live_bytes t place.log + bytes_taken len) without_is ∙ live_here asked asked_law p len ds place (marks_with Dropped marks) asked_near ∙ asked_live place.log

    pub dead_rises : dead_bytes (without_object s m p) place.log ≡ dead_bytes s place.log + bytes_taken len
    dead_rises = omega (arith, live_falls, unused_same place.log, bytes_make_log s law place.log, bytes_make_log (without_object s m p) drop_law place.log)

    pub live_stays : (l : ℕ) → l ≢ place.log → live_bytes (without_object s m p) l ≡ live_bytes s l
    live_stays l ne = ap (λ (t : State). live_bytes t l) without_is ∙ live_there asked asked_law p len ds place (marks_with Dropped marks) asked_near l ne ∙ asked_live l

    pub dead_stays : (l : ℕ) → l ≢ place.log → dead_bytes (without_object s m p) l ≡ dead_bytes s l
    dead_stays l ne = omega (arith, live_stays l ne, unused_same l, bytes_make_log s law l, bytes_make_log (without_object s m p) drop_law l)

pub unheld_is : (o : Option Place) → is_some o ≡ false → o ≡ None
unheld_is None e = refl
unheld_is (Some place) e = absurd (false≢true (sym e))

-- ---- what mutators know
-- an object of the mutator is gone
pub own_gone : (w v : World) (m p : ℕ) → v.object ≡ put w.object p None → v.opened ≡ w.opened → views_of v m ≡ views_of w m → own_of v m ≡ record (own_of w m) { object = put (own_of w m).object p None }
own_gone w v m p h k seen = Own-ext (own_of v m) (record (own_of w m) { object = put (own_of w m).object p None }) (ap (λ (f : ℕ → Bool). f m) k) (fun_ext (λ q.
    ap (λ (f : ℕ → Option Object). cond (nat_eq (q / CELLS) m) (bytes_in_world (f q)) None) h ∙ elim (cases_eq q p) [
      | inl e ↦ (ap (λ o. cond (nat_eq (q / CELLS) m) (bytes_in_world o) None) (put_same w.object p None q e) ∙ none_either (nat_eq (q / CELLS) m) ∙ sym (put_same (own_of w m).object p None q e))
      | inr apart ↦ (ap (λ o. cond (nat_eq (q / CELLS) m) (bytes_in_world o) None) (put_other w.object p None q apart) ∙ sym (put_other (own_of w m).object p None q apart))
    ])) seen where
      none_either : (b : Bool) → cond b (bytes_in_world None) None ≡ None
      none_either true = refl
      none_either false = refl

-- an object of another is
pub own_left : (w v : World) (m p : ℕ) → v.object ≡ put w.object p None → v.opened ≡ w.opened → p / CELLS ≢ m → views_of v m ≡ views_of w m → own_of v m ≡ own_of w m
own_left w v m p h k ne seen = Own-ext (own_of v m) (own_of w m) (ap (λ (f : ℕ → Bool). f m) k) (fun_ext (λ q.
    ap (λ (f : ℕ → Option Object). cond (nat_eq (q / CELLS) m) (bytes_in_world (f q)) None) h ∙ elim (cases_eq q p) [
      | inl e ↦ (let off : nat_eq (q / CELLS) m ≡ false = ne_eqb (q / CELLS) m (λ same. ne (ap (λ y. y / CELLS) (sym e) ∙ same)) in
          ap (λ b. cond b (bytes_in_world (put w.object p None q)) None) off ∙ sym (ap (λ b. cond b (bytes_in_world (w.object q)) None) off))
      | inr apart ↦ ap (λ o. cond (nat_eq (q / CELLS) m) (bytes_in_world o) None) (put_other w.object p None q apart)
    ])) seen
