-- A dereference that isn't refused, whatever marks its object has and wherever it is: its events, and what it leaves.
use Rattle.std.proofs.Common.{◌≡◌, ℕ, ◌/◌, Bool, true, false, not, nat_eq, refl, sym, ap, subst, ◌∙◌, Option, Some, None, List, [], ◌∷◌, ◌++◌, if◌then◌else◌, is_some}
use Rattle.std.specs.Bool.{MatchBool}
use Rattle.std.specs.Prelude.{◌&&◌}
use Rattle.std.proofs.lemmas.Bool.{and_parts, cond_both, eqb-true, false≢true, not-true}
use Rattle.far_word.specs.declared.mark.Mark.TheVariants.{Hot, Moved}
use Rattle.far_word.specs.declared.pointer.Place.{Place}
use Rattle.far_word.specs.declared.pointer.PtrWord.{PtrWord}
use Rattle.far_word.specs.declared.pointer.PtrWord.TheVariants.{Free, Near, Far}
use Rattle.far_word.specs.declared.sizes.TheConstants.{CELLS}
use Rattle.far_word.specs.Pointer.{read_of}
use Rattle.far_word.specs.Mark.{marks_with}
use Rattle.far_events.specs.declared.event.Event.{Event}
use Rattle.far_events.specs.declared.event.Event.TheVariants.{Ask as Asks, Pin as Pins}
use Rattle.far_events.specs.events.Legal.{Legal}
use Rattle.far_events.specs.events.Step.{Fits, after, after_pin, data_len, is_opened, near_len, place_to_view, with_hold}
use Rattle.far_events.specs.state.Law.{Law, in_use}
use Rattle.far_events.specs.state.State.{State, put}
use Rattle.far_core.specs.world.World.{World}
use Rattle.far_core.specs.world.WorldOf.{world_of}
use Rattle.far_events.proofs.Cells.{map_mark}
use Rattle.far_events.proofs.Guards.{open_fact}
use Rattle.far_events.proofs.Put.{put_same, put_other}
use Rattle.far_core.proofs.events.Ask.{move_marks, reads}
use Rattle.far_alone.specs.Own.{bytes_in_world}
use Rattle.far_alone.specs.Between.{Between}
use Rattle.far_alone.specs.Dereference.{asked_for, come, comes_to, dereferenced, has_no_room, sought, sought_of}
use Rattle.far_alone.specs.Effects.{is_slow, with_view}
use Rattle.far_events.specs.events.Ranges.{after_events}
use Rattle.far_alone.specs.Events.{asked_events, asked_events_of, come_events, dereference_events, sought_events, view_events}
use Rattle.far_replay.specs.Changes.{ViewsObject}
use Rattle.far_replay.specs.Taking.{BringTakes, DereferenceLacks, DereferenceTakes, TakesNone}
use Rattle.far_alone.specs.Objects.{named_len, object_len, uses}
use Rattle.far_replay.proofs.AsIfStored.{ask_stores}
use Rattle.far_alone.proofs.AloneRuns.{SameBytes, bytes_both, bytes_same, quiet_run, quiet_view}
use Rattle.far_alone.proofs.Bringing.{KeepsOwners, asked_keeps, brought_keeps, came_opened, came_used, slow_opened, slow_unheld, slow_used}
use Rattle.far_replay.proofs.Brought.{Brought, MayBring, brought}
use Rattle.far_alone.proofs.Leading.{Leads, leads_append, leads_law, leads_nowhere, leads_one}
use Rattle.far_alone.proofs.Drops.{unheld_is}
use Rattle.far_replay.proofs.TakingView.{SameLogs, asked_on, asked_word, bring_more, bring_same, comes_place, lacks, sought_logs, view_takes}
use Rattle.far_alone.proofs.Views.{Already, Anew, Seen, Viewed, already_is, anew_is, between_by, fast_dereference, fast_seen, pin_read, slow_parts, slow_view, view_between, view_holds, view_is, view_long, view_succeeds}
use Rattle.std.specs.List.{AllByRecursion as Each}

-- ---- one view
module _ (s : State) (m p : ℕ) (law : Law s) (opened : is_opened s m ≡ true) (ours : uses s m p ≡ true) where
  used_so : s.used p ≡ true
  used_so = (and_parts (nat_eq (p / CELLS) m) (s.used p) ours).1

  pub view_leads : Leads s (view_events s m p) (with_view s p)
  view_leads = record {
    succeed = view_succeeds s m p law opened ours;
    fit = cond_both (is_some (s.held p)) [] (Pins m p ∷ []) (Each Fits) (λ _. tt) (λ _. (tt, tt));
    ends = view_is s m p law opened ours;
  }

  pub view_bytes : SameBytes (world_of s) (world_of (with_view s p))
  view_bytes = subst (λ (t : State). SameBytes (world_of s) (world_of t)) (view_is s m p law opened ours)
      (bytes_same (world_of s) (world_of (after_events s (view_events s m p))) (quiet_run s (view_events s m p) law (quiet_view s m p)).0)

  -- the cell says as many bytes as before
  hot_long : (o : Option PtrWord) → named_len (map_mark Hot o) ≡ named_len o
  hot_long (Some Free) = refl
  hot_long _ = refl

  pub view_named : object_len (with_view s p) p ≡ object_len s p
  view_named = cond_both (is_some (s.held p)) s (after_pin s p) (λ (t : State). object_len t p ≡ object_len s p) (λ _. refl)
      (λ _. ap named_len (pin_read s m p law opened ours) ∙ hot_long (read_of (s.cell p)))

  -- where it is given, the object is viewed, and all other views stay
  pub view_views : Seen s p → ViewsObject s (with_view s p) p
  view_views (Already place e) = subst (λ t. ViewsObject s t p) (sym (already_is s p place e)) record { viewed = ap is_some e; kept = λ at h. h; others = λ q ne. refl }
  view_views (Anew place e can_view) =
      let held : (after_pin s p).held ≡ put s.held p (Some place) = ap (with_hold s.held p) can_view in
      subst (λ t. ViewsObject s t p) (sym (anew_is s p e)) record {
        viewed = ap (λ (f : ℕ → Option Place). is_some (f p)) held ∙ ap is_some (put_same s.held p (Some place) p refl);
        kept = λ at h. let odd : None ≡ Some at = sym e ∙ h in absurd cc;
        others = λ q ne. ap (λ (f : ℕ → Option Place). f q) held ∙ put_other s.held p (Some place) q ne;
      }

-- a view, as the state that has it says
pub viewed_self : (s t : State) (m p : ℕ) → Viewed s t m p → Viewed t t m p
viewed_self s t m p h = record { len = h.len; place = h.place; holds = h.holds; words = refl; same_data = refl; same_len = refl; long = ap near_len h.holds.near.2 }

-- ---- what a dereference comes to
pub record Derefs (s : State) (m p : ℕ) : Type 0 where
  pub leads : Leads s (dereference_events s m p) (dereferenced s m p)
  pub law : Law (dereferenced s m p)
  pub view : Viewed (dereferenced s m p) (dereferenced s m p) m p
  pub long : data_len (dereferenced s m p) p ≡ object_len s p
  pub bytes : SameBytes (world_of s) (world_of (dereferenced s m p))
  pub views : ViewsObject s (dereferenced s m p) p
  pub between : Between s → Between (dereferenced s m p)
  pub takes : DereferenceTakes s p (dereferenced s m p)

-- by a pin alone
module _ (s : State) (m p : ℕ) (law : Law s) (opened : is_opened s m ≡ true) (ours : uses s m p ≡ true) (fast : is_slow s p ≡ false) where
  events_fast : dereference_events s m p ≡ view_events s m p
  events_fast = ap (λ b. if b then sought_events s m p ++ come_events (sought s m p) p ++ view_events (come (sought s m p) p) m p else view_events s m p) fast

  abbrev AllFast : State → Type 0
  AllFast t = Leads s (view_events s m p) t × Law t × Viewed t t m p × (data_len t p ≡ object_len s p) × SameBytes (world_of s) (world_of t) × ViewsObject s t p × (Between s → Between t) × DereferenceTakes s p t

  all_fast : AllFast (with_view s p)
  all_fast =
      let seen = fast_seen s p fast in
      let way = view_leads s m p law opened ours in
      let view = view_holds s m p law opened ours seen in (
        way,
        leads_law s (with_view s p) (view_events s m p) law way,
        viewed_self s (with_view s p) m p view,
        view.same_len ∙ sym (view_long s m p law opened ours seen),
        view_bytes s m p law opened ours,
        view_views s m p law opened ours seen,
        view_between s p (used_so s m p law opened ours),
        subst (λ b. MatchBool b (BringTakes s (read_of (s.cell p)) (with_view s p)) (TakesNone s (with_view s p))) (sym fast) (view_takes s m p law opened ours),
      )

  fast_derefs : Derefs s m p
  fast_derefs =
      let all = subst AllFast (sym (fast_dereference s m p fast)) all_fast in
      record { leads = subst (λ es. Leads s es (dereferenced s m p)) (sym events_fast) all.0; law = all.1; view = all.2; long = all.3; bytes = all.4; views = all.5; between = all.6; takes = all.7 }

-- ---- the owner's asking
record Asked (s : State) (p : ℕ) (es : List Event) (t : State) : Type 0 where
  leads : Leads s es t
  may : MayBring (read_of (t.cell p))
  bytes : SameBytes (world_of s) (world_of t)
  long : object_len t p ≡ object_len s p
  word : read_of (t.cell p) ≡ asked_on (read_of (s.cell p))

module _ (s : State) (m p : ℕ) (law : Law s) (opened : is_opened s m ≡ true) (own : p / CELLS ≡ m) (used : s.used p ≡ true) (unheld : s.held p ≡ None) where
  ask_legal : Legal s (Asks m p Moved)
  ask_legal = (refl, law.scopes.scope_range m (open_fact s m opened).1, own, used, unheld)

  asked_of : (o : Option PtrWord) → read_of (s.cell p) ≡ o → in_use o ≡ true → Asked s p (asked_events_of m p o) (sought_of s m p o)
  asked_of (Some (Near len ds place marks)) e u =
      let t : State = after s (Asks m p Moved) in
      let says : read_of (t.cell p) ≡ Some (Near len ds place (marks_with Moved marks)) = ap read_of (put_same s.cell p _ p refl) ∙ (reads s law p used unheld Moved refl).0 ∙ ap (map_mark Moved) e in
      let marked = move_marks s law p used unheld in
      record {
        leads = leads_one s (Asks m p Moved) ask_legal tt;
        may = subst MayBring (sym says) (refl, not-true marks.dropped u);
        bytes = ((λ q. ap (λ (w : World). bytes_in_world (w.object q)) marked), ap (λ (w : World). w.opened) marked);
        long = ap named_len says ∙ sym (ap named_len e);
        word = says ∙ sym (ap asked_on e);
      }
  asked_of (Some (Far len ds marks)) e u = record { leads = leads_nowhere s; may = subst MayBring (sym e) (not-true marks.dropped u); bytes = ((λ q. refl), refl); long = refl; word = e ∙ sym (ap asked_on e) }
  asked_of _ e u = absurd (false≢true u)

  asked : Asked s p (asked_events s m p) (asked_for s m p)
  asked = asked_of (read_of (s.cell p)) refl (law.views.used_cell p used)

  -- where it comes then, what is stored stays
  pub comes_stores : (place : Place) → comes_to (asked_for s m p) p ≡ Some place → (come (asked_for s m p) p).stored ≡ s.stored
  comes_stores place found =
      (brought (asked_for s m p) (leads_law s (asked_for s m p) (asked_events s m p) law asked.leads) p place asked.may found).stored ∙ ask_stores s m p

-- ---- by a pin that gives no view
module _ (s : State) (m p : ℕ) (law : Law s) (opened : is_opened s m ≡ true) (ours : uses s m p ≡ true) (slow : is_slow s p ≡ true) where
  abbrev pinned : State
  pinned = with_view s p

  first_leads : Leads s (view_events s m p) pinned
  first_leads = view_leads s m p law opened ours

  pinned_law : Law pinned
  pinned_law = leads_law s pinned (view_events s m p) law first_leads

  parts : (p / CELLS ≡ m) × (s.used p ≡ true)
  parts = let both = and_parts (nat_eq (p / CELLS) m) (s.used p) ours in (eqb-true (p / CELLS) m both.0, both.1)

  pinned_opened : is_opened pinned m ≡ true
  pinned_opened = slow_opened s pinned m p refl slow opened

  pinned_used : pinned.used p ≡ true
  pinned_used = slow_used s pinned m p refl slow parts.1

  pinned_unheld : pinned.held p ≡ None
  pinned_unheld = slow_unheld s pinned m p refl slow

  asks : Asked pinned p (asked_events pinned m p) (sought s m p)
  asks = asked pinned m p pinned_law pinned_opened parts.0 pinned_used pinned_unheld

  pub sought_leads : Leads s (sought_events s m p) (sought s m p)
  sought_leads = leads_append s pinned (sought s m p) (view_events s m p) (asked_events pinned m p) first_leads asks.leads

  pub sought_law : Law (sought s m p)
  sought_law = leads_law s (sought s m p) (sought_events s m p) law sought_leads

  pub sought_bytes : SameBytes (world_of s) (world_of (sought s m p))
  sought_bytes = bytes_both (world_of s) (world_of pinned) (world_of (sought s m p)) (view_bytes s m p law opened ours) asks.bytes

  pub sought_may : MayBring (read_of ((sought s m p).cell p))
  sought_may = asks.may

  sought_owners : KeepsOwners p pinned (sought s m p)
  sought_owners = asked_keeps pinned m p (read_of (pinned.cell p))

  pinned_held : pinned.held ≡ s.held
  pinned_held = ap (λ (t : State). t.held) (slow_view s p slow)

  pub sought_held : (sought s m p).held ≡ s.held
  sought_held = sought_owners.held ∙ pinned_held

  pub sought_between : Between s → Between (sought s m p)
  sought_between between = between_by pinned (sought s m p) p sought_owners.used sought_owners.cells pinned_used (view_between s p parts.1 between)

  -- what the cell says then
  pub sought_word : read_of ((sought s m p).cell p) ≡ asked_word (read_of (s.cell p))
  sought_word = asks.word ∙ ap asked_on (ap (λ (t : State). read_of (t.cell p)) (anew_is s p (unheld_is (s.held p) (slow_parts s p slow).0)) ∙ pin_read s m p law opened ours)

  logs_stay : SameLogs s (sought s m p)
  logs_stay = sought_logs s m p law opened ours pinned_law pinned_used pinned_unheld

  pub sought_lacks : comes_to (sought s m p) p ≡ None → DereferenceLacks s p (sought s m p)
  sought_lacks none = (
    slow,
    lacks s (sought s m p) (read_of (s.cell p)) logs_stay (law.views.used_cell p parts.1) (sym (comes_place (sought s m p) p (asked_word (read_of (s.cell p))) sought_word) ∙ none),
    logs_stay.none,
  )

  module _ (place : Place) (found : comes_to (sought s m p) p ≡ Some place) where
    abbrev there : State
    there = come (sought s m p) p

    comes : Brought (sought s m p) p (come_events (sought s m p) p) there
    comes = brought (sought s m p) sought_law p place asks.may found

    come_leads : Leads s (sought_events s m p ++ come_events (sought s m p) p) there
    come_leads = leads_append s (sought s m p) there (sought_events s m p) (come_events (sought s m p) p) sought_leads comes.leads

    there_law : Law there
    there_law = leads_law s there (sought_events s m p ++ come_events (sought s m p) p) law come_leads

    there_owners : KeepsOwners p pinned there
    there_owners = brought_keeps pinned m p

    there_opened : is_opened there m ≡ true
    there_opened = came_opened pinned there m p refl pinned_opened

    there_used : there.used p ≡ true
    there_used = came_used pinned there m p refl pinned_used

    there_ours : uses there m p ≡ true
    there_ours = ap (λ b. nat_eq (p / CELLS) m && b) there_used ∙ ap (λ b. nat_eq (p / CELLS) m && b) (sym parts.1) ∙ ours

    there_held : there.held ≡ s.held
    there_held = there_owners.held ∙ pinned_held

    there_seen : Seen there p
    there_seen = Anew comes.place (ap (λ (f : ℕ → Option Place). f p) there_owners.held ∙ pinned_unheld) (ap place_to_view comes.near)

    abbrev AllSlow : State → Type 0
    AllSlow t = Leads s (sought_events s m p ++ come_events (sought s m p) p ++ view_events there m p) t × Law t × Viewed t t m p × (data_len t p ≡ object_len s p)
        × SameBytes (world_of s) (world_of t) × ViewsObject s t p × (Between s → Between t) × DereferenceTakes s p t

    all_slow : AllSlow (with_view there p)
    all_slow =
        let last = view_leads there m p there_law there_opened there_ours in
        let way = leads_append s there (with_view there p) (sought_events s m p ++ come_events (sought s m p) p) (view_events there m p) come_leads last in
        let view = view_holds there m p there_law there_opened there_ours there_seen in
        let views = view_views there m p there_law there_opened there_ours there_seen in (
          way,
          leads_law s (with_view there p) (sought_events s m p ++ come_events (sought s m p) p ++ view_events there m p) law way,
          viewed_self there (with_view there p) m p view,
          view.same_len ∙ ap near_len comes.near ∙ sym comes.long ∙ asks.long ∙ view_named s m p law opened ours,
          bytes_both (world_of s) (world_of (sought s m p)) (world_of (with_view there p)) sought_bytes
              (bytes_both (world_of (sought s m p)) (world_of there) (world_of (with_view there p)) comes.bytes (view_bytes there m p there_law there_opened there_ours)),
          record {
            viewed = views.viewed;
            kept = λ at h. views.kept at (ap (λ (f : ℕ → Option Place). f p) there_held ∙ h);
            others = λ q ne. views.others q ne ∙ ap (λ (f : ℕ → Option Place). f q) there_held;
          },
          λ between. view_between there p there_used
              (between_by pinned there p there_owners.used there_owners.cells pinned_used (view_between s p parts.1 between)),
          subst (λ b. MatchBool b (BringTakes s (read_of (s.cell p)) (with_view there p)) (TakesNone s (with_view there p))) (sym slow)
              (bring_more s there (with_view there p) (read_of (s.cell p)) (view_takes there m p there_law there_opened there_ours)
              (bring_same s (sought s m p) there (read_of (s.cell p)) logs_stay (subst (λ o. BringTakes (sought s m p) o there) sought_word comes.takes))),
        )

    slow_derefs : Derefs s m p
    slow_derefs =
        let ends : dereferenced s m p ≡ with_view there p = ap (λ b. if b then with_view (come (sought s m p) p) p else with_view s p) slow in
        let events : dereference_events s m p ≡ sought_events s m p ++ come_events (sought s m p) p ++ view_events there m p =
        ap (λ b. if b then sought_events s m p ++ come_events (sought s m p) p ++ view_events (come (sought s m p) p) m p else view_events s m p) slow in
        let all = subst AllSlow (sym ends) all_slow in
        record { leads = subst (λ es. Leads s es (dereferenced s m p)) (sym events) all.0; law = all.1; view = all.2; long = all.3; bytes = all.4; views = all.5; between = all.6; takes = all.7 }

-- ---- either
has_place : (o : Option Place) → not (is_some o) ≡ false → (place : Place) × (o ≡ Some place)
has_place None e = absurd cc
has_place (Some place) e = (place, refl)

derefs_by : (s : State) (m p : ℕ) (law : Law s) (opened : is_opened s m ≡ true) (ours : uses s m p ≡ true) (b : Bool) → is_slow s p ≡ b → (b && not (is_some (comes_to (sought s m p) p))) ≡ false → Derefs s m p
derefs_by s m p law opened ours true slow room = let found = has_place (comes_to (sought s m p) p) room in slow_derefs s m p law opened ours slow found.0 found.1
derefs_by s m p law opened ours false fast room = fast_derefs s m p law opened ours fast

pub derefs : (s : State) (m p : ℕ) → Law s → is_opened s m ≡ true → uses s m p ≡ true → has_no_room s m p ≡ false → Derefs s m p
derefs s m p law opened ours room = derefs_by s m p law opened ours (is_slow s p) refl room
