-- What marking and giving up make of cells: EVAC is set or taken, and nothing else changes.
use Rattle.std.proofs.Common.{◌≡◌, ◌≢◌, ℕ, suc, ◌^◌, ◌<◌, ◌≤◌, Bool, true, false, cond, not, ◌||◌, ◌&&◌, ◌==◌, eqb, Option, Some, List, [], ◌∷◌, ◌++◌, length, take, filter, bit_or, arith, ap, sym, refl, ◌∙◌, subst}
use Rattle.std.proofs.Math.Bool.{and-false, and-true}
use Rattle.std.specs.Prelude.{fold}
use Rattle.std.specs.List.{AllByRecursion, list_any}
use Rattle.std.proofs.lemmas.Bool.{cond_both, eqb-true}
use Rattle.std.proofs.lemmas.Bool.Decides.{nat_tests}
use Rattle.std.proofs.lemmas.List.{take_all}
use Rattle.far_word.specs.declared.mark.Mark.TheVariants.{Evac}
use Rattle.far_word.specs.declared.mark.Marks.{Marks}
use Rattle.far_word.specs.declared.pointer.Place.{Place}
use Rattle.far_word.specs.declared.pointer.PtrWord.{PtrWord}
use Rattle.far_word.specs.declared.pointer.PtrWord.TheVariants.{Free, Near}
use Rattle.far_word.specs.Mark.{marks_with, position}
use Rattle.far_word.specs.Pointer.{read_of, without_evac}
use Rattle.far_word.proofs.PointerLaws.{IsPtr-without_evac, read_says, with_mark_fits, with_mark_read, without_evac_read, without_evac_word, word_fits}
use Rattle.far_events.specs.events.Clear.{evac_cleared, round_left}
use Rattle.far_events.specs.state.State.{State, put}
use Rattle.far_events.proofs.Put.{put_both, put_other, put_same}
use Rattle.far_book.specs.book.Dealing.{has_evac}
use Rattle.far_book.specs.book.Effects.{marked}
use Rattle.far_evac.specs.declared.phase.Phase.TheVariants.{Idle, Waiting}
use Rattle.far_evac.specs.Laws.{IsGivenUp, IsMarked, but_evac}
use Rattle.far_evac.specs.Live.{is_empty, lacking, live_in, live_among}
use Rattle.far_evac.specs.Marking.{after_marking, leaves_some, marked_core, newly_marked}
use Rattle.far_evac.specs.Moment.{Moment}
use Rattle.far_evac.specs.Choosing.{after_aborting}
use Rattle.far_evac.specs.RoundSteps.{advanced, among, unmarked}
use Rattle.far_evac.proofs.LiveOnce.{LivesIn, all_append, each_map, live_named, near_at}

-- ---- truth values
left_so : (here round : Bool) → cond here false round ≡ (round && not here)
left_so true round = sym (and-false round)
left_so false round = sym (and-true round)

not_either : (r a b : Bool) → ((r && not a) && not b) ≡ (r && not (a || b))
not_either true true b = refl
not_either _ _ b = refl

or_more : (a b c : Bool) → (a || (b || c)) ≡ ((a || b) || c)
or_more true b c = refl
or_more false b c = refl

or_and : (a b : Bool) → (a || (a && b)) ≡ a
or_and true b = refl
or_and false b = refl

absorbs : (some other : Bool) → (some || (other && some)) ≡ some
absorbs true other = refl
absorbs false other = and-false other

by_held : (r held none : Bool) → (r && not (held && not none)) ≡ cond held (r && none) r
by_held r true true = refl
by_held r true false = refl
by_held r false none = and-true r

-- ---- one cell
-- a near word of 64 bits
abbrev pub IsNearWord : ℕ → Type 0
IsNearWord w = (w < 2 ^ 64) × ((len ds : ℕ) × (place : Place) × (marks : Marks) × (read_of w ≡ Some (Near len ds place marks)))

-- from one word to another EVAC alone changes, if anything: to this value
pub record Like (to : Bool) (old new : ℕ) : Type 0 where
  pub same : but_evac (read_of new) ≡ but_evac (read_of old)
  pub still : has_evac (read_of old) ≡ to → has_evac (read_of new) ≡ to
  pub near : IsNearWord old → IsNearWord new

like_same : (to : Bool) (w : ℕ) → Like to w w
like_same to w = record { same = refl; still = λ h. h; near = λ h. h }

like_more : (to : Bool) (u v w : ℕ) → Like to u v → Like to v w → Like to u w
like_more to u v w f g = record { same = g.same ∙ f.same; still = λ h. g.still (f.still h); near = λ h. g.near (f.near h) }

pub record Sets (to : Bool) (old new : ℕ) : Type 0 where
  pub like : Like to old new
  pub now : has_evac (read_of new) ≡ to

-- ---- one cell after the other
module _ (to : Bool) (step : State → ℕ → State) (change : ℕ → ℕ) (cell : (s : State) (p : ℕ) → (step s p).cell ≡ put s.cell p (change (s.cell p)))
    (sets : (w : ℕ) → IsNearWord w → Sets to w (change w)) where
  pub one : (s : State) (p q : ℕ) → IsNearWord (s.cell p) → Like to (s.cell q) ((step s p).cell q)
  one s p q near = subst (λ f. Like to (s.cell q) (f q)) (sym (cell s p))
      (put_both (λ w. Like to (s.cell q) w) s.cell p (change (s.cell p)) q
      (λ e. subst (λ x. Like to (s.cell x) (change (s.cell p))) (sym e) (sets (s.cell p) near).like) (λ _. like_same to (s.cell q)))

  now_set : (s : State) (p : ℕ) → IsNearWord (s.cell p) → has_evac (read_of ((step s p).cell p)) ≡ to
  now_set s p near = ap (λ f. has_evac (read_of (f p))) (cell s p) ∙ ap (λ w. has_evac (read_of w)) (put_same s.cell p (change (s.cell p)) p refl) ∙ (sets (s.cell p) near).now

  abbrev pub AllNear : State → List ℕ → Type 0
  AllNear s ps = AllByRecursion (λ p. IsNearWord (s.cell p)) ps

  pub all_near : (s : State) (p : ℕ) (ps : List ℕ) → IsNearWord (s.cell p) → AllNear s ps → AllNear (step s p) ps
  all_near s p ps near h = each_map (λ q there. (one s p q near).near there) ps h

  pub all_like : (ps : List ℕ) (s : State) → AllNear s ps → (q : ℕ) → Like to (s.cell q) ((fold step s ps).cell q)
  all_like [] s h q = like_same to (s.cell q)
  all_like (p ∷ ps) s h q = like_more to (s.cell q) ((step s p).cell q) ((fold step (step s p) ps).cell q) (one s p q h.0) (all_like ps (step s p) (all_near s p ps h.0 h.1) q)

  pub all_set : (ps : List ℕ) (s : State) → AllNear s ps → AllByRecursion (λ p. has_evac (read_of ((fold step s ps).cell p)) ≡ to) ps
  all_set [] s h = tt
  all_set (p ∷ ps) s h =
      let near = all_near s p ps h.0 h.1 in ((all_like ps (step s p) near p).still (now_set s p h.0), all_set ps (step s p) near)

  pub others_stay : (ps : List ℕ) (s : State) (q : ℕ) → AllByRecursion (λ p. p ≢ q) ps → (fold step s ps).cell q ≡ s.cell q
  others_stay [] s q apart = refl
  others_stay (p ∷ ps) s q apart = others_stay ps (step s p) q apart.1 ∙ ap (λ f. f q) (cell s p) ∙ put_other s.cell p (change (s.cell p)) q (λ e. apart.0 (sym e))

-- ---- the two changes
pub mark_sets : (w : ℕ) → IsNearWord w → Sets true w (bit_or w (2 ^ position Evac))
mark_sets w (fits, (len, ds, place, marks, near)) =
    let new : read_of (bit_or w (2 ^ position Evac)) ≡ Some (Near len ds place (marks_with Evac marks)) = with_mark_read Evac w (Near len ds place marks) fits near refl in
    record {
      like = record {
        same = ap but_evac new ∙ sym (ap but_evac near);
        still = λ _. ap has_evac new;
        near = λ _. (with_mark_fits Evac w (Near len ds place marks) fits near refl, (len, ds, place, marks_with Evac marks, new));
      };
      now = ap has_evac new;
    }

clear_fits : (w : ℕ) (v : PtrWord) → w < 2 ^ 64 → read_of w ≡ Some v → evac_cleared w < 2 ^ 64
clear_fits w v fits e =
    let says = read_says w v fits e in
    let word = ap evac_cleared (sym says.1) ∙ without_evac_word v says.0 in
    subst (λ x. x < 2 ^ 64) (sym word) (word_fits (without_evac v) (IsPtr-without_evac v says.0))

pub clear_sets : (w : ℕ) → IsNearWord w → Sets false w (evac_cleared w)
clear_sets w (fits, (len, ds, place, marks, near)) =
    let bare : Marks = record { hot = marks.hot; evac = false; moved = marks.moved; dropped = marks.dropped; dirty = marks.dirty } in
    let new : read_of (evac_cleared w) ≡ Some (Near len ds place bare) = without_evac_read w (Near len ds place marks) fits near in
    record {
      like = record {
        same = ap but_evac new ∙ sym (ap but_evac near);
        still = λ _. ap has_evac new;
        near = λ _. (clear_fits w (Near len ds place marks) fits near, (len, ds, place, bare, new));
      };
      now = ap has_evac new;
    }

-- ---- live objects
module _ (s : State) (fits : (p : ℕ) → s.cell p < 2 ^ 64) where
  pub near_word : (l p : ℕ) → LivesIn s l p → IsNearWord (s.cell p)
  near_word l p h = let x = near_at (read_of (s.cell p)) l h.0 h.1 in (fits p, (x.len, x.ds, x.place, x.marks, x.near))

  pub live_near : (ls : List ℕ) → AllByRecursion (λ p. IsNearWord (s.cell p)) (live_among s ls)
  live_near [] = tt
  live_near (l ∷ ls) = all_append (λ p. IsNearWord (s.cell p)) (live_in s l) (live_among s ls) (each_map (near_word l) (live_in s l) (live_named s l)) (live_near ls)

pub all_filter : (P : ℕ → Type 0) (f : ℕ → Bool) (xs : List ℕ) → AllByRecursion P xs → AllByRecursion P (filter f xs)
all_filter P f [] h = tt
all_filter P f (x ∷ xs) h = cond_both (f x) (x ∷ filter f xs) (filter f xs) (AllByRecursion P) (λ _. (h.0, all_filter P f xs h.1)) (λ _. all_filter P f xs h.1)

pub all_take : (P : ℕ → Type 0) (n : ℕ) (xs : List ℕ) → AllByRecursion P xs → AllByRecursion P (take n xs)
all_take P (suc n) (x ∷ xs) h = (h.0, all_take P n xs h.1)
all_take P _ _ h = tt

-- what holds of those that lack it, and of those that don't, holds of all
joined_at : (P : ℕ → Type 0) (f : ℕ → Bool) (x : ℕ) (xs : List ℕ) (b : Bool) → f x ≡ b →
    AllByRecursion P (cond (not b) (x ∷ filter (λ y. not (f y)) xs) (filter (λ y. not (f y)) xs)) → ((y : ℕ) → f y ≡ true → P y) →
    (AllByRecursion P (filter (λ y. not (f y)) xs) → AllByRecursion P xs) → P x × AllByRecursion P xs
joined_at P f x xs true e h other next = (other x e, next h)
joined_at P f x xs false e h other next = (h.0, next h.1)

all_joined : (P : ℕ → Type 0) (f : ℕ → Bool) (xs : List ℕ) → AllByRecursion P (filter (λ y. not (f y)) xs) → ((y : ℕ) → f y ≡ true → P y) → AllByRecursion P xs
all_joined P f [] h other = tt
all_joined P f (x ∷ xs) h other = joined_at P f x xs (f x) refl h other (λ rest. all_joined P f xs rest other)

-- ---- marking
-- cells alone change
pub marks_cells : (ps : List ℕ) (s : State) → fold marked s ps ≡ record s { cell = (fold marked s ps).cell }
marks_cells [] s = refl
marks_cells (p ∷ ps) s = marks_cells ps (marked s p)

-- and the round, and its phase
abbrev pub beside_marks : Moment → Moment → Moment
beside_marks m t = record m { core = record m.core { cell = t.core.cell; epoch = t.core.epoch; round = t.core.round; round_epoch = t.core.round_epoch; clear = t.core.clear }; phase = t.phase }

pub marking_frame : (m : Moment) (n : ℕ) → after_marking m n ≡ beside_marks m (after_marking m n)
marking_frame m n =
    let cells = marks_cells (newly_marked m n) m.core in
    cond_both (leaves_some m n) (record m { core = marked_core m n }) (record m { core = advanced (marked_core m n) m.collection; phase = Waiting }) (λ (t : Moment). t ≡ beside_marks m t)
    (λ _. let is = ap (λ (s : State). record m { core = s }) cells in is ∙ sym (ap (beside_marks m) is))
    (λ _. let is = ap (λ (s : State). record m { core = advanced s m.collection; phase = Waiting }) cells in is ∙ sym (ap (beside_marks m) is))

module _ (m : Moment) (n : ℕ) (fits : (p : ℕ) → m.core.cell p < 2 ^ 64) where
  marking_cell : (after_marking m n).core.cell ≡ (marked_core m n).cell
  marking_cell = cond_both (leaves_some m n) (record m { core = marked_core m n }) (record m { core = advanced (marked_core m n) m.collection; phase = Waiting })
      (λ (t : Moment). t.core.cell ≡ (marked_core m n).cell) (λ _. refl) (λ _. refl)

  lacking_near : AllByRecursion (λ p. IsNearWord (m.core.cell p)) (lacking m.core m.collection)
  lacking_near = all_filter (λ p. IsNearWord (m.core.cell p)) (λ p. not (has_evac (read_of (m.core.cell p)))) (live_among m.core m.collection) (live_near m.core fits m.collection)

  new_near : AllByRecursion (λ p. IsNearWord (m.core.cell p)) (newly_marked m n)
  new_near = all_take (λ p. IsNearWord (m.core.cell p)) n (lacking m.core m.collection) lacking_near

  pub marking_like : (p : ℕ) → Like true (m.core.cell p) ((marked_core m n).cell p)
  marking_like = all_like true marked (λ w. bit_or w (2 ^ position Evac)) (λ s p. refl) mark_sets (newly_marked m n) m.core new_near

  marking_set : AllByRecursion (λ p. has_evac (read_of ((marked_core m n).cell p)) ≡ true) (newly_marked m n)
  marking_set = all_set true marked (λ w. bit_or w (2 ^ position Evac)) (λ s p. refl) mark_sets (newly_marked m n) m.core new_near

  marking_all : leaves_some m n ≡ false → AllByRecursion (λ p. has_evac (read_of ((marked_core m n).cell p)) ≡ true) (live_among m.core m.collection)
  marking_all none =
      let few : length (lacking m.core m.collection) ≤ n = grind (arith, nat_tests, none) in
      all_joined (λ p. has_evac (read_of ((marked_core m n).cell p)) ≡ true) (λ p. has_evac (read_of (m.core.cell p))) (live_among m.core m.collection)
      (subst (AllByRecursion (λ p. has_evac (read_of ((marked_core m n).cell p)) ≡ true)) (take_all n (lacking m.core m.collection) few) marking_set)
      (λ p has. (marking_like p).still has)

  pub is_marked : IsMarked m (after_marking m n) n
  is_marked = record {
    now = subst (λ cell. AllByRecursion (λ p. has_evac (read_of (cell p)) ≡ true) (newly_marked m n)) (sym marking_cell) marking_set;
    all = λ none. subst (λ cell. AllByRecursion (λ p. has_evac (read_of (cell p)) ≡ true) (live_among m.core m.collection)) (sym marking_cell) (marking_all none);
    same = λ p. ap (λ cell. but_evac (read_of (cell p))) marking_cell ∙ (marking_like p).same;
    others = λ p apart. ap (λ cell. cell p) marking_cell
        ∙ others_stay true marked (λ w. bit_or w (2 ^ position Evac)) (λ s q. refl) mark_sets (newly_marked m n) m.core p apart;
  }

-- ---- giving up: which logs leave the core's round
-- a cell names a place in a log
abbrev in_log : Option PtrWord → ℕ → Bool
in_log (Some (Near len ds place marks)) l = l == place.log
in_log _ l = false

left_by : (round : ℕ → Bool) (o : Option PtrWord) (l : ℕ) → round_left round o l ≡ (round l && not (in_log o l))
left_by round (Some (Near len ds place marks)) l = left_so (l == place.log) (round l)
left_by round _ l = sym (and-true (round l))

log_but : (o : Option PtrWord) (l : ℕ) → in_log o l ≡ in_log (but_evac o) l
log_but (Some Free) l = refl
log_but _ l = refl

abbrev any_in : State → List ℕ → ℕ → Bool
any_in s ps l = list_any (λ p. in_log (read_of (s.cell p)) l) ps

any_same : (s t : State) (ps : List ℕ) (l : ℕ) → ((p : ℕ) → but_evac (read_of (t.cell p)) ≡ but_evac (read_of (s.cell p))) → any_in t ps l ≡ any_in s ps l
any_same s t [] l same = refl
any_same s t (p ∷ ps) l same =
    ap (λ b. b || any_in t ps l) (log_but (read_of (t.cell p)) l ∙ ap (λ o. in_log o l) (same p) ∙ sym (log_but (read_of (s.cell p)) l))
    ∙ ap (λ b. in_log (read_of (s.cell p)) l || b) (any_same s t ps l same)

round_cleared : (ps : List ℕ) (s : State) (l : ℕ) → AllByRecursion (λ p. IsNearWord (s.cell p)) ps → (fold unmarked s ps).round l ≡ (s.round l && not (any_in s ps l))
round_cleared [] s l near = sym (and-true (s.round l))
round_cleared (p ∷ ps) s l near =
    round_cleared ps (unmarked s p) l (all_near false unmarked evac_cleared (λ u q. refl) clear_sets s p ps near.0 near.1)
    ∙ ap (λ b. (unmarked s p).round l && not b) (any_same s (unmarked s p) ps l (λ q. (one false unmarked evac_cleared (λ u x. refl) clear_sets s p q near.0).same))
    ∙ ap (λ b. b && not (any_in s ps l)) (left_by s.round (read_of (s.cell p)) l)
    ∙ not_either (s.round l) (in_log (read_of (s.cell p)) l) (any_in s ps l)

any_append : (s : State) (l : ℕ) (ps qs : List ℕ) → any_in s (ps ++ qs) l ≡ (any_in s ps l || any_in s qs l)
any_append s l [] qs = refl
any_append s l (p ∷ ps) qs = ap (λ b. in_log (read_of (s.cell p)) l || b) (any_append s l ps qs) ∙ or_more (in_log (read_of (s.cell p)) l) (any_in s ps l) (any_in s qs l)

-- whether some of these objects, which live in log k, live in log l
any_of : (s : State) (k l : ℕ) (ps : List ℕ) → AllByRecursion (LivesIn s k) ps → any_in s ps l ≡ (eqb l k && not (is_empty ps))
any_of s k l [] lives = sym (and-false (eqb l k))
any_of s k l (p ∷ ps) lives =
    let x = near_at (read_of (s.cell p)) k lives.0.0 lives.0.1 in
    ap (λ b. b || any_in s ps l) (ap (λ o. in_log o l) x.near ∙ ap (λ j. l == j) x.log)
    ∙ ap (λ b. eqb l k || b) (any_of s k l ps lives.1) ∙ or_and (eqb l k) (not (is_empty ps)) ∙ sym (and-true (eqb l k))

any_among : (s : State) (l : ℕ) (ls : List ℕ) → any_in s (live_among s ls) l ≡ (among ls l && not (is_empty (live_in s l)))
any_among s l [] = refl
any_among s l (k ∷ ks) =
    any_append s l (live_in s k) (live_among s ks)
    ∙ ap (λ b. b || any_in s (live_among s ks) l) (any_of s k l (live_in s k) (live_named s k))
    ∙ ap (λ b. (eqb l k && not (is_empty (live_in s k))) || b) (any_among s l ks)
    ∙ here_or_there (eqb l k) refl where
      here_or_there : (here : Bool) → eqb l k ≡ here → ((here && not (is_empty (live_in s k))) || (among ks l && not (is_empty (live_in s l)))) ≡ ((here || among ks l) && not (is_empty (live_in s l)))
      here_or_there true e = ap (λ j. not (is_empty (live_in s j)) || (among ks l && not (is_empty (live_in s l)))) (sym (eqb-true l k e)) ∙ absorbs (not (is_empty (live_in s l))) (among ks l)
      here_or_there false e = refl

round_given_up : (m : Moment) → AllByRecursion (λ p. IsNearWord (m.core.cell p)) (live_among m.core m.collection) → (l : ℕ) →
    (after_aborting m).core.round l ≡ cond (among m.collection l) (m.core.round l && is_empty (live_in m.core l)) (m.core.round l)
round_given_up m near l =
    round_cleared (live_among m.core m.collection) m.core l near
    ∙ ap (λ b. m.core.round l && not b) (any_among m.core l m.collection)
    ∙ by_held (m.core.round l) (among m.collection l) (is_empty (live_in m.core l))

pub clears_cells : (ps : List ℕ) (s : State) → fold unmarked s ps ≡ record s { cell = (fold unmarked s ps).cell; round = (fold unmarked s ps).round }
clears_cells [] s = refl
clears_cells (p ∷ ps) s = clears_cells ps (unmarked s p)

-- ---- giving up
pub is_given_up : (m : Moment) → ((p : ℕ) → m.core.cell p < 2 ^ 64) → IsGivenUp m (after_aborting m)
is_given_up m fits =
    let ps = live_among m.core m.collection in
    let near = live_near m.core fits m.collection in
    record {
      bare = all_set false unmarked evac_cleared (λ s p. refl) clear_sets ps m.core near;
      same = λ p. (all_like false unmarked evac_cleared (λ s q. refl) clear_sets ps m.core near p).same;
      others = λ p apart. others_stay false unmarked evac_cleared (λ s q. refl) clear_sets ps m.core p apart;
      round = round_given_up m near;
      rest = ap (λ (s : State). record m { core = s; phase = Idle; collection = [] }) (clears_cells ps m.core);
    }
