-- What the steps that deal with objects take of the logs, in the words of the trace.
use Rattle.std.proofs.Common.{◌≡◌, ◌≢◌, ℕ, ◌^◌, ◌<◌, ◌==◌, Bool, true, false, not, cond, eqb, Option, Some, None, List, [], ◌∷◌, filter, inl, inr, arith, ap, sym, refl, ◌∙◌, subst}
use Rattle.std.specs.Prelude.{◌⊎◌, Contains, IsSome}
use Rattle.std.specs.List.{AllByRecursion, IsDistinct, sum_by}
use Rattle.std.proofs.lemmas.Bool.{cond_both, eq-eqb, eqb-true, false≢true, true≢false}
use Rattle.std.proofs.lemmas.List.Sums.{sum_by-cons}
use Rattle.far_word.specs.declared.pointer.Place.{Place}
use Rattle.far_word.specs.declared.pointer.PtrWord.{PtrWord}
use Rattle.far_word.specs.declared.pointer.PtrWord.TheVariants.{Free, Near, Far}
use Rattle.far_word.specs.declared.refused.Refused.{Refused as Refusal}
use Rattle.far_word.specs.declared.refused.Refused.TheVariants.{Phase as WrongPhase, StillOpen}
use Rattle.far_word.specs.Pointer.{read_of}
use Rattle.far_events.specs.events.Clear.{is_near}
use Rattle.far_events.specs.state.Law.{Law}
use Rattle.far_events.specs.state.State.{State}
use Rattle.far_book.proofs.region.Owns.{own_law}
use Rattle.far_evac.specs.Choosing.{after_aborting, after_selecting}
use Rattle.far_evac.specs.Waiting.{first_open, polled_to}
use Rattle.far_evac.specs.Laws.{but_evac}
use Rattle.far_evac.specs.Marking.{after_marking}
use Rattle.far_evac.specs.Dealings.{HasLeft}
use Rattle.far_evac.specs.LiveLaws.{IsNearIn}
use Rattle.far_evac.specs.Moment.{Moment}
use Rattle.far_evac.specs.MomentLaw.{MomentLaw, is_idle}
use Rattle.far_evac.specs.RoundSteps.{among}
use Rattle.far_evac.specs.TakesRoom.{TakesRoom as Taken, bytes_at, bytes_gone, bytes_in, bytes_near, gone_of, spot_of}
use Rattle.far_evac.specs.Walk.{ended, is_done, walked}
use Rattle.far_evac.proofs.Marks.{all_filter, is_given_up, is_marked}
use Rattle.far_evac.proofs.RoomTurns.{call_takes_room, round_takes_room, round_takes_some}
use Rattle.far_evac.specs.Turns.{turn_size}
use Rattle.far_evac.specs.declared.answers.Progress.{Progress}
use Rattle.far_replay_laws.proofs.Stops.{LeftSome, Stood, begun, left_led, stopped_so, turns_led}
use Rattle.far_evac.proofs.Walks.{walk_is}
use Rattle.far_text.specs.Command.{By, Evacuator, Step, Select, Mark, Wait, Evacuate, Abort, Round, Policy}
use Rattle.far_replay_laws.specs.Headline.{TakesRoom}
use Rattle.far_replay.specs.Taking.{TakesNone}
use Rattle.far_replay_laws.specs.MovesTake.{Comes, Leaves, MovesTake, RoomAside, RoomBack, RoomLeft, TakeBytes}
use Rattle.far_reply.specs.Reply.{Refused}
use Rattle.far_replay.specs.Rounds.{after_round, chosen_by, given_by, is_evacuating, logs_given, refused_step, round_told, rows_in, step_effect}
use Rattle.far_replay_laws.specs.Steps.{IsChosen, IsRetired, IsSentFar, LiesIn, Takes}
use Rattle.far_replay.specs.Turn.{refusal, unless, turn_effect, turn_reply, refused_effect}
use Rattle.far_evac.proofs.Fronts.{kept_in}
use Rattle.far_evac.proofs.Leading.{selecting}
use Rattle.far_replay_laws.proofs.GivenFree.{GivenFree, ended_free, round_free, stop_free}
use Rattle.far_replay_laws.proofs.CountedOnce.{all_at, among_in, filtered, in_among, member_or_apart}
use Rattle.far_replay_laws.proofs.LeftByWalks.{marked_frame, marking_frame}
use Rattle.far_replay.proofs.LogBytes.{celled_takes, names_bare, none_taken, worded_takes}
use Rattle.far_replay.proofs.RoundChoices.{policy_chooses}
use Rattle.far_replay.proofs.RoundLeads.{begins, evacuating_is, is_round, made_leads, none_first}
use Rattle.far_replay_laws.proofs.StepsTell.{held_by, held_chosen, names_there, none_held, policy_takes}

-- ---- what lies in a log, as a test
abbrev in_log : ℕ → Option PtrWord → Bool
in_log l (Some (Near len ds place marks)) = place.log == l
in_log l _ = false

at_log : (l : ℕ) (o : Option PtrWord) → bytes_at l o ≡ cond (in_log l o) (bytes_near o) 0
at_log l None = refl
at_log l (Some Free) = refl
at_log l _ = refl

in_spot : (l : ℕ) (o : Option PtrWord) → in_log l o ≡ in_log l (spot_of o)
in_spot l None = refl
in_spot l (Some Free) = refl
in_spot l _ = refl

lies_by : (s : State) (p l : ℕ) (o : Option PtrWord) → read_of (s.cell p) ≡ o → in_log l o ≡ true → LiesIn s p l
lies_by s p l (Some (Near len ds place marks)) e h = (len, ds, place, marks, e, eqb-true place.log l h)
lies_by s p l _ e h = absurd (false≢true h)

in_lies : (s : State) (p l : ℕ) → LiesIn s p l → in_log l (read_of (s.cell p)) ≡ true
in_lies s p l (len, ds, place, marks, near, log) = ap (in_log l) near ∙ eq-eqb place.log l log

one_log : (s : State) (p k l : ℕ) → LiesIn s p k → LiesIn s p l → k ≡ l
one_log s p k l (len, ds, place, marks, near, log) (n, d, to, other, there, is) =
    let same : Some (Near len ds place marks) ≡ Some (Near n d to other) = sym near ∙ there in
    let places : place ≡ to = cc in
    sym log ∙ ap (λ (x : Place). x.log) places ∙ is

near_lies : (s : State) (p l : ℕ) → LiesIn s p l → is_near (read_of (s.cell p)) ≡ true
near_lies s p l (len, ds, place, marks, near, log) = ap is_near near

-- ---- sums over a part of a list
sum_filter : (f : ℕ → Bool) (g h : ℕ → ℕ) → ((p : ℕ) → h p ≡ cond (f p) (g p) 0) → (xs : List ℕ) → sum_by g (filter f xs) ≡ sum_by h xs
sum_filter f g h same [] = refl
sum_filter f g h same (x ∷ xs) = cond_both (f x) (x ∷ filter f xs) (filter f xs) (λ (ys : List ℕ). sum_by g ys ≡ sum_by h (x ∷ xs))
    (λ yes.
    let one : h x ≡ g x = same x ∙ ap (λ b. cond b (g x) 0) yes in
    let rest = sum_filter f g h same xs in
    omega (arith, one, rest, sum_by-cons g x (filter f xs), sum_by-cons h x xs))
    (λ no.
    let one : h x ≡ 0 = same x ∙ ap (λ b. cond b (g x) 0) no in
    let rest = sum_filter f g h same xs in
    omega (arith, one, rest, sum_by-cons h x xs))

distinct_filter : (f : ℕ → Bool) (xs : List ℕ) → IsDistinct eqb xs → IsDistinct eqb (filter f xs)
unfolding IsDistinct
distinct_filter f [] once = tt
distinct_filter f (x ∷ xs) once = cond_both (f x) (x ∷ filter f xs) (filter f xs) (IsDistinct eqb) (λ _. (all_filter (λ y. eqb x y ≡ false) f xs once.0, distinct_filter f xs once.1)) (λ _. distinct_filter f xs once.1)

some_bytes : (s : State) (P : ℕ → Type 0) (f : ℕ → Bool) (h : ℕ → ℕ) (xs : List ℕ) → ((p : ℕ) → h p ≡ cond (f p) (bytes_near (read_of (s.cell p))) 0) → IsDistinct eqb xs →
    ((p : ℕ) → Contains xs p → f p ≡ true → P p) → ((p : ℕ) → P p → Contains xs p × (f p ≡ true)) → TakeBytes s P (sum_by h xs)
some_bytes s P f h xs same once sound whole = (
  filter f xs,
  sum_filter f (λ p. bytes_near (read_of (s.cell p))) h same xs,
  distinct_filter f xs once,
  λ p. ((λ c. let x = filtered f xs p c in sound p x.0 x.1), (λ is. let x = whole p is in kept_in f p xs x.1 x.0)),
)

flipped : (b : Bool) (n : ℕ) → cond b 0 n ≡ cond (not b) n 0
flipped true n = refl
flipped false n = refl

-- ---- from a moment to another, objects have left the collection set
module _ (m t : Moment) (objects : List ℕ) (h : Taken m t objects) (law : Law t.core) where
  was : (p : ℕ) → Contains objects p → (k : ℕ) × LiesIn m.core p k
  was p c = let x = all_at (IsNearIn m.core m.collection) p objects h.of_collection c in (x.place.log, (x.len, x.ds, x.place, x.marks, x.near, refl))

  same_log : (p l : ℕ) → AllByRecursion (λ q. q ≢ p) objects → in_log l (read_of (t.core.cell p)) ≡ in_log l (read_of (m.core.cell p))
  same_log p l apart = in_spot l (read_of (t.core.cell p)) ∙ ap (in_log l) (h.others p apart) ∙ sym (in_spot l (read_of (m.core.cell p)))

  stays : (p l : ℕ) → AllByRecursion (λ q. q ≢ p) objects → LiesIn m.core p l → LiesIn t.core p l
  stays p l apart lies = lies_by t.core p l (read_of (t.core.cell p)) refl (same_log p l apart ∙ in_lies m.core p l lies)

  lay : (p l : ℕ) → AllByRecursion (λ q. q ≢ p) objects → LiesIn t.core p l → LiesIn m.core p l
  lay p l apart lies = lies_by m.core p l (read_of (m.core.cell p)) refl (sym (same_log p l apart) ∙ in_lies t.core p l lies)

  has_left : (p l : ℕ) → Contains objects p → LiesIn m.core p l → ¬ LiesIn t.core p l
  has_left p l c from to =
      let x = names_there m.core p l from in
      let y = names_there t.core p l to in
      true≢false (sym y.1 ∙ all_at (λ q. HasLeft (read_of (m.core.cell q)) (read_of (t.core.cell q))) p objects h.away c l x.0 y.0 x.1)

  comes : (l : ℕ) → TakeBytes t.core (Comes m.core t.core l) (bytes_in t.core l objects)
  comes l = some_bytes t.core (Comes m.core t.core l) (λ p. in_log l (read_of (t.core.cell p))) (λ p. bytes_at l (read_of (t.core.cell p))) objects (λ p. at_log l (read_of (t.core.cell p))) h.once
      (λ p c is.
      let there = lies_by t.core p l (read_of (t.core.cell p)) refl is in
      let from = was p c in
      (there, (from.0, from.1, λ e. has_left p l c (subst (LiesIn m.core p) e from.1) there)))
      (λ p x. (
        elim (member_or_apart p objects) [
          | inl c ↦ c
          | inr apart ↦ absurd (x.1.2 (one_log m.core p x.1.0 l x.1.1 (lay p l apart x.0)))
        ],
        in_lies t.core p l x.0,
      ))

  leaves : (l : ℕ) → TakeBytes m.core (Leaves m.core t.core l) (bytes_in m.core l objects)
  leaves l = some_bytes m.core (Leaves m.core t.core l) (λ p. in_log l (read_of (m.core.cell p))) (λ p. bytes_at l (read_of (m.core.cell p))) objects (λ p. at_log l (read_of (m.core.cell p))) h.once
      (λ p c is. let from = lies_by m.core p l (read_of (m.core.cell p)) refl is in (from, has_left p l c from))
      (λ p x. (
        elim (member_or_apart p objects) [
          | inl c ↦ c
          | inr apart ↦ absurd (x.1 (stays p l apart x.0))
        ],
        in_lies m.core p l x.0,
      ))

  abbrev Goes : ℕ → Type 0
  Goes p = IsSentFar m.core t.core p ⊎ IsRetired m.core t.core p

  goes_by : (p : ℕ) → Contains objects p → (o : Option PtrWord) → read_of (t.core.cell p) ≡ o → not (is_near o) ≡ true → Goes p
  goes_by p c None e is = absurd (false≢true (subst IsSome e (law.cells.cell_read p).1))
  goes_by p c (Some Free) e is = inr (was p c, e)
  goes_by p c (Some (Near len ds place marks)) e is = absurd (false≢true is)
  goes_by p c (Some (Far len ds marks)) e is = inl (was p c, (len, ds, marks, e))

  off_near : (p : ℕ) → Goes p → is_near (read_of (t.core.cell p)) ≡ false
  off_near p (inl (from, (len, ds, marks, far))) = ap is_near far
  off_near p (inr (from, free)) = ap is_near free

  from_near : (p : ℕ) → Goes p → (l : ℕ) × LiesIn m.core p l
  from_near p (inl (from, far)) = from
  from_near p (inr (from, free)) = from

  goes : TakeBytes m.core Goes (bytes_gone m.core t.core objects)
  goes = some_bytes m.core Goes (λ p. not (is_near (read_of (t.core.cell p)))) (gone_of m.core t.core) objects (λ p. flipped (is_near (read_of (t.core.cell p))) (bytes_near (read_of (m.core.cell p)))) h.once
      (λ p c is. goes_by p c (read_of (t.core.cell p)) refl is)
      (λ p x. (
        elim (member_or_apart p objects) [
          | inl c ↦ c
          | inr apart ↦ (let from = from_near p x in absurd (true≢false (sym (near_lies t.core p from.0 (stays p from.0 apart from.1)) ∙ off_near p x)))
        ],
        ap not (off_near p x),
      ))

  -- ---- in the words of the trace
  aside : (l : ℕ) → among m.collection l ≡ false → RoomAside m.core t.core l
  aside l off = let x = h.aside l off in record {
    came = bytes_in t.core l objects;
    bytes = comes l;
    live = x.live;
    dead = x.dead;
    unused = x.unused;
    sealed = x.sealed;
    opened = x.opened;
    used = x.used;
  }

  left : (l : ℕ) → among t.collection l ≡ true → RoomLeft m.core t.core l
  left l is = let x = h.left l is in record { left = bytes_in m.core l objects; bytes = leaves l; live = x.live; dead = x.dead; unused = x.unused }

  back : GivenFree m.collection t.core t.collection → (l : ℕ) → among m.collection l ≡ true → among t.collection l ≡ false → RoomBack m.core t.core l
  back free l held off = let x = h.back l held off in record {
    came = bytes_in t.core l objects;
    bytes = comes l;
    left = subst (TakeBytes m.core (Leaves m.core t.core l)) (sym x.left) (leaves l);
    live = x.live;
    dead = x.dead;
    unused = x.unused;
    free = λ none. elim (free l held off) [
      | inl is ↦ is
      | inr some ↦ (let unused = x.unused in absurd (omega (arith, none, some, unused)))
    ];
  }

  pub moves_take : GivenFree m.collection t.core t.collection → (Held : ℕ → Type 0) → ((l : ℕ) → Held l → among m.collection l ≡ true) → ((l : ℕ) → ¬ Held l → among m.collection l ≡ false) →
      ((l : ℕ) → IsChosen t l → among t.collection l ≡ true) → ((l : ℕ) → ¬ IsChosen t l → among t.collection l ≡ false) → MovesTake m Held t
  moves_take free Held on off chosen none = record {
    aside = λ l is. aside l (off l is);
    left = λ l held is. left l (chosen l is);
    back = λ l held is. back free l (on l held) (none l is);
    all = record { gone = bytes_gone m.core t.core objects; bytes = goes; live = h.total };
  }

-- ---- which logs are chosen
pub chosen_held : (now : Moment) (l : ℕ) → IsChosen now l → among now.collection l ≡ true
chosen_held now l is = held_by (among now.collection l) (now.core.kind l) is

not_chosen : (now : Moment) → MomentLaw now → (l : ℕ) → ¬ IsChosen now l → among now.collection l ≡ false
not_chosen now moment l off = by_held (among now.collection l) refl where
  by_held : (b : Bool) → among now.collection l ≡ b → b ≡ false
  by_held true e = absurd (off (held_chosen now moment l e))
  by_held false e = refl

not_named : (logs : List ℕ) (l : ℕ) → ¬ Contains logs l → among logs l ≡ false
not_named logs l off = by_among (among logs l) refl where
  by_among : (b : Bool) → among logs l ≡ b → b ≡ false
  by_among true e = absurd (off (among_in l logs e))
  by_among false e = refl

-- ---- `evacuate`, and `round`
module _ (now : Moment) (law : Law now.core) (moment : MomentLaw now) (alone : now.copying ≡ false) where
  evacuate_takes : (count : ℕ) → refusal now (Evacuator (Evacuate count)) ≡ None → MovesTake now (IsChosen now) (step_effect now (Evacuate count))
  evacuate_takes count e =
      let leads = made_leads now law moment alone (Evacuate count) e in
      let phase = evacuating_is now.phase (none_first (not (is_evacuating now.phase)) WrongPhase [] e).0 in
      let t = ended (walked now count) in
      let walk = walk_is now count in
      let taken = (call_takes_room now t count (walked now count).tally (is_done (walked now count)) (own_law now.core law) moment).0 phase (walk.0, walked now count, walk.1, refl, refl, refl) in
      moves_take now t taken.0 taken.1 leads.law (ended_free now law moment alone phase count) (IsChosen now) (chosen_held now) (not_chosen now moment) (chosen_held t) (not_chosen t leads.moment)

  begun_core : (logs : List ℕ) (Held : ℕ → Type 0) (t : Moment) → MovesTake (after_selecting now logs) Held t → MovesTake now Held t
  begun_core [] Held t h = h
  begun_core (l ∷ ls) Held t h = record { aside = h.aside; left = h.left; back = h.back; all = h.all }

  begun_held : (logs : List ℕ) → is_idle now.phase ≡ true → (l : ℕ) → among (after_selecting now logs).collection l ≡ among logs l
  begun_held [] idle l = ap (λ (xs : List ℕ). among xs l) (none_held now.collection (moment.runs ∙ idle))
  begun_held (k ∷ ks) idle l = refl

  round_takes : (policy : Policy) (most turns : ℕ) → refusal now (Evacuator (Round policy most turns)) ≡ None →
      (logs : List ℕ) × Takes now (By policy) most logs × MovesTake now (Contains logs) (step_effect now (Round policy most turns))
  round_takes policy most turns e =
      let leads = made_leads now law moment alone (Round policy most turns) e in
      let may = begins now [] e in
      let logs = chosen_by policy (rows_in now) most in
      let chosen = policy_chooses now policy most moment in
      let t = after_round now logs turns in
      let begun = selecting now logs law moment may.0.idle may.0.left chosen.once chosen.of_order in
      let taken = round_takes_room now logs turns (round_told now logs turns) t law moment alone may.0.idle may.0.left chosen.once chosen.of_order (is_round now logs turns) in
      let held = begun_held logs may.0.idle in (
        logs,
        policy_takes now law moment alone policy most,
        begun_core logs (Contains logs) t
            (moves_take (after_selecting now logs) t taken.0 taken.1 leads.law (round_free now law logs turns begun.moment alone) (Contains logs) (λ l c. held l ∙ in_among l logs c) (λ l off. held l ∙ not_named logs l off) (chosen_held t) (not_chosen t leads.moment)),
      )

  -- a round that was stopped
  pub stop_takes : (policy : Policy) (most turns count objects : ℕ) (stood next : Moment) (progress : Progress) (h : Stood now policy most turns stood) → turns < count → objects < turn_size → LeftSome stood objects progress next →
      (logs : List ℕ) × Takes now (By policy) most logs × MovesTake now (Contains logs) next
  stop_takes policy most turns count objects stood next progress h few within left =
      let logs = h.log ∷ h.logs in
      let m = after_selecting now logs in
      let start = begun now law moment alone policy most turns stood h in
      let led = turns_led now law moment alone policy most turns stood h in
      let after = left_led stood led.law led.moment (led.copying ∙ alone) objects progress next left in
      let taken = (round_takes_some now next logs count (own_law now.core law) alone).1 _ (stopped_so now law moment alone policy most turns stood h count objects progress next few within left) in
      let free : GivenFree m.collection next.core next.collection = subst (λ (x : Moment). GivenFree m.collection x.core x.collection) (sym left.stands)
      (subst (λ (x : Moment). GivenFree m.collection (walked x objects).moment.core (walked x objects).moment.collection) (sym h.stands) (stop_free m start.law start.moment (start.copying ∙ alone) refl turns objects h.goes h.leaves)) in
      let held = begun_held logs (begins now [] h.may).0.idle in (
        logs,
        subst (Takes now (By policy) most) h.chosen (policy_takes now law moment alone policy most),
        begun_core logs (Contains logs) next
            (moves_take m next taken.0 taken.1 after.law free (Contains logs) (λ l c. held l ∙ in_among l logs c) (λ l off. held l ∙ not_named logs l off) (chosen_held next) (not_chosen next after.moment)),
      )

-- what is owed of those that deal with objects
abbrev pub MovesTakeFor : Moment → Step → Option Refusal → Type 0
MovesTakeFor now (Evacuate count) None = MovesTake now (IsChosen now) (step_effect now (Evacuate count))
MovesTakeFor now (Round policy most turns) None = (logs : List ℕ) × Takes now (By policy) most logs × MovesTake now (Contains logs) (step_effect now (Round policy most turns))
MovesTakeFor now step o = Unit {0}

-- all others take nothing
module _ (now : Moment) (law : Law now.core) where
  fits : (p : ℕ) → now.core.cell p < 2 ^ 64
  fits p = (law.cells.cell_read p).0

  polled_takes : (o : Option ℕ) → TakesNone now.core (polled_to now o).core
  polled_takes None = celled_takes now.core (polled_to now None).core refl refl refl refl
  polled_takes (Some k) = celled_takes now.core (polled_to now (Some k)).core refl refl refl refl

  wait_takes : (why : Refusal) → TakesNone now.core (refused_step now Wait why).core
  wait_takes (StillOpen mutator epoch) = polled_takes (first_open now.core)
  wait_takes why = none_taken now.core

  select_takes : (logs : List ℕ) → TakesNone now.core (after_selecting now logs).core
  select_takes [] = none_taken now.core
  select_takes (l ∷ ls) = celled_takes now.core (after_selecting now (l ∷ ls)).core refl refl refl refl

  framed_takes : (t : State) → t ≡ marked_frame now.core t → ((q : ℕ) → but_evac (read_of (t.cell q)) ≡ but_evac (read_of (now.core.cell q))) → TakesNone now.core t
  framed_takes t frame same = worded_takes now.core t (ap (λ (u : State). u.word) frame) (ap (λ (u : State). u.tail) frame) (ap (λ (u : State). u.kind) frame) (names_bare now.core t same)

  mark_takes : (count : ℕ) → TakesNone now.core (after_marking now count).core
  mark_takes count = framed_takes (after_marking now count).core (marking_frame now count) (is_marked now count fits).same

  abort_takes : TakesNone now.core (after_aborting now).core
  abort_takes =
      let is = ap (λ (m : Moment). m.core) (is_given_up now fits).rest in
      framed_takes (after_aborting now).core (is ∙ sym (ap (marked_frame now.core) is)) (is_given_up now fits).same

  takes_step : (step : Step) (o : Option Refusal) → refusal now (Evacuator step) ≡ o → MovesTakeFor now step o →
      TakesRoom now (Evacuator step) (unless o Refused (turn_reply now (Evacuator step))) (unless o (refused_effect now (Evacuator step)) (turn_effect now (Evacuator step)))
  takes_step (Select choice most) None e moves = select_takes (logs_given (given_by choice (rows_in now) most))
  takes_step (Mark count) None e moves = mark_takes count
  takes_step Wait None e moves = polled_takes (first_open now.core)
  takes_step Wait (Some why) e moves = wait_takes why
  takes_step (Evacuate count) None e moves = moves
  takes_step Abort None e moves = abort_takes
  takes_step (Round policy most turns) None e moves = moves
  takes_step _ (Some why) e moves = none_taken now.core

pub step_takes : (now : Moment) (step : Step) (o : Option Refusal) → Law now.core → MomentLaw now → now.copying ≡ false → refusal now (Evacuator step) ≡ o →
    TakesRoom now (Evacuator step) (unless o Refused (turn_reply now (Evacuator step))) (unless o (refused_effect now (Evacuator step)) (turn_effect now (Evacuator step)))
step_takes now step o law moment alone e = takes_step now law step o e (owed step o e) where
  owed : (step : Step) (o : Option Refusal) → refusal now (Evacuator step) ≡ o → MovesTakeFor now step o
  owed (Select choice most) o e = tt
  owed (Mark count) o e = tt
  owed Wait o e = tt
  owed (Evacuate count) None e = evacuate_takes now law moment alone count e
  owed (Evacuate count) (Some why) e = tt
  owed Abort o e = tt
  owed (Round policy most turns) None e = round_takes now law moment alone policy most turns e
  owed (Round policy most turns) (Some why) e = tt
