-- What the book's lines are told, by what is asked and told alone.
use Rattle.std.proofs.Common.{◌≡◌, ◌≢◌, ◌⊎◌, inl, inr, ℕ, zero, suc, ◌+◌, ◌*◌, ◌^◌, ◌<◌, ◌≤◌, Bool, true, false, cond, Some, None, Result, Ok, Err, List, [], ◌∷◌, eqb, filter, length, map, min, sum, take, refl, ap, sym, subst, ◌∙◌, arith}
use Rattle.std.specs.Prelude.{Contains}
use Rattle.std.specs.List.{AllByRecursion, range_with_len, sum_by}
use Rattle.std.proofs.lemmas.Bool.{cases_Bool, cases_lt, cond_both, eq-eqb, eqb-true, false≢true, or_cases, or_left, or_right}
use Rattle.std.proofs.lemmas.List.{length-map, length-take}
use Rattle.std.proofs.lemmas.List.Sums.{sum_by-cons}
use Rattle.std.proofs.lemmas.Option.{none-some, same_Some}
use Rattle.far_word.specs.declared.refused.Refused.{Refused as Refusal}
use Rattle.far_word.specs.declared.refused.Refused.TheVariants as refused
use Rattle.far_word.specs.Refused.{refusal_number}
use Rattle.far_log.specs.declared.row.LogRow.{LogRow}
use Rattle.far_log.proofs.Members.{here, none_in, split, there}
use Rattle.far_policy.specs.LeastLive.{GoesBefore, TakesLeast}
use Rattle.far_policy.specs.Logs.{logs_of}
use Rattle.far_events.specs.events.Mark.{is_sealed}
use Rattle.far_core.specs.laws.Observed.{live_bytes}
use Rattle.far_events.specs.state.State.{State}
use Rattle.far_table.specs.declared.book.BookSeat.{BookSeat}
use Rattle.far_table.specs.BookSeats.{seat_view}
use Rattle.far_book.specs.book.Rows.{row_of}
use Rattle.far_book.specs.declared.home.Home.{Home}
use Rattle.far_book.specs.declared.home.Home.TheVariants.{Near, Far}
use Rattle.far_evac.specs.declared.answers.Polled.{Polled}
use Rattle.far_evac.specs.declared.answers.Polled.TheVariants.{Clear, StillOpen}
use Rattle.far_evac.specs.declared.answers.Progress.{Progress}
use Rattle.far_evac.specs.declared.answers.RoundEnd.{RoundEnd}
use Rattle.far_evac.specs.declared.answers.RoundEnd.TheVariants as ends
use Rattle.far_evac.specs.declared.census.Housed.{Housed}
use Rattle.far_evac.specs.declared.census.LogState.{LogState}
use Rattle.far_evac.specs.declared.phase.Phase.{Phase}
use Rattle.far_evac.specs.declared.phase.Phase.TheVariants.{Idle, Marking, Waiting, Evacuating}
use Rattle.far_evac.specs.AnyHand.{Evacuates, Polls, StopsAt, WalksTo}
use Rattle.far_evac.specs.AnyTurns.{TurnsTo, sum_of}
use Rattle.far_evac.specs.Beside.{EvacuatesBeside}
use Rattle.far_evac.specs.ByCopying.{EvacuatesBy, StopsBy}
use Rattle.far_evac.specs.Choosing.{is_spent}
use Rattle.far_evac.specs.EvacOf.{EvacOf, moment}
use Rattle.far_evac.specs.Listing.{IsAt, ListsEach, TellsState, listed_pointers}
use Rattle.far_evac.specs.Live.{is_empty}
use Rattle.far_evac.specs.LiveLaws.{IsInTurn}
use Rattle.far_evac.specs.Marking.{after_marking, leaves_some, marked_core}
use Rattle.far_evac.specs.Moment.{Moment, Tally, nothing, objects_in, plus, progress_of}
use Rattle.far_evac.specs.MomentLaw.{IsLawful, is_idle}
use Rattle.far_evac.specs.RoundSteps.{advanced, among}
use Rattle.far_evac.specs.Turns.{turn_size}
use Rattle.far_evac.specs.Walk.{Walked, ended, is_done}
use Rattle.far_evac.proofs.BesideRounds.{walks_so}
use Rattle.far_evac.proofs.Bools.{by_copying}
use Rattle.far_evac.proofs.CopiedBack.{copied_comes_back}
use Rattle.far_evac.proofs.Fronts.{kept_in, was_kept}
use Rattle.far_evac.proofs.Rounds.{turn_ends, walks_phase}
use Rattle.far_evac.proofs.SmallSteps.{tallies_all, walks_kept}
use Rattle.far_heap.specs.HeapId.{HeapId, heap_of}
use Rattle.far_heap.specs.Rounds.{ChoseNone, Chose, EndsAfter, IsUnchosen, StopsTurn, StopsTurns, TurnMade, TurnRefused, TurnsMade, is_round_of, rows_of, told, told_of}
use Rattle.far_heap.proofs.Named.{stays_named}
use Rattle.far_heap.proofs.RoundTurns.{not_idle}
use Rattle.far_text.specs.Command.{Command, Book, Evacuator, Logs as AsksLogs, Log as AsksLog, Audit as AsksAudit, Policy, LeastLive, Oldest, Round}
use Rattle.far_reply.specs.declared.reply.Counts.{Counts}
use Rattle.far_reply.specs.Reply.{Reply, Audited, Ended, Halted, Logs, Refused}
use Rattle.far_replay.specs.Turn.{log_line}
use Rattle.far_split.specs.FarSides.{FarLetsGo, FarSide, FarWrites, far_bytes}
use Rattle.far_split.specs.BookTold.{BookStood, Gives, TellsCensus, TellsLine, counted as counted_in, lies_far, lies_near, none_done}
use Rattle.far_split.specs.BookSaid.{AddsUp, AreSoMany, BookIsToldSo, CountsAll, HasNoneSealed, IsAtLimit, IsChosenBy, IsDoneBy, IsLeftIn, IsOf16, IsRefusedBare, IsRefusedWithCounts, IsStoppedBy, IsSumOf, IsToldSo, RanInOrBefore, RoundsAreRefusedSo, SaysFar, SaysNear, SumsAreTold, numbers_of}

-- ---- who is in a list
-- in a list of what is found of others
in_map : {X Y : Type 0} (f : X → Y) (x : X) (xs : List X) → Contains xs x → Contains (map f xs) (f x)
in_map f x [] member = absurd (none_in x member)
in_map f x (y ∷ ys) member = elim (split x y ys member) [
  | inl e ↦ subst (λ z. Contains (z ∷ map f ys) (f x)) (sym (ap f e)) (here (f x) (map f ys))
  | inr more ↦ there (f x) (f y) (map f ys) (in_map f x ys more)
]

from_map : {X Y : Type 0} (f : X → Y) (p : Y) (xs : List X) → Contains (map f xs) p → (x : X) × Contains xs x × (f x ≡ p)
from_map f p [] member = absurd (none_in p member)
from_map f p (y ∷ ys) member = elim (split p (f y) (map f ys) member) [
  | inl e ↦ (y, here y ys, e)
  | inr more ↦ (let (x, there_in, is) = from_map f p ys more in (x, there x y ys there_in, is))
]

among_in : (l : ℕ) (ls : List ℕ) → among ls l ≡ true → Contains ls l
among_in l [] h = absurd (false≢true h)
among_in l (k ∷ ks) h = elim (or_cases (eqb l k) (among ks l) h) [
  | inl e ↦ subst (λ (j : ℕ). Contains (j ∷ ks) l) (eqb-true l k e) (here l ks)
  | inr more ↦ there l k ks (among_in l ks more)
]

in_among : (l : ℕ) (ls : List ℕ) → Contains ls l → among ls l ≡ true
in_among l [] h = absurd (none_in l h)
in_among l (k ∷ ks) h = elim (split l k ks h) [
  | inl e ↦ or_left (eqb l k) (among ks l) (eq-eqb l k (sym e))
  | inr more ↦ or_right (eqb l k) (among ks l) (in_among l ks more)
]

-- ---- which logs a round takes
abbrev chosen_in : Result (List ℕ) Refusal → List ℕ
chosen_in (Ok logs) = logs
chosen_in (Err why) = []

-- rows of logs are of these
logs_back : (s : State) (logs : List ℕ) → logs_of (map (row_of s) logs) ≡ logs
logs_back s [] = refl
logs_back s (log ∷ logs) = ap (λ (ls : List ℕ). log ∷ ls) (logs_back s logs)

no_more : (r s : LogRow) → GoesBefore r s → r.live ≤ s.live
no_more r s (inl fewer) = omega (arith, fewer)
no_more r s (inr same) = omega (arith, same.0)

-- logs of the rows that were taken
module _ (s : State) (order logs : List ℕ) (most : ℕ) (taken : List LogRow) (takes : TakesLeast (map (row_of s) order) most taken) (are : logs ≡ logs_of taken) where
  row_taken : (l : ℕ) → among logs l ≡ true → Contains taken (row_of s l)
  row_taken l member =
      let (row, in_taken, named) = from_map (λ (r : LogRow). r.log) l taken (subst (λ (ls : List ℕ). Contains ls l) are (among_in l logs member)) in
      let (k, in_order, made) = from_map (row_of s) row order (takes.members row in_taken) in
      let same : k ≡ l = ap (λ (r : LogRow). r.log) made ∙ named in
      subst (Contains taken) (sym made ∙ ap (row_of s) same) in_taken

  least_taken : (l k : ℕ) → among logs l ≡ true → among order k ≡ true → among logs k ≡ false → live_bytes s l ≤ live_bytes s k
  least_taken l k member sealed left = elim (takes.least (row_of s k) (in_map (row_of s) k order (among_in k order sealed))) [
    | inl in_taken ↦
        let listed : Contains (logs_of taken) k = in_map (λ (r : LogRow). r.log) (row_of s k) taken in_taken in
        absurd (false≢true (sym left ∙ ap (λ (ls : List ℕ). among ls k) are ∙ in_among k (logs_of taken) listed))
    | inr before ↦ no_more (row_of s l) (row_of s k) (before (row_of s l) (row_taken l member))
  ]

-- what a policy gives of a moment's sealed logs
chosen_by : (policy : Policy) (before after : Unit {0}) (now : Moment) (most : ℕ) (logs : List ℕ) → IsLawful now → Gives policy before (map (row_of now.core) now.order) most (Ok logs) after → IsChosenBy policy most logs now
chosen_by Oldest before after now most logs lawful given = ap chosen_in given ∙ ap (λ (ls : List ℕ). take most ls) (logs_back now.core now.order)
chosen_by LeastLive before after now most logs lawful (taken, takes, given) =
    let are : logs ≡ logs_of taken = ap chosen_in given in (
      ap (λ (ls : List ℕ). length ls) are ∙ length-map taken (λ (r : LogRow). r.log) ∙ takes.count ∙ ap (min most) (length-map now.order (row_of now.core)),
      λ l k member sealed left. least_taken now.core now.order logs most taken takes are l k member (lawful.1.order k ∙ ap is_sealed sealed) left,
    )

took : (heap : HeapId) (policy : Policy) (most : ℕ) (logs : List ℕ) → Chose (Gives policy) FarSide heap tt most tt logs → BookStood heap (IsChosenBy policy most logs)
took heap policy most logs chose =
    let c = chose.chooses in
    record { book = chose.book; named = c.named; lawful = c.lawful; is = chosen_by policy tt tt (moment seat_view chose.book) most logs c.lawful c.given }

-- ---- no logs were chosen
idle_is : (phase : Phase) → is_idle phase ≡ true → phase ≡ Idle
idle_is Idle idle = refl
idle_is Marking idle = absurd (false≢true idle)
idle_is Waiting idle = absurd (false≢true idle)
idle_is Evacuating idle = absurd (false≢true idle)

barred_by : (idle spent : Bool) (why : Refusal) → cond idle (cond spent (Some refused.EpochsSpent) None) (Some refused.Phase) ≡ Some why
    → ((why ≡ refused.Phase) × (idle ≡ false)) ⊎ ((why ≡ refused.EpochsSpent) × (idle ≡ true) × (spent ≡ true))
barred_by true true why is = inr (sym (same_Some refused.EpochsSpent why is), refl, refl)
barred_by true false why is = absurd (none-some why is)
barred_by false spent why is = inl (sym (same_Some refused.Phase why is), refl)

-- a policy refuses nothing
never_refused : (policy : Policy) (before after : Unit {0}) (rows : List LogRow) (most : ℕ) (why : Refusal) → Gives policy before rows most (Err why) after → ⊥
never_refused Oldest before after rows most why given = cc
never_refused LeastLive before after rows most why (taken, takes, given) = cc

module _ (heap : HeapId) (policy : Policy) (most : ℕ) (why : Refusal) where
  cause_is : (e : EvacOf (BookSeat FarSide) FarSide) → heap_of e.copying e.book.near ≡ heap → IsLawful (moment seat_view e) → IsUnchosen (Gives policy) heap tt most tt e why → IsRefusedBare heap policy most why
  cause_is e named lawful (inl (cause, same)) =
      let now = moment seat_view e in
      elim (barred_by (is_idle now.phase) (is_spent now.core) why cause) [
        | inl runs ↦ inl (ap refusal_number runs.0, inl (record { book = e; named = named; lawful = lawful; is = λ idle. false≢true (sym runs.1 ∙ ap is_idle idle) }))
        | inr spent ↦ inr (ap refusal_number spent.0, record { book = e; named = named; lawful = lawful; is = (idle_is now.phase spent.1, eqb-true (now.core.epoch + 1) (2 ^ 62) spent.2) })
      ]
  cause_is e named lawful (inr (free, bad, given)) = absurd (never_refused policy tt tt (rows_of e) most why given)

  unchosen_so : ChoseNone (Gives policy) FarSide heap tt most tt why → IsRefusedBare heap policy most why
  unchosen_so none = cause_is none.book none.refuses.named none.refuses.lawful none.refuses.cause

-- that isn't for want of memory, nor by the device
bare_not : (heap : HeapId) (policy : Policy) (most : ℕ) (why : Refusal) → IsRefusedBare heap policy most why → ¬ ((why ≡ refused.Memory) ⊎ (why ≡ refused.Device))
bare_not heap policy most why (inl (twelve, stood)) (inl memory) = let one : refusal_number why ≡ 1 = ap refusal_number memory in omega (arith, twelve, one)
bare_not heap policy most why (inl (twelve, stood)) (inr device) = let ten : refusal_number why ≡ 10 = ap refusal_number device in omega (arith, twelve, ten)
bare_not heap policy most why (inr (thirteen, stood)) (inl memory) = let one : refusal_number why ≡ 1 = ap refusal_number memory in omega (arith, thirteen, one)
bare_not heap policy most why (inr (thirteen, stood)) (inr device) = let ten : refusal_number why ≡ 10 = ap refusal_number device in omega (arith, thirteen, ten)

-- ---- a turn was refused
turn_refused : (heap : HeapId) (logs : List ℕ) (tally : Tally) (why : Refusal) (e f : EvacOf (BookSeat FarSide) FarSide) → StopsTurn FarWrites FarLetsGo far_bytes heap logs tally why e f
    → (why ≡ refused.Phase) ⊎ ((why ≡ refused.Memory) ⊎ (why ≡ refused.Device))
turn_refused heap logs tally why e f stops = elim (cases_Bool (is_round_of e.copying logs e.collection)) [
  | inl running ↦ inr (stops.stops running).0
  | inr other ↦ inl (stops.barred other).0
]

-- neither by the device nor for want of memory: then the round of these logs wasn't running
lost_by : (heap : HeapId) (logs : List ℕ) (tally : Tally) (why : Refusal) (e f : EvacOf (BookSeat FarSide) FarSide) → StopsTurn FarWrites FarLetsGo far_bytes heap logs tally why e f
    → why ≢ refused.Device → why ≢ refused.Memory → (refusal_number why ≡ 12) × BookStood heap (λ now. is_round_of now.copying logs now.collection ≡ false)
lost_by heap logs tally why e f stops device memory = elim (cases_Bool (is_round_of e.copying logs e.collection)) [
  | inl running ↦ absurd (elim ((stops.stops running).0) [ inl lacks ↦ memory lacks | inr fails ↦ device fails ])
  | inr other ↦ (ap refusal_number (stops.barred other).0, record { book = e; named = stops.named; lawful = stops.lawful; is = other })
]

-- what did something has a count
done_some : (so_far : Progress) → so_far.done ≡ false → so_far ≢ none_done → 0 < so_far.moved + so_far.far + so_far.dropped + so_far.freed
done_some so_far done some = elim (cases_lt 0 (so_far.moved + so_far.far + so_far.dropped + so_far.freed)) [
  | inl lt ↦ lt
  | inr none ↦
      let moved : so_far.moved ≡ 0 = omega (arith, none) in
      let far : so_far.far ≡ 0 = omega (arith, none) in
      let dropped : so_far.dropped ≡ 0 = omega (arith, none) in
      let freed : so_far.freed ≡ 0 = omega (arith, none) in
      let same : so_far ≡ none_done = λ i. record { moved = moved i; far = far i; dropped = dropped i; freed = freed i; done = done i } in
      absurd (some same)
]

counts_by : (why : Refusal) (so_far : Progress) → so_far.done ≡ false → (why ≡ refused.Phase) ⊎ ((why ≡ refused.Memory) ⊎ (why ≡ refused.Device)) → (so_far ≢ none_done) ⊎ ((why ≡ refused.Memory) ⊎ (why ≡ refused.Device))
    → IsRefusedWithCounts why so_far
counts_by why so_far done (inl phase) (inl some) = inr (inr (ap refusal_number phase, done_some so_far done some))
counts_by why so_far done (inl phase) (inr (inl memory)) = inl (ap refusal_number memory)
counts_by why so_far done (inl phase) (inr (inr device)) = inr (inl (ap refusal_number device))
counts_by why so_far done (inr (inl memory)) shown = inl (ap refusal_number memory)
counts_by why so_far done (inr (inr device)) shown = inr (inl (ap refusal_number device))

-- ---- a round
module _ (heap : HeapId) (policy : Policy) (most turns : ℕ) (why : Refusal) where
  bare : TellsLine heap (Evacuator (Round policy most turns)) (Refused why) → IsRefusedBare heap policy most why
  bare (inl (none, unchosen), device, memory) = unchosen_so heap policy most why unchosen
  bare (inr (logs, chose, some, stops), device, memory) =
      let lost = lost_by heap logs stops.last why stops.refused.before stops.refused.later stops.refused.stops device memory in
      inl (lost.0, inr (record { logs = logs; some = some; chosen = took heap policy most logs chose; over = lost.1 }))

  counted : (so_far : Progress) → TellsLine heap (Evacuator (Round policy most turns)) (Halted why so_far) → IsRefusedWithCounts why so_far
  counted so_far (inl (none, unchosen), inl some) = absurd (some none)
  counted so_far (inl (none, unchosen), inr lacks) = absurd (bare_not heap policy most why (unchosen_so heap policy most why unchosen) lacks)
  counted so_far (inr (logs, chose, some, stops), shown) =
      counts_by why so_far (ap (λ (p : Progress). p.done) stops.sum) (turn_refused heap logs stops.last why stops.refused.before stops.refused.later stops.refused.stops) shown

pub rounds_refused_so : RoundsAreRefusedSo
rounds_refused_so heap policy most turns why so_far = (bare heap policy most turns why, counted heap policy most turns why so_far)

-- ---- lines of logs
numbers_are : (now : Moment) (logs : List ℕ) → numbers_of (map (log_line now) logs) ≡ logs
numbers_are now [] = refl
numbers_are now (log ∷ logs) = ap (λ (ls : List ℕ). log ∷ ls) (numbers_are now logs)

-- ---- an audit
-- some of those that are listed, in their order
all_kept : (P : ℕ → Type 0) (f : Housed → Bool) (xs : List Housed) → AllByRecursion P (listed_pointers xs) → AllByRecursion P (listed_pointers (filter f xs))
all_kept P f [] h = tt
all_kept P f (x ∷ xs) h = cond_both (f x) (x ∷ filter f xs) (filter f xs) (λ (ys : List Housed). AllByRecursion P (listed_pointers ys)) (λ _. (h.0, all_kept P f xs h.1)) (λ _. all_kept P f xs h.1)

turn_kept : (First : ℕ → ℕ → Type 0) (f : Housed → Bool) (xs : List Housed) → IsInTurn First (listed_pointers xs) → IsInTurn First (listed_pointers (filter f xs))
turn_kept First f [] h = tt
turn_kept First f (x ∷ xs) h = cond_both (f x) (x ∷ filter f xs) (filter f xs) (λ (ys : List Housed). IsInTurn First (listed_pointers ys))
    (λ _. (all_kept (First x.pointer) f xs h.0, turn_kept First f xs h.1)) (λ _. turn_kept First f xs h.1)

-- so many are listed as pass a test of where they are
module _ (now : Moment) (homes : List Housed) (logs : List LogState) (lists : ListsEach now homes logs) where
  many_so : (test : Home → Bool) (P : ℕ → Type 0) → ((p : ℕ) (home : Home) → test home ≡ true → IsAt now.core p home → P p) → ((p : ℕ) → P p → (home : Home) × (test home ≡ true) × IsAt now.core p home)
      → AreSoMany P (length (filter (λ (housed : Housed). test housed.home) homes))
  many_so test P says from =
      let passes : Housed → Bool = λ (housed : Housed). test housed.home in
      let number : Housed → ℕ = λ (housed : Housed). housed.pointer in
      let found : List Housed = filter passes homes in (
        listed_pointers found,
        length-map found number,
        turn_kept (λ p q. p < q) passes homes lists.rises,
        λ p. (
          λ listed. (
              let (housed, member, same) = from_map number p found listed in
              let kept = was_kept passes housed homes member in
              subst P same (says housed.pointer housed.home kept.0 ((lists.each housed.pointer housed.home).0 kept.1))),
          λ is. (
              let (home, passed, at) = from p is in
              let housed : Housed = record { pointer = p; home = home } in
              in_map number housed found (kept_in passes housed homes passed ((lists.each p home).1 at))),
        ),
      )

near_says : (s : State) (p : ℕ) (home : Home) → lies_near home ≡ true → IsAt s p home → SaysNear s p
near_says s p (Near place marks) lies (len, structure, is, alive) = (len, structure, place, marks, is, alive)
near_says s p (Far marks) lies at = absurd (false≢true lies)

near_from : (s : State) (p : ℕ) → SaysNear s p → (home : Home) × (lies_near home ≡ true) × IsAt s p home
near_from s p (len, structure, place, marks, is, alive) = (Near place marks, refl, (len, structure, is, alive))

far_says : (s : State) (p : ℕ) (home : Home) → lies_far home ≡ true → IsAt s p home → SaysFar s p
far_says s p (Near place marks) lies at = absurd (false≢true lies)
far_says s p (Far marks) lies (len, structure, is, alive) = (len, structure, marks, is, alive)

far_from : (s : State) (p : ℕ) → SaysFar s p → (home : Home) × (lies_far home ≡ true) × IsAt s p home
far_from s p (len, structure, marks, is, alive) = (Far marks, refl, (len, structure, is, alive))

lives_are : (now : Moment) (logs : List LogState) → AllByRecursion (TellsState now) logs → map (λ (log : LogState). log.row.live) logs ≡ map (live_bytes now.core) (map (λ (log : LogState). log.row.log) logs)
lives_are now [] tells = refl
lives_are now (log ∷ logs) (first, tells) = λ i. first.live i ∷ lives_are now logs tells i

counts_all : (now : Moment) (counts : Counts) (homes : List Housed) (logs : List LogState) → ListsEach now homes logs → counts ≡ counted_in homes logs → CountsAll counts now
counts_all now counts homes logs lists same = (
  subst (AreSoMany (SaysNear now.core)) (sym (ap (λ (c : Counts). c.near) same)) (many_so now homes logs lists lies_near (SaysNear now.core) (near_says now.core) (near_from now.core)),
  subst (AreSoMany (SaysFar now.core)) (sym (ap (λ (c : Counts). c.far) same)) (many_so now homes logs lists lies_far (SaysFar now.core) (far_says now.core) (far_from now.core)),
  ap (λ (c : Counts). c.live) same ∙ ap sum (lives_are now logs lists.tells) ∙ ap (λ (ls : List ℕ). sum (map (live_bytes now.core) ls)) lists.order,
)

audit_so : (heap : HeapId) (counts : Counts) → TellsCensus heap counts → BookStood heap (CountsAll counts)
audit_so heap counts told =
    let (homes, logs, lists, same) = told.is in
    record { book = told.book; named = told.named; lawful = told.lawful; is = counts_all (moment seat_view told.book) counts homes logs lists same }

-- ---- what a round counts
-- a sum as it is told
sum_told : (count : Tally → ℕ) (tallies : List Tally) (n : ℕ) → n ≡ sum_by count tallies → IsSumOf count tallies (told n)
sum_told count tallies n is = elim (cases_lt (sum_by count tallies) (2 ^ 64)) [
  | inl below ↦ inl (below, omega (arith, is, below))
  | inr above ↦ inr (above, omega (arith, is, above))
]

module _ (count : Tally → ℕ) (none : count nothing ≡ 0) (adds : (a b : Tally) → count (plus a b) ≡ count a + count b) where
  summed : (tallies : List Tally) → count (sum_of tallies) ≡ sum_by count tallies
  summed [] = none
  summed (tally ∷ tallies) = omega (arith, adds (sum_of tallies) tally, summed tallies, sum_by-cons count tally tallies)

adds_up : (tallies : List Tally) (progress : Progress) (done : Bool) → progress ≡ progress_of (told_of (sum_of tallies)) done → AddsUp tallies progress
adds_up tallies progress done is = subst (AddsUp tallies) (sym is) record {
  moved = sum_told (λ (t : Tally). t.moved) tallies (sum_of tallies).moved (summed (λ (t : Tally). t.moved) refl (λ a b. refl) tallies);
  far = sum_told (λ (t : Tally). t.far) tallies (sum_of tallies).far (summed (λ (t : Tally). t.far) refl (λ a b. refl) tallies);
  dropped = sum_told (λ (t : Tally). t.dropped) tallies (sum_of tallies).dropped (summed (λ (t : Tally). t.dropped) refl (λ a b. refl) tallies);
  freed = sum_told (λ (t : Tally). t.freed) tallies (sum_of tallies).freed (summed (λ (t : Tally). t.freed) refl (λ a b. refl) tallies);
}

pub sums_told : SumsAreTold
sums_told done = (refl, refl)

-- ---- one turn
-- a walk where no copy may be offered deals with as many objects as were asked for at most, and each log that left the collection set is counted
held_counted : (m : Moment) (k : ℕ) (w : Walked) → WalksTo m k w → w.tally.freed + length w.moment.collection ≡ length m.collection
held_counted m k w walks = (walks_kept false (λ k w. w.tally.freed + length w.moment.collection ≡ length m.collection) record {
  learns = λ k w t known h. ap (λ (c : Tally). c.freed + length t.moment.collection) known.tally ∙ ap (λ (x : Moment). w.tally.freed + length x.collection) known.moment.rest ∙ h;
  gives = λ k w l ls none h. omega (arith, h);
  deals = λ k w l ls p ps word here finds h. h;
} m (let same : 0 + length m.collection ≡ length m.collection = omega arith in same) k w walks).0

ended_held : (w : Walked) → (ended w).collection ≡ w.moment.collection
ended_held w = cond_both (is_done w) (record w.moment { phase = Idle }) w.moment (λ (t : Moment). t.collection ≡ w.moment.collection) (λ _. refl) (λ _. refl)

few_stopped : (m t : Moment) (n : ℕ) (tally : Tally) → StopsAt m n t tally → objects_in tally ≤ n
few_stopped m t n tally (k, w, walks, few, more, known, counts) = omega (arith, ap objects_in counts, tallies_all m k w walks, few)

few_evacuated : (m t : Moment) (n : ℕ) (tally : Tally) (over : Bool) → Evacuates m n t tally over → objects_in tally ≤ n
few_evacuated m t n tally over (k, w, walks, is, counts, done) = omega (arith, ap objects_in counts, tallies_all m k w walks.walks, walks.most)

-- those that are left and those that are counted make those that were there
back_counted : (m t : Moment) (n : ℕ) (tally : Tally) (over : Bool) → EvacuatesBy m n t tally over → tally.freed + length t.collection ≡ length m.collection
back_counted m t n tally over evacuates =
    by_copying m.copying (λ alone. counted_alone (evacuates.alone alone)) (λ copying. ((copied_comes_back m t n tally).0 over (evacuates.beside copying)).counted) where
      counted_alone : Evacuates m n t tally over → tally.freed + length t.collection ≡ length m.collection
      counted_alone (k, w, walks, is, counts, done) =
          ap (λ (c : Tally). c.freed + length t.collection) counts ∙ ap (λ (x : Moment). w.tally.freed + length x.collection) is ∙ ap (λ (ls : List ℕ). w.tally.freed + length ls) (ended_held w)
          ∙ held_counted m k w walks.walks

none_of_nothing : (tally : Tally) (n : ℕ) → tally ≡ nothing → objects_in tally ≤ n
none_of_nothing tally n none = omega (arith, ap objects_in none)

few_by : (m t : Moment) (phase : Phase) (tally : Tally) (over : Bool) → m.copying ≡ false → TurnsTo m phase tally over t → objects_in tally ≤ 16
unfolding turn_size
few_by m t Idle tally over alone turns = absurd turns
few_by m t Marking tally over alone (none, _, _) = none_of_nothing tally 16 none
few_by m t Waiting tally over alone (none, _, _) = none_of_nothing tally 16 none
few_by m t Evacuating tally over alone turns = few_evacuated m t 16 tally over (turns.alone alone)

few_barred : (m t : Moment) (tally : Tally) → m.copying ≡ false → StopsBy m turn_size t tally → objects_in tally ≤ 16
unfolding turn_size
few_barred m t tally alone stops = few_stopped m t 16 tally (stops.alone alone)

-- with which a round is over
last_by : (m t : Moment) (phase : Phase) (tally : Tally) → TurnsTo m phase tally true t → tally.freed + length t.collection ≡ length m.collection
last_by m t Idle tally turns = absurd turns
last_by m t Marking tally (_, goes, _) = absurd (false≢true (sym goes))
last_by m t Waiting tally (_, goes, _) = absurd (false≢true (sym goes))
last_by m t Evacuating tally turns = back_counted m t turn_size tally true turns

-- which leaves a round running
going : (w : Walked) → is_done w ≡ false → (ended w).phase ≡ w.moment.phase
going w more = ap (λ b. (cond b (record w.moment { phase = Idle }) w.moment).phase) more

evacuated_phase : (m t : Moment) (n : ℕ) (tally : Tally) → m.phase ≡ Evacuating → EvacuatesBy m n t tally false → t.phase ≡ Evacuating
evacuated_phase m t n tally leaves evacuates = by_copying m.copying (λ alone. stays_alone (evacuates.alone alone)) (λ copying. stays_beside (evacuates.beside copying)) where
  stays_alone : Evacuates m n t tally false → t.phase ≡ Evacuating
  stays_alone (k, w, walks, is, counts, more) = ap (λ (x : Moment). x.phase) is ∙ going w (sym more) ∙ walks_phase m k w walks.walks ∙ leaves

  stays_beside : EvacuatesBeside m n t tally false → t.phase ≡ Evacuating
  stays_beside h = ap (λ (x : Moment). x.phase) h.ends ∙ going h.stood (sym h.over) ∙ (walks_so m n h.stood h.end h.walks).0 ∙ leaves

after_marking_both : (m : Moment) (n : ℕ) (P : Moment → Type 0) → P (record m { core = marked_core m n }) → P (record m { core = advanced (marked_core m n) m.collection; phase = Waiting }) →
    P (after_marking m n)
after_marking_both m n P goes rises =
    cond_both (leaves_some m n) (record m { core = marked_core m n }) (record m { core = advanced (marked_core m n) m.collection; phase = Waiting }) P (λ _. goes) (λ _. rises)

marked_from : (m : Moment) (n : ℕ) → m.phase ≡ Marking → RanInOrBefore (after_marking m n).phase m
marked_from m n is = let runs : m.phase ≢ Idle = not_idle m.phase (ap is_idle is) in after_marking_both m n (λ (t : Moment). RanInOrBefore t.phase m) (runs, inl refl) (runs, inr is)

polled_from : (m t : Moment) (answer : Polled) → m.phase ≡ Waiting → Polls m t answer → RanInOrBefore t.phase m
polled_from m t Clear is leaves = subst (λ (phase : Phase). RanInOrBefore phase m) (sym (ap (λ (x : Moment). x.phase) leaves.rest)) (not_idle m.phase (ap is_idle is), inr is)
polled_from m t (StillOpen k epoch) is held_up = subst (λ (phase : Phase). RanInOrBefore phase m) (sym (ap (λ (x : Moment). x.phase) held_up.leaves.rest)) (not_idle m.phase (ap is_idle is), inl refl)

evacuated_from : (m t : Moment) (tally : Tally) (over : Bool) → m.phase ≡ Evacuating → TurnsTo m Evacuating tally over t → RanInOrBefore t.phase m
evacuated_from m t tally true is turns =
    subst (λ (phase : Phase). RanInOrBefore phase m) (sym (idle_is t.phase (turn_ends m t Evacuating tally true is turns))) (not_idle m.phase (ap is_idle is), inr is)
evacuated_from m t tally false is turns = (not_idle m.phase (ap is_idle is), inl (is ∙ sym (evacuated_phase m t turn_size tally is turns)))

left_by : (m t : Moment) (phase : Phase) (tally : Tally) (over : Bool) → m.phase ≡ phase → TurnsTo m phase tally over t → RanInOrBefore t.phase m
left_by m t Idle tally over is turns = absurd turns
left_by m t Marking tally over is (_, _, (count, waiting, marks)) =
    subst (λ (phase : Phase). RanInOrBefore phase m) (sym (ap (λ (x : Moment). x.phase) marks.leaves.rest)) (marked_from m turn_size is)
left_by m t Waiting tally over is (_, _, (answer, polls)) = polled_from m t answer is polls
left_by m t Evacuating tally over is turns = evacuated_from m t tally over is turns

-- copies may be offered after it exactly where they might be before
ended_copying : (w : Walked) → (ended w).copying ≡ w.moment.copying
ended_copying w = cond_both (is_done w) (record w.moment { phase = Idle }) w.moment (λ (t : Moment). t.copying ≡ w.moment.copying) (λ _. refl) (λ _. refl)

marked_copying : (m : Moment) (n : ℕ) → (after_marking m n).copying ≡ m.copying
marked_copying m n = after_marking_both m n (λ (t : Moment). t.copying ≡ m.copying) refl refl

polled_copying : (m t : Moment) (answer : Polled) → Polls m t answer → t.copying ≡ m.copying
polled_copying m t Clear leaves = ap (λ (x : Moment). x.copying) leaves.rest
polled_copying m t (StillOpen k epoch) held_up = ap (λ (x : Moment). x.copying) held_up.leaves.rest

walked_copying : (m : Moment) (k : ℕ) (w : Walked) → WalksTo m k w → w.moment.copying ≡ m.copying
walked_copying m k w walks = (walks_kept false (λ k w. w.moment.copying ≡ m.copying) record {
  learns = λ k w t known h. ap (λ (x : Moment). x.copying) known.moment.rest ∙ h;
  gives = λ k w l ls none h. h;
  deals = λ k w l ls p ps word here finds h. h;
} m refl k w walks).0

evacuated_copying : (m t : Moment) (n : ℕ) (tally : Tally) (over : Bool) → EvacuatesBy m n t tally over → t.copying ≡ m.copying
evacuated_copying m t n tally over evacuates = by_copying m.copying (λ alone. stays_alone (evacuates.alone alone)) (λ copying. stays_beside (evacuates.beside copying)) where
  stays_alone : Evacuates m n t tally over → t.copying ≡ m.copying
  stays_alone (k, w, walks, is, counts, more) = ap (λ (x : Moment). x.copying) is ∙ ended_copying w ∙ walked_copying m k w walks.walks

  stays_beside : EvacuatesBeside m n t tally over → t.copying ≡ m.copying
  stays_beside h = ap (λ (x : Moment). x.copying) h.ends ∙ ended_copying h.stood ∙ (walks_so m n h.stood h.end h.walks).1

copying_by : (m t : Moment) (phase : Phase) (tally : Tally) (over : Bool) → TurnsTo m phase tally over t → t.copying ≡ m.copying
copying_by m t Idle tally over turns = absurd turns
copying_by m t Marking tally over (_, _, (count, waiting, marks)) = ap (λ (x : Moment). x.copying) marks.leaves.rest ∙ marked_copying m turn_size
copying_by m t Waiting tally over (_, _, (answer, polls)) = polled_copying m t answer polls
copying_by m t Evacuating tally over turns = evacuated_copying m t turn_size tally over turns

-- ---- turns
some_held : (copying : Bool) (logs held : List ℕ) → is_round_of copying logs held ≡ true → 0 < length held
some_held copying logs [] running = absurd (false≢true running)
some_held copying logs (l ∷ ls) running = omega arith

none_held : (held : List ℕ) → is_empty held ≡ true → length held ≡ 0
none_held [] none = refl
none_held (l ∷ ls) none = absurd (false≢true none)

sum_few : (tallies : List Tally) → AllByRecursion IsOf16 tallies → objects_in (sum_of tallies) ≤ 16 * length tallies
sum_few [] few = omega arith
sum_few (tally ∷ tallies) (last, few) = omega (arith, sum_few tallies few, last)

few_told : (tallies : List Tally) (progress : Progress) (done : Bool) (turns : ℕ) → progress ≡ progress_of (told_of (sum_of tallies)) done → length tallies ≤ turns → AllByRecursion IsOf16 tallies →
    progress.moved + progress.far + progress.dropped ≤ 16 * turns
few_told tallies progress done turns is within few =
    let sum = sum_of tallies in
    let moved : progress.moved ≤ sum.moved = omega (arith, ap (λ (p : Progress). p.moved) is) in
    let far : progress.far ≤ sum.far = omega (arith, ap (λ (p : Progress). p.far) is) in
    let dropped : progress.dropped ≤ sum.dropped = omega (arith, ap (λ (p : Progress). p.dropped) is) in
    omega (arith, moved, far, dropped, sum_few tallies few, within)

some_told : (before last : Tally) (progress : Progress) (done : Bool) → progress ≡ progress_of (told_of (plus before last)) done → 0 < last.freed → 0 < progress.freed
some_told before last progress done is some = omega (arith, ap (λ (p : Progress). p.freed) is, some)

module _ (heap : HeapId) (logs : List ℕ) where
  abbrev Made : Tally → Bool → Phase → Type 0
  Made = TurnMade FarWrites FarLetsGo far_bytes heap logs

  abbrev AllMade : List Tally → Bool → Phase → Type 0
  AllMade = TurnsMade FarWrites FarLetsGo far_bytes heap logs

  few_turn : (tally : Tally) (over : Bool) (phase : Phase) → Made tally over phase → heap.copying ≡ false → objects_in tally ≤ 16
  few_turn tally over phase made alone =
      few_by (moment seat_view made.before) (moment seat_view made.later) made.before.phase tally over (ap (λ (h : HeapId). h.copying) made.turns.named ∙ alone) made.turns.turns

  few_turns : (tallies : List Tally) (over : Bool) (phase : Phase) → AllMade tallies over phase → heap.copying ≡ false → AllByRecursion IsOf16 tallies
  few_turns [] over phase made alone = tt
  few_turns (tally ∷ tallies) over phase ((earlier, before), last) alone = (few_turn tally over phase last alone, few_turns tallies false earlier before alone)

  few_refused : (tally : Tally) (why : Refusal) → TurnRefused FarWrites FarLetsGo far_bytes heap logs tally why → heap.copying ≡ false → objects_in tally ≤ 16
  few_refused tally why refused alone =
      let e = refused.before in
      elim (cases_Bool (is_round_of e.copying logs e.collection)) [
        | inl running ↦ few_barred (moment seat_view e) (moment seat_view refused.later) tally (ap (λ (h : HeapId). h.copying) refused.stops.named ∙ alone) (refused.stops.stops running).4
        | inr other ↦ none_of_nothing tally 16 (refused.stops.barred other).1
      ]

  last_gives : (tally : Tally) (made : Made tally true Idle) → tally.freed ≡ length made.before.collection
  last_gives tally made =
      let counted = last_by (moment seat_view made.before) (moment seat_view made.later) made.before.phase tally made.turns.turns in
      omega (arith, counted, none_held made.later.collection made.turns.none)

  last_frees : (tally : Tally) → Made tally true Idle → 0 < tally.freed
  last_frees tally made = omega (arith, last_gives tally made, some_held made.before.copying logs made.before.collection made.turns.running)

  left_in : (tally : Tally) (over : Bool) (phase : Phase) → Made tally over phase → IsLeftIn heap phase
  left_in tally over phase made =
      let m = moment seat_view made.before in
      let t = moment seat_view made.later in
      let turns = made.turns in
      let found : RanInOrBefore t.phase m = left_by m t made.before.phase tally over refl turns.turns in
      record {
        stood = record { book = made.before; named = turns.named; lawful = turns.lawful; is = subst (λ (p : Phase). RanInOrBefore p m) turns.stands found };
        later = made.later;
        named = stays_named heap made.before made.later turns.came (copying_by m t made.before.phase tally over turns.turns) turns.named;
        came = turns.came;
        left = turns.stands;
      }

  done_by : (policy : Policy) (most turns : ℕ) (progress : Progress) (tallies : List Tally) → BookStood heap (IsChosenBy policy most logs) → length tallies ≤ turns → AllMade tallies true Idle →
      progress ≡ progress_of (told_of (sum_of tallies)) true → IsDoneBy heap policy most turns progress
  unfolding left_in
  done_by policy most turns progress [] chosen few made is = absurd (false≢true (sym made.0))
  done_by policy most turns progress (tally ∷ tallies) chosen few made is =
      let last = made.1 in
      record {
        logs = logs;
        chosen = chosen;
        tallies = tallies;
        last = tally;
        few = omega (arith, few);
        made = made;
        sums = adds_up (tally ∷ tallies) progress true is;
        freed = some_told (sum_of tallies) tally progress true is (last_frees tally last);
        objects = few_turns (tally ∷ tallies) true Idle made;
        total = λ alone. few_told (tally ∷ tallies) progress true turns is few (few_turns (tally ∷ tallies) true Idle made alone);
        over = left_in tally true Idle last;
        back = last_gives tally last;
      }

  stopped_by : (policy : Policy) (most turns : ℕ) (why : Refusal) (so_far : Progress) → BookStood heap (IsChosenBy policy most logs) →
      (stops : StopsTurns FarWrites FarLetsGo far_bytes heap logs turns record { so_far = so_far; why = why }) → IsStoppedBy heap policy most turns why so_far
  stopped_by policy most turns why so_far chosen stops =
      let all : List Tally = stops.last ∷ stops.tallies in
      let few : heap.copying ≡ false → AllByRecursion IsOf16 all =
      λ alone. (few_refused stops.last why stops.refused alone, few_turns stops.tallies false stops.phase stops.made alone) in
      record {
        logs = logs;
        chosen = chosen;
        tallies = stops.tallies;
        last = stops.last;
        phase = stops.phase;
        few = stops.few;
        made = stops.made;
        refused = stops.refused;
        sums = adds_up all so_far false stops.sum;
        objects = few;
        total = λ alone. few_told all so_far false turns stops.sum (omega (arith, stops.few)) (few alone);
      }

  stands_in : (turns : ℕ) (phase : Phase) (tallies : List Tally) → length tallies ≡ turns → AllMade tallies false phase →
      ((turns ≡ 0) × (phase ≡ Marking)) ⊎ ((0 < turns) × IsLeftIn heap phase)
  stands_in turns phase [] all made = inl (sym all, made.1)
  stands_in turns phase (tally ∷ tallies) all (_, last) = inr (omega (arith, all), left_in tally false phase last)

  at_limit : (policy : Policy) (most turns : ℕ) (phase : Phase) (tallies : List Tally) → BookStood heap (IsChosenBy policy most logs) → length tallies ≡ turns → AllMade tallies false phase → IsAtLimit heap policy most turns phase
  at_limit policy most turns phase tallies chosen all made = record { logs = logs; chosen = chosen; tallies = tallies; all = all; made = made; stands = stands_in turns phase tallies all made }

-- ---- a round that ends
map_none : {X Y : Type 0} (f : X → Y) (xs : List X) → length (map f xs) ≡ 0 → length xs ≡ 0
map_none f xs none = sym (length-map xs f) ∙ none

none_left : {X : Type 0} (most : ℕ) (xs : List X) → length (take most xs) ≡ 0 → (most ≡ 0) ⊎ (length xs ≡ 0)
none_left zero xs none = inl refl
none_left (suc most) [] none = inr refl
none_left (suc most) (x ∷ xs) none = absurd (omega (arith, none))

-- a policy chooses none where it may choose none, or has none to choose from
none_given : (policy : Policy) (before after : Unit {0}) (rows : List LogRow) (most : ℕ) → Gives policy before rows most (Ok []) after → (most ≡ 0) ⊎ (length rows ≡ 0)
none_given Oldest before after rows most given = elim (none_left most (logs_of rows) (sym (ap (λ (r : Result (List ℕ) Refusal). length (chosen_in r)) given))) [
  | inl none ↦ inl none
  | inr none ↦ inr (map_none (λ (row : LogRow). row.log) rows none)
]
none_given LeastLive before after rows most (taken, takes, given) =
    let none : length taken ≡ 0 = map_none (λ (row : LogRow). row.log) taken (sym (ap (λ (r : Result (List ℕ) Refusal). length (chosen_in r)) given)) in
    none_left most rows (length-take most rows ∙ sym takes.count ∙ none)

none_among : (logs : List ℕ) (l : ℕ) → length logs ≡ 0 → among logs l ≡ false
none_among [] l none = refl
none_among (k ∷ ks) l none = absurd (omega (arith, none))

none_sealed : (now : Moment) → IsLawful now → length now.order ≡ 0 → HasNoneSealed now
none_sealed now lawful none l below sealed = false≢true (sym (none_among now.order l none) ∙ lawful.1.order l ∙ ap is_sealed sealed)

abbrev is_nothing : RoundEnd → Bool
is_nothing ends.Nothing = true
is_nothing (ends.Done progress) = false
is_nothing (ends.Limit phase) = false

module _ (heap : HeapId) (policy : Policy) (most turns : ℕ) where
  none_told : (logs : List ℕ) → Chose (Gives policy) FarSide heap tt most tt logs → EndsAfter FarWrites FarLetsGo far_bytes heap logs turns ends.Nothing → (most ≡ 0) ⊎ BookStood heap HasNoneSealed
  none_told [] chose is =
      let c = chose.chooses in
      elim (none_given policy tt tt (rows_of chose.book) most c.given) [
        | inl none ↦ inl none
        | inr none ↦ inr (record { book = chose.book; named = c.named; lawful = c.lawful; is = none_sealed (moment seat_view chose.book) c.lawful (map_none (row_of (seat_view chose.book.book.near)) chose.book.book.order none) })
      ]
  none_told (l ∷ ls) chose is = absurd is

  some_turns : (tallies : List Tally) (logs : List ℕ) (phase : Phase) → length tallies ≤ turns → TurnsMade FarWrites FarLetsGo far_bytes heap logs tallies true phase → 0 < turns
  some_turns [] logs phase few made = absurd (false≢true (sym made.0))
  some_turns (tally ∷ tallies) logs phase few made = omega (arith, few)

  done_told : (progress : Progress) (logs : List ℕ) → Chose (Gives policy) FarSide heap tt most tt logs → EndsAfter FarWrites FarLetsGo far_bytes heap logs turns (ends.Done progress) →
      (0 < most) × (0 < turns) × (progress.done ≡ true) × IsDoneBy heap policy most turns progress
  done_told progress [] chose is = absurd (false≢true (ap is_nothing is))
  done_told progress (l ∷ ls) chose (tallies, few, made, is) =
      (omega (arith, chose.chooses.choice.few), some_turns tallies (l ∷ ls) Idle few made, ap (λ (p : Progress). p.done) is, done_by heap (l ∷ ls) policy most turns progress tallies (took heap policy most (l ∷ ls) chose) few made is)

  limit_told : (phase : Phase) (logs : List ℕ) → Chose (Gives policy) FarSide heap tt most tt logs → EndsAfter FarWrites FarLetsGo far_bytes heap logs turns (ends.Limit phase) →
      (0 < most) × (phase ≢ Idle) × IsAtLimit heap policy most turns phase
  limit_told phase [] chose is = absurd (false≢true (ap is_nothing is))
  limit_told phase (l ∷ ls) chose (tallies, all, made, runs) = (omega (arith, chose.chooses.choice.few), runs, at_limit heap (l ∷ ls) policy most turns phase tallies (took heap policy most (l ∷ ls) chose) all made)

-- ---- a round that is refused with counts
halted : (heap : HeapId) (policy : Policy) (most turns : ℕ) (why : Refusal) (so_far : Progress) → TellsLine heap (Evacuator (Round policy most turns)) (Halted why so_far) →
    IsRefusedWithCounts why so_far × (so_far.done ≡ false) × IsStoppedBy heap policy most turns why so_far
halted heap policy most turns why so_far (inl (none, unchosen), inl some) = absurd (some none)
halted heap policy most turns why so_far (inl (none, unchosen), inr lacks) = absurd (bare_not heap policy most why (unchosen_so heap policy most why unchosen) lacks)
halted heap policy most turns why so_far (inr (logs, chose, some, stops), shown) =
    (counted heap policy most turns why so_far (inr (logs, chose, some, stops), shown), ap (λ (p : Progress). p.done) stops.sum, stopped_by heap logs policy most turns why so_far (took heap policy most logs chose) stops)

-- ---- all lines
line_so : (heap : HeapId) (line : Command) (reply : Reply) → TellsLine heap line reply → IsToldSo heap line reply
line_so heap (Book AsksLogs) (Logs lines) told = (ap numbers_of told.stood.is ∙ numbers_are (moment seat_view told.stood.book) (range_with_len 0 heap.logs), told.whole)
line_so heap (Book (AsksLog log)) (Logs lines) (below, told) = (below, ap numbers_of told.stood.is, told.whole)
line_so heap (Book (AsksLog log)) (Refused refused.Range) above = (above, refl)
line_so heap (Book AsksAudit) (Audited counts) told = audit_so heap counts told
line_so heap (Book AsksAudit) (Refused refused.Memory) told = refl
line_so heap (Evacuator (Round policy most turns)) (Ended ends.Nothing) (logs, chose, is) = none_told heap policy most turns logs chose is
line_so heap (Evacuator (Round policy most turns)) (Ended (ends.Done progress)) (logs, chose, is) = done_told heap policy most turns progress logs chose is
line_so heap (Evacuator (Round policy most turns)) (Ended (ends.Limit phase)) (logs, chose, is) = limit_told heap policy most turns phase logs chose is
line_so heap (Evacuator (Round policy most turns)) (Refused why) told = bare heap policy most turns why told
line_so heap (Evacuator (Round policy most turns)) (Halted why so_far) told = halted heap policy most turns why so_far told
line_so heap line reply told = absurd told

pub book_told_so : BookIsToldSo
book_told_so heap [] [] told = tt
book_told_so heap [] (reply ∷ replies) told = absurd told
book_told_so heap (line ∷ lines) [] told = absurd told
book_told_so heap (line ∷ lines) (reply ∷ replies) (told, later) = (line_so heap line reply told, book_told_so heap lines replies later)
