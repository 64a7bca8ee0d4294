-- What a step of the evacuator tells is so.
use Rattle.std.proofs.Common.{◌≡◌, ◌≢◌, ℕ, zero, suc, ◌+◌, ◌*◌, ◌/◌, ◌%◌, ◌^◌, ◌<◌, ◌≤◌, ◌==◌, ◌&&◌, ◌||◌, Bool, true, false, not, cond, nat_lt, nat_le, Option, Some, None, List, [], ◌∷◌, length, take, drop, length-drop, Ok, ap, sym, refl, ◌∙◌, subst, arith, inl, inr, if◌then◌else◌}
use Rattle.std.specs.Prelude.{◌↔◌, bit_or, Contains, IsSome, find}
use Rattle.std.specs.List.{AllByRecursion, range_with_len}
use Rattle.std.proofs.lemmas.Bool.{cases_lt, cond_both, eq-eqb, eqb-true, false≢true, true≢false, not-true}
use Rattle.std.proofs.lemmas.Bool.Decides.{nat_tests}
use Rattle.std.proofs.lemmas.List.{length-take, length-take-le}
use Rattle.std.proofs.lemmas.List.Elements.{Contains-append_cases, Contains-append_left, Contains-append_right}
use Rattle.far_word.specs.declared.mark.Mark.TheVariants.{Evac}
use Rattle.far_word.specs.declared.mark.Marks.{Marks}
use Rattle.far_word.specs.declared.pointer.Place.{Place}
use Rattle.far_word.specs.declared.pointer.PtrWord.{PtrWord}
use Rattle.far_word.specs.declared.pointer.PtrWord.TheVariants.{Free, Near, Far}
use Rattle.far_word.specs.declared.scope.ScopeWord.TheVariants as scoped
use Rattle.far_word.specs.declared.sizes.TheConstants.{EPOCH_END}
use Rattle.far_word.specs.Mark.{position}
use Rattle.far_word.specs.Pointer.{read_of}
use Rattle.far_word.specs.Scope.{scope_of}
use Rattle.far_log.proofs.Members.{here, none_in, split, there}
use Rattle.far_policy.specs.LeastLive.{least_live}
use Rattle.far_policy.specs.Logs.{AreRows}
use Rattle.far_policy.specs.Scripted.{FollowsScript}
use Rattle.far_policy.proofs.Choices.{first_once, rows_told}
use Rattle.far_policy.proofs.LeastOnes.{least_is_there}
use Rattle.far_policy.proofs.Scripts.{follows_script}
use Rattle.far_events.specs.declared.event.Kind.{Kind}
use Rattle.far_events.specs.declared.event.Kind.TheVariants as kinds
use Rattle.far_events.specs.events.Clear.{is_near}
use Rattle.far_events.specs.events.Mark.{is_sealed}
use Rattle.far_events.specs.state.Law.{Law}
use Rattle.far_events.specs.state.Spans.{names_place}
use Rattle.far_events.specs.state.State.{State}
use Rattle.far_hand.specs.Finds.{body_of}
use Rattle.far_book.specs.book.Dealing.{has_evac}
use Rattle.far_book.specs.book.Effects.{marked}
use Rattle.far_book.specs.book.Own.{own_part}
use Rattle.far_book.specs.book.Rows.{row_of}
use Rattle.far_book.proofs.region.Owns.{own_law}
use Rattle.far_evac.specs.Census.{kind_in, kind_named}
use Rattle.far_evac.specs.Choosing.{after_aborting, after_selecting}
use Rattle.far_evac.specs.Dealings.{BeginsLive, HasLeft, is_away, is_nowhere, says}
use Rattle.far_evac.specs.Laws.{DealtInOrder, IsGivenUp, but_evac}
use Rattle.far_evac.specs.Live.{is_empty, lacking, live_among, live_in}
use Rattle.far_evac.specs.LiveLaws.{ComesFirst}
use Rattle.far_evac.specs.Marking.{after_marking, leaves_some, marked_core, newly_marked}
use Rattle.far_evac.specs.Moment.{Moment, progress_of}
use Rattle.far_evac.specs.MomentLaw.{MomentLaw, has_risen, is_idle}
use Rattle.far_evac.specs.RoundSteps.{advanced, among}
use Rattle.far_evac.specs.Waiting.{first_open, holds_up, polled, polled_at}
use Rattle.far_evac.specs.Walk.{Walked, ended, is_done, walked}
use Rattle.far_evac.specs.declared.answers.Polled.TheVariants as polls
use Rattle.far_evac.specs.declared.census.LogKind.TheVariants.{Chosen}
use Rattle.far_evac.specs.declared.phase.Phase.TheVariants.{Idle, Marking, Waiting, Evacuating}
use Rattle.far_evac.proofs.Fronts.{kept_in}
use Rattle.far_evac.proofs.InOrder.{in_order}
use Rattle.far_evac.proofs.Lacking.{Once, in_live, once_among}
use Rattle.far_evac.proofs.LeadingMarks.{marking}
use Rattle.far_evac.proofs.LeadingWalks.{walking_law}
use Rattle.far_evac.proofs.LiveOnce.{LivesIn, first_named, live_named, near_at}
use Rattle.far_evac.proofs.LiveOrder.{live_in_order}
use Rattle.far_evac.proofs.Marks.{is_given_up, is_marked, mark_sets, marks_cells, others_stay}
use Rattle.far_evac.proofs.SmallSteps.{walks_left}
pub use Rattle.far_evac.proofs.SmallSteps.{none_there as none_held}
pub use Rattle.far_replay.proofs.Strays.{chosen_held as held_by}
use Rattle.far_evac.proofs.Readiness.{risen_is_ready}
use Rattle.far_evac.proofs.Rounds.{found_in, walked_phase}
use Rattle.far_evac.proofs.Unviewed.{none_found}
use Rattle.far_evac.proofs.Walks.{walk_is}
use Rattle.far_text.specs.Command.{By, Choice, LeastLive, Mark, Oldest, Policy, Script, Select}
use Rattle.far_replay_laws.specs.HowMany.{IsHowMany}
use Rattle.far_reply.specs.Reply.{Marked, Selected}
use Rattle.far_replay.specs.Rounds.{chosen_by, given_by, rows_in}
use Rattle.far_replay_laws.specs.Steps.{GainsEvac, HoldsUp, IsChosen, IsAt, IsGivenBack, IsMoved, IsNear, IsRetired, IsSentFar, LiesAt, LiesIn, NobodyHoldsUp, ReachesEpoch, ShowsEvac, StandsFirst, Takes, TellsChoice, TellsEnd, TellsLeaving, TellsMarks, phase_after}
use Rattle.far_replay_laws.proofs.CountedOnce.{all_at, among_in, beyond, filtered, front_or_rest, how_many_in, how_many_of, in_among, in_front, member_or_apart, once_filter, once_take, turn_filter, turn_split}
use Rattle.far_replay.proofs.RoundChoices.{rows_are}

-- ---- cells
pub near_in : (s : State) (l p : ℕ) → LivesIn s l p → LiesIn s p l
near_in s l p (at, h) = let x = near_at (read_of (s.cell p)) l at h in (x.len, x.ds, x.place, x.marks, x.near, x.log)

-- who is among the live objects of logs lives in one of them
pub live_of : (s : State) (ls : List ℕ) (p : ℕ) → Contains (live_among s ls) p → (l : ℕ) × Contains ls l × LivesIn s l p
live_of s [] p h = absurd (none_in p h)
live_of s (l ∷ ls) p h = elim (Contains-append_cases (live_in s l) (live_among s ls) p h) [
  | inl lives ↦ (l, here l ls, all_at (LivesIn s l) p (live_in s l) (live_named s l) lives)
  | inr more ↦ let (k, member, lives) = live_of s ls p more in (k, there k l ls member, lives)
]

near_body : (o : Option PtrWord) → is_near (body_of o) ≡ is_near o
near_body None = refl
near_body (Some Free) = refl
near_body _ = refl

abbrev pub place_or : Place → Option PtrWord → Place
place_or other (Some (Near len ds place marks)) = place
place_or other _ = other

-- what a word shows of EVAC
shows_evac : (s : State) (p : ℕ) (o : Option PtrWord) → read_of (s.cell p) ≡ o → has_evac o ≡ true → ShowsEvac s p true
shows_evac s p (Some (Near len ds place marks)) e h = (len, ds, place, marks, e, h)
shows_evac s p _ e h = absurd (false≢true h)

-- ---- which logs are chosen
pub chosen_by_both : (held : Bool) (kind : Kind) → held ≡ true → kind ≡ kinds.Sealed → kind_named held kind ≡ Chosen
chosen_by_both held kind h e = ap (λ b. kind_named b kind) h ∙ ap (kind_named true) e

pub held_chosen : (now : Moment) → MomentLaw now → (l : ℕ) → among now.collection l ≡ true → IsChosen now l
held_chosen now moment l h = chosen_by_both (among now.collection l) (now.core.kind l) h (moment.sealed l h)

none_named : (ls : List ℕ) (l : ℕ) (kind : Kind) → is_empty ls ≡ true → kind_named (among ls l) kind ≢ Chosen
none_named [] l kind e h = false≢true (held_by false kind h)
none_named (x ∷ xs) l kind e h = false≢true e

empty_where : (ls : List ℕ) (kind : ℕ → Kind) → AllByRecursion (λ l. kind l ≡ kinds.Sealed) ls → ((l : ℕ) → kind_named (among ls l) (kind l) ≢ Chosen) → is_empty ls ≡ true
empty_where [] kind sealed none = refl
empty_where (l ∷ ls) kind sealed none = absurd (none l (chosen_by_both (among (l ∷ ls) l) (kind l) (in_among l (l ∷ ls) (0, omega arith, refl)) sealed.0))

-- ---- who lies in a log lives there
module _ (s : State) (law : Law (own_part s)) (p len ds : ℕ) (place : Place) (marks : Marks) (near : read_of (s.cell p) ≡ Some (Near len ds place marks)) where
  in_logs : (ls : List ℕ) → Contains ls place.log → Contains (live_among s ls) p
  in_logs [] h = absurd (none_in place.log h)
  in_logs (l ∷ ls) h = elim (split place.log l ls h) [
    | inl e ↦ Contains-append_left (live_in s l) (live_among s ls) p (subst (λ k. Contains (live_in s k) p) (sym e) (in_live s law p len ds place marks near))
    | inr more ↦ Contains-append_right (live_in s l) (live_among s ls) p (in_logs ls more)
  ]

pub names_there : (s : State) (p l : ℕ) → LiesIn s p l → (at : ℕ) × (names_place (read_of (s.cell p)) l at ≡ true)
names_there s p l (len, ds, place, marks, near, log) = (place.at, ap (λ o. names_place o l place.at) near ∙ rw (eq-eqb place.log l log, eq-eqb place.at place.at refl) refl)

-- one that is found where it lay lies there
found_there : (t : State) (p len ds : ℕ) (place : Place) (marks : Marks) (o : Option PtrWord) → read_of (t.cell p) ≡ o → body_of o ≡ body_of (Some (Near len ds place marks)) → LiesIn t p place.log
found_there t p len ds place marks (Some (Near n d at m)) is same = (n, d, at, m, is, ap (λ (x : Place). x.log) (ap (place_or place) same))
found_there t p len ds place marks _ is same = absurd (false≢true (ap is_near same))

-- ---- objects leave
module _ (now : Moment) (count : ℕ) (law : Law now.core) (moment : MomentLaw now) (alone : now.copying ≡ false) (leaves : now.phase ≡ Evacuating) where
  abbrev w : Walked
  w = walked now count

  abbrev t : State
  t = w.moment.core

  abbrev many : ℕ
  many = (walk_is now count).0

  dealt : DealtInOrder now many w
  dealt = in_order now many w (risen_is_ready now (own_law now.core law) moment (ap has_risen leaves)) (walk_is now count).1.walks

  abbrev all : List ℕ
  all = live_among now.core now.collection

  abbrev gone : List ℕ
  gone = take many all

  gone_once : Once gone
  gone_once = once_take many all (once_among now.core now.collection moment.collection_once)

  lived : (p : ℕ) → Contains gone p → (l : ℕ) × LivesIn now.core l p
  lived p c = let (l, member, lives) = live_of now.core now.collection p (in_front many p all c) in (l, lives)

  was_near : (p : ℕ) → Contains gone p → IsNear now.core p
  was_near p c = let from = lived p c in (from.0, near_in now.core from.0 p from.1)

  -- one that was near, and isn't near where it was, has gone
  not_apart : (p : ℕ) → IsNear now.core p → is_near (says w.moment p) ≡ false → Contains gone p
  not_apart p (l, (len, ds, place, marks, near, log)) away = elim (member_or_apart p gone) [
    | inl c ↦ c
    | inr apart ↦ absurd (true≢false (sym (ap is_near near) ∙ sym (near_body (says now p)) ∙ sym (ap is_near (dealt.deals.others p apart)) ∙ near_body (says w.moment p) ∙ away))
  ]

  moved_by : (p : ℕ) → Contains gone p → (o : Option PtrWord) → says w.moment p ≡ o → is_near o ≡ true → IsMoved now.core t p
  moved_by p c (Some (Near len ds place marks)) e h =
      let from = lived p c in (
        from.0,
        place.log,
        near_in now.core from.0 p from.1,
        (len, ds, place, marks, e, refl),
        (λ same.
            let none : names_place (says w.moment p) from.0 place.at ≡ false = all_at (λ q. HasLeft (says now q) (says w.moment q)) p gone dealt.deals.left c from.0 from.1.0 place.at from.1.1 in
            let some : names_place (says w.moment p) from.0 place.at ≡ true =
            ap (λ o. names_place o from.0 place.at) e ∙ ap (λ b. b && (place.at == place.at)) (eq-eqb place.log from.0 same) ∙ eq-eqb place.at place.at refl in
            true≢false (sym some ∙ none)),
      )
  moved_by p c _ e h = absurd (false≢true h)

  moved_gone : (p : ℕ) → IsMoved now.core t p → Contains gone p × (is_near (says w.moment p) ≡ true)
  moved_gone p (l, k, (len, ds, place, marks, near, log), (n, d, to, other, next, there), apart) = (
    elim (member_or_apart p gone) [
      | inl c ↦ c
      | inr none ↦
          let same : to ≡ place = ap (place_or to) (sym (ap body_of next) ∙ dealt.deals.others p none ∙ ap body_of near) in
          absurd (apart (sym there ∙ ap (λ (x : Place). x.log) same ∙ log))
    ],
    ap is_near next,
  )

  far_by : (p : ℕ) → Contains gone p → (o : Option PtrWord) → says w.moment p ≡ o → is_away o ≡ true → IsSentFar now.core t p
  far_by p c (Some (Far len ds marks)) e h = (was_near p c, (len, ds, marks, e))
  far_by p c _ e h = absurd (false≢true h)

  far_gone : (p : ℕ) → IsSentFar now.core t p → Contains gone p × (is_away (says w.moment p) ≡ true)
  far_gone p (near, (len, ds, marks, next)) = (not_apart p near (ap is_near next), ap is_away next)

  retired_by : (p : ℕ) → Contains gone p → (o : Option PtrWord) → says w.moment p ≡ o → is_nowhere o ≡ true → IsRetired now.core t p
  retired_by p c None e h = absurd (false≢true (subst IsSome e ((walking_law now count law moment alone leaves).cells.cell_read p).1))
  retired_by p c (Some Free) e h = (was_near p c, e)
  retired_by p c _ e h = absurd (false≢true h)

  retired_gone : (p : ℕ) → IsRetired now.core t p → Contains gone p × (is_nowhere (says w.moment p) ≡ true)
  retired_gone p (near, next) = (not_apart p near (ap is_near next), ap is_nowhere next)

  -- ---- logs
  in_round : (l : ℕ) → Contains w.moment.collection l → t.round l ≡ true
  in_round l c = (all_at (λ k. (t.round k ≡ true) × (t.kind k ≡ kinds.Sealed)) l w.moment.collection dealt.gives.stay c).0

  chosen_then : (l : ℕ) → kind_in w.moment l ≡ Chosen → t.round l ≡ true
  chosen_then l e = in_round l (among_in l w.moment.collection (held_by (among w.moment.collection l) (t.kind l) e))

  given_by_walk : (l : ℕ) → Contains (take w.tally.freed now.collection) l → IsGivenBack now w.moment l
  given_by_walk l c =
      let member : among now.collection l ≡ true = in_among l now.collection (in_front w.tally.freed l now.collection c) in
      let out : t.round l ≡ false = all_at (λ k. t.round k ≡ false) l (take w.tally.freed now.collection) dealt.gives.gone c in
      (chosen_by_both (among now.collection l) (now.core.kind l) member (moment.sealed l member), (λ e. true≢false (sym (chosen_then l e) ∙ out)), out)

  given_gone : (l : ℕ) → IsGivenBack now w.moment l → Contains (take w.tally.freed now.collection) l
  given_gone l (chosen, later, out) = elim (front_or_rest w.tally.freed l now.collection (among_in l now.collection (held_by (among now.collection l) (now.core.kind l) chosen))) [
    | inl c ↦ c
    | inr c ↦ absurd (true≢false (sym (in_round l (subst (λ xs. Contains xs l) (sym dealt.gives.collection) c)) ∙ out))
  ]

  done_so : (is_done w ≡ true) ↔ ((l : ℕ) → kind_in w.moment l ≢ Chosen)
  done_so = (
    (λ done l. none_named w.moment.collection l (t.kind l) done),
    (λ none. empty_where w.moment.collection t.kind (sealed_then w.moment.collection dealt.gives.stay) none),
  ) where
    sealed_then : (ls : List ℕ) → AllByRecursion (λ k. (t.round k ≡ true) × (t.kind k ≡ kinds.Sealed)) ls → AllByRecursion (λ k. t.kind k ≡ kinds.Sealed) ls
    sealed_then [] h = tt
    sealed_then (l ∷ ls) h = (h.0.1, sealed_then ls h.1)

  -- ---- their order
  first_lies : (l : ℕ) (xs : List ℕ) → live_in t l ≡ xs → is_empty xs ≡ false → (p : ℕ) × LiesIn t p l
  first_lies l [] e some = absurd (true≢false some)
  first_lies l (p ∷ ps) e some = (p, near_in t l p (first_named t l p ps e))

  begins_so : (l : ℕ) (ls : List ℕ) → w.moment.collection ≡ l ∷ ls → (p : ℕ) × LiesIn t p l
  begins_so l ls e =
      let rests = walks_left now many w (risen_is_ready now (own_law now.core law) moment (ap has_risen leaves)) (walk_is now count).1.walks in
      first_lies l (live_in t l) refl (subst (BeginsLive t) e rests.1)

  lives_held : (p len ds : ℕ) (place : Place) (marks : Marks) → read_of (now.core.cell p) ≡ Some (Near len ds place marks) → IsChosen now place.log → Contains all p
  lives_held p len ds place marks near chosen =
      in_logs now.core (own_law now.core law) p len ds place marks near now.collection (among_in place.log now.collection (held_by (among now.collection place.log) (now.core.kind place.log) chosen))

  left_first : (p q : ℕ) (at to : Place) → IsAt now.core p at → IsAt now.core q to → IsChosen now at.log → IsChosen now to.log → ¬ LiesIn t p at.log → LiesIn t q to.log → StandsFirst now.collection at to
  left_first p q at to (len, ds, marks, here) (n, d, m, there) chosen other away still =
      let went : Contains gone p = elim (member_or_apart p gone) [
        | inl c ↦ c
        | inr apart ↦ absurd (away (found_there t p len ds at marks (says w.moment p) refl (dealt.deals.others p apart ∙ ap body_of here)))
      ] in
      let rest : Contains (drop many all) q = elim (front_or_rest many q all (lives_held q n d to m there other)) [
        | inl c ↦
            let from = names_there now.core q to.log (n, d, to, m, there, refl) in
            let here = names_there t q to.log still in
            absurd (true≢false (sym here.1 ∙ all_at (λ x. HasLeft (says now x) (says w.moment x)) q gone dealt.deals.left c to.log from.0 here.0 from.1))
        | inr c ↦ c
      ] in
      turn_split (ComesFirst now.core now.collection) many all p q (live_in_order now.core now.collection (own_law now.core law) moment.collection_once).order went rest len ds n d at to marks m here there

  left_so : TellsLeaving now count (progress_of w.tally (is_done w)) w.moment
  left_so = record {
    moved = subst (IsHowMany (IsMoved now.core t)) (sym dealt.deals.moved) (how_many_of (IsMoved now.core t) (λ p. is_near (says w.moment p)) gone gone_once (λ p c h. moved_by p c (says w.moment p) refl h) moved_gone);
    far = subst (IsHowMany (IsSentFar now.core t)) (sym dealt.deals.far) (how_many_of (IsSentFar now.core t) (λ p. is_away (says w.moment p)) gone gone_once (λ p c h. far_by p c (says w.moment p) refl h) far_gone);
    dropped = subst (IsHowMany (IsRetired now.core t)) (sym dealt.deals.dropped)
        (how_many_of (IsRetired now.core t) (λ p. is_nowhere (says w.moment p)) gone gone_once (λ p c h. retired_by p c (says w.moment p) refl h) retired_gone);
    freed = (
      take w.tally.freed now.collection,
      length-take-le w.tally.freed now.collection dealt.gives.most,
      first_once w.tally.freed now.collection moment.collection_once,
      (λ l. (given_by_walk l, given_gone l)),
    );
    most = omega (arith, dealt.counted, (walk_is now count).1.most);
    enough = λ more. dealt.counted ∙ (walk_is now count).1.enough more;
    done = done_so;
    collection = dealt.gives.collection;
    begins = begins_so;
    order = left_first;
  }

  -- where no log is left each was given back
  pub all_freed : is_done w ≡ true → w.tally.freed ≡ length now.collection
  all_freed done =
      let none : drop w.tally.freed now.collection ≡ [] = sym dealt.gives.collection ∙ none_held w.moment.collection done in
      let rest = length-drop w.tally.freed now.collection in
      omega (arith, dealt.gives.most, rest, ap (λ (xs : List ℕ). length xs) none)

  pub tells_leaving : TellsLeaving now count (progress_of w.tally (is_done w)) (ended w)
  tells_leaving = cond_both (is_done w) (record w.moment { phase = Idle }) w.moment (TellsLeaving now count (progress_of w.tally (is_done w)))
      (λ _. record {
        moved = left_so.moved;
        far = left_so.far;
        dropped = left_so.dropped;
        freed = left_so.freed;
        most = left_so.most;
        enough = left_so.enough;
        done = left_so.done;
        collection = left_so.collection;
        begins = left_so.begins;
        order = left_so.order;
      })
      (λ _. left_so)

-- ---- the phase of a walk
pub ended_phase : (m : Moment) (n : ℕ) → (ended (walked m n)).phase ≡ (if is_done (walked m n) then Idle else m.phase)
ended_phase m n = either (is_done (walked m n)) where
  either : (b : Bool) → (if b then record (walked m n).moment { phase = Idle } else (walked m n).moment).phase ≡ (if b then Idle else m.phase)
  either true = refl
  either false = walked_phase m n

-- ---- giving up
module _ (now : Moment) (law : Law now.core) where
  abbrev given_up : Moment
  given_up = after_aborting now

  given_up_so : IsGivenUp now given_up
  given_up_so = is_given_up now (λ p. (law.cells.cell_read p).0)

  -- what lies in a chosen log then lay there before
  bare_by : (p len ds : ℕ) (place : Place) (marks : Marks) (o : Option PtrWord) → read_of (now.core.cell p) ≡ o → read_of (given_up.core.cell p) ≡ Some (Near len ds place marks) →
      but_evac (Some (Near len ds place marks)) ≡ but_evac o → Contains now.collection place.log → marks.evac ≡ false
  bare_by p len ds place marks (Some (Near n d at old)) was is same member =
      let still : place ≡ at = ap (place_or place) same in
      let lives = in_logs now.core (own_law now.core law) p n d at old was now.collection (subst (λ (x : Place). Contains now.collection x.log) still member) in
      sym (ap has_evac is) ∙ all_at (λ q. has_evac (says given_up q) ≡ false) p (live_among now.core now.collection) given_up_so.bare lives
  bare_by p len ds place marks _ was is same member = absurd (true≢false (ap is_near same))

  pub tells_end : TellsEnd now given_up
  tells_end = record {
    collection = refl;
    bare = λ p l chosen lies.
        let (len, ds, place, marks, near, log) = lies in
        let member : Contains now.collection place.log = among_in place.log now.collection (ap (among now.collection) log ∙ held_by (among now.collection l) (now.core.kind l) chosen) in
        (len, ds, place, marks, near, bare_by p len ds place marks (read_of (now.core.cell p)) refl near (ap but_evac (sym near) ∙ given_up_so.same p) member);
    same = given_up_so.same;
  }

-- ---- marking
module _ (now : Moment) (count : ℕ) (law : Law now.core) (moment : MomentLaw now) (alone : now.copying ≡ false) (marks : now.phase ≡ Marking) where
  abbrev new : List ℕ
  new = newly_marked now count

  abbrev lacks_it : ℕ → Bool
  lacks_it p = not (has_evac (read_of (now.core.cell p)))

  abbrev next : State
  next = (after_marking now count).core

  fits : (p : ℕ) → now.core.cell p < 2 ^ 64
  fits p = (law.cells.cell_read p).0

  new_once : Once new
  new_once = once_take count (lacking now.core now.collection) (once_filter lacks_it (live_among now.core now.collection) (once_among now.core now.collection moment.collection_once))

  gained_by : (p : ℕ) → Contains new p → GainsEvac now.core next p
  gained_by p c =
      let was = filtered lacks_it (live_among now.core now.collection) p (in_front count p (lacking now.core now.collection) c) in
      let (l, member, lives) = live_of now.core now.collection p was.0 in
      let x = near_at (read_of (now.core.cell p)) l lives.0 lives.1 in (
        (x.len, x.ds, x.place, x.marks, x.near, sym (ap has_evac x.near) ∙ not-true (has_evac (read_of (now.core.cell p))) was.1),
        shows_evac next p (read_of (next.cell p)) refl (all_at (λ q. has_evac (read_of (next.cell q)) ≡ true) p new (is_marked now count fits).now c),
      )

  gained_new : (p : ℕ) → GainsEvac now.core next p → Contains new p
  gained_new p ((len, ds, place, was, near, without), (n, d, at, is, later, with)) = elim (member_or_apart p new) [
    | inl c ↦ c
    | inr apart ↦ absurd (true≢false (sym with ∙ sym (ap has_evac later) ∙ ap (λ w. has_evac (read_of w)) ((is_marked now count fits).others p apart) ∙ ap has_evac near ∙ without))
  ]

  -- those that gained it stand before all that lack it then
  in_turn : (p q : ℕ) (at to : Place) → GainsEvac now.core next p → LiesAt next p at true → LiesAt next q to false → IsChosen now to.log → StandsFirst now.collection at to
  in_turn p q at to gains (n, d, m, here, _) (len, ds, marks, there, bare) chosen =
      let (l, k, place, was, near, _) = gains.0 in
      let all : List ℕ = live_among now.core now.collection in
      let apart : AllByRecursion (λ x. x ≢ q) new = elim (member_or_apart q new) [
        | inl c ↦ absurd (true≢false (sym (all_at (λ x. has_evac (read_of (next.cell x)) ≡ true) q new (is_marked now count fits).now c) ∙ ap has_evac there ∙ bare))
        | inr none ↦ none
      ] in
      let before : read_of (now.core.cell q) ≡ Some (Near len ds to marks) = ap read_of (sym ((is_marked now count fits).others q apart)) ∙ there in
      let lives = in_logs now.core (own_law now.core law) q len ds to marks before now.collection (among_in to.log now.collection (held_by (among now.collection to.log) (now.core.kind to.log) chosen)) in
      let lacks : lacks_it q ≡ true = ap (λ o. not (has_evac o)) before ∙ ap not bare in
      let rest : Contains (drop count (lacking now.core now.collection)) q = elim (front_or_rest count q (lacking now.core now.collection) (kept_in lacks_it q all lacks lives)) [
        | inl c ↦ absurd (all_at (λ x. x ≢ q) q new apart c refl)
        | inr c ↦ c
      ] in
      let order = turn_filter (ComesFirst now.core now.collection) lacks_it all (live_in_order now.core now.collection (own_law now.core law) moment.collection_once).order in
      let same : at ≡ place = ap (place_or at) (sym (ap but_evac here) ∙ (is_marked now count fits).same p ∙ ap but_evac near) in
      subst (λ (x : Place). StandsFirst now.collection x to) (sym same)
      (turn_split (ComesFirst now.core now.collection) count (lacking now.core now.collection) p q order (gained_new p gains) rest l k len ds place to was marks near before)

  -- where more lack it than are marked, one is left
  some_left : count < length (lacking now.core now.collection) → (p l : ℕ) × IsChosen now l × LiesIn (marked_core now count) p l × ShowsEvac (marked_core now count) p false
  some_left lt =
      let (p, lacks_one, apart) = beyond count (lacking now.core now.collection) lt (once_filter lacks_it (live_among now.core now.collection) (once_among now.core now.collection moment.collection_once)) in
      let was = filtered lacks_it (live_among now.core now.collection) p lacks_one in
      let (l, member, lives) = live_of now.core now.collection p was.0 in
      let x = near_at (read_of (now.core.cell p)) l lives.0 lives.1 in
      let same : (marked_core now count).cell p ≡ now.core.cell p = others_stay true marked (λ w. bit_or w (2 ^ position Evac)) (λ s q. refl) mark_sets new now.core p apart in
      let near : read_of ((marked_core now count).cell p) ≡ Some (Near x.len x.ds x.place x.marks) = ap read_of same ∙ x.near in
      let held : among now.collection l ≡ true = in_among l now.collection member in (
        p,
        l,
        chosen_by_both (among now.collection l) (now.core.kind l) held (moment.sealed l held),
        (x.len, x.ds, x.place, x.marks, near, x.log),
        (x.len, x.ds, x.place, x.marks, near, sym (ap has_evac x.near) ∙ not-true (has_evac (read_of (now.core.cell p))) was.1),
      )

  risen : (b : Bool) → leaves_some now count ≡ b →
      ReachesEpoch now count (length new) (if b then None else Some (now.core.epoch + 1)) (if b then record now { core = marked_core now count } else record now { core = advanced (marked_core now count) now.collection; phase = Waiting })
  risen true e =
      let more : count < length (lacking now.core now.collection) = grind (arith, nat_tests, e) in
      (ap (λ (s : State). s.epoch) (marks_cells new now.core), length-take-le count (lacking now.core now.collection) (omega (arith, more)), some_left more)
  risen false e =
      let epoch : (marked_core now count).epoch ≡ now.core.epoch = ap (λ (s : State). s.epoch) (marks_cells new now.core) in
      let after : Moment = record now { core = advanced (marked_core now count) now.collection; phase = Waiting } in
      let is : after_marking now count ≡ after = ap (λ b. if b then record now { core = marked_core now count } else after) e in
      let later : Law after.core = subst (λ (m : Moment). Law m.core) is (marking now count law moment marks).law in (
        ap (λ n. n + 1) epoch,
        refl,
        (λ p l chosen lies.
            let (len, ds, place, evac, near, log) = lies in
            (len, ds, place, evac, near, later.rounds.round_evac p len ds place evac near (ap (among now.collection) log ∙ held_by (among now.collection l) (now.core.kind l) chosen))),
      )

  pub tells_marks : TellsMarks now count (length new) (if leaves_some now count then None else Some (now.core.epoch + 1)) (after_marking now count)
  tells_marks = record {
    gained = how_many_in (GainsEvac now.core next) new new_once gained_by gained_new;
    most = omega (arith, length-take count (lacking now.core now.collection));
    order = in_turn;
    epoch = risen (leaves_some now count) refl;
  }

  pub marked_phase : (after_marking now count).phase ≡ phase_after now.phase (Mark count) (Marked (length new) (if leaves_some now count then None else Some (now.core.epoch + 1)))
  marked_phase = either (leaves_some now count) where
    either : (b : Bool) → (if b then record now { core = marked_core now count } else record now { core = advanced (marked_core now count) now.collection; phase = Waiting }).phase
        ≡ phase_after now.phase (Mark count) (Marked (length new) (if b then None else Some (now.core.epoch + 1)))
    either true = refl
    either false = refl

-- ---- waiting
odd_of : (w : ℕ) → w ≢ 0 → IsSome (scope_of w) → w ≡ 2 * (w / 2) + 1
unfolding scope_of
odd_of w opened = cond_both (w == 0) (Some scoped.Closed) (cond ((w % 2 == 1) && nat_lt w (2 * EPOCH_END)) (Some (scoped.Open (w / 2))) None)
    (λ (o : Option _). IsSome o → w ≡ 2 * (w / 2) + 1)
    (λ closed _. absurd (opened (eqb-true w 0 closed)))
    (λ _. cond_both ((w % 2 == 1) && nat_lt w (2 * EPOCH_END)) (Some (scoped.Open (w / 2))) None (λ (o : Option _). IsSome o → w ≡ 2 * (w / 2) + 1)
    (λ odd _. grind (arith, nat_tests, odd)) (λ _ none. absurd (false≢true none)))

late_when : (clear : Bool) (scope at epoch : ℕ) → not (clear || ((scope == 0) || nat_le epoch (scope / 2))) ≡ false → clear ≡ false → scope ≡ 2 * at + 1 → epoch ≤ at
late_when clear scope at epoch h unseen is =
    let half : scope / 2 ≡ at = omega (arith, is) in
    grind (arith, nat_tests, h, unseen, is, half)

up_when : (clear : Bool) (scope epoch : ℕ) → not (clear || ((scope == 0) || nat_le epoch (scope / 2))) ≡ true → (clear ≡ false) × (scope ≢ 0) × (scope / 2 < epoch)
up_when true scope epoch h = absurd (false≢true h)
up_when false scope epoch h = (refl, (λ e. grind (arith, nat_tests, h, e)), grind (arith, nat_tests, h))

nobody : (s : State) → first_open s ≡ None → NobodyHoldsUp s
nobody s e m epoch known unseen is = late_when (s.clear m) (s.scope m) epoch s.round_epoch (none_found (holds_up s) m 0 s.mutators e (omega arith) (omega (arith, known))) unseen is

-- none before the first that is found
sooner : (test : ℕ → Bool) (k a n : ℕ) → find test (range_with_len a n) ≡ Some k → (j : ℕ) → a ≤ j → j < k → test j ≡ false
sooner test k a zero = λ e. absurd cc
sooner test k a (suc n) = cond_both (test a) (Some a) (find test (range_with_len (a + 1) n)) (λ (o : Option ℕ). o ≡ Some k → (j : ℕ) → a ≤ j → j < k → test j ≡ false)
    (λ _ e j from to. let same : a ≡ k = cc in let odd : ⊥ = omega (arith, from, to, same) in absurd odd)
    (λ none e j from to. elim (cases_lt a j) [
      | inl past ↦ sooner test k (a + 1) n e j (omega (arith, past)) to
      | inr le ↦ let same : j ≡ a = omega (arith, from, le) in ap test same ∙ none
    ])

somebody : (s : State) → Law s → (o : Option ℕ) → first_open s ≡ o → (m epoch : ℕ) → polled_at s o ≡ polls.StillOpen m epoch → HoldsUp s m epoch
somebody s law None is m epoch e = absurd cc
somebody s law (Some k) is m epoch e =
    let mutator : k ≡ m = cc in
    let at : s.scope k / 2 ≡ epoch = cc in
    let found = found_in (holds_up s) k 0 s.mutators is in
    let up = up_when (s.clear k) (s.scope k) s.round_epoch found.0 in
    let odd = odd_of (s.scope k) up.1 (law.scopes.scope_read k) in
    subst (λ j. HoldsUp s j epoch) mutator
    record {
      known = omega (arith, found.1);
      unseen = up.0;
      open_at = odd ∙ ap (λ n. 2 * n + 1) at;
      older = subst (λ n. n < s.round_epoch) at up.2;
      first = λ j from lt unseen opened. late_when (s.clear j) (s.scope j) from s.round_epoch (sooner (holds_up s) k 0 s.mutators is j (omega arith) lt) unseen opened;
    }

pub tells_clear : (s : State) → polled s ≡ polls.Clear → NobodyHoldsUp s
tells_clear s e = by_first (first_open s) refl e where
  by_first : (o : Option ℕ) → first_open s ≡ o → polled_at s o ≡ polls.Clear → NobodyHoldsUp s
  by_first None is e = nobody s is
  by_first (Some k) is e = absurd cc

pub tells_open : (s : State) → Law s → (m epoch : ℕ) → polled s ≡ polls.StillOpen m epoch → HoldsUp s m epoch
tells_open s law m epoch e = somebody s law (first_open s) refl m epoch e

-- ---- choosing
pub sealed_used : (kind : Kind) → is_sealed kind ≡ true → kind ≢ kinds.Free
sealed_used kind shut free = true≢false (sym shut ∙ ap is_sealed free)

module _ (now : Moment) (law : Law now.core) (moment : MomentLaw now) (alone : now.copying ≡ false) where
  are_rows : AreRows (rows_in now)
  are_rows = (rows_told now.order (row_of now.core) (λ l. refl) moment.order_once
      (λ l there. omega (arith, law.logs.log_range l (sealed_used (now.core.kind l) (sym (moment.order l) ∙ there)), law.shape.few_logs))).0

  pub policy_takes : (policy : Policy) (most : ℕ) → Takes now (By policy) most (chosen_by policy (rows_in now) most)
  policy_takes Oldest most = ap (take most) (rows_are now.core now.order)
  policy_takes LeastLive most = (least_live (rows_in now) most, least_is_there (rows_in now) most are_rows, refl)

  choice_takes : (choice : Choice) (most : ℕ) (logs : List ℕ) → given_by choice (rows_in now) most ≡ Ok logs → Takes now choice most logs
  choice_takes (By policy) most logs is = let same : chosen_by policy (rows_in now) most ≡ logs = cc in subst (Takes now (By policy) most) same (policy_takes policy most)
  choice_takes (Script named) most logs is = subst (FollowsScript (rows_in now) most named) is (follows_script (rows_in now) most named)

  pub tells_choice : (choice : Choice) (most : ℕ) (logs : List ℕ) → is_idle now.phase ≡ true → given_by choice (rows_in now) most ≡ Ok logs → TellsChoice now choice most logs (after_selecting now logs)
  tells_choice choice most [] idle is = record { takes = choice_takes choice most [] is; collection = none_held now.collection (moment.runs ∙ idle); core = refl }
  tells_choice choice most (l ∷ ls) idle is = record { takes = choice_takes choice most (l ∷ ls) is; collection = refl; core = refl }

pub chosen_phase : (now : Moment) (choice : Choice) (most : ℕ) (logs : List ℕ) → (after_selecting now logs).phase ≡ phase_after now.phase (Select choice most) (Selected logs)
chosen_phase now choice most [] = refl
chosen_phase now choice most (l ∷ ls) = refl
