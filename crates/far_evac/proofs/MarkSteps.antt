-- What marking makes of a moment: the first object that lacks EVAC gets it, and where none lacks it the round waits.
use Rattle.std.proofs.Common.{◌≡◌, ℕ, ◌+◌, ◌^◌, ◌<◌, Bool, true, false, not, Some, List, [], ◌∷◌, length, bit_or, inl, inr, ap, sym, refl, ◌∙◌, subst}
use Rattle.std.proofs.lemmas.Bool.{cases_eq, cases_lt}
use Rattle.far_word.specs.declared.mark.Mark.TheVariants.{Evac}
use Rattle.far_word.specs.declared.mark.Marks.{Marks}
use Rattle.far_word.specs.declared.pointer.Place.{Place}
use Rattle.far_word.specs.declared.pointer.PtrWord.TheVariants.{Near}
use Rattle.far_word.specs.Mark.{marks_with, position}
use Rattle.far_word.specs.Pointer.{read_of}
use Rattle.far_word.specs.Sizes.{size_of}
use Rattle.far_word.proofs.PointerLaws.{with_mark_read}
use Rattle.far_log.specs.declared.span.Span.{Span}
use Rattle.far_events.specs.declared.event.Event.TheVariants.{Mark}
use Rattle.far_events.specs.events.Legal.{Legal}
use Rattle.far_events.specs.state.Jobs.{near_place}
use Rattle.far_events.specs.state.Law.{Law}
use Rattle.far_events.specs.state.State.{State, put}
use Rattle.far_events.proofs.Put.{put_other, put_same}
use Rattle.far_hand.specs.Finds.{Finds}
use Rattle.far_hand.specs.Masked.{AllFindJobs}
use Rattle.far_book.specs.book.Effects.{marked}
use Rattle.far_book.specs.book.NextLive.{IsBoundary}
use Rattle.far_book.specs.book.Own.{own_part}
use Rattle.far_hand.proofs.Finding.{near_found}
use Rattle.far_hand.proofs.JobsFound.{job_is}
use Rattle.far_evac.specs.declared.phase.Phase.{Phase}
use Rattle.far_evac.specs.declared.phase.Phase.TheVariants.{Marking}
use Rattle.far_evac.specs.declared.round.Round.{Round}
use Rattle.far_evac.specs.AnyHand.{Knows, KnowsMoment}
use Rattle.far_evac.specs.Cursor.{StandsAt, first_marked}
use Rattle.far_evac.specs.Live.{is_empty, lacking}
use Rattle.far_evac.specs.Moment.{Moment}
use Rattle.far_evac.specs.Standing.{InRound, MarkedBefore, collection_in}
use Rattle.far_evac.proofs.Changing.{mark_leaves, marked_known}
use Rattle.far_evac.proofs.Hands.{knows_more}
use Rattle.far_evac.proofs.HeldJobs.{KeepsJobs, lies_near, still_before}
use Rattle.far_evac.proofs.Keeping.{dropped_among}
use Rattle.far_evac.proofs.Lacking.{first_lacks, first_near, lacking_known, none_lack}
use Rattle.far_evac.proofs.Marks.{IsNearWord}
use Rattle.far_evac.proofs.Onward.{all_marked, chosen_sealed, front_inside, held_marking, moved_on, not_leaving, not_waiting}

-- ---- moments
module _ {core made : State} {order then : List ℕ} {phase later : Phase} {held left : List ℕ} {copying : Bool} (ordered : then ≡ order) (phases : later ≡ phase) (holds : left ≡ held) where
  pub moment_so : core ≡ made → let m : Moment = record { core = core; order = then; phase = later; collection = left; copying = copying } in m ≡ record { core = made; order = order; phase = phase; collection = held; copying = copying }
  moment_so same = λ i. record { core = same i; order = ordered i; phase = phases i; collection = holds i; copying = copying }

  pub knows_so : {m : Moment} → record { core = made; order = order; phase = phase; collection = held; copying = copying } ≡ m → Knows made core → KnowsMoment m (record { core = core; order = then; phase = later; collection = left; copying = copying })
  knows_so {m} is known = subst (λ x. KnowsMoment x (record { core = core; order = then; phase = later; collection = left; copying = copying })) is record { core = known; rest = λ i. record { core = core; order = ordered i; phase = phases i; collection = holds i; copying = copying } }

-- ---- the round has gone on
pub record Sought (s t : State) (r next : Round) : Type 0 where
  pub in_round : InRound t next
  pub marks : r.phase ≡ Marking
  pub round : next ≡ record r { index = next.index; at = next.at }
  pub known : Knows s t

module _ {s t : State} {r next : Round} (sought : Sought s t r next) where
  pub next_phase : next.phase ≡ r.phase
  next_phase = ap (λ (x : Round). x.phase) sought.round

  next_marks : next.phase ≡ Marking
  next_marks = next_phase ∙ sought.marks

  next_chosen : next.chosen ≡ r.chosen
  next_chosen = ap (λ (x : Round). x.chosen) sought.round

  held_chosen : collection_in r ≡ next.chosen
  held_chosen = held_marking r.phase r.chosen r.index sought.marks ∙ sym next_chosen

  pub next_held : collection_in next ≡ collection_in r
  next_held = held_marking next.phase next.chosen next.index next_marks ∙ sym held_chosen

  lacking_same : lacking s (collection_in r) ≡ lacking t next.chosen
  lacking_same = sym (lacking_known s t sought.known (collection_in r)) ∙ ap (lacking t) held_chosen

  pub none_left : next.index ≡ length r.chosen → lacking s (collection_in r) ≡ []
  none_left e = lacking_same ∙ none_lack t next.chosen (all_marked t next sought.in_round next_marks (e ∙ ap length (sym next_chosen)))

  pub some_left : Law (own_part t) → (span : Span) → StandsAt t next span → (rest : List ℕ) × (lacking s (collection_in r) ≡ span.p ∷ rest)
  some_left law span stands = let first = first_lacks t law next span (sought.in_round.stands.marked next_marks) stands in (first.0, lacking_same ∙ first.1)

  -- whether one is left
  pub none_shown : next.index ≡ length r.chosen → false ≡ not (is_empty (lacking s (collection_in r)))
  none_shown e = sym (ap (λ xs. not (is_empty xs)) (none_left e))

  pub some_shown : Law (own_part t) → (span : Span) → StandsAt t next span → true ≡ not (is_empty (lacking s (collection_in r)))
  some_shown law span stands = sym (ap (λ xs. not (is_empty xs)) (some_left law span stands).1)

  pub none_known : next.index ≡ length r.chosen → Knows (first_marked s (lacking s (collection_in r))) t
  none_known e = subst (λ xs. Knows (first_marked s xs) t) (sym (none_left e)) sought.known

  pub none_same : next.index ≡ length r.chosen → t ≡ s → t ≡ first_marked s (lacking s (collection_in r))
  none_same e same = same ∙ sym (ap (first_marked s) (none_left e))

  pub may_mark : Law (own_part t) → (span : Span) → StandsAt t next span → Legal t (Mark span.p)
  may_mark law span stands =
      let lies = stands.next.lies in
      let sealed = chosen_sealed t next sought.in_round next_marks stands.log (dropped_among next.chosen next.index stands.log stands.more stands.front) in (
        lies.pointer,
        (span.len, span.ds, record { log = stands.log; at = span.at }, lies.marks, lies.near, front_inside t next sought.in_round next_marks stands.log stands.more stands.front law, sealed),
      )

  -- ---- it gets EVAC
  module _ (law : Law (own_part s)) (then : Law (own_part t)) (span : Span) (stands : StandsAt t next span) (u : State) (word : ℕ) (finds : Finds (t.cell span.p) word) (fits : word < 2 ^ 64)
      (is : u ≡ record t { cell = put t.cell span.p (bit_or word (2 ^ position Evac)) }) where
    abbrev p : ℕ
    p = span.p

    near_there : IsNearWord (t.cell p)
    near_there = ((then.cells.cell_read p).0, (span.len, span.ds, record { log = stands.log; at = span.at }, stands.next.lies.marks, stands.next.lies.near))

    pub marks_known : Knows (first_marked s (lacking s (collection_in r))) u
    marks_known =
        let first = some_left then span stands in
        let near = first_near s (λ q. (law.cells.cell_read q).0) (collection_in r) p first.0 first.1 in
        subst (λ xs. Knows (first_marked s xs) u) (sym first.1)
        (knows_more (marked s p) (marked t p) u (marked_known s t sought.known p near (then.cells.cell_read p).0) (mark_leaves t u p word near_there finds fits is))

    pub marks_exactly : t ≡ s → u ≡ marked t p → u ≡ first_marked s (lacking s (collection_in r))
    marks_exactly same done = done ∙ ap (λ (v : State). marked v p) same ∙ sym (ap (first_marked s) (some_left then span stands).1)

    -- an object that lies near then lay there before, and has EVAC where it had it
    record Lay (q len ds : ℕ) (place : Place) (m : Marks) : Type 0 where
      old : Marks
      near : read_of (t.cell q) ≡ Some (Near len ds place old)
      kept : old.evac ≡ true → m.evac ≡ true
      new : q ≡ p → m.evac ≡ true

    lay : (q len ds : ℕ) (place : Place) (m : Marks) → read_of (u.cell q) ≡ Some (Near len ds place m) → Lay q len ds place m
    lay q len ds place m near = elim (cases_eq q p) [
      | inl e ↦ (
          let x = near_found (t.cell p) word finds span.len span.ds (record { log = stands.log; at = span.at }) stands.next.lies.marks stands.next.lies.near in
          let says = with_mark_read Evac word (Near span.len span.ds record { log = stands.log; at = span.at } x.marks) fits x.near refl in
          let cell : u.cell q ≡ bit_or word (2 ^ position Evac) = ap (λ (v : State). v.cell q) is ∙ put_same t.cell p (bit_or word (2 ^ position Evac)) q e in
          let both : Some (Near len ds place m) ≡ Some (Near span.len span.ds record { log = stands.log; at = span.at } (marks_with Evac x.marks)) = sym near ∙ ap read_of cell ∙ says in
          let lens : span.len ≡ len = cc in
          let kinds : span.ds ≡ ds = cc in
          let places : record { log = stands.log; at = span.at } ≡ place = cc in
          let marks_are : m ≡ marks_with Evac x.marks = cc in
          let has : m.evac ≡ true = ap (λ (k : Marks). k.evac) marks_are in
          record {
            old = stands.next.lies.marks;
            near = ap (λ x. read_of (t.cell x)) e ∙ stands.next.lies.near ∙ (λ i. Some (Near (lens i) (kinds i) (places i) stands.next.lies.marks));
            kept = λ _. has;
            new = λ _. has;
          }
          )
      | inr ne ↦ record {
        old = m;
        near = sym (ap read_of (ap (λ (v : State). v.cell q) is ∙ put_other t.cell p (bit_or word (2 ^ position Evac)) q ne)) ∙ near;
        kept = λ has. has;
        new = λ e. absurd (ne e);
      }
    ]

    stays : InRound (record t { cell = u.cell }) next
    stays =
        let h = sought.in_round.holds in
        let g = sought.in_round.stands in
        record {
          holds = record { sealed = h.sealed; once = h.once; runs = h.runs; round = h.round; only = h.only; clear = h.clear; later = h.later };
          stands = record {
            index = g.index;
            begins = g.begins;
            marked = λ marking q len ds place m near member. let x = lay q len ds place m near in x.kept (g.marked marking q len ds place x.old x.near member);
            marked_here = λ marking l ls e q len ds place m near log lt. let x = lay q len ds place m near in x.kept (g.marked_here marking l ls e q len ds place x.old x.near log lt);
            left = λ leaves. absurd (not_leaving (sym next_marks ∙ leaves));
            seen = λ waits. absurd (not_waiting (sym next_marks ∙ waits));
            unseen = λ waits. absurd (not_waiting (sym next_marks ∙ waits));
          };
        }

    abbrev past : ℕ
    past = span.at + size_of span.len

    same_cell : record t { cell = u.cell } ≡ u
    same_cell = sym (is ∙ (λ i. record t { cell = (ap (λ (v : State). v.cell) (sym is)) i }))

    marked_past : MarkedBefore u stands.log past
    marked_past q len ds place m near log lt =
        let x = lay q len ds place m near in
        elim (cases_lt place.at span.at) [
          | inl low ↦ x.kept (stands.next.before q len ds place x.old x.near log low)
          | inr le ↦ x.new (stands.next.alone q len ds place x.old x.near log le lt)
        ]

    behind : IsBoundary u stands.log past
    behind = subst (λ (v : State). IsBoundary v stands.log past) same_cell stands.next.behind

    pub goes_on : (size : ℕ) → size ≡ size_of span.len → InRound u record next { at = span.at + size }
    goes_on size e = subst (λ n. InRound u record next { at = span.at + n }) (sym e)
        (moved_on u next (subst (λ (v : State). InRound v next) same_cell stays) next_marks stands.log stands.more stands.front past behind marked_past)

    -- jobs are as they were
    same_words : AllFindJobs t.copying.word u.copying.word
    same_words j = job_is (t.copying.word j) (u.copying.word j) (ap (λ (v : State). v.copying.word j) is)

    pub jobs_on : KeepsJobs t u
    jobs_on = record {
      words = same_words;
      still = λ j job. still_before t u same_words (ap (λ (v : State). v.copying.since) is) (ap (λ (v : State). v.round_epoch) is) j job
          (λ in_it. sym (ap (λ (v : State). v.round job.from.log) is) ∙ in_it)
          (λ lies _.
          let x = lies_near (read_of (u.cell job.pointer)) job.from lies in
          ap near_place (lay job.pointer x.len x.ds job.from x.marks x.near).near);
    }
