-- Why the book's calls about jobs are legal, and what is known after them.
use Rattle.std.proofs.Common.{◌≡◌, ◌≢◌, ◌+◌, ◌-◌, ◌/◌, ◌^◌, ◌<◌, ◌≤◌, ℕ, Bool, true, false, refl, sym, ap, ◌∙◌, subst, arith, inl, inr, Option, Some, None, Result, Ok, Err}
use Rattle.std.specs.Prelude.{◌&&◌, ◌||◌, ◌==◌, IfOk, IfErr, is_some, not}
use Rattle.std.proofs.lemmas.Bool.{eqb-true, false≢true}
use Rattle.far_word.specs.declared.job.Job.{Job}
use Rattle.far_word.specs.declared.job.JobWord.TheVariants.{Finished}
use Rattle.far_word.specs.declared.mark.Marks.{Marks}
use Rattle.far_word.specs.declared.pointer.Place.{Place}
use Rattle.far_word.specs.declared.pointer.PtrWord.TheVariants.{Near}
use Rattle.far_word.specs.declared.sizes.TheConstants.{CELLS, JOBS}
use Rattle.far_word.specs.Header.{head_word}
use Rattle.far_word.specs.Job.{job_of}
use Rattle.far_word.specs.Pointer.{read_of}
use Rattle.far_word.specs.Sizes.{size_of, words_for}
use Rattle.far_events.specs.declared.event.Event.TheVariants.{Name, Offer}
use Rattle.far_events.specs.declared.event.Kind.{Kind}
use Rattle.far_events.specs.declared.event.Kind.TheVariants.{Free, Open, Sealed}
use Rattle.far_events.specs.declared.naming.Naming.TheVariants.{Moves}
use Rattle.far_events.specs.events.Copied.{WasCopied, copied_job, with_named}
use Rattle.far_events.specs.events.Copies.{data_at}
use Rattle.far_events.specs.events.Legal.{IsNext, Legal}
use Rattle.far_events.specs.events.Naming.{IsNaming, is_stay}
use Rattle.far_events.specs.events.NewSpans.{with_begun}
use Rattle.far_events.specs.events.Offer.{after_offer, offered}
use Rattle.far_events.specs.events.Quiet.{IsQuiet, is_quiet}
use Rattle.far_events.specs.events.Step.{after}
use Rattle.far_events.specs.events.namings.Moves.{MayMove, after_move}
use Rattle.far_events.specs.state.Jobs.{near_place}
use Rattle.far_events.specs.state.State.{State, addr, put}
use Rattle.far_events.proofs.Copied.{copied_test}
use Rattle.far_events.proofs.Guards.{parts}
use Rattle.far_events.proofs.Put.{put_both, put_other, put_same}
use Rattle.far_hand.specs.FindsJob.{job_found}
use Rattle.far_hand.specs.Quiet.{IsQuietAt}
use Rattle.far_hand.proofs.Naming.{won_state}
use Rattle.tests_seats.specs.Offers.{HasBegun, HasRoom, HasRound, IsLeft, IsMarked, IsMoved, IsRoom, KnowsJobs, KnowsRoom}

pub not_false : (b : Bool) → not b ≡ false → b ≡ true
not_false true e = refl
not_false false e = sym e

-- ---- a span
-- there the next span may stand
pub next_there : (s : State) (next : Place) (spare : Option ℕ) (size : ℕ) (to : Place) → HasRoom s next spare → IsRoom next spare size to → IsNext s to
next_there s next spare size to h (inl e, end) = subst (IsNext s) (sym e) (h.within, inl (h.opened, sym h.ends))
next_there s next spare size to h (inr x, end) = let f = h.free to.log x.0 in (f.0, inr (f.1, x.1))

-- nothing stands there yet
pub past_tail : (s : State) (next : Place) (spare : Option ℕ) (size : ℕ) (to : Place) → HasRoom s next spare → IsRoom next spare size to → s.tail to.log ≤ to.at
past_tail s next spare size to h (inl e, end) = subst (λ (z : Place). s.tail z.log ≤ z.at) (sym e) (omega (arith, h.ends))
past_tail s next spare size to h (inr x, end) = let f = h.free to.log x.0 in omega (arith, f.2)

free_other : (kind : ℕ → Kind) (l k : ℕ) → kind l ≡ Free → kind k ≡ Open → l ≢ k
free_other kind l k free opened e = let odd : Free ≡ Open = sym free ∙ (ap kind e ∙ opened) in absurd cc

-- once it is taken, the next one follows it
pub room_after : (s : State) (next : Place) (spare spare' : Option ℕ) (len size : ℕ) (to : Place) → size ≡ size_of len → HasRoom s next spare → IsRoom next spare size to → IsLeft next spare to spare' →
    HasRoom (with_begun s len to) (record { log = to.log; at = to.at + size }) spare'
room_after s next spare spare' len size to long h r left = record {
  within = (next_there s next spare size to h r).0;
  opened = put_same (put s.kind s.current Sealed) to.log Open to.log refl;
  current_is = refl;
  ends = put_same s.tail to.log (to.at + size_of len) to.log refl ∙ ap (λ n. to.at + n) (sym long);
  low = r.1;
  free = λ l e.
      let x = left l e in
      let f = h.free l x.0 in
      let ne : l ≢ next.log = free_other s.kind l next.log f.1 h.opened in
      let other : l ≢ to.log = λ same. ne (same ∙ x.1) in
      let old : l ≢ s.current = λ same. ne (same ∙ h.current_is) in
      (f.0, put_other (put s.kind s.current Sealed) to.log Open l other ∙ (put_other s.kind s.current Sealed l old ∙ f.1), put_other s.tail to.log (to.at + size_of len) l other ∙ f.2);
}

-- ---- an offer
-- what is known before one: the next job is empty
abbrev pub IsReady : Place → Option ℕ → ℕ → State → Type 0
IsReady next spare n s = HasRound s × HasRoom s next spare × HasBegun s n × (s.copying.word n ≡ 0)

-- it is known once that job was seen to be empty, and an object, and once words were written
module _ (next : Place) (spare : Option ℕ) (n : ℕ) (s t u : State) (round : HasRound s) (room : HasRoom s next spare) (begun : HasBegun s n) (t_is : t ≡ job_found s n 0) (u_is : u ≡ record t { cell = u.cell }) where
  pub seen : IsReady next spare n u
  seen = subst (IsReady next spare n) (sym u_is) (subst (IsReady next spare n) (sym t_is) (round, room, begun, put_same s.copying.word n 0 n refl))

  pub written : (v : State) → v ≡ record u { word = v.word } → IsReady next spare n v
  written v v_is = subst (IsReady next spare n) (sym v_is) seen

module _ (v : State) (next : Place) (spare : Option ℕ) (round : HasRound v) (room : HasRoom v next spare) (j p len ds : ℕ) (from to : Place) (lies : IsMarked v p len ds from) where
  pub may_offer : j < JOBS → p < CELLS → v.copying.word j ≡ 0 → IsRoom next spare (size_of len) to → v.word (addr to) ≡ head_word p len ds → data_at v.word to (words_for len - 1) ≡ 0 → Legal v (Offer j p to)
  may_offer low small empty r head last =
      let owner = round.owner in
      let first : p / CELLS ≡ 0 = omega arith in (
        low,
        omega (arith, owner),
        empty,
        (
          len,
          ds,
          from,
          lies.marks,
          record {
            near = lies.near;
            marked = lies.marked;
            chosen = round.chosen from.log lies.chosen;
            seen = ap v.clear first ∙ round.seen;
            fits = r.1;
            span = record { next = next_there v next spare (size_of len) to room r; head = head };
            ends = last;
          },
        ),
      )

  abbrev job : Job
  job = record { pointer = p; from = from; to = to }

  pub offered_is : after v (Offer j p to) ≡ offered v j len job
  offered_is = ap (after_offer v j p to) lies.near

-- what is known once it was offered, and its word seen
pub jobs_after : (v : State) (j len w : ℕ) (job : Job) → HasBegun v j → j < JOBS → KnowsJobs (job_found (offered v j len job) j w) (j + 1) j w
jobs_after v j len w job begun low = record {
  few = omega arith;
  begun = λ i lt. put_both (λ x. x ≡ v.round_epoch) v.copying.since j v.round_epoch i (λ _. refl) (λ ne. begun i (omega arith));
  low = low;
  found = put_same (offered v j len job).copying.word j w j refl;
}

-- ---- a naming
pub same_place : (x y : Place) → false ≡ not ((x.log == y.log) && (x.at == y.at)) → x ≡ y
same_place x y e =
    let b = parts (x.log == y.log) (x.at == y.at) (not_false ((x.log == y.log) && (x.at == y.at)) (sym e)) in
    let a = eqb-true x.log y.log b.0 in let c = eqb-true x.at y.at b.1 in λ i. record { log = a i; at = c i }

and_none : (a : Bool) → (a && false) ≡ false
and_none true = refl
and_none false = refl

stays_not : (from to : Place) (m : Marks) → m.evac ≡ true → is_stay from to m ≡ false
stays_not from to m e = ap (λ b. (from.log == to.log) && (from.at == to.at) && m.moved && not b) e ∙ and_none ((from.log == to.log) && (from.at == to.at) && m.moved)

is_move : (job : Job) (old new : ℕ) (moved : IsMoved job old new) → IsNaming (Moves moved.len moved.ds job.from job.to) (read_of old) (read_of new)
is_move job old new moved = ((moved.marks, moved.was, moved.kept, stays_not job.from job.to moved.marks moved.marked), moved.is)

module _ (u : State) (next : Option Place) (spare : Option ℕ) (offered n word c old new : ℕ) (job : Job) (round : HasRound u) (room : KnowsRoom u next spare) (jobs : KnowsJobs u offered n word)
    (lt : n < offered) (chosen : job.from.log < 2) (ends : job_of word ≡ Some (Finished job c)) (at : u.cell job.pointer ≡ old) (moved : IsMoved job old new) where
  copied : WasCopied u job.pointer job.from job.to
  copied = (
    n,
    c,
    record {
      low = jobs.low;
      lies = ap (λ w. near_place (read_of w)) at ∙ ap near_place moved.was;
      finished = ap job_of jobs.found ∙ ends;
      good = (jobs.begun n lt, round.chosen job.from.log chosen);
    },
  )

  pub may_name : job.pointer < CELLS → Legal u (Name job.pointer old new)
  may_name small = let owner = round.owner in (omega (arith, owner), (Moves moved.len moved.ds job.from job.to, is_move job old new moved, inr copied))

  some_move : (o : Option ℕ) → is_some o ≡ true → (j : ℕ) × (after_move u job.pointer new moved.len job.to o ≡ with_named u job.pointer new j)
  some_move None h = absurd (false≢true h)
  some_move (Some j) h = (j, refl)

  -- the job's pointer is named to its target, and that is all
  named_is : (j : ℕ) × (after u (Name job.pointer old new) ≡ with_named u job.pointer new j)
  named_is = let x = some_move (copied_job u job.pointer job.from job.to) (copied_test u job.pointer job.from job.to copied) in
      (x.0, won_state u job.pointer old new (Moves moved.len moved.ds job.from job.to) at (is_move job old new moved) ∙ x.1)

  pub named_then : (r : Result (Unit {0}) ℕ) (t : State) → IfOk r (λ _. t ≡ record (after u (Name job.pointer old new)) { word = t.word; stored = t.stored }) → IfErr r (λ found. t ≡ record u { cell = put u.cell job.pointer found }) →
      HasRound t × KnowsRoom t next spare × KnowsJobs t offered n word
  named_then (Ok x) t won lost =
      let is : t ≡ record (with_named u job.pointer new named_is.0) { word = t.word; stored = t.stored } = won ∙ ap (λ (z : State). record z { word = t.word; stored = t.stored }) named_is.1 in
      subst (λ (z : State). HasRound z × KnowsRoom z next spare × KnowsJobs z offered n word) (sym is) (round, room, jobs)
  named_then (Err found) t won lost = subst (λ (z : State). HasRound z × KnowsRoom z next spare × KnowsJobs z offered n word) (sym lost) (round, room, jobs)

-- ---- a move by the book alone
or_true : (a : Bool) → (a || true) ≡ true
or_true true = refl
or_true false = refl

-- an object in the round, whose owner was seen clear, is quiet
pub quiet_there : (s : State) (p len ds : ℕ) (from : Place) → HasRound s → IsMarked s p len ds from → p < CELLS → IsQuiet s p × IsQuietAt s (addr from + 1)
quiet_there s p len ds from round lies small =
    let first : p / CELLS ≡ 0 = omega arith in
    let owner = round.owner in
    let some = lies.layout.0 in
    let chosen : s.round from.log ≡ true = round.chosen from.log lies.chosen in
    let seen : s.clear (p / CELLS) ≡ true = ap s.clear first ∙ round.seen in
    let quiet : is_quiet s.round s.clear p from lies.marks ≡ true = rw (lies.marked, chosen, seen) (or_true lies.marks.moved) in (
      inr (len, ds, from, lies.marks, lies.near, lies.marked, chosen, seen),
      record {
        p = p;
        len = len;
        ds = ds;
        place = from;
        marks = lies.marks;
        index = 0;
        pointer = omega (arith, owner);
        near = lies.near;
        quiet = quiet;
        inside = omega (arith, some);
        here = omega arith;
      },
    )

module _ (v : State) (offered n word p ds old new : ℕ) (from to : Place) (round : HasRound v) (jobs : KnowsJobs v offered n word) (small : p < CELLS)
    (lies : IsMarked v p 8 ds from) (at : old ≡ v.cell p) (moved : IsMoved (record { pointer = p; from = from; to = to }) old new) where
  both : Some (Near 8 ds from lies.marks) ≡ Some (Near moved.len moved.ds from moved.marks)
  both = sym lies.near ∙ (ap read_of (sym at) ∙ moved.was)

  long : 8 ≡ moved.len
  long = let e = both in cc

  kind : ds ≡ moved.ds
  kind = let e = both in cc

  module _ (low : from.log < v.logs) (there : IsNext v to) (head : v.word (addr to) ≡ head_word p 8 ds) (same : v.word (addr to + 1) ≡ v.word (addr from + 1)) (fits : v.word (addr to + 1) < 2 ^ 64) where
    abbrev Moved : ℕ → ℕ → Type 0
    Moved len d = MayMove v p len d from to

    alike : (i : ℕ) → i < 1 → data_at v.word to i ≡ data_at v.word from i
    alike i lt =
        let a : addr to + 1 + i ≡ addr to + 1 = omega arith in
        let b : addr from + 1 + i ≡ addr from + 1 = omega arith in ap v.word a ∙ (same ∙ sym (ap v.word b))

    eight : Moved 8 ds
    eight = let a : addr to + 1 + 0 ≡ addr to + 1 = omega arith in record {
      span = record { next = there; head = head };
      padded = subst (λ x. v.word x < 2 ^ 64) (sym a) fits;
      quiet = (quiet_there v p 8 ds from round lies small).0;
      log = low;
      same = alike;
    }

    pub may_move : Legal v (Name p old new)
    may_move = let owner = round.owner in
        (omega (arith, owner), (Moves moved.len moved.ds from to, is_move (record { pointer = p; from = from; to = to }) old new moved, inl (subst (λ d. Moved moved.len d) kind (subst (λ l. Moved l ds) long eight))))

  stays : (o : Option ℕ) → HasRound (after_move v p new moved.len to o) × KnowsJobs (after_move v p new moved.len to o) offered n word
  stays None = (round, jobs)
  stays (Some j) = (round, jobs)

  pub moved_then : (r : Result (Unit {0}) ℕ) (t : State) → IfOk r (λ _. t ≡ record (after v (Name p old new)) { word = t.word; stored = t.stored }) → IfErr r (λ found. t ≡ record v { cell = put v.cell p found }) →
      HasRound t × KnowsJobs t offered n word
  moved_then (Ok x) t won lost =
      let next = after_move v p new moved.len to (copied_job v p from to) in
      let is : after v (Name p old new) ≡ next = won_state v p old new (Moves moved.len moved.ds from to) (sym at) (is_move (record { pointer = p; from = from; to = to }) old new moved) in
      let all : t ≡ record next { word = t.word; stored = t.stored } = won ∙ ap (λ (z : State). record z { word = t.word; stored = t.stored }) is in
      subst (λ (z : State). HasRound z × KnowsJobs z offered n word) (sym all) (stays (copied_job v p from to))
  moved_then (Err found) t won lost = subst (λ (z : State). HasRound z × KnowsJobs z offered n word) (sym lost) (round, jobs)
