use Rattle.std.proofs.Common.{◌≡◌, ◌∙◌, ◌+◌, ◌-◌, ◌++◌, ◌∷◌, [], ℕ, suc, false, ap, arith, refl, sym, subst}
use Rattle.far_device.specs.Following.{Follows, none_of, other_than}
use Rattle.far_device.proofs.Following.{follows_itself, follows_on, follows_still}
use Rattle.std.specs.Prelude.{Err}
use Rattle.far_word.specs.Sizes.{size_of}
use Rattle.far_hand.proofs.Closure.{no_call, then_came}
use Rattle.far_book.specs.book.Dealing.{is_failure}
use Rattle.far_book.specs.book.NextLive.{IsBoundary, live_from}
use Rattle.far_word.specs.declared.refused.Refused.{Refused}
use Rattle.far_evac.specs.declared.answers.Progress.{Progress}
use Rattle.far_evac.specs.Beside.{AsksOnly, At, Before, Behind, RefusedOnly}
use Rattle.far_evac.specs.BookStands.{stands}
use Rattle.far_evac.specs.Live.{live_in, pointers_of}
use Rattle.far_evac.specs.Moment.{objects_in, tally_of}
use Rattle.far_evac.specs.Walk.{Walked}
use Rattle.far_evac.proofs.BesideOver.{over_then, walked_same}
use Rattle.far_evac.proofs.BesideSteps.{keeps_found, keeps_then}
use Rattle.far_evac.proofs.BesideWalk.{Meets, alone_in, chosen_log, clear_there, ends_before, ends_refused, ends_walk, first_part, follows_one, lies_at, meets_dealt, meets_job, next_parts, none_left, stands_known, why_at}
use Rattle.far_evac.proofs.Fronts.{knows_cells}
use Rattle.far_evac.proofs.Hands.{knows_more}
use Rattle.far_evac.proofs.Standings.{at_start}
use Rattle.far_evac.proofs.Unmarking.{goes_past, live_start}
use Rattle.far_evac.proofs.Walks.{knows_same}
use Rattle.far_evac.proofs.evac.beside.walk_log.Goals.{then-not-has_job+else-left-eq0+in_default-deal_beside, else-not-has_job}
use Rattle.far_evac.proofs.evac.beside.walk_log.Goals as goal

pub loop-found-init : goal.loop-found-init
loop-found-init g c =
    let s = g.N.Near.view c.args.book.now.near in
    let law = c.keeps_law.ensures.law in record {
      done = [];
      parts = live_start s law c.args.log;
      over = λ held. (walked_same (stands g.N.Near.view c.args.book.now c.args.progress.now held), refl, refl, refl);
      keeps = keeps_found s s c.args.log (knows_same s);
      begins = at_start s law c.args.log;
      within = omega arith;
      law = law;
      counted = omega arith;
      rest = (refl, refl);
      follows = follows_itself g.D.Device.contents g.D.Device.honest g.D.Device.faults g.D.Device.fails_at_most (none_of (live_in s c.args.log)) c.args.book.now.device;
      came = no_call refl;
    }

pub next_found-requires-clause-log : goal.next_found-requires-clause-log
next_found-requires-clause-log g c =
    let h = c.loop-found.invariant in
    chosen_log (g.N.Near.view c.loop-found.book.near) h.law c.args.log (h.keeps.chosen c.args.log c.requires.chosen)

pub next_found-requires-clause-begins : goal.next_found-requires-clause-begins
next_found-requires-clause-begins g c = c.loop-found.invariant.begins

pub has_job-requires : goal.has_job-requires
has_job-requires g c = record { lies = lies_at (g.N.Near.view c.next_found.new.self.near) c.args.log c.in-Some.found.span c.in-Some.ensures.lies }

-- where a walk ends that isn't refused
before_no : (p : ℕ) (why : Refused) → Before ≡ At p why → ⊥
before_no p why e = cc

behind_no : (p : ℕ) (why : Refused) → Behind ≡ At p why → ⊥
behind_no p why e = cc

-- ---- as many as were asked for were dealt with
pub returns-then-left-eq0-clause-came : goal.returns-then-left-eq0-clause-came
returns-then-left-eq0-clause-came g c = then_came c.loop-found.invariant.came c.next_found.ensures.came

pub returns-then-left-eq0-clause-over : goal.returns-then-left-eq0-clause-over
returns-then-left-eq0-clause-over g c held =
    let view = g.N.Near.view in
    let s = view c.loop-found.book.near in
    let t = view c.next_found.new.self.near in
    let h = c.loop-found.invariant in
    let e = c.in-Some.ensures in
    let past = c.in-Some.found.span.at + size_of c.in-Some.found.span.len in
    let asks = AsksOnly g.row.D.Denot g.D.Device.writes g.D.Device.lets_go g.D.Device.contents in
    let fails = RefusedOnly g.row.D.Denot g.D.Device.writes g.D.Device.lets_go g.D.Device.contents in
    let rest = pointers_of (live_from s c.args.log past) in
    ends_walk view g.N.Near.makes g.D.Device.contents g.D.Device.honest g.D.Device.faults g.D.Device.fails_at_most asks fails
    (λ (x : Walked). live_in x.moment.core c.args.log) h.done (c.in-Some.found.span.p ∷ rest) c.args.n c.loop-found.left 0
    (stands view c.args.book.now c.args.progress.now held) (stands view c.loop-found.book c.loop-found.progress held) (stands view c.next_found.new.self c.loop-found.progress held) Before
    c.args.book.now.device c.loop-found.book.device c.next_found.new.self.device
    (first_part (live_in (view c.args.book.now.near) c.args.log) h.done (live_from s c.args.log c.loop-found.at) c.in-Some.found.span (live_from s c.args.log past) h.parts e.first) (h.over held)
    (ends_before view g.N.Near.makes g.D.Device.contents g.D.Device.honest g.D.Device.faults g.D.Device.fails_at_most asks fails c.loop-found.book c.next_found.new.self (knows_cells s t e.found e.kept) e.order e.device e.came c.loop-found.progress
    c.in-Some.found.span.p (sym c.has_job.ensures.is ∙ c.if-not-has_job.true) rest c.loop-found.left held c.if-left-eq0.true)

pub returns-then-left-eq0-clause-keeps : goal.returns-then-left-eq0-clause-keeps
returns-then-left-eq0-clause-keeps g c =
    let s = g.N.Near.view c.loop-found.book.near in
    let t = g.N.Near.view c.next_found.new.self.near in
    keeps_then (g.N.Near.view c.args.book.now.near) s t c.args.log c.loop-found.invariant.keeps (keeps_found s t c.args.log (knows_cells s t c.in-Some.ensures.found c.in-Some.ensures.kept))

pub returns-then-left-eq0-clause-counted : goal.returns-then-left-eq0-clause-counted
returns-then-left-eq0-clause-counted g c = let h = c.loop-found.invariant in omega (arith, h.counted, h.within)

pub returns-then-left-eq0-clause-rest : goal.returns-then-left-eq0-clause-rest
returns-then-left-eq0-clause-rest g c = c.loop-found.invariant.rest

pub returns-then-left-eq0-clause-why : goal.returns-then-left-eq0-clause-why
returns-then-left-eq0-clause-why g c p why e = absurd (before_no p why e)

pub returns-then-left-eq0-clause-follows : goal.returns-then-left-eq0-clause-follows
returns-then-left-eq0-clause-follows g c =
    subst (Follows g.D.Device.contents g.D.Device.honest g.D.Device.faults g.D.Device.fails_at_most (none_of (live_in (g.N.Near.view c.args.book.now.near) c.args.log)) false c.args.book.now.device)
    (sym c.next_found.ensures.device) c.loop-found.invariant.follows

-- ---- it is dealt with
pub deal_beside-requires-clause-pointer : goal.deal_beside-requires-clause-pointer
deal_beside-requires-clause-pointer g c = c.in-Some.ensures.lies.pointer

pub deal_beside-requires-clause-cell : goal.deal_beside-requires-clause-cell
deal_beside-requires-clause-cell g c = c.in-Some.ensures.cell

pub deal_beside-requires-clause-clear : goal.deal_beside-requires-clause-clear
deal_beside-requires-clause-clear g c =
    let s = g.N.Near.view c.loop-found.book.near in
    let t = g.N.Near.view c.next_found.new.self.near in
    clear_there t c.args.log c.in-Some.found.span c.in-Some.ensures.lies
    ((keeps_found s t c.args.log (knows_cells s t c.in-Some.ensures.found c.in-Some.ensures.kept)).chosen c.args.log (c.loop-found.invariant.keeps.chosen c.args.log c.requires.chosen))

pub deal_beside-requires-clause-room : goal.deal_beside-requires-clause-room
deal_beside-requires-clause-room g c =
    let past = goes_past (g.N.Near.view c.loop-found.book.near) c.loop-found.invariant.law c.args.log c.loop-found.at c.in-Some.found.span c.in-Some.ensures.first in
    let inside = c.in-Some.ensures.inside in
    let counted = c.loop-found.invariant.counted in
    omega (arith, past, inside, counted, c.requires.room)

pub returns-in-Err-clause-came : goal.returns-in-Err-clause-came
returns-in-Err-clause-came g c = then_came (then_came c.loop-found.invariant.came c.next_found.ensures.came) c.deal_beside.ensures.came

pub returns-in-Err-clause-over : goal.returns-in-Err-clause-over
returns-in-Err-clause-over g c held =
    let view = g.N.Near.view in
    let s = view c.loop-found.book.near in
    let t = view c.next_found.new.self.near in
    let h = c.loop-found.invariant in
    let e = c.in-Some.ensures in
    let past = c.in-Some.found.span.at + size_of c.in-Some.found.span.len in
    let asks = AsksOnly g.row.D.Denot g.D.Device.writes g.D.Device.lets_go g.D.Device.contents in
    let fails = RefusedOnly g.row.D.Denot g.D.Device.writes g.D.Device.lets_go g.D.Device.contents in
    let rest = pointers_of (live_from s c.args.log past) in
    let err = c.in-Err.ensures in
    ends_walk view g.N.Near.makes g.D.Device.contents g.D.Device.honest g.D.Device.faults g.D.Device.fails_at_most asks fails
    (λ (x : Walked). live_in x.moment.core c.args.log) h.done (c.in-Some.found.span.p ∷ rest) c.args.n c.loop-found.left c.loop-found.left
    (stands view c.args.book.now c.args.progress.now held) (stands view c.loop-found.book c.loop-found.progress held) (stands view c.deal_beside.new.book c.deal_beside.new.progress held) (At c.in-Some.found.span.p c.in-Err.why)
    c.args.book.now.device c.loop-found.book.device c.deal_beside.new.book.device
    (first_part (live_in (view c.args.book.now.near) c.args.log) h.done (live_from s c.args.log c.loop-found.at) c.in-Some.found.span (live_from s c.args.log past) h.parts e.first) (h.over held)
    (ends_refused view g.N.Near.makes g.D.Device.contents g.D.Device.honest g.D.Device.faults g.D.Device.fails_at_most asks fails c.loop-found.book c.next_found.new.self (knows_cells s t e.found e.kept) e.order e.device e.came c.loop-found.progress
    c.in-Some.found.span.p (sym c.has_job.ensures.is ∙ c.if-not-has_job.true) rest c.loop-found.left held c.deal_beside.new.book c.deal_beside.new.progress c.in-Err.why c.if-left-eq0.false err.kept err.uncounted.1 err.uncounted.0 (err.refused, err.follows.others))

pub returns-in-Err-clause-keeps : goal.returns-in-Err-clause-keeps
returns-in-Err-clause-keeps g c =
    let s = g.N.Near.view c.loop-found.book.near in
    let t = g.N.Near.view c.next_found.new.self.near in
    let u = g.N.Near.view c.deal_beside.new.book.near in
    keeps_then (g.N.Near.view c.args.book.now.near) s u c.args.log c.loop-found.invariant.keeps
    (keeps_found s u c.args.log (knows_more s t u (knows_cells s t c.in-Some.ensures.found c.in-Some.ensures.kept) c.in-Err.ensures.kept))

pub returns-in-Err-clause-follows : goal.returns-in-Err-clause-follows
returns-in-Err-clause-follows g c =
    let s = g.N.Near.view c.loop-found.book.near in
    let past = c.in-Some.found.span.at + size_of c.in-Some.found.span.len in
    let all = live_in (g.N.Near.view c.args.book.now.near) c.args.log in
    let h = c.loop-found.invariant in
    follows_one g.D.Device.contents g.D.Device.honest g.D.Device.faults g.D.Device.fails_at_most all h.done c.in-Some.found.span.p (pointers_of (live_from s c.args.log past)) (is_failure {A = Unit {0}} (Err c.in-Err.why))
    c.args.book.now.device c.loop-found.book.device c.next_found.new.self.device c.deal_beside.new.book.device
    (first_part all h.done (live_from s c.args.log c.loop-found.at) c.in-Some.found.span (live_from s c.args.log past) h.parts c.in-Some.ensures.first) c.in-Some.ensures.device h.follows c.in-Err.ensures.follows

pub returns-in-Err-clause-counted : goal.returns-in-Err-clause-counted
returns-in-Err-clause-counted g c =
    let h = c.loop-found.invariant in
    let same = ap (λ (q : Progress). objects_in (tally_of q)) c.in-Err.ensures.uncounted.0 in
    omega (arith, h.counted, h.within, same)

pub returns-in-Err-clause-rest : goal.returns-in-Err-clause-rest
returns-in-Err-clause-rest g c = let h = c.loop-found.invariant in let e = c.deal_beside.ensures in (e.rest.0 ∙ h.rest.0, e.rest.1 ∙ h.rest.1)

pub returns-in-Err-clause-why : goal.returns-in-Err-clause-why
returns-in-Err-clause-why g c p why e = why_at c.in-Some.found.span.p p c.in-Err.why why c.in-Err.ensures.why e

-- ---- the next one
pub loop-found-smaller : goal.loop-found-smaller
loop-found-smaller g c =
    let past = goes_past (g.N.Near.view c.loop-found.book.near) c.loop-found.invariant.law c.args.log c.loop-found.at c.in-Some.found.span c.in-Some.ensures.first in
    let inside = c.in-Some.ensures.inside in
    omega (arith, past, c.size_of.ensures, inside)

pub loop-found-preserved : goal.loop-found-preserved
loop-found-preserved g c =
    let view = g.N.Near.view in
    let start = view c.args.book.now.near in
    let s = view c.loop-found.book.near in
    let t = view c.next_found.new.self.near in
    let u = view c.if-not-has_job.book.near in
    let l = c.args.log in
    let span = c.in-Some.found.span in
    let past = span.at + size_of span.len in
    let h = c.loop-found.invariant in
    let e = c.in-Some.ensures in
    let known = knows_cells s t e.found e.kept in
    let all = live_in start l in
    let contents = g.D.Device.contents in
    let honest = g.D.Device.honest in
    let faults = g.D.Device.faults in
    let few = g.D.Device.fails_at_most in
    let first = first_part all h.done (live_from s l c.loop-found.at) span (live_from s l past) h.parts e.first in
    let asks = AsksOnly g.row.D.Denot g.D.Device.writes g.D.Device.lets_go g.D.Device.contents in
    let fails = RefusedOnly g.row.D.Denot g.D.Device.writes g.D.Device.lets_go g.D.Device.contents in
    let chosen = (keeps_found s t l known).chosen l (h.keeps.chosen l c.requires.chosen) in
    let meets = Meets view g.N.Near.makes g.D.Device.contents g.D.Device.honest g.D.Device.faults g.D.Device.fails_at_most asks fails all l past span.p c.loop-found.book c.loop-found.progress c.loop-found.left in
    let m : meets c.if-not-has_job.book c.if-not-has_job.progress c.if-not-has_job.left = elim c.if-not-has_job.branch [
      | then-not-has_job+else-left-eq0+in_default-deal_beside w ↦
          let did = w.in_default-deal_beside.ensures in
          let one : c.loop-found.left ≡ suc (c.loop-found.left - 1) = omega (arith, w.if-left-eq0.false) in
          let follows = follows_still contents honest faults few (other_than span.p) (none_of all) false c.next_found.new.self.device w.deal_beside.new.book.device (alone_in all h.done span.p (pointers_of (live_from s l past)) first) did.follows in
          subst (λ b. meets b c.if-not-has_job.progress c.if-not-has_job.left) (sym w.book-is) (subst (λ q. meets w.deal_beside.new.book q c.if-not-has_job.left) (sym w.progress-is) (subst (λ n. meets w.deal_beside.new.book w.deal_beside.new.progress n) (sym w.left-is)
          (meets_dealt view g.N.Near.makes contents honest faults few asks fails c.loop-found.book c.next_found.new.self known e.order e.device e.came c.loop-found.progress l span e.lies c.keeps_law-in-Some.ensures.law chosen
          (sym c.has_job.ensures.is ∙ w.if-not-has_job.true) w.deal_beside.new.book w.deal_beside.new.progress did.dealt all c.loop-found.left (c.loop-found.left - 1) one e.next did.counted did.rest follows w.deal_beside.ensures.came)))
      | else-not-has_job w ↦
          subst (λ b. meets b c.if-not-has_job.progress c.if-not-has_job.left) (sym w.book-is) (subst (λ q. meets c.next_found.new.self q c.if-not-has_job.left) (sym w.progress-is) (subst (λ n. meets c.next_found.new.self c.loop-found.progress n) (sym w.left-is)
          (meets_job view g.N.Near.makes contents honest faults few asks fails c.loop-found.book c.next_found.new.self known e.order e.device e.came c.loop-found.progress all l past span.p c.loop-found.left (sym c.has_job.ensures.is ∙ w.if-not-has_job.false) e.next)))
    ] in
    let going = goes_past s h.law l c.loop-found.at span e.first in record {
      done = h.done ++ span.p ∷ [];
      parts = next_parts all h.done (live_from s l c.loop-found.at) span (live_from s l past) (live_from u l (span.at + c.size_of.result)) h.parts e.first
          (subst (λ size. live_from u l (span.at + size) ≡ live_from s l past) (sym c.size_of.ensures) m.left);
      over = λ held. over_then g.row.D.Denot asks fails h.done (span.p ∷ []) c.args.n (stands view c.args.book.now c.args.progress.now held) (stands view c.loop-found.book c.loop-found.progress held)
          (stands view c.if-not-has_job.book c.if-not-has_job.progress held) c.loop-found.left c.if-not-has_job.left Behind c.args.book.now.device c.loop-found.book.device c.if-not-has_job.book.device (h.over held) (m.over held);
      keeps = keeps_then start s u l h.keeps m.keeps;
      begins = subst (λ size. IsBoundary u l (span.at + size)) (sym c.size_of.ensures) m.begins;
      within = omega (arith, c.size_of.ensures, e.inside);
      law = c.keeps_law-in-Some-2.ensures.law;
      counted = omega (arith, m.counted, h.counted, going, c.size_of.ensures);
      rest = (m.rest.0 ∙ h.rest.0, m.rest.1 ∙ h.rest.1);
      follows = follows_on g.D.Device.contents g.D.Device.honest g.D.Device.faults g.D.Device.fails_at_most (none_of all) false c.args.book.now.device c.loop-found.book.device c.if-not-has_job.book.device h.follows m.follows;
      came = then_came h.came m.came;
    }

-- ---- all were met
pub returns-clause-came : goal.returns-clause-came
returns-clause-came g c = then_came c.loop-found.invariant.came c.next_found.ensures.came

pub returns-clause-over : goal.returns-clause-over
returns-clause-over g c held =
    let view = g.N.Near.view in
    let s = view c.loop-found.book.near in
    let t = view c.next_found.new.self.near in
    let h = c.loop-found.invariant in
    let e = c.in_default.ensures in
    let asks = AsksOnly g.row.D.Denot g.D.Device.writes g.D.Device.lets_go g.D.Device.contents in
    let fails = RefusedOnly g.row.D.Denot g.D.Device.writes g.D.Device.lets_go g.D.Device.contents in
    ends_walk view g.N.Near.makes g.D.Device.contents g.D.Device.honest g.D.Device.faults g.D.Device.fails_at_most asks fails
    (λ (x : Walked). live_in x.moment.core c.args.log) h.done [] c.args.n c.loop-found.left c.loop-found.left
    (stands view c.args.book.now c.args.progress.now held) (stands view c.loop-found.book c.loop-found.progress held) (stands view c.next_found.new.self c.loop-found.progress held) Behind
    c.args.book.now.device c.loop-found.book.device c.next_found.new.self.device
    (none_left (live_in (view c.args.book.now.near) c.args.log) h.done (live_from s c.args.log c.loop-found.at) h.parts e.none) (h.over held)
    (stands_known view c.loop-found.book c.next_found.new.self c.loop-found.progress c.loop-found.progress held (knows_cells s t e.found e.kept) e.order refl, refl, refl, e.device)

pub returns-clause-keeps : goal.returns-clause-keeps
returns-clause-keeps g c =
    let s = g.N.Near.view c.loop-found.book.near in
    let t = g.N.Near.view c.next_found.new.self.near in
    keeps_then (g.N.Near.view c.args.book.now.near) s t c.args.log c.loop-found.invariant.keeps (keeps_found s t c.args.log (knows_cells s t c.in_default.ensures.found c.in_default.ensures.kept))

pub returns-clause-counted : goal.returns-clause-counted
returns-clause-counted g c = let h = c.loop-found.invariant in omega (arith, h.counted, h.within)

pub returns-clause-rest : goal.returns-clause-rest
returns-clause-rest g c = c.loop-found.invariant.rest

pub returns-clause-why : goal.returns-clause-why
returns-clause-why g c p why e = absurd (behind_no p why e)

pub returns-clause-follows : goal.returns-clause-follows
returns-clause-follows g c =
    subst (Follows g.D.Device.contents g.D.Device.honest g.D.Device.faults g.D.Device.fails_at_most (none_of (live_in (g.N.Near.view c.args.book.now.near) c.args.log)) false c.args.book.now.device)
    (sym c.next_found.ensures.device) c.loop-found.invariant.follows
