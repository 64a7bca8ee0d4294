use Rattle.std.proofs.Common.{◌≡◌, ◌∙◌, ◌*◌, ◌<◌, None, false, true, ap, sym, subst}
use Rattle.std.specs.Prelude.{is_some}
use Rattle.far_book.specs.book.BookOf.{BookOf}
use Rattle.far_word.specs.declared.sizes.TheConstants.{CELLS}
use Rattle.far_word.specs.Pointer.{read_of}
use Rattle.far_device.specs.Following.{Follows, other_than}
use Rattle.far_events.specs.events.Naming.{is_dropped}
use Rattle.far_events.specs.state.Law.{is_dirty}
use Rattle.far_events.specs.state.State.{State}
use Rattle.far_hand.proofs.Closure.{then_came}
use Rattle.far_hand.proofs.Finding.{some_found}
use Rattle.far_book.specs.book.Dealing.{has_evac, is_failure}
use Rattle.far_book.specs.book.Effects.{evicted}
use Rattle.far_evac.specs.declared.evac.evacuating.Fate.{Fate}
use Rattle.far_evac.specs.Leaving.{AsksAs, LeavesAs, LeavesBy, goes_near, near_fate}
use Rattle.far_evac.proofs.Asking.{asked_before, asked_there, finds_seen, finds_then, near_not_far, refused_before}
use Rattle.far_evac.proofs.Hands.{knows_more}
use Rattle.far_evac.proofs.SendingOff.{away_exactly, cell_then, cold_alive, cold_exactly, err_any, err_map, evac_found, evac_still, found_here, ok_map, no_answer, owed_away, owed_cold, quiet_here, quiet_still, seen_known, sent_away, sent_cold, sent_there, there_exactly}
use Rattle.far_evac.proofs.evac.evacuating.send_off.Given.{Over}
use Rattle.far_evac.proofs.evac.evacuating.send_off.Goals.{After-goes_near}
use Rattle.far_evac.proofs.evac.evacuating.send_off.Goals as goal

pub send_far-requires-clause-quiet : goal.send_far-requires-clause-quiet
send_far-requires-clause-quiet g c =
    quiet_here (g.N.Near.view c.args.book.now.near) c.args.pointer c.requires.quiet c.keeps_law.ensures.law c.requires.evac c.cell_of-found.result c.cell_of-found.ensures.found (g.N.Near.view c.cell_of-found.new.self.near) c.cell_of-found.ensures.kept

pub move_by-answer-requires-clause-quiet : goal.move_by-answer-requires-clause-quiet
move_by-answer-requires-clause-quiet g c =
    quiet_here (g.N.Near.view c.args.book.now.near) c.args.pointer c.requires.quiet c.keeps_law.ensures.law c.requires.evac c.cell_of-found.result c.cell_of-found.ensures.found (g.N.Near.view c.cell_of-found.new.self.near) c.cell_of-found.ensures.kept

pub send_far-requires-in-Err-clause-quiet : goal.send_far-requires-in-Err-clause-quiet
send_far-requires-in-Err-clause-quiet g c =
    quiet_still (g.N.Near.view c.cell_of-found.new.self.near) (g.N.Near.view c.move_by-answer.new.self.near) c.args.pointer c.in-Err.ensures.seen
    (quiet_here (g.N.Near.view c.args.book.now.near) c.args.pointer c.requires.quiet c.keeps_law.ensures.law c.requires.evac c.cell_of-found.result c.cell_of-found.ensures.found (g.N.Near.view c.cell_of-found.new.self.near) c.cell_of-found.ensures.kept)

pub returns-then-not-goes_near-clause-leaves : goal.returns-then-not-goes_near-clause-leaves
returns-then-not-goes_near-clause-leaves g c =
    let cold = sym c.goes_near.ensures ∙ c.if-not-goes_near.true in
    ok_map c.send_far.result (λ fate goes. sent_cold (g.N.Near.view c.args.book.now.near) c.args.pointer c.requires.quiet c.keeps_law.ensures.law c.requires.evac c.cell_of-found.result c.cell_of-found.ensures.found
    (g.N.Near.view c.cell_of-found.new.self.near) c.cell_of-found.ensures.kept (g.N.Near.view c.send_far.new.book.near) c.args.book.now.order c.send_far.new.book.order cold (c.send_far.ensures.order ∙ c.cell_of-found.ensures.order) fate goes) c.send_far.ensures.goes

pub returns-then-not-goes_near-clause-kept : goal.returns-then-not-goes_near-clause-kept
returns-then-not-goes_near-clause-kept g c =
    let s = g.N.Near.view c.args.book.now.near in
    let u = g.N.Near.view c.cell_of-found.new.self.near in
    err_map c.send_far.result (λ _ kept. knows_more s u (g.N.Near.view c.send_far.new.book.near) (found_here s u c.args.pointer c.cell_of-found.result c.cell_of-found.ensures.found c.cell_of-found.ensures.kept) kept) c.send_far.ensures.kept

pub returns-in-Ok-clause-leaves : goal.returns-in-Ok-clause-leaves
returns-in-Ok-clause-leaves g c =
    let near = sym c.goes_near.ensures ∙ c.if-not-goes_near.false in
    let done = c.move_by-answer.ensures in
    subst (λ fate. LeavesBy (g.N.Near.view c.args.book.now.near) c.args.book.now.order (g.N.Near.view c.move_by-answer.new.self.near) c.move_by-answer.new.self.order c.args.pointer fate) (sym c.near_fate.ensures)
    (sent_there (g.N.Near.view c.args.book.now.near) c.args.pointer c.requires.quiet c.keeps_law.ensures.law c.requires.evac c.cell_of-found.result c.cell_of-found.ensures.found (g.N.Near.view c.cell_of-found.new.self.near) c.cell_of-found.ensures.kept
    (g.N.Near.view c.move_by-answer.new.self.near) c.args.book.now.order c.move_by-answer.new.self.order g.N.Near.still near c.in-Ok.place c.cell_of-found.new.self.order c.cell_of-found.ensures.order
    (λ x y first then dropped. first ∙ sym c.in-Ok.is ∙ done.asked dropped ∙ sym then) c.in-Ok.ensures.place c.keeps_law-2.ensures.law c.in-Ok.ensures.moved c.in-Ok.ensures.gone c.in-Ok.ensures.order)

pub returns-in-Err-clause-leaves : goal.returns-in-Err-clause-leaves
returns-in-Err-clause-leaves g c =
    let near = sym c.goes_near.ensures ∙ c.if-not-goes_near.false in
    let done = c.move_by-answer.ensures in
    let missed = c.in-Err.ensures in
    ok_map c.send_far-in-Err.result (λ fate goes. sent_away (g.N.Near.view c.args.book.now.near) c.args.pointer c.requires.quiet c.keeps_law.ensures.law c.requires.evac c.cell_of-found.result c.cell_of-found.ensures.found (g.N.Near.view c.cell_of-found.new.self.near) c.cell_of-found.ensures.kept
    (g.N.Near.view c.send_far-in-Err.new.book.near) c.args.book.now.order c.send_far-in-Err.new.book.order near (no_answer c.move_by-answer.result c.in-Err.field-0 None c.in-Err.is done.asked) missed.none
    (g.N.Near.view c.move_by-answer.new.self.near) missed.seen missed.words
    (c.send_far-in-Err.ensures.order ∙ ap (λ (b : BookOf g.row.N.Denot g.row.D.Denot). b.order) missed.kept ∙ c.cell_of-found.ensures.order) fate goes) c.send_far-in-Err.ensures.goes

pub returns-in-Err-clause-kept : goal.returns-in-Err-clause-kept
returns-in-Err-clause-kept g c =
    let s = g.N.Near.view c.args.book.now.near in
    let u = g.N.Near.view c.cell_of-found.new.self.near in
    let v = g.N.Near.view c.move_by-answer.new.self.near in
    let t = g.N.Near.view c.send_far-in-Err.new.book.near in
    let first = knows_more s u v (found_here s u c.args.pointer c.cell_of-found.result c.cell_of-found.ensures.found c.cell_of-found.ensures.kept) (seen_known u v c.args.pointer c.in-Err.ensures.seen c.keeps_law-2.ensures.law) in
    err_map c.send_far-in-Err.result (λ _ kept. knows_more s v t first kept) c.send_far-in-Err.ensures.kept

pub returns-then-not-goes_near-clause-asked : goal.returns-then-not-goes_near-clause-asked
returns-then-not-goes_near-clause-asked g c =
    let s = g.N.Near.view c.args.book.now.near in
    let u = g.N.Near.view c.cell_of-found.new.self.near in
    ok_map c.send_far.result (λ fate asks. asked_before g.row.D.Denot g.D.Device.writes g.D.Device.lets_go s u c.args.pointer (finds_seen s u c.args.pointer c.cell_of-found.result c.cell_of-found.ensures.found c.cell_of-found.ensures.kept)
    (ap (λ (x : State). x.word) c.cell_of-found.ensures.kept) c.args.book.now.device c.cell_of-found.new.self.device c.cell_of-found.ensures.device fate c.send_far.new.book.device asks) c.send_far.ensures.asked

pub returns-then-not-goes_near-clause-refused : goal.returns-then-not-goes_near-clause-refused
returns-then-not-goes_near-clause-refused g c =
    let s = g.N.Near.view c.args.book.now.near in
    let u = g.N.Near.view c.cell_of-found.new.self.near in
    err_map c.send_far.result (λ why asks. refused_before g.row.D.Denot g.D.Device.writes g.D.Device.lets_go s u c.args.pointer (finds_seen s u c.args.pointer c.cell_of-found.result c.cell_of-found.ensures.found c.cell_of-found.ensures.kept)
    (ap (λ (x : State). x.word) c.cell_of-found.ensures.kept) c.args.book.now.device c.cell_of-found.new.self.device c.cell_of-found.ensures.device why c.send_far.new.book.device asks) c.send_far.ensures.refused

pub returns-in-Ok-clause-asked : goal.returns-in-Ok-clause-asked
returns-in-Ok-clause-asked g c =
    let s = g.N.Near.view c.args.book.now.near in
    let done = c.in-Ok.ensures in
    subst (λ fate. AsksAs g.row.D.Denot g.D.Device.writes g.D.Device.lets_go s c.args.pointer fate c.args.book.now.device c.move_by-answer.new.self.device) (sym c.near_fate.ensures)
    (subst (λ (d : g.row.D.Denot). AsksAs g.row.D.Denot g.D.Device.writes g.D.Device.lets_go s c.args.pointer (near_fate c.in-Ok.place) d c.move_by-answer.new.self.device) c.cell_of-found.ensures.device
    (asked_there g.row.D.Denot g.D.Device.writes g.D.Device.lets_go s c.args.pointer c.in-Ok.place c.cell_of-found.new.self.device c.move_by-answer.new.self.device done.device done.called))

pub returns-in-Err-clause-asked : goal.returns-in-Err-clause-asked
returns-in-Err-clause-asked g c =
    let s = g.N.Near.view c.args.book.now.near in
    let u = g.N.Near.view c.cell_of-found.new.self.near in
    let v = g.N.Near.view c.move_by-answer.new.self.near in
    let missed = c.in-Err.ensures in
    let same = ap (λ (b : BookOf g.row.N.Denot g.row.D.Denot). b.device) missed.kept ∙ c.cell_of-found.ensures.device in
    ok_map c.send_far-in-Err.result (λ fate asks. asked_before g.row.D.Denot g.D.Device.writes g.D.Device.lets_go s v c.args.pointer (finds_then s u v c.args.pointer c.cell_of-found.result c.cell_of-found.ensures.found c.cell_of-found.ensures.kept missed.seen)
    (missed.words ∙ ap (λ (x : State). x.word) c.cell_of-found.ensures.kept) c.args.book.now.device c.move_by-answer.new.self.device same fate c.send_far-in-Err.new.book.device asks) c.send_far-in-Err.ensures.asked

pub returns-in-Err-clause-refused : goal.returns-in-Err-clause-refused
returns-in-Err-clause-refused g c =
    let s = g.N.Near.view c.args.book.now.near in
    let u = g.N.Near.view c.cell_of-found.new.self.near in
    let v = g.N.Near.view c.move_by-answer.new.self.near in
    let missed = c.in-Err.ensures in
    let same = ap (λ (b : BookOf g.row.N.Denot g.row.D.Denot). b.device) missed.kept ∙ c.cell_of-found.ensures.device in
    err_map c.send_far-in-Err.result (λ why asks. refused_before g.row.D.Denot g.D.Device.writes g.D.Device.lets_go s v c.args.pointer (finds_then s u v c.args.pointer c.cell_of-found.result c.cell_of-found.ensures.found c.cell_of-found.ensures.kept missed.seen)
    (missed.words ∙ ap (λ (x : State). x.word) c.cell_of-found.ensures.kept) c.args.book.now.device c.move_by-answer.new.self.device same why c.send_far-in-Err.new.book.device asks) c.send_far-in-Err.ensures.refused

pub returns-then-not-goes_near-clause-owed : goal.returns-then-not-goes_near-clause-owed
returns-then-not-goes_near-clause-owed g c =
    let cold = sym c.goes_near.ensures ∙ c.if-not-goes_near.true in
    err_map c.send_far.result (λ _ dirty. owed_cold (g.N.Near.view c.args.book.now.near) c.args.pointer c.requires.quiet c.keeps_law.ensures.law c.requires.evac c.cell_of-found.result c.cell_of-found.ensures.found
    cold g.N.Near.still c.cell_of-found.ensures.exact (g.N.Near.view c.send_far.new.book.near) dirty) c.send_far.ensures.owed

pub returns-in-Err-clause-owed : goal.returns-in-Err-clause-owed
returns-in-Err-clause-owed g c =
    let near = sym c.goes_near.ensures ∙ c.if-not-goes_near.false in
    let done = c.move_by-answer.ensures in
    err_map c.send_far-in-Err.result (λ _ dirty. owed_away (g.N.Near.view c.args.book.now.near) c.args.pointer c.requires.quiet c.keeps_law.ensures.law c.requires.evac c.cell_of-found.result c.cell_of-found.ensures.found
    (g.N.Near.view c.cell_of-found.new.self.near) c.cell_of-found.ensures.kept (g.N.Near.view c.send_far-in-Err.new.book.near) c.args.book.now.order c.send_far-in-Err.new.book.order near
    (no_answer c.move_by-answer.result c.in-Err.field-0 None c.in-Err.is done.asked) c.in-Err.ensures.none g.N.Near.still c.cell_of-found.ensures.exact dirty) c.send_far-in-Err.ensures.owed

pub returns-then-not-goes_near-clause-unasked : goal.returns-then-not-goes_near-clause-unasked
returns-then-not-goes_near-clause-unasked g c = λ still.
    let clean = ap (λ (x : State). is_dirty (read_of (x.cell c.args.pointer))) (c.cell_of-found.ensures.set still) in
    ok_map c.send_far.result (λ fate spares is none. spares is (clean ∙ none) ∙ c.cell_of-found.ensures.device) (c.send_far.ensures.unasked still)

pub returns-in-Ok-clause-unasked : goal.returns-in-Ok-clause-unasked
returns-in-Ok-clause-unasked g c = λ still is none. absurd (near_not_far c.in-Ok.place (sym c.near_fate.ensures ∙ is))

pub returns-in-Err-clause-unasked : goal.returns-in-Err-clause-unasked
returns-in-Err-clause-unasked g c = λ still.
    let clean = ap (λ (x : State). is_dirty (read_of (x.cell c.args.pointer))) (c.in-Err.ensures.unchanged still ∙ c.cell_of-found.ensures.set still) in
    let same = ap (λ (b : BookOf g.row.N.Denot g.row.D.Denot). b.device) c.in-Err.ensures.kept ∙ c.cell_of-found.ensures.device in
    ok_map c.send_far-in-Err.result (λ fate spares is none. spares is (clean ∙ none) ∙ same) (c.send_far-in-Err.ensures.unasked still)

pub returns-then-not-goes_near-clause-came : goal.returns-then-not-goes_near-clause-came
returns-then-not-goes_near-clause-came g c = then_came c.cell_of-found.ensures.came c.send_far.ensures.came

pub returns-in-Ok-clause-came : goal.returns-in-Ok-clause-came
returns-in-Ok-clause-came g c = then_came c.cell_of-found.ensures.came c.move_by-answer.ensures.came

pub returns-in-Err-clause-came : goal.returns-in-Err-clause-came
returns-in-Err-clause-came g c = then_came (then_came c.cell_of-found.ensures.came c.move_by-answer.ensures.came) c.send_far-in-Err.ensures.came

-- ---- what is asked of what is called
module _ (g : Over) (c : After-goes_near g) where
  pointer_there : c.args.pointer < CELLS * (g.N.Near.view c.cell_of-found.new.self.near).mutators
  pointer_there = subst (λ (x : State). c.args.pointer < CELLS * x.mutators) (sym c.cell_of-found.ensures.kept) c.requires.pointer

  evac_there : has_evac (read_of ((g.N.Near.view c.cell_of-found.new.self.near).cell c.args.pointer)) ≡ true
  evac_there = evac_found (g.N.Near.view c.args.book.now.near) c.args.pointer c.requires.quiet c.keeps_law.ensures.law c.requires.evac c.cell_of-found.result c.cell_of-found.ensures.found (g.N.Near.view c.cell_of-found.new.self.near) c.cell_of-found.ensures.kept

pub cell_of-found-requires-clause-pointer : goal.cell_of-found-requires-clause-pointer
cell_of-found-requires-clause-pointer g c = c.requires.pointer

pub cell_of-found-requires-clause-known : goal.cell_of-found-requires-clause-known
cell_of-found-requires-clause-known g c = c.requires.cell

pub goes_near-requires : goal.goes_near-requires
goes_near-requires g c = record { layout = some_found ((g.N.Near.view c.args.book.now.near).cell c.args.pointer) c.cell_of-found.result c.cell_of-found.ensures.found (ap is_some c.requires.quiet.near) }

pub send_far-requires-clause-pointer : goal.send_far-requires-clause-pointer
send_far-requires-clause-pointer g c = pointer_there g (goal.at.send_far-requires-clause-pointer g c).After-goes_near

pub send_far-requires-clause-cell : goal.send_far-requires-clause-cell
send_far-requires-clause-cell g c = c.cell_of-found.ensures.now

pub send_far-requires-clause-evac : goal.send_far-requires-clause-evac
send_far-requires-clause-evac g c = evac_there g (goal.at.send_far-requires-clause-evac g c).After-goes_near

pub send_far-requires-clause-alive : goal.send_far-requires-clause-alive
send_far-requires-clause-alive g c =
    ap (λ w. is_dropped (read_of w)) (sym c.cell_of-found.ensures.now)
    ∙ cold_alive (g.N.Near.view c.args.book.now.near) c.args.pointer c.requires.quiet c.keeps_law.ensures.law c.requires.evac c.cell_of-found.result c.cell_of-found.ensures.found (sym c.goes_near.ensures ∙ c.if-not-goes_near.true)

pub move_by-answer-requires-clause-pointer : goal.move_by-answer-requires-clause-pointer
move_by-answer-requires-clause-pointer g c = pointer_there g (goal.at.move_by-answer-requires-clause-pointer g c).After-goes_near

pub move_by-answer-requires-clause-known : goal.move_by-answer-requires-clause-known
move_by-answer-requires-clause-known g c = c.cell_of-found.ensures.now

pub send_far-requires-in-Err-clause-pointer : goal.send_far-requires-in-Err-clause-pointer
send_far-requires-in-Err-clause-pointer g c =
    subst (λ (x : State). c.args.pointer < CELLS * x.mutators) (sym c.in-Err.ensures.seen.leads) (pointer_there g (goal.at.send_far-requires-in-Err-clause-pointer g c).After-goes_near)

pub send_far-requires-in-Err-clause-evac : goal.send_far-requires-in-Err-clause-evac
send_far-requires-in-Err-clause-evac g c =
    evac_still (g.N.Near.view c.cell_of-found.new.self.near) (g.N.Near.view c.move_by-answer.new.self.near) c.args.pointer c.in-Err.ensures.seen (evac_there g (goal.at.send_far-requires-in-Err-clause-evac g c).After-goes_near)

pub send_far-requires-in-Err-clause-alive : goal.send_far-requires-in-Err-clause-alive
send_far-requires-in-Err-clause-alive g c =
    ap (λ w. is_dropped (read_of w)) (cell_then (g.N.Near.view c.cell_of-found.new.self.near) (g.N.Near.view c.move_by-answer.new.self.near) c.args.pointer c.in-Err.ensures.seen) ∙ c.in-Err.ensures.seen.alive

-- ---- one that isn't hot goes far
pub returns-then-not-goes_near-clause-exact : goal.returns-then-not-goes_near-clause-exact
returns-then-not-goes_near-clause-exact g c still =
    let s = g.N.Near.view c.args.book.now.near in
    let cold = ap (λ w. goes_near (read_of w)) (sym (c.cell_of-found.ensures.exact still)) ∙ sym c.goes_near.ensures ∙ c.if-not-goes_near.true in
    ok_map c.send_far.result (λ fate went. cold_exactly s c.args.pointer c.requires.quiet c.keeps_law.ensures.law c.requires.evac (g.N.Near.view c.cell_of-found.new.self.near) (c.cell_of-found.ensures.set still)
    (g.N.Near.view c.send_far.new.book.near) c.args.book.now.order cold c.send_far.new.book.order (c.send_far.ensures.order ∙ c.cell_of-found.ensures.order) fate went) (c.send_far.ensures.exact still)

pub returns-then-not-goes_near-clause-same : goal.returns-then-not-goes_near-clause-same
returns-then-not-goes_near-clause-same g c still = err_map c.send_far.result (λ _ same. same ∙ c.cell_of-found.ensures.set still) (c.send_far.ensures.same still)

pub returns-then-not-goes_near-clause-order : goal.returns-then-not-goes_near-clause-order
returns-then-not-goes_near-clause-order g c = err_any c.send_far.result (λ _. c.send_far.ensures.order ∙ c.cell_of-found.ensures.order)

pub returns-then-not-goes_near-clause-follows : goal.returns-then-not-goes_near-clause-follows
returns-then-not-goes_near-clause-follows g c =
    subst (λ (d : g.row.D.Denot). Follows g.D.Device.contents g.D.Device.honest g.D.Device.faults g.D.Device.fails_at_most (other_than c.args.pointer) (is_failure {A = Fate} c.send_far.result) d c.send_far.new.book.device)
    c.cell_of-found.ensures.device c.send_far.ensures.follows

pub returns-then-not-goes_near-clause-why : goal.returns-then-not-goes_near-clause-why
returns-then-not-goes_near-clause-why g c = c.send_far.ensures.why

-- ---- a hot one moves, or was found dropped
pub returns-in-Ok-clause-exact : goal.returns-in-Ok-clause-exact
returns-in-Ok-clause-exact g c still =
    let s = g.N.Near.view c.args.book.now.near in
    let t = g.N.Near.view c.move_by-answer.new.self.near in
    let done = c.in-Ok.ensures in
    let near = ap (λ w. goes_near (read_of w)) (sym (c.cell_of-found.ensures.exact still)) ∙ sym c.goes_near.ensures ∙ c.if-not-goes_near.false in
    subst (λ fate. LeavesAs s c.args.book.now.order t c.move_by-answer.new.self.order c.args.pointer (s.cell c.args.pointer) fate) (sym c.near_fate.ensures)
    (there_exactly s c.args.pointer c.requires.quiet c.keeps_law.ensures.law c.requires.evac (g.N.Near.view c.cell_of-found.new.self.near) (c.cell_of-found.ensures.set still) t c.args.book.now.order
    g.N.Near.still still near c.move_by-answer.new.self.order c.cell_of-found.new.self.order c.cell_of-found.ensures.order c.move_by-answer.result c.in-Ok.place c.in-Ok.is c.move_by-answer.ensures.asked done.place (done.exact still) done.gone done.order)

pub returns-in-Ok-clause-follows : goal.returns-in-Ok-clause-follows
returns-in-Ok-clause-follows g c =
    subst (λ (d : g.row.D.Denot). Follows g.D.Device.contents g.D.Device.honest g.D.Device.faults g.D.Device.fails_at_most (other_than c.args.pointer) false d c.move_by-answer.new.self.device)
    c.cell_of-found.ensures.device c.move_by-answer.ensures.follows

-- ---- it goes far for want of room
pub returns-in-Err-clause-exact : goal.returns-in-Err-clause-exact
returns-in-Err-clause-exact g c still =
    let near = ap (λ w. goes_near (read_of w)) (sym (c.cell_of-found.ensures.exact still)) ∙ sym c.goes_near.ensures ∙ c.if-not-goes_near.false in
    let missed = c.in-Err.ensures in
    let same = missed.unchanged still in
    let order = c.send_far-in-Err.ensures.order ∙ ap (λ (b : BookOf g.row.N.Denot g.row.D.Denot). b.order) missed.kept ∙ c.cell_of-found.ensures.order in
    ok_map c.send_far-in-Err.result (λ fate went. away_exactly (g.N.Near.view c.args.book.now.near) c.args.pointer c.requires.quiet c.keeps_law.ensures.law c.requires.evac (g.N.Near.view c.cell_of-found.new.self.near) (c.cell_of-found.ensures.set still)
    (g.N.Near.view c.send_far-in-Err.new.book.near) c.args.book.now.order near (no_answer c.move_by-answer.result c.in-Err.field-0 None c.in-Err.is c.move_by-answer.ensures.asked) missed.none
    c.send_far-in-Err.new.book.order order fate (went.0, went.1 ∙ ap (λ (x : State). evicted x c.args.pointer) same)) (c.send_far-in-Err.ensures.exact still)

pub returns-in-Err-clause-same : goal.returns-in-Err-clause-same
returns-in-Err-clause-same g c still = err_map c.send_far-in-Err.result (λ _ same. same ∙ c.in-Err.ensures.unchanged still ∙ c.cell_of-found.ensures.set still) (c.send_far-in-Err.ensures.same still)

pub returns-in-Err-clause-order : goal.returns-in-Err-clause-order
returns-in-Err-clause-order g c =
    err_any c.send_far-in-Err.result (λ _. c.send_far-in-Err.ensures.order ∙ ap (λ (b : BookOf g.row.N.Denot g.row.D.Denot). b.order) c.in-Err.ensures.kept ∙ c.cell_of-found.ensures.order)

pub returns-in-Err-clause-follows : goal.returns-in-Err-clause-follows
returns-in-Err-clause-follows g c =
    subst (λ (d : g.row.D.Denot). Follows g.D.Device.contents g.D.Device.honest g.D.Device.faults g.D.Device.fails_at_most (other_than c.args.pointer) (is_failure {A = Fate} c.send_far-in-Err.result) d c.send_far-in-Err.new.book.device)
    (ap (λ (b : BookOf g.row.N.Denot g.row.D.Denot). b.device) c.in-Err.ensures.kept ∙ c.cell_of-found.ensures.device) c.send_far-in-Err.ensures.follows

pub returns-in-Err-clause-why : goal.returns-in-Err-clause-why
returns-in-Err-clause-why g c = c.send_far-in-Err.ensures.why
