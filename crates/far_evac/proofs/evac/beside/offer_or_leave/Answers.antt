use Rattle.std.proofs.Common.{◌≡◌, ◌∙◌, ◌*◌, ◌<◌, ℕ, Bool, Option, true, false, cond, is_some, ap, refl, subst, sym}
use Rattle.far_word.specs.declared.sizes.TheConstants.{CELLS}
use Rattle.far_word.specs.Pointer.{read_of}
use Rattle.far_device.specs.Following.{Follows, other_than}
use Rattle.far_device.proofs.Following.{follows_itself}
use Rattle.far_events.specs.events.Naming.{is_dropped}
use Rattle.far_events.specs.state.State.{State}
use Rattle.far_hand.specs.Finds.{Finds}
use Rattle.far_hand.proofs.Closure.{then_came}
use Rattle.far_hand.proofs.Finding.{finds_is}
use Rattle.far_book.specs.book.Dealing.{goal, is_failure}
use Rattle.far_book.specs.book.Fetching.{order_fetched}
use Rattle.far_book.specs.book.Offering.{OffersCopy}
use Rattle.far_book.specs.book.Renaming.{seen}
use Rattle.far_book.proofs.region.Renamings.{same_seen}
use Rattle.far_evac.specs.declared.evac.evacuating.Fate.{Fate}
use Rattle.far_evac.specs.declared.evac.beside.Warmth.TheVariants.{Cold, Dropped, Hot}
use Rattle.far_evac.specs.BookStands.{warmth_of}
use Rattle.far_evac.specs.Leaving.{LeavesBy}
use Rattle.far_evac.proofs.Asking.{asked_before, finds_seen, refused_before}
use Rattle.far_evac.proofs.BesideDealt.{cold_beside, dropped_beside, evac_clear, hot_beside, known_err, known_fails, known_ok, offers_beside, ok_two, quiet_clear}
use Rattle.far_evac.proofs.Hands.{knows_more}
use Rattle.far_evac.proofs.SendingOff.{err_any, err_map, evac_found, found_here, quiet_here}
use Rattle.far_evac.proofs.evac.beside.offer_or_leave.Goals as goal

-- what a cell is known to have may be found there, and then nothing has changed
module _ (s : State) (p cell : ℕ) (is : cell ≡ s.cell p) where
  finds : Finds (s.cell p) cell
  finds = finds_is (s.cell p) cell is

  same : s ≡ seen s p cell
  same = sym (same_seen s p cell 0 is)

-- a cold object isn't dropped
not_dropped : (dropped hot : Bool) → cond dropped Dropped (cond hot Hot Cold) ≡ Cold → dropped ≡ false
not_dropped false hot e = refl
not_dropped true hot e = absurd cc

pub warmth_in-requires : goal.warmth_in-requires
warmth_in-requires g c = record { layout = ap is_some (ap read_of c.requires.cell ∙ c.requires.clear.4) }

pub send_far-requires-clause-alive : goal.send_far-requires-clause-alive
send_far-requires-clause-alive g c =
    let m = c.requires.clear.3 in
    let near = c.requires.clear.4 in
    ap is_dropped near ∙ not_dropped m.dropped m.hot (sym (ap warmth_of (ap read_of c.requires.cell ∙ near)) ∙ sym c.warmth_in.ensures ∙ c.in-Cold.is)

pub send_far-requires-clause-quiet : goal.send_far-requires-clause-quiet
send_far-requires-clause-quiet g c = quiet_clear (g.N.Near.view c.args.book.now.near) c.args.pointer c.requires.clear

pub send_far-requires-clause-evac : goal.send_far-requires-clause-evac
send_far-requires-clause-evac g c = evac_clear (g.N.Near.view c.args.book.now.near) c.args.pointer c.requires.clear

pub send_off-requires-clause-quiet : goal.send_off-requires-clause-quiet
send_off-requires-clause-quiet g c = quiet_clear (g.N.Near.view c.args.book.now.near) c.args.pointer c.requires.clear

pub send_off-requires-clause-evac : goal.send_off-requires-clause-evac
send_off-requires-clause-evac g c = evac_clear (g.N.Near.view c.args.book.now.near) c.args.pointer c.requires.clear

pub send_off-requires-in-Hot-clause-quiet : goal.send_off-requires-in-Hot-clause-quiet
send_off-requires-in-Hot-clause-quiet g c =
    let s = g.N.Near.view c.args.book.now.near in
    let p = c.args.pointer in
    let look = c.offer.ensures.looked c.if-offer.false in
    quiet_here s p (quiet_clear s p c.requires.clear) c.keeps_law.ensures.law (evac_clear s p c.requires.clear) look.word look.found (g.N.Near.view c.offer.new.self.near) look.is

pub send_off-requires-in-Hot-clause-evac : goal.send_off-requires-in-Hot-clause-evac
send_off-requires-in-Hot-clause-evac g c =
    let s = g.N.Near.view c.args.book.now.near in
    let p = c.args.pointer in
    let look = c.offer.ensures.looked c.if-offer.false in
    evac_found s p (quiet_clear s p c.requires.clear) c.keeps_law.ensures.law (evac_clear s p c.requires.clear) look.word look.found (g.N.Near.view c.offer.new.self.near) look.is

pub returns-then-offer-clause-dealt : goal.returns-then-offer-clause-dealt
returns-then-offer-clause-dealt g c =
    let s = g.N.Near.view c.args.book.now.near in
    let t = g.N.Near.view c.offer.new.self.near in
    let p = c.args.pointer in
    let here = same s p c.args.cell c.requires.cell in
    offers_beside s p (quiet_clear s p c.requires.clear) c.keeps_law.ensures.law (evac_clear s p c.requires.clear) c.args.cell (finds s p c.args.cell c.requires.cell) (sym c.warmth_in.ensures ∙ c.in-Hot.is) t
    (subst (λ (x : State). OffersCopy x t p) here (c.offer.ensures.offers c.if-offer.true)) c.keeps_law-then-offer.ensures.law
    g.row.D.Denot g.D.Device.writes g.D.Device.lets_go c.args.book.now.order c.offer.new.self.order
    (c.offer.ensures.order c.if-offer.true ∙ ap (λ (x : State). order_fetched x c.args.book.now.order (goal x p)) here)
    c.args.book.now.device c.offer.new.self.device c.offer.ensures.device

pub returns-in-Cold-clause-dealt : goal.returns-in-Cold-clause-dealt
returns-in-Cold-clause-dealt g c =
    let s = g.N.Near.view c.args.book.now.near in
    let t = g.N.Near.view c.send_far.new.book.near in
    let p = c.args.pointer in
    known_ok _ c.send_far.result c.known.result c.known.ensures (ok_two c.send_far.result
    (λ fate goes asks. cold_beside s p (quiet_clear s p c.requires.clear) c.keeps_law.ensures.law (evac_clear s p c.requires.clear) c.args.cell (finds s p c.args.cell c.requires.cell) g.row.D.Denot g.D.Device.writes g.D.Device.lets_go
    s (same s p c.args.cell c.requires.cell) t c.args.book.now.order c.send_far.new.book.order fate c.args.book.now.device c.send_far.new.book.device asks
    (sym c.warmth_in.ensures ∙ c.in-Cold.is) c.send_far.ensures.order goes)
    c.send_far.ensures.goes c.send_far.ensures.asked)

pub returns-in-Cold-clause-kept : goal.returns-in-Cold-clause-kept
returns-in-Cold-clause-kept g c = known_err _ c.send_far.result c.known.result c.known.ensures c.send_far.ensures.kept

pub returns-in-Dropped-clause-dealt : goal.returns-in-Dropped-clause-dealt
returns-in-Dropped-clause-dealt g c =
    let s = g.N.Near.view c.args.book.now.near in
    let t = g.N.Near.view c.send_off.new.book.near in
    let p = c.args.pointer in
    known_ok _ c.send_off.result c.known-in-Dropped.result c.known-in-Dropped.ensures (ok_two c.send_off.result
    (λ fate leaves asks. dropped_beside s p (quiet_clear s p c.requires.clear) c.keeps_law.ensures.law (evac_clear s p c.requires.clear) c.args.cell (finds s p c.args.cell c.requires.cell) g.row.D.Denot g.D.Device.writes g.D.Device.lets_go
    s (same s p c.args.cell c.requires.cell) t c.args.book.now.order c.send_off.new.book.order fate c.args.book.now.device c.send_off.new.book.device asks
    (sym c.warmth_in.ensures ∙ c.in-Dropped.is) leaves)
    c.send_off.ensures.leaves c.send_off.ensures.asked)

pub returns-in-Dropped-clause-kept : goal.returns-in-Dropped-clause-kept
returns-in-Dropped-clause-kept g c = known_err _ c.send_off.result c.known-in-Dropped.result c.known-in-Dropped.ensures c.send_off.ensures.kept

pub returns-else-offer-clause-came : goal.returns-else-offer-clause-came
returns-else-offer-clause-came g c = then_came c.offer.ensures.came c.send_off-in-Hot.ensures.came

pub returns-else-offer-clause-dealt : goal.returns-else-offer-clause-dealt
returns-else-offer-clause-dealt g c =
    let s = g.N.Near.view c.args.book.now.near in
    let v = g.N.Near.view c.offer.new.self.near in
    let t = g.N.Near.view c.send_off-in-Hot.new.book.near in
    let p = c.args.pointer in
    let look = c.offer.ensures.looked c.if-offer.false in
    known_ok _ c.send_off-in-Hot.result c.known-in-Hot.result c.known-in-Hot.ensures (ok_two c.send_off-in-Hot.result
    (λ fate leaves asks. hot_beside s p (quiet_clear s p c.requires.clear) c.keeps_law.ensures.law (evac_clear s p c.requires.clear) c.args.cell (finds s p c.args.cell c.requires.cell) g.row.D.Denot g.D.Device.writes g.D.Device.lets_go
    s (same s p c.args.cell c.requires.cell) t c.args.book.now.order c.send_off-in-Hot.new.book.order fate c.args.book.now.device c.send_off-in-Hot.new.book.device
    (asked_before g.row.D.Denot g.D.Device.writes g.D.Device.lets_go s v p (finds_seen s v p look.word look.found look.is) (ap (λ (x : State). x.word) look.is)
    c.args.book.now.device c.offer.new.self.device c.offer.ensures.device fate c.send_off-in-Hot.new.book.device asks)
    (c.offer.ensures.none.0 c.if-offer.false) v look (subst (λ order. LeavesBy v order t c.send_off-in-Hot.new.book.order p fate) (c.offer.ensures.shut c.if-offer.false) leaves))
    c.send_off-in-Hot.ensures.leaves c.send_off-in-Hot.ensures.asked)

pub returns-else-offer-clause-kept : goal.returns-else-offer-clause-kept
returns-else-offer-clause-kept g c =
    let s = g.N.Near.view c.args.book.now.near in
    let v = g.N.Near.view c.offer.new.self.near in
    let p = c.args.pointer in
    let look = c.offer.ensures.looked c.if-offer.false in
    known_err _ c.send_off-in-Hot.result c.known-in-Hot.result c.known-in-Hot.ensures
    (err_map c.send_off-in-Hot.result (λ _ kept. knows_more s v (g.N.Near.view c.send_off-in-Hot.new.book.near) (found_here s v p look.word look.found look.is) kept) c.send_off-in-Hot.ensures.kept)

-- ---- what is asked of what is called
pub send_far-requires-clause-pointer : goal.send_far-requires-clause-pointer
send_far-requires-clause-pointer g c = c.requires.pointer

pub send_far-requires-clause-cell : goal.send_far-requires-clause-cell
send_far-requires-clause-cell g c = c.requires.cell

pub send_off-requires-clause-pointer : goal.send_off-requires-clause-pointer
send_off-requires-clause-pointer g c = c.requires.pointer

pub send_off-requires-clause-cell : goal.send_off-requires-clause-cell
send_off-requires-clause-cell g c = c.requires.cell

pub offer-requires-clause-pointer : goal.offer-requires-clause-pointer
offer-requires-clause-pointer g c = c.requires.pointer

pub offer-requires-clause-clear : goal.offer-requires-clause-clear
offer-requires-clause-clear g c = c.requires.clear

pub send_off-requires-in-Hot-clause-pointer : goal.send_off-requires-in-Hot-clause-pointer
send_off-requires-in-Hot-clause-pointer g c = subst (λ (x : State). c.args.pointer < CELLS * x.mutators) (sym (c.offer.ensures.looked c.if-offer.false).is) c.requires.pointer

-- ---- a copy is offered
pub returns-then-offer-clause-came : goal.returns-then-offer-clause-came
returns-then-offer-clause-came g c = c.offer.ensures.came

pub returns-then-offer-clause-follows : goal.returns-then-offer-clause-follows
returns-then-offer-clause-follows g c =
    subst (Follows g.D.Device.contents g.D.Device.honest g.D.Device.faults g.D.Device.fails_at_most (other_than c.args.pointer) false c.args.book.now.device) (sym c.offer.ensures.device)
    (follows_itself g.D.Device.contents g.D.Device.honest g.D.Device.faults g.D.Device.fails_at_most (other_than c.args.pointer) c.args.book.now.device)

-- ---- one that is cold
pub returns-in-Cold-clause-came : goal.returns-in-Cold-clause-came
returns-in-Cold-clause-came g c = c.send_far.ensures.came

pub returns-in-Cold-clause-order : goal.returns-in-Cold-clause-order
returns-in-Cold-clause-order g c = known_err _ c.send_far.result c.known.result c.known.ensures (err_any c.send_far.result (λ _. c.send_far.ensures.order))

pub returns-in-Cold-clause-refused : goal.returns-in-Cold-clause-refused
returns-in-Cold-clause-refused g c = known_err _ c.send_far.result c.known.result c.known.ensures c.send_far.ensures.refused

pub returns-in-Cold-clause-follows : goal.returns-in-Cold-clause-follows
returns-in-Cold-clause-follows g c =
    subst (λ (fault : Bool). Follows g.D.Device.contents g.D.Device.honest g.D.Device.faults g.D.Device.fails_at_most (other_than c.args.pointer) fault c.args.book.now.device c.send_far.new.book.device)
    (sym (ap (is_failure {A = Option Fate}) c.known.ensures ∙ known_fails c.send_far.result c.send_far.ensures.why)) c.send_far.ensures.follows

pub returns-in-Cold-clause-why : goal.returns-in-Cold-clause-why
returns-in-Cold-clause-why g c = known_err _ c.send_far.result c.known.result c.known.ensures c.send_far.ensures.why

-- ---- one that its cell says is dropped
pub returns-in-Dropped-clause-came : goal.returns-in-Dropped-clause-came
returns-in-Dropped-clause-came g c = c.send_off.ensures.came

pub returns-in-Dropped-clause-order : goal.returns-in-Dropped-clause-order
returns-in-Dropped-clause-order g c = known_err _ c.send_off.result c.known-in-Dropped.result c.known-in-Dropped.ensures c.send_off.ensures.order

pub returns-in-Dropped-clause-refused : goal.returns-in-Dropped-clause-refused
returns-in-Dropped-clause-refused g c = known_err _ c.send_off.result c.known-in-Dropped.result c.known-in-Dropped.ensures c.send_off.ensures.refused

pub returns-in-Dropped-clause-follows : goal.returns-in-Dropped-clause-follows
returns-in-Dropped-clause-follows g c =
    subst (λ (fault : Bool). Follows g.D.Device.contents g.D.Device.honest g.D.Device.faults g.D.Device.fails_at_most (other_than c.args.pointer) fault c.args.book.now.device c.send_off.new.book.device)
    (sym (ap (is_failure {A = Option Fate}) c.known-in-Dropped.ensures ∙ known_fails c.send_off.result c.send_off.ensures.why)) c.send_off.ensures.follows

pub returns-in-Dropped-clause-why : goal.returns-in-Dropped-clause-why
returns-in-Dropped-clause-why g c = known_err _ c.send_off.result c.known-in-Dropped.result c.known-in-Dropped.ensures c.send_off.ensures.why

-- ---- one that is hot, and can't be offered
pub returns-else-offer-clause-order : goal.returns-else-offer-clause-order
returns-else-offer-clause-order g c =
    known_err _ c.send_off-in-Hot.result c.known-in-Hot.result c.known-in-Hot.ensures (err_map c.send_off-in-Hot.result (λ _ order. order ∙ c.offer.ensures.shut c.if-offer.false) c.send_off-in-Hot.ensures.order)

pub returns-else-offer-clause-refused : goal.returns-else-offer-clause-refused
returns-else-offer-clause-refused g c =
    let s = g.N.Near.view c.args.book.now.near in
    let v = g.N.Near.view c.offer.new.self.near in
    let p = c.args.pointer in
    let look = c.offer.ensures.looked c.if-offer.false in
    known_err _ c.send_off-in-Hot.result c.known-in-Hot.result c.known-in-Hot.ensures
    (err_map c.send_off-in-Hot.result (λ why asks. refused_before g.row.D.Denot g.D.Device.writes g.D.Device.lets_go s v p (finds_seen s v p look.word look.found look.is) (ap (λ (x : State). x.word) look.is)
    c.args.book.now.device c.offer.new.self.device c.offer.ensures.device why c.send_off-in-Hot.new.book.device asks) c.send_off-in-Hot.ensures.refused)

pub returns-else-offer-clause-follows : goal.returns-else-offer-clause-follows
returns-else-offer-clause-follows g c =
    subst (λ (fault : Bool). Follows g.D.Device.contents g.D.Device.honest g.D.Device.faults g.D.Device.fails_at_most (other_than c.args.pointer) fault c.args.book.now.device c.send_off-in-Hot.new.book.device)
    (sym (ap (is_failure {A = Option Fate}) c.known-in-Hot.ensures ∙ known_fails c.send_off-in-Hot.result c.send_off-in-Hot.ensures.why))
    (subst (λ (d : g.row.D.Denot). Follows g.D.Device.contents g.D.Device.honest g.D.Device.faults g.D.Device.fails_at_most (other_than c.args.pointer) (is_failure {A = Fate} c.send_off-in-Hot.result) d c.send_off-in-Hot.new.book.device)
    c.offer.ensures.device c.send_off-in-Hot.ensures.follows)

pub returns-else-offer-clause-why : goal.returns-else-offer-clause-why
returns-else-offer-clause-why g c = known_err _ c.send_off-in-Hot.result c.known-in-Hot.result c.known-in-Hot.ensures c.send_off-in-Hot.ensures.why
