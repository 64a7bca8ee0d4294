use Rattle.std.proofs.Common.{◌∙◌, ◌+◌, ◌≤◌, Bool, Option, ap, refl, subst, sym, true}
use Rattle.far_evac.specs.declared.phase.Phase.TheVariants.{Evacuating}
use Rattle.far_device.specs.Following.{Follows, other_than}
use Rattle.far_evac.specs.declared.answers.Progress.{Progress}
use Rattle.far_evac.specs.declared.evac.evacuating.Fate.{Fate}
use Rattle.far_evac.specs.Beside.{dealing_of}
use Rattle.far_evac.specs.BookStands.{stands}
use Rattle.far_evac.specs.Moment.{objects_in, tally_of}
use Rattle.far_word.specs.Pointer.{read_of}
use Rattle.far_evac.proofs.BesideDealt.{counted_one, deals_offered, deals_so, freed_still}
use Rattle.far_evac.proofs.Failures.{failure_alike}
use Rattle.far_evac.proofs.evac.beside.deal_beside.Goals as goal

pub returns-in-Ok-Some-clause-dealt : goal.returns-in-Ok-Some-clause-dealt
returns-in-Ok-Some-clause-dealt g c held =
    let view = g.N.Near.view in
    let h = c.in-Ok-Some.ensures.dealt in record {
      word = h.word;
      found = h.found;
      known = deals_so (stands view c.args.book.now c.args.progress.now held) (record { core = view c.offer_or_leave.new.book.near; order = c.offer_or_leave.new.book.order; phase = Evacuating; collection = held; copying = true })
          (tally_of c.count.new.progress) c.args.pointer c.in-Ok-Some.fate (dealing_of (view c.args.book.now.near) (read_of h.word)) h.core h.sealed (sym c.in-Ok-Some.field-0-is ∙ h.is) refl refl refl (ap tally_of c.count.ensures);
      asks = (h.asks, c.in-Ok-Some.ensures.follows.others);
    }

pub offer_or_leave-requires-clause-pointer : goal.offer_or_leave-requires-clause-pointer
offer_or_leave-requires-clause-pointer g c = c.requires.pointer

pub offer_or_leave-requires-clause-cell : goal.offer_or_leave-requires-clause-cell
offer_or_leave-requires-clause-cell g c = c.requires.cell

pub offer_or_leave-requires-clause-clear : goal.offer_or_leave-requires-clause-clear
offer_or_leave-requires-clause-clear g c = c.requires.clear

pub returns-in-Ok-Some-clause-came : goal.returns-in-Ok-Some-clause-came
returns-in-Ok-Some-clause-came g c = c.offer_or_leave.ensures.came

pub returns-in-Ok-Some-clause-counted : goal.returns-in-Ok-Some-clause-counted
returns-in-Ok-Some-clause-counted g c =
    subst (λ (q : Progress). objects_in (tally_of q) ≤ objects_in (tally_of c.args.progress.now) + 1) (sym c.count.ensures) (counted_one (tally_of c.args.progress.now) c.in-Ok-Some.fate)

pub returns-in-Ok-Some-clause-rest : goal.returns-in-Ok-Some-clause-rest
returns-in-Ok-Some-clause-rest g c =
    (ap (λ (q : Progress). q.freed) c.count.ensures ∙ freed_still (tally_of c.args.progress.now) c.in-Ok-Some.fate, ap (λ (q : Progress). q.done) c.count.ensures)

pub returns-in-Ok-Some-clause-follows : goal.returns-in-Ok-Some-clause-follows
returns-in-Ok-Some-clause-follows g c = c.in-Ok-Some.ensures.follows

-- ---- its copy was offered
pub returns-in-Ok-None-clause-came : goal.returns-in-Ok-None-clause-came
returns-in-Ok-None-clause-came g c = c.offer_or_leave.ensures.came

pub returns-in-Ok-None-clause-dealt : goal.returns-in-Ok-None-clause-dealt
returns-in-Ok-None-clause-dealt g c held =
    let view = g.N.Near.view in
    let h = c.in-Ok-None.ensures.dealt in record {
      word = h.word;
      found = h.found;
      known = deals_offered (stands view c.args.book.now c.args.progress.now held) (record { core = view c.offer_or_leave.new.book.near; order = c.offer_or_leave.new.book.order; phase = Evacuating; collection = held; copying = true })
          c.args.pointer (dealing_of (view c.args.book.now.near) (read_of h.word)) h.core h.sealed (sym c.in-Ok-None.field-0-is ∙ h.is) refl refl refl;
      asks = (h.asks, c.in-Ok-None.ensures.follows.others);
    }

pub returns-in-Ok-None-clause-follows : goal.returns-in-Ok-None-clause-follows
returns-in-Ok-None-clause-follows g c = c.in-Ok-None.ensures.follows

-- ---- it was refused
pub returns-in-Err-clause-came : goal.returns-in-Err-clause-came
returns-in-Err-clause-came g c = c.offer_or_leave.ensures.came

pub returns-in-Err-clause-kept : goal.returns-in-Err-clause-kept
returns-in-Err-clause-kept g c = c.in-Err.ensures.kept

pub returns-in-Err-clause-uncounted : goal.returns-in-Err-clause-uncounted
returns-in-Err-clause-uncounted g c = (refl, c.in-Err.ensures.order)

pub returns-in-Err-clause-refused : goal.returns-in-Err-clause-refused
returns-in-Err-clause-refused g c = c.in-Err.ensures.refused

pub returns-in-Err-clause-follows : goal.returns-in-Err-clause-follows
returns-in-Err-clause-follows g c =
    subst (λ (fault : Bool). Follows g.D.Device.contents g.D.Device.honest g.D.Device.faults g.D.Device.fails_at_most (other_than c.args.pointer) fault c.args.book.now.device c.offer_or_leave.new.book.device)
    (failure_alike (Option Fate) (Unit {0}) c.in-Err.why c.in-Err.ensures.why) c.in-Err.ensures.follows

pub returns-in-Err-clause-why : goal.returns-in-Err-clause-why
returns-in-Err-clause-why g c = c.in-Err.ensures.why
