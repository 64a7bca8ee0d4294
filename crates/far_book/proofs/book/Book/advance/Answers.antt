use Rattle.far_book.proofs.book.Book.advance.Goals as goal
use Rattle.std.proofs.Common.{refl, sym, subst, arith}
use Rattle.std.specs.Prelude.{Ok, Err}
use Rattle.far_events.specs.declared.event.Event.TheVariants.{Advance}
use Rattle.far_events.specs.declared.event.Reply.TheVariants.{Epoch, Refused}
use Rattle.far_events.specs.events.Advance.{MayAdvance}
use Rattle.far_events.specs.state.State.{State}
use Rattle.far_hand.specs.Rounds.{MayChoose}
use Rattle.far_book.specs.book.BookOf.{BookOf}
use Rattle.far_book.specs.book.FarSide.{InOrder}
use Rattle.far_book.specs.book.HandedOn.{RaisesEpoch}
use Rattle.far_hand.proofs.Closure.{first_call}
use Rattle.far_book.proofs.region.JobNotes.{idle}
use Rattle.far_book.proofs.region.Rounding.{advanced_keeps}

pub advance-requires : goal.advance-requires
advance-requires g c = record { chosen = subst (λ (b : BookOf g.row.N.Denot g.row.D.Denot). MayChoose (g.N.Near.view b.near) c.args.logs) (sym c.self.view_is) c.requires.chosen }

pub end_round-requires : goal.end_round-requires
end_round-requires g c =
    let s = g.N.Near.view c.self.inside.near in
    let notes = c.self.invariant.0.notes.jobs in
    record { sized = notes.sized; waiting = idle s.round_epoch s.round _ c.self.inside.ledger.jobs notes }

pub invariant_of-self : goal.invariant_of-self
invariant_of-self g c =
    let s = g.N.Near.view c.self.inside.near in
    let chosen = subst (λ (b : BookOf g.row.N.Denot g.row.D.Denot). MayChoose (g.N.Near.view b.near) c.args.logs) (sym c.self.view_is) c.requires.chosen in
    let told = c.in-Ok.ensures in (
      advanced_keeps s c.self.inside.ledger (g.D.Device.contents c.self.inside.device) (g.D.Device.honest c.self.inside.device) c.self.invariant.0 (g.N.Near.view c.advance.new.self) c.args.logs
          c.end_round.new.self (omega (arith, told.epoch.0, told.epoch.1)) chosen c.end_round.ensures told.kept told.forgot,
      c.self.invariant.1,
    )

pub invariant_of-self-in-Err : goal.invariant_of-self-in-Err
invariant_of-self-in-Err g c = (
  subst (λ (u : State). InOrder u c.self.inside.ledger (g.D.Device.contents c.self.inside.device) (g.D.Device.honest c.self.inside.device)) (sym c.in-Err.ensures.unchanged) c.self.invariant.0,
  c.self.invariant.1,
)

-- the book that was opened is the one of the call
pub returns-in-Ok : goal.returns-in-Ok
returns-in-Ok g c =
    let told = c.in-Ok.ensures in
    let chosen = subst (λ (b : BookOf g.row.N.Denot g.row.D.Denot). MayChoose (g.N.Near.view b.near) c.args.logs) (sym c.self.view_is) c.requires.chosen in
    let may : MayAdvance (g.N.Near.view c.self.inside.near) c.args.logs = record { below = omega (arith, told.epoch.0, told.epoch.1); shut = chosen.shut; marked = chosen.marked } in
    let new : BookOf g.row.N.Denot g.row.D.Denot = record { near = c.advance.new.self; device = c.self.inside.device; order = c.self.inside.ledger.order } in
    subst (λ (b : BookOf g.row.N.Denot g.row.D.Denot). RaisesEpoch g.N.Near.still g.N.Near.view g.N.Near.makes b new c.args.logs (Ok c.in-Ok.epoch)) c.self.view_is record {
      came = first_call (Advance c.args.logs) (Epoch c.in-Ok.epoch) told.made;
      made = told.made;
      epoch = told.epoch;
      kept = told.kept;
      forgot = told.forgot;
      set = told.set;
      ran = λ still. record { rounds = refl; legal = may; after = told.set still };
      refused = tt;
      spent = tt;
      unchanged = tt;
      order = refl;
      device = refl;
    }

pub returns-in-Err : goal.returns-in-Err
returns-in-Err g c =
    let told = c.in-Err.ensures in
    let new : BookOf g.row.N.Denot g.row.D.Denot = record { near = c.advance.new.self; device = c.self.inside.device; order = c.self.inside.ledger.order } in
    subst (λ (b : BookOf g.row.N.Denot g.row.D.Denot). RaisesEpoch g.N.Near.still g.N.Near.view g.N.Near.makes b new c.args.logs (Err c.in-Err.why)) c.self.view_is record {
      came = first_call (Advance c.args.logs) Refused told.spent;
      made = tt;
      epoch = tt;
      kept = tt;
      forgot = tt;
      set = λ _. tt;
      ran = λ _. tt;
      refused = told.refused;
      spent = told.spent;
      unchanged = told.unchanged;
      order = refl;
      device = refl;
    }
