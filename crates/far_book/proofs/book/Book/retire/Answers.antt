use Rattle.far_book.proofs.book.Book.retire.Goals as goal
use Rattle.std.proofs.Common.{◌≡◌, ◌∙◌, ◌<◌, ◌*◌, ap, sym, subst, false, true}
use Rattle.far_word.specs.declared.sizes.TheConstants.{CELLS}
use Rattle.far_word.specs.Pointer.{read_of}
use Rattle.far_events.specs.events.Naming.{is_dropped}
use Rattle.far_events.specs.state.State.{State}
use Rattle.far_device.specs.Following.{Follows, other_than}
use Rattle.far_hand.specs.Known.{Forgets}
use Rattle.far_book.specs.book.BookOf.{BookOf}
use Rattle.far_book.specs.book.Effects.{retired}
use Rattle.far_book.specs.book.Ledger.{Notes, MayRetire}
use Rattle.far_book.specs.book.Own.{own_part}
use Rattle.far_book.proofs.region.Handed.{since_book}
use Rattle.far_book.proofs.region.InOrders.{retired_far, retired_honest}
use Rattle.far_book.proofs.region.Owns.{own_retired}

pub invariant_of-self : goal.invariant_of-self
invariant_of-self g c =
    let same = ap (λ (b : BookOf g.row.N.Denot g.row.D.Denot). g.N.Near.view b.near) c.self.view_is in
    let dropped : is_dropped (read_of ((g.N.Near.view c.self.inside.near).cell c.args.pointer)) ≡ true = subst (λ (s : State). is_dropped (read_of (s.cell c.args.pointer)) ≡ true) (sym same) c.requires.dropped in
    let may : MayRetire (own_part (g.N.Near.view c.self.inside.near)) c.args.pointer c.free_cell-was.result = record {
      pointer = subst (λ (s : State). c.args.pointer < CELLS * s.mutators) (sym same) c.requires.pointer;
      dropped = dropped;
      is = c.free_cell-was.ensures.was;
    } in
    let own = own_retired (g.N.Near.view c.self.inside.near) (g.N.Near.view c.free_cell-was.new.near) c.args.pointer dropped c.free_cell-was.ensures.kept c.free_cell-was.ensures.forgot in
    let law = g.met.D.Device.forget_follows _ _ _ c.forget.ensures.called in (
      record {
        notes = subst (λ (s : State). Notes s c.retire.new.self) (sym own) (c.retire.ensures.notes (own_part (g.N.Near.view c.self.inside.near)) c.self.invariant.0.notes may);
        far = retired_far (g.N.Near.view c.self.inside.near) (g.N.Near.view c.free_cell-was.new.near) c.args.pointer (g.D.Device.contents c.self.inside.device) (g.D.Device.contents c.forget.new.self)
            own (retired_honest (g.N.Near.view c.self.inside.near) (g.N.Near.view c.free_cell-was.new.near) c.args.pointer (g.D.Device.contents c.self.inside.device) (g.D.Device.contents c.forget.new.self)
            dropped c.free_cell-was.ensures.kept) c.self.invariant.0.far law.others;
        honest = λ h. law.honest ∙ c.self.invariant.0.honest (sym (retired_honest (g.N.Near.view c.self.inside.near) (g.N.Near.view c.free_cell-was.new.near) c.args.pointer (g.D.Device.contents c.self.inside.device) (g.D.Device.contents c.forget.new.self)
            dropped c.free_cell-was.ensures.kept) ∙ h);
      },
      c.self.invariant.1,
    )

pub returns : goal.returns
returns g c =
    let same = ap (λ (b : BookOf g.row.N.Denot g.row.D.Denot). g.N.Near.view b.near) c.self.view_is in
    let device = ap (λ (b : BookOf g.row.N.Denot g.row.D.Denot). b.device) c.self.view_is in
    let freed = g.N.Near.view c.free_cell-was.new.near in
    record {
      came = since_book c.self.view_is c.free_cell-was.ensures.came;
      kept = c.free_cell-was.ensures.kept ∙ ap (λ (s : State). record (retired s c.args.pointer) { word = freed.word }) same;
      forgot = subst (λ (s : State). Forgets s freed) same c.free_cell-was.ensures.forgot;
      exact = λ still. c.free_cell-was.ensures.exact still ∙ ap (λ (s : State). retired s c.args.pointer) same;
      order = c.retire.ensures.order ∙ ap (λ (b : BookOf g.row.N.Denot g.row.D.Denot). b.order) c.self.view_is;
      called = subst (λ (d : g.row.D.Denot). g.D.Device.lets_go d c.args.pointer c.forget.new.self) device c.forget.ensures.called;
      gone = c.forget.ensures.gone;
      follows = subst (λ (d : g.row.D.Denot). Follows g.D.Device.contents g.D.Device.honest g.D.Device.faults g.D.Device.fails_at_most (other_than c.args.pointer) false d c.forget.new.self) device
          (g.met.D.Device.forget_follows _ _ _ c.forget.ensures.called);
      ran = λ still. record {
        pointer = c.requires.pointer;
        dropped = c.requires.dropped;
        after = c.free_cell-was.ensures.exact still ∙ ap (λ (s : State). retired s c.args.pointer) same;
      };
    }
