use Rattle.far_book.proofs.book.Book.send.Goals as goal
use Rattle.std.proofs.Common.{◌∙◌, ◌<◌, ◌*◌, ℕ, Bool, ap, arith, rules, sym, subst}
use Rattle.std.specs.Global.{Vec}
use Rattle.std.specs.Vec.{vec_capacity}
use Rattle.far_word.specs.declared.sizes.TheConstants.{CELLS}
use Rattle.far_word.specs.Bytes.{bytes_of}
use Rattle.far_word.specs.Sizes.{words_for}
use Rattle.far_events.specs.events.Copies.{data_at}
use Rattle.far_word.specs.Pointer.{read_of}
use Rattle.far_events.specs.state.Law.{is_dirty}
use Rattle.far_events.specs.state.State.{State}
use Rattle.far_device.specs.Following.{Follows, other_than}
use Rattle.far_book.specs.book.Asking.{answer_of}
use Rattle.far_book.specs.book.BookOf.{BookOf}
use Rattle.far_book.specs.book.Dealing.{Leaves}
use Rattle.far_book.specs.book.Evicting.{IsQuietIn}
use Rattle.far_book.proofs.region.Handed.{since_book}
use Rattle.far_book.proofs.region.Evictions.{fault_told, layout, learned_stored, quiet_object, sent_order}
use Rattle.far_book.proofs.region.Learning.{learned_leaves}

pub reach-requires-clause-most : goal.reach-requires-clause-most
reach-requires-clause-most g c =
    let s = g.N.Near.view c.self.inside.near in
    let same = ap (λ (b : BookOf g.row.N.Denot g.row.D.Denot). g.N.Near.view b.near) c.self.view_is in
    let near : IsQuietIn s c.args.pointer c.args.len c.args.ds c.args.place = subst (λ (t : State). IsQuietIn t c.args.pointer c.args.len c.args.ds c.args.place) (sym same) c.requires.near in
    omega (arith, layout s c.self.invariant.0.notes.law c.args.pointer c.args.len c.args.ds c.args.place near)

pub reach-requires-clause-room : goal.reach-requires-clause-room
reach-requires-clause-room g c = omega (arith, c.self.invariant.1, ap (λ (b : Vec ℕ). vec_capacity b) c.replace-row.ensures.value)

pub read_object-requires-clause-object : goal.read_object-requires-clause-object
read_object-requires-clause-object g c =
    let s = g.N.Near.view c.self.inside.near in
    let same = ap (λ (b : BookOf g.row.N.Denot g.row.D.Denot). g.N.Near.view b.near) c.self.view_is in
    let pointer : c.args.pointer < CELLS * s.mutators = subst (λ (t : State). c.args.pointer < CELLS * t.mutators) (sym same) c.requires.pointer in
    let near : IsQuietIn s c.args.pointer c.args.len c.args.ds c.args.place = subst (λ (t : State). IsQuietIn t c.args.pointer c.args.len c.args.ds c.args.place) (sym same) c.requires.near in
    quiet_object s c.self.invariant.0.notes.law c.args.pointer c.args.len c.args.ds c.args.place near pointer

pub invariant_of-self : goal.invariant_of-self
invariant_of-self g c =
    let s = g.N.Near.view c.self.inside.near in
    let t = g.N.Near.view c.read_object.new.near in
    let same = ap (λ (b : BookOf g.row.N.Denot g.row.D.Denot). g.N.Near.view b.near) c.self.view_is in
    let pointer : c.args.pointer < CELLS * s.mutators = subst (λ (t : State). c.args.pointer < CELLS * t.mutators) (sym same) c.requires.pointer in
    let near : IsQuietIn s c.args.pointer c.args.len c.args.ds c.args.place = subst (λ (t : State). IsQuietIn t c.args.pointer c.args.len c.args.ds c.args.place) (sym same) c.requires.near in
    let object = quiet_object s c.self.invariant.0.notes.law c.args.pointer c.args.len c.args.ds c.args.place near pointer in
    let leaves = learned_leaves s t c.args.place (words_for c.args.len) c.read_object.ensures.kept object.bare c.read_object.ensures.learned in
    let law = g.met.D.Device.write_follows _ _ _ _ _ c.write-written.ensures.called in (
      sent_order s t c.self.inside.ledger (g.D.Device.contents c.self.inside.device) (g.D.Device.contents c.write-written.new.self) (g.D.Device.honest c.self.inside.device) (g.D.Device.honest c.write-written.new.self)
          c.self.invariant.0 leaves c.args.pointer c.args.len c.args.ds c.args.place near (sym (ap is_dirty near.near) ∙ ap (λ (t : State). is_dirty (read_of (t.cell c.args.pointer))) same ∙ c.requires.dirty) law.others law.honest,
      c.reach.ensures.room,
    )

pub returns : goal.returns
returns g c =
    let s = g.N.Near.view c.self.inside.near in
    let t = g.N.Near.view c.read_object.new.near in
    let same = ap (λ (b : BookOf g.row.N.Denot g.row.D.Denot). g.N.Near.view b.near) c.self.view_is in
    let pointer : c.args.pointer < CELLS * s.mutators = subst (λ (t : State). c.args.pointer < CELLS * t.mutators) (sym same) c.requires.pointer in
    let near : IsQuietIn s c.args.pointer c.args.len c.args.ds c.args.place = subst (λ (t : State). IsQuietIn t c.args.pointer c.args.len c.args.ds c.args.place) (sym same) c.requires.near in
    let object = quiet_object s c.self.invariant.0.notes.law c.args.pointer c.args.len c.args.ds c.args.place near pointer in
    let called : g.D.Device.writes c.args.self.now.device c.args.pointer (bytes_of (data_at t.word c.args.place) c.args.len) (answer_of c.match-written.result) c.write-written.new.self = search rules in
    record {
      kept = subst (λ (u : State). Leaves u t) same (learned_leaves s t c.args.place (words_for c.args.len) c.read_object.ensures.kept object.bare c.read_object.ensures.learned);
      exact = λ still. c.read_object.ensures.exact still ∙ same;
      reads = since_book c.self.view_is c.read_object.ensures.reads;
      words = learned_stored s c.self.invariant.0.notes.law c.args.pointer c.args.len c.args.ds c.args.place near t.word c.read_object.ensures.learned;
      held = search rules;
      refused = search rules;
      called = called;
      order = ap (λ (b : BookOf g.row.N.Denot g.row.D.Denot). b.order) c.self.view_is;
      follows = subst (λ (fails : Bool). Follows g.D.Device.contents g.D.Device.honest g.D.Device.faults g.D.Device.fails_at_most (other_than c.args.pointer) fails c.args.self.now.device c.write-written.new.self)
          (fault_told c.match-written.result) (g.met.D.Device.write_follows _ _ _ _ _ called);
    }
