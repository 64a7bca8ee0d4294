use Rattle.std.proofs.Common.{refl}
use Rattle.far_seen.proofs.Longs.{keeps_made, short_put, stored_before, stored_kept, undone_so}
use Rattle.far_seen.proofs.place.place_short.Goals as goal

pub returns-then-number-lt-LONG-clause-stored : goal.returns-then-number-lt-LONG-clause-stored
returns-then-number-lt-LONG-clause-stored g c =
    let old = g.O.Objects.far c.args.store.now.worker in
    let new = g.O.Objects.far c.alloc.new.self in
    stored_kept old new c.args.store.now.longs.items c.requires.stored (keeps_made c.in-Ok.number c.args.line.now old new c.in-Ok.ensures.made)

pub returns-then-number-lt-LONG-clause-put : goal.returns-then-number-lt-LONG-clause-put
returns-then-number-lt-LONG-clause-put g c =
    short_put (g.O.Objects.far c.args.store.now.worker) (g.O.Objects.far c.alloc.new.self) c.args.store.now.longs.items c.in-Ok.number c.args.line.now
    c.requires.stored c.in-Ok.ensures.made c.if-number-lt-LONG.true

pub returns-clause-stored : goal.returns-clause-stored
returns-clause-stored g c =
    let old = g.O.Objects.far c.args.store.now.worker in
    let new = g.O.Objects.far c.drop_object.new.self in
    let longs = c.args.store.now.longs.items in
    stored_before old new longs longs c.requires.stored
    (undone_so c.in-Ok.number c.args.line.now old (g.O.Objects.far c.alloc.new.self) new c.drop_object.result c.in-Ok.ensures.made c.drop_object.ensures.dropped c.drop_object.ensures.refused) refl

pub returns-clause-refused : goal.returns-clause-refused
returns-clause-refused g c =
    undone_so c.in-Ok.number c.args.line.now (g.O.Objects.far c.args.store.now.worker) (g.O.Objects.far c.alloc.new.self) (g.O.Objects.far c.drop_object.new.self)
    c.drop_object.result c.in-Ok.ensures.made c.drop_object.ensures.dropped c.drop_object.ensures.refused
