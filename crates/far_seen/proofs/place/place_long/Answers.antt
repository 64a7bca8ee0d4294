use Rattle.std.proofs.Common.{◌≡◌, ◌+◌, ◌∷◌, ◌++◌, [], ap, sym, ◌∙◌, subst, arith, length}
use Rattle.far_seen.specs.Stored.{Put, Stored, with_longs}
use Rattle.far_seen.proofs.Longs.{long_put, long_stored, stored_before}
use Rattle.far_seen.proofs.place.place_long.Goals as goal

pub returns-in-Ok-put-clause-stored : goal.returns-in-Ok-put-clause-stored
returns-in-Ok-put-clause-stored g c =
    let old = g.O.Objects.far c.args.store.now.worker in
    let new = g.O.Objects.far c.put.new.worker in
    let longs = c.args.store.now.longs.items in
    subst (Stored new) (sym (c.push_reserved.ensures.items ∙ ap (λ ls. ls ++ c.in-Ok-put.large ∷ []) c.reserve.ensures.items))
    (long_stored old new longs c.in-Ok-put.large c.args.line.now c.requires.stored c.in-Ok-put.ensures.made c.in-Ok-put.ensures.count)

pub returns-in-Ok-put-clause-put : goal.returns-in-Ok-put-clause-put
returns-in-Ok-put-clause-put g c =
    let old = g.O.Objects.far c.args.store.now.worker in
    let new = g.O.Objects.far c.put.new.worker in
    let longs = c.args.store.now.longs.items in
    let count : c.len-in-Ok-put.result ≡ length longs =
    omega (arith, c.len-in-Ok-put.ensures, c.reserve.ensures.len, c.args.store.now.longs.ok.0) in
    subst (λ ls. Put (2147483648 + c.len-in-Ok-put.result) c.args.line.now (with_longs old longs) (with_longs new ls))
    (sym (c.push_reserved.ensures.items ∙ ap (λ ls. ls ++ c.in-Ok-put.large ∷ []) c.reserve.ensures.items))
    (long_put old new longs c.in-Ok-put.large c.args.line.now c.requires.stored c.in-Ok-put.ensures.made c.in-Ok-put.ensures.count
    (2147483648 + c.len-in-Ok-put.result) (ap (λ n. 2147483648 + n) count))

pub returns-in-Err-clause-stored : goal.returns-in-Err-clause-stored
returns-in-Err-clause-stored g c =
    stored_before (g.O.Objects.far c.args.store.now.worker) (g.O.Objects.far c.put.new.worker) c.args.store.now.longs.items c.reserve.new.self.items
    c.requires.stored c.in-Err.ensures.refused c.reserve.ensures.items
