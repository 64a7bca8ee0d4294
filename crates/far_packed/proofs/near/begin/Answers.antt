use Rattle.std.proofs.Common.{List, ℕ, sym, subst, set}
use Rattle.far_packed.specs.declared.near.Place.TheVariants.{Open, Sealed}
use Rattle.far_packed.specs.Blocks.{Begins, table}
use Rattle.far_packed.proofs.Tables.{begins}
use Rattle.far_packed.proofs.near.begin.Goals as goal

pub returns : goal.returns
returns c =
    let t = table c.args.near.now in
    let q = c.requires in
    subst (λ (bytes : List ℕ). Begins c.args.number t record { slots = t.slots; places = set (set t.places t.current (Sealed c.args.number)) c.args.block Open; current = c.args.block; used = 0; buffer = bytes }) (sym c.clear.ensures.items)
    (begins t q.shaped c.args.block c.args.number q.within q.free q.fresh q.filled)
