use Rattle.std.proofs.Common.{List, ℕ, sym, subst}
use Rattle.far_packed.specs.Blocks.{Stays, table}
use Rattle.far_packed.proofs.Tables.{anew_stays}
use Rattle.far_packed.proofs.near.restart.Goals as goal

pub returns-clause-stays : goal.returns-clause-stays
returns-clause-stays c =
    let t = table c.args.near.now in
    subst (λ (bytes : List ℕ). Stays t record { slots = t.slots; places = t.places; current = t.current; used = 0; buffer = bytes }) (sym c.clear.ensures.items)
    (anew_stays t c.requires.shaped c.requires.none)
