use Rattle.std.proofs.Common.{◌+◌, ◌-◌, ◌*◌, ◌%◌, ◌<◌, ◌≤◌, min, ◌∙◌, ap}
use Rattle.far_array.proofs.Sizes.{many_low}
use Rattle.far_array.proofs.rows.many_rows.Given.{Over}
use Rattle.far_array.proofs.rows.many_rows.Goals.{After-min}
use Rattle.far_array.proofs.rows.many_rows.Goals as goal

all : (g : Over) (c : After-min g) → (0 < c.min.result) × (c.args.i + c.min.result ≤ c.args.parts.now.len) × (c.args.i % c.args.parts.now.per + c.min.result ≤ c.args.parts.now.per) × (c.min.result * c.args.parts.now.size ≤ c.args.room)
all g c =
    let p = c.args.parts.now in
    many_low c.args.room p.size p.len c.args.i p.per c.min.result c.requires.sized c.requires.per c.requires.low c.requires.fits (c.min.ensures ∙ ap (λ x. min x (p.per - c.args.i % p.per)) c.min-fits.ensures)

pub returns-clause-some : goal.returns-clause-some
returns-clause-some g c = (all g c).0

pub returns-clause-low : goal.returns-clause-low
returns-clause-low g c = (all g c).1

pub returns-clause-one : goal.returns-clause-one
returns-clause-one g c = (all g c).2

pub returns-clause-room : goal.returns-clause-room
returns-clause-room g c = (all g c).3
