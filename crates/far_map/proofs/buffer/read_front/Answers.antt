use Rattle.std.proofs.Common.{rules, ◌≡◌, length}
use Rattle.std.proofs.lemmas.List.{places}
use Rattle.far_map.proofs.Fronts.{front_read}
use Rattle.far_map.proofs.buffer.read_front.Goals as goal

pub returns-clause-read : goal.returns-clause-read
returns-clause-read g c = λ o.
    let known = g.met.O.Objects.known c.args.worker.now in
    let most = (known c.args.number c.args.len c.requires.there).most in
    let same = c.read.ensures.long in
    let room = c.requires.room in
    let long : length c.read.new.out ≡ c.args.len = search (rules, places) in
    front_read (g.O.Objects.far c.args.worker.now) c.args.number c.args.len c.args.len c.read.result c.args.buffer.now c.read.new.out _ known c.requires.there o long same c.read.ensures.read
