use Rattle.std.proofs.Common.{rules, ◌≡◌, ◌*◌, length, ◌∙◌, arith}
use Rattle.std.proofs.lemmas.List.{places}
use Rattle.far_array.proofs.Pieces.{front_piece, step_below}
use Rattle.far_array.proofs.Reached.{on_ok}
use Rattle.far_array.proofs.rows.read_front.Goals as goal

pub returns-clause-read : goal.returns-clause-read
returns-clause-read g c = λ o.
    let size = c.args.parts.now.size in
    let piece = c.read_rows.new.out in
    let same = c.read_rows.ensures.long in
    let room = c.requires.room in
    let long : length piece ≡ c.args.n * size = search (rules, places) in
    on_ok c.read_rows.result _ _
    (λ told k l. front_piece piece _ (k * size) size (let s = step_below k c.args.n size l in omega (arith, s, long)) ∙ told k l)
    (c.read_rows.ensures.read o)
