use Rattle.std.proofs.Common.{◌≡◌, ◌∙◌, length, sym, arith}
use Rattle.std.proofs.lemmas.List.{take_all}
use Rattle.far_array.specs.Rows.{row}
use Rattle.far_array.proofs.Reached.{on_ok}
use Rattle.far_array.proofs.Written.{first_row}
use Rattle.far_array.proofs.rows.read_row.Goals as goal

pub returns-clause-read : goal.returns-clause-read
returns-clause-read g c = λ o.
    let p = c.args.parts.now in
    let f = g.O.Objects.far p.worker in
    let out = c.read_rows.new.out in
    let long : length out ≡ p.size = c.read_rows.ensures.long ∙ c.requires.long in
    on_ok c.read_rows.result _ (out ≡ row f p.blocks.items p.per p.size c.args.i)
    (λ each. sym (take_all p.size out (omega (arith, long))) ∙ first_row f p.blocks.items p.per p.size c.args.i out each) (c.read_rows.ensures.read o)
