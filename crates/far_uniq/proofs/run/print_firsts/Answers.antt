use Rattle.std.proofs.Common.{◌∙◌, subst}
use Rattle.std.specs.Prelude.{Bool, IfSome}
use Rattle.std.specs.declared.hash.DefaultHasher.{DefaultHasher}
use Rattle.far_private.specs.Heap.{IsOutside}
use Rattle.far_private.specs.Numbered.{IsNoPlace}
use Rattle.far_packed.specs.Causes.{OrMemory}
use Rattle.far_firsts.specs.Causes.{Refuses}
use Rattle.far_firsts.specs.Lines.{stamp_by}
use Rattle.far_firsts.specs.Telling.{Tells}
use Rattle.far_uniq.proofs.run.print_firsts.Goals as goal

pub returns-clause-printed : goal.returns-clause-printed
returns-clause-printed g c =
    let e = c.in-Ok-with_room-2.ensures.honest ∙ c.in-Ok-with_room.ensures.honest ∙ c.in-Ok.ensures.honest in
    subst (λ (t : Bool × DefaultHasher). IfSome (g.R.Read.remaining c.args.input.now) (λ text. Tells c.args.room.now.longest (Refuses (OrMemory IsNoPlace) IsOutside t.0) t.0 (stamp_by t.1 c.args.end) c.args.end c.uniq-end.result.lines c.uniq-end.result.why text
    (g.R.Read.remaining c.uniq-end.new.input) (g.W.Write.contents c.args.output.now) (g.W.Write.contents c.uniq-end.new.output))) (λ i. (e i, c.in-Ok-with_room-2.ensures.seed i)) c.uniq-end.ensures
