use Rattle.std.proofs.Common.{◌∙◌, subst, ap}
use Rattle.std.specs.Prelude.{Bool, IfSome}
use Rattle.std.specs.declared.hash.DefaultHasher.{DefaultHasher}
use Rattle.far_private.specs.Heap.{IsOutside}
use Rattle.far_private.specs.Numbered.{IsNoPlace}
use Rattle.far_pool.specs.Numbers.{far_of}
use Rattle.far_packed.specs.Causes.{OrMemory}
use Rattle.far_firsts.specs.Causes.{Refuses}
use Rattle.far_firsts.specs.Lines.{stamp_by}
use Rattle.far_firsts.specs.Tallies.{TellsCounts}
use Rattle.far_uniq.proofs.run.print_counts.Goals as goal

pub returns-clause-printed : goal.returns-clause-printed
returns-clause-printed g c =
    let e = c.in-Ok-with_room-2.ensures.honest ∙ c.in-Ok-with_room.ensures.honest ∙ ap (λ w. (far_of w).honest) c.new-2.ensures ∙ c.in-Ok.ensures.honest in
    subst (λ (t : Bool × DefaultHasher). IfSome (g.R.Read.remaining c.args.input.now) (λ text. TellsCounts c.args.room.now.longest (Refuses (OrMemory IsNoPlace) IsOutside t.0) t.0 (stamp_by t.1 c.args.end) c.args.end c.count_lines-counted.result.lines c.count_lines-counted.result.ending text
    (g.R.Read.remaining c.count_lines-counted.new.input) (g.W.Write.contents c.args.output.now) (g.W.Write.contents c.count_lines-counted.new.output))) (λ i. (e i, c.in-Ok-with_room-2.ensures.seed i)) c.count_lines-counted.ensures
