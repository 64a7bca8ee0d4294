use Rattle.std.proofs.Common.{Bool, subst}
use Rattle.far_firsts.specs.Causes.{Refuses}
use Rattle.far_firsts.specs.Lines.{stamp_by}
use Rattle.far_firsts.specs.Tallying.{Shows}
use Rattle.far_firsts.proofs.Showing.{tells_shown, tells_stopped}
use Rattle.far_firsts.proofs.Steps.{each}
use Rattle.far_firsts.proofs.counts.count_lines.Goals as goal

pub returns-in-Ok-count_input : goal.returns-in-Ok-count_input
returns-in-Ok-count_input g c =
    let refuses = Refuses g.O.Objects.unmade g.O.Objects.unreached in
    each (g.R.Read.remaining c.args.input.now) _ _ (λ text whole.
    tells_shown c.args.longest (refuses c.args.tally.now.honest) c.args.tally.now.honest c.args.end c.in-Ok-count_input.lines c.show_all.result text c.args.tally.now c.count_input.new.tally (g.R.Read.remaining c.count_input.new.input)
    (g.W.Write.contents c.args.output.now) (g.W.Write.contents c.show_all.new.output) c.requires.none c.requires.stamps whole
    (subst (λ (t : Bool). Shows (refuses t) t c.args.end c.count_input.new.tally c.show_all.result (g.W.Write.contents c.args.output.now) (g.W.Write.contents c.show_all.new.output)) c.count_input.ensures.honest c.show_all.ensures))
    c.in-Ok-count_input.ensures.whole

pub returns : goal.returns
returns g c =
    let refuses = Refuses g.O.Objects.unmade g.O.Objects.unreached c.args.tally.now.honest in
    each (g.R.Read.remaining c.args.input.now) _ _ (λ text stopped.
    tells_stopped c.args.longest refuses c.args.tally.now.honest (stamp_by c.args.tally.now.seed c.args.end) c.args.end c.in-Err.ended.lines c.in-Err.ended.why c.ending_of.result text (g.R.Read.remaining c.count_input.new.input)
    (g.W.Write.contents c.args.output.now) c.ending_of.ensures stopped.0 stopped.1)
    c.in-Err.ensures.stopped
