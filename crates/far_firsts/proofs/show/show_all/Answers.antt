use Rattle.std.proofs.Common.{◌≡◌, ◌+◌, ◌⊎◌, sym, ◌∙◌, subst, arith}
use Rattle.std.specs.Io.KnownBytes.{Appends}
use Rattle.far_word.specs.declared.refused.Refused.TheVariants.{Memory}
use Rattle.far_seen.specs.Tallied.{Tallied}
use Rattle.far_firsts.specs.Causes.{Refuses}
use Rattle.far_firsts.specs.Tallying.{Showed, Shown}
use Rattle.far_firsts.specs.declared.ending.Ending.TheVariants.{Output}
use Rattle.far_firsts.proofs.Showing.{shown_more, shown_written, shows_done, shows_lost, shows_part}
use Rattle.far_firsts.proofs.show.show_all.Given.{Over}
use Rattle.far_firsts.proofs.show.show_all.Goals.{In_default}
use Rattle.far_firsts.proofs.show.show_all.Goals as goal

-- one line more is shown
more : (g : Over) (c : In_default g) → Showed c.args.tally.now.honest c.args.end c.args.tally.now (c.loop-place.place + 1) c.show.new.midst.out.items (g.W.Write.contents c.args.output.now) (g.W.Write.contents c.loop-place.output)
more g c =
    shown_more c.args.tally.now.honest c.args.end c.args.tally.now c.loop-place.place c.loop-place.midst.out.items (g.W.Write.contents c.args.output.now) (g.W.Write.contents c.loop-place.output) c.loop-place.invariant.showed c.len-place-end.ensures.even
    c.show.new.midst.out.items (omega (arith, c.loop-place-test.true, c.len-place-end.ensures.lines))
    (subst (λ (t : Tallied). Shown t.honest c.args.end t c.loop-place.place c.loop-place.midst.out.items c.show.new.midst.out.items) c.loop-place.invariant.same c.in_default.ensures.shown)

pub returns-in-Ok : goal.returns-in-Ok
returns-in-Ok g c =
    shows_lost c.args.tally.now.honest c.args.end c.args.tally.now c.loop-place.place c.loop-place.midst.out.items (g.W.Write.contents c.args.output.now) (g.W.Write.contents c.loop-place.output) c.loop-place.invariant.showed c.len-place-end.ensures.even
    (Refuses g.O.Objects.unmade g.O.Objects.unreached c.args.tally.now.honest) c.in-Err.why (g.W.Write.contents c.let_out.new.output) (omega (arith, c.loop-place-test.true, c.len-place-end.ensures.lines))
    (subst (λ (t : Tallied). (c.in-Err.why ≡ Memory) ⊎ Refuses g.O.Objects.unmade g.O.Objects.unreached t.honest c.in-Err.why) c.loop-place.invariant.same c.in-Err.ensures.why)
    (subst (Appends (g.W.Write.contents c.loop-place.output) (g.W.Write.contents c.let_out.new.output)) c.in-Err.ensures.refused c.in-Ok.ensures.all)

pub returns-in-Err-let_out : goal.returns-in-Err-let_out
returns-in-Err-let_out g c =
    shows_part c.args.tally.now.honest c.args.end c.args.tally.now c.loop-place.place c.show.new.midst.out.items (g.W.Write.contents c.args.output.now) (g.W.Write.contents c.loop-place.output)
    (subst (λ out. Showed c.args.tally.now.honest c.args.end c.args.tally.now c.loop-place.place out (g.W.Write.contents c.args.output.now) (g.W.Write.contents c.loop-place.output)) (sym c.in-Err.ensures.refused) c.loop-place.invariant.showed) c.len-place-end.ensures.even
    (Refuses g.O.Objects.unmade g.O.Objects.unreached c.args.tally.now.honest) (Output c.in-Err-let_out.e) (g.W.Write.contents c.let_out.new.output) tt (λ ps p. p) c.in-Err-let_out.ensures.part

pub returns-in-Err-let_much_out : goal.returns-in-Err-let_much_out
returns-in-Err-let_much_out g c =
    shows_part c.args.tally.now.honest c.args.end c.args.tally.now (c.loop-place.place + 1) c.show.new.midst.out.items (g.W.Write.contents c.args.output.now) (g.W.Write.contents c.loop-place.output)
    (more g (goal.at.returns-in-Err-let_much_out g c).In_default) c.len-place-end.ensures.even
    (Refuses g.O.Objects.unmade g.O.Objects.unreached c.args.tally.now.honest) (Output c.in-Err-let_much_out.e) (g.W.Write.contents c.let_much_out.new.output) tt (λ ps p. p) c.in-Err-let_much_out.ensures.part

pub loop-place-preserved : goal.loop-place-preserved
loop-place-preserved g c =
    let much = c.in_default-let_much_out.ensures.all in
    record {
      same = c.show.ensures.same ∙ c.loop-place.invariant.same;
      showed = shown_written c.args.tally.now.honest c.args.end c.args.tally.now (c.loop-place.place + 1) c.show.new.midst.out.items (g.W.Write.contents c.args.output.now) (g.W.Write.contents c.loop-place.output)
          (more g (goal.at.loop-place-preserved g c).In_default) c.len-place-end.ensures.even much.0 c.let_much_out.new.out.items (g.W.Write.contents c.let_much_out.new.output) much.1 much.2;
    }

pub returns-in-Ok-let_out : goal.returns-in-Ok-let_out
returns-in-Ok-let_out g c =
    shows_done c.args.tally.now.honest c.args.end c.args.tally.now c.loop-place.place c.loop-place.midst.out.items (g.W.Write.contents c.args.output.now) (g.W.Write.contents c.loop-place.output) c.loop-place.invariant.showed c.len-place-end.ensures.even
    (Refuses g.O.Objects.unmade g.O.Objects.unreached c.args.tally.now.honest) (g.W.Write.contents c.let_out-2.new.output) (omega (arith, c.loop-place-test.false, c.len-place-end.ensures.lines)) c.in-Ok-let_out.ensures.all

pub returns-in-Err-let_out-2 : goal.returns-in-Err-let_out-2
returns-in-Err-let_out-2 g c =
    shows_part c.args.tally.now.honest c.args.end c.args.tally.now c.loop-place.place c.loop-place.midst.out.items (g.W.Write.contents c.args.output.now) (g.W.Write.contents c.loop-place.output) c.loop-place.invariant.showed c.len-place-end.ensures.even
    (Refuses g.O.Objects.unmade g.O.Objects.unreached c.args.tally.now.honest) (Output c.in-Err-let_out-2.e) (g.W.Write.contents c.let_out-2.new.output) tt (λ ps p. p) c.in-Err-let_out-2.ensures.part
