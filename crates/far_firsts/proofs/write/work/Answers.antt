use Rattle.far_firsts.specs.Causes.{Refuses}
use Rattle.far_firsts.specs.Doing.{known_of, state}
use Rattle.far_firsts.proofs.Steps.{leaves_all}
use Rattle.far_firsts.proofs.Halts.{did_stops, either, halted, if_err, on_ok, stops_so, wrote}
use Rattle.far_firsts.proofs.write.work.Goals as goal

pub returns-in-Ok-clause-wrote : goal.returns-in-Ok-clause-wrote
returns-in-Ok-clause-wrote g c =
    on_ok c.take_bytes-taken.result _ _ (λ d. wrote c.args.seen.now.honest c.args.end c.args.bytes.now _ _ c.args.midst.now.out.items c.take_bytes-taken.new.midst.out.items (g.W.Write.contents c.args.output.now) (g.W.Write.contents c.let_out.new.output) c.requires.empty d c.in-Ok.ensures.all)
    c.take_bytes-taken.ensures.did

pub returns-in-Ok-clause-halted : goal.returns-in-Ok-clause-halted
returns-in-Ok-clause-halted g c =
    if_err c.take_bytes-taken.result _ _ (λ why s. halted c.args.longest _ c.args.seen.now.honest c.args.end c.args.bytes.now _ _ c.args.midst.now.out.items c.take_bytes-taken.new.midst.out.items why (g.W.Write.contents c.args.output.now) (g.W.Write.contents c.let_out.new.output) c.requires.empty s
    (leaves_all why c.take_bytes-taken.new.midst.out.items (g.W.Write.contents c.args.output.now) (g.W.Write.contents c.let_out.new.output) c.in-Ok.ensures.all))
    c.take_bytes-taken.ensures.stopped

pub returns-in-Err-clause-halted : goal.returns-in-Err-clause-halted
returns-in-Err-clause-halted g c =
    let honest = c.args.seen.now.honest in
    let refuses = Refuses g.O.Objects.unmade g.O.Objects.unreached honest in
    let a = state (known_of c.args.end c.args.seen.now) c.args.midst.now.part.items c.args.midst.now.count in
    let b = state (known_of c.args.end c.take_bytes-taken.new.seen) c.take_bytes-taken.new.midst.part.items c.take_bytes-taken.new.midst.count in
    halted c.args.longest refuses honest c.args.end c.args.bytes.now a c.take_bytes-taken.new.midst.count c.args.midst.now.out.items c.take_bytes-taken.new.midst.out.items _ (g.W.Write.contents c.args.output.now) (g.W.Write.contents c.let_out.new.output) c.requires.empty
    (either c.take_bytes-taken.result _ _ _ (λ d. did_stops c.args.longest refuses honest c.args.end c.args.bytes.now a b c.args.midst.now.out.items c.take_bytes-taken.new.midst.out.items _ tt d)
    (λ why s. stops_so c.args.longest refuses honest c.args.end c.args.bytes.now a c.take_bytes-taken.new.midst.count c.args.midst.now.out.items c.take_bytes-taken.new.midst.out.items why _ (λ x. tt) s)
    c.take_bytes-taken.ensures.did c.take_bytes-taken.ensures.stopped)
    c.in-Err.ensures.part
