use Rattle.std.proofs.Common.{◌≡◌, ◌∙◌, sym, ap, subst}
use Rattle.far_evac.specs.Moment.{plus, progress_of, tally_of}
use Rattle.far_evac.specs.declared.answers.Progress.{Progress}
use Rattle.far_heap.specs.Rounds.{TurnMade, told_of}
use Rattle.far_heap.proofs.heap.Heap.turn_more.Goals as goal

pub returns-in-Ok-clause-made : goal.returns-in-Ok-clause-made
returns-in-Ok-clause-made g c =
    let tally = tally_of c.in-Ok.made in
    let over : c.sum.result.done ≡ c.in-Ok.made.done = ap (λ (p : Progress). p.done) c.sum.ensures in (
      tally,
      subst (λ done. TurnMade g.D.Device.writes g.D.Device.lets_go g.D.Device.contents g.K.HeapName.heap c.args.chosen.now tally done c.in-Ok.after) (sym over) record { before = _; later = _; turns = c.in-Ok.ensures.made },
      c.sum.ensures ∙ ap (progress_of (told_of (plus (tally_of c.args.before) tally))) (sym over),
    )

pub returns-in-Err-clause-refused : goal.returns-in-Err-clause-refused
returns-in-Err-clause-refused g c = (tally_of c.in-Err.fault.so_far, record { before = _; later = _; stops = c.in-Err.ensures.refused }, c.sum-in-Err.ensures)
