use Rattle.std.proofs.Common.{inl, sym, ◌∙◌}
use Rattle.far_heap.proofs.RoundTurns.{ends_nothing, ends_turns, stops_turns}
use Rattle.far_heap.proofs.heap.Heap.run_round.Goals as goal

pub returns-in-Err-clause-refused : goal.returns-in-Err-clause-refused
returns-in-Err-clause-refused g c = inl (c.nothing.ensures, record { book = _; later = _; refuses = c.in-Err.ensures.refused })

pub returns-then-is_empty-clause-ended : goal.returns-then-is_empty-clause-ended
returns-then-is_empty-clause-ended g c = (
  c.in-Ok.chosen,
  record { book = _; later = _; chooses = c.in-Ok.ensures.chosen },
  ends_nothing g.D.Device.writes g.D.Device.lets_go g.D.Device.contents g.K.HeapName.heap c.in-Ok.chosen c.args.turns (sym c.is_empty.ensures ∙ c.if-is_empty.true),
)

pub returns-clause-ended : goal.returns-clause-ended
returns-clause-ended g c = ends_turns g.D.Device.writes g.D.Device.lets_go g.D.Device.contents g.K.HeapName.heap c.in-Ok.chosen c.args.turns c.make_turns.result _ record { book = _; later = _; chooses = c.in-Ok.ensures.chosen }
    (sym c.is_empty.ensures ∙ c.if-is_empty.false) c.make_turns.ensures.ended

pub returns-clause-refused : goal.returns-clause-refused
returns-clause-refused g c = stops_turns g.D.Device.writes g.D.Device.lets_go g.D.Device.contents g.K.HeapName.heap c.in-Ok.chosen c.args.turns c.make_turns.result _ _ record { book = _; later = _; chooses = c.in-Ok.ensures.chosen }
    (sym c.is_empty.ensures ∙ c.if-is_empty.false) c.make_turns.ensures.refused
