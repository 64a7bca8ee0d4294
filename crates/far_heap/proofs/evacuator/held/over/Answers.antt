use Rattle.std.proofs.Common.{◌∙◌, sym}
use Rattle.std.proofs.lemmas.Bool.{false≢true}
use Rattle.far_heap.proofs.evacuator.held.over.Goals as goal

pub copying-requires-clause-moves : goal.copying-requires-clause-moves
copying-requires-clause-moves g c = λ still. false≢true (sym (c.requires.exact still) ∙ c.if-copying.true)
