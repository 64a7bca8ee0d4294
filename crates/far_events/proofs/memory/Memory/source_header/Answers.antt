use Rattle.std.proofs.Common.{arith, ap, subst, sym, ◌∙◌}
use Rattle.std.specs.Prelude.{IsSome}
use Rattle.far_word.specs.Header.{head_of}
use Rattle.far_events.specs.state.Memory.{state_of}
use Rattle.far_events.proofs.JobPlaces.{source_lies}
use Rattle.far_events.proofs.memory.Memory.source_header.Goals as goal

pub word-requires : goal.word-requires
word-requires c = omega (arith, c.first_word.ensures, (source_lies (state_of c.args.self.now) c.requires.law c.args.copier c.args.task c.requires.has).0)

pub returns-clause-reads : goal.returns-clause-reads
returns-clause-reads c = let s = state_of c.args.self.now in
    subst (λ w. IsSome (head_of w)) (sym (c.word.ensures ∙ ap s.word c.first_word.ensures)) (source_lies s c.requires.law c.args.copier c.args.task c.requires.has).1
