use Rattle.std.proofs.Common.{◌∙◌, subst, sym}
use Rattle.std.specs.Prelude.{IfSome}
use Rattle.far_word.specs.Pointer.{read_of}
use Rattle.far_events.specs.events.Naming.{IsNaming}
use Rattle.far_events.proofs.Namings.{naming_found, naming_only}
use Rattle.far_events.proofs.naming.Naming.of.Goals as goal

pub returns-clause-says : goal.returns-clause-says
returns-clause-says c =
    subst (λ found. IfSome found (λ form. IsNaming form (read_of c.args.old) (read_of c.args.new))) (sym c.decide.ensures.value) (naming_found (read_of c.args.old) (read_of c.args.new))

pub returns-clause-only : goal.returns-clause-only
returns-clause-only c form says = c.decide.ensures.value ∙ naming_only form (read_of c.args.old) (read_of c.args.new) says
