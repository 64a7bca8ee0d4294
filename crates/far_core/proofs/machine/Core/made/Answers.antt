use Rattle.std.proofs.Common.{◌<◌, ◌≤◌, ◌*◌, ℕ, arith, refl, sym}
use Rattle.far_word.specs.declared.sizes.TheConstants.{CELLS, LEAST_LOGS, MOST_MUTATORS, POINTERS}
use Rattle.far_events.specs.state.Memory.{state_of}
use Rattle.far_core.proofs.Begins.{begins}
use Rattle.far_events.proofs.Begins.{in_range}
use Rattle.far_core.proofs.Steps.{agrees}
use Rattle.far_core.proofs.WorldFacts.{opening_world}
use Rattle.far_core.proofs.machine.Core.made.Goals as goal

some_log : (n : ℕ) → LEAST_LOGS ≤ n → 0 < n
some_log n two = omega arith

pub set_kind-requires : goal.set_kind-requires
set_kind-requires c = rw c.in-Ok.ensures (some_log _ (in_range c.args.shape (sym c.if-not-is_in_range.ensures.is)).two_logs)

pub invariant_of-result-clause-law : goal.invariant_of-result-clause-law
invariant_of-result-clause-law c = rw (c.set_kind.ensures, c.in-Ok.ensures) (begins c.args.has_copiers c.args.shape c.args.honest (sym c.if-not-is_in_range.ensures.is))

pub returns-clause-opening : goal.returns-clause-opening
returns-clause-opening c = rw (c.set_kind.ensures, c.in-Ok.ensures) refl

pub returns-clause-law : goal.returns-clause-law
returns-clause-law c = rw (c.set_kind.ensures, c.in-Ok.ensures) (begins c.args.has_copiers c.args.shape c.args.honest (sym c.if-not-is_in_range.ensures.is))

pub returns-clause-agrees : goal.returns-clause-agrees
returns-clause-agrees c = agrees (state_of c.set_kind.new.self) (rw (c.set_kind.ensures, c.in-Ok.ensures) (begins c.args.has_copiers c.args.shape c.args.honest (sym c.if-not-is_in_range.ensures.is)))

pub returns-clause-world : goal.returns-clause-world
returns-clause-world c = rw (c.set_kind.ensures, c.in-Ok.ensures) (opening_world c.args.has_copiers c.args.shape c.args.honest)

few_pointers : (n : ℕ) → n ≤ MOST_MUTATORS → CELLS * n ≤ POINTERS
few_pointers n few = omega arith

pub no_rows-requires : goal.no_rows-requires
no_rows-requires c = few_pointers _ (in_range c.args.shape (sym c.if-not-is_in_range.ensures.is)).few_mutators
