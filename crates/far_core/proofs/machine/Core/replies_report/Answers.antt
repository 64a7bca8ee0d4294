use Rattle.far_events.specs.state.Memory.{state_of}
use Rattle.far_core.proofs.Owing.{refusals_report_nothing, replies_report, is_fact, is_test}
use Rattle.far_core.proofs.machine.Core.replies_report.Goals as goal

pub returns-clause-test : goal.returns-clause-test
returns-clause-test c = λ event. (λ h. is_test (state_of c.args.self.now.memory) event h, λ h. is_fact (state_of c.args.self.now.memory) event c.args.self.now.law h)

pub returns-clause-report : goal.returns-clause-report
returns-clause-report c = replies_report (state_of c.args.self.now.memory) c.args.self.now.law

pub returns-clause-refusals : goal.returns-clause-refusals
returns-clause-refusals c = refusals_report_nothing
