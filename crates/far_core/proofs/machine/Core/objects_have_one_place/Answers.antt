use Rattle.far_events.specs.state.Memory.{state_of}
use Rattle.far_core.proofs.ObjectFacts.{object_agrees}
use Rattle.far_core.proofs.Observations.{has_one_place, names_once, near_has_one_live}
use Rattle.far_core.proofs.WorldFacts.{marks_agree, marks_exist, view_rests}
use Rattle.far_core.proofs.WorldLaws.{objects_stand}
use Rattle.far_core.proofs.machine.Core.objects_have_one_place.Goals as goal

pub returns-clause-one : goal.returns-clause-one
returns-clause-one c = λ p. has_one_place (state_of c.args.self.now.memory) c.args.self.now.law p

pub returns-clause-near : goal.returns-clause-near
returns-clause-near c = λ p. near_has_one_live (state_of c.args.self.now.memory) c.args.self.now.law p

pub returns-clause-once : goal.returns-clause-once
returns-clause-once c = names_once (state_of c.args.self.now.memory) c.args.self.now.law

pub returns-clause-stand : goal.returns-clause-stand
returns-clause-stand c = objects_stand (state_of c.args.self.now.memory) c.args.self.now.law

pub returns-clause-views : goal.returns-clause-views
returns-clause-views c = λ p h. view_rests (state_of c.args.self.now.memory) c.args.self.now.law p h

pub returns-clause-marks : goal.returns-clause-marks
returns-clause-marks c = λ p. marks_agree (state_of c.args.self.now.memory) c.args.self.now.law p

pub returns-clause-exist : goal.returns-clause-exist
returns-clause-exist c = λ p. marks_exist (state_of c.args.self.now.memory) p

pub returns-clause-agree : goal.returns-clause-agree
returns-clause-agree c = λ p. object_agrees (state_of c.args.self.now.memory) p
