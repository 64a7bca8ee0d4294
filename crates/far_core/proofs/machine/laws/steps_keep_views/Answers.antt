use Rattle.far_core.proofs.WorldLaws.{lying_is_open, loads_read, steps_keep, steps_are_one, changes_keep, changes_are_one, events_cause}
use Rattle.far_core.proofs.machine.laws.steps_keep_views.Goals as goal

pub returns-clause-keep : goal.returns-clause-keep
returns-clause-keep c = steps_keep

pub returns-clause-loads : goal.returns-clause-loads
returns-clause-loads c = loads_read

pub returns-clause-one : goal.returns-clause-one
returns-clause-one c = steps_are_one

pub returns-clause-changes : goal.returns-clause-changes
returns-clause-changes c = changes_keep

pub returns-clause-one_change : goal.returns-clause-one_change
returns-clause-one_change c = changes_are_one

pub returns-clause-causes : goal.returns-clause-causes
returns-clause-causes c = events_cause

pub returns-clause-lying : goal.returns-clause-lying
returns-clause-lying c = lying_is_open
