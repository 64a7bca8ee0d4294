use Rattle.far_evac.proofs.laws.rounds_keep_objects.Goals as goal
use Rattle.far_evac.proofs.KeptTurns.{aborting_objects, marking_objects, polling_objects, selecting_objects, turns_objects, whole_objects}
use Rattle.far_evac.proofs.LeadingWalks.{walking_objects}

pub returns : goal.returns
returns c = record {
  selecting = selecting_objects;
  marking = marking_objects;
  polling = polling_objects;
  walking = walking_objects;
  aborting = aborting_objects;
  turns = turns_objects;
  whole = whole_objects;
}
