use Rattle.far_evac.proofs.laws.rounds_lead.Goals as goal
use Rattle.far_evac.proofs.Leading.{aborting, choice_of_sealed, polling, selecting}
use Rattle.far_evac.proofs.LeadingMarks.{marking}
use Rattle.far_evac.proofs.LeadingTurns.{round_leads, turns_lead}
use Rattle.far_evac.proofs.LeadingWalks.{walking}

pub returns : goal.returns
returns c = record {
  chosen = choice_of_sealed;
  selecting = selecting;
  marking = marking;
  polling = polling;
  walking = walking;
  aborting = aborting;
  turns = turns_lead;
  whole = round_leads;
}
