use Rattle.far_replay_laws.proofs.EpochLaws.{epochs_told, scopes_open, closes_forget}
use Rattle.far_replay_laws.proofs.headline.epochs_are_told.Goals as goal

pub returns : goal.returns
returns c = record { told = epochs_told; opens = scopes_open; forgotten = closes_forget }
