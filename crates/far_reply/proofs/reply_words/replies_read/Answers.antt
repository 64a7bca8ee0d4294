use Rattle.std.proofs.Common.{refl}
use Rattle.std.specs.Fmt.{digits}
use Rattle.hex.specs.Hex.{encode_with}
use Rattle.far_reply.proofs.reply_words.replies_read.Goals as goal

pub returns : goal.returns
unfolding digits encode_with
returns c = record {
  dones = refl;
  pointers = (refl, refl);
  bytes = refl;
  epochs = (refl, refl);
  homes = (refl, refl, refl, refl, refl, refl, refl, refl, refl, refl);
  logs = refl;
  audits = refl;
  selections = (refl, refl);
  marks = (refl, refl);
  clears = refl;
  evacuations = (refl, refl);
  rounds = (refl, refl, refl, refl, refl);
  refusals = (refl, refl, refl, refl, refl, refl, refl, refl, refl, refl, refl, refl, refl, refl);
  reasons = (refl, refl, refl, refl, refl);
  halts = (refl, refl);
}
