use Rattle.far_text.proofs.SaysLemmas.{said_is_read, read_is_said}
use Rattle.far_text.proofs.TextLaws.{texts_read, first_bad, cuts}
use Rattle.far_text.proofs.laws.grammar_is_said.Goals as goal

pub returns : goal.returns
returns c = record {
  words = λ words d. (said_is_read words d, read_is_said words d);
  texts = texts_read;
  bad = first_bad;
  cuts = cuts;
}
