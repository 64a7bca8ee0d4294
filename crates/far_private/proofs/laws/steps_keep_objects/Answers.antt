use Rattle.far_private.proofs.Coming.{far_comes, near_comes}
use Rattle.far_private.proofs.Resting.{cool_keeps, heat_keeps}
use Rattle.far_private.proofs.Rounds.{kept}
use Rattle.far_private.proofs.laws.steps_keep_objects.Goals as goal

pub returns : goal.returns
returns c = record {
  heated = λ s p law settled used. heat_keeps s law settled p used;
  cooled = λ s t p law settled used rests is. cool_keeps s law settled p used t rests is;
  round = kept;
  moved = λ s v t p place law settled used near is found done. near_comes s p law settled used near v t place is found done;
  fetched = λ s t p place row law used far found padded same is. far_comes s p law used far t place row found padded same is;
}
