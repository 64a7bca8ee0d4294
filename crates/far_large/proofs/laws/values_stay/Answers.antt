use Rattle.far_large.proofs.Staying.{by_made, by_others, by_put, by_refused, by_taken}
use Rattle.far_large.proofs.laws.values_stay.Goals as goal

pub returns : goal.returns
returns c = record {
  others = λ large xs old new k was others none. by_others large xs old new was k others none;
  made = λ large xs old new k ys was m. by_made large xs old new was k ys m;
  put = λ a b xs more old new was p. by_put a xs old new was b more p;
  taken = λ a b xs old new was apart t. by_taken a xs old new was b apart t;
  refused = λ large xs old new was b. by_refused large xs old new was b;
}
