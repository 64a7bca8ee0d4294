use Rattle.far_private.proofs.Placing.{drop_objects, drop_settled, new_objects, new_settled, was_none}
use Rattle.far_private.proofs.laws.objects_come_and_go.Goals as goal

pub returns : goal.returns
returns c = record {
  made = λ s v u p len ds place law settled free within some most structure found e is. (
    new_settled s p len ds place law settled free within some most structure found u v e is,
    new_objects s p len ds place law settled free within some most structure found u v e is,
    was_none s p len ds place law settled free within some most structure found,
  );
  dropped = λ s v u p law settled used e is. (drop_settled s p law settled used u v e is, drop_objects s p law settled used u v e is);
}
