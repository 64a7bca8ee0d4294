use Rattle.std.proofs.Common.{◌∙◌, ap, subst, sym}
use Rattle.far_private.specs.Objects.{Settled, objects_of}
use Rattle.far_private.proofs.Ranging.{near_read}
use Rattle.far_private.proofs.Writing.{over_settled, over_written}
use Rattle.far_private.proofs.laws.ranges_are_so.Goals as goal

pub returns : goal.returns
returns c = record {
  read = λ s p from count out law used near e. near_read s law p used near from count out e;
  written = λ s t p from new law settled used rests some inside most small is. (
    subst Settled (sym is) (over_settled s law settled p from new used rests some inside most small),
    ap objects_of is ∙ over_written s law settled p from new used rests some inside most small,
  );
}
