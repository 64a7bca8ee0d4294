use Rattle.std.proofs.Common.{refl, ◌∙◌}
use Rattle.std.specs.FinMap as map
use Rattle.far_map.proofs.Told.{by_value}
use Rattle.far_dict.specs.Longs.{table_of}
use Rattle.far_dict.proofs.Union.{got_none}
use Rattle.far_dict.proofs.lending.look_at.Goals as goal

pub returns-in-Ok-true-clause-got : goal.returns-in-Ok-true-clause-got
returns-in-Ok-true-clause-got g c = λ o.
    let value = map.get (table_of (g.O.Objects.far c.args.parts.now.worker) c.args.parts.now.near).entries c.args.key.now in
    by_value value c.in-Ok-true.field-0 _ c.read_long.new.out.items _ c.in-Ok-true.field-0-test (c.in-Ok-true.ensures.got o)
    (λ v e. (c.look.result, refl, (c.as_slice.result, c.look.ensures, c.as_slice.ensures.value ∙ e)))

pub returns-in-Ok-false-clause-got : goal.returns-in-Ok-false-clause-got
returns-in-Ok-false-clause-got g c = λ o.
    let value = map.get (table_of (g.O.Objects.far c.args.parts.now.worker) c.args.parts.now.near).entries c.args.key.now in
    rw (got_none value c.in-Ok-false.field-0 c.read_long.new.out.items c.in-Ok-false.field-0-test (c.in-Ok-false.ensures.got o)) refl
