use Rattle.std.proofs.Common.{◌≡◌, Bool, true, false, ◌||◌, refl, subst}
use Rattle.memchr.specs.Find.{IsFirstByte, is_byte}
use Rattle.far_firsts.proofs.count.next_end.Goals as goal

or_same : (b : Bool) → (b || b) ≡ b
or_same true = refl
or_same false = refl

pub returns : goal.returns
returns c = subst (λ is. IsFirstByte is c.args.bytes.now c.memchr2.result) (λ i x. or_same (is_byte c.args.end x) i) c.memchr2.ensures
