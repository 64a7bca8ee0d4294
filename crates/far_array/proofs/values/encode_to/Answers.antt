use Rattle.std.proofs.Common.{rules, arith}
use Rattle.std.proofs.lemmas.List.{places, take_at, with_items_is}
use Rattle.far_array.proofs.values.encode_to.Goals as goal

pub returns-clause-encoded : goal.returns-clause-encoded
returns-clause-encoded g c = first_of (search (rules, with_items_is), search (rules, take_at), search (rules, places), grind (arith, places))
