-- What was put is there, and why a put is refused.
use Rattle.std.proofs.Common.{◌<◌, ◌∙◌, length, Ok, Err, refl, ap, sym, arith}
use Rattle.std.proofs.lemmas.List.{ext_get_or}
use Rattle.far_reserved.specs.Reserved.{PutIsRefusedSo, PutIsThere}
use Rattle.far_file.specs.declared.fault.StorageFault.TheVariants.{Memory, Short, Full, Medium, Interrupted, Failed}

pub put_is_there : PutIsThere
put_is_there old new at bytes done (Err why) put got = absurd (omega (arith, put.2, got.1))
put_is_there old new at bytes done (Ok given) put got = ap Ok (ext_get_or 0 given bytes got.1 (λ k h. let in_bytes : k < length bytes = omega (arith, got.1) in sym (got.2 k h) ∙ put.3 k in_bytes))

pub put_is_refused : PutIsRefusedSo
put_is_refused old new at bytes Full put = (refl, put.0, put.1)
put_is_refused old new at bytes Memory put = absurd put
put_is_refused old new at bytes Short put = absurd put
put_is_refused old new at bytes Medium put = absurd put
put_is_refused old new at bytes Interrupted put = absurd put
put_is_refused old new at bytes Failed put = absurd put
