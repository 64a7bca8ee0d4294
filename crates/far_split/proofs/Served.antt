-- Over an honest far side nothing is damaged.
use Rattle.std.proofs.Common.{◌≡◌, [], ◌∷◌, refl, ap, subst, ◌∙◌, arith}
use Rattle.far_word.specs.declared.refused.Refused.{Refused as Refusal}
use Rattle.far_word.specs.declared.refused.Refused.TheVariants.{Damaged}
use Rattle.far_word.specs.Refused.{refusal_number}
use Rattle.far_reply.specs.Reply.{Reply, Refused}
use Rattle.far_split.specs.Here.{IsUndamaged}
use Rattle.far_split.specs.Served.{IsRefusedWith, NeverDamaged}

eleven : (why : Refusal) → refusal_number why ≡ 11 → why ≡ Damaged
eleven Damaged e = refl
eleven why e = absurd (omega (arith, e))

damage : (r : Reply) → IsUndamaged r → ¬ IsRefusedWith 11 r
damage r whole (why, is, number) = subst IsUndamaged (is ∙ ap Refused (eleven why number)) whole

pub never_damaged : NeverDamaged
never_damaged m o [] [] r rest alone refused = absurd alone
never_damaged m o [] (x ∷ front) r rest alone refused = absurd alone
never_damaged m o (c ∷ cs) [] r rest (q, knows, later) refused = damage r knows.1 refused
never_damaged m o (c ∷ cs) (x ∷ front) r rest (q, knows, later) refused = never_damaged m q cs front r rest later refused
