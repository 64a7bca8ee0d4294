-- What is allowed of a mutator that is alone, and beside others.
use Rattle.std.proofs.Common.{◌≡◌, ℕ, Bool, true, false, [], ◌∷◌, sym, subst, inl, inr, refl}
use Rattle.std.specs.Bool.{MatchBool}
use Rattle.far_text.specs.Command.{Command}
use Rattle.far_replay.specs.Alone.{Alone, IsMisled, KnowsBy}
use Rattle.far_alone.specs.Own.{Own}
use Rattle.far_reply.specs.Reply.{Reply}
use Rattle.far_split.specs.Here.{AloneHereIsAlone, AloneIsAloneHere, AloneOnIsAloneHere, HonestIsAllowed, IsGivenOthers, IsUndamaged, KnowsHere}

-- a mutator that is misled is given other bytes
misled_here : (m : ℕ) (o : Own) (c : Command) (r : Reply) (q : Own) → IsMisled m o c r q → IsGivenOthers m o c r q
misled_here m o c r q misled = record { p = misled.p; asks = misled.asks; old = misled.old; new = misled.new; had = misled.had; long = misled.long; knows = misled.knows }

known_here : (honest : Bool) (m : ℕ) (o : Own) (c : Command) (r : Reply) (q : Own) → KnowsBy honest m o c r q → (honest ≡ true → IsUndamaged r) → KnowsHere honest m o c r q
known_here true m o c r q knows whole = (knows, whole refl)
known_here false m o c r q (inl knows) whole = inl knows
known_here false m o c r q (inr misled) whole = inr (misled_here m o c r q misled)

pub alone_here : AloneIsAloneHere
alone_here honest m o [] [] own whole alone = tt
alone_here honest m o [] (r ∷ rs) own whole alone = alone
alone_here honest m o (c ∷ cs) [] own whole alone = alone
alone_here honest m o (c ∷ cs) (r ∷ rs) own whole alone =
    let is = subst (λ (b : Bool). MatchBool b ((q : Own) × KnowsBy honest m o c r q × Alone honest m q cs rs) (Alone honest m o cs rs)) own.0 alone in
    (is.0, known_here honest m o c r is.0 is.1 (λ yes. (whole yes).0), alone_here honest m is.0 cs rs own.1 (λ yes. (whole yes).1) is.2)

pub here_alone : AloneHereIsAlone
here_alone m o [] [] own alone = tt
here_alone m o [] (r ∷ rs) own alone = alone
here_alone m o (c ∷ cs) [] own alone = alone
here_alone m o (c ∷ cs) (r ∷ rs) own (q, knows, later) =
    subst (λ (b : Bool). MatchBool b ((n : Own) × KnowsBy true m o c r n × Alone true m n cs rs) (Alone true m o cs rs)) (sym own.0) (q, knows.0, here_alone m q cs rs own.1 later)

pub on_heap : AloneOnIsAloneHere
on_heap heap m o [] [] alone = tt
on_heap heap m o [] (r ∷ rs) alone = alone
on_heap heap m o (c ∷ cs) [] alone = alone
on_heap heap m o (c ∷ cs) (r ∷ rs) alone = (alone.0, alone.1, on_heap heap m alone.0 cs rs alone.3)

pub honest_allowed : HonestIsAllowed
honest_allowed m o [] [] alone = tt
honest_allowed m o [] (r ∷ rs) alone = alone
honest_allowed m o (c ∷ cs) [] alone = alone
honest_allowed m o (c ∷ cs) (r ∷ rs) (q, (knows, whole), later) = (q, inl knows, honest_allowed m q cs rs later)
