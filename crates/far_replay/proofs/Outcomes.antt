-- What is so of each command, whether it is served, refused in its midst, or given other words.
use Rattle.std.proofs.Common.{ℕ, refl}
use Rattle.far_word.specs.declared.refused.Refused.{Refused as Refusal}
use Rattle.far_word.specs.declared.refused.Refused.TheVariants.{Memory}
use Rattle.far_text.specs.Command.{Command, On, Use, Mutator, Evacuator, Policy, Evacuate, Round}
use Rattle.far_replay.specs.Commanded.{AsksFor, Commanded, Serves, Refuses, Gives, Lacks, Served, Stopped, Unbrought, StopsLeaving, StopsRound, Misled, MisledBy}
use Rattle.far_replay.specs.Moment.{Moment}
use Rattle.far_reply.specs.Reply.{Reply}

-- refused in its midst
module _ (why : Refusal) (turns objects : ℕ) (now : Moment) (r : Reply) (after : Moment) (P : Command → Type 0)
    (kept : (m p : ℕ) (how : Use) → Unbrought why now (Mutator m (On p how)) m p r after → P (Mutator m (On p how)))
    (leaves : (count : ℕ) → StopsLeaving why objects now count r after → P (Evacuator (Evacuate count)))
    (rounds : (policy : Policy) (most count : ℕ) → StopsRound why turns objects now policy most count r after → P (Evacuator (Round policy most count))) where
  pub by_stop : (c : Command) → Stopped why turns objects now c r after → P c
  by_stop (Mutator m (On p how)) h = kept m p how h
  by_stop (Evacuator (Evacuate count)) h = leaves count h
  by_stop (Evacuator (Round policy most count)) h = rounds policy most count h
  by_stop c h = absurd h

-- given other words of a far object
module _ (row : ℕ → ℕ) (now : Moment) (r : Reply) (after : Moment) (P : Command → Type 0) (misled : (m p : ℕ) (c : Command) → AsksFor m p c → Misled row now c p r after → P c) where
  pub by_lie : (c : Command) → MisledBy row now c r after → P c
  by_lie (Mutator m (On p how)) h = misled m p (Mutator m (On p how)) (refl, refl) h
  by_lie c h = absurd h

-- any of these
module _ (now : Moment) (r : Reply) (after : Moment) (P : Command → Type 0)
    (served : (c : Command) → Served now c r after → P c)
    (kept : (why : Refusal) (m p : ℕ) (how : Use) → Unbrought why now (Mutator m (On p how)) m p r after → P (Mutator m (On p how)))
    (leaves : (why : Refusal) (objects count : ℕ) → StopsLeaving why objects now count r after → P (Evacuator (Evacuate count)))
    (rounds : (why : Refusal) (turns objects : ℕ) (policy : Policy) (most count : ℕ) → StopsRound why turns objects now policy most count r after → P (Evacuator (Round policy most count)))
    (misled : (row : ℕ → ℕ) (m p : ℕ) (c : Command) → AsksFor m p c → Misled row now c p r after → P c) where
  pub by_outcome : (c : Command) → Commanded now c r after → P c
  by_outcome c (Serves, h) = served c h
  by_outcome c (Refuses why turns objects, h) = by_stop why turns objects now r after P (kept why) (leaves why objects) (rounds why turns objects) c h
  by_outcome c (Lacks turns objects, h) = by_stop Memory turns objects now r after P (kept Memory) (leaves Memory objects) (rounds Memory turns objects) c h
  by_outcome c (Gives row inverts, h) = by_lie row now r after P (misled row) c h

-- a command that asks the outside for nothing is served
abbrev pub AsksNothing : Command → Type 0
AsksNothing (Mutator m (On p how)) = ⊥
AsksNothing (Evacuator (Evacuate count)) = ⊥
AsksNothing (Evacuator (Round policy most count)) = ⊥
AsksNothing c = Unit {0}

asks_something : (m p : ℕ) (c : Command) → AsksFor m p c → AsksNothing c → ⊥
asks_something m p (Mutator k (On q how)) asks none = none
asks_something m p c asks none = asks

pub is_served : (now : Moment) (c : Command) (r : Reply) (after : Moment) → AsksNothing c → Commanded now c r after → Served now c r after
is_served now c r after none h = by_outcome now r after (λ d. AsksNothing d → Served now d r after)
    (λ d h none. h) (λ why m p how h none. absurd none)
    (λ why objects count h none. absurd none) (λ why turns objects policy most count h none. absurd none)
    (λ row m p d asks h none. absurd (asks_something m p d asks none)) c h none
