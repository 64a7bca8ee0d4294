use Rattle.tests_far_private.proofs.tests.devices.read_inner.Goals as goal
use Rattle.std.proofs.Common.{rules, refl, ap, ℕ, List, Option}

pub returns-in-Ok-clause-follows : goal.returns-in-Ok-clause-follows
returns-in-Ok-clause-follows c =
    record { others = λ q any. ap (λ (held : ℕ → Option (List ℕ)). held q) c.read.ensures.kept; honest = refl; counted = search rules; spent = λ n few. few }

pub returns-in-Err-Memory-clause-follows : goal.returns-in-Err-Memory-clause-follows
returns-in-Err-Memory-clause-follows c =
    record { others = λ q any. ap (λ (held : ℕ → Option (List ℕ)). held q) c.read.ensures.kept; honest = refl; counted = search rules; spent = λ n few. few }

pub returns-in-Err-Device-clause-follows : goal.returns-in-Err-Device-clause-follows
returns-in-Err-Device-clause-follows c =
    record { others = λ q any. ap (λ (held : ℕ → Option (List ℕ)). held q) c.read.ensures.kept; honest = refl; counted = search rules; spent = (λ few. few.1, λ n few. few) }
