-- What it means that a later hand came of an earlier one by calls, and by nothing else. It is said of any hand S, events E and answers R, by the hand's own relation of one
-- call: `makes s e r t`, that the event e with the answer r led from the hand s to the hand t.
use Rattle.std.specs.Prelude.{◌≡◌, List, [], ◌∷◌}

module _ {S E R : Type 0} where
  -- these events with these answers, each one call, lead from s to t; where there are none, t is s
  abbrev pub Runs : (S → E → R → S → Type 0) → S → List (E × R) → S → Type 0
  Runs makes s [] t = s ≡ t
  Runs makes s (x ∷ xs) t = (u : S) × makes s x.0 x.1 u × Runs makes u xs t

  -- some calls lead from s to t: t is no other hand that was put in the place of s, and nothing happened to s beside them
  pub record Came (makes : S → E → R → S → Type 0) (s t : S) : Type 0 where
    pub calls : List (E × R)
    pub runs : Runs makes s calls t

  -- the calls whose event is such. So `Came (only P makes) s t`: nothing but such calls lead from s to t
  abbrev pub only : (E → Type 0) → (S → E → R → S → Type 0) → S → E → R → S → Type 0
  only P makes s e r t = P e × makes s e r t
