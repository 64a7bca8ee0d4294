-- The same walk in other words: what there is to do is listed before it begins, and a call does the front of the list.
use Rattle.std.specs.Prelude.{ℕ, zero, suc, List, [], ◌∷◌, ◌++◌, map, fold}
use Rattle.std.specs.List.{flat_map}
use Rattle.far_word.specs.Pointer.{read_of}
use Rattle.far_events.specs.state.State.{State}
use Rattle.far_evac.specs.Live.{live_in}
use Rattle.far_evac.specs.Moment.{Moment}
use Rattle.far_evac.specs.Walk.{Walked, begun, dealt_as, freed}

pub data Stop : Type 0 where
  Object : (pointer : ℕ) → Stop
  End : (log : ℕ) → Stop

-- the live objects of a log in order, and then its end
abbrev pub stops_in : State → ℕ → List Stop
stops_in s l = map Object (live_in s l) ++ (End l ∷ [])

abbrev pub tour : State → List ℕ → List Stop
tour s logs = flat_map (stops_in s) logs

-- all that stands before the (n + 1)th object
abbrev pub front : ℕ → List Stop → List Stop
front n [] = []
front n (End l ∷ stops) = End l ∷ front n stops
front zero (Object p ∷ stops) = []
front (suc n) (Object p ∷ stops) = Object p ∷ front n stops

abbrev pub without_first : List ℕ → List ℕ
without_first [] = []
without_first (k ∷ ks) = ks

-- an object is dealt with, as its cell says; at its end a log is given back
abbrev pub stopped : Walked → Stop → Walked
stopped w (Object p) = dealt_as w p (read_of (w.moment.core.cell p))
stopped w (End l) = let v = freed w l in record v { moment = record v.moment { collection = without_first w.moment.collection } }

abbrev pub toured : Moment → ℕ → Walked
toured m n = fold stopped (begun m) (front n (tour m.core m.collection))
