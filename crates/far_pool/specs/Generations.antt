-- How long a handle stays refused.
use Rattle.std.specs.Prelude.{◌≡◌, ℕ, ◌+◌, ◌<◌, ◌==◌, ◌&&◌, None, List, [], ◌∷◌, ◌++◌, if◌then◌else◌}
use Rattle.far_pool.specs.declared.handle.Handle.{Handle}
use Rattle.far_pool.specs.History.{Call, Called, Drops, Makes, Writes}
use Rattle.far_pool.specs.Pool.{Pool, at}

-- how many objects these calls made at the pointer of a handle
abbrev pub made_by : Call → Handle → ℕ
made_by (Makes g bytes ds) h = if (g.heap == h.heap) && (g.pointer == h.pointer) then 1 else 0
made_by (Drops g) h = 0
made_by (Writes g from bytes) h = 0

abbrev pub made_at : List Call → Handle → ℕ
made_at [] h = 0
made_at (c ∷ cs) h = made_by c h + made_at cs h

-- a handle whose object was dropped has none, whatever calls come after, before 65,536 objects more were made at its pointer
abbrev pub DroppedStaysRefused : Type 0
DroppedStaysRefused = (before later : List Call) (w v : Pool) (h : Handle) → h.generation < 65536 → Called w (before ++ Drops h ∷ later) v → made_at later h < 65536 → at v h ≡ None
