use Rattle.std.proofs.Common.{◌≤◌, ◌<◌, length, refl, arith}
use Rattle.far_map.proofs.Emptying.{all_empty, none_left}
use Rattle.far_map.proofs.Told.{begins_empty, begins_sound}
use Rattle.far_map.proofs.steps.drop_all.Goals as goal

pub returns-clause-sound : goal.returns-clause-sound
returns-clause-sound g c =
    let near = c.loop-place.parts.near in
    let far = g.O.Objects.far c.loop-place.parts.worker in
    let so = c.loop-place.invariant in
    let whole : length near.slots ≤ c.loop-place.place = omega (arith, c.loop-place-test.false, c.len-place-end.ensures, so.long) in
    let some : 0 < near.buckets = omega (arith, c.requires.some, so.buckets) in
    let fits : near.buckets ≤ length near.slots = omega (arith, c.requires.fits, so.buckets, so.long) in
    begins_sound record { far = far; seed = _; slots = near.slots; buckets = near.buckets; count = 0 } some fits (all_empty far near.slots c.loop-place.place whole so.left) refl (none_left far near.slots c.loop-place.place whole so.left)

pub returns-clause-empty : goal.returns-clause-empty
returns-clause-empty g c =
    let near = c.loop-place.parts.near in
    let far = g.O.Objects.far c.loop-place.parts.worker in
    let so = c.loop-place.invariant in
    let whole : length near.slots ≤ c.loop-place.place = omega (arith, c.loop-place-test.false, c.len-place-end.ensures, so.long) in
    let some : 0 < near.buckets = omega (arith, c.requires.some, so.buckets) in
    let fits : near.buckets ≤ length near.slots = omega (arith, c.requires.fits, so.buckets, so.long) in
    begins_empty record { far = far; seed = near.seed; slots = near.slots; buckets = near.buckets; count = 0 } some fits (all_empty far near.slots c.loop-place.place whole so.left) refl (none_left far near.slots c.loop-place.place whole so.left)
