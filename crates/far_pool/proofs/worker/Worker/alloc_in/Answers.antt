use Rattle.std.proofs.Common.{◌≡◌, ◌<◌, Some, length, subst, sym}
use Rattle.far_private.specs.Heap.{object_with}
use Rattle.far_pool.specs.declared.handle.Handle.{Handle}
use Rattle.far_pool.specs.Pool.{Pool, putting}
use Rattle.far_pool.proofs.Rooms.{unmade_at}
use Rattle.far_pool.proofs.Workers.{honest_is, made_at}
use Rattle.far_pool.proofs.worker.Worker.alloc_in.Goals as goal

pub returns-then-is_full-clause-made : goal.returns-then-is_full-clause-made
returns-then-is_full-clause-made g c =
    let d = c.in-Ok.ensures.made in
    let honest = c.self.inside.parts.honest in
    let logs = c.self.inside.parts.logs in
    let shelves = c.self.inside.parts.shelves.items in
    let h : Handle = record { heap = c.args.heap; pointer = c.in-Ok.slot.0; generation = c.in-Ok.slot.1 } in
    let m = c.index_mut.result.now in
    let n = c.alloc.new.self in
    let lt = subst (λ (x : Pool). c.args.heap < length x.shelves) (sym c.self.view_is) c.requires in
    let same = honest_is honest logs shelves c.args.self.now c.self.view_is h m n lt c.index_mut.ensures.value c.self.invariant.0 in
    made_at honest logs shelves c.args.self.now c.self.view_is h m n lt c.index_mut.ensures.value (object_with c.args.self.now.honest c.args.structure c.args.bytes.now) d.2 d.1 d.3
    (subst (λ b. n ≡ putting c.in-Ok.slot.0 (Some (object_with b c.args.structure c.args.bytes.now)) m) same d.4)

pub returns-else-is_full-clause-made : goal.returns-else-is_full-clause-made
returns-else-is_full-clause-made g c =
    let d = c.in-Ok.ensures.made in
    let honest = c.self.inside.parts.honest in
    let logs = c.self.inside.parts.logs in
    let shelves = c.self.inside.parts.shelves.items in
    let h : Handle = record { heap = c.args.heap; pointer = c.in-Ok.slot.0; generation = c.in-Ok.slot.1 } in
    let m = c.index_mut.result.now in
    let n = c.alloc.new.self in
    let lt = subst (λ (x : Pool). c.args.heap < length x.shelves) (sym c.self.view_is) c.requires in
    let same = honest_is honest logs shelves c.args.self.now c.self.view_is h m n lt c.index_mut.ensures.value c.self.invariant.0 in
    made_at honest logs shelves c.args.self.now c.self.view_is h m n lt c.index_mut.ensures.value (object_with c.args.self.now.honest c.args.structure c.args.bytes.now) d.2 d.1 d.3
    (subst (λ b. n ≡ putting c.in-Ok.slot.0 (Some (object_with b c.args.structure c.args.bytes.now)) m) same d.4)

pub returns-in-Err-clause-room : goal.returns-in-Err-clause-room
returns-in-Err-clause-room g c =
    let shelves = c.self.inside.parts.shelves.items in
    let lt = subst (λ (x : Pool). c.args.heap < length x.shelves) (sym c.self.view_is) c.requires in
    unmade_at g.D.Device.writes c.self.inside.parts.honest c.self.inside.parts.logs shelves c.args.self.now c.self.view_is c.args.heap c.index_mut.result.now lt c.index_mut.ensures.value c.self.invariant.0 c.in-Err.why c.in-Err.ensures.room
