use Rattle.std.proofs.Common.{◌≡◌, ℕ, List, ◌/◌, ◌<◌, ◌∙◌, length, sym, inl, subst, arith}
use Rattle.far_array.proofs.Swapped.{block_within, done_honest, done_long, done_rows, done_sound, j_within_1, placed_1, undone_honest, undone_long, undone_rows, undone_sound}
use Rattle.far_array.specs.Reasons.{IsWhyMissed}
use Rattle.far_array.proofs.swap.put_both.Goals as goal

pub write_row-requires : goal.write_row-requires
write_row-requires g c =
    let p = c.args.parts.now in
    let q = c.remake.new.parts in
    let e = c.remake.ensures in
    let f = g.O.Objects.far p.worker in
    let h = g.O.Objects.far q.worker in
    let r = c.in-Ok.ensures.remade in
    let i = c.args.i in
    record {
      placed = placed_1 f h h h p.blocks.items q.blocks.items q.blocks.items p.per q.per q.per p.size q.size q.size p.len q.len i c.args.j c.in-Ok.was c.args.one.now c.args.two.now c.requires.sound c.requires.low c.requires.also r e.per e.size e.per e.size e.len;
      within = j_within_1 f h h h p.blocks.items q.blocks.items q.blocks.items p.per q.per q.per p.size q.size q.size p.len q.len i c.args.j c.in-Ok.was c.args.one.now c.args.two.now c.requires.sound c.requires.low c.requires.also r e.per e.size e.per e.size e.len;
      long = c.requires.so_long ∙ sym e.size;
    }

pub take_back-requires : goal.take_back-requires
take_back-requires g c =
    let p = c.args.parts.now in
    let q = c.remake.new.parts in
    let e = c.remake.ensures in
    let f = g.O.Objects.far p.worker in
    let h = g.O.Objects.far q.worker in
    let r = c.in-Ok.ensures.remade in
    let i = c.args.i in
    let d = c.write_row.ensures in
    let l = block_within f h p.blocks.items q.blocks.items p.per p.size i c.in-Ok.was c.args.one.now c.requires.sound.placed (omega (arith, c.requires.low, c.requires.sound.room)) r in
    record { low = subst (λ (xs : List ℕ). i / p.per < length xs) (let b : c.write_row.new.parts.blocks.items ≡ q.blocks.items = λ k. (d.blocks k).items in sym b) l }

pub returns-in-Ok-write_row-clause-honest : goal.returns-in-Ok-write_row-clause-honest
returns-in-Ok-write_row-clause-honest g c =
    let p = c.args.parts.now in
    let q = c.remake.new.parts in
    let e = c.remake.ensures in
    let f = g.O.Objects.far p.worker in
    let h = g.O.Objects.far q.worker in
    let r = c.in-Ok.ensures.remade in
    let i = c.args.i in
    let d = c.write_row.ensures in
    let w = c.write_row.new.parts in
    let m = g.O.Objects.far w.worker in
    let n = g.O.Objects.far c.let_go.new.worker in
    done_honest f h m n p.blocks.items q.blocks.items w.blocks.items p.per q.per w.per p.size q.size w.size p.len w.len i c.args.j c.in-Ok.was c.args.one.now c.args.two.now c.requires.sound c.requires.low c.requires.also r e.per e.size (d.per ∙ e.per) (d.size ∙ e.size) (d.len ∙ e.len) (λ k. (d.blocks k).items) c.in-Ok-write_row.ensures.wrote c.let_go.ensures.others

pub returns-in-Ok-write_row-clause-blocks : goal.returns-in-Ok-write_row-clause-blocks
returns-in-Ok-write_row-clause-blocks g c =
    let p = c.args.parts.now in
    let q = c.remake.new.parts in
    let e = c.remake.ensures in
    let f = g.O.Objects.far p.worker in
    let h = g.O.Objects.far q.worker in
    let r = c.in-Ok.ensures.remade in
    let i = c.args.i in
    let d = c.write_row.ensures in
    let w = c.write_row.new.parts in
    let m = g.O.Objects.far w.worker in
    let n = g.O.Objects.far c.let_go.new.worker in
    done_long f h m n p.blocks.items q.blocks.items w.blocks.items p.per q.per w.per p.size q.size w.size p.len w.len i c.args.j c.in-Ok.was c.args.one.now c.args.two.now c.requires.sound c.requires.low c.requires.also r e.per e.size (d.per ∙ e.per) (d.size ∙ e.size) (d.len ∙ e.len) (λ k. (d.blocks k).items) c.in-Ok-write_row.ensures.wrote c.let_go.ensures.others

pub returns-in-Ok-write_row-clause-sound : goal.returns-in-Ok-write_row-clause-sound
returns-in-Ok-write_row-clause-sound g c =
    let p = c.args.parts.now in
    let q = c.remake.new.parts in
    let e = c.remake.ensures in
    let f = g.O.Objects.far p.worker in
    let h = g.O.Objects.far q.worker in
    let r = c.in-Ok.ensures.remade in
    let i = c.args.i in
    let d = c.write_row.ensures in
    let w = c.write_row.new.parts in
    let m = g.O.Objects.far w.worker in
    let n = g.O.Objects.far c.let_go.new.worker in
    done_sound f h m n p.blocks.items q.blocks.items w.blocks.items p.per q.per w.per p.size q.size w.size p.len w.len i c.args.j c.in-Ok.was c.args.one.now c.args.two.now c.requires.sound c.requires.low c.requires.also r e.per e.size (d.per ∙ e.per) (d.size ∙ e.size) (d.len ∙ e.len) (λ k. (d.blocks k).items) c.in-Ok-write_row.ensures.wrote c.let_go.ensures.others

pub returns-in-Ok-write_row-clause-made : goal.returns-in-Ok-write_row-clause-made
returns-in-Ok-write_row-clause-made g c =
    let p = c.args.parts.now in
    let q = c.remake.new.parts in
    let e = c.remake.ensures in
    let f = g.O.Objects.far p.worker in
    let h = g.O.Objects.far q.worker in
    let r = c.in-Ok.ensures.remade in
    let i = c.args.i in
    let d = c.write_row.ensures in
    let w = c.write_row.new.parts in
    let m = g.O.Objects.far w.worker in
    let n = g.O.Objects.far c.let_go.new.worker in
    done_rows f h m n p.blocks.items q.blocks.items w.blocks.items p.per q.per w.per p.size q.size w.size p.len w.len i c.args.j c.in-Ok.was c.args.one.now c.args.two.now c.requires.sound c.requires.low c.requires.also r e.per e.size (d.per ∙ e.per) (d.size ∙ e.size) (d.len ∙ e.len) (λ k. (d.blocks k).items) c.in-Ok-write_row.ensures.wrote c.let_go.ensures.others

pub returns-in-Err-write_row-clause-honest : goal.returns-in-Err-write_row-clause-honest
returns-in-Err-write_row-clause-honest g c =
    let p = c.args.parts.now in
    let q = c.remake.new.parts in
    let e = c.remake.ensures in
    let f = g.O.Objects.far p.worker in
    let h = g.O.Objects.far q.worker in
    let r = c.in-Ok.ensures.remade in
    let i = c.args.i in
    let d = c.write_row.ensures in
    let w = c.write_row.new.parts in
    let m = g.O.Objects.far w.worker in
    let b = c.take_back.ensures in
    let t = c.take_back.new.parts in
    let n = g.O.Objects.far t.worker in
    undone_honest f h m n p.blocks.items q.blocks.items w.blocks.items p.per q.per t.per p.size q.size t.size p.len t.len i c.args.j c.in-Ok.was c.args.one.now c.args.two.now c.requires.sound c.requires.low c.requires.also r e.per e.size (b.per ∙ d.per ∙ e.per) (b.size ∙ d.size ∙ e.size) (b.len ∙ d.len ∙ e.len) t.blocks.items (λ k. (d.blocks k).items) c.in-Err-write_row.ensures.refused b.blocks b.others

pub returns-in-Err-write_row-clause-blocks : goal.returns-in-Err-write_row-clause-blocks
returns-in-Err-write_row-clause-blocks g c =
    let p = c.args.parts.now in
    let q = c.remake.new.parts in
    let e = c.remake.ensures in
    let f = g.O.Objects.far p.worker in
    let h = g.O.Objects.far q.worker in
    let r = c.in-Ok.ensures.remade in
    let i = c.args.i in
    let d = c.write_row.ensures in
    let w = c.write_row.new.parts in
    let m = g.O.Objects.far w.worker in
    let b = c.take_back.ensures in
    let t = c.take_back.new.parts in
    let n = g.O.Objects.far t.worker in
    undone_long f h m n p.blocks.items q.blocks.items w.blocks.items p.per q.per t.per p.size q.size t.size p.len t.len i c.args.j c.in-Ok.was c.args.one.now c.args.two.now c.requires.sound c.requires.low c.requires.also r e.per e.size (b.per ∙ d.per ∙ e.per) (b.size ∙ d.size ∙ e.size) (b.len ∙ d.len ∙ e.len) t.blocks.items (λ k. (d.blocks k).items) c.in-Err-write_row.ensures.refused b.blocks b.others

pub returns-in-Err-write_row-clause-sound : goal.returns-in-Err-write_row-clause-sound
returns-in-Err-write_row-clause-sound g c =
    let p = c.args.parts.now in
    let q = c.remake.new.parts in
    let e = c.remake.ensures in
    let f = g.O.Objects.far p.worker in
    let h = g.O.Objects.far q.worker in
    let r = c.in-Ok.ensures.remade in
    let i = c.args.i in
    let d = c.write_row.ensures in
    let w = c.write_row.new.parts in
    let m = g.O.Objects.far w.worker in
    let b = c.take_back.ensures in
    let t = c.take_back.new.parts in
    let n = g.O.Objects.far t.worker in
    undone_sound f h m n p.blocks.items q.blocks.items w.blocks.items p.per q.per t.per p.size q.size t.size p.len t.len i c.args.j c.in-Ok.was c.args.one.now c.args.two.now c.requires.sound c.requires.low c.requires.also r e.per e.size (b.per ∙ d.per ∙ e.per) (b.size ∙ d.size ∙ e.size) (b.len ∙ d.len ∙ e.len) t.blocks.items (λ k. (d.blocks k).items) c.in-Err-write_row.ensures.refused b.blocks b.others

pub returns-in-Err-write_row-clause-refused : goal.returns-in-Err-write_row-clause-refused
returns-in-Err-write_row-clause-refused g c =
    let p = c.args.parts.now in
    let q = c.remake.new.parts in
    let e = c.remake.ensures in
    let f = g.O.Objects.far p.worker in
    let h = g.O.Objects.far q.worker in
    let r = c.in-Ok.ensures.remade in
    let i = c.args.i in
    let d = c.write_row.ensures in
    let w = c.write_row.new.parts in
    let m = g.O.Objects.far w.worker in
    let b = c.take_back.ensures in
    let t = c.take_back.new.parts in
    let n = g.O.Objects.far t.worker in
    undone_rows f h m n p.blocks.items q.blocks.items w.blocks.items p.per q.per t.per p.size q.size t.size p.len t.len i c.args.j c.in-Ok.was c.args.one.now c.args.two.now c.requires.sound c.requires.low c.requires.also r e.per e.size (b.per ∙ d.per ∙ e.per) (b.size ∙ d.size ∙ e.size) (b.len ∙ d.len ∙ e.len) t.blocks.items (λ k. (d.blocks k).items) c.in-Err-write_row.ensures.refused b.blocks b.others

pub returns-in-Err-write_row-clause-why : goal.returns-in-Err-write_row-clause-why
returns-in-Err-write_row-clause-why g c =
    inl (subst (λ b. IsWhyMissed (g.O.Objects.unreached b) c.in-Err-write_row.why) c.in-Ok.ensures.remade.wrote.honest c.in-Err-write_row.ensures.why)
