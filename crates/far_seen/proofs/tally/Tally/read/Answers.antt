use Rattle.std.proofs.Common.{◌≡◌, ◌<◌, ◌+◌, Bool, true, false, Some, [], ◌∷◌, length, slice_get, inr, refl, sym, ◌∙◌, ap, arith}
use Rattle.std.proofs.lemmas.Option.{slice_get_read}
use Rattle.far_index.specs.declared.slot.Slot.TheVariants.{Full}
use Rattle.far_index.specs.Tags.{tag_of}
use Rattle.far_seen.specs.Lines.{stamp_of}
use Rattle.far_seen.specs.Listed.{all_of, counts_from, line_or_none, of_number, stamp_for}
use Rattle.far_seen.specs.Parts.{plain}
use Rattle.far_seen.specs.Stored.{with_longs}
use Rattle.far_seen.specs.Tallied.{Tallied, count_of, line_of}
use Rattle.far_seen.proofs.Counting.{count_there, counts_long, line_there}
use Rattle.far_seen.proofs.Listing.{has_size}
use Rattle.far_seen.proofs.Longs.{has_byte}
use Rattle.far_seen.proofs.Placing.{place_is}
use Rattle.far_seen.proofs.Wholes.{not_true}
use Rattle.far_seen.proofs.tally.Tally.read.Given.{Over}
use Rattle.far_seen.proofs.tally.Tally.read.Goals.{After-self, After-index}
use Rattle.far_seen.proofs.tally.Tally.read.Goals as goal

not_both : (b : Bool) → b ≡ false → b ≡ true → ⊥
not_both b e f = cc

-- the place is one of the list's
within : (g : Over) (c : After-self g) → c.args.place < length c.self.inside.roll.counts.items
within g c =
    let r = c.self.inside.roll in
    let b = (all_of (g.O.Objects.far r.store.worker) r.store.longs.items r.numbers.items).bytes in
    omega (arith, c.requires, counts_long b 0 r.counts.items, ap (λ (t : Tallied). length t.lines) c.self.view_is)

number_is : (g : Over) (c : After-index g) → c.args.place < length c.self.inside.roll.counts.items → slice_get c.self.inside.roll.numbers.items c.args.place ≡ Some c.index.result.now
number_is g c h =
    let r = c.self.inside.roll in
    slice_get_read r.numbers.items (length r.numbers.items) c.args.place c.index.result.now refl (omega (arith, h, c.self.invariant.2.long)) c.index.ensures

pub index-requires : goal.index-requires
index-requires g c = omega (arith, within g (goal.at.index-requires g c).After-self, c.self.invariant.2.long, c.self.inside.roll.numbers.ok.0)

pub read_line-requires-clause-held : goal.read_line-requires-clause-held
read_line-requires-clause-held g c =
    let r = c.self.inside.roll in
    let w = with_longs (g.O.Objects.far r.store.worker) r.store.longs.items in
    let f = all_of (g.O.Objects.far r.store.worker) r.store.longs.items r.numbers.items in
    let size = has_size (plain f r.near) r.numbers.items r.counts.items c.self.invariant.1 c.self.invariant.2 c.args.place (omega (arith, within g (goal.at.read_line-requires-clause-held g c).After-self, c.self.invariant.2.long)) in
    (size.0, ap (of_number w.sizes) (sym (number_is g (goal.at.read_line-requires-clause-held g c).After-index (within g (goal.at.read_line-requires-clause-held g c).After-self))) ∙ size.1)

pub returns-then-not-has_slot-clause-why : goal.returns-then-not-has_slot-clause-why
returns-then-not-has_slot-clause-why g c =
    let r = c.self.inside.roll in
    let w = with_longs (g.O.Objects.far r.store.worker) r.store.longs.items in
    let s = c.self.invariant.2.each c.args.place (omega (arith, within g (goal.at.returns-then-not-has_slot-clause-why g c).After-self, c.self.invariant.2.long)) in
    inr (inr (
      refl,
      not_true c.args.self.now.honest (λ h.
          let o : w.honest ≡ true = ap (λ (t : Tallied). t.honest) c.self.view_is ∙ h in
          let tag : s.1 ≡ c.tag_of_key-tag.result =
          c.self.invariant.1.tagged o s.0 s.1 c.args.place c.read_line.new.out.items s.2 (ap (of_number w.bytes) (number_is g (goal.at.returns-then-not-has_slot-clause-why g c).After-index (within g (goal.at.returns-then-not-has_slot-clause-why g c).After-self)) ∙ c.in-Ok.ensures.read o)
          ∙ ap (tag_of r.near.seed) (sym c.as_slice.ensures.value) ∙ sym c.tag_of_key-tag.ensures.is in
          not_both c.has_slot.result c.if-not-has_slot.true (c.has_slot.ensures.finds s.0 (s.2 ∙ ap (λ t. Full t c.args.place) tag))),
    ))

pub index-requires-2 : goal.index-requires-2
index-requires-2 g c = omega (arith, within g (goal.at.index-requires-2 g c).After-self, c.self.inside.roll.counts.ok.0)

pub returns-clause-line : goal.returns-clause-line
returns-clause-line g c = λ h.
    let r = c.self.inside.roll in
    let w = with_longs (g.O.Objects.far r.store.worker) r.store.longs.items in
    let f = all_of (g.O.Objects.far r.store.worker) r.store.longs.items r.numbers.items in
    let o : w.honest ≡ true = ap (λ (t : Tallied). t.honest) c.self.view_is ∙ h in
    let e : 0 + c.args.place ≡ c.args.place = omega arith in
    ap line_or_none (sym (c.in-Ok.ensures.read o) ∙ sym (ap (of_number w.bytes) (number_is g (goal.at.returns-clause-line g c).After-index (within g (goal.at.returns-clause-line g c).After-self))))
    ∙ ap (λ k. line_or_none (f.bytes k)) (sym e)
    ∙ sym (line_there f.bytes 0 r.counts.items c.args.place (within g (goal.at.returns-clause-line g c).After-self))
    ∙ ap (λ (t : Tallied). line_of t.lines c.args.place) c.self.view_is

pub returns-clause-count : goal.returns-clause-count
returns-clause-count g c =
    let r = c.self.inside.roll in
    let b = (all_of (g.O.Objects.far r.store.worker) r.store.longs.items r.numbers.items).bytes in
    sym (count_there b 0 r.counts.items c.args.place c.index-2.result.now (slice_get_read r.counts.items (length r.counts.items) c.args.place c.index-2.result.now refl (within g (goal.at.returns-clause-count g c).After-self) c.index-2.ensures))
    ∙ ap (λ (t : Tallied). count_of t.lines c.args.place) c.self.view_is

-- ---- whether or not the far side is honest
pub returns-clause-stamp : goal.returns-clause-stamp
returns-clause-stamp g c =
    let r = c.self.inside.roll in
    let w = with_longs (g.O.Objects.far r.store.worker) r.store.longs.items in
    let f = all_of (g.O.Objects.far r.store.worker) r.store.longs.items r.numbers.items in
    let read = c.read_line.new.out.items in
    let h = within g (goal.at.returns-clause-stamp g c).After-self in
    let slot = c.has_slot.ensures.found c.if-not-has_slot.false in
    let size : f.sizes c.args.place ≡ Some (length read) = ap (of_number w.sizes) (number_is g (goal.at.returns-clause-stamp g c).After-index h) ∙ c.in-Ok.ensures.long in
    let tag : tag_of r.near.seed read ≡ c.tag_of_key-tag.result = ap (tag_of r.near.seed) (sym c.as_slice.ensures.value) ∙ sym c.tag_of_key-tag.ensures.is in
    let e : 0 + c.args.place ≡ c.args.place = omega arith in
    ap (λ (t : Tallied). stamp_of t.seed read) (sym c.self.view_is)
    ∙ ap (λ t. t ∷ length read ∷ []) tag
    ∙ ap line_or_none (sym (place_is (plain f r.near) c.self.invariant.1 slot.0 c.tag_of_key-tag.result c.args.place (length read) slot.1 size))
    ∙ ap (λ k. line_or_none (stamp_for f.sizes r.near.slots k)) (sym e)
    ∙ sym (line_there (stamp_for f.sizes r.near.slots) 0 r.counts.items c.args.place h)
    ∙ ap (λ (t : Tallied). line_of t.stamps c.args.place) c.self.view_is

pub returns-clause-some : goal.returns-clause-some
returns-clause-some g c =
    let r = c.self.inside.roll in
    has_byte (g.O.Objects.far r.store.worker) r.store.longs.items (g.met.O.Objects.known r.store.worker) c.self.invariant.0 c.index.result.now (length c.read_line.new.out.items) c.in-Ok.ensures.long

pub returns-in-Err-clause-same : goal.returns-in-Err-clause-same
returns-in-Err-clause-same g c =
    let r = c.self.inside.roll in
    let read = c.in-Err.ensures in
    (λ i. record {
      honest = (read.far i).honest;
      lines = counts_from (all_of (read.far i) (read.longs i).items r.numbers.items).bytes 0 r.counts.items;
      seed = r.near.seed;
      stamps = counts_from (stamp_for (all_of (read.far i) (read.longs i).items r.numbers.items).sizes r.near.slots) 0 r.counts.items;
    }) ∙ c.self.view_is

pub returns-then-not-has_slot-clause-same : goal.returns-then-not-has_slot-clause-same
returns-then-not-has_slot-clause-same g c =
    let r = c.self.inside.roll in
    let read = c.in-Ok.ensures in
    (λ i. record {
      honest = (read.far i).honest;
      lines = counts_from (all_of (read.far i) (read.longs i).items r.numbers.items).bytes 0 r.counts.items;
      seed = r.near.seed;
      stamps = counts_from (stamp_for (all_of (read.far i) (read.longs i).items r.numbers.items).sizes r.near.slots) 0 r.counts.items;
    }) ∙ c.self.view_is

pub returns-clause-same : goal.returns-clause-same
returns-clause-same g c =
    let r = c.self.inside.roll in
    let read = c.in-Ok.ensures in
    (λ i. record {
      honest = (read.far i).honest;
      lines = counts_from (all_of (read.far i) (read.longs i).items r.numbers.items).bytes 0 r.counts.items;
      seed = r.near.seed;
      stamps = counts_from (stamp_for (all_of (read.far i) (read.longs i).items r.numbers.items).sizes r.near.slots) 0 r.counts.items;
    }) ∙ c.self.view_is
