use Rattle.std.proofs.Common.{◌≡◌, ◌≢◌, ℕ, ◌≤◌, List, [], ◌∷◌, length, Option, Some, refl, sym, ◌∙◌, ap, subst, below_more}
use Rattle.std.specs.Bool.{Decides}
use Rattle.far_objects.specs.Far.{Far}
use Rattle.far_index.specs.declared.slot.Slot.TheVariants.{Empty, Full}
use Rattle.far_index.specs.Slots.{slot_at}
use Rattle.far_index.specs.Tags.{tag_of}
use Rattle.far_seen.specs.declared.near.Near.{Near}
use Rattle.far_seen.specs.Parts.{stamp_at, stamp_in, line_at, plain}
use Rattle.far_seen.specs.Stored.{with_longs}
use Rattle.far_seen.proofs.Told.{other_here, tag_here}
use Rattle.far_seen.proofs.steps.find.Goals.{in-Other, in-Tag+in-Ok-false}
use Rattle.far_seen.proofs.steps.find.Goals as goal

pub holds-requires-clause-held : goal.holds-requires-clause-held
holds-requires-clause-held g c =
    let was = c.loop-place.invariant in
    let slot : slot_at c.args.parts.now.near.slots c.loop-place.place ≡ Full c.args.tag c.in-Tag.number =
    ap (λ (n : Near). slot_at n.slots c.loop-place.place) (sym was.near) ∙ c.in-Tag.ensures.tag c.in-Tag.number refl in
    let held = c.requires.sound.held c.loop-place.place c.args.tag c.in-Tag.number slot in
    (held.0, (λ i. (with_longs (was.far i) (was.longs i).items).sizes c.in-Tag.number) ∙ held.1)

pub holds-requires-clause-tagged : goal.holds-requires-clause-tagged
holds-requires-clause-tagged g c = λ xs o there.
    let was = c.loop-place.invariant in
    let slot : slot_at c.args.parts.now.near.slots c.loop-place.place ≡ Full c.args.tag c.in-Tag.number =
    ap (λ (n : Near). slot_at n.slots c.loop-place.place) (sym was.near) ∙ c.in-Tag.ensures.tag c.in-Tag.number refl in
    c.requires.sound.tagged (ap (λ (t : Far). t.honest) (sym was.far) ∙ o) c.loop-place.place c.args.tag c.in-Tag.number xs slot
    ((λ i. (with_longs (sym was.far i) (sym was.longs i).items).bytes c.in-Tag.number) ∙ there)
    ∙ ap (λ (n : Near). tag_of n.seed xs) (sym was.near)

pub loop-place-preserved : goal.loop-place-preserved
loop-place-preserved g c =
    let was = c.loop-place.invariant in
    let place = c.loop-place.place in
    let f = with_longs (g.O.Objects.far c.args.parts.now.store.worker) c.args.parts.now.store.longs.items in
    let p = plain f c.args.parts.now.near in
    elim c.match-meet.branch [
      | in-Other w ↦ record {
        far = (λ i. g.O.Objects.far (w.parts-is i).store.worker) ∙ was.far;
        longs = (λ i. (w.parts-is i).store.longs) ∙ was.longs;
        near = (λ i. (w.parts-is i).near) ∙ was.near;
        none = λ o j low up. below_more (λ k. c.home_of-home.result ≤ k → (slot_at p.slots k ≢ Empty) × (line_at f.bytes p.slots k ≢ Some c.args.line.now)) place
            (λ k h l. was.none o k l h)
            (λ l. other_here p c.requires.sound place c.args.tag c.args.line.now c.requires.tag o
            (subst (λ (n : Near). (slot_at n.slots place ≢ Empty) × ((h : ℕ) → slot_at n.slots place ≢ Full c.args.tag h)) was.near (w.in-Other.ensures.other refl)))
            j up low;
      }
      | in-Tag+in-Ok-false w ↦
          let number = w.in-Tag.number in
          let slot : slot_at p.slots place ≡ Full c.args.tag number = ap (λ (n : Near). slot_at n.slots place) (sym was.near) ∙ w.in-Tag.ensures.tag number refl in
          record {
            far = (λ i. g.O.Objects.far (w.parts-is i).store.worker) ∙ w.in-Ok-false.ensures.far ∙ was.far;
            longs = (λ i. (w.parts-is i).store.longs) ∙ w.in-Ok-false.ensures.longs ∙ was.longs;
            near = (λ i. (w.parts-is i).near) ∙ was.near;
            none = λ o j low up. below_more (λ k. c.home_of-home.result ≤ k → (slot_at p.slots k ≢ Empty) × (line_at f.bytes p.slots k ≢ Some c.args.line.now)) place
                (λ k h l. was.none o k l h)
                (λ l. tag_here p place c.args.tag number c.args.line.now w.in-Ok-false.field-0 slot
                (subst (λ (b : Option (List ℕ)). Decides w.in-Ok-false.field-0 (b ≡ Some c.args.line.now)) (λ i. (with_longs (was.far i) (was.longs i).items).bytes number)
                (w.in-Ok-false.ensures.holds (ap (λ (t : Far). t.honest) was.far ∙ o)))
                w.in-Ok-false.field-0-test)
                j up low;
          }
    ]

pub returns-in-Ok-true-clause-known : goal.returns-in-Ok-true-clause-known
returns-in-Ok-true-clause-known g c = λ e.
    let was = c.loop-place.invariant in
    let number = c.in-Tag.number in
    let sizes = (with_longs (g.O.Objects.far c.args.parts.now.store.worker) c.args.parts.now.store.longs.items).sizes in
    let slot : slot_at c.args.parts.now.near.slots c.loop-place.place ≡ Full c.args.tag number = ap (λ (n : Near). slot_at n.slots c.loop-place.place) (sym was.near) ∙ c.in-Tag.ensures.tag number refl in
    let size : sizes number ≡ Some (length c.args.line.now) = (λ i. (with_longs (sym was.far i) (sym was.longs i).items).sizes number) ∙ c.in-Ok-true.ensures.long c.in-Ok-true.field-0-test in (
      c.loop-place.place,
      ap (stamp_in sizes) slot ∙ ap (stamp_at c.args.tag) size ∙ ap (λ t. Some (t ∷ length c.args.line.now ∷ [])) c.requires.tag,
    )
