use Rattle.std.proofs.Common.{◌≡◌, ◌≢◌, ℕ, ◌≤◌, List, [], ◌∷◌, length, Option, Some, refl, sym, ◌∙◌, ap, subst, below_more}
use Rattle.std.specs.Bool.{Decides}
use Rattle.far_objects.specs.Far.{Far}
use Rattle.far_index.specs.declared.slot.Slot.TheVariants.{Empty}
use Rattle.far_index.specs.Slots.{slot_at}
use Rattle.far_seen.specs.Listed.{all_of}
use Rattle.far_seen.specs.Parts.{line_at, plain}
use Rattle.far_seen.specs.Stored.{with_longs}
use Rattle.far_seen.proofs.Listing.{place_within}
use Rattle.far_seen.proofs.Placing.{place_is}
use Rattle.far_seen.proofs.Told.{other_here, tag_here}
use Rattle.far_seen.proofs.enter.find_line.Goals.{in-Other, in-Tag+in-Ok-false}
use Rattle.far_seen.proofs.enter.find_line.Goals as goal

pub is_at-requires-clause-held : goal.is_at-requires-clause-held
is_at-requires-clause-held g c =
    let was = c.loop-at.invariant in
    let held = c.requires.sound.held c.loop-at.at c.args.tag c.in-Tag.place (c.in-Tag.ensures.tag c.in-Tag.place refl) in
    (held.0, (λ i. (all_of (was.far i) (was.longs i).items c.args.numbers.now).sizes c.in-Tag.place) ∙ held.1)

pub returns-in-Ok-true-clause-within : goal.returns-in-Ok-true-clause-within
returns-in-Ok-true-clause-within g c =
    let held = c.requires.sound.held c.loop-at.at c.args.tag c.in-Tag.place (c.in-Tag.ensures.tag c.in-Tag.place refl) in
    place_within (with_longs (g.O.Objects.far c.args.store.now.worker) c.args.store.now.longs.items).sizes c.args.numbers.now c.in-Tag.place held.0 held.1

pub returns-in-Ok-true-clause-known : goal.returns-in-Ok-true-clause-known
returns-in-Ok-true-clause-known g c =
    let was = c.loop-at.invariant in
    let place = c.in-Tag.place in
    let f = all_of (g.O.Objects.far c.args.store.now.worker) c.args.store.now.longs.items c.args.numbers.now in
    let size : f.sizes place ≡ Some (length c.args.line.now) = (λ i. (all_of (sym was.far i) (sym was.longs i).items c.args.numbers.now).sizes place) ∙ c.in-Ok-true.ensures.long c.in-Ok-true.field-0-test in
    place_is (plain f c.args.near.now) c.requires.sound c.loop-at.at c.args.tag place (length c.args.line.now) (c.in-Tag.ensures.tag place refl) size
    ∙ ap (λ t. Some (t ∷ length c.args.line.now ∷ [])) c.requires.tag

pub loop-at-preserved : goal.loop-at-preserved
loop-at-preserved g c =
    let was = c.loop-at.invariant in
    let at = c.loop-at.at in
    let f = all_of (g.O.Objects.far c.args.store.now.worker) c.args.store.now.longs.items c.args.numbers.now in
    let p = plain f c.args.near.now in
    elim c.match-meet.branch [
      | in-Other w ↦ record {
        far = (λ i. g.O.Objects.far (w.store-is i).worker) ∙ was.far;
        longs = (λ i. (w.store-is i).longs) ∙ was.longs;
        none = λ o j low up. below_more (λ k. c.home_of-home.result ≤ k → (slot_at p.slots k ≢ Empty) × (line_at f.bytes p.slots k ≢ Some c.args.line.now)) at
            (λ k h l. was.none o k l h) (λ l. other_here p c.requires.sound at c.args.tag c.args.line.now c.requires.tag o (w.in-Other.ensures.other refl)) j up low;
      }
      | in-Tag+in-Ok-false w ↦
          let place = w.in-Tag.place in
          record {
            far = (λ i. g.O.Objects.far (w.store-is i).worker) ∙ w.in-Ok-false.ensures.far ∙ was.far;
            longs = (λ i. (w.store-is i).longs) ∙ w.in-Ok-false.ensures.longs ∙ was.longs;
            none = λ o j low up. below_more (λ k. c.home_of-home.result ≤ k → (slot_at p.slots k ≢ Empty) × (line_at f.bytes p.slots k ≢ Some c.args.line.now)) at
                (λ k h l. was.none o k l h)
                (λ l. tag_here p at c.args.tag place c.args.line.now w.in-Ok-false.field-0 (w.in-Tag.ensures.tag place refl)
                (subst (λ (b : Option (List ℕ)). Decides w.in-Ok-false.field-0 (b ≡ Some c.args.line.now)) (λ i. (all_of (was.far i) (was.longs i).items c.args.numbers.now).bytes place)
                (w.in-Ok-false.ensures.holds (ap (λ (t : Far). t.honest) was.far ∙ o)))
                w.in-Ok-false.field-0-test)
                j up low;
          }
    ]
