use Rattle.std.proofs.Common.{◌≡◌, ◌≢◌, ℕ, [], ◌∷◌, ◌++◌, ap, arith, refl, ◌∙◌}
use Rattle.std.specs.Prelude.{slice_index}
use Rattle.std.proofs.lemmas.List.{get_or-set_other, length-set}
use Rattle.far_word.specs.Header.{head_word}
use Rattle.far_word.specs.declared.version.Version.TheVariants.{First}
use Rattle.far_log.specs.declared.span.Span.{Span}
use Rattle.far_log.proofs.ConvertLaws.{next_read, next_stands, renewed_head, renewed_more}
use Rattle.far_log.proofs.WalkLaws.{walk_more}
use Rattle.far_log.proofs.converting.renew_headers.Goals as goal

pub known-pointer-requires : goal.known-pointer-requires
known-pointer-requires c =
    let done = c.loop-at.invariant.done in
    let all = c.requires.image in
    next_read (λ i. slice_index c.args.words.now i) c.args.tail c.loop-at.at done.0 all.0 done.1 all.1 c.loop-at-test.true

pub renumbered-pointer-requires : goal.renumbered-pointer-requires
renumbered-pointer-requires c =
    let done = c.loop-at.invariant.done in
    let all = c.requires.image in
    (next_stands (λ i. slice_index c.args.words.now i) c.args.tail c.loop-at.at done.0 all.0 done.1 all.1 c.loop-at-test.true c.known-pointer.result (c.type_inv.words c.loop-at.at).fits c.known-pointer.ensures).1.header.layout.cell

pub pack-requires : goal.pack-requires
pack-requires c =
    let done = c.loop-at.invariant.done in
    let all = c.requires.image in
    let h = c.known-pointer.result in
    rw (c.renumbered-pointer.ensures) (renewed_head First h.pointer h.len h.ds
    (next_stands (λ i. slice_index c.args.words.now i) c.args.tail c.loop-at.at done.0 all.0 done.1 all.1 c.loop-at-test.true h (c.type_inv.words c.loop-at.at).fits c.known-pointer.ensures).1.header.layout)

pub loop-at-preserved : goal.loop-at-preserved
loop-at-preserved c =
    let word : ℕ → ℕ = λ i. slice_index c.args.words.now i in
    let known = c.loop-at.invariant in
    let done = known.done in
    let all = c.requires.image in
    let at = c.loop-at.at in
    let h = c.known-pointer.result in
    let x : Span = record { at = at; p = h.pointer; len = h.len; ds = h.ds } in
    let stands = next_stands word c.args.tail at done.0 all.0 done.1 all.1 c.loop-at-test.true h (c.type_inv.words at).fits c.known-pointer.ensures in
    let w = c.pack.result in
    let is : w ≡ head_word _ h.len h.ds = c.pack.ensures ∙ ap (λ p. head_word p h.len h.ds) c.renumbered-pointer.ensures in
    record {
      below = omega (arith, c.size_of-at.ensures, stands.0);
      done = (
        done.0 ++ x ∷ [],
        rw (c.size_of-at.ensures) (walk_more word at done.0 x done.1 refl stands.1 (omega (arith, stands.0, all.1.inside))),
        renewed_more word c.loop-at.out at w c.args.tail done.0 x done.1.tile done.2 refl stands.0 (omega (arith, known.size, c.requires.room, c.loop-at-test.true)) is
            (λ i le lt. known.left i le ∙ c.requires.same i lt),
      );
      left = λ i le. let ne : i ≢ at = (λ e. omega (arith, e, le, c.size_of-at.ensures)) in get_or-set_other c.loop-at.out at i w 0 ne ∙ known.left i (omega (arith, le));
      size = length-set c.loop-at.out at w ∙ known.size;
    }
