use Rattle.std.proofs.Common.{◌+◌, ◌-◌, ℕ, List, length, ap, refl}
use borrow.Rule.Slice.PartMut.{put_mid}
use Rattle.far_heap.proofs.Parts.{spliced_after, spliced_before, spliced_inside, spliced_padding}
use Rattle.far_heap.proofs.ranges.spliced.Goals as goal

pub returns-clause-padding : goal.returns-clause-padding
returns-clause-padding c =
    let over : List ℕ → List ℕ = put_mid c.args.at (c.args.at + length c.args.bytes.now - c.args.at) c.write_u64.new.buf in
    spliced_padding c.args.word c.args.at c.args.room _ _ c.read_u64.result c.args.bytes.now c.write_u64.new.buf (over c.copy_from_slice.new.self) c.requires.fits c.requires.room c.requires.some refl refl _ refl
    c.write_u64.ensures (ap over c.copy_from_slice.ensures.after) (λ k. (c.type_inv.bytes k).fits) c.read_u64.ensures

pub returns-clause-inside : goal.returns-clause-inside
returns-clause-inside c =
    let over : List ℕ → List ℕ = put_mid c.args.at (c.args.at + length c.args.bytes.now - c.args.at) c.write_u64.new.buf in
    spliced_inside c.args.word c.args.at c.args.room _ _ c.read_u64.result c.args.bytes.now c.write_u64.new.buf (over c.copy_from_slice.new.self) c.requires.fits c.requires.room c.requires.some refl refl _ refl
    c.write_u64.ensures (ap over c.copy_from_slice.ensures.after) (λ k. (c.type_inv.bytes k).fits) c.read_u64.ensures

pub returns-clause-before : goal.returns-clause-before
returns-clause-before c =
    let over : List ℕ → List ℕ = put_mid c.args.at (c.args.at + length c.args.bytes.now - c.args.at) c.write_u64.new.buf in
    spliced_before c.args.word c.args.at c.args.room _ _ c.read_u64.result c.args.bytes.now c.write_u64.new.buf (over c.copy_from_slice.new.self) c.requires.fits c.requires.room c.requires.some refl refl _ refl
    c.write_u64.ensures (ap over c.copy_from_slice.ensures.after) (λ k. (c.type_inv.bytes k).fits) c.read_u64.ensures

pub returns-clause-after : goal.returns-clause-after
returns-clause-after c =
    let over : List ℕ → List ℕ = put_mid c.args.at (c.args.at + length c.args.bytes.now - c.args.at) c.write_u64.new.buf in
    spliced_after c.args.word c.args.at c.args.room _ _ c.read_u64.result c.args.bytes.now c.write_u64.new.buf (over c.copy_from_slice.new.self) c.requires.fits c.requires.room c.requires.some refl refl _ refl
    c.write_u64.ensures (ap over c.copy_from_slice.ensures.after) (λ k. (c.type_inv.bytes k).fits) c.read_u64.ensures
