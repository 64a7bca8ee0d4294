use Rattle.std.proofs.Common.{◌^◌, arith}
use Rattle.far_word.specs.Mark.{bit_of, marks_number}
use Rattle.far_word.proofs.PointerLaws.{near_sum, far_sum, marks_small}
use Rattle.far_word.proofs.Words.{bit_small, byte_bit, no_wrap}
use Rattle.far_word.proofs.pointer.PtrWord.pack.Goals as goal

pub returns-in-Near : goal.returns-in-Near
returns-in-Near c =
    let ok = rw c.in-Near.is at c.requires in
    rw (c.in-Near.is, c.pack.ensures, no_wrap c.in-Near.ds (2 ^ 16) (omega arith), no_wrap c.in-Near.place.at (2 ^ 24) (omega arith), no_wrap c.in-Near.place.log (2 ^ 34) (omega arith), byte_bit c.in-Near.marks.dirty, no_wrap (bit_of c.in-Near.marks.dirty) (2 ^ 57) (omega (arith, bit_small c.in-Near.marks.dirty)))
    (near_sum c.in-Near.len c.in-Near.ds c.in-Near.place.at c.in-Near.place.log (bit_of c.in-Near.marks.dirty) (marks_number c.in-Near.marks) (omega arith) (omega arith) (omega arith) (omega arith) (bit_small c.in-Near.marks.dirty) (marks_small c.in-Near.marks))

pub returns-in-Far : goal.returns-in-Far
returns-in-Far c =
    let ok = rw c.in-Far.is at c.requires in
    rw (c.in-Far.is, c.pack-in-Far.ensures, no_wrap c.in-Far.ds (2 ^ 16) (omega arith))
    (far_sum c.in-Far.len c.in-Far.ds (marks_number c.in-Far.marks) (omega arith) (omega arith) (marks_small c.in-Far.marks))
