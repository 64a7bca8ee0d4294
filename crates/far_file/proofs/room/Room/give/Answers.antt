use Rattle.std.proofs.Common.{◌<◌, length, arith}
use Rattle.far_file.proofs.Extending.{given, given_keeps, given_there}
use Rattle.far_file.proofs.room.Room.give.Goals as goal

pub invariant_of-self : goal.invariant_of-self
invariant_of-self c = record { apart = given c.args.self.now.extents.items c.args.page c.in-Some.extent c.args.self.now.below c.args.self.now.apart c.in-Some.ensures.some.0 }

pub returns-clause-there : goal.returns-clause-there
returns-clause-there c =
    let row = c.args.self.now.extents in
    let within : c.args.page < length row.items = omega (arith, c.requires.within, row.ok.0) in
    given_there row.items c.args.page c.in-Some.extent c.args.self.now.below c.args.self.now.apart c.in-Some.ensures.some.0 within

pub returns-clause-extents : goal.returns-clause-extents
returns-clause-extents c = given_keeps c.args.self.now.extents.items c.args.page c.in-Some.extent c.requires.none
