use Rattle.far_book.proofs.ledger.Ledger.retire.Goals as goal
use Rattle.std.proofs.Common.{subst}
use Rattle.far_word.specs.declared.pointer.PtrWord.TheVariants.{Near}
use Rattle.far_book.specs.declared.ledger.Ledger.{Ledger}
use Rattle.far_book.specs.book.Ledger.{MayRetire, Loses, Frees}
use Rattle.far_book.proofs.ledger.Ledger.retire.Goals.{in-Near, in-Far, in-Free}
use Rattle.far_book.proofs.region.Leaving.{loses_log, loses_size, loses_live, left_near, left_far, left_free}

pub lose-requires : goal.lose-requires
lose-requires c =
    let k = c.requires.known in
    let may : MayRetire k.0 c.args.pointer (Near c.in-Near.len c.in-Near.ds c.in-Near.place c.in-Near.marks) = subst (MayRetire k.0 c.args.pointer) c.in-Near.is k.2 in
    record {
      log = loses_log k.0 c.args.self.now k.1 c.args.pointer c.in-Near.len c.in-Near.ds c.in-Near.place c.in-Near.marks may;
      live = rw c.size_of.ensures (loses_live k.0 c.args.self.now k.1 c.args.pointer c.in-Near.len c.in-Near.ds c.in-Near.place c.in-Near.marks may);
      size = rw c.size_of.ensures (loses_size k.0 c.args.self.now k.1 c.args.pointer c.in-Near.len c.in-Near.ds c.in-Near.place c.in-Near.marks may);
    }

pub returns-clause-notes : goal.returns-clause-notes
returns-clause-notes c s notes may = elim c.match-was.branch [
  | in-Near w ↦ (let here : MayRetire s c.args.pointer (Near w.in-Near.len w.in-Near.ds w.in-Near.place w.in-Near.marks) = subst (MayRetire s c.args.pointer) w.in-Near.is may in
      left_near s c.args.self.now notes c.args.pointer w.in-Near.len w.in-Near.ds w.in-Near.place w.in-Near.marks here w.lose.new.self c.give.new.self
      (subst (Loses c.args.self.now w.lose.new.self w.in-Near.place.log) w.size_of.ensures w.lose.ensures)
      (subst (λ (l : Ledger). Frees l c.give.new.self c.args.pointer) w.self-is c.give.ensures))
  | in-Far w ↦ left_far s c.args.self.now notes c.args.pointer w.in-Far.len w.in-Far.ds w.in-Far.marks (subst (MayRetire s c.args.pointer) w.in-Far.is may) c.give.new.self
      (subst (λ (l : Ledger). Frees l c.give.new.self c.args.pointer) w.self-is c.give.ensures)
  | in-Free w ↦ absurd (left_free s c.args.self.now notes c.args.pointer (subst (MayRetire s c.args.pointer) w.in-Free.is may))
]
