use Rattle.far_book.proofs.book.Book.cell_of.Given.{Over}
use Rattle.far_book.proofs.book.Book.cell_of.Goals.{In-Some}
use Rattle.far_book.proofs.book.Book.cell_of.Goals as goal
use Rattle.std.proofs.Common.{◌≡◌, ◌∙◌, ℕ, ap, refl, sym, subst}
use Rattle.std.specs.Prelude.{IfSome}
use Rattle.far_events.specs.state.State.{State}
use Rattle.far_events.proofs.Put.{put_same}
use Rattle.far_hand.proofs.Closure.{no_call}
use Rattle.far_hand.proofs.Finding.{finds_is}
use Rattle.far_book.proofs.region.Renamings.{same_seen}

-- the word that is given is the cell's
given : (g : Over) (c : In-Some g) → c.in-Some.word ≡ (g.N.Near.view c.args.self.now.near).cell c.args.pointer
given g c = subst (λ o. IfSome o (λ (w : ℕ). w ≡ (g.N.Near.view c.args.self.now.near).cell c.args.pointer)) c.in-Some.is c.requires.known

pub returns-in-Some-clause-found : goal.returns-in-Some-clause-found
returns-in-Some-clause-found g c = finds_is ((g.N.Near.view c.args.self.now.near).cell c.args.pointer) c.in-Some.word (given g (goal.at.returns-in-Some-clause-found g c).In-Some)

pub returns-in-Some-clause-now : goal.returns-in-Some-clause-now
returns-in-Some-clause-now g c = given g (goal.at.returns-in-Some-clause-now g c).In-Some

pub returns-in-Some-clause-kept : goal.returns-in-Some-clause-kept
returns-in-Some-clause-kept g c = sym (same_seen (g.N.Near.view c.args.self.now.near) c.args.pointer c.in-Some.word 0 (given g (goal.at.returns-in-Some-clause-kept g c).In-Some))

pub returns-in-Some-clause-exact : goal.returns-in-Some-clause-exact
returns-in-Some-clause-exact g c still = given g (goal.at.returns-in-Some-clause-exact g c).In-Some

pub returns-in-None-clause-now : goal.returns-in-None-clause-now
returns-in-None-clause-now g c =
    sym (ap (λ (x : State). x.cell c.args.pointer) c.see.ensures.kept ∙ put_same (g.N.Near.view c.args.self.now.near).cell c.args.pointer c.see.result c.args.pointer refl)

pub returns-in-Some-clause-unseen : goal.returns-in-Some-clause-unseen
returns-in-Some-clause-unseen g c = subst (λ o. IfSome o (λ (w : ℕ). (c.in-Some.word ≡ w) × (c.args.self.now ≡ c.args.self.now))) (sym c.in-Some.is) (refl, refl)

pub returns-in-None-clause-unseen : goal.returns-in-None-clause-unseen
returns-in-None-clause-unseen g c = subst (λ o. IfSome o (λ (w : ℕ). (c.see.result ≡ w) × (c.see.new.self ≡ c.args.self.now))) (sym c.in-None.is) tt

pub see-requires : goal.see-requires
see-requires g c = record { pointer = c.requires.pointer }

pub returns-in-Some-clause-set : goal.returns-in-Some-clause-set
returns-in-Some-clause-set g c _ = refl

pub returns-in-Some-clause-came : goal.returns-in-Some-clause-came
returns-in-Some-clause-came g c = no_call refl

pub returns-in-Some-clause-order : goal.returns-in-Some-clause-order
returns-in-Some-clause-order g c = refl

pub returns-in-Some-clause-device : goal.returns-in-Some-clause-device
returns-in-Some-clause-device g c = refl

pub returns-in-None-clause-found : goal.returns-in-None-clause-found
returns-in-None-clause-found g c = c.see.ensures.found

pub returns-in-None-clause-kept : goal.returns-in-None-clause-kept
returns-in-None-clause-kept g c = c.see.ensures.kept

pub returns-in-None-clause-exact : goal.returns-in-None-clause-exact
returns-in-None-clause-exact g c = c.see.ensures.exact

pub returns-in-None-clause-set : goal.returns-in-None-clause-set
returns-in-None-clause-set g c = c.see.ensures.set

pub returns-in-None-clause-came : goal.returns-in-None-clause-came
returns-in-None-clause-came g c = c.see.ensures.came

pub returns-in-None-clause-order : goal.returns-in-None-clause-order
returns-in-None-clause-order g c = c.see.ensures.order

pub returns-in-None-clause-device : goal.returns-in-None-clause-device
returns-in-None-clause-device g c = c.see.ensures.device
