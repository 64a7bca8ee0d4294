use Rattle.std.proofs.Common.{◌∙◌, ◌+◌, ◌++◌, ◌∷◌, [], cond, ap, sym, refl, subst}
use Rattle.far_book.specs.book.BookOf.{BookOf}
use Rattle.far_evac.specs.AnyHand.{KnowsWalked}
use Rattle.far_evac.specs.BookStands.{stands}
use Rattle.far_evac.proofs.GivingBack.{given_known}
use Rattle.far_evac.proofs.OfferingFree.{freed_stands, freed_when, frees_so, kept_when}
use Rattle.far_evac.proofs.Walks.{walked_same}
use Rattle.far_evac.proofs.evac.offering.free_or_keep.Goals as goal

pub returns-then-release-clause-known : goal.returns-then-release-clause-known
returns-then-release-clause-known g c held =
    let s = g.N.Near.view c.args.book.now.near in
    let t = g.N.Near.view c.release.new.self.near in
    let e = c.release.ensures in
    let may = sym (frees_so s c.keeps_law.ensures.law c.args.log c.release.result e.vacant) ∙ c.if-release.true in
    let w = stands g.N.Near.view c.args.book.now c.args.progress.now held in
    let after = record c.args.progress.now { freed = c.args.progress.now.freed + 1 } in
    freed_when w (stands g.N.Near.view c.release.new.self after held) c.args.log may
    (freed_stands g.N.Near.view c.args.book.now c.release.new.self c.args.progress.now after held c.args.log
    (given_known s t c.args.log (e.kept c.if-release.true) (e.forgot c.if-release.true) c.keeps_law-then-release.ensures.law) (e.order c.if-release.true) refl)

pub returns-then-release-clause-kept : goal.returns-then-release-clause-kept
returns-then-release-clause-kept g c =
    let s = g.N.Near.view c.args.book.now.near in
    let may = sym (frees_so s c.keeps_law.ensures.law c.args.log c.release.result c.release.ensures.vacant) ∙ c.if-release.true in
    sym (ap (λ b. cond b c.args.kept.now (c.args.kept.now ++ c.args.log ∷ [])) may)

pub returns-else-release-clause-known : goal.returns-else-release-clause-known
returns-else-release-clause-known g c held =
    let s = g.N.Near.view c.args.book.now.near in
    let may = sym (frees_so s c.keeps_law.ensures.law c.args.log c.release.result c.release.ensures.vacant) ∙ c.if-release.false in
    let w = stands g.N.Near.view c.args.book.now c.args.progress.now held in
    kept_when w (stands g.N.Near.view c.release.new.self c.args.progress.now held) c.args.log may
    (subst (λ (b : BookOf g.row.N.Denot g.row.D.Denot). KnowsWalked w (stands g.N.Near.view b c.args.progress.now held)) (sym (c.release.ensures.unchanged c.if-release.false)) (walked_same w))

pub returns-else-release-clause-kept : goal.returns-else-release-clause-kept
returns-else-release-clause-kept g c =
    let s = g.N.Near.view c.args.book.now.near in
    let may = sym (frees_so s c.keeps_law.ensures.law c.args.log c.release.result c.release.ensures.vacant) ∙ c.if-release.false in
    c.push.ensures ∙ sym (ap (λ b. cond b c.args.kept.now (c.args.kept.now ++ c.args.log ∷ [])) may)
