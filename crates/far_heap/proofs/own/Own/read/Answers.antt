use Rattle.std.proofs.Common.{◌≡◌, ℕ, Option, List, true, ap, sym, subst, ◌∙◌, arith, length}
use Rattle.std.specs.Prelude.{IfSome, ◌+◌, slice_range}
use Rattle.far_table.specs.Views.{object_at}
use Rattle.far_heap.specs.Mine.{Mine, bytes_in, len_in, views}
use Rattle.far_heap.proofs.Mines.{bytes_own, len_own, views_so}
use Rattle.far_heap.proofs.Spliced.{read_so}
use Rattle.far_heap.proofs.own.Own.read.Goals as goal

pub load_range-requires-clause-held : goal.load_range-requires-clause-held
load_range-requires-clause-held g c =
    let p : ℕ = c.args.view.pointer in
    (views_so c.self.inside.seat p (subst (λ (m : Mine). views m p ≡ true) (sym c.self.view_is) c.in-Ok.ensures.done.1)).1

pub load_range-requires-clause-inside : goal.load_range-requires-clause-inside
load_range-requires-clause-inside g c =
    let p : ℕ = c.args.view.pointer in
    let done = c.in-Ok.ensures.done in
    let own = (views_so c.self.inside.seat p (subst (λ (m : Mine). views m p ≡ true) (sym c.self.view_is) done.1)).0 in
    let len = sym (len_own c.self.inside.seat p own) ∙ ap (λ (m : Mine). len_in m p) c.self.view_is ∙ sym done.2 in
    omega (arith, len, done.4)

pub returns-clause-bytes : goal.returns-clause-bytes
returns-clause-bytes g c =
    let p : ℕ = c.args.view.pointer in
    let s = c.self.inside.seat in
    let out : List ℕ = c.load_range.new.out in
    let n : ℕ = length c.args.out.now in
    let done = c.in-Ok.ensures.done in
    let own = (views_so s p (subst (λ (m : Mine). views m p ≡ true) (sym c.self.view_is) done.1)).0 in
    let len = sym (len_own s p own) ∙ ap (λ (m : Mine). len_in m p) c.self.view_is ∙ sym done.2 in
    let P : Option (List ℕ) → Type 0 = λ x. IfSome x (λ bytes. out ≡ slice_range bytes c.args.from (c.args.from + n)) in
    subst (λ (m : Mine). P (bytes_in m p)) c.self.view_is (subst P (sym (bytes_own s p own))
    (read_so s.view.honest (object_at s.view p) out c.args.from n c.load_range.auto.out (omega (arith, len, done.4)) c.load_range.ensures.bytes))
