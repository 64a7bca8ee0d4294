use Rattle.far_book.proofs.book.glancing.Book+Plain+D.glance.Given.{Over}
use Rattle.far_book.proofs.book.glancing.Book+Plain+D.glance.Goals.{After-len}
use Rattle.far_book.proofs.book.glancing.Book+Plain+D.glance.Goals as goal
use Rattle.std.proofs.Common.{◌≡◌, ◌∙◌, ◌≤◌, ◌+◌, ℕ, true, ap, arith, refl, subst, sym, length, List}
use Rattle.std.specs.Prelude.{Ok, is_ok, slice_range, IfSome}
use Rattle.std.proofs.lemmas.Bool.{true≢false}
use Rattle.std.specs.Vec.{vec_capacity}
use Rattle.far_word.specs.declared.pointer.PtrWord.TheVariants.{Far}
use Rattle.far_word.specs.Pointer.{read_of}
use Rattle.far_core.specs.state.CoreState.{core_state}
use Rattle.far_hand.specs.declared.plain.Plain.{Plain}
use Rattle.far_book.specs.book.BookOf.{BookOf}
use Rattle.far_book.specs.book.Fetching.{IsFar, far_len}
use Rattle.far_book.specs.book.Glancing.{bytes_there, len_there}
use Rattle.far_book.specs.book.Placing.{core_in}
use Rattle.far_book.proofs.region.Glancing.{as_long, as_stored, still_in_order}

-- ---- once the length was had of what the device gave
far_in : (g : Over) (c : After-len g) → IsFar (core_state c.self.inside.near.core) c.args.pointer
far_in g c = subst (λ (b : BookOf Plain g.row.D.Denot). IsFar (core_in b) c.args.pointer) (sym c.self.view_is) c.requires.far

wanted : (g : Over) (c : After-len g) → c.pointer_len-len.result ≡ len_there (core_state c.self.inside.near.core) c.args.pointer
wanted g c = let far = far_in g c in c.pointer_len-len.ensures (Far far.len far.ds far.marks) (ap read_of c.cell.ensures ∙ far.far) ∙ sym (ap far_len far.far)

there : (g : Over) (c : After-len g) → len_there (core_state c.self.inside.near.core) c.args.pointer ≡ len_there (core_in c.args.self.now) c.args.pointer
there g c = ap (λ (b : BookOf Plain g.row.D.Denot). len_there (core_in b) c.args.pointer) c.self.view_is

given : (g : Over) (c : After-len g) → (core_in c.args.self.now).honest ≡ true → IfSome (g.D.Device.contents c.self.inside.device c.args.pointer) (λ stored. c.read_into.new.buffer.items ≡ stored)
given g c promised = c.in-Ok.ensures.given (c.self.invariant.0.honest (ap (λ (b : BookOf Plain g.row.D.Denot). (core_in b).honest) c.self.view_is ∙ promised))

called : (g : Over) (c : After-len g) → g.D.Device.reads c.args.self.now.device c.args.pointer (Ok c.read_into.new.buffer.items) c.read_into.new.self
called g c = subst (λ (b : BookOf Plain g.row.D.Denot). g.D.Device.reads b.device c.args.pointer (Ok c.read_into.new.buffer.items) c.read_into.new.self) c.self.view_is c.in-Ok.ensures.called

-- how long what the device gave is
has : (g : Over) (c : After-len g) → c.len.result ≡ length c.read_into.new.buffer.items
has g c = omega (arith, c.len.ensures, c.read_into.new.buffer.ok.0)

pub invariant_of-self : goal.invariant_of-self
invariant_of-self g c = (
  still_in_order (core_state c.self.inside.near.core) c.self.inside.ledger _ _ _ _ c.read_into.ensures.kept (g.met.D.Device.read_follows _ _ _ _ c.read_into.ensures.called).honest c.self.invariant.0,
  omega (arith, c.self.invariant.1, c.read_into.ensures.room),
)

pub invariant_of-self-in-Err-Device : goal.invariant_of-self-in-Err-Device
invariant_of-self-in-Err-Device g c = (
  still_in_order (core_state c.self.inside.near.core) c.self.inside.ledger _ _ _ _ c.read_into.ensures.kept (g.met.D.Device.read_follows _ _ _ _ c.read_into.ensures.called).honest c.self.invariant.0,
  omega (arith, c.self.invariant.1, c.read_into.ensures.room),
)

pub invariant_of-self-then-len : goal.invariant_of-self-then-len
invariant_of-self-then-len g c = (
  still_in_order (core_state c.self.inside.near.core) c.self.inside.ledger _ _ _ _ c.read_into.ensures.kept (g.met.D.Device.read_follows _ _ _ _ c.read_into.ensures.called).honest c.self.invariant.0,
  omega (arith, c.self.invariant.1, c.read_into.ensures.room),
)

pub returns-then-len-clause-glances : goal.returns-then-len-clause-glances
returns-then-len-clause-glances g c =
    let x = (goal.at.returns-then-len-clause-glances g c).After-len in record {
      near = ap (λ (b : BookOf Plain g.row.D.Denot). b.near) c.self.view_is;
      order = ap (λ (b : BookOf Plain g.row.D.Denot). b.order) c.self.view_is;
      held = c.read_into.ensures.kept ∙ ap (λ (b : BookOf Plain g.row.D.Denot). g.D.Device.contents b.device) c.self.view_is;
      read = λ _. tt;
      whole = λ promised _. c.if-len.true (has g x ∙ as_long (core_state c.self.inside.near.core) c.self.inside.ledger _ _ c.self.invariant.0 c.args.pointer (far_in g x) c.read_into.new.buffer.items (given g x promised) ∙ sym (wanted g x));
      called = (c.read_into.new.buffer.items, called g x, λ same. c.if-len.true (has g x ∙ same ∙ sym (there g x) ∙ sym (wanted g x)));
    }

-- ---- once the bytes were copied
long : (g : Over) (c : After-len g) → c.len.result ≡ c.pointer_len-len.result → length c.read_into.new.buffer.items ≡ len_there (core_in c.args.self.now) c.args.pointer
long g c same = sym (has g c) ∙ same ∙ wanted g c ∙ there g c

pub slice_bounds-copy_from_slice-end : goal.slice_bounds-copy_from_slice-end
slice_bounds-copy_from_slice-end g c = omega (arith, c.requires.inside, long g (goal.at.slice_bounds-copy_from_slice-end g c).After-len c.if-len.false, ap length c.deref.ensures.value)

pub invariant_of-self-2 : goal.invariant_of-self-2
invariant_of-self-2 g c = (
  still_in_order (core_state c.self.inside.near.core) c.self.inside.ledger _ _ _ _ c.read_into.ensures.kept (g.met.D.Device.read_follows _ _ _ _ c.read_into.ensures.called).honest c.self.invariant.0,
  omega (arith, c.self.invariant.1, c.read_into.ensures.room),
)

copied : (new was items : List ℕ) (from n : ℕ) → new ≡ slice_range was from (from + n) → was ≡ items → length new ≡ n → new ≡ slice_range items from (from + length new)
copied new was items from n is same long = is ∙ ap (λ (xs : List ℕ). slice_range xs from (from + n)) same ∙ ap (λ k. slice_range items from (from + k)) (sym long)

pub returns-clause-glances : goal.returns-clause-glances
returns-clause-glances g c =
    let x = (goal.at.returns-clause-glances g c).After-len in
    let out = copied c.copy_from_slice.new.self c.deref.result.now c.read_into.new.buffer.items c.args.from (length c.args.out.now) c.copy_from_slice.ensures.after c.deref.ensures.value c.copy_from_slice.ensures.len in record {
      near = ap (λ (b : BookOf Plain g.row.D.Denot). b.near) c.self.view_is;
      order = ap (λ (b : BookOf Plain g.row.D.Denot). b.order) c.self.view_is;
      held = c.read_into.ensures.kept ∙ ap (λ (b : BookOf Plain g.row.D.Denot). g.D.Device.contents b.device) c.self.view_is;
      read = λ promised. out ∙ ap (λ (xs : List ℕ). slice_range xs c.args.from (c.args.from + length c.copy_from_slice.new.self))
          (as_stored (core_state c.self.inside.near.core) c.self.inside.ledger _ _ c.self.invariant.0 c.args.pointer (far_in g x) c.read_into.new.buffer.items (given g x promised)
          (ap (λ (b : BookOf Plain g.row.D.Denot). (core_in b).honest) c.self.view_is ∙ promised) ∙ ap (λ (b : BookOf Plain g.row.D.Denot). bytes_there (core_in b) c.args.pointer) c.self.view_is);
      whole = λ _ e. true≢false (ap is_ok e);
      called = (c.read_into.new.buffer.items, called g x, long g x c.if-len.false, out);
    }
