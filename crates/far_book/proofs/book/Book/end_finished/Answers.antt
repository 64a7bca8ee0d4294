use Rattle.far_book.proofs.book.Book.end_finished.Given.{Over}
use Rattle.far_book.proofs.book.Book.end_finished.Goals.{After-empty_finished, After-empty_finished-2, then-void-via-then-void, then-void-via-else-void+then-is_dropped}
use Rattle.far_book.proofs.book.Book.end_finished.Goals as goal
use Rattle.std.proofs.Common.{◌≡◌, ◌∙◌, Bool, ap, refl, subst, sym, true, false, cond, ℕ, Option, Some, None}
use Rattle.std.specs.Prelude.{◌||◌, IsSome, not}
use Rattle.std.proofs.lemmas.Bool.{false≢true, true≢false}
use Rattle.far_word.specs.declared.pointer.PtrWord.{PtrWord}
use Rattle.far_word.specs.Job.{job_of}
use Rattle.far_word.specs.Pointer.{read_of}
use Rattle.far_events.specs.events.Collect.{collected}
use Rattle.far_events.specs.events.Naming.{is_dropped}
use Rattle.far_events.specs.state.Jobs.{is_finished}
use Rattle.far_events.specs.state.Spans.{names_place}
use Rattle.far_events.specs.state.State.{State}
use Rattle.far_hand.specs.Finds.{Finds}
use Rattle.far_book.specs.book.Collecting.{Empties, GoesAsFound, IsDropped, IsNamed, Names, fate_in, is_named, is_void, made_of}
use Rattle.far_hand.proofs.Closure.{then_came}
use Rattle.far_hand.proofs.Finding.{finds_same}
use Rattle.far_book.proofs.region.Going.{fate_finished, goes_empty, goes_empty_dropped, goes_named, void_same}
use Rattle.far_core.proofs.events.Look.{or_right}

-- ---- what is asked of what is called
unvoid : (a b : Bool) → (not a || not b) ≡ false → (a ≡ true) × (b ≡ true)
unvoid true true h = (refl, refl)
unvoid true false h = absurd (true≢false h)
unvoid false b h = absurd (true≢false h)

read_so : (o : Option PtrWord) (log at : ℕ) → names_place o log at ≡ true → IsSome o
read_so None log at h = absurd (false≢true h)
read_so (Some r) log at h = refl

pub is_dropped-requires : goal.is_dropped-requires
is_dropped-requires g c =
    let from = c.args.what.from in
    read_so (read_of c.args.cell) from.log from.at (unvoid _ (names_place (read_of c.args.cell) from.log from.at) (sym c.requires.void ∙ c.if-void.false)).1

pub empty_finished-requires-clause-range : goal.empty_finished-requires-clause-range
empty_finished-requires-clause-range g c = c.requires.range

pub empty_finished-requires-clause-seen : goal.empty_finished-requires-clause-seen
empty_finished-requires-clause-seen g c = c.requires.seen

pub empty_finished-requires-clause-finished : goal.empty_finished-requires-clause-finished
empty_finished-requires-clause-finished g c = ap is_finished c.requires.finished.1

pub name_copy-named-requires : goal.name_copy-named-requires
name_copy-named-requires g c =
    let from = c.args.what.from in
    let x = unvoid _ (names_place (read_of c.args.cell) from.log from.at) (sym c.requires.void ∙ c.if-void.false) in
    record {
      number = c.requires.range;
      copier = c.requires.finished.0;
      finished = ap job_of (sym c.requires.seen) ∙ c.requires.finished.1;
      good = x.0;
      found = c.requires.found;
      lies = x.1;
      alive = sym c.is_dropped.ensures.value ∙ c.if-is_dropped.false;
    }

-- ---- the job is void, or the object dropped
emptied : (g : Over) (c : After-empty_finished g) → fate_in (g.N.Near.view c.args.self.now.near) c.args.job c.args.what ((g.N.Near.view c.args.self.now.near).copying.word c.args.job) ((g.N.Near.view c.args.self.now.near).cell c.args.what.pointer) ≡ Empties
emptied g c =
    let s = g.N.Near.view c.args.self.now.near in
    let what = c.args.what in
    let says = c.requires.finished in
    let void = is_void s c.args.job what (read_of (s.cell what.pointer)) in
    let dropped = is_dropped (read_of (s.cell what.pointer)) in
    let either : (void || dropped) ≡ true = elim c.then-void.branch [
      | then-void-via-then-void w ↦ ap (λ v. is_void s c.args.job what (read_of v) || dropped) (sym c.requires.found) ∙ ap (λ b. b || dropped) (sym c.requires.void ∙ w.if-void.true)
      | then-void-via-else-void+then-is_dropped w ↦ or_right void dropped (ap (λ v. is_dropped (read_of v)) (sym c.requires.found) ∙ sym w.is_dropped.ensures.value ∙ w.if-is_dropped.true)
    ] in
    ap (λ w. fate_in s c.args.job what w (s.cell what.pointer)) (sym c.requires.seen) ∙ fate_finished (job_of c.args.word) what says.0 void dropped says.1 ∙ ap (λ b. cond b Empties Names) either

pub returns-then-void-clause-goes : goal.returns-then-void-clause-goes
returns-then-void-clause-goes g c =
    let s = g.N.Near.view c.args.self.now.near in
    subst (λ (t : State). GoesAsFound s t c.args.job c.args.what false) (sym c.empty_finished.ensures.done) (goes_empty s c.args.job c.args.what (emptied g (goal.at.returns-then-void-clause-goes g c).After-empty_finished))

pub returns-then-void-clause-exact : goal.returns-then-void-clause-exact
returns-then-void-clause-exact g c still =
    let s = g.N.Near.view c.args.self.now.near in
    ap (λ f. (made_of s c.args.job c.args.what f, is_named f)) (emptied g (goal.at.returns-then-void-clause-exact g c).After-empty_finished) ∙ ap (λ (t : State). (t, false)) (sym c.empty_finished.ensures.done)

pub returns-then-void-clause-came : goal.returns-then-void-clause-came
returns-then-void-clause-came g c = c.empty_finished.ensures.came

pub returns-then-void-clause-order : goal.returns-then-void-clause-order
returns-then-void-clause-order g c = c.empty_finished.ensures.order

pub returns-then-void-clause-device : goal.returns-then-void-clause-device
returns-then-void-clause-device g c = c.empty_finished.ensures.device

-- ---- the object wasn't dropped, as it was found
module _ (g : Over) (c : After-empty_finished-2 g) where
  abbrev s : State
  s = g.N.Near.view c.args.self.now.near

  -- whatever is found then the job isn't void
  void_then : (v : ℕ) → Finds (s.cell c.args.what.pointer) v → is_void s c.args.job c.args.what (read_of v) ≡ false
  void_then v f = void_same s c.args.job c.args.what (s.cell c.args.what.pointer) v f ∙ ap (λ w. is_void s c.args.job c.args.what (read_of w)) (sym c.requires.found) ∙ sym c.requires.void ∙ c.if-void.false

  fate_then : (v : ℕ) (b : Bool) → Finds (s.cell c.args.what.pointer) v → is_dropped (read_of v) ≡ b → fate_in s c.args.job c.args.what (s.copying.word c.args.job) v ≡ cond b Empties Names
  fate_then v b f e =
      ap (λ w. fate_in s c.args.job c.args.what w v) (sym c.requires.seen) ∙ fate_finished (job_of c.args.word) c.args.what c.requires.finished.0 _ (is_dropped (read_of v)) c.requires.finished.1
      ∙ ap (λ x. cond (x || is_dropped (read_of v)) Empties Names) (void_then v f) ∙ ap (λ x. cond x Empties Names) e

  by_name : (b : Bool) → (b ≡ true → IsNamed s (g.N.Near.view c.name_copy-named.new.self.near) c.args.what) → (b ≡ false → IsDropped s (g.N.Near.view c.name_copy-named.new.self.near) c.args.what) →
      GoesAsFound s (g.N.Near.view c.empty_finished-2.new.self.near) c.args.job c.args.what b
  by_name true named dropped = let n = named refl in goes_named s c.args.job c.args.what _ _ n (fate_then n.cell false n.sees n.alive) c.empty_finished-2.ensures.done
  by_name false named dropped =
      let d = dropped refl in
      subst (λ (t : State). GoesAsFound s t c.args.job c.args.what false) (sym (c.empty_finished-2.ensures.done ∙ ap (λ (x : State). collected x c.args.job) d.is))
      (goes_empty_dropped s c.args.job c.args.what d.cell d.sees (fate_then d.cell true d.sees d.dropped))

pub returns-clause-goes : goal.returns-clause-goes
returns-clause-goes g c = by_name g c c.name_copy-named.result c.name_copy-named.ensures.named c.name_copy-named.ensures.dropped

pub returns-clause-came : goal.returns-clause-came
returns-clause-came g c = then_came c.name_copy-named.ensures.came c.empty_finished-2.ensures.came

pub returns-clause-exact : goal.returns-clause-exact
returns-clause-exact g c still =
    let h = (goal.at.returns-clause-exact g c).After-empty_finished-2 in
    let s = g.N.Near.view c.args.self.now.near in
    let p = c.args.what.pointer in
    let ex = c.name_copy-named.ensures.exact still in
    let alive : is_dropped (read_of (s.cell p)) ≡ false = ap (λ v. is_dropped (read_of v)) (sym c.requires.found) ∙ sym c.is_dropped.ensures.value ∙ c.if-is_dropped.false in
    let left = c.empty_finished-2.ensures.done ∙ ap (λ (x : State). collected x c.args.job) ex.1 in
    ap (λ f. (made_of s c.args.job c.args.what f, is_named f)) (fate_then g h (s.cell p) false (finds_same (s.cell p)) alive) ∙ (λ i. (sym left i, sym ex.0 i))

pub returns-clause-order : goal.returns-clause-order
returns-clause-order g c = c.empty_finished-2.ensures.order ∙ c.name_copy-named.ensures.order

pub returns-clause-device : goal.returns-clause-device
returns-clause-device g c = c.empty_finished-2.ensures.device ∙ c.name_copy-named.ensures.device
