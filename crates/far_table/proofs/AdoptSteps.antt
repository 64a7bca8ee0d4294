-- An adoption is its event of the core; or it is refused, and nothing changes but that the word found is noted.
use Rattle.std.proofs.Common.{◌≡◌, ◌+◌, ◌*◌, ◌/◌, ◌<◌, ℕ, zero, suc, Bool, true, false, cond, List, length, sym, refl, ap, ◌∙◌, subst, arith, Option, Some, None}
use Rattle.std.specs.Prelude.{slice_index, is_some, IsSome, replicate, not}
use Rattle.std.proofs.lemmas.Bool.{false≢true}
use mathlib.Core.Logic.{dite}
use mathlib.Core.Option.{some, none}
use mathlib.Core.Path.{fun_ext}
use native.Mathlib.Decide.{ℕ_discrete}
use lib.ListN.{get_elem?}
use lib.Seq.{set-get_or}
use Rattle.atomic_table.specs.Table.{Me, step, Allows}
use Rattle.far_word.specs.Bytes.{bytes_of, packed_word}
use Rattle.far_word.specs.declared.pointer.Place.{Place}
use Rattle.far_word.specs.declared.pointer.PtrWord.{PtrWord}
use Rattle.far_word.specs.declared.pointer.PtrWord.TheVariants.{Free, Near, Far}
use Rattle.far_word.specs.declared.sizes.TheConstants.{CELLS, POINTERS}
use Rattle.far_word.specs.Pointer.{read_of}
use Rattle.far_word.specs.Sizes.{words_for}
use Rattle.far_word.proofs.ByteLaws.{bytes_of-zeros, length-bytes_of}
use Rattle.far_events.specs.declared.event.Event.TheVariants.{Adopt}
use Rattle.far_events.specs.declared.event.Reply.TheVariants.{Word}
use Rattle.far_events.specs.events.Legal.{Legal}
use Rattle.far_events.specs.events.Step.{after}
use Rattle.far_events.specs.state.Law.{IsBlank, in_use}
use Rattle.far_events.specs.state.State.{State, addr, put}
use Rattle.far_core.specs.world.World.{Object, World, Group, FarSide}
use Rattle.far_core.specs.world.WorldOf.{object_of, world_of}
use Rattle.far_core.proofs.Owing.{does}
use Rattle.far_events.proofs.Put.{put_both, put_other, put_same}
use Rattle.far_table.specs.View.{BookView, ObjectView, OwnerView, View, Owner, OtherViews, with_owner}
use Rattle.far_table.specs.Layout.{cell_at, cell_in}
use Rattle.far_table.specs.Plays.{Adopted, AdoptTells}
use Rattle.far_table.specs.Rule.{Facts, Has, Running}
use Rattle.far_table.specs.StateOf.{state_of}
use Rattle.far_table.specs.Tells.{owner_of}
use Rattle.far_table.specs.Views.{adopted_view, fresh, held_at, noted_view, object_at, said_ds, said_len, uses, soiled_at}
use Rattle.far_table.proofs.Lift.{owner_allows}
use Rattle.far_table.proofs.Noting.{noted_facts}
use Rattle.far_table.proofs.Owners.{known_by, pointers_put, pointers_same, remembered_same}
use Rattle.far_table.proofs.OwnSteps.{OwnStep, has_on, is_mutator, own_facts, own_made, state_is}
use Rattle.far_table.proofs.Words.{cell_here, no_word}

-- ---- an object that no owner uses yet
abbrev zeros : ℕ → List ℕ
zeros n = replicate n 0

zeros_at : (n k : ℕ) → slice_index (zeros n) k ≡ 0
zeros_at zero k = refl
zeros_at (suc n) zero = refl
zeros_at (suc n) (suc k) = zeros_at n k

packed_zeros : (n i : ℕ) → packed_word (zeros n) i ≡ 0
packed_zeros n i = omega (arith, zeros_at n (8 * i), zeros_at n (8 * i + 1), zeros_at n (8 * i + 2), zeros_at n (8 * i + 3), zeros_at n (8 * i + 4), zeros_at n (8 * i + 5), zeros_at n (8 * i + 6), zeros_at n (8 * i + 7))

packed_blank : (f : ℕ → ℕ) (n i : ℕ) → ((j : ℕ) → j < words_for n → f j ≡ 0) → packed_word (bytes_of f n) i ≡ 0
packed_blank f n i h = ap (λ bs. packed_word bs i) (bytes_of-zeros f n h) ∙ packed_zeros n i

kept_if : (d : Bool) → not d ≡ true → d ≡ false
kept_if true h = absurd (false≢true h)
kept_if false h = refl

record Found (word stored : ℕ → ℕ) (p : ℕ) (x : Option PtrWord) : Type 0 where
  object : Object
  there : object_of word stored p x ≡ Some object
  len : length object.bytes ≡ said_len x
  ds : object.ds ≡ said_ds x
  zeros : IsBlank word stored x → (i : ℕ) → packed_word object.bytes i ≡ 0

found_object : (word stored : ℕ → ℕ) (p : ℕ) (x : Option PtrWord) → in_use x ≡ true → Found word stored p x
found_object word stored p None used = absurd (false≢true used)
found_object word stored p (Some Free) used = absurd (false≢true used)
found_object word stored p (Some (Near len ds place m)) used =
    let ob : Object = record { owner = p / CELLS; ds = ds; bytes = bytes_of (λ i. word (addr place + 1 + i)) len; home = Group place.log } in record {
      object = ob;
      there = ap (λ d. cond d None (Some ob)) (kept_if m.dropped used);
      len = length-bytes_of (λ i. word (addr place + 1 + i)) len;
      ds = refl;
      zeros = λ blank i. packed_blank (λ i. word (addr place + 1 + i)) len i (blank.near len ds place m refl (kept_if m.dropped used));
    }
found_object word stored p (Some (Far len ds m)) used =
    let ob : Object = record { owner = p / CELLS; ds = ds; bytes = bytes_of stored len; home = FarSide } in record {
      object = ob;
      there = ap (λ d. cond d None (Some ob)) (kept_if m.dropped used);
      len = length-bytes_of stored len;
      ds = refl;
      zeros = λ blank i. packed_blank stored len i (blank.far len ds m refl (kept_if m.dropped used));
    }

has_fresh : (s : State) (p : ℕ) → in_use (read_of (s.cell p)) ≡ true → (s.honest ≡ true → IsBlank s.word (s.stored p) (read_of (s.cell p))) → Has s p (fresh (s.cell p))
unfolding world_of
has_fresh s p used blank = let x = found_object s.word (s.stored p) p (read_of (s.cell p)) used in
    record { object = x.object; there = x.there; len = x.len; ds = x.ds; words = λ is i lt. x.zeros (blank is) i }

not_held : (h : Option Place) (used : Bool) → (IsSome h → used ≡ true) → used ≡ false → h ≡ None
not_held None used why e = refl
not_held (Some place) used why e = let odd : false ≡ true = sym e ∙ why refl in absurd (false≢true odd)

module _ (ws : List ℕ) (b : BookView) (os : OtherViews) (f : Facts ws b os) (o : OwnerView) (at : get_elem? os.owners o.number ≡ some o)
    (p : ℕ) (small : p < POINTERS) (own : p / CELLS ≡ o.number) (unused : object_at o p ≡ None) where
  abbrev s : State
  s = state_of ws b os

  abbrev m : ℕ
  m = o.number

  unused_so : s.used p ≡ false
  unused_so = known_by os.owners m o o at uses p own ∙ ap is_some unused

  free : held_at o p ≡ None
  free = sym (known_by os.owners m o o at held_at p own) ∙ not_held (s.held p) (s.used p) (f.law.views.held_used p) unused_so

  pub adopt_step : in_use (read_of (cell_in ws p)) ≡ true → OwnStep ws b os o (Adopt m p) (Word (cell_in ws p)) ws (adopted_view p (cell_in ws p) o)
  adopt_step used =
      let c : ℕ = cell_in ws p in
      let w : OwnerView = adopted_view p c o in
      let ties = f.owners m o at in
      let legal : Legal s (Adopt m p) = (is_mutator ws b os f m o at, own, unused_so, used) in record {
        legal = legal;
        says = refl;
        becomes = state_is ws b (with_owner os m w) (no_word b.logs ws f.wide) (remembered_same os.owners m o w at refl)
            (pointers_put os.owners m o w at uses p true own (fun_ext (λ q. put_both (λ (x : Option ObjectView). is_some x ≡ put (uses o) p true q) (object_at o) p (Some (fresh c)) q
            (λ e. sym (put_same (uses o) p true q e)) (λ ne. sym (put_other (uses o) p true q ne)))))
            (pointers_same os.owners m o w at held_at refl) (pointers_same os.owners m o w at soiled_at refl);
        mine = record {
          number = ties.number;
          honest = ties.honest;
          logs = ties.logs;
          scope = ties.scope;
          objects = λ q x mine h. dite (ℕ_discrete q p)
              (λ e. let same : Some (fresh c) ≡ Some x = sym (put_same (object_at o) p (Some (fresh c)) q e) ∙ h in let one : fresh c ≡ x = cc in
              subst (λ (z : ℕ × ObjectView). Has (after s (Adopt m p)) z.0 z.1) (λ k. (sym e k, one k)) (has_fresh (after s (Adopt m p)) p used (λ is. f.law.unadopted is p unused_so)))
              (λ ne. has_on s (after s (Adopt m p)) q x (ap (λ (z : World). z.object q) (does s (Adopt m p) f.law tt legal)) refl
              (ties.objects q x mine (sym (put_other (object_at o) p (Some (fresh c)) q ne) ∙ h)));
          asks = ties.asks;
          drops = ties.drops;
          hots = ties.hots;
          soils = ties.soils;
          warm = ties.warm;
        };
      }

  record Case (t : Bool) (n : ℕ) : Type 0 where
    w : OwnerView
    facts : Facts ws b (with_owner os m w)
    tells : AdoptTells t (Owner o) (Owner w) p n

  adopt_case : (t : Bool) → in_use (read_of (cell_in ws p)) ≡ t → Case t (cell_in ws p)
  adopt_case true used = let w : OwnerView = adopted_view p (cell_in ws p) o in let k = adopt_step used in record {
    w = w;
    facts = own_facts ws b os f o at (Adopt m p) refl tt (Word (cell_in ws p)) ws w k;
    tells = record { after_is = refl; number = refl; made = own_made ws b os f o at (Adopt m p) refl tt (Word (cell_in ws p)) ws w k };
  }
  adopt_case false used = record {
    w = noted_view p (cell_in ws p) o;
    facts = noted_facts ws b os f o at p (cell_in ws p);
    tells = (refl, record { words = ws; book = b; others = os; facts = f; stands = at; refused = λ legal. false≢true (sym used ∙ legal.3) });
  }

module _ {S : Type 0} (slots id : ℕ) (me : Me S View) (is : me.0 ≡ Owner (owner_of me.0)) where
  abbrev view : OwnerView
  view = owner_of me.0

  pub adopts : (p : ℕ) → p < POINTERS → p / CELLS ≡ view.number → object_at view p ≡ None →
      Allows Running slots id me (cell_at p) (λ n. n) (Adopted (step slots (cell_at p) 0 0 none) me)
  adopts p small own unused = owner_allows slots id (cell_at p) me view (λ n. n) (Adopted (step slots (cell_at p) 0 0 none) me) is (λ ws b os f at.
      let c : ℕ = cell_in ws p in
      let k = adopt_case ws b os f view at p small own unused (in_use (read_of c)) refl in
      let here = cell_here ws p small in (
        k.w,
        subst (λ l. Facts l b (with_owner os view.number k.w)) (sym (set-get_or ws (cell_at p) 0)) k.facts,
        λ q e. let same : p ≡ q = omega arith in
            subst (λ (z : ℕ × ℕ). IsSome (read_of z.1) × (held_at view z.0 ≡ None) × AdoptTells (in_use (read_of z.1)) me.0 (Owner k.w) z.0 z.1) (λ i. (same i, here i))
            ((f.law.cells.cell_read p).1, free ws b os f view at p small own unused, subst (λ v. AdoptTells (in_use (read_of c)) v (Owner k.w) p c) (sym is) k.tells),
      ))
