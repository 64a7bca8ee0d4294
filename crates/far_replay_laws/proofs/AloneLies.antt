-- What a mutator knows where other words are stored of an object: other bytes of that object, if it is its own and far; else the same.
use Rattle.std.proofs.Common.{◌≡◌, ◌≢◌, ℕ, ◌/◌, Bool, true, false, cond, nat_eq, sym, refl, ap, subst, ◌∙◌, inr, is_some, IsSome, Option, Some, None, List}
use Rattle.std.specs.Prelude.{◌&&◌}
use Rattle.std.specs.Bool.{MatchBool}
use Rattle.std.proofs.lemmas.Bool.{and_parts, eqb-true, eqb-false, eq-eqb, false≢true, ne_eqb, not-true}
use mathlib.Core.Path.{fun_ext}
use Rattle.far_word.specs.declared.mark.Marks.{Marks}
use Rattle.far_word.specs.declared.pointer.Place.{Place}
use Rattle.far_word.specs.declared.pointer.PtrWord.{PtrWord}
use Rattle.far_word.specs.declared.pointer.PtrWord.TheVariants.{Near, Far}
use Rattle.far_word.specs.declared.sizes.TheConstants.{CELLS}
use Rattle.far_word.specs.Bytes.{bytes_of}
use Rattle.far_word.specs.Pointer.{read_of}
use Rattle.far_word.proofs.ByteLaws.{length-bytes_of}
use Rattle.far_events.specs.state.Law.{Law, in_use}
use Rattle.far_events.specs.state.State.{State, put}
use Rattle.far_core.specs.world.World.{FarSide}
use Rattle.far_core.specs.world.WorldOf.{object_of, world_of}
use Rattle.far_events.proofs.Cells.{held_near}
use Rattle.far_events.proofs.Put.{put_both, put_other, put_same}
use Rattle.far_text.specs.Command.{Command}
use Rattle.far_replay.specs.Alone.{IsMisled, Knows, KnowsBy}
use Rattle.far_alone.specs.Own.{Own, bytes_in_world, own_of}
use Rattle.far_replay.specs.Commanded.{AsksFor, LiesFar, Misled}
use Rattle.far_replay.specs.Moment.{Moment, as_if_stored, with_stored}
use Rattle.far_alone.specs.Objects.{named_len, uses}
use Rattle.far_reply.specs.Reply.{Reply}
use Rattle.far_alone.proofs.AloneRuns.{Own-ext}
use Rattle.far_alone.proofs.AloneStates.{own_used}

pub owner_of : (s : State) (m p : ℕ) → uses s m p ≡ true → p / CELLS ≡ m
owner_of s m p h = eqb-true (p / CELLS) m (and_parts (nat_eq (p / CELLS) m) (s.used p) h).0

-- ---- the object of a far cell has the words that are stored
far_object : (s : State) (p : ℕ) (row : ℕ → ℕ) (far : LiesFar s p) → Law s → s.used p ≡ true → bytes_in_world (object_of s.word row p (read_of (s.cell p))) ≡ Some (bytes_of row far.0)
far_object s p row far law used =
    let alive : far.2.dropped ≡ false = not-true far.2.dropped (sym (ap in_use far.3) ∙ law.views.used_cell p used) in
    ap (λ o. bytes_in_world (object_of s.word row p o)) far.3
    ∙ ap (λ b. bytes_in_world (cond b None (Some record { owner = p / CELLS; ds = far.1; bytes = bytes_of row far.0; home = FarSide }))) alive

-- its owner knows other bytes of it
pub own_as_if : (s : State) (p : ℕ) (row : ℕ → ℕ) (m : ℕ) (far : LiesFar s p) → Law s → s.used p ≡ true → p / CELLS ≡ m →
    own_of (world_of (with_stored s p row)) m ≡ record (own_of (world_of s) m) { object = put (own_of (world_of s) m).object p (Some (bytes_of row far.0)) }
unfolding world_of
own_as_if s p row m far law used own =
    let known : ℕ → Option (List ℕ) = (own_of (world_of s) m).object in
    let new : Option (List ℕ) = Some (bytes_of row far.0) in
    Own-ext _ _ refl (fun_ext (λ q. put_both (λ words. cond (nat_eq (q / CELLS) m) (bytes_in_world (object_of s.word words q (read_of (s.cell q)))) None ≡ put known p new q) s.stored p row q
    (λ e. subst (λ k. cond (nat_eq (k / CELLS) m) (bytes_in_world (object_of s.word row k (read_of (s.cell k)))) None ≡ put known p new k) (sym e)
    (ap (λ b. cond b (bytes_in_world (object_of s.word row p (read_of (s.cell p)))) None) (eq-eqb (p / CELLS) m own) ∙ far_object s p row far law used ∙ sym (put_same known p new p refl)))
    (λ ne. sym (put_other known p new q ne)))) refl

-- any other mutator the same
pub own_apart : (s : State) (p : ℕ) (row : ℕ → ℕ) (m : ℕ) → p / CELLS ≢ m → own_of (world_of (with_stored s p row)) m ≡ own_of (world_of s) m
unfolding world_of
own_apart s p row m other =
    let known : ℕ → Option (List ℕ) = (own_of (world_of s) m).object in
    Own-ext _ _ refl (fun_ext (λ q. put_both (λ words. cond (nat_eq (q / CELLS) m) (bytes_in_world (object_of s.word words q (read_of (s.cell q)))) None ≡ known q) s.stored p row q
    (λ e. subst (λ k. cond (nat_eq (k / CELLS) m) (bytes_in_world (object_of s.word row k (read_of (s.cell k)))) None ≡ known k) (sym e)
    (ap (λ b. cond b (bytes_in_world (object_of s.word row p (read_of (s.cell p)))) None) (ne_eqb (p / CELLS) m other)
    ∙ sym (ap (λ b. cond b (bytes_in_world (object_of s.word (s.stored p) p (read_of (s.cell p)))) None) (ne_eqb (p / CELLS) m other))))
    (λ ne. refl))) refl

-- and where the object is near all know the same
near_object : (word row words : ℕ → ℕ) (p len ds : ℕ) (place : Place) (marks : Marks) (o : Option PtrWord) → o ≡ Some (Near len ds place marks) → object_of word row p o ≡ object_of word words p o
near_object word row words p len ds place marks o near = subst (λ x. object_of word row p x ≡ object_of word words p x) (sym near) refl

pub own_near : (s : State) (p : ℕ) (row : ℕ → ℕ) (m : ℕ) (len ds : ℕ) (place : Place) (marks : Marks) → read_of (s.cell p) ≡ Some (Near len ds place marks) → own_of (world_of (with_stored s p row)) m ≡ own_of (world_of s) m
unfolding world_of
own_near s p row m len ds place marks near =
    let known : ℕ → Option (List ℕ) = (own_of (world_of s) m).object in
    Own-ext _ _ refl (fun_ext (λ q. put_both (λ words. cond (nat_eq (q / CELLS) m) (bytes_in_world (object_of s.word words q (read_of (s.cell q)))) None ≡ known q) s.stored p row q
    (λ e. subst (λ k. cond (nat_eq (k / CELLS) m) (bytes_in_world (object_of s.word row k (read_of (s.cell k)))) None ≡ known k) (sym e)
    (ap (λ x. cond (nat_eq (p / CELLS) m) (bytes_in_world x) None) (near_object s.word row (s.stored p) p len ds place marks (read_of (s.cell p)) near)))
    (λ ne. refl))) refl

-- so where it is viewed
some_of : (o : Option Place) → IsSome o → (place : Place) × (o ≡ Some place)
some_of None h = absurd (false≢true h)
some_of (Some place) h = (place, refl)

pub own_viewed : (s : State) (p : ℕ) (row : ℕ → ℕ) (m : ℕ) → Law s → IsSome (s.held p) → own_of (world_of (with_stored s p row)) m ≡ own_of (world_of s) m
own_viewed s p row m law viewed =
    let at = some_of (s.held p) viewed in
    let x = held_near (read_of (s.cell p)) at.0 (law.views.held_names p at.0 at.1) in
    own_near s p row m x.len x.ds at.0 x.marks x.near

-- ---- what is far isn't viewed
far_unheld : (s : State) (p : ℕ) → Law s → LiesFar s p → (o : Option Place) → s.held p ≡ o → is_some o ≡ false
far_unheld s p law far None e = refl
far_unheld s p law far (Some place) e =
    let x = held_near (read_of (s.cell p)) place (law.views.held_names p place e) in
    let odd : Some (Near x.len x.ds place x.marks) ≡ Some (Far far.0 far.1 far.2) = sym x.near ∙ far.3 in absurd cc

neither : (b x : Bool) → x ≡ false → (b && x) ≡ false
neither true x e = e
neither false x e = refl

far_unviewed : (s : State) (p m : ℕ) → Law s → LiesFar s p → (own_of (world_of s) m).viewed p ≡ false
unfolding world_of
far_unviewed s p m law far = neither (nat_eq (p / CELLS) m) (is_some (s.held p)) (far_unheld s p law far (s.held p) refl)

-- ---- what a command that was given other words tells
module _ (row : ℕ → ℕ) (now : Moment) (c : Command) (m p : ℕ) (r : Reply) (next : Moment) (law : Law now.core) (later : Law next.core) (asks : AsksFor m p c) (ours : uses now.core m p ≡ true) (h : Misled row now c p r next) where
  used : now.core.used p ≡ true
  used = (and_parts (nat_eq (p / CELLS) m) (now.core.used p) ours).1

  misled_own : (k : ℕ) → m ≡ k → Knows k (own_of (world_of (as_if_stored now p row).core) k) c r (own_of (world_of (as_if_stored next p row).core) k) →
      IsMisled k (own_of (world_of now.core) k) c r (own_of (world_of next.core) k)
  misled_own k e knows =
      let own : p / CELLS ≡ k = owner_of now.core m p ours ∙ e in
      let had = own_used now.core law k p (subst (λ x. uses now.core x p ≡ true) e ours) in
      let before = own_as_if now.core p row k h.far law used own in
      let after = own_viewed next.core p row k later h.viewed in
      record {
        p = p;
        asks = subst (λ x. AsksFor x p c) e asks;
        free = far_unviewed now.core p k law h.far;
        old = had.0;
        new = bytes_of row h.far.0;
        had = had.1;
        long = length-bytes_of row h.far.0 ∙ sym (ap named_len h.far.3) ∙ sym had.2;
        knows = subst (λ (x : Own × Own). Knows k x.0 c r x.1) (λ i. (before i, after i)) knows;
      }

  by_speaker : (k : ℕ) (b : Bool) → nat_eq m k ≡ b →
      MatchBool b (Knows k (own_of (world_of (as_if_stored now p row).core) k) c r (own_of (world_of (as_if_stored next p row).core) k)) (own_of (world_of (as_if_stored next p row).core) k ≡ own_of (world_of (as_if_stored now p row).core) k) →
      MatchBool b (KnowsBy now.core.honest k (own_of (world_of now.core) k) c r (own_of (world_of next.core) k)) (own_of (world_of next.core) k ≡ own_of (world_of now.core) k)
  by_speaker k true e knows = subst (λ x. KnowsBy x k (own_of (world_of now.core) k) c r (own_of (world_of next.core) k)) (sym h.lies) (inr (misled_own k (eqb-true m k e) knows))
  by_speaker k false e same =
      let other : p / CELLS ≢ k = λ is. eqb-false m k e (sym (owner_of now.core m p ours) ∙ is) in
      sym (own_viewed next.core p row k later h.viewed) ∙ same ∙ own_apart now.core p row k other

  pub misled_tells : (k : ℕ) →
      MatchBool (nat_eq m k) (Knows k (own_of (world_of (as_if_stored now p row).core) k) c r (own_of (world_of (as_if_stored next p row).core) k)) (own_of (world_of (as_if_stored next p row).core) k ≡ own_of (world_of (as_if_stored now p row).core) k) →
      MatchBool (nat_eq m k) (KnowsBy now.core.honest k (own_of (world_of now.core) k) c r (own_of (world_of next.core) k)) (own_of (world_of next.core) k ≡ own_of (world_of now.core) k)
  misled_tells k = by_speaker k (nat_eq m k) refl
