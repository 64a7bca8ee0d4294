-- A command that is given other words of its object: the object has their bytes then, and all others keep theirs.
use Rattle.std.proofs.Common.{◌≡◌, ◌≢◌, ℕ, ◌+◌, ◌/◌, ◌<◌, true, cond, nat_eq, nat_lt, not, sym, refl, ap, subst, ◌∙◌, IsSome, inl, inr, Some, None, List, [], ◌∷◌, length}
use Rattle.std.specs.Prelude.{slice_range}
use Rattle.std.proofs.lemmas.Bool.{and_parts, cases_eq, eq-eqb, ltb-true}
use Rattle.far_word.specs.declared.sizes.TheConstants.{CELLS}
use Rattle.far_word.specs.Bytes.{bytes_of}
use Rattle.far_events.specs.state.State.{State, put}
use Rattle.far_core.specs.world.World.{World}
use Rattle.far_core.specs.world.WorldOf.{world_of}
use Rattle.far_events.proofs.Put.{put_other, put_same}
use Rattle.far_text.specs.Command.{Command, On, Use, Reads, Writes, Views, Mutator}
use Rattle.far_text.specs.Written.{AllWriteBytes, WritesBytes}
use Rattle.far_replay.specs.Alone.{Knows}
use Rattle.far_alone.specs.Own.{Own, bytes_in_world, own_of}
use Rattle.far_replay.specs.Answers.{AnsweredBy, CommandedBy, IsMoment, Outside, Serves, Refuses, Gives, Lacks}
use Rattle.far_replay.specs.Commanded.{AsksFor, Misled}
use Rattle.far_replay.specs.Moment.{Moment, as_if_stored}
use Rattle.far_alone.specs.Objects.{named_len, uses, with_range}
use Rattle.far_reply.specs.Reply.{Reply, Done, Data}
use Rattle.far_alone.proofs.AloneStates.{own_used}
use Rattle.far_replay.proofs.Lasting.{Lasts, misled_before, misled_lasts, moment_lasts, next_is_moment}
use Rattle.far_replay.proofs.Outcomes.{by_lie}
use Rattle.far_replay_laws.specs.OtherBytes.{AllGiven, ChangesObject, GivenBy, IsGiven, LiesChangeOneObject, TellsBytes, bytes_made}
use Rattle.far_replay_laws.proofs.AloneLaw.{asked_teaches}
use Rattle.far_replay_laws.proofs.AloneLies.{own_apart, own_as_if, own_viewed, owner_of}
use Rattle.far_replay_laws.proofs.Misleading.{by_asked, misled_allowed, misled_reply, misled_uses}

-- ---- what a mutator knows of a command of its own that asks for its object
record Shows (p : ℕ) (c : Command) (r : Reply) (o q : Own) (all : List ℕ) : Type 0 where
  pub object : q.object p ≡ Some (bytes_made c all)
  pub told : TellsBytes c r all
  pub others : (x : ℕ) → x ≢ p → q.object x ≡ o.object x

pub same_bytes : (a b : List ℕ) → Some a ≡ Some b → a ≡ b
same_bytes a b e = cc

shows_write : (m p from : ℕ) (new all : List ℕ) (o q : Own) → Knows m o (Mutator m (On p (Writes from new))) Done q → o.object p ≡ Some all → Shows p (Mutator m (On p (Writes from new))) Done o q all
shows_write m p from new all o q (opened, (bytes, is, inside, then)) had =
    let same : bytes ≡ all = same_bytes bytes all (sym is ∙ had) in
    record {
      object = ap (λ (x : Own). x.object p) then ∙ put_same o.object p (Some (with_range bytes from new)) p refl ∙ ap (λ (b : List ℕ). Some (with_range b from new)) same;
      told = refl;
      others = λ x ne. ap (λ (y : Own). y.object x) then ∙ put_other o.object p (Some (with_range bytes from new)) x ne;
    }

shows_read : (m p from len : ℕ) (told all : List ℕ) (o q : Own) → Knows m o (Mutator m (On p (Reads from len))) (Data told) q → o.object p ≡ Some all → Shows p (Mutator m (On p (Reads from len))) (Data told) o q all
shows_read m p from len told all o q (opened, then, (bytes, is, inside, tells)) had =
    let same : bytes ≡ all = same_bytes bytes all (sym is ∙ had) in
    record {
      object = ap (λ (x : Own). x.object p) then ∙ had;
      told = ap Data (tells ∙ ap (λ (b : List ℕ). slice_range b from (from + len)) same);
      others = λ x ne. ap (λ (y : Own). y.object x) then;
    }

shows_view : (m p : ℕ) (all : List ℕ) (o q : Own) → Knows m o (Mutator m (On p Views)) Done q → o.object p ≡ Some all → Shows p (Mutator m (On p Views)) Done o q all
shows_view m p all o q (opened, then, has) had = record {
  object = ap (λ (x : Own). x.object p) then ∙ had;
  told = refl;
  others = λ x ne. ap (λ (y : Own). y.object x) then;
}

-- ---- what it knows is so
pub own_object : (w : World) (q : ℕ) → (own_of w (q / CELLS)).object q ≡ bytes_in_world (w.object q)
own_object w q = ap (λ b. cond b (bytes_in_world (w.object q)) None) (eq-eqb (q / CELLS) (q / CELLS) refl)

held_viewed : (s : State) (p : ℕ) → IsSome (s.held p) → (world_of s).viewed p ≡ true
unfolding world_of
held_viewed s p h = h

module _ (row : ℕ → ℕ) (now : Moment) (m p : ℕ) (r : Reply) (next : Moment) (lasts : Lasts now) where
  abbrev other : Moment
  other = as_if_stored now p row

  abbrev after : Moment
  after = as_if_stored next p row

  module _ (c : Command) (asks : AsksFor m p c) (small : WritesBytes c) (h : Misled row now c p r next)
      (mine : Knows m (own_of (world_of other.core) m) c r (own_of (world_of after.core) m)) (theirs : (k : ℕ) → m ≢ k → own_of (world_of after.core) k ≡ own_of (world_of other.core) k)
      (shows : (all : List ℕ) → (own_of (world_of other.core) m).object p ≡ Some all → Shows p c r (own_of (world_of other.core) m) (own_of (world_of after.core) m) all) where
    uses_it : uses now.core m p ≡ true
    uses_it = (misled_uses row now m p c asks (misled_allowed row now c p r next h)).1

    own : p / CELLS ≡ m
    own = owner_of now.core m p uses_it

    used : now.core.used p ≡ true
    used = (and_parts (nat_eq (p / CELLS) m) (now.core.used p) uses_it).1

    abbrev given : List ℕ
    given = bytes_of row h.far.0

    before_is : own_of (world_of other.core) m ≡ record (own_of (world_of now.core) m) { object = put (own_of (world_of now.core) m).object p (Some given) }
    before_is = own_as_if now.core p row m h.far lasts.law used own

    after_is : (k : ℕ) → own_of (world_of after.core) k ≡ own_of (world_of next.core) k
    after_is k = own_viewed next.core p row k (misled_lasts row now c m p r next lasts small asks h).law h.viewed

    has_given : (own_of (world_of other.core) m).object p ≡ Some given
    has_given = ap (λ (x : Own). x.object p) before_is ∙ put_same (own_of (world_of now.core) m).object p (Some given) p refl

    shown : Shows p c r (own_of (world_of other.core) m) (own_of (world_of after.core) m) given
    shown = shows given has_given

    of_world : (w : World) (q k : ℕ) → q / CELLS ≡ k → bytes_in_world (w.object q) ≡ (own_of w k).object q
    of_world w q k e = sym (own_object w q) ∙ ap (λ x. (own_of w x).object q) e

    apart : (q : ℕ) → q ≢ p → bytes_in_world ((world_of next.core).object q) ≡ bytes_in_world ((world_of now.core).object q)
    apart q ne = elim (cases_eq m (q / CELLS)) [
      | inl e ↦ (of_world (world_of next.core) q m (sym e) ∙ ap (λ (x : Own). x.object q) (sym (after_is m)) ∙ shown.others q ne
          ∙ ap (λ (x : Own). x.object q) before_is ∙ put_other (own_of (world_of now.core) m).object p (Some given) q ne ∙ sym (of_world (world_of now.core) q m (sym e)))
      | inr other_owner ↦ (of_world (world_of next.core) q (q / CELLS) refl ∙ ap (λ (x : Own). x.object q) (sym (after_is (q / CELLS))) ∙ ap (λ (x : Own). x.object q) (theirs (q / CELLS) other_owner)
          ∙ ap (λ (x : Own). x.object q) (own_apart now.core p row (q / CELLS) (λ is. other_owner (sym own ∙ is))) ∙ sym (of_world (world_of now.core) q (q / CELLS) refl))
    ]

    old : (all : List ℕ) × ((own_of (world_of now.core) m).object p ≡ Some all) × (length all ≡ h.far.0)
    old = let x = own_used now.core lasts.law m p uses_it in (x.0, x.1, x.2 ∙ ap named_len h.far.3)

    as_long : given ≡ bytes_of row (length old.0)
    as_long = ap (bytes_of row) (sym old.2)

    changes : ChangesObject row m p now c r next
    changes = record {
      asks = asks;
      lies = h.lies;
      far = h.far;
      old = old.0;
      had = of_world (world_of now.core) p m own ∙ old.1;
      has = of_world (world_of next.core) p m own ∙ ap (λ (x : Own). x.object p) (sym (after_is m)) ∙ shown.object ∙ ap (λ (b : List ℕ). Some (bytes_made c b)) as_long;
      told = subst (TellsBytes c r) as_long shown.told;
      viewed = held_viewed next.core p h.viewed;
      others = apart;
      stored = h.kept;
    }

  -- ---- each command
  within : (c : Command) → AsksFor m p c → Misled row now c p r next → m < now.core.mutators
  within c asks h =
      ltb-true m now.core.mutators (and_parts (nat_lt m now.core.mutators) (not (nat_eq (now.core.scope m) 0)) (misled_uses row now m p c asks (misled_allowed row now c p r next h)).0).0

  abbrev Knowing : Command → Reply → Type 0
  Knowing c x = Knows m (own_of (world_of other.core) m) c x (own_of (world_of after.core) m)

  abbrev Showing : Command → Reply → List ℕ → Type 0
  Showing c x all = Shows p c x (own_of (world_of other.core) m) (own_of (world_of after.core) m) all

  by_reply : (c : Command) → AsksFor m p c → WritesBytes c → (h : Misled row now c p r next) → (x : Reply) → r ≡ x → ((all : List ℕ) → Knowing c x → (own_of (world_of other.core) m).object p ≡ Some all → Showing c x all) →
      ChangesObject row m p now c r next
  by_reply c asks small h x is shows =
      let taught = asked_teaches other m p r after (misled_before row now c p r next lasts h) c asks small h.served in
      let mine : Knowing c r = taught.0 (within c asks h) in
      changes c asks small h mine taught.1 (λ all had. subst (λ y. Showing c y all) (sym is) (shows all (subst (Knowing c) is mine) had))

  use_changes : (how : Use) → WritesBytes (Mutator m (On p how)) → Misled row now (Mutator m (On p how)) p r next → ChangesObject row m p now (Mutator m (On p how)) r next
  use_changes (Writes from new) small h = by_reply (Mutator m (On p (Writes from new))) (refl, refl) small h Done (misled_reply row now (Mutator m (On p (Writes from new))) p r next h) (λ all knows had. shows_write m p from new all _ _ knows had)
  use_changes (Reads from len) small h = by_reply (Mutator m (On p (Reads from len))) (refl, refl) small h _ (misled_reply row now (Mutator m (On p (Reads from len))) p r next h) (λ all knows had. shows_read m p from len _ all _ _ knows had)
  use_changes Views small h = by_reply (Mutator m (On p Views)) (refl, refl) small h Done (misled_reply row now (Mutator m (On p Views)) p r next h) (λ all knows had. shows_view m p all _ _ knows had)

  pub object_changes : (c : Command) → AsksFor m p c → WritesBytes c → Misled row now c p r next → ChangesObject row m p now c r next
  object_changes = by_asked m p (λ d. WritesBytes d → Misled row now d p r next → ChangesObject row m p now d r next) use_changes

pub lies_change : LiesChangeOneObject
lies_change row inverts now c r next is bytes h =
    by_lie row now r next (λ d. WritesBytes d → IsGiven row now d r next) (λ m p d asks k small. (m, p, object_changes row now m p r next (moment_lasts now is) d asks small k)) c h bytes

-- ---- and each of a list
one_given : (o : Outside) (now : Moment) (c : Command) (r : Reply) (next : Moment) → IsMoment now → WritesBytes c → CommandedBy o now c r next → GivenBy o now c r next
one_given Serves now c r next is bytes h = tt
one_given (Refuses why turns objects) now c r next is bytes h = tt
one_given (Lacks turns objects) now c r next is bytes h = tt
one_given (Gives row inverts) now c r next is bytes h = lies_change row inverts now c r next is bytes h

pub each_given : (os : List Outside) (now : Moment) (cs : List Command) (rs : List Reply) (moments : List Moment) → IsMoment now → AllWriteBytes cs → AnsweredBy os now cs rs moments → AllGiven os now cs rs moments
each_given [] now cs rs moments is bytes h = tt
each_given (o ∷ os) now (c ∷ cs) (r ∷ rs) (next ∷ ms) is bytes h =
    (one_given o now c r next is bytes.0 h.0, each_given os next cs rs ms (next_is_moment now c r next is bytes.0 (o, h.0)) bytes.1 h.1)
each_given (o ∷ os) now _ _ _ is bytes h = absurd h
