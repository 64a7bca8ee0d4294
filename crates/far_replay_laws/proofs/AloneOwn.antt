-- A command that was given its object's own bytes tells its mutator what it does without a device.
use Rattle.std.proofs.Common.{◌≡◌, ℕ, suc, ◌/◌, ◌<◌, true, nat_eq, Option, Some, None, List, [], ◌∷◌, length, inl, inr, ap, sym, ◌∙◌, subst}
use Rattle.std.specs.Bool.{MatchBool}
use Rattle.std.proofs.lemmas.Bool.{and_parts, cases_eq}
use Rattle.far_word.specs.Bytes.{bytes_of}
use Rattle.far_word.specs.declared.sizes.TheConstants.{CELLS}
use Rattle.far_core.specs.world.WorldOf.{world_of}
use Rattle.far_events.proofs.Put.{put_old}
use Rattle.far_text.specs.Command.{Command}
use Rattle.far_text.specs.Written.{AllWriteBytes, WritesBytes}
use Rattle.far_replay.specs.Alone.{Alone, Knows, is_by, speaker}
use Rattle.far_alone.specs.Own.{Own, own_of}
use Rattle.far_replay.specs.Answers.{AnsweredBy, CommandedBy, Outside, Serves, Refuses, Gives, Lacks}
use Rattle.far_replay.specs.Commanded.{AsksFor, Misled}
use Rattle.far_replay.specs.Moment.{Moment, as_if_stored}
use Rattle.far_alone.specs.Objects.{uses}
use Rattle.far_reply.specs.Reply.{Reply}
use Rattle.far_replay.proofs.Lasting.{Lasts, misled_before, misled_lasts, still_lasts}
use Rattle.far_replay_laws.specs.Lying.{GivenOf, LiesOnce, bytes_in}
use Rattle.far_replay_laws.proofs.AloneLaw.{Taught, next_mutators, one_more, served_taught, taught_by}
use Rattle.far_replay_laws.proofs.AloneLies.{own_apart, own_as_if, own_viewed, owner_of}
use Rattle.far_replay_laws.proofs.GivenBytes.{own_object}
use Rattle.far_replay_laws.proofs.HeldBySteps.{far_long}
use Rattle.far_replay_laws.proofs.Misleading.{asked_so, misled_allowed, misled_uses}

module _ (row : ℕ → ℕ) (now : Moment) (c : Command) (r : Reply) (next : Moment) (m p : ℕ) (lasts : Lasts now) (asks : AsksFor m p c) (small : WritesBytes c) (h : Misled row now c p r next) (own : bytes_in now p ≡ Some (bytes_of row h.far.0)) where
  uses_it : uses now.core m p ≡ true
  uses_it = (misled_uses row now m p c asks (misled_allowed row now c p r next h)).1

  mine : p / CELLS ≡ m
  mine = owner_of now.core m p uses_it

  -- what each mutator knows is the same as if these were stored
  before : (k : ℕ) → own_of (world_of (as_if_stored now p row).core) k ≡ own_of (world_of now.core) k
  before k = elim (cases_eq m k) [
    | inl e ↦ subst (λ x. own_of (world_of (as_if_stored now p row).core) x ≡ own_of (world_of now.core) x) e
        (own_as_if now.core p row m h.far lasts.law (and_parts (nat_eq (p / CELLS) m) (now.core.used p) uses_it).1 mine
        ∙ ap (λ f. record (own_of (world_of now.core) m) { object = f }) (put_old (own_of (world_of now.core) m).object p (Some (bytes_of row h.far.0))
        (ap (λ k. (own_of (world_of now.core) k).object p) (sym mine) ∙ own_object (world_of now.core) p ∙ own)))
    | inr apart ↦ own_apart now.core p row k (λ e. apart (sym mine ∙ e))
  ]

  after : (k : ℕ) → own_of (world_of (as_if_stored next p row).core) k ≡ own_of (world_of next.core) k
  after k = own_viewed next.core p row k (misled_lasts row now c m p r next lasts small asks h).law h.viewed

  pub taught_own : (k : ℕ) → k < now.core.mutators → Taught now.core k c r next.core
  taught_own k within =
      subst (λ (o : Own). MatchBool (is_by k (speaker c)) (Knows k o c r (own_of (world_of next.core) k)) (own_of (world_of next.core) k ≡ o)) (before k)
      (subst (λ (q : Own). MatchBool (is_by k (speaker c)) (Knows k (own_of (world_of (as_if_stored now p row).core) k) c r q) (q ≡ own_of (world_of (as_if_stored now p row).core) k)) (after k)
      (served_taught (as_if_stored now p row) k c r (as_if_stored next p row) (misled_before row now c p r next lasts h) within small h.served))

-- ---- along a run in which nothing is inverted
given_own : (less : ℕ) (owes : Option ℕ) (p : ℕ) (own bytes : List ℕ) → GivenOf 0 None p own bytes less owes → (bytes ≡ own) × (less ≡ 0) × (owes ≡ None)
given_own less owes p own bytes (inl h) = (h.0, h.2, h.3)
given_own less owes p own bytes (inr (inl (bytes_are, one, none, owed))) = let odd : 0 ≡ suc less = one in absurd cc
given_own less owes p own bytes (inr (inr (own_is, same, owed, none))) = let odd : None ≡ Some p = owed in absurd cc

pub alone_own : (os : List Outside) (now : Moment) (cs : List Command) (rs : List Reply) (moments : List Moment) (m : ℕ) → LiesOnce 0 None now os cs moments → Lasts now → m < now.core.mutators → AllWriteBytes cs → AnsweredBy os now cs rs moments →
    Alone true m (own_of (world_of now.core) m) cs rs
alone_own [] now [] [] [] m once lasts within small h = tt
alone_own (o ∷ os) now (c ∷ cs) (r ∷ rs) (next ∷ xs) m once lasts within small h =
    let same : next.core.mutators ≡ now.core.mutators = next_mutators now c r next lasts small.0 (o, h.0) in
    let x = by o once h.0 in
    one_more true m (own_of (world_of now.core) m) (own_of (world_of next.core) m) c r cs rs (is_by m (speaker c)) x.0
    (alone_own os next cs rs xs m x.1 (still_lasts now c r next lasts small.0 (o, h.0)) (subst (λ n. m < n) (sym same) within) small.1 h.1)
  where
    by : (o : Outside) → LiesOnce 0 None now (o ∷ os) (c ∷ cs) (next ∷ xs) → CommandedBy o now c r next → Taught now.core m c r next.core × LiesOnce 0 None next os cs xs
    by Serves once k = (taught_by Serves tt now m c r next lasts within small.0 k, once)
    by (Refuses why turns objects) once k = (taught_by (Refuses why turns objects) tt now m c r next lasts within small.0 k, once)
    by (Lacks turns objects) once k = (taught_by (Lacks turns objects) tt now m c r next lasts within small.0 k, once)
    by (Gives row inverts) (k, p, less, owes, own, asks, had, given, rest) made =
        let x = given_own less owes p own (bytes_of row (length own)) given in
        let mis = asked_so row now r next k p c asks made in
        (taught_own row now c r next k p lasts asks small.0 mis (had ∙ ap (λ bs. Some bs) (sym x.0) ∙ ap (λ n. Some (bytes_of row n)) (far_long now lasts p mis.far own had)) m within, subst (λ n. LiesOnce n None next os cs xs) x.1 (subst (λ o. LiesOnce less o next os cs xs) x.2 rest))
alone_own _ now _ _ _ m once lasts within small h = absurd h
