-- A device that inverts one read lies once, and gives the true bytes at most once later.
use Rattle.std.proofs.Common.{◌≡◌, ◌≢◌, ◌≤◌, ℕ, zero, suc, Bool, true, false, arith, Option, Some, None, List, [], ◌∷◌, length, map, inl, inr, ap, sym, refl, ◌∙◌, subst}
use Rattle.std.proofs.lemmas.Bool.{cases_eq, false≢true}
use Rattle.hex.specs.Hex.{IsBytes}
use Rattle.far_word.specs.declared.refused.Refused.{Refused as Refusal}
use Rattle.far_word.specs.Bytes.{bytes_of}
use Rattle.far_word.specs.Pointer.{read_of}
use Rattle.far_word.proofs.ByteLaws.{bytes_of-small}
use Rattle.far_book.specs.book.FarSide.{kept_len}
use Rattle.far_events.specs.state.Shape.{is_shape}
use Rattle.far_events.specs.state.State.{State}
use Rattle.far_core.specs.world.WorldOf.{world_of}
use Rattle.far_events.proofs.Cells.{unused}
use Rattle.far_device.specs.Liar.{inverted}
use Rattle.far_device.specs.declared.liar.Lie.{Lie}
use Rattle.far_device.specs.declared.liar.Lie.TheVariants.{Never, Short as Shortens, Flip as Inverts}
use Rattle.far_text.specs.Command.{Book, Command, Device, Evacuator, Fail, Flawed, Flip, Mutator, On, Writes, Short}
use Rattle.far_text.specs.Written.{AllWriteBytes, WritesBytes}
use Rattle.far_replay.specs.Answers.{AnsweredBy, CommandedBy, ByDevice, FarAlong, FlawedAtMost, IsFlaw, IsMoment, first_moment, flaws, gives_some, is_true, lie_of, shape_of, Outside, Serves, Refuses, Gives, Lacks}
use Rattle.far_replay.specs.Commanded.{AsksFor, LiesFar}
use Rattle.far_replay.specs.Far.{FarBytes, HoldsBy, IsTold, ToldBy}
use Rattle.far_replay.specs.Moment.{Moment}
use Rattle.far_reply.specs.Reply.{Reply}
use Rattle.far_replay.proofs.Lasting.{Lasts, first_is_moment, moment_lasts, next_is_moment}
use Rattle.far_replay_laws.specs.FromOutside.{to_lie}
use Rattle.far_replay_laws.specs.LeftBeside.{AllButObject, LeavesBeside}
use Rattle.far_replay_laws.specs.LeftMarks.{GainsDirty, LeavesMarks, LeavesWritten}
use Rattle.far_replay_laws.specs.Lying.{GivenOf, IsKept, KeepsHeld, LiesOnce, bytes_in, if_kept, owed_in}
use Rattle.far_replay_laws.specs.OtherBytes.{ChangesObject, TellsBytes, bytes_made}
use Rattle.far_replay_laws.proofs.AloneLaw.{GivesNone}
use Rattle.far_replay_laws.proofs.GivenBytes.{lies_change, same_bytes}
use Rattle.far_replay_laws.proofs.HeldBeside.{kept_beside}
use Rattle.far_replay_laws.proofs.HeldBySteps.{far_long, far_own, kept_by_step}
use Rattle.far_replay_laws.proofs.LeavingMarks.{commands_leave}
use Rattle.far_replay_laws.proofs.LeftBeside.{commands_beside}

-- ---- what the device has along a run
-- an object's bytes are what it has, inverted
abbrev Owed : Moment → FarBytes → ℕ → Type 0
Owed now held q = (own : List ℕ) × (held q ≡ Some own) × (bytes_in now q ≡ Some (map inverted own)) × IsBytes own

-- of what it is to hold it has the objects' bytes, but for those of one object, if it may invert no read any more
record Has (n : ℕ) (owed : Option ℕ) (now : Moment) (held : FarBytes) : Type 0 where
  pub apart : (q : ℕ) → owed ≢ Some q → IsKept now q → held q ≡ bytes_in now q
  pub over : (q : ℕ) → owed ≡ Some q → n ≡ 0
  pub owes : (q : ℕ) → owed ≡ Some q → IsKept now q → Owed now held q

-- what was owed is owed then
still_owed : (now after : Moment) (held later : FarBytes) (q : ℕ) → later q ≡ held q → bytes_in after q ≡ bytes_in now q → Owed now held q → Owed after later q
still_owed now after held later q same bytes (own, has, is, small) = (own, same ∙ has, bytes ∙ is, small)

has_still : (n : ℕ) (owed : Option ℕ) (now after : Moment) (held later : FarBytes) → ((q : ℕ) → owed ≡ Some q → IsKept now q) → KeepsHeld now held after later → Has n owed now held → Has n owed after later
has_still n owed now after held later counts keeps h = record {
  apart = λ q other kept. elim (keeps q kept) [
    | inl (same, before, bytes) ↦ same ∙ h.apart q other before ∙ sym bytes
    | inr (fresh, agrees) ↦ agrees
  ];
  over = h.over;
  owes = λ q is kept. elim (keeps q kept) [
    | inl (same, before, bytes) ↦ still_owed now after held later q same bytes (h.owes q is before)
    | inr (fresh, agrees) ↦ absurd (fresh (counts q is))
  ];
}

-- ---- a command that was given words
same_pointer : (a b : ℕ) → Some a ≡ Some b → a ≡ b
same_pointer a b e = cc

-- what is owed no more isn't missed
owed_still : (n : ℕ) (owed : Option ℕ) (now : Moment) (held : FarBytes) → Has n owed now held → Has n (owed_in now owed) now held
owed_still n None now held h = h
owed_still n (Some p) now held h = by (kept_len (read_of (now.core.cell p))) refl
  where
    by : (o : Option ℕ) → kept_len (read_of (now.core.cell p)) ≡ o → Has n (if_kept p o) now held
    by (Some len) is = h
    by None is = record {
      apart = λ q other kept. h.apart q (λ e. let odd : None ≡ Some kept.0 = sym is ∙ subst (λ k. kept_len (read_of (now.core.cell k)) ≡ Some kept.0) (sym (same_pointer p q e)) kept.1 in cc) kept;
      over = λ q e. let odd : None ≡ Some q = e in absurd cc;
      owes = λ q e. let odd : None ≡ Some q = e in absurd cc;
    }

-- what is owed is to be held
owed_kept : (now : Moment) (owed : Option ℕ) (q : ℕ) → owed_in now owed ≡ Some q → IsKept now q
owed_kept now None q e = let odd : None ≡ Some q = e in absurd cc
owed_kept now (Some p) q e = by (kept_len (read_of (now.core.cell p))) refl e
  where
    by : (o : Option ℕ) → kept_len (read_of (now.core.cell p)) ≡ o → if_kept p o ≡ Some q → IsKept now q
    by (Some len) is owes = subst (IsKept now) (same_pointer p q owes) (len, is)
    by None is owes = let odd : None ≡ Some q = owes in absurd cc

-- it leaves all that is held
asks_hold : (m p : ℕ) (c : Command) (s t : State) (held later : FarBytes) → AsksFor m p c → HoldsBy c s t held later → (q : ℕ) → later q ≡ held q
asks_hold m p (Mutator k (On q how)) s t held later asks holds = holds
asks_hold m p c s t held later asks holds = absurd asks

asks_beside : (now : Moment) (m p : ℕ) (c : Command) (r : Reply) (after : Moment) → AsksFor m p c → LeavesBeside now c r after → AllButObject now.core after.core p
asks_beside now m p (Mutator k (On q how)) r after asks h = subst (AllButObject now.core after.core) asks.1 h
asks_beside now m p c r after asks h = absurd asks

-- a write leaves nothing to be held
written_none : (s t : State) (p : ℕ) (far : LiesFar s p) → LeavesWritten s t p → (len : ℕ) → kept_len (read_of (t.cell p)) ≡ Some len → ⊥
written_none s t p far leaves len kept = by ((world_of s).viewed p) refl where
  by : (b : Bool) → (world_of s).viewed p ≡ b → ⊥
  by true viewed = subst (λ o. GainsDirty o (read_of (t.cell p))) far.3 (leaves.again viewed)
  by false unseen = let (n, ds, place, is) = leaves.anew unseen in let odd : None ≡ Some len = sym (ap kept_len is) ∙ kept in cc

written_so : (now : Moment) (m p : ℕ) (c : Command) (r : Reply) (after : Moment) (bytes : List ℕ) → AsksFor m p c → TellsBytes c r bytes → LiesFar now.core p → LeavesMarks now.core c r after.core → IsKept after p → (own : List ℕ) → bytes_made c own ≡ own
written_so now m p (Mutator k (On q (Writes from new))) r after bytes asks told far leaves (len, kept) =
    absurd (written_none now.core after.core p far (subst (LeavesWritten now.core after.core) asks.1 (subst (λ x. LeavesMarks now.core (Mutator k (On q (Writes from new))) x after.core) told leaves)) len kept)
written_so now m p (Mutator k (On q how)) r after bytes asks told far leaves kept = λ own. refl
written_so now m p c r after bytes asks told far leaves kept = absurd asks

-- by what it was told
module _ (now : Moment) (c : Command) (r : Reply) (after : Moment) (held later : FarBytes) (row : ℕ → ℕ) (inverts : Bool) (is : IsMoment now) (small : WritesBytes c)
    (made : CommandedBy (Gives row inverts) now c r after) (holds : HoldsBy c now.core after.core held later) (told : ToldBy (Gives row inverts) now c held) (m p : ℕ) (x : ChangesObject row m p now c r after) where
  lasts : Lasts now
  lasts = moment_lasts now is

  abbrev given : List ℕ
  given = bytes_of row (length x.old)

  stored : x.old ≡ bytes_of (now.core.stored p) x.far.0
  stored = far_own now lasts p x.far x.old x.had

  long : length x.old ≡ x.far.0
  long = far_long now lasts p x.far x.old x.had

  are_bytes : IsBytes x.old
  are_bytes = subst IsBytes (sym stored) (bytes_of-small (now.core.stored p) x.far.0)

  is_kept : IsKept now p
  is_kept = (x.far.0, ap kept_len x.far.3)

  same : (q : ℕ) → later q ≡ held q
  same = asks_hold m p c now.core after.core held later x.asks holds

  beside : (q : ℕ) → q ≢ p → IsKept after q → IsKept now q
  beside q other (len, kept) = (len, ap (λ w. kept_len (read_of w)) (sym ((asks_beside now m p c r after x.asks (commands_beside now c r after is (Gives row inverts, made))).cells q other)) ∙ kept)

  -- the object has what was given, unless it was written
  has_given : IsKept after p → bytes_in after p ≡ Some given
  has_given kept = x.has ∙ ap (λ bs. Some bs) (written_so now m p c r after given x.asks x.told x.far (commands_leave now c r after is (Gives row inverts, made)) kept given)

  gave : IsTold inverts (held p) given
  gave = subst (λ n. IsTold inverts (held p) (bytes_of row n)) (sym long) (told m p x.asks x.far)

  module _ (n : ℕ) (owed : Option ℕ) (h : Has n owed now held) where
    -- all others are as they were
    others : (less : ℕ) (owes : Option ℕ) → ((q : ℕ) → owes ≢ Some q → q ≢ p → owed ≢ Some q) → ((q : ℕ) → owes ≡ Some q → q ≢ p → owed ≡ Some q) → ((q : ℕ) → owes ≡ Some q → less ≡ 0) →
        (owes ≢ Some p → IsKept after p → later p ≡ bytes_in after p) → (owes ≡ Some p → IsKept after p → Owed after later p) → Has less owes after later
    others less owes aside owing over here owed_here = record {
      apart = λ q other kept. elim (cases_eq q p) [
        | inl at ↦ subst (λ k. later k ≡ bytes_in after k) (sym at) (here (subst (λ k. owes ≢ Some k) at other) (subst (IsKept after) at kept))
        | inr away ↦ same q ∙ h.apart q (aside q other away) (beside q away kept) ∙ sym (x.others q away)
      ];
      over = over;
      owes = λ q is kept. elim (cases_eq q p) [
        | inl at ↦ subst (Owed after later) (sym at) (owed_here (subst (λ k. owes ≡ Some k) at is) (subst (IsKept after) at kept))
        | inr away ↦ still_owed now after held later q (same q) (x.others q away) (h.owes q (owing q is away) (beside q away kept))
      ];
    }

    abbrev Goes : ℕ → Type 0
    Goes less = (owes : Option ℕ) × GivenOf n owed p x.old given less owes × Has less owes after later

    -- its own bytes
    gave_own : owed ≢ Some p → held p ≡ bytes_in now p → given ≡ x.old → Goes n
    gave_own free agrees own = (
      owed,
      inl (own, free, refl, refl),
      others n owed (λ q other _. other) (λ q is _. is) h.over (λ _ kept. here kept) (λ is _. absurd (free is)),
    )
      where
        here : IsKept after p → later p ≡ bytes_in after p
        here kept = same p ∙ agrees ∙ x.had ∙ ap (λ bs. Some bs) (sym own) ∙ sym (has_given kept)

    -- those that were owed
    gave_owed : owed ≡ Some p → Owed now held p → IsTold false (held p) given → Goes n
    gave_owed is (own, has, are, small) (raw, there, tells) =
        let old : x.old ≡ map inverted own = same_bytes x.old (map inverted own) (sym x.had ∙ are) in
        let alike : raw ≡ own = same_bytes raw own (sym there ∙ has) in
        let gives : given ≡ own = tells (subst IsBytes (sym alike) small) ∙ alike in (
          None,
          inr (inr (old ∙ ap (map inverted) (sym gives), refl, is, refl)),
          others n None (λ q _ away e. away (same_pointer q p (sym e ∙ is))) (λ q e. let odd : None ≡ Some q = e in absurd cc) (λ q e. let odd : None ≡ Some q = e in absurd cc)
              (λ _ kept. same p ∙ has ∙ ap (λ bs. Some bs) (sym gives) ∙ sym (has_given kept)) (λ e. let odd : None ≡ Some p = e in absurd cc),
        )

    -- inverted
    gave_inverted : (less : ℕ) → n ≡ suc less → owed ≡ None → less ≡ 0 → (own : List ℕ) → held p ≡ Some own → given ≡ map inverted own → Goes less
    gave_inverted less one none last own has gives =
        let agrees : held p ≡ bytes_in now p = h.apart p (λ e. let odd : None ≡ Some p = sym none ∙ e in cc) is_kept in
        let old : own ≡ x.old = same_bytes own x.old (sym has ∙ agrees ∙ x.had) in (
          Some p,
          inr (inl (gives ∙ ap (map inverted) old, one, none, refl)),
          others less (Some p) (λ q _ _ e. let odd : None ≡ Some q = sym none ∙ e in cc) (λ q e away. absurd (away (sym (same_pointer p q e)))) (λ _ _. last) (λ other. absurd (other refl))
              (λ _ kept. (own, same p ∙ has, has_given kept ∙ ap (λ bs. Some bs) gives, subst IsBytes (sym old) are_bytes)),
        )

    -- where it has the object's bytes they are what it tells as they are
    told_own : owed ≢ Some p → held p ≡ bytes_in now p → IsTold false (held p) given → Goes n
    told_own free agrees (raw, there, tells) =
        let alike : raw ≡ x.old = same_bytes raw x.old (sym there ∙ agrees ∙ x.had) in
        gave_own free agrees (tells (subst IsBytes (sym alike) are_bytes) ∙ alike)

    -- to whomever it owes
    told_by : (o : Option ℕ) → owed ≡ o → IsTold false (held p) given → Goes n
    told_by None none told =
        let free : owed ≢ Some p = (λ e. let odd : None ≡ Some p = sym none ∙ e in cc) in
        told_own free (h.apart p free is_kept) told
    told_by (Some q) some told = elim (cases_eq q p) [
      | inl at ↦ (let is : owed ≡ Some p = some ∙ ap (λ k. Some k) at in gave_owed is (h.owes p is is_kept) told)
      | inr away ↦ told_own (λ e. away (same_pointer q p (sym some ∙ e))) (h.apart p (λ e. away (same_pointer q p (sym some ∙ e))) is_kept) told
    ]

    owes_none : (o : Option ℕ) → owed ≡ o → (less : ℕ) → n ≡ suc less → owed ≡ None
    owes_none None none less one = none
    owes_none (Some q) some less one = let odd : suc less ≡ 0 = sym one ∙ h.over q some in absurd cc

    told_inverted : (less : ℕ) → n ≡ suc less → less ≡ 0 → IsTold true (held p) given → Goes less
    told_inverted less one last (own, has, gives) = gave_inverted less one (owes_none owed refl less one) last own has gives

-- ---- along a run
-- how many reads a device may yet invert, of which so many calls may have its flaw
abbrev pub inverts_of : Lie → ℕ → ℕ
inverts_of Inverts n = n
inverts_of lie n = 0

-- whatever a command is, if it was given nothing, what is to be held stays
keeps : (o : Outside) → GivesNone o → (now : Moment) (c : Command) (r : Reply) (after : Moment) (held later : FarBytes) → IsMoment now → WritesBytes c → CommandedBy o now c r after → HoldsBy c now.core after.core held later →
    KeepsHeld now held after later
keeps o none now (Mutator m request) r after held later is small h holds = kept_beside o none now (Mutator m request) r after held later is small tt h holds
keeps o none now (Book inquiry) r after held later is small h holds = kept_beside o none now (Book inquiry) r after held later is small tt h holds
keeps o none now (Evacuator step) r after held later is small h holds =
    kept_by_step now r after held later is step (o, h) (moment_lasts after (next_is_moment now (Evacuator step) r after is small (o, h))) holds

-- where nothing was given nothing is said
pub none_given : (n : ℕ) (owed : Option ℕ) (now : Moment) (os : List Outside) (cs : List Command) (ms : List Moment) → gives_some os ≡ false → LiesOnce n owed now os cs ms
none_given n owed now [] cs ms none = tt
none_given n owed now (Gives row inverts ∷ os) cs ms none = absurd (false≢true (sym none))
none_given n owed now (o ∷ os) [] ms none = tt
none_given n owed now (o ∷ os) (c ∷ cs) [] none = tt
none_given n owed now (Serves ∷ os) (c ∷ cs) (after ∷ ms) none = none_given n (owed_in now owed) after os cs ms none
none_given n owed now (Refuses why turns objects ∷ os) (c ∷ cs) (after ∷ ms) none = none_given n (owed_in now owed) after os cs ms none
none_given n owed now (Lacks turns objects ∷ os) (c ∷ cs) (after ∷ ms) none = none_given n (owed_in now owed) after os cs ms none

-- what a flaw leaves to be inverted
refused_left : (lie : Lie) (why : Refusal) (turns objects n : ℕ) → IsFlaw lie (Refuses why turns objects) → inverts_of lie n ≡ inverts_of lie (suc n)
refused_left Never why turns objects n h = refl
refused_left Shortens why turns objects n h = refl
refused_left Inverts why turns objects n h = absurd h

inverted_left : (lie : Lie) (row : ℕ → ℕ) (n : ℕ) → IsFlaw lie (Gives row true) → inverts_of lie (suc n) ≡ suc (inverts_of lie n)
inverted_left Never row n h = absurd h
inverted_left Shortens row n h = absurd h
inverted_left Inverts row n h = refl

module _ (lie : Lie) where
  run : (n : ℕ) (owed : Option ℕ) (now : Moment) (os : List Outside) (cs : List Command) (rs : List Reply) (ms : List Moment) (held : FarBytes) → inverts_of lie n ≤ 1 → IsMoment now → AllWriteBytes cs → FlawedAtMost lie n os → AnsweredBy os now cs rs ms →
      FarAlong held now os cs ms → Has (inverts_of lie n) owed now held → LiesOnce (inverts_of lie n) owed now os cs ms
  run n owed now [] cs rs ms held one is small few h along has = tt
  run n owed now (o ∷ os) [] rs ms held one is small few h along has = absurd h
  run n owed now (o ∷ os) (c ∷ cs) [] ms held one is small few h along has = absurd h
  run n owed now (o ∷ os) (c ∷ cs) (r ∷ rs) [] held one is small few h along has = absurd h
  run n owed now (Serves ∷ os) (c ∷ cs) (r ∷ rs) (after ∷ ms) held one is small few h (later, holds, told, rest) has =
      run n (owed_in now owed) after os cs rs ms later one (next_is_moment now c r after is small.0 (Serves, h.0)) small.1 few h.1 rest
      (has_still (inverts_of lie n) (owed_in now owed) now after held later (owed_kept now owed) (keeps Serves tt now c r after held later is small.0 h.0 holds) (owed_still (inverts_of lie n) owed now held has))
  run n owed now (Lacks turns objects ∷ os) (c ∷ cs) (r ∷ rs) (after ∷ ms) held one is small few h (later, holds, told, rest) has =
      run n (owed_in now owed) after os cs rs ms later one (next_is_moment now c r after is small.0 (Lacks turns objects, h.0)) small.1 few h.1 rest
      (has_still (inverts_of lie n) (owed_in now owed) now after held later (owed_kept now owed) (keeps (Lacks turns objects) tt now c r after held later is small.0 h.0 holds) (owed_still (inverts_of lie n) owed now held has))
  run n owed now (Gives row false ∷ os) (c ∷ cs) (r ∷ rs) (after ∷ ms) held one is small few h (later, holds, told, rest) has =
      let (m, p, x) = lies_change row false now c r after is small.0 h.0 in
      let k = inverts_of lie n in
      let goes = told_by now c r after held later row false is small.0 h.0 holds told m p x k (owed_in now owed) (owed_still k owed now held has) (owed_in now owed) refl (gave now c r after held later row false is small.0 h.0 holds told m p x) in (
        m,
        p,
        k,
        goes.0,
        x.old,
        x.asks,
        x.had,
        goes.1,
        run n goes.0 after os cs rs ms later one (next_is_moment now c r after is small.0 (Gives row false, h.0)) small.1 few h.1 rest goes.2,
      )
  run (suc n) owed now (Refuses why turns objects ∷ os) (c ∷ cs) (r ∷ rs) (after ∷ ms) held one is small few h (later, holds, told, rest) has =
      let left = refused_left lie why turns objects n few.0 in
      subst (λ k. LiesOnce k (owed_in now owed) after os cs ms) left
      (run n (owed_in now owed) after os cs rs ms later (subst (λ k. k ≤ 1) (sym left) one) (next_is_moment now c r after is small.0 (Refuses why turns objects, h.0)) small.1 few.1 h.1 rest
      (has_still (inverts_of lie n) (owed_in now owed) now after held later (owed_kept now owed) (keeps (Refuses why turns objects) tt now c r after held later is small.0 h.0 holds)
      (subst (λ k. Has k (owed_in now owed) now held) (sym left) (owed_still (inverts_of lie (suc n)) owed now held has))))
  run (suc n) owed now (Gives row true ∷ os) (c ∷ cs) (r ∷ rs) (after ∷ ms) held one is small few h (later, holds, told, rest) has =
      let (m, p, x) = lies_change row true now c r after is small.0 h.0 in
      let k = inverts_of lie (suc n) in
      let less = inverts_of lie n in
      let left : k ≡ suc less = inverted_left lie row n few.0 in
      let last : less ≡ 0 = omega (arith, one, left) in
      let goes = told_inverted now c r after held later row true is small.0 h.0 holds told m p x k (owed_in now owed) (owed_still k owed now held has) less left last (gave now c r after held later row true is small.0 h.0 holds told m p x) in (
        m,
        p,
        less,
        goes.0,
        x.old,
        x.asks,
        x.had,
        goes.1,
        run n goes.0 after os cs rs ms later (omega (arith, last)) (next_is_moment now c r after is small.0 (Gives row true, h.0)) small.1 few.1 h.1 rest goes.2,
      )
  run zero owed now (Gives row true ∷ os) (c ∷ cs) (r ∷ rs) (after ∷ ms) held one is small few h along has = absurd few
  run zero owed now (Refuses why turns objects ∷ os) (c ∷ cs) (r ∷ rs) (after ∷ ms) held one is small few h along has = absurd few

-- ---- from a text on
-- no object is there at first
first_has : (n logs mutators epoch : ℕ) (honest : Bool) (held : FarBytes) → Has n None (first_moment logs mutators epoch honest) held
first_has n logs mutators epoch honest held = record {
  apart = λ q other kept. let odd : None ≡ Some kept.0 = sym (ap kept_len unused) ∙ kept.1 in absurd cc;
  over = λ q e. let odd : None ≡ Some q = e in absurd cc;
  owes = λ q e. let odd : None ≡ Some q = e in absurd cc;
}

inverts_said : (device : Option Device) → inverts_of (lie_of device) (flaws device) ≡ to_lie device
inverts_said None = refl
inverts_said (Some (Flawed Fail zero)) = refl
inverts_said (Some (Flawed Fail (suc call))) = refl
inverts_said (Some (Flawed Short zero)) = refl
inverts_said (Some (Flawed Short (suc call))) = refl
inverts_said (Some (Flawed Flip zero)) = refl
inverts_said (Some (Flawed Flip (suc call))) = refl

pub lies_few : (device : Option Device) → to_lie device ≤ 1
lies_few (Some (Flawed Flip (suc call))) = omega arith
lies_few device = omega arith

pub lies_once : (logs mutators epoch : ℕ) (device : Option Device) (os : List Outside) (cs : List Command) (rs : List Reply) (ms : List Moment) → is_shape (shape_of logs mutators epoch) ≡ true → AllWriteBytes cs →
    ByDevice (lie_of device) (flaws device) os (first_moment logs mutators epoch (is_true device)) cs ms → AnsweredBy os (first_moment logs mutators epoch (is_true device)) cs rs ms →
    LiesOnce (to_lie device) None (first_moment logs mutators epoch (is_true device)) os cs ms
lies_once logs mutators epoch device os cs rs ms fits small by h = elim (gives_some os) as (λ b. gives_some os ≡ b → LiesOnce (to_lie device) None (first_moment logs mutators epoch (is_true device)) os cs ms) [
  | true ↦ λ some.
      let (held, along) = by.along some in
      let now = first_moment logs mutators epoch (is_true device) in
      let said = inverts_said device in
      subst (λ k. LiesOnce k None now os cs ms) said
      (run (lie_of device) (flaws device) None now os cs rs ms held (subst (λ k. k ≤ 1) (sym said) (lies_few device)) (first_is_moment logs mutators epoch (is_true device) fits) small by.few h along
      (first_has (inverts_of (lie_of device) (flaws device)) logs mutators epoch (is_true device) held))
  | false ↦ λ none. none_given (to_lie device) None (first_moment logs mutators epoch (is_true device)) os cs ms none
] refl
