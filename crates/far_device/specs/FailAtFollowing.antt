-- What the calls leave of a device of which one call fails.
use Rattle.std.specs.Prelude.{◌≡◌, ◌≢◌, ℕ, zero, suc, ◌+◌, ◌-◌, ◌==◌, ◌%◌, ◌^◌, ◌<◌, Bool, true, false, cond, List, Option, Result}
use Rattle.std.proofs.Common.{refl, ap, sym, subst, ◌∙◌}
use Rattle.std.proofs.lemmas.Bool.{eqb-true, false≢true}
use Rattle.std.proofs.Math.Nat.{suc-sub-suc, sub-zero}
use Rattle.far_device.specs.FailAt.{in_all, MayFail, IsFailed, IsPassedOn, Counts}
use Rattle.far_device.specs.Faults.{CountsFault, SpendsFault, is_fault}
use Rattle.far_device.specs.Following.{Follows, any_key}
use Rattle.far_device.specs.declared.fault.DeviceFault.{DeviceFault}

-- what the numbers owe, which is the caller's to show: a fault of its own changes the count, and so does any change of the inner count
pub record Numbers : Type 0 where
  pub own : (f o : ℕ) → in_all f ((o + 1) % 2 ^ 64) ≢ in_all f o
  pub inner : (f g o : ℕ) → f < 2 ^ 64 → g < 2 ^ 64 → g ≢ f → in_all g o ≢ in_all f o

-- where one call more is to fail, before and after, what may fail is spent as it was
shifted : (fault : Bool) (old new : ℕ → Type 0) (l k : ℕ) → SpendsFault fault old new → SpendsFault fault (MayFail (suc l) old) (MayFail (suc k) new)
shifted true old new l k h = (λ none. none, fails)
  where
    fails : (n : ℕ) → old n → MayFail (suc k) new n
    fails zero few = absurd (h.0 few)
    fails (suc n) few = h.1 n few
shifted false old new l k h = keeps
  where
    keeps : (n : ℕ) → MayFail (suc l) old n → MayFail (suc k) new n
    keeps zero none = none
    keeps (suc n) few = h n few

-- the call that fails spends itself
spends_own : (old : ℕ → Type 0) (l : ℕ) → l ≡ 1 → SpendsFault true (MayFail l old) (MayFail 0 old)
spends_own old l here = subst (λ k. SpendsFault true (MayFail k old) (MayFail 0 old)) (sym here) (λ none. none, λ n few. few)

-- a call that was passed on spends what it spends of the inner device
spends_passed : (fault : Bool) (old new : ℕ → Type 0) (l : ℕ) → (l == 1) ≡ false → SpendsFault fault old new → SpendsFault fault (MayFail l old) (MayFail (l - 1) new)
spends_passed fault old new zero other h = h
spends_passed fault old new (suc zero) other h = absurd (false≢true (sym other))
spends_passed fault old new (suc (suc l)) other h =
    subst (λ k. SpendsFault fault (MayFail (suc (suc l)) old) (MayFail k new)) (sym (suc-sub-suc (suc l) 0 ∙ sub-zero (suc l))) (shifted fault old new (suc l) l h)

-- and so does one that isn't counted
spends_uncounted : (old new : ℕ → Type 0) (l : ℕ) → SpendsFault false old new → SpendsFault false (MayFail l old) (MayFail l new)
spends_uncounted old new zero h = h
spends_uncounted old new (suc l) h = shifted false old new l l h

-- the count after a call that was passed on
counts_passed : Numbers → (fault : Bool) (f g o : ℕ) → f < 2 ^ 64 → g < 2 ^ 64 → CountsFault fault f g → CountsFault fault (in_all f o) (in_all g o)
counts_passed numbers true f g o below still h = numbers.inner f g o below still h
counts_passed numbers false f g o below still h = ap (λ count. in_all count o) h

spends_as : (fault : Bool) (old new old2 new2 : ℕ → Type 0) → ((n : ℕ) → old2 n → old n) → ((n : ℕ) → new n → new2 n) → SpendsFault fault old new → SpendsFault fault old2 new2
spends_as true old new old2 new2 back on h = (λ none. h.0 (back 0 none), λ n few. on n (h.1 n (back (suc n) few)))
spends_as false old new old2 new2 back on h = λ n few. on n (h n (back n few))

-- a fact that holds throughout, said of the inner device or of both
held_back : (P : Type 0) (inner : ℕ → Type 0) (l n : ℕ) → P × MayFail l inner n → MayFail l (λ k. P × inner k) n
held_back P inner zero n h = h
held_back P inner (suc l) zero h = h.1
held_back P inner (suc l) (suc n) h = h

held_on : (P : Type 0) (inner : ℕ → Type 0) (l n : ℕ) → MayFail l (λ k. P × inner k) n → P × MayFail l inner n
held_on P inner zero n h = h
held_on P inner (suc l) zero h = absurd h
held_on P inner (suc l) (suc n) h = h

module _ {S D : Type 0} (inner : S → D) (left own : S → ℕ) (contents : D → ℕ → Option (List ℕ)) (is_honest : D → Bool) (faults : D → ℕ) where
  -- what calls leave of both
  abbrev pub FollowsBoth : (D → ℕ → Type 0) → (ℕ → Type 0) → Bool → S → S → Type 0
  FollowsBoth fails_at_most alone fault s t = Follows (λ x. contents (inner x)) (λ x. is_honest (inner x)) (λ x. in_all (faults (inner x)) (own x))
      (λ x. MayFail (left x) (fails_at_most (inner x))) alone fault s t

  -- a key let go of, which isn't counted
  pub uncounted_follows : (fails_at_most : D → ℕ → Type 0) (alone : ℕ → Type 0) (s t : S) →
      Follows contents is_honest faults fails_at_most alone false (inner s) (inner t) → left t ≡ left s → own t ≡ own s → FollowsBoth fails_at_most alone false s t
  uncounted_follows fails_at_most alone s t was nearer same = record {
    others = was.others;
    honest = was.honest;
    counted = ap (in_all (faults (inner t))) same ∙ ap (λ count. in_all count (own s)) was.counted;
    spent = subst (λ l. SpendsFault false (MayFail (left s) (fails_at_most (inner s))) (MayFail l (fails_at_most (inner t)))) (sym nearer)
        (spends_uncounted (fails_at_most (inner s)) (fails_at_most (inner t)) (left s) was.spent);
  }

module _ {S D : Type 0} (numbers : Numbers) (inner : S → D) (left own : S → ℕ) (contents : D → ℕ → Option (List ℕ)) (is_honest : D → Bool) (faults : D → ℕ)
    (below : (d : D) → faults d < 2 ^ 64) where
  -- the call that fails
  failed_follows : (fails_at_most : D → ℕ → Type 0) (alone : ℕ → Type 0) (s t : S) → left s ≡ 1 → inner t ≡ inner s → left t ≡ 0 → own t ≡ (own s + 1) % 2 ^ 64 →
      FollowsBoth inner left own contents is_honest faults fails_at_most alone true s t
  failed_follows fails_at_most alone s t here stays none more = record {
    others = λ q is. ap (λ d. contents d q) stays;
    honest = ap is_honest stays;
    counted = λ same. numbers.own (faults (inner s)) (own s)
        (sym (ap (in_all (faults (inner s))) more) ∙ sym (ap (λ d. in_all (faults d) (own t)) stays) ∙ same);
    spent = subst (λ d. SpendsFault true (MayFail (left s) (fails_at_most (inner s))) (MayFail (left t) (fails_at_most d))) (sym stays)
        (subst (λ l. SpendsFault true (MayFail (left s) (fails_at_most (inner s))) (MayFail l (fails_at_most (inner s)))) (sym none) (spends_own (fails_at_most (inner s)) (left s) here));
  }

  -- a call that was passed on
  passed_follows : (fails_at_most : D → ℕ → Type 0) (alone : ℕ → Type 0) (fault : Bool) (s t : S) → (left s == 1) ≡ false →
      Follows contents is_honest faults fails_at_most alone fault (inner s) (inner t) → left t ≡ left s - 1 → own t ≡ own s → FollowsBoth inner left own contents is_honest faults fails_at_most alone fault s t
  passed_follows fails_at_most alone fault s t other was nearer same = record {
    others = was.others;
    honest = was.honest;
    counted = subst (λ o. CountsFault fault (in_all (faults (inner s)) (own s)) (in_all (faults (inner t)) o)) (sym same)
        (counts_passed numbers fault (faults (inner s)) (faults (inner t)) (own s) (below (inner s)) (below (inner t)) was.counted);
    spent = subst (λ l. SpendsFault fault (MayFail (left s) (fails_at_most (inner s))) (MayFail l (fails_at_most (inner t)))) (sym nearer)
        (spends_passed fault (fails_at_most (inner s)) (fails_at_most (inner t)) (left s) other was.spent);
  }

  -- a write, or a read where what may yet fail is said of the inner device
  pub counts_follow : (fails_at_most : D → ℕ → Type 0) (alone : ℕ → Type 0) {A : Type 0} (answer : Result A DeviceFault) (Asked : Type 0) (s t : S) →
      (Asked → Follows contents is_honest faults fails_at_most alone (is_fault answer) (inner s) (inner t)) →
      Counts (left s) (own s) (inner s) answer (left t) (own t) (inner t) Asked → FollowsBoth inner left own contents is_honest faults fails_at_most alone (is_fault answer) s t
  counts_follow fails_at_most alone {A} answer Asked s t was h = either (left s == 1) refl h
    where
      either : (turn : Bool) → (left s == 1) ≡ turn → cond turn (IsFailed (own s) (inner s) answer (left t) (own t) (inner t)) (IsPassedOn (left s) (own s) (left t) (own t) Asked) →
          FollowsBoth inner left own contents is_honest faults fails_at_most alone (is_fault answer) s t
      either true here h = subst (λ (x : Result A DeviceFault). FollowsBoth inner left own contents is_honest faults fails_at_most alone (is_fault x) s t) (sym h.0)
          (failed_follows fails_at_most alone s t (eqb-true (left s) 1 here) h.1 h.2 h.3)
      either false other h = passed_follows fails_at_most alone (is_fault answer) s t other (was h.0) h.1 h.2

  -- a read
  pub read_counts : (fails_at_most : D → ℕ → Type 0) (P : Type 0) {A : Type 0} (answer : Result A DeviceFault) (Asked : Type 0) (s t : S) →
      (Asked → Follows contents is_honest faults (λ d n. P × fails_at_most d n) any_key (is_fault answer) (inner s) (inner t)) →
      Counts (left s) (own s) (inner s) answer (left t) (own t) (inner t) Asked →
      Follows (λ x. contents (inner x)) (λ x. is_honest (inner x)) (λ x. in_all (faults (inner x)) (own x)) (λ x n. P × MayFail (left x) (fails_at_most (inner x)) n) any_key (is_fault answer) s t
  read_counts fails_at_most P {A} answer Asked s t was h =
      let both : FollowsBoth inner left own contents is_honest faults (λ d n. P × fails_at_most d n) any_key (is_fault answer) s t = counts_follow (λ d n. P × fails_at_most d n) any_key answer Asked s t was h in
      record {
        others = both.others;
        honest = both.honest;
        counted = both.counted;
        spent = spends_as (is_fault answer) (MayFail (left s) (λ n. P × fails_at_most (inner s) n)) (MayFail (left t) (λ n. P × fails_at_most (inner t) n))
            (λ n. P × MayFail (left s) (fails_at_most (inner s)) n) (λ n. P × MayFail (left t) (fails_at_most (inner t)) n)
            (held_back P (fails_at_most (inner s)) (left s)) (held_on P (fails_at_most (inner t)) (left t)) both.spent;
      }
