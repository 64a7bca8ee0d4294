-- The k-th call by what is left of k.
use Rattle.std.proofs.Common.{◌≡◌, ◌≢◌, ◌⊎◌, inl, inr, ◌∙◌, ℕ, ◌+◌, ◌-◌, ◌==◌, Bool, true, false, cond, List, [], ◌∷◌, Result, Ok, Err, refl, ap, sym, subst, arith}
use Rattle.std.proofs.lemmas.Bool.{eqb-true, false≢true}
use Rattle.std.proofs.lemmas.Bool.Decides.{nat_tests}
use Rattle.far_device.specs.FailAt.{IsFailed, IsPassedOn, Counts}
use Rattle.far_device.specs.KthCall.{Made, counted, SomeWrite, SomeRead, SomeForget, KthFails, KthLies}
use Rattle.far_device.specs.Liar.{told}
use Rattle.far_device.specs.declared.fault.DeviceFault.{DeviceFault}
use Rattle.far_device.specs.declared.liar.Lie.{Lie}

-- each call that is counted takes one
left_made : {S : Type 0} (left : S → ℕ) (Counted Aside : S → S → Type 0) → ((x y : S) → Counted x y → left y ≡ left x - 1) → ((x y : S) → Aside x y → left y ≡ left x) →
    (calls : List Bool) (s m : S) → Made Counted Aside calls s m → left m ≡ left s - counted calls
left_made left Counted Aside one none [] s m h = let same : left m ≡ left s = ap left h in omega arith
left_made left Counted Aside one none (true ∷ calls) s m h =
    let first : left h.0 ≡ left s - 1 = one s h.0 h.1 in
    let then : left m ≡ left h.0 - counted calls = left_made left Counted Aside one none calls h.0 m h.2 in
    omega arith
left_made left Counted Aside one none (false ∷ calls) s m h =
    let first : left h.0 ≡ left s = none s h.0 h.1 in
    let then : left m ≡ left h.0 - counted calls = left_made left Counted Aside one none calls h.0 m h.2 in
    omega arith

-- the k-th has come, or another
turn_here : (l k n : ℕ) → l ≡ k - n → n + 1 ≡ k → (l == 1) ≡ true
turn_here l k n left here = grind (arith, nat_tests)

turn_other : (l k n : ℕ) → l ≡ k - n → n + 1 ≢ k → (l == 1) ≡ false
turn_other l k n left other = grind (arith, nat_tests)

cond_true : (A B : Type 0) (b : Bool) → b ≡ true → cond b A B → A
cond_true A B true is h = h
cond_true A B false is h = absurd (false≢true is)

cond_false : (A B : Type 0) (b : Bool) → b ≡ false → cond b A B → B
cond_false A B true is h = absurd (false≢true (sym is))
cond_false A B false is h = h

module _ {A D : Type 0} (l own : ℕ) (inner : D) (answer : Result A DeviceFault) (l2 own2 : ℕ) (inner2 : D) (Asked : Type 0) where
  counts_one : Counts l own inner answer l2 own2 inner2 Asked → l2 ≡ l - 1
  counts_one h = either (l == 1) refl h
    where
      either : (turn : Bool) → (l == 1) ≡ turn → cond turn (IsFailed own inner answer l2 own2 inner2) (IsPassedOn l own l2 own2 Asked) → l2 ≡ l - 1
      either true here h = let one : l ≡ 1 = eqb-true l 1 here in let none : l2 ≡ 0 = h.2 in omega arith
      either false other h = h.1

module _ {S D : Type 0} (left own : S → ℕ) (inner : S → D) (writes : D → ℕ → List ℕ → Result (Unit {0}) DeviceFault → D → Type 0)
    (reads : D → ℕ → Result (List ℕ) DeviceFault → D → Type 0) (lets_go : D → ℕ → D → Type 0) where
  abbrev pub FailWrites : S → ℕ → List ℕ → Result (Unit {0}) DeviceFault → S → Type 0
  FailWrites s id bytes answer t = Counts (left s) (own s) (inner s) answer (left t) (own t) (inner t) (writes (inner s) id bytes answer (inner t))

  abbrev pub FailReads : S → ℕ → Result (List ℕ) DeviceFault → S → Type 0
  FailReads s id answer t = Counts (left s) (own s) (inner s) answer (left t) (own t) (inner t) (reads (inner s) id answer (inner t))

  abbrev pub FailForgets : S → ℕ → S → Type 0
  FailForgets s id t = lets_go (inner s) id (inner t) × (left t ≡ left s) × (own t ≡ own s)

  one : (x y : S) → SomeWrite FailWrites x y ⊎ SomeRead FailReads x y → left y ≡ left x - 1
  one x y (inl h) = counts_one (left x) (own x) (inner x) h.2 (left y) (own y) (inner y) (writes (inner x) h.0 h.1 h.2 (inner y)) h.3
  one x y (inr h) = counts_one (left x) (own x) (inner x) h.1 (left y) (own y) (inner y) (reads (inner x) h.0 h.1 (inner y)) h.2

  pub kth_fails : KthFails left inner FailWrites FailReads FailForgets writes reads
  kth_fails calls s m t made =
      let now : left m ≡ left s - counted calls =
      left_made left (λ x y. SomeWrite FailWrites x y ⊎ SomeRead FailReads x y) (SomeForget FailForgets) one (λ x y h. h.1.1) calls s m made in (
        λ id bytes answer h. (
          λ here. let is = cond_true _ _ (left m == 1) (turn_here (left m) (left s) (counted calls) now here) h in (is.0, is.1),
          λ other. (cond_false _ _ (left m == 1) (turn_other (left m) (left s) (counted calls) now other) h).0,
        ),
        λ id answer h. (
          λ here. let is = cond_true _ _ (left m == 1) (turn_here (left m) (left s) (counted calls) now here) h in (is.0, is.1),
          λ other. (cond_false _ _ (left m == 1) (turn_other (left m) (left s) (counted calls) now other) h).0,
        ),
      )

-- what isn't a lie is what the inner device gave
told_so : (lie : Lie) (held : Result (List ℕ) DeviceFault) → told false lie held ≡ held
told_so lie (Ok bytes) = refl
told_so lie (Err why) = refl

module _ {S D : Type 0} (left : S → ℕ) (lie : S → Lie) (inner : S → D) (writes : D → ℕ → List ℕ → Result (Unit {0}) DeviceFault → D → Type 0)
    (reads : D → ℕ → Result (List ℕ) DeviceFault → D → Type 0) (lets_go : D → ℕ → D → Type 0) where
  abbrev pub LiarWrites : S → ℕ → List ℕ → Result (Unit {0}) DeviceFault → S → Type 0
  LiarWrites s id bytes answer t = writes (inner s) id bytes answer (inner t) × (lie t ≡ lie s) × (left t ≡ left s)

  abbrev pub LiarReads : S → ℕ → Result (List ℕ) DeviceFault → S → Type 0
  LiarReads s id answer t = (held : Result (List ℕ) DeviceFault) × reads (inner s) id held (inner t) × (answer ≡ told (left s == 1) (lie s) held) × (lie t ≡ lie s) × (left t ≡ left s - 1)

  abbrev pub LiarForgets : S → ℕ → S → Type 0
  LiarForgets s id t = lets_go (inner s) id (inner t) × (lie t ≡ lie s) × (left t ≡ left s)

  aside : (x y : S) → SomeWrite LiarWrites x y ⊎ SomeForget LiarForgets x y → (left y ≡ left x) × (lie y ≡ lie x)
  aside x y (inl h) = (h.3.2, h.3.1)
  aside x y (inr h) = (h.1.2, h.1.1)

  lie_made : (calls : List Bool) (s m : S) → Made (SomeRead LiarReads) (λ x y. SomeWrite LiarWrites x y ⊎ SomeForget LiarForgets x y) calls s m → lie m ≡ lie s
  lie_made [] s m h = ap lie h
  lie_made (true ∷ calls) s m h = lie_made calls h.0 m h.2 ∙ h.1.2.3
  lie_made (false ∷ calls) s m h = lie_made calls h.0 m h.2 ∙ (aside s h.0 h.1).1

  pub kth_lies : KthLies left lie inner LiarWrites LiarReads LiarForgets reads
  kth_lies calls s m t made id answer h =
      let now : left m ≡ left s - counted calls =
      left_made left (SomeRead LiarReads) (λ x y. SomeWrite LiarWrites x y ⊎ SomeForget LiarForgets x y) (λ x y read. read.2.4) (λ x y call. (aside x y call).0) calls s m made in (
        λ here. (h.0, h.1, h.2 ∙ ap (λ turn. told turn (lie m) h.0) (turn_here (left m) (left s) (counted calls) now here) ∙ ap (λ l. told true l h.0) (lie_made calls s m made)),
        λ other. subst (λ (x : Result (List ℕ) DeviceFault). reads (inner m) id x (inner t))
            (sym (h.2 ∙ ap (λ turn. told turn (lie m) h.0) (turn_other (left m) (left s) (counted calls) now other) ∙ told_so (lie m) h.0)) h.1,
      )
