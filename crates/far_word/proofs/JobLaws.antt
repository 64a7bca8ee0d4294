-- The job word: what a word says, and the word that says it.
use Rattle.std.proofs.Common.{◌≡◌, ℕ, ◌+◌, ◌*◌, ◌/◌, ◌^◌, ◌<◌, ◌≤◌, true, false, nat_eq, nat_lt, ◌∙◌, subst, refl, arith, Option, Some, IfSome, bit_or}
use Rattle.std.proofs.lemmas.Bool.Decides.{nat_tests}
use Rattle.far_word.specs.Job.{IsJob, IsJobWord, job_sum, job_word, job_in, names_job, staged, job_of}
use Rattle.far_word.specs.Mark.{field}
use Rattle.far_word.specs.declared.job.Job.{Job}
use Rattle.far_word.specs.declared.job.JobWord.{JobWord}
use Rattle.far_word.specs.declared.job.JobWord.TheVariants.{Empty, Offered, Taken, Finished}
use Rattle.far_word.specs.declared.sizes.TheConstants.{LAST_AT, MOST_COPIERS, MOST_LOGS, POINTERS}
use Rattle.far_word.proofs.Words.{split_at, or_up, at_guard, at_choice}

-- ---- a word is packed from its lowest field up
pub job_packs : (p a l b k c stage : ℕ) → p < 2 ^ 16 → a < 2 ^ 10 → l < 2 ^ 8 → b < 2 ^ 10 → k < 2 ^ 8 → c < 2 ^ 4 →
    bit_or (bit_or (bit_or (bit_or (bit_or (bit_or p (a * 2 ^ 16)) (l * 2 ^ 26)) (b * 2 ^ 34)) (k * 2 ^ 44)) (c * 2 ^ 58)) (stage * 2 ^ 62)
    ≡ p + a * 2 ^ 16 + l * 2 ^ 26 + b * 2 ^ 34 + k * 2 ^ 44 + c * 2 ^ 58 + stage * 2 ^ 62
job_packs p a l b k c stage hp ha hl hb hk hc =
    rw (
      or_up p a 16 (omega arith),
      or_up (p + a * 2 ^ 16) l 26 (omega arith),
      or_up (p + a * 2 ^ 16 + l * 2 ^ 26) b 34 (omega arith),
      or_up (p + a * 2 ^ 16 + l * 2 ^ 26 + b * 2 ^ 34) k 44 (omega arith),
      or_up (p + a * 2 ^ 16 + l * 2 ^ 26 + b * 2 ^ 34 + k * 2 ^ 44) c 58 (omega arith),
      or_up (p + a * 2 ^ 16 + l * 2 ^ 26 + b * 2 ^ 34 + k * 2 ^ 44 + c * 2 ^ 58) stage 62 (omega arith),
    ) refl

-- ---- what is read stands in the word
abbrev SaysJob : ℕ → JobWord → Type 0
SaysJob w v = IsJobWord v × (job_word v ≡ w)

job_fields : (w : ℕ) → field w 52 6 ≡ 0 →
    w ≡ field w 0 16 + field w 16 10 * 2 ^ 16 + field w 26 8 * 2 ^ 26 + field w 34 10 * 2 ^ 34 + field w 44 8 * 2 ^ 44 + field w 58 4 * 2 ^ 58 + w / 2 ^ 62 * 2 ^ 62
job_fields w gap = omega (arith, split_at w 0 16, split_at w 16 10, split_at w 26 8, split_at w 34 10, split_at w 44 8, split_at w 52 6, split_at w 58 4)

fits : (w : ℕ) → names_job w ≡ true → IsJob (job_in w) × (field w 52 6 ≡ 0)
fits w h = (record { cell = grind (arith, nat_tests); from = (grind (arith, nat_tests), grind (arith, nat_tests)); to = (grind (arith, nat_tests), grind (arith, nat_tests)) }, grind (arith, nat_tests))

staged_says : (w stage : ℕ) → w / 2 ^ 62 ≡ stage → IsJob (job_in w) → field w 52 6 ≡ 0 → IfSome (staged w stage) (SaysJob w)
staged_says w stage top ok gap = at_choice (SaysJob w) _ _ _
    (λ (one : nat_eq stage 1 ≡ true). at_guard (SaysJob w) _ _ (λ (none : nat_eq (field w 58 4) 0 ≡ true).
    let a : stage ≡ 1 = grind (arith, nat_tests) in let b : field w 58 4 ≡ 0 = grind (arith, nat_tests) in
    (ok, omega (arith, job_fields w gap))))
    (λ _. at_guard (SaysJob w) _ _ (λ (few : nat_lt (field w 58 4) MOST_COPIERS ≡ true).
    let c : field w 58 4 < MOST_COPIERS = grind (arith, nat_tests) in
    at_choice (SaysJob w) _ _ _
    (λ (two : nat_eq stage 2 ≡ true). let a : stage ≡ 2 = grind (arith, nat_tests) in ((ok, c), omega (arith, job_fields w gap)))
    (λ _. at_guard (SaysJob w) _ _ (λ (three : nat_eq stage 3 ≡ true). let a : stage ≡ 3 = grind (arith, nat_tests) in ((ok, c), omega (arith, job_fields w gap))))))

pub job_found : (w : ℕ) → IfSome (job_of w) (SaysJob w)
unfolding job_of
job_found w = at_choice (SaysJob w) _ _ _ (λ (h : nat_eq w 0 ≡ true). let e : 0 ≡ w = grind (arith, nat_tests) in (tt, e))
    (λ _. at_guard (SaysJob w) _ _ (λ (h : names_job w ≡ true). let f = fits w h in staged_says w (w / 2 ^ 62) refl f.0 f.1))

-- a job that was read lies on the layout, and its word is the one read
pub job_says : (w : ℕ) (v : JobWord) → job_of w ≡ Some v → IsJobWord v × (job_word v ≡ w)
job_says w v e = subst (λ (o : Option JobWord). IfSome o (SaysJob w)) e (job_found w)

-- ---- the word of a job is read as that job
fits_back : (w : ℕ) → IsJob (job_in w) → field w 52 6 ≡ 0 → names_job w ≡ true
fits_back w ok gap =
    let p : field w 0 16 < POINTERS = ok.cell in
    let a : field w 26 8 < MOST_LOGS = ok.from.0 in let b : field w 16 10 ≤ LAST_AT = ok.from.1 in
    let c : field w 44 8 < MOST_LOGS = ok.to.0 in let d : field w 34 10 ≤ LAST_AT = ok.to.1 in
    grind (arith, nat_tests)

module _ (k : Job) (c stage : ℕ) (ok : IsJob k) (few : c < MOST_COPIERS) (some : 0 < stage) (three : stage ≤ 3) where
  fields_back : (w : ℕ) → w ≡ job_sum k c stage →
      (field w 0 16 ≡ k.pointer) × (field w 16 10 ≡ k.from.at) × (field w 26 8 ≡ k.from.log) × (field w 34 10 ≡ k.to.at) × (field w 44 8 ≡ k.to.log) × (field w 52 6 ≡ 0) × (field w 58 4 ≡ c) × (w / 2 ^ 62 ≡ stage)
  fields_back w e =
      let a : k.pointer < POINTERS = ok.cell in
      let b = ok.from in
      let d = ok.to in
      (omega arith, omega arith, omega arith, omega arith, omega arith, omega arith, omega arith, omega arith)

  word_reads : (w : ℕ) → w ≡ job_sum k c stage → (job_of w ≡ staged w stage) × (job_in w ≡ k) × (field w 58 4 ≡ c)
  unfolding job_of
  word_reads w e =
      let f = fields_back w e in
      let same : job_in w ≡ k = rw (f.0, f.1, f.2, f.3, f.4) refl in
      let fit : names_job w ≡ true = fits_back w (rw same ok) f.5 in
      let there : nat_eq w 0 ≡ false = grind (arith, nat_tests) in
      (rw (there, fit, f.7) refl, same, f.6)

pub job_back : (v : JobWord) → IsJobWord v → job_of (job_word v) ≡ Some v
unfolding job_of
job_back Empty ok = refl
job_back (Offered k) ok = let r = word_reads k 0 1 ok (omega arith) (omega arith) (omega arith) _ refl in r.0 ∙ rw (r.2, r.1) refl
job_back (Taken k c) ok =
    let r = word_reads k c 2 ok.0 ok.1 (omega arith) (omega arith) _ refl in
    let few : c < MOST_COPIERS = ok.1 in
    let t : nat_lt c MOST_COPIERS ≡ true = grind (arith, nat_tests) in
    r.0 ∙ rw (r.2, r.1, t) refl
job_back (Finished k c) ok =
    let r = word_reads k c 3 ok.0 ok.1 (omega arith) (omega arith) _ refl in
    let few : c < MOST_COPIERS = ok.1 in
    let t : nat_lt c MOST_COPIERS ≡ true = grind (arith, nat_tests) in
    r.0 ∙ rw (r.2, r.1, t) refl

pub job_only : (w : ℕ) (v : JobWord) → IsJobWord v → job_word v ≡ w → job_of w ≡ Some v
job_only w v ok e = subst (λ (x : ℕ). job_of x ≡ Some v) e (job_back v ok)

sum_fits : (k : Job) (c stage : ℕ) → IsJob k → c < MOST_COPIERS → stage ≤ 3 → job_sum k c stage < 2 ^ 64
sum_fits k c stage ok few three = let a : k.pointer < POINTERS = ok.cell in let b = ok.from in let d = ok.to in omega arith

-- the word of a job fits
pub job_fits : (v : JobWord) → IsJobWord v → job_word v < 2 ^ 64
job_fits Empty ok = omega arith
job_fits (Offered k) ok = sum_fits k 0 1 ok (omega arith) (omega arith)
job_fits (Taken k c) ok = sum_fits k c 2 ok.0 ok.1 (omega arith)
job_fits (Finished k c) ok = sum_fits k c 3 ok.0 ok.1 (omega arith)
