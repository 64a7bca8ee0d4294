-- What words say, and what they are read as.
use Rattle.std.proofs.Common.{◌≡◌, ◌⊎◌, inl, inr, ℕ, zero, suc, ◌<◌, ◌≤◌, ◌^◌, nat_lt, nat_le, length, map, Bool, true, false, cond, List, [], ◌∷◌, Option, Some, None, codes, decimal, sym, ◌∙◌, ap, refl, subst, arith}
use Rattle.std.specs.Str.{bytes_eq}
use Rattle.std.specs.Option.{option_map, option_and_then}
use Rattle.std.proofs.lemmas.Bool.{le-leb, leb-true}
use Rattle.std.proofs.lemmas.Bool.Decides.{Decides-ltb}
use Rattle.std.proofs.lemmas.List.{length-map}
use Rattle.hex.specs.Hex.{IsBytes}
use Rattle.std.proofs.lemmas.Slice.Eq.{bytes_eq-Decides}
use Rattle.far_text.specs.Command.{Entry, HeapLine, DeviceLine, Flawed, Flaw, Fail, Short, Flip, CommandLine, New, Open, On, Reads, Writes, Close, Epoch, Logs, Log, Audit, Mutator, Book, Evacuator, Policy, Oldest, LeastLive, By, Script, Step, Select, Mark, Wait, Evacuate, Abort, Round}
use Rattle.far_text.specs.declared.hex_word.TheConstants.{LONGEST_BYTES}
use Rattle.far_text.specs.Says.{Says, Spells, AreLogs, flaw_name, policy_name}
use Rattle.far_text.specs.Grammar.{says_heap, asks_read, asks_write, asks_open, asks_close, asks_new, asks_where, asks_drop, asks_view, asks_try, asks_epoch, asks_log, asks_mark, asks_evacuate, asks_select, asks_round, asks_script, select_by, round_by, device_by, flaw_of, says_device, policy_of, log_of, each_log, logs_of, limited, step_line, perhaps, From, Operands, Numbers, NumbersAndOneOr, NumbersAndBytes, WordThen, number_of, bytes_in, next_number, last_bytes, numbers_then, one_or, entry_at_end, entry_from, steps, table, found_in, entry_of, ◌>>=◌}
use Rattle.std.specs.List.{AllByRecursion as Each}
use Rattle.far_text.proofs.HexLemmas.{spelled_is_hex, hex_is_spelled}
use Rattle.far_text.proofs.Numbers.{number_is, number_only}

-- ---- logs and policies
-- a log that is printed is read
log_read : (log : ℕ) → log < 256 → log_of (decimal log) ≡ Some log
log_read log h = rw (number_is (decimal log) log (omega arith) refl, (Decides-ltb log 256).1 h) refl

logs_read : (logs : List ℕ) → IsBytes logs → each_log (map decimal logs) ≡ Some logs
logs_read [] small = refl
logs_read (log ∷ logs) small = rw (log_read log (small 0), logs_read logs (λ k. small (suc k))) refl

script_read : (logs : List ℕ) → AreLogs logs → logs_of (map decimal logs) ≡ Some logs
script_read [] h = absurd (omega (arith, h.1))
script_read (log ∷ logs) h =
    let fits : nat_le (length (decimal log ∷ map decimal logs)) LONGEST_BYTES ≡ true = le-leb _ LONGEST_BYTES (omega (arith, h.2, length-map logs decimal)) in
    rw fits (logs_read (log ∷ logs) h.0)

policy_read : (policy : Policy) → policy_of (policy_name policy) ≡ Some policy
policy_read Oldest = refl
policy_read LeastLive = refl

flaw_read : (flaw : Flaw) → flaw_of (flaw_name flaw) ≡ Some flaw
flaw_read Fail = refl
flaw_read Short = refl
flaw_read Flip = refl

no_script : (policy : Policy) → bytes_eq (policy_name policy) (codes "script") ≡ false
no_script Oldest = refl
no_script LeastLive = refl

pub said_is_read : (words : List (List ℕ)) (c : Entry) → Says words c → entry_of words ≡ Some c
said_is_read words (CommandLine (Mutator m (On p (Reads f l)))) h = ap entry_of h.0 ∙ rw (number_is (decimal m) m h.1 refl, number_is (decimal p) p h.2 refl, number_is (decimal f) f h.3 refl, number_is (decimal l) l h.4 refl) refl
said_is_read words (CommandLine (Mutator m (On p (Writes f b)))) h = ap entry_of h.1 ∙ rw (number_is (decimal m) m h.2 refl, number_is (decimal p) p h.3 refl, number_is (decimal f) f h.4 refl, spelled_is_hex h.0 b h.5) refl
said_is_read words (CommandLine (Mutator m Open)) h = ap entry_of h.0 ∙ rw (number_is (decimal m) m h.1 refl) refl
said_is_read words (CommandLine (Mutator m Close)) h = ap entry_of h.0 ∙ rw (number_is (decimal m) m h.1 refl) refl
said_is_read words (CommandLine (Mutator m (New l k))) h = ap entry_of h.0 ∙ rw (number_is (decimal m) m h.1 refl, number_is (decimal l) l h.2 refl, number_is (decimal k) k h.3 refl) refl
said_is_read words (HeapLine l m e) (inl h, first, second, third) = ap entry_of h ∙ rw (number_is (decimal l) l first refl, number_is (decimal m) m second refl, number_is (decimal e) e third refl) refl
said_is_read words (HeapLine l m e) (inr h, first, second, third) =
    ap entry_of h.0 ∙ rw (number_is (decimal l) l first refl, number_is (decimal m) m second refl) (ap (λ n. Some (HeapLine l m n)) (sym h.1))
said_is_read words (DeviceLine (Flawed flaw call)) h = ap entry_of h.0 ∙ rw (flaw_read flaw, number_is (decimal call) call h.1 refl) refl
said_is_read words (CommandLine (Mutator m Epoch)) h = ap entry_of h.0 ∙ rw (number_is (decimal m) m h.1 refl) refl
said_is_read words (CommandLine (Mutator m request)) h = ap entry_of h.0 ∙ rw (number_is (decimal m) m h.1 refl, number_is _ _ h.2 refl) refl
said_is_read words (CommandLine (Book Logs)) h = ap entry_of h
said_is_read words (CommandLine (Book (Log l))) h = ap entry_of h.0 ∙ rw (number_is (decimal l) l h.1 refl) refl
said_is_read words (CommandLine (Book Audit)) h = ap entry_of h
said_is_read words (CommandLine (Evacuator (Select (By policy) most))) h =
    ap entry_of h.0 ∙ rw (no_script policy, policy_read policy, number_is (decimal most) most (omega (arith, h.1)) refl, le-leb most 64 h.1) refl
said_is_read words (CommandLine (Evacuator (Select (Script logs) most))) h =
    ap entry_of h.0 ∙ rw (number_is (decimal most) most (omega (arith, h.1)) refl, script_read logs h.2, le-leb most 64 h.1) refl
said_is_read words (CommandLine (Evacuator (Mark n))) h = ap entry_of h.0 ∙ rw (number_is (decimal n) n h.1 refl) refl
said_is_read words (CommandLine (Evacuator Wait)) h = ap entry_of h
said_is_read words (CommandLine (Evacuator (Evacuate n))) h = ap entry_of h.0 ∙ rw (number_is (decimal n) n h.1 refl) refl
said_is_read words (CommandLine (Evacuator Abort)) h = ap entry_of h
said_is_read words (CommandLine (Evacuator (Round policy most turns))) h =
    ap entry_of h.0 ∙ rw (policy_read policy, number_is (decimal most) most (omega (arith, h.1)) refl, number_is (decimal turns) turns h.2 refl, le-leb most 64 h.1) refl

chosen : {X : Type 0} (b : Bool) (x y z : X) → cond b x y ≡ z → ((b ≡ true) × (x ≡ z)) ⊎ ((b ≡ false) × (y ≡ z))
chosen true x y z e = inl (refl, e)
chosen false x y z e = inr (refl, e)

-- ---- numbers in front of words
abbrev Several : ℕ → Type 0
Several zero = Unit {0}
Several (suc n) = ℕ × Several n

abbrev Below : (n : ℕ) → Several n → Type 0
Below zero t = Unit {0}
Below (suc n) t = (t.0 < 2 ^ 64) × Below n t.1

-- what is made of them
abbrev made_of : {X : Type 0} → (n : ℕ) → From n X → Several n → X
made_of zero make t = make
made_of (suc n) make t = made_of n (make t.0) t.1

-- as they are printed, a word each, before others
abbrev in_front : (n : ℕ) → Several n → List (List ℕ) → List (List ℕ)
in_front zero t behind = behind
in_front (suc n) t behind = decimal t.0 ∷ in_front n t.1 behind

-- what is read as a number, and what is made of it and of the words behind it
number_then : {B : Type 0} (words : List (List ℕ)) (f : ℕ × List (List ℕ) → Option B) (y : B) → (next_number words >>= f) ≡ Some y
    → (n : ℕ) × (rest : List (List ℕ)) × (n < 2 ^ 64) × (words ≡ decimal n ∷ rest) × (f (n, rest) ≡ Some y)
number_then [] f y e = absurd (cc e)
number_then (w ∷ rest) f y e =
    elim (number_of w) as (λ o. number_of w ≡ o → ((o >>= λ n. Some (n, rest)) >>= f) ≡ Some y → (n : ℕ) × (after : List (List ℕ)) × (n < 2 ^ 64) × (w ∷ rest ≡ decimal n ∷ after) × (f (n, after) ≡ Some y)) [
      | Some n ↦ λ is k. let only = number_only w n is in (n, rest, only.0, ap (λ v. v ∷ rest) only.1, k)
      | None ↦ λ is k. absurd (cc k)
    ] refl e

-- so it is with several
several_then : {X : Type 0} (n : ℕ) (make : From n X) (rest : X → List (List ℕ) → Option Entry) (words : List (List ℕ)) (c : Entry) → numbers_then n make rest words ≡ Some c →
    (t : Several n) × (behind : List (List ℕ)) × Below n t × (words ≡ in_front n t behind) × (rest (made_of n make t) behind ≡ Some c)
several_then zero make rest words c e = (tt, words, tt, refl, e)
several_then (suc n) make rest words c e =
    let (m, others, small, is, more) = number_then words (λ first. numbers_then n (make first.0) rest first.1) c e in
    let (t, behind, below, so, last) = several_then n (make m) rest others c more in
    ((m, t), behind, (small, below), is ∙ ap (λ ws. decimal m ∷ ws) so, last)

-- what the last word is read as, and what is made of it
bytes_then : (words : List (List ℕ)) (make : List ℕ → Entry) (c : Entry) → (last_bytes words >>= λ bytes. Some (make bytes)) ≡ Some c
    → (bytes word : List ℕ) × Spells word bytes × (words ≡ word ∷ []) × (make bytes ≡ c)
bytes_then [] make c e = absurd (cc e)
bytes_then (w ∷ []) make c e =
    elim (bytes_in w) as (λ o. bytes_in w ≡ o → (o >>= λ bytes. Some (make bytes)) ≡ Some c → (bytes word : List ℕ) × Spells word bytes × (w ∷ [] ≡ word ∷ []) × (make bytes ≡ c)) [
      | Some bytes ↦ λ is k. (bytes, w, hex_is_spelled w bytes is, refl, cc k)
      | None ↦ λ is k. absurd (cc k)
    ] refl e
bytes_then (w ∷ v ∷ words) make c e = absurd (cc e)

ended_then : (words : List (List ℕ)) (c d : Entry) → entry_at_end words c ≡ Some d → (words ≡ []) × (c ≡ d)
ended_then [] c d e = (refl, cc e)
ended_then (w ∷ words) c d e = absurd (cc e)

zero_fits : 0 < 2 ^ 64
zero_fits = omega arith

-- what the last word is read as, if there is one, and what is made of it
one_then : (make : ℕ → Entry) (words : List (List ℕ)) (c : Entry) → one_or 0 make words ≡ Some c
    → (n : ℕ) × (n < 2 ^ 64) × ((words ≡ decimal n ∷ []) ⊎ ((words ≡ []) × (n ≡ 0))) × (make n ≡ c)
one_then make [] c e = (0, zero_fits, inr (refl, refl), cc e)
one_then make (w ∷ words) c e =
    let (n, rest, small, is, last) = number_then (w ∷ words) (λ first. entry_at_end first.1 (make first.0)) c e in
    let (none, same) = ended_then rest (make n) c last in
    (n, small, inl (is ∙ ap (λ ws. decimal n ∷ ws) none), same)

-- ---- the operands of a command
numbers_only : (n : ℕ) (make : From n Entry) (words : List (List ℕ)) (c : Entry) → entry_from (Numbers n make) words ≡ Some c →
    (t : Several n) × Below n t × (words ≡ in_front n t []) × (made_of n make t ≡ c)
numbers_only n make words c e =
    let (t, behind, below, is, last) = several_then n make (λ command behind. entry_at_end behind command) words c e in
    let (none, same) = ended_then behind (made_of n make t) c last in
    (t, below, is ∙ ap (in_front n t) none, same)

numbers_and_bytes : (n : ℕ) (make : From n (List ℕ → Entry)) (words : List (List ℕ)) (c : Entry) → entry_from (NumbersAndBytes n make) words ≡ Some c →
    (t : Several n) × (word bytes : List ℕ) × Below n t × Spells word bytes × (words ≡ in_front n t (word ∷ [])) × (made_of n make t bytes ≡ c)
numbers_and_bytes n make words c e =
    let (t, behind, below, is, last) = several_then n make (λ command behind. last_bytes behind >>= λ bytes. Some (command bytes)) words c e in
    let (bytes, word, spells, so, same) = bytes_then behind (made_of n make t) c last in
    (t, word, bytes, below, spells, is ∙ ap (in_front n t) so, same)

-- ---- each row of the table: what is read so says the command
abbrev IsSaid : List ℕ × Operands → Type 0
IsSaid row = (words : List (List ℕ)) (c : Entry) → entry_from row.1 words ≡ Some c → Says (row.0 ∷ words) c

-- a name alone; a name and a number; a name and two
alone_said : (name : List ℕ) (made : Entry) → ((words : List (List ℕ)) → words ≡ name ∷ [] → Says words made) → IsSaid (name, Numbers 0 made)
alone_said name made says words c e =
    let (t, b, is, same) = numbers_only 0 made words c e in
    subst (Says (name ∷ words)) same (says (name ∷ words) (ap (λ ws. name ∷ ws) is))

one_said : (name : List ℕ) (make : From 1 Entry) → ((words : List (List ℕ)) (m : ℕ) → (words ≡ name ∷ decimal m ∷ []) × (m < 2 ^ 64) → Says words (make m)) → IsSaid (name, Numbers 1 make)
one_said name make says words c e =
    let (t, b, is, same) = numbers_only 1 make words c e in
    subst (Says (name ∷ words)) same (says (name ∷ words) t.0 (ap (λ ws. name ∷ ws) is, b.0))

two_said : (name : List ℕ) (make : From 2 Entry) → ((words : List (List ℕ)) (m p : ℕ) → (words ≡ name ∷ decimal m ∷ decimal p ∷ []) × (m < 2 ^ 64) × (p < 2 ^ 64) → Says words (make m p)) → IsSaid (name, Numbers 2 make)
two_said name make says words c e =
    let (t, b, is, same) = numbers_only 2 make words c e in
    subst (Says (name ∷ words)) same (says (name ∷ words) t.0 t.1.0 (ap (λ ws. name ∷ ws) is, b.0, b.1.0))

read_said : IsSaid (codes "read", Numbers 4 asks_read)
read_said words c e =
    let (t, b, is, same) = numbers_only 4 asks_read words c e in
    subst (Says (codes "read" ∷ words)) same (ap (λ ws. codes "read" ∷ ws) is, b.0, b.1.0, b.1.1.0, b.1.1.1.0)

write_said : IsSaid (codes "write", NumbersAndBytes 3 asks_write)
write_said words c e =
    let (t, word, bytes, b, spells, is, same) = numbers_and_bytes 3 asks_write words c e in
    subst (Says (codes "write" ∷ words)) same (word, ap (λ ws. codes "write" ∷ ws) is, b.0, b.1.0, b.1.1.0, spells)

new_said : IsSaid (codes "new", Numbers 3 asks_new)
new_said words c e =
    let (t, b, is, same) = numbers_only 3 asks_new words c e in
    subst (Says (codes "new" ∷ words)) same (ap (λ ws. codes "new" ∷ ws) is, b.0, b.1.0, b.1.1.0)

heap_said : IsSaid (codes "heap", NumbersAndOneOr 2 0 says_heap)
heap_said words c e =
    let (t, behind, b, is, last) = several_then 2 says_heap (one_or 0) words c e in
    let (n, small, ends, same) = one_then (made_of 2 says_heap t) behind c last in
    let front = λ (ws : List (List ℕ)) (k : behind ≡ ws). ap (λ vs. codes "heap" ∷ vs) (is ∙ ap (in_front 2 t) k) in
    let said = elim ends as (λ _. (codes "heap" ∷ words ≡ codes "heap" ∷ in_front 2 t (decimal n ∷ [])) ⊎ ((codes "heap" ∷ words ≡ codes "heap" ∷ in_front 2 t []) × (n ≡ 0))) [
      | inl k ↦ inl (front (decimal n ∷ []) k)
      | inr k ↦ inr (front [] k.0, k.1)
    ] in
    subst (Says (codes "heap" ∷ words)) same (said, b.0, b.1.0, small)

-- ---- the steps
-- a word that is read as a policy is its name
policy_only : (word : List ℕ) (policy : Policy) → policy_of word ≡ Some policy → word ≡ policy_name policy
policy_only word policy e = elim (chosen (bytes_eq word (codes "oldest")) _ _ (Some policy) e) [
  | inl k ↦ let same : Oldest ≡ policy = cc k.1 in (bytes_eq-Decides word (codes "oldest")).0 k.0 ∙ ap policy_name same
  | inr k ↦ elim (chosen (bytes_eq word (codes "leastlive")) _ _ (Some policy) k.1) [
    | inl j ↦ let same : LeastLive ≡ policy = cc j.1 in (bytes_eq-Decides word (codes "leastlive")).0 j.0 ∙ ap policy_name same
    | inr j ↦ absurd (cc j.1)
  ]
]

-- what a policy is asked with, where a word names one
policy_then : (word : List ℕ) (f : Policy → Option Entry) (c : Entry) → (policy_of word >>= f) ≡ Some c → (policy : Policy) × (word ≡ policy_name policy) × (f policy ≡ Some c)
policy_then word f c e = elim (policy_of word) as (λ o. policy_of word ≡ o → (o >>= f) ≡ Some c → (policy : Policy) × (word ≡ policy_name policy) × (f policy ≡ Some c)) [
  | Some policy ↦ λ is k. (policy, policy_only word policy is, k)
  | None ↦ λ is k. absurd (cc k)
] refl e

-- what numbers that may make nothing make
perhaps_said : (n : ℕ) (make : From n (Option Entry)) (words : List (List ℕ)) (c : Entry) → perhaps n make words ≡ Some c →
    (t : Several n) × Below n t × (words ≡ in_front n t []) × (made_of n make t ≡ Some c)
perhaps_said n make words c e =
    let (t, behind, below, is, last) = several_then n make (λ entry after. option_and_then (entry_at_end after) entry) words c e in
    let (none, same) = ended (made_of n make t) behind last in
    (t, below, is ∙ ap (in_front n t) none, same)
  where
    ended : (o : Option Entry) (after : List (List ℕ)) → option_and_then (entry_at_end after) o ≡ Some c → (after ≡ []) × (o ≡ Some c)
    ended None after k = absurd (cc k)
    ended (Some d) after k = let (none, same) = ended_then after d c k in (none, ap Some same)

-- a step that is within the limit
limited_only : (most : ℕ) (step : Option Step) (c : Entry) → step_line (limited most step) ≡ Some c → (most ≤ 64) × (step_line step ≡ Some c)
limited_only most step c e = elim (chosen (nat_le most 64) (step_line step) None (Some c) (spread (nat_le most 64) ∙ e)) [
  | inl k ↦ (leb-true most 64 k.0, k.1)
  | inr k ↦ absurd (cc k.1)
]
  where
    spread : (b : Bool) → cond b (step_line step) None ≡ step_line (cond b step None)
    spread true = refl
    spread false = refl

-- words that are read as logs print them
log_only : (word : List ℕ) (log : ℕ) → log_of word ≡ Some log → (log < 256) × (word ≡ decimal log)
log_only word log e = elim (number_of word) as (λ o. number_of word ≡ o → (o >>= λ n. cond (nat_lt n 256) (Some n) None) ≡ Some log → (log < 256) × (word ≡ decimal log)) [
  | Some n ↦ λ is k. elim (chosen (nat_lt n 256) (Some n) None (Some log) k) [
    | inl j ↦ let same : n ≡ log = cc j.1 in subst (λ m. (m < 256) × (word ≡ decimal m)) same ((Decides-ltb n 256).0 j.0, (number_only word n is).1)
    | inr j ↦ absurd (cc j.1)
  ]
  | None ↦ λ is k. absurd (cc k)
] refl e

bytes_more : (log : ℕ) (logs : List ℕ) → log < 256 → IsBytes logs → IsBytes (log ∷ logs)
bytes_more log logs first rest zero = first
bytes_more log logs first rest (suc k) = rest k

logs_only : (words : List (List ℕ)) (logs : List ℕ) → each_log words ≡ Some logs → IsBytes logs × (words ≡ map decimal logs)
logs_only [] logs e = let none : [] ≡ logs = cc e in subst (λ l. IsBytes l × ([] ≡ map decimal l)) none (no_bytes, refl)
  where
    no_bytes : IsBytes []
    no_bytes k = omega arith
logs_only (word ∷ words) logs e = elim (log_of word) as (λ o. log_of word ≡ o → (o >>= λ log. option_map (λ logs. log ∷ logs) (each_log words)) ≡ Some logs → IsBytes logs × (word ∷ words ≡ map decimal logs)) [
  | Some log ↦ λ is k. elim (each_log words) as (λ o. each_log words ≡ o → option_map (λ logs. log ∷ logs) o ≡ Some logs → IsBytes logs × (word ∷ words ≡ map decimal logs)) [
    | Some more ↦ λ are j.
        let first = log_only word log is in
        let rest = logs_only words more are in
        let all : log ∷ more ≡ logs = cc j in
        subst (λ l. IsBytes l × (word ∷ words ≡ map decimal l)) all (bytes_more log more first.0 rest.0, rw (first.1, rest.1) refl)
    | None ↦ λ are j. absurd (cc j)
  ] refl k
  | None ↦ λ is k. absurd (cc k)
] refl e

script_only : (words : List (List ℕ)) (logs : List ℕ) → logs_of words ≡ Some logs → AreLogs logs × (words ≡ map decimal logs)
script_only [] logs e = absurd (cc e)
script_only (word ∷ words) logs e = elim (chosen (nat_le (length (word ∷ words)) LONGEST_BYTES) (each_log (word ∷ words)) None (Some logs) e) [
  | inl k ↦ (
      let are = logs_only (word ∷ words) logs k.1 in
      let many : length (word ∷ words) ≡ length logs = ap length are.1 ∙ length-map logs decimal in
      let few : length (word ∷ words) ≤ LONGEST_BYTES = leb-true (length (word ∷ words)) LONGEST_BYTES k.0 in
      ((are.0, omega arith, omega arith), are.1))
  | inr k ↦ absurd (cc k.1)
]

script_said : (words : List (List ℕ)) (c : Entry) → asks_script words ≡ Some c → Says (codes "select" ∷ codes "script" ∷ words) c
script_said words c e =
    let (most, rest, small, is, more) = number_then words (λ first. step_line (limited first.0 (option_map (λ choice. Select choice first.0) (option_map Script (logs_of first.1))))) c e in
    let (few, line) = limited_only most (option_map (λ choice. Select choice most) (option_map Script (logs_of rest))) c more in
    elim (logs_of rest) as (λ o. logs_of rest ≡ o → step_line (option_map (λ choice. Select choice most) (option_map Script o)) ≡ Some c → Says (codes "select" ∷ codes "script" ∷ words) c) [
      | Some logs ↦ λ are k.
          let (logs_are, printed) = script_only rest logs are in
          let made : CommandLine (Evacuator (Select (Script logs) most)) ≡ c = cc k in
          subst (Says (codes "select" ∷ codes "script" ∷ words)) made (ap (λ ws. codes "select" ∷ codes "script" ∷ ws) (is ∙ ap (λ ws. decimal most ∷ ws) printed), few, logs_are)
      | None ↦ λ are k. absurd (cc k)
    ] refl line

select_said : IsSaid (codes "select", WordThen select_by)
select_said [] c e = absurd (cc e)
select_said (word ∷ words) c e = elim (chosen (bytes_eq word (codes "script")) (asks_script words) (policy_of word >>= λ policy. perhaps 1 (asks_select policy) words) (Some c) e) [
  | inl k ↦ subst (λ w. Says (codes "select" ∷ w ∷ words) c) (sym ((bytes_eq-Decides word (codes "script")).0 k.0)) (script_said words c k.1)
  | inr k ↦ (
      let (policy, name, more) = policy_then word (λ policy. perhaps 1 (asks_select policy) words) c k.1 in
      let (t, b, is, same) = perhaps_said 1 (asks_select policy) words c more in
      let (few, line) = limited_only t.0 (Some (Select (By policy) t.0)) c same in
      let made : CommandLine (Evacuator (Select (By policy) t.0)) ≡ c = cc in
      subst (Says (codes "select" ∷ word ∷ words)) made (ap (λ w. codes "select" ∷ w ∷ words) name ∙ ap (λ ws. codes "select" ∷ policy_name policy ∷ ws) is, few))
]

round_said : IsSaid (codes "round", WordThen round_by)
round_said [] c e = absurd (cc e)
round_said (word ∷ words) c e =
    let (policy, name, more) = policy_then word (λ policy. perhaps 2 (asks_round policy) words) c e in
    let (t, b, is, same) = perhaps_said 2 (asks_round policy) words c more in
    let (few, line) = limited_only t.0 (Some (Round policy t.0 t.1.0)) c same in
    let made : CommandLine (Evacuator (Round policy t.0 t.1.0)) ≡ c = cc in
    subst (Says (codes "round" ∷ word ∷ words)) made (ap (λ w. codes "round" ∷ w ∷ words) name ∙ ap (λ ws. codes "round" ∷ policy_name policy ∷ ws) is, few, b.1.0)

-- a word that is read as a flaw is its name
flaw_only : (word : List ℕ) (flaw : Flaw) → flaw_of word ≡ Some flaw → word ≡ flaw_name flaw
flaw_only word flaw e = elim (chosen (bytes_eq word (codes "fail")) _ _ (Some flaw) e) [
  | inl k ↦ let same : Fail ≡ flaw = cc k.1 in (bytes_eq-Decides word (codes "fail")).0 k.0 ∙ ap flaw_name same
  | inr k ↦ elim (chosen (bytes_eq word (codes "short")) _ _ (Some flaw) k.1) [
    | inl j ↦ let same : Short ≡ flaw = cc j.1 in (bytes_eq-Decides word (codes "short")).0 j.0 ∙ ap flaw_name same
    | inr j ↦ elim (chosen (bytes_eq word (codes "flip")) _ _ (Some flaw) j.1) [
      | inl i ↦ let same : Flip ≡ flaw = cc i.1 in (bytes_eq-Decides word (codes "flip")).0 i.0 ∙ ap flaw_name same
      | inr i ↦ absurd (cc i.1)
    ]
  ]
]

flaw_then : (word : List ℕ) (f : Flaw → Option Entry) (c : Entry) → (flaw_of word >>= f) ≡ Some c → (flaw : Flaw) × (word ≡ flaw_name flaw) × (f flaw ≡ Some c)
flaw_then word f c e = elim (flaw_of word) as (λ o. flaw_of word ≡ o → (o >>= f) ≡ Some c → (flaw : Flaw) × (word ≡ flaw_name flaw) × (f flaw ≡ Some c)) [
  | Some flaw ↦ λ is k. (flaw, flaw_only word flaw is, k)
  | None ↦ λ is k. absurd (cc k)
] refl e

device_said : IsSaid (codes "device", WordThen device_by)
device_said [] c e = absurd (cc e)
device_said (word ∷ words) c e =
    let (flaw, name, more) = flaw_then word (λ flaw. perhaps 1 (says_device flaw) words) c e in
    let (t, b, is, same) = perhaps_said 1 (says_device flaw) words c more in
    let made : DeviceLine (Flawed flaw t.0) ≡ c = cc in
    subst (Says (codes "device" ∷ word ∷ words)) made (ap (λ w. codes "device" ∷ w ∷ words) name ∙ ap (λ ws. codes "device" ∷ flaw_name flaw ∷ ws) is, b.0)

steps_said : Each IsSaid steps
steps_said = (
  select_said,
  (one_said (codes "mark") asks_mark (λ words m is. is), (alone_said (codes "wait") (CommandLine (Evacuator Wait)) (λ words is. is), (one_said (codes "evacuate") asks_evacuate (λ words m is. is), (alone_said (codes "abort") (CommandLine (Evacuator Abort)) (λ words is. is), (round_said, tt))))),
)

rows_said : Each IsSaid table
rows_said = (
  read_said,
  (
    write_said,
    (
      one_said (codes "open") asks_open (λ words m is. is),
      (
        one_said (codes "close") asks_close (λ words m is. is),
        (
          new_said,
          (
            heap_said,
            (
              alone_said (codes "logs") (CommandLine (Book Logs)) (λ words is. is),
              (
                two_said (codes "where") asks_where (λ words m p is. is),
                (
                  two_said (codes "drop") asks_drop (λ words m p is. is),
                  (
                    two_said (codes "view") asks_view (λ words m p is. is),
                    (
                      two_said (codes "try") asks_try (λ words m p is. is),
                      (one_said (codes "epoch") asks_epoch (λ words m is. is), (one_said (codes "log") asks_log (λ words m is. is), (alone_said (codes "audit") (CommandLine (Book Audit)) (λ words is. is), (device_said, steps_said)))),
                    ),
                  ),
                ),
              ),
            ),
          ),
        ),
      ),
    ),
  ),
)

-- words that begin with a command's name
named : (name word : List ℕ) (args : List (List ℕ)) (c : Entry) → bytes_eq name word ≡ true → Says (word ∷ args) c → Says (name ∷ args) c
named name word args c e h = subst (λ w. Says (w ∷ args) c) (sym ((bytes_eq-Decides name word).0 e)) h

-- what is found in a table whose rows are read so
found_said : (rows : List (List ℕ × Operands)) → Each IsSaid rows → (name : List ℕ) (words : List (List ℕ)) (c : Entry) → found_in rows name words ≡ Some c → Says (name ∷ words) c
found_said [] h name words c e = absurd (cc e)
found_said (row ∷ rows) h name words c e = elim (chosen (bytes_eq name row.0) _ _ (Some c) e) [
  | inl k ↦ named name row.0 words c k.0 (h.0 words c k.1)
  | inr k ↦ found_said rows h.1 name words c k.1
]

pub read_is_said : (words : List (List ℕ)) (c : Entry) → entry_of words ≡ Some c → Says words c
read_is_said [] c e = absurd (cc e)
read_is_said (name ∷ words) c e = found_said table rows_said name words c e
