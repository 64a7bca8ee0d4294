-- A mutator's own lines, one after the other.
use Rattle.std.proofs.Common.{◌≡◌, ◌≢◌, ℕ, zero, suc, ◌+◌, true, ◌==◌, List, [], ◌∷◌, ◌++◌, append_assoc, drop, refl, sym, ap, subst, ◌∙◌, inl, inr}
use Rattle.std.specs.List.{AllByRecursion}
use Rattle.std.proofs.lemmas.Bool.{cond_both, eqb-true, false≢true}
use Rattle.std.proofs.lemmas.List.{append-nil}
use Rattle.far_heap.specs.HeapId.{HeapId}
use Rattle.far_heap.specs.Mine.{Mine, newcomer}
use Rattle.far_text.specs.Command.{Book, Command, Epoch, Evacuator, Mutator, Open, Request, Where, as_command, as_request}
use Rattle.far_text.specs.SplitText.{AreOwn, HasThread}
use Rattle.far_text.specs.Threads.{OfMutator, Thread, is_of, is_own, lines_in}
use Rattle.far_text.specs.declared.command.Command.{Command as Spelled}
use Rattle.far_text.specs.declared.command.Command.TheVariants.{Book as SpelledBook, Evacuator as SpelledEvacuator, Mutator as SpelledMutator}
use Rattle.far_text.specs.declared.command.Request.{Request as SpelledRequest}
use Rattle.far_alone.specs.Own.{Own, nothing}
use Rattle.far_reply.specs.Reply.{IsShort, Reply}
use Rattle.far_split.specs.Here.{AloneOn, AreBy, KnowsHere, TellsOfHeap, commands_of}
use Rattle.far_split.specs.Joined.{commands_in}
use Rattle.far_split.specs.Slots.{Answers, IsOwn, TellsNoLogs}
use Rattle.far_split.specs.Told.{TellsFewLogs, as_reply}
use Rattle.far_split.specs.declared.told.Answer.{Answer}
use Rattle.far_split.specs.declared.told.Answer.TheVariants as answers
use Rattle.far_split.proofs.Owns.{is_new}

-- ---- which lines they are
pub later_own : (mutators : ℕ) (thread : Thread) (k : ℕ) (lines : List (ℕ × Command)) → AreOwn mutators thread lines → AreOwn mutators thread (drop k lines)
later_own mutators thread zero lines own = own
later_own mutators thread (suc k) [] own = own
later_own mutators thread (suc k) (line ∷ lines) own = later_own mutators thread k lines own.2

pub is_mutators : (number : ℕ) (c : Spelled) → is_of (OfMutator number) (as_command c) ≡ true → ((m : ℕ) (r : SpelledRequest) → c ≢ SpelledMutator m r) → ⊥
is_mutators number (SpelledMutator m r) own other = other m r refl
is_mutators number (SpelledBook inquiry) own other = false≢true own
is_mutators number (SpelledEvacuator step) own other = false≢true own

abbrev asked_by : Command → Request
asked_by (Mutator m r) = r
asked_by (Book inquiry) = Open
asked_by (Evacuator step) = Open

pub asks_own : (mutators m : ℕ) (r : Request) → HasThread mutators (Mutator m r) → is_own r ≡ true
asks_own mutators m (Where p) (inl h) = absurd (h.4 p (sym (ap asked_by h.2)))
asks_own mutators m Epoch (inl h) = absurd (h.5 (sym (ap asked_by h.2)))
asks_own mutators m (Where p) (inr (inl h)) = absurd (cc)
asks_own mutators m (Where p) (inr (inr h)) = absurd (cc)
asks_own mutators m Epoch (inr (inl h)) = absurd (cc)
asks_own mutators m Epoch (inr (inr h)) = absurd (cc)
asks_own mutators m r h = refl

-- a mutator's own lines are its
pub are_by : (m : ℕ) (lines : List (ℕ × Command)) → AreBy m (commands_in (OfMutator m) lines)
are_by m [] = tt
are_by m ((n, Mutator k request) ∷ lines) =
    let rest = are_by m lines in
    cond_both (k == m) ((n, Mutator k request) ∷ lines_in (OfMutator m) lines) (lines_in (OfMutator m) lines) (λ (ls : List (ℕ × Command)). AreBy m (commands_of ls)) (λ own. (own, rest)) (λ other. rest)
are_by m ((n, Book inquiry) ∷ lines) = are_by m lines
are_by m ((n, Evacuator step) ∷ lines) = are_by m lines

-- ---- one line more
-- whatever the mutator knows of bytes, these are replies to lines on its heap
abbrev pub AnswersAll : HeapId → Mine → List Command → List Reply → Type 0
AnswersAll heap m cs rs = (o : Own) → IsOwn m o → AloneOn heap m.number o cs rs

pub first_line : (heap : HeapId) (m n : Mine) (k : ℕ) (request : Request) (r : Reply) (cs : List Command) (rs : List Reply) → Answers heap m request r n → m.honest ≡ heap.honest → k ≡ m.number
    → AnswersAll heap n cs rs → AnswersAll heap m (Mutator k request ∷ cs) (r ∷ rs)
first_line heap m n k request r cs rs answers honest own later o is =
    let learns = answers.learns o is in (
      learns.own,
      subst (λ h. KnowsHere h m.number o (Mutator k request) r learns.own) honest (subst (λ j. KnowsHere m.honest m.number o (Mutator j request) r learns.own) (sym own) learns.knows),
      subst (λ j. TellsOfHeap heap m.number o (Mutator j request) r) (sym own) learns.tells,
      subst (λ j. AloneOn heap j learns.own cs rs) answers.number (later learns.own learns.is),
    )

short_more : (told : List Reply) (one : Reply) → AllByRecursion IsShort told → IsShort one → AllByRecursion IsShort (told ++ one ∷ [])
short_more [] one all short = (short, tt)
short_more (x ∷ xs) one all short = (all.0, short_more xs one all.1 short)

-- one told more
module _ (told all : List Reply) (one : Reply) (are : all ≡ told ++ one ∷ []) where
  pub all_short : AllByRecursion IsShort told → IsShort one → AllByRecursion IsShort all
  all_short before short = subst (AllByRecursion IsShort) (sym are) (short_more told one before short)

  pub all_alone : (heap : HeapId) (number : ℕ) (cs : List Command) (rest : List Reply) → AloneOn heap number nothing cs (told ++ one ∷ rest) → AloneOn heap number nothing cs (all ++ rest)
  all_alone heap number cs rest alone = subst (λ (xs : List Reply). AloneOn heap number nothing cs (xs ++ rest)) (sym are) (subst (AloneOn heap number nothing cs) (sym (append_assoc told (one ∷ []) rest)) alone)

-- none told yet, and the last
pub alone_first : (heap : HeapId) (number : ℕ) (m : Mine) (cs : List Command) (told rest : List Reply) → m ≡ newcomer heap.table number heap.honest → told ≡ [] → AnswersAll heap m cs rest
    → AloneOn heap number nothing cs (told ++ rest)
alone_first heap number m cs told rest new none all = subst (λ (xs : List Reply). AloneOn heap number nothing cs (xs ++ rest)) (sym none)
    (subst (λ (n : Mine). AnswersAll heap n cs rest) new all nothing (is_new heap number heap.honest))

pub alone_last : (heap : HeapId) (number : ℕ) (cs : List Command) (told : List Reply) → AloneOn heap number nothing cs (told ++ []) → AloneOn heap number nothing cs told
alone_last heap number cs told alone = subst (AloneOn heap number nothing cs) (append-nil told) alone

-- the line at a place, as it is spelled, is the mutator's own
pub own_now : (mutators number at n : ℕ) (c : Spelled) (lines : List (ℕ × Command)) → AreOwn mutators (OfMutator number) lines → drop at lines ≡ (n, as_command c) ∷ drop (at + 1) lines
    → (is_of (OfMutator number) (as_command c) ≡ true) × HasThread mutators (as_command c)
own_now mutators number at n c lines own here =
    let now = subst (AreOwn mutators (OfMutator number)) here (later_own mutators (OfMutator number) at lines own) in (now.0, now.1)

-- it was answered so
pub answered_line : (heap : HeapId) (mutators number at n : ℕ) (c : Spelled) (k : ℕ) (request : SpelledRequest) (lines : List (ℕ × Command)) (m q : Mine) (r : Reply) (rs : List Reply)
    → AreOwn mutators (OfMutator number) lines → drop at lines ≡ (n, as_command c) ∷ drop (at + 1) lines → c ≡ SpelledMutator k request → m.number ≡ number → m.honest ≡ heap.honest
    → Answers heap m (as_request request) r q → AnswersAll heap q (commands_of (drop (at + 1) lines)) rs → AnswersAll heap m (commands_of (drop at lines)) (r ∷ rs)
answered_line heap mutators number at n c k request lines m q r rs own here spelled mine honest answers later =
    let is = subst (λ (s : Spelled). (is_of (OfMutator number) (as_command s) ≡ true) × HasThread mutators (as_command s)) spelled (own_now mutators number at n c lines own here) in
    subst (λ (ls : List (ℕ × Command)). AnswersAll heap m (commands_of ls) (r ∷ rs)) (sym here)
    (subst (λ (s : Spelled). AnswersAll heap m (as_command s ∷ commands_of (drop (at + 1) lines)) (r ∷ rs)) (sym spelled)
    (first_line heap m q k (as_request request) r (commands_of (drop (at + 1) lines)) rs answers honest (eqb-true k number is.0 ∙ sym mine) later))

pub asks_now : (mutators number at n : ℕ) (c : Spelled) (k : ℕ) (request : SpelledRequest) (lines : List (ℕ × Command)) → AreOwn mutators (OfMutator number) lines
    → drop at lines ≡ (n, as_command c) ∷ drop (at + 1) lines → c ≡ SpelledMutator k request → is_own (as_request request) ≡ true
asks_now mutators number at n c k request lines own here spelled =
    let is = subst (λ (s : Spelled). (is_of (OfMutator number) (as_command s) ≡ true) × HasThread mutators (as_command s)) spelled (own_now mutators number at n c lines own here) in
    asks_own mutators k (as_request request) is.1

-- what tells no logs tells few
pub few_logs : (answer : Answer) → TellsNoLogs (as_reply answer) → TellsFewLogs answer
few_logs (answers.Logs first rows) none = absurd none
few_logs answer none = tt

-- a request as it is spelled was answered so, where what is told and the mutator are these
pub same_answers : (heap : HeapId) (m : Mine) (spelled : SpelledRequest) (request : Request) (said told : Answer) (n later : Mine) → as_request spelled ≡ request → told ≡ said → later ≡ n
    → Answers heap m request (as_reply said) n → Answers heap m (as_request spelled) (as_reply told) later
same_answers heap m spelled request said told n later asks says is answers =
    subst (λ (z : Mine). Answers heap m (as_request spelled) (as_reply told) z) (sym is)
    (subst (λ (t : Answer). Answers heap m (as_request spelled) (as_reply t) n) (sym says)
    (subst (λ (r : Request). Answers heap m r (as_reply said) n) (sym asks) answers))
