-- What the steps of a run come to.
use Rattle.std.proofs.Common.{◌≡◌, ℕ, ◌+◌, inl, inr, Bool, cond, Option, Result, Ok, Err, OnOk, IfErr, List, [], ◌∷◌, ◌++◌, length, refl, sym, ◌∙◌, ap, subst, arith}
use Rattle.std.specs.Io.KnownBytes.{Appends}
use Rattle.std.proofs.KnownBytes.{Appends-nil}
use Rattle.std.proofs.lemmas.List.{append-nil}
use Rattle.far_word.specs.declared.refused.Refused.{Refused as Refusal}
use Rattle.std.specs.FinSet as set
use Rattle.far_firsts.specs.Lines.{key_of, IsPlain}
use Rattle.far_firsts.specs.Causes.{IsWhyNext}
use Rattle.far_firsts.specs.Doing.{Added, Did, Finished, Halted, IsOver, IsWhyHalt, Known, Leaves, State, Stopped, Wrote, last_of, state, unless_in}
use Rattle.far_firsts.specs.declared.end.Why.{Why}
use Rattle.far_firsts.specs.declared.end.Why.TheVariants.{Done}
use Rattle.far_firsts.proofs.Causes.{last_halts}
use Rattle.far_firsts.proofs.Newness.{text_one}
use Rattle.far_firsts.proofs.OneOfEach.{first_part, one_part}
use Rattle.far_firsts.proofs.Steps.{leaves_all}

-- ---- the text has ended
pub finished_none : (longest : ℕ) (refuses : Refusal → Type 0) (honest : Bool) (end : ℕ) (known : Known) (part : List ℕ) (n : ℕ) (a : Option (List ℕ)) → part ≡ [] → Finished longest refuses honest end (state known part n) n Done a a
finished_none longest refuses honest end known part n a none = record {
  ended = [];
  kept = [];
  which = inl (sym (ap last_of none), tt);
  count = omega arith;
  some = tt;
  first = tt;
  exact = λ h. refl;
  leaves = Appends-nil a;
}

pub finished_refused : (longest : ℕ) (refuses : Refusal → Type 0) (honest : Bool) (end : ℕ) (known : Known) (part : List ℕ) (count n : ℕ) (why : Why) (a : Option (List ℕ)) → IsPlain end part → (length part ≡ 0 → ⊥) →
    IsWhyNext longest refuses count (length (part ++ [])) why → n ≡ count → Finished longest refuses honest end (state known part count) n why a a
finished_refused longest refuses honest end known part count n why a plain some w same = record {
  ended = [];
  kept = [];
  which = inr (refl, last_halts longest refuses end known part count why plain some w);
  count = omega (arith, same);
  some = tt;
  first = tt;
  exact = λ h. refl;
  leaves = leaves_all why [] a a (Appends-nil a);
}

pub last_is : (xs : List ℕ) → (length xs ≡ 0 → ⊥) → ◌≡◌ {A = List (List ℕ)} (xs ∷ []) (last_of xs)
last_is [] f = absurd (f refl)
last_is (x ∷ xs) f = refl

pub finished_last : (longest : ℕ) (refuses : Refusal → Type 0) (honest : Bool) (end : ℕ) (known put : Known) (part before out : List ℕ) (count n : ℕ) (why : Why) (a b : Option (List ℕ)) → IsPlain end part → (length part ≡ 0 → ⊥) → n ≡ count + 1 → before ≡ [] →
    Added honest end known put (part ++ []) before out → IsOver why → Leaves why out a b → Finished longest refuses honest end (state known part count) n why a b
finished_last longest refuses honest end known put part before out count n why a b plain some counted none added over leaves =
    let is : ◌≡◌ {A = List (List ℕ)} ((part ++ []) ∷ []) (last_of part) = ap (λ (t : List ℕ). t ∷ []) (append-nil part) ∙ last_is part some in
    record {
      ended = (part ++ []) ∷ [];
      kept = cond added.known [] ((part ++ []) ∷ []);
      which = inl (is, over);
      count = counted;
      some = one_part added.known (part ++ []);
      first = first_part added.known (set.contains known.stamps (known.stamp (part ++ []))) (part ++ []) added.stamped;
      exact = λ h. ap (λ b. cond b [] ((part ++ []) ∷ [])) (added.exact h).0 ∙ sym (append-nil (unless_in (key_of end) known.lines (part ++ [])));
      leaves = subst (λ t. Leaves why t a b)
          (added.out ∙ ap (λ t. t ++ cond added.known [] ((part ++ []) ++ end ∷ [])) none ∙ sym (text_one end added.known (part ++ []))) leaves;
    }

-- ---- what was read at once
pub wrote : (honest : Bool) (end : ℕ) (bytes : List ℕ) (a b : State) (old new : List ℕ) (p q : Option (List ℕ)) → old ≡ [] → Did honest end bytes a b old new → Appends p q new → Wrote honest end bytes a b p q
wrote honest end bytes a b old new p q none d w = record { printed = new; did = subst (λ o. Did honest end bytes a b o new) none d; written = w }

pub halted : (longest : ℕ) (refuses : Refusal → Type 0) (honest : Bool) (end : ℕ) (bytes : List ℕ) (a : State) (count : ℕ) (old new : List ℕ) (why : Why) (p q : Option (List ℕ)) → old ≡ [] → Stopped longest refuses honest end bytes a count why old new →
    Leaves why new p q → Halted longest refuses honest end bytes a count why p q
halted longest refuses honest end bytes a count old new why p q none s w = record { printed = new; stopped = subst (λ o. Stopped longest refuses honest end bytes a count why o new) none s; leaves = w }

-- the output fails, whatever was done
pub did_stops : (longest : ℕ) (refuses : Refusal → Type 0) (honest : Bool) (end : ℕ) (bytes : List ℕ) (a b : State) (old new : List ℕ) (why : Why) → IsWhyHalt longest refuses end b why → Did honest end bytes a b old new →
    Stopped longest refuses honest end bytes a b.count why old new
did_stops longest refuses honest end bytes a b old new why w d = record { now = b; counted = refl; did = d; cause = w }

pub stops_so : (longest : ℕ) (refuses : Refusal → Type 0) (honest : Bool) (end : ℕ) (bytes : List ℕ) (a : State) (count : ℕ) (old new : List ℕ) (first why : Why) → ((s : State) → IsWhyHalt longest refuses end s why) →
    Stopped longest refuses honest end bytes a count first old new → Stopped longest refuses honest end bytes a count why old new
stops_so longest refuses honest end bytes a count old new first why w s = record { now = s.now; counted = s.counted; did = s.did; cause = w s.now }

-- ---- by an answer
pub on_ok : {A E : Type 0} (r : Result A E) (P Q : Type 0) → (P → Q) → OnOk r P → OnOk r Q
on_ok (Ok x) P Q f p = f p
on_ok (Err e) P Q f p = p

pub if_err : {A E : Type 0} (r : Result A E) (P Q : E → Type 0) → ((e : E) → P e → Q e) → IfErr r P → IfErr r Q
if_err (Ok x) P Q f p = p
if_err (Err e) P Q f p = f e p

pub either : {A E : Type 0} (r : Result A E) (P : Type 0) (R : E → Type 0) (Q : Type 0) → (P → Q) → ((e : E) → R e → Q) → OnOk r P → IfErr r R → Q
either (Ok x) P R Q f h p q = f p
either (Err e) P R Q f h p q = h e q
