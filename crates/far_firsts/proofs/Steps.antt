-- What is done of some bytes, and then of others.
use Rattle.std.proofs.Common.{◌≡◌, ℕ, suc, ◌+◌, Bool, true, cond, Option, Some, None, List, [], ◌∷◌, ◌++◌, length, take, refl, sym, ◌∙◌, ap, subst, arith}
use Rattle.std.specs.Prelude.{IfSome}
use Rattle.std.specs.Io.KnownBytes.{Appends, Consumes}
use Rattle.std.proofs.KnownBytes.{Appends-trans}
use Rattle.std.proofs.lemmas.List.{append-nil, append_assoc, length-append, take_all}
use Rattle.std.specs.FinSet as set
use Rattle.far_firsts.specs.Lines.{key_of, text_of, IsPlain}
use Rattle.far_firsts.specs.Firsts.{IsPartOf}
use Rattle.far_word.specs.declared.refused.Refused.{Refused as Refusal}
use Rattle.far_firsts.specs.Doing.{Added, Did, IsWhyHalt, Known, Leaves, State, Stopped, news, put_all, state, unless_in}
use Rattle.far_firsts.specs.declared.end.Why.{Why}
use Rattle.far_firsts.specs.declared.end.Why.TheVariants.{Done, Refused, Input, Output, TooMany}
use Rattle.far_firsts.proofs.Cuts.{all_plain_join, plain_join, text_join}
use Rattle.far_firsts.proofs.Newness.{news_join, put_join, text_one}
use Rattle.far_firsts.proofs.OneOfEach.{first_part, one_part, part_join}

-- ---- bytes of a line whose end hasn't come
pub unread : (honest : Bool) (end : ℕ) (known : Known) (part rest : List ℕ) (count : ℕ) (out : List ℕ) → Did honest end rest (state known part count) (state known (part ++ rest) count) out out
unread honest end known part rest count out = record {
  ended = [];
  kept = [];
  plain = tt;
  text = refl;
  count = omega arith;
  some = tt;
  first = tt;
  stamps = refl;
  same = refl;
  exact = λ h. (refl, refl);
  out = sym (append-nil out);
}

-- ---- one line
module _ (honest : Bool) (end : ℕ) (known more : Known) (part piece new : List ℕ) (count n : ℕ) (before after : List ℕ) where
  pub one_line : IsPlain end part → IsPlain end piece → n ≡ count + 1 → new ≡ [] → Added honest end known more (part ++ piece) before after →
      Did honest end (piece ++ end ∷ []) (state known part count) (state more new n) before after
  one_line p q counted none added = record {
    ended = (part ++ piece) ∷ [];
    kept = cond added.known [] ((part ++ piece) ∷ []);
    plain = (plain_join end part piece p q, tt);
    text = sym (append_assoc part piece (end ∷ [])) ∙ sym (append-nil ((part ++ piece) ++ end ∷ [])) ∙ sym (append-nil (((part ++ piece) ++ end ∷ []) ++ [])) ∙ ap (λ t. (((part ++ piece) ++ end ∷ []) ++ []) ++ t) (sym none);
    count = counted;
    some = one_part added.known (part ++ piece);
    first = first_part added.known (set.contains known.stamps (known.stamp (part ++ piece))) (part ++ piece) added.stamped;
    stamps = added.stamps;
    same = added.same;
    exact = λ h. (
      ap (λ b. cond b [] ((part ++ piece) ∷ [])) (added.exact h).0 ∙ sym (append-nil (unless_in (key_of end) known.lines (part ++ piece))),
      (added.exact h).1,
    );
    out = added.out ∙ ap (λ t. before ++ t) (sym (text_one end added.known (part ++ piece)));
  }

-- ---- one after the other
module _ (honest : Bool) (end : ℕ) (a b c : State) (xs ys : List ℕ) (p q r : List ℕ) (d : Did honest end xs a b p q) (e : Did honest end ys b c q r) where
  then_text : a.part ++ (xs ++ ys) ≡ text_of end (d.ended ++ e.ended) ++ c.part
  then_text =
      sym (append_assoc a.part xs ys)
      ∙ ap (λ t. t ++ ys) d.text
      ∙ append_assoc (text_of end d.ended) b.part ys
      ∙ ap (λ t. text_of end d.ended ++ t) e.text
      ∙ sym (append_assoc (text_of end d.ended) (text_of end e.ended) c.part)
      ∙ ap (λ t. t ++ c.part) (sym (text_join end d.ended e.ended))

  abbrev stamp : List ℕ → List ℕ
  stamp = a.known.stamp

  -- the first of each stamp of the ones and of the others
  then_first : IsPartOf (news stamp a.known.stamps (d.ended ++ e.ended)) (d.kept ++ e.kept)
  then_first =
      subst (λ t. IsPartOf t (d.kept ++ e.kept)) (sym (news_join stamp a.known.stamps d.ended e.ended))
      (part_join (news stamp a.known.stamps d.ended) (news stamp (put_all stamp a.known.stamps d.ended) e.ended) d.kept e.kept d.first (subst (λ t. IsPartOf t e.kept) (λ i. news (d.same i) (d.stamps i) e.ended) e.first))

  then_exact : honest ≡ true → (d.kept ++ e.kept ≡ news (key_of end) a.known.lines (d.ended ++ e.ended)) × (c.known.lines ≡ put_all (key_of end) a.known.lines (d.ended ++ e.ended))
  then_exact h = (
    (λ i. (d.exact h).0 i ++ ((e.exact h).0 ∙ ap (λ s. news (key_of end) s e.ended) (d.exact h).1) i) ∙ sym (news_join (key_of end) a.known.lines d.ended e.ended),
    (e.exact h).1 ∙ ap (λ s. put_all (key_of end) s e.ended) (d.exact h).1 ∙ sym (put_join (key_of end) a.known.lines d.ended e.ended),
  )

  pub did_then : Did honest end (xs ++ ys) a c p r
  did_then = record {
    ended = d.ended ++ e.ended;
    kept = d.kept ++ e.kept;
    plain = all_plain_join end d.ended e.ended d.plain e.plain;
    text = then_text;
    count = omega (arith, d.count, e.count, length-append d.ended e.ended);
    some = part_join d.kept e.kept d.ended e.ended d.some e.some;
    first = then_first;
    stamps = e.stamps ∙ (λ i. put_all (d.same i) (d.stamps i) e.ended) ∙ sym (put_join stamp a.known.stamps d.ended e.ended);
    same = e.same ∙ d.same;
    exact = then_exact;
    out = e.out ∙ ap (λ t. t ++ text_of end e.kept) d.out ∙ append_assoc p (text_of end d.kept) (text_of end e.kept) ∙ ap (λ t. p ++ t) (sym (text_join end d.kept e.kept));
  }

-- what is to be written stands after other bytes
beside : (honest : Bool) (end : ℕ) (b c : State) (ys p q : List ℕ) → Did honest end ys b c [] q → Did honest end ys b c p (p ++ q)
beside honest end b c ys p q d = record { ended = d.ended; kept = d.kept; plain = d.plain; text = d.text; count = d.count; some = d.some; first = d.first; stamps = d.stamps; same = d.same; exact = d.exact; out = ap (λ t. p ++ t) d.out }

pub did_beside : (honest : Bool) (end : ℕ) (a b c : State) (xs ys p q : List ℕ) → Did honest end xs a b [] p → Did honest end ys b c [] q → Did honest end (xs ++ ys) a c [] (p ++ q)
did_beside honest end a b c xs ys p q d e = did_then honest end a b c xs ys [] p (p ++ q) d (beside honest end b c ys p q e)

-- ---- the output
-- all of it is left, whatever the end
pub leaves_all : (why : Why) (printed : List ℕ) (a b : Option (List ℕ)) → Appends a b printed → Leaves why printed a b
leaves_all Done printed a b p = p
leaves_all (Refused why) printed a b p = p
leaves_all (Input e) printed a b p = p
leaves_all (Output e) printed a b p = (length printed, subst (Appends a b) (sym (take_all (length printed) printed (omega arith))) p)
leaves_all TooMany printed a b p = p

take_after : (xs ys : List ℕ) (k : ℕ) → take (length xs + k) (xs ++ ys) ≡ xs ++ take k ys
take_after [] ys k = ap (λ n. take n ys) (omega arith)
take_after (x ∷ xs) ys k =
    let e : length (x ∷ xs) + k ≡ suc (length xs + k) = omega arith in
    ap (λ n. take n (x ∷ (xs ++ ys))) e ∙ ap (λ t. x ∷ t) (take_after xs ys k)

pub leaves_then : (why : Why) (first printed : List ℕ) (a b c : Option (List ℕ)) → Appends a b first → Leaves why printed b c → Leaves why (first ++ printed) a c
leaves_then Done first printed a b c p q = Appends-trans a b c first printed p q
leaves_then (Refused why) first printed a b c p q = Appends-trans a b c first printed p q
leaves_then (Input e) first printed a b c p q = Appends-trans a b c first printed p q
leaves_then (Output e) first printed a b c p q =
    (length first + q.0, subst (Appends a c) (sym (take_after first printed q.0)) (Appends-trans a b c first (take q.0 printed) p q.1))
leaves_then TooMany first printed a b c p q = Appends-trans a b c first printed p q

pub each : (o : Option (List ℕ)) (P Q : List ℕ → Type 0) → ((x : List ℕ) → P x → Q x) → IfSome o P → IfSome o Q
each None P Q f p = tt
each (Some x) P Q f p = f x p

of_some : (n : Option (List ℕ)) (rest chunk : List ℕ) → Consumes (Some rest) n chunk → (ys : List ℕ) × (n ≡ Some ys) × (rest ≡ chunk ++ ys)
of_some None rest chunk p = absurd p
of_some (Some ys) rest chunk p = (ys, refl, p)

-- what is left after some bytes were read
pub left_of : (o n : Option (List ℕ)) (rest chunk : List ℕ) → o ≡ Some rest → Consumes o n chunk → (ys : List ℕ) × (n ≡ Some ys) × (rest ≡ chunk ++ ys)
left_of o n rest chunk is eats = of_some n rest chunk (subst (λ x. Consumes x n chunk) is eats)

pub some_same : (xs ys : List ℕ) → ◌≡◌ {A = Option (List ℕ)} (Some xs) (Some ys) → xs ≡ ys
some_same xs ys e = cc

-- ---- what was read at once
-- its last bytes end no line
pub all_taken : (honest : Bool) (end : ℕ) (bytes eaten rest : List ℕ) (a : State) (known : Known) (part new : List ℕ) (count : ℕ) (p q : List ℕ) →
    bytes ≡ eaten ++ rest → Did honest end eaten a (state known part count) p q → new ≡ part ++ rest → Did honest end bytes a (state known new count) p q
all_taken honest end bytes eaten rest a known part new count p q is d kept =
    let all : Did honest end (eaten ++ rest) a (state known (part ++ rest) count) p q =
    did_then honest end a (state known part count) (state known (part ++ rest) count) eaten rest p q q d (unread honest end known part rest count q) in
    subst (λ n. Did honest end bytes a (state known n count) p q) (sym kept) (subst (λ b. Did honest end b a (state known (part ++ rest) count) p q) (sym is) all)

-- a line isn't taken
pub stopped_at : (longest : ℕ) (refuses : Refusal → Type 0) (honest : Bool) (end : ℕ) (bytes eaten rest : List ℕ) (a : State) (known : Known) (part : List ℕ) (count n : ℕ) (why : Why) (p q r : List ℕ) →
    bytes ≡ eaten ++ rest → Did honest end eaten a (state known part count) p q → n ≡ count → r ≡ q → IsWhyHalt longest refuses end (state known (part ++ rest) count) why → Stopped longest refuses honest end bytes a n why p r
stopped_at longest refuses honest end bytes eaten rest a known part count n why p q r is d counted same cause =
    let all : Did honest end bytes a (state known (part ++ rest) count) p q = all_taken honest end bytes eaten rest a known part (part ++ rest) count p q is d refl in
    record {
      now = state known (part ++ rest) count;
      counted = sym counted;
      did = subst (λ o. Did honest end bytes a (state known (part ++ rest) count) p o) (sym same) all;
      cause = cause;
    }

-- one line more
pub line_taken : (honest : Bool) (end : ℕ) (bytes eaten rest piece more : List ℕ) (a : State) (known put : Known) (part new : List ℕ) (count n : ℕ) (p q r : List ℕ) →
    bytes ≡ eaten ++ rest → Did honest end eaten a (state known part count) p q → rest ≡ (piece ++ end ∷ []) ++ more → Did honest end (piece ++ end ∷ []) (state known part count) (state put new n) q r →
    (ate : List ℕ) × (bytes ≡ ate ++ more) × Did honest end ate a (state put new n) p r
line_taken honest end bytes eaten rest piece more a known put part new count n p q r is d cut e = (
  eaten ++ (piece ++ end ∷ []),
  is ∙ ap (λ t. eaten ++ t) cut ∙ sym (append_assoc eaten (piece ++ end ∷ []) more),
  did_then honest end a (state known part count) (state put new n) eaten (piece ++ end ∷ []) p q r d e,
)

-- nothing was taken yet
pub none_taken : (honest : Bool) (end : ℕ) (bytes : List ℕ) (a : State) (p : List ℕ) → (ate : List ℕ) × (bytes ≡ ate ++ bytes) × Did honest end ate a a p p
none_taken honest end bytes a p = ([], refl, record { ended = []; kept = []; plain = tt; text = append-nil a.part; count = omega arith; some = tt; first = tt; stamps = refl; same = refl; exact = λ h. (refl, refl); out = sym (append-nil p) })

pub each_known : (o : Option (List ℕ)) (P : List ℕ → Type 0) → ((x : List ℕ) → o ≡ Some x → P x) → IfSome o P
each_known None P f = tt
each_known (Some x) P f = f x refl
