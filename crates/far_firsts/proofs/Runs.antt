-- A run, from read to read, and what its ends tell.
use Rattle.std.proofs.Common.{◌≡◌, ℕ, ◌+◌, ◌<◌, ◌≤◌, inl, inr, Bool, true, Option, Some, List, [], ◌∷◌, ◌++◌, length, take, refl, sym, ◌∙◌, ap, subst, arith}
use Rattle.std.specs.FinSet as set
use Rattle.std.specs.Io.KnownBytes.{Consumes, IsAtEnd, Keeps}
use Rattle.std.proofs.KnownBytes.{Appends-nil, Appends-trans}
use Rattle.std.proofs.lemmas.List.{append-nil, append_assoc, length-append, take_all, take_at}
use Rattle.far_word.specs.declared.refused.Refused.{Refused as Refusal}
use Rattle.far_firsts.specs.Lines.{ends_in, key_of, lines_of, text_of, IsPlain, ArePlain}
use Rattle.far_firsts.specs.Firsts.{firsts, firsts_by, IsPartOf}
use Rattle.far_firsts.specs.Causes.{IsCause}
use Rattle.far_firsts.specs.Doing.{Did, Finished, Halted, IsOver, Leaves, State, Went, Wrote, last_of, news, put_all}
use Rattle.far_firsts.specs.Telling.{Tells}
use Rattle.far_firsts.specs.declared.end.Why.{Why}
use Rattle.far_firsts.specs.declared.end.Why.TheVariants.{Done, Refused, Input, Output, TooMany}
use Rattle.far_firsts.proofs.Causes.{all_ends, done_are, failed_read, halt_cause, lines_are}
use Rattle.far_firsts.proofs.Cuts.{all_plain_join, lines_last, text_join}
use Rattle.far_firsts.proofs.Newness.{firsts_are, news_are, news_join}
use Rattle.far_firsts.proofs.OneOfEach.{part_join}
use Rattle.far_firsts.proofs.Steps.{did_beside, leaves_all, leaves_then, left_of, some_same}

-- all lines were taken
over_cause : (longest : ℕ) (refuses : Refusal → Type 0) (end n : ℕ) (why : Why) (text : List ℕ) (left : Option (List ℕ)) → IsOver why → n ≡ length (lines_of end text) → IsCause longest refuses end n why text left
over_cause longest refuses end n Done text left o e = e
over_cause longest refuses end n (Refused why) text left o e = absurd o
over_cause longest refuses end n (Input x) text left o e = absurd o
over_cause longest refuses end n (Output x) text left o e = tt
over_cause longest refuses end n TooMany text left o e = absurd o

-- ---- one read more
module _ (honest : Bool) (end reads : ℕ) (text : List ℕ) (a b : State) (left : Option (List ℕ)) (p q : Option (List ℕ)) (went : Went honest end reads text a b left p q) where
  pub goes_on : (c : State) (chunk : List ℕ) (after r : Option (List ℕ)) → 0 < length chunk → Consumes left after chunk → Wrote honest end chunk b c q r → Went honest end (reads + 1) text a c after p r
  goes_on c chunk after r some eats wrote =
      let more = left_of left after went.rest chunk went.is_left eats in
      record {
        bytes = went.bytes ++ chunk;
        rest = more.0;
        all = went.all ∙ ap (λ t. went.bytes ++ t) more.2 ∙ sym (append_assoc went.bytes chunk more.0);
        is_left = more.1;
        long = omega (arith, went.long, some, length-append went.bytes chunk);
        wrote = record {
          printed = went.wrote.printed ++ wrote.printed;
          did = did_beside honest end a b c went.bytes chunk went.wrote.printed wrote.printed went.wrote.did wrote.did;
          written = Appends-trans p q r went.wrote.printed wrote.printed went.wrote.written wrote.written;
        };
      }

  -- ---- what the ends tell: the run began with no line
  module _ (longest : ℕ) (refuses : Refusal → Type 0) (none : a.known.lines ≡ set.empty) (no_stamps : a.known.stamps ≡ set.empty) (nothing : a.part ≡ []) (zero : a.count ≡ 0) where
    -- of a beginning of the text so much is done
    told : (bytes rest printed : List ℕ) (s : State) (n : ℕ) (why : Why) (last r : Option (List ℕ)) → text ≡ bytes ++ rest → Did honest end bytes a s [] printed → s.count ≡ n → IsCause longest refuses end n why text last →
        Leaves why printed p r → Tells longest refuses honest a.known.stamp end n why text last p r
    told bytes rest printed s n why last r is did counted cause leaves =
        let lines : lines_of end text ≡ did.ended ++ lines_of end (s.part ++ rest) = lines_are longest refuses honest end text bytes rest printed a s last is nothing zero did in
        let count : length did.ended ≡ n = done_are longest refuses honest end text bytes rest printed a s last is nothing zero did n counted in
        let these : take n (lines_of end text) ≡ did.ended = ap (take n) lines ∙ take_at did.ended (lines_of end (s.part ++ rest)) n count in
        record {
          count = omega (arith, count, ap (λ (t : List (List ℕ)). length t) lines, length-append did.ended (lines_of end (s.part ++ rest)));
          cause = cause;
          printed = did.kept;
          some = subst (IsPartOf did.kept) (sym these) did.some;
          first = subst (λ ls. IsPartOf ls did.kept) (firsts_are a.known.stamp a.known.stamps did.ended no_stamps ∙ ap (firsts_by a.known.stamp []) (sym these)) did.first;
          exact = λ h. (did.exact h).0 ∙ news_are end a.known.lines did.ended none did.plain ∙ ap firsts (sym these);
          leaves = subst (λ t. Leaves why t p r) did.out leaves;
        }

    -- the input fails
    pub fails : (n : ℕ) (why : Why) (after : Option (List ℕ)) → b.count ≡ n → IsPlain end b.part → Keeps left after → ((read : List ℕ) × Consumes (Some text) after read × (n ≡ ends_in end read) → IsCause longest refuses end n why text after) →
        Tells longest refuses honest a.known.stamp end n why text after p q
    fails n why after counted plain keeps so =
        told went.bytes went.rest went.wrote.printed b n why after q went.all went.wrote.did counted
        (so (went.bytes, failed_read left after text went.bytes went.rest went.is_left went.all keeps, all_ends longest refuses honest end text went.bytes went.rest went.wrote.printed a b after went.all nothing zero went.wrote.did n counted plain))
        (leaves_all why went.wrote.printed p q went.wrote.written)

    -- too much came
    pub ends_there : (n : ℕ) → b.count ≡ n → 18446744073709551615 ≤ reads → Tells longest refuses honest a.known.stamp end n TooMany text left p q
    ends_there n counted many =
        told went.bytes went.rest went.wrote.printed b n TooMany left q went.all went.wrote.did counted
        (omega (arith, many, went.long, ap (λ (t : List ℕ). length t) went.all, length-append went.bytes went.rest))
        went.wrote.written

    -- the run ends in the midst of what was read
    pub halts : (chunk : List ℕ) (n : ℕ) (why : Why) (after r : Option (List ℕ)) → Consumes left after chunk → Halted longest refuses honest end chunk b n why q r → Tells longest refuses honest a.known.stamp end n why text after p r
    halts chunk n why after r eats halted =
        let more = left_of left after went.rest chunk went.is_left eats in
        let s = halted.stopped.now in
        let is : text ≡ (went.bytes ++ chunk) ++ more.0 = went.all ∙ ap (λ t. went.bytes ++ t) more.2 ∙ sym (append_assoc went.bytes chunk more.0) in
        let did : Did honest end (went.bytes ++ chunk) a s [] (went.wrote.printed ++ halted.printed) = did_beside honest end a b s went.bytes chunk went.wrote.printed halted.printed went.wrote.did halted.stopped.did in
        told (went.bytes ++ chunk) more.0 (went.wrote.printed ++ halted.printed) s n why after r is did halted.stopped.counted
        (halt_cause longest refuses honest end text (went.bytes ++ chunk) more.0 (went.wrote.printed ++ halted.printed) a s after is nothing zero did n why halted.stopped.counted halted.stopped.cause)
        (leaves_then why went.wrote.printed halted.printed p q r went.wrote.written halted.leaves)

    last_plain : (xs : List ℕ) → IsPlain end xs → ArePlain end (last_of xs)
    last_plain [] e = tt
    last_plain (x ∷ xs) e = (e, tt)

    -- the text has ended
    module _ (n : ℕ) (why : Why) (after r : Option (List ℕ)) (over : left ≡ Some []) (plain : IsPlain end b.part) (f : Finished longest refuses honest end b n why q r) where
      d : Did honest end went.bytes a b [] went.wrote.printed
      d = went.wrote.did

      rest_is : went.rest ≡ []
      rest_is = some_same went.rest [] (sym went.is_left ∙ over)

      all_lines : lines_of end text ≡ d.ended ++ last_of b.part
      unfolding d
      all_lines =
          lines_are longest refuses honest end text went.bytes went.rest went.wrote.printed a b after went.all nothing zero went.wrote.did
          ∙ ap (λ t. d.ended ++ lines_of end t) (ap (λ t. b.part ++ t) rest_is ∙ append-nil b.part)
          ∙ ap (λ t. d.ended ++ t) (lines_last end b.part plain)

      count_is : n ≡ length (d.ended ++ f.ended)
      unfolding d
      count_is = omega (arith, f.count, d.count, zero, length-append d.ended f.ended)

      -- what was taken: all lines, or all but the last
      taken : (ArePlain end f.ended) × (take n (lines_of end text) ≡ d.ended ++ f.ended) × (n ≤ length (lines_of end text)) × IsCause longest refuses end n why text after
      unfolding d
      taken = elim f.which [
        | inl last ↦
            let all : lines_of end text ≡ d.ended ++ f.ended = all_lines ∙ ap (λ t. d.ended ++ t) (sym last.0) in
            let same : n ≡ length (lines_of end text) = count_is ∙ ap (λ (t : List (List ℕ)). length t) (sym all) in (
              subst (ArePlain end) (sym last.0) (last_plain b.part plain),
              take_all n (lines_of end text) (omega (arith, same)) ∙ all,
              omega (arith, same),
              over_cause longest refuses end n why text after last.1 same,
            )
        | inr w ↦
            let none_more : length f.ended ≡ 0 = ap (λ (t : List (List ℕ)). length t) w.0 in
            let count : length d.ended ≡ n = omega (arith, f.count, d.count, zero, none_more) in
            let counted : b.count ≡ n = omega (arith, f.count, none_more) in (
              subst (ArePlain end) (sym w.0) tt,
              ap (take n) all_lines ∙ take_at d.ended (last_of b.part) n count ∙ sym (append-nil d.ended) ∙ ap (λ t. d.ended ++ t) (sym w.0),
              omega (arith, count, ap (λ (t : List (List ℕ)). length t) all_lines, length-append d.ended (last_of b.part)),
              halt_cause longest refuses honest end text went.bytes went.rest went.wrote.printed a b after went.all nothing zero went.wrote.did n why counted w.1,
            )
      ]

      finishes_exact : honest ≡ true → d.kept ++ f.kept ≡ firsts (take n (lines_of end text))
      unfolding d
      finishes_exact h =
          (λ i. (d.exact h).0 i ++ (f.exact h ∙ ap (λ s. news (key_of end) s f.ended) (d.exact h).1) i)
          ∙ sym (news_join (key_of end) a.known.lines d.ended f.ended)
          ∙ news_are end a.known.lines (d.ended ++ f.ended) none (all_plain_join end d.ended f.ended d.plain taken.0) ∙ ap firsts (sym taken.1)

      finishes_first : IsPartOf (firsts_by a.known.stamp [] (take n (lines_of end text))) (d.kept ++ f.kept)
      unfolding d
      finishes_first =
          let stamp = a.known.stamp in
          let stamps = a.known.stamps in
          subst (λ ls. IsPartOf ls (d.kept ++ f.kept))
          (sym (news_join stamp stamps d.ended f.ended) ∙ firsts_are stamp stamps (d.ended ++ f.ended) no_stamps ∙ ap (firsts_by stamp []) (sym taken.1))
          (part_join (news stamp stamps d.ended) (news stamp (put_all stamp stamps d.ended) f.ended) d.kept f.kept d.first
          (subst (λ ls. IsPartOf ls f.kept) (λ i. news (d.same i) (d.stamps i) f.ended) f.first))

      pub finishes : Tells longest refuses honest a.known.stamp end n why text after p r
      unfolding d
      finishes = record {
        count = taken.2;
        cause = taken.3;
        printed = d.kept ++ f.kept;
        some = subst (IsPartOf (d.kept ++ f.kept)) (sym taken.1) (part_join d.kept f.kept d.ended f.ended d.some f.some);
        first = finishes_first;
        exact = finishes_exact;
        leaves = subst (λ t. Leaves why t p r) (ap (λ t. t ++ text_of end f.kept) d.out ∙ sym (text_join end d.kept f.kept))
            (leaves_then why went.wrote.printed (text_of end f.kept) p q r went.wrote.written f.leaves);
      }

-- ---- before the first read
pub begins : (honest : Bool) (end : ℕ) (text : List ℕ) (a : State) (left p : Option (List ℕ)) → left ≡ Some text → a.part ≡ [] → Went honest end 0 text a a left p p
begins honest end text a left p is nothing = record {
  bytes = [];
  rest = text;
  all = refl;
  is_left = is;
  long = omega arith;
  wrote = record {
    printed = [];
    did = record { ended = []; kept = []; plain = tt; text = append-nil a.part; count = omega arith; some = tt; first = tt; stamps = refl; same = refl; exact = λ h. (refl, refl); out = refl };
    written = Appends-nil p;
  };
}

empty_of : (n : Option (List ℕ)) (ys : List ℕ) → n ≡ Some ys → IsAtEnd n → ys ≡ []
empty_of n ys e h = subst IsAtEnd e h

-- nothing was left to read
pub over : (o n : Option (List ℕ)) (rest chunk : List ℕ) → o ≡ Some rest → chunk ≡ [] → Consumes o n chunk → IsAtEnd n → o ≡ Some []
over o n rest chunk is none eats at_end =
    let more = left_of o n rest chunk is eats in
    is ∙ ap (λ t. Some t) (more.2 ∙ (λ i. none i ++ empty_of n more.0 more.1 at_end i))
