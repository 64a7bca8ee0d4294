-- What is printed of counts.
use Rattle.std.proofs.Common.{◌≡◌, ℕ, zero, suc, ◌+◌, ◌-◌, ◌<◌, ◌≤◌, ◌⊎◌, min, Bool, true, false, cond, Option, List, [], ◌∷◌, ◌++◌, length, map, take, drop, replicate, refl, sym, ◌∙◌, ap, subst, arith}
use Rattle.std.specs.Io.KnownBytes.{Appends}
use Rattle.std.proofs.KnownBytes.{Appends-nil, Appends-trans}
use Rattle.std.proofs.lemmas.List.{append-nil, append_assoc, length-append, length-take-le, nil_from_length, take_all, take_at, take_rest, take-append-drop}
use Rattle.far_word.specs.declared.refused.Refused.{Refused as Refusal}
use Rattle.far_word.specs.declared.refused.Refused.TheVariants.{Memory}
use Rattle.far_seen.specs.Lines.{stamp_of}
use Rattle.far_seen.specs.Tallied.{Counts, Tallied, count_of, line_of, often, times, total}
use Rattle.std.specs.Str.{bytes_eq}
use Rattle.std.specs.declared.hash.DefaultHasher.{DefaultHasher}
use Rattle.std.proofs.lemmas.Slice.Eq.{bytes_eq-Decides}
use Rattle.far_firsts.specs.Lines.{key_of, lines_of, stamp_by}
use Rattle.far_firsts.specs.Tallies.{AreCounted, IsEnding, Prints, TellsCounts, counts_text, entry, how_often, stamped, tally}
use Rattle.far_firsts.specs.Tallying.{IsShowing, IsStop, Showed, Shown, Shows, Whole, count_all, ending_of, line_for, lines_for}
use Rattle.far_firsts.specs.declared.end.Why.{Why}
use Rattle.far_firsts.specs.declared.end.Why.TheVariants.{Done as WhyDone, Refused as WhyRefused, Input as WhyInput, Output as WhyOutput, TooMany as WhyTooMany}
use Rattle.far_firsts.specs.declared.ending.Ending.{Ending}
use Rattle.far_firsts.specs.declared.ending.Ending.TheVariants.{Done, Refused, Input, TooMany, Lost, Output}
use Rattle.far_firsts.proofs.Cuts.{lines_plain}
use Rattle.far_firsts.proofs.OfEachStamp.{lines_like, next_stamp, often_both, same_count, same_total, stamped_join, times_join, times_long, times_stamped}
use Rattle.far_firsts.proofs.Tallies.{tally_of, tally_stamps, tally_total}

-- ---- columns
pub columns : (k : ℕ) → drop {A = ℕ} (min k 7) (32 ∷ 32 ∷ 32 ∷ 32 ∷ 32 ∷ 32 ∷ 32 ∷ []) ≡ replicate (7 - k) 32
columns zero = refl
columns (suc zero) = refl
columns (suc (suc zero)) = refl
columns (suc (suc (suc zero))) = refl
columns (suc (suc (suc (suc zero)))) = refl
columns (suc (suc (suc (suc (suc zero))))) = refl
columns (suc (suc (suc (suc (suc (suc zero)))))) = refl
columns (suc (suc (suc (suc (suc (suc (suc k))))))) =
    let n : ℕ = suc (suc (suc (suc (suc (suc (suc k)))))) in
    let e : min n 7 ≡ 7 = omega arith in
    let f : 0 ≡ 7 - n = omega arith in
    ap (λ j. drop {A = ℕ} j (32 ∷ 32 ∷ 32 ∷ 32 ∷ 32 ∷ 32 ∷ 32 ∷ [])) e ∙ ap (λ j. replicate j 32) f

pub pad_is : (m k : ℕ) → m ≡ min k 7 → take (7 - m) (drop {A = ℕ} m (32 ∷ 32 ∷ 32 ∷ 32 ∷ 32 ∷ 32 ∷ 32 ∷ [])) ≡ replicate (7 - k) 32
pad_is m k e = take_rest (32 ∷ 32 ∷ 32 ∷ 32 ∷ 32 ∷ 32 ∷ 32 ∷ []) m ∙ ap (λ j. drop {A = ℕ} j (32 ∷ 32 ∷ 32 ∷ 32 ∷ 32 ∷ 32 ∷ 32 ∷ [])) e ∙ columns k

-- what is put to bytes, one after the other
pub entry_is : (out pad digits line : List ℕ) (end : ℕ) → ((((out ++ pad) ++ digits) ++ 32 ∷ []) ++ line) ++ end ∷ [] ≡ out ++ ((pad ++ digits) ++ 32 ∷ (line ++ end ∷ []))
entry_is out pad digits line end =
    append_assoc (((out ++ pad) ++ digits) ++ 32 ∷ []) line (end ∷ [])
    ∙ append_assoc ((out ++ pad) ++ digits) (32 ∷ []) (line ++ end ∷ [])
    ∙ ap (λ t. t ++ 32 ∷ (line ++ end ∷ [])) (append_assoc out pad digits)
    ∙ append_assoc out (pad ++ digits) (32 ∷ (line ++ end ∷ []))

-- ---- lists of counts
text_join : (end : ℕ) (xs ys : Counts) → counts_text end (xs ++ ys) ≡ counts_text end xs ++ counts_text end ys
text_join end [] ys = refl
text_join end (x ∷ xs) ys = ap (λ t. entry end x ++ t) (text_join end xs ys) ∙ sym (append_assoc (entry end x) (counts_text end xs) (counts_text end ys))

length_for : (end : ℕ) (ps : Counts) → length (lines_for end ps) ≡ length ps
length_for end [] = refl
length_for end (p ∷ ps) = omega (arith, length_for end ps)

next_line : (end : ℕ) (ps : Counts) (k : ℕ) → k < length ps → take (suc k) (lines_for end ps) ≡ take k (lines_for end ps) ++ (line_for end (line_of ps k), count_of ps k) ∷ []
next_line end [] k h = absurd (omega (arith, h))
next_line end (p ∷ ps) zero h = refl
next_line end (p ∷ ps) (suc k) h = ap (λ qs. (line_for end p.0, p.1) ∷ qs) (next_line end ps k (omega (arith, h)))

-- ---- a line has the stamp of what stands for it
key_back : (end : ℕ) (key : List ℕ) → 0 < length key → key_of end (line_for end key) ≡ key
key_back end [] some = absurd (omega (arith, some))
key_back end (x ∷ xs) some =
    elim (bytes_eq (x ∷ xs) (end ∷ [])) as (λ b. bytes_eq (x ∷ xs) (end ∷ []) ≡ b → key_of end (cond b [] (x ∷ xs)) ≡ x ∷ xs) [
      | true ↦ λ is. sym ((bytes_eq-Decides (x ∷ xs) (end ∷ [])).0 is)
      | false ↦ λ is. refl
    ] refl

pub stamp_back : (seed : DefaultHasher) (end : ℕ) (key : List ℕ) → 0 < length key → stamp_by seed end (line_for end key) ≡ stamp_of seed key
stamp_back seed end key some = ap (stamp_of seed) (key_back end key some)

-- ---- line after line
module _ (honest : Bool) (end : ℕ) (t : Tallied) (place : ℕ) (out : List ℕ) (before now : Option (List ℕ)) (s : Showed honest end t place out before now) (even : times t.stamps ≡ times t.lines) where
  pub shown_more : (after : List ℕ) → place < length t.lines → Shown honest end t place out after → Showed honest end t (place + 1) after before now
  shown_more after h shown =
      let p : List ℕ × ℕ = (shown.line, count_of t.lines place) in
      let e : suc place ≡ place + 1 = omega arith in
      let there : place < length t.stamps = omega (arith, h, times_long t.stamps, times_long t.lines, ap (λ (ns : List ℕ). length ns) even) in
      record {
        done = s.done ++ p ∷ [];
        long = omega (arith, s.long, length-append s.done (p ∷ []));
        stamps = stamped_join (stamp_by t.seed end) s.done (p ∷ []) ∙ (λ i. s.stamps i ++ (shown.stamp i, same_count t.lines t.stamps place (sym even) i) ∷ [])
            ∙ sym (next_stamp t.stamps place there) ∙ ap (λ k. take k t.stamps) e;
        exact = λ o. (λ i. s.exact o i ++ (shown.exact o i, count_of t.lines place) ∷ []) ∙ sym (next_line end t.lines place h) ∙ ap (λ k. take k (lines_for end t.lines)) e;
        written = s.written;
        text = ap (λ t. s.written ++ t) shown.out ∙ sym (append_assoc s.written out (entry end p)) ∙ ap (λ t. t ++ entry end p) s.text
            ∙ ap (λ t. counts_text end s.done ++ t) (sym (append-nil (entry end p))) ∙ sym (text_join end s.done (p ∷ []));
        wrote = s.wrote;
      }

  pub shown_written : (w rest : List ℕ) (after : Option (List ℕ)) → out ≡ w ++ rest → Appends now after w → Showed honest end t place rest before after
  shown_written w rest after is wrote = record {
    done = s.done;
    long = s.long;
    stamps = s.stamps;
    exact = s.exact;
    written = s.written ++ w;
    text = append_assoc s.written w rest ∙ ap (λ t. s.written ++ t) (sym is) ∙ s.text;
    wrote = Appends-trans before now after s.written w s.wrote wrote;
  }

  module _ (refuses : Refusal → Type 0) where
    -- so many were shown
    shows : (ending : Ending) (after : Option (List ℕ)) → IsShowing refuses (length t.lines) ending → ((rest : Counts) → length s.done + length rest ≡ length t.lines → Prints end ending (s.done ++ rest) before after) →
        Shows refuses honest end t ending before after
    shows ending after cause prints = record {
      shown = s.done;
      even = even;
      stamps = s.stamps ∙ ap (λ k. take k t.stamps) (sym s.long);
      exact = λ o. s.exact o ∙ ap (λ k. take k (lines_for end t.lines)) (sym s.long);
      cause = cause;
      prints = prints;
    }

    pub shows_lost : (why : Refusal) (after : Option (List ℕ)) → place < length t.lines → (why ≡ Memory) ⊎ refuses why → Appends now after out → Shows refuses honest end t (Lost place why) before after
    shows_lost why after h cause wrote =
        shows (Lost place why) after (h, cause) (λ rest e. subst (Appends before after) (s.text ∙ ap (counts_text end) (sym (take_at s.done rest place s.long))) (Appends-trans before now after s.written out s.wrote wrote))

    pub shows_part : (ending : Ending) (after : Option (List ℕ)) → IsShowing refuses (length t.lines) ending → ((ps : Counts) → (k : ℕ) × Appends before after (take k (counts_text end ps)) → Prints end ending ps before after) →
        ((k : ℕ) × Appends now after (take k out)) → Shows refuses honest end t ending before after
    shows_part ending after cause ready part =
        let xs = s.written ++ take part.0 out in
        shows ending after cause (λ rest e.
        let more = drop part.0 out ++ counts_text end rest in
        let is : counts_text end (s.done ++ rest) ≡ xs ++ more =
        text_join end s.done rest
        ∙ ap (λ t. t ++ counts_text end rest) (sym s.text ∙ ap (λ t. s.written ++ t) (sym (take-append-drop part.0 out)) ∙ sym (append_assoc s.written (take part.0 out) (drop part.0 out)))
        ∙ append_assoc xs (drop part.0 out) (counts_text end rest) in
        ready (s.done ++ rest) (length xs, subst (Appends before after) (sym (ap (take (length xs)) is ∙ take_at xs more (length xs) refl)) (Appends-trans before now after s.written (take part.0 out) s.wrote part.1)))

    pub shows_done : (after : Option (List ℕ)) → length t.lines ≤ place → Appends now after out → Shows refuses honest end t Done before after
    shows_done after end_there wrote =
        shows Done after tt (λ rest e.
        let none : rest ≡ [] = nil_from_length rest (omega (arith, end_there, e, s.long)) in
        subst (Appends before after) (s.text ∙ ap (counts_text end) (sym (append-nil s.done) ∙ ap (λ ps. s.done ++ ps) (sym none))) (Appends-trans before now after s.written out s.wrote wrote))

-- ---- the whole run
as_ending : (longest : ℕ) (refuses : Refusal → Type 0) (end n : ℕ) (ending : Ending) (text : List ℕ) (left : Option (List ℕ)) (shown : Counts) → n ≡ length (lines_of end text) → IsShowing refuses (length shown) ending → IsEnding longest refuses end n ending text left shown
as_ending longest refuses end n Done text left shown whole s = whole
as_ending longest refuses end n (Refused why) text left shown whole s = absurd s
as_ending longest refuses end n (Input e) text left shown whole s = absurd s
as_ending longest refuses end n TooMany text left shown whole s = absurd s
as_ending longest refuses end n (Lost k why) text left shown whole s = (whole, s.0, s.1)
as_ending longest refuses end n (Output e) text left shown whole s = tt

not_both : (b : Bool) → b ≡ false → b ≡ true → ⊥
not_both b e f = cc

module _ (longest : ℕ) (refuses : Refusal → Type 0) (honest : Bool) (end n : ℕ) (ending : Ending) (text : List ℕ) (first t : Tallied) (left before after : Option (List ℕ)) (no_lines : first.lines ≡ []) (no_stamps : first.stamps ≡ [])
    (whole : Whole honest end n text first t) (s : Shows refuses honest end t ending before after) where
  abbrev Told : Type 0
  Told = TellsCounts longest refuses honest (stamp_by first.seed end) end n ending text left before after

  abbrev all : List (List ℕ)
  all = lines_of end text

  -- by counts that have what was shown
  told : (counts : Counts) → length counts ≡ length t.lines → total counts ≡ n → AreCounted (stamp_by first.seed end) all counts → (honest ≡ true → counts ≡ tally all) → Prints end ending counts before after → Told
  told counts long sum each exact prints =
      let these : all ≡ take n all = sym (take_all n all (omega (arith, whole.count))) in
      record {
        within = omega (arith, whole.count);
        counts = counts;
        total = sum;
        stamps = subst (λ ls. AreCounted (stamp_by first.seed end) ls counts) these each;
        exact = λ h. exact h ∙ ap tally these;
        cause = as_ending longest refuses end n ending text left counts whole.count (subst (λ k. IsShowing refuses k ending) (sym long) s.cause);
        prints = prints;
      }

  -- where the far side is honest: the tally
  tells_exact : honest ≡ true → Told
  tells_exact h =
      let lines : Counts = lines_for end t.lines in
      let k = length s.shown in
      let are : lines ≡ tally all = ap (lines_for end) (whole.counts.exact h ∙ ap (λ ps. count_all end ps all) no_lines) ∙ tally_of end all (lines_plain end text) in
      let whole_list : s.shown ++ drop k lines ≡ lines = ap (λ ps. ps ++ drop k lines) (s.exact h) ∙ take-append-drop k lines in
      told (tally all) (omega (arith, ap (λ (ps : Counts). length ps) are, length_for end t.lines)) (tally_total all ∙ sym whole.count) (tally_stamps (stamp_by first.seed end) all) (λ o. refl)
      (subst (λ ps. Prints end ending ps before after) (whole_list ∙ are)
      (s.prints (drop k lines) (omega (arith, ap (λ (ps : Counts). length ps) whole_list, length-append s.shown (drop k lines), length_for end t.lines))))

  -- where it isn't: what was shown, and other lines of the stamps that came
  tells_any : honest ≡ false → Told
  tells_any h =
      let stamp : List ℕ → List ℕ = stamp_by first.seed end in
      let k = length s.shown in
      let rest = drop k t.stamps in
      let shown : stamped stamp s.shown ≡ take k t.stamps = ap (λ d. stamped (stamp_by d end) s.shown) (sym whole.counts.seed) ∙ s.stamps in
      let came : (q : List ℕ) → often q t.stamps ≡ how_often q (map stamp all) = λ q. whole.counts.stamps q ∙ ap (λ ps. often q ps + how_often q (map stamp all)) no_stamps ∙ omega arith in
      let both : (q : List ℕ) → often q (take k t.stamps) + often q rest ≡ often q t.stamps = λ q. sym (often_both q (take k t.stamps) rest) ∙ ap (often q) (take-append-drop k t.stamps) in
      let more = lines_like stamp all rest (λ q. omega (arith, both q, came q)) in
      let even : times (s.shown ++ more.0) ≡ times t.lines =
      times_join s.shown more.0 ∙ (λ i. (sym (times_stamped stamp s.shown) ∙ ap times shown) i ++ more.1 i) ∙ sym (times_join (take k t.stamps) rest) ∙ ap times (take-append-drop k t.stamps) ∙ s.even in
      let long : length (s.shown ++ more.0) ≡ length t.lines = omega (arith, times_long (s.shown ++ more.0), times_long t.lines, ap (λ (ns : List ℕ). length ns) even) in
      told (s.shown ++ more.0) long (same_total (s.shown ++ more.0) t.lines even ∙ whole.counts.total ∙ ap (λ ps. total ps + length all) no_lines ∙ omega (arith, whole.count))
      (λ q. ap (often q) (stamped_join stamp s.shown more.0) ∙ often_both q (stamped stamp s.shown) (stamped stamp more.0) ∙ (λ i. often q (shown i) + more.2 q i) ∙ both q ∙ came q)
      (λ o. absurd (not_both honest h o))
      (s.prints more.0 (omega (arith, long, length-append s.shown more.0)))

  pub tells_shown : Told
  tells_shown = elim honest as (λ b. honest ≡ b → Told) [
    | true ↦ tells_exact
    | false ↦ tells_any
  ] refl

as_stopped : (longest : ℕ) (refuses : Refusal → Type 0) (end n : ℕ) (why : Why) (text : List ℕ) (left : Option (List ℕ)) (counts : Counts) → IsStop longest refuses end n why text left → IsEnding longest refuses end n (ending_of why) text left counts
as_stopped longest refuses end n WhyDone text left counts s = absurd s
as_stopped longest refuses end n (WhyRefused why) text left counts s = s
as_stopped longest refuses end n (WhyInput e) text left counts s = s
as_stopped longest refuses end n (WhyOutput e) text left counts s = tt
as_stopped longest refuses end n WhyTooMany text left counts s = s

prints_none : (end : ℕ) (why : Why) (counts : Counts) (before : Option (List ℕ)) → Prints end (ending_of why) counts before before
prints_none end WhyDone counts before = Appends-nil before
prints_none end (WhyRefused why) counts before = Appends-nil before
prints_none end (WhyInput e) counts before = Appends-nil before
prints_none end (WhyOutput e) counts before = (0, Appends-nil before)
prints_none end WhyTooMany counts before = Appends-nil before

pub tells_stopped : (longest : ℕ) (refuses : Refusal → Type 0) (honest : Bool) (stamp : List ℕ → List ℕ) (end n : ℕ) (why : Why) (ending : Ending) (text : List ℕ) (left before : Option (List ℕ)) → ending ≡ ending_of why → n ≤ length (lines_of end text) →
    IsStop longest refuses end n why text left → TellsCounts longest refuses honest stamp end n ending text left before before
tells_stopped longest refuses honest stamp end n why ending text left before is few stop =
    let counts : Counts = tally (take n (lines_of end text)) in
    subst (λ e. TellsCounts longest refuses honest stamp end n e text left before before) (sym is) (record {
      within = few;
      counts = counts;
      total = tally_total (take n (lines_of end text)) ∙ length-take-le n (lines_of end text) few;
      stamps = tally_stamps stamp (take n (lines_of end text));
      exact = λ h. refl;
      cause = as_stopped longest refuses end n why text left counts stop;
      prints = prints_none end why counts before;
    })
