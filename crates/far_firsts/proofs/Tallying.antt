-- What is counted of some bytes, and then of others.
use Rattle.std.proofs.Common.{◌≡◌, ℕ, ◌+◌, ◌<◌, ◌≤◌, Bool, true, false, cond, ◌||◌, Option, Some, List, [], ◌∷◌, ◌++◌, length, map, refl, sym, ◌∙◌, ap, subst, arith}
use Rattle.std.specs.Str.{bytes_eq}
use Rattle.std.specs.Cmp.Lexicographic.{nat_list_cmp_total}
use Rattle.std.specs.FinSet as set
use Rattle.std.specs.Io.KnownBytes.{Consumes, Keeps}
use Rattle.std.proofs.lemmas.List.{append-nil, append_assoc, length-append, map-append}
use Rattle.far_word.specs.declared.refused.Refused.{Refused as Refusal}
use Rattle.far_seen.specs.Lines.{LineSet}
use Rattle.far_seen.specs.Tallied.{Counts, Tallied, counted, often, total}
use Rattle.far_seen.proofs.Members.{put_again, ties}
use Rattle.far_firsts.specs.Lines.{ends_in, key_of, lines_of, stamp_by, text_of, IsPlain}
use Rattle.far_firsts.specs.Causes.{IsCause}
use Rattle.far_firsts.specs.Firsts.{IsPartOf}
use Rattle.far_firsts.specs.Doing.{Did, IsWhyHalt, State, Stopped, last_of, news, put_all}
use Rattle.far_firsts.specs.Tallies.{how_often}
use Rattle.far_firsts.specs.Tallying.{Came, Counted, Gone, IsStop, Last, Whole, count_all, midst, no_set}
use Rattle.far_firsts.specs.declared.end.Why.{Why}
use Rattle.far_firsts.specs.declared.end.Why.TheVariants.{Done, Refused, Input, Output, TooMany}
use Rattle.far_firsts.proofs.Causes.{all_ends, done_are, failed_read, halt_cause, lines_are}
use Rattle.far_firsts.proofs.Cuts.{all_plain_join, lines_last, plain_join, text_join}
use Rattle.far_firsts.proofs.Halts.{last_is}
use Rattle.far_firsts.proofs.Steps.{did_then, left_of, some_same, stopped_at}
use Rattle.far_firsts.proofs.Tallies.{often_join}

pub no_two : false ≡ true → ⊥
no_two e = cc

-- ---- lines after lines
count_join : (end : ℕ) (ps : Counts) (xs ys : List (List ℕ)) → count_all end ps (xs ++ ys) ≡ count_all end (count_all end ps xs) ys
count_join end ps [] ys = refl
count_join end ps (l ∷ ls) ys = count_join end (counted ps (key_of end l)) ls ys

-- one line of a stamp more
one_of : (b : Bool) (x n : ℕ) → x ≡ cond b (1 + n) n → x ≡ n + cond b (0 + 1) 0
one_of true x n e = omega (arith, e)
one_of false x n e = omega (arith, e)

-- the line is counted, and its stamp
abbrev pub IsOneMore : Bool → ℕ → Tallied → Tallied → List ℕ → Type 0
IsOneMore honest end ps more line = (total more.lines ≡ total ps.lines + 1) × (more.seed ≡ ps.seed) × ((q : List ℕ) → often q more.stamps ≡ often q ((stamp_by ps.seed end line, 1) ∷ ps.stamps))
    × (honest ≡ true → more.lines ≡ counted ps.lines (key_of end line))

pub counted_one : (honest : Bool) (end : ℕ) (ps more : Tallied) (line : List ℕ) → IsOneMore honest end ps more line → Counted honest end ps more (line ∷ [])
counted_one honest end ps more line one = record {
  total = omega (arith, one.0);
  seed = one.1;
  stamps = λ q. one_of (bytes_eq q (stamp_by ps.seed end line)) (often q more.stamps) (often q ps.stamps) (one.2 q);
  exact = one.3;
}

counted_join : (honest : Bool) (end : ℕ) (ps qs rs : Tallied) (xs ys : List (List ℕ)) → Counted honest end ps qs xs → Counted honest end qs rs ys → Counted honest end ps rs (xs ++ ys)
counted_join honest end ps qs rs xs ys a b =
    let stamp : List ℕ → List ℕ = stamp_by ps.seed end in
    record {
      total = omega (arith, a.total, b.total, length-append xs ys);
      seed = b.seed ∙ a.seed;
      stamps = λ q.
          let more : often q rs.stamps ≡ often q qs.stamps + how_often q (map stamp ys) = b.stamps q ∙ ap (λ s. often q qs.stamps + how_often q (map (stamp_by s end) ys)) a.seed in
          let all : how_often q (map stamp (xs ++ ys)) ≡ how_often q (map stamp xs) + how_often q (map stamp ys) = ap (how_often q) (map-append stamp xs ys) ∙ often_join q (map stamp xs) (map stamp ys) in
          omega (arith, a.stamps q, more, all);
      exact = λ h. b.exact h ∙ ap (λ ks. count_all end ks ys) (a.exact h) ∙ sym (count_join end ps.lines xs ys);
    }

-- ---- bytes after bytes
pub came_line : (honest : Bool) (end : ℕ) (part piece new : List ℕ) (count n : ℕ) (ps more : Tallied) → IsPlain end part → IsPlain end piece → n ≡ count + 1 → new ≡ [] → IsOneMore honest end ps more (part ++ piece) →
    Came honest end (piece ++ end ∷ []) part count new n ps more
came_line honest end part piece new count n ps more p q one none so = record {
  ended = (part ++ piece) ∷ [];
  plain = (plain_join end part piece p q, tt);
  text = sym (append_assoc part piece (end ∷ [])) ∙ sym (append-nil ((part ++ piece) ++ end ∷ [])) ∙ sym (append-nil (((part ++ piece) ++ end ∷ []) ++ [])) ∙ ap (λ t. (((part ++ piece) ++ end ∷ []) ++ []) ++ t) (sym none);
  count = one;
  counts = counted_one honest end ps more (part ++ piece) so;
}

pub came_then : (honest : Bool) (end : ℕ) (xs ys a b c : List ℕ) (k m n : ℕ) (ps qs rs : Tallied) → Came honest end xs a k b m ps qs → Came honest end ys b m c n qs rs → Came honest end (xs ++ ys) a k c n ps rs
came_then honest end xs ys a b c k m n ps qs rs d e = record {
  ended = d.ended ++ e.ended;
  plain = all_plain_join end d.ended e.ended d.plain e.plain;
  text = sym (append_assoc a xs ys) ∙ ap (λ t. t ++ ys) d.text ∙ append_assoc (text_of end d.ended) b ys ∙ ap (λ t. text_of end d.ended ++ t) e.text
      ∙ sym (append_assoc (text_of end d.ended) (text_of end e.ended) c) ∙ ap (λ t. t ++ c) (sym (text_join end d.ended e.ended));
  count = omega (arith, d.count, e.count, length-append d.ended e.ended);
  counts = counted_join honest end ps qs rs d.ended e.ended d.counts e.counts;
}

-- ---- no set
abbrev no_stamp : List ℕ → List ℕ
no_stamp = λ l. []

abbrev no_lines : LineSet
no_lines = set.empty

there : set.contains no_set.stamps [] ≡ true
there = set.contains-insert nat_list_cmp_total no_lines [] [] ∙ ap (λ b. b || set.contains no_lines []) ((ties [] []).1 refl)

pub put_none : (ls : List (List ℕ)) → put_all no_stamp no_set.stamps ls ≡ no_set.stamps
put_none [] = refl
put_none (l ∷ ls) = ap (λ s. put_all no_stamp s ls) (sym (put_again no_set.stamps [] there)) ∙ put_none ls

news_none : (ls : List (List ℕ)) → news no_stamp no_set.stamps ls ≡ []
news_none [] = refl
news_none (l ∷ ls) = (λ i. cond (there i) [] (l ∷ []) ++ news no_stamp (sym (put_again no_set.stamps [] there) i) ls) ∙ news_none ls

pub none_of : (ls : List (List ℕ)) → IsPartOf (news no_stamp no_set.stamps ls) []
none_of ls = subst (λ t. IsPartOf t []) (sym (news_none ls)) tt

-- the lines of it, and nothing printed
abbrev pub did_of : (honest : Bool) (end : ℕ) (xs a b : List ℕ) (k m : ℕ) (ps qs : Tallied) → Came honest end xs a k b m ps qs → Did false end xs (midst a k) (midst b m) [] []
did_of honest end xs a b k m ps qs came = record { ended = came.ended; kept = []; plain = came.plain; text = came.text; count = came.count; some = tt; first = none_of came.ended; stamps = sym (put_none came.ended); same = refl; exact = λ e. absurd (no_two e); out = refl }

-- ---- what was read at once
-- so much of it came
abbrev pub Eaten : Bool → ℕ → List ℕ → List ℕ → ℕ → List ℕ → ℕ → Tallied → Tallied → List ℕ → Type 0
Eaten honest end bytes part count new n ps qs rest = (ate : List ℕ) × (bytes ≡ ate ++ rest) × Came honest end ate part count new n ps qs

pub line_eaten : (honest : Bool) (end : ℕ) (bytes part : List ℕ) (count : ℕ) (b : List ℕ) (m : ℕ) (c : List ℕ) (n : ℕ) (ps qs rs : Tallied) (rest piece more : List ℕ) → Eaten honest end bytes part count b m ps qs rest → rest ≡ (piece ++ end ∷ []) ++ more →
    Came honest end (piece ++ end ∷ []) b m c n qs rs → Eaten honest end bytes part count c n ps rs more
line_eaten honest end bytes part count b m c n ps qs rs rest piece more so cut came = (
  so.0 ++ (piece ++ end ∷ []),
  so.1 ∙ ap (λ t. so.0 ++ t) cut ∙ sym (append_assoc so.0 (piece ++ end ∷ []) more),
  came_then honest end so.0 (piece ++ end ∷ []) part b c count m n ps qs rs so.2 came,
)

pub eaten_stops : (longest : ℕ) (refuses : Refusal → Type 0) (honest : Bool) (end : ℕ) (bytes part : List ℕ) (count : ℕ) (b : List ℕ) (m n : ℕ) (ps qs : Tallied) (rest : List ℕ) (why : Why) → Eaten honest end bytes part count b m ps qs rest → n ≡ m →
    IsWhyHalt longest refuses end (midst (b ++ rest) m) why → Stopped longest refuses false end bytes (midst part count) n why [] []
eaten_stops longest refuses honest end bytes part count b m n ps qs rest why so counted cause =
    stopped_at longest refuses false end bytes so.0 rest (midst part count) no_set b m n why [] [] [] so.1 (did_of honest end so.0 part b count m ps qs so.2) counted refl cause

-- ---- a whole text
as_stop : (longest : ℕ) (refuses : Refusal → Type 0) (end n : ℕ) (s : State) (why : Why) (text : List ℕ) (left : Option (List ℕ)) → IsWhyHalt longest refuses end s why → IsCause longest refuses end n why text left → IsStop longest refuses end n why text left
as_stop longest refuses end n s Done text left w cause = w
as_stop longest refuses end n s (Refused why) text left w cause = cause
as_stop longest refuses end n s (Input e) text left w cause = absurd w
as_stop longest refuses end n s (Output e) text left w cause = tt
as_stop longest refuses end n s TooMany text left w cause = cause

pub begins : (honest : Bool) (end : ℕ) (text part : List ℕ) (count : ℕ) (tally : Tallied) (left : Option (List ℕ)) → left ≡ Some text → part ≡ [] → count ≡ 0 → Gone honest end 0 text part count tally tally left
begins honest end text part count tally left is none zero = record {
  bytes = [];
  rest = text;
  all = refl;
  is_left = is;
  long = omega arith;
  came = record { ended = []; plain = tt; text = sym none; count = omega (arith, zero); counts = record { total = omega arith; seed = refl; stamps = λ q. omega arith; exact = λ h. refl } };
}

module _ (honest : Bool) (end reads : ℕ) (text part : List ℕ) (count : ℕ) (first tally : Tallied) (left : Option (List ℕ)) (gone : Gone honest end reads text part count first tally left) where
  pub goes_on : (chunk new : List ℕ) (n : ℕ) (more : Tallied) (after : Option (List ℕ)) → 0 < length chunk → Consumes left after chunk → Came honest end chunk part count new n tally more → Gone honest end (reads + 1) text new n first more after
  goes_on chunk new n more after some eats came =
      let rest = left_of left after gone.rest chunk gone.is_left eats in
      record {
        bytes = gone.bytes ++ chunk;
        rest = rest.0;
        all = gone.all ∙ ap (λ t. gone.bytes ++ t) rest.2 ∙ sym (append_assoc gone.bytes chunk rest.0);
        is_left = rest.1;
        long = omega (arith, gone.long, some, length-append gone.bytes chunk);
        came = came_then honest end gone.bytes chunk [] part new 0 count n first tally more gone.came came;
      }

  abbrev did : Did false end gone.bytes (midst [] 0) (midst part count) [] []
  did = did_of honest end gone.bytes [] part 0 count first tally gone.came

  module _ (longest : ℕ) (refuses : Refusal → Type 0) where
    -- so many lines are there
    few : (bytes rest : List ℕ) (s : State) (n : ℕ) → text ≡ bytes ++ rest → Did false end bytes (midst [] 0) s [] [] → s.count ≡ n → n ≤ length (lines_of end text)
    few bytes rest s n is d counted =
        omega (
          arith,
          done_are longest refuses false end text bytes rest [] (midst [] 0) s left is refl refl d n counted,
          ap (λ (t : List (List ℕ)). length t) (lines_are longest refuses false end text bytes rest [] (midst [] 0) s left is refl refl d),
          length-append d.ended (lines_of end (s.part ++ rest)),
        )

    -- the input fails
    pub fails : (n : ℕ) (why : Why) (after : Option (List ℕ)) → count ≡ n → IsPlain end part → Keeps left after → ((read : List ℕ) × Consumes (Some text) after read × (n ≡ ends_in end read) → IsStop longest refuses end n why text after) →
        (n ≤ length (lines_of end text)) × IsStop longest refuses end n why text after
    fails n why after counted plain keeps so = (
      few gone.bytes gone.rest (midst part count) n gone.all did counted,
      so (gone.bytes, failed_read left after text gone.bytes gone.rest gone.is_left gone.all keeps, all_ends longest refuses false end text gone.bytes gone.rest [] (midst [] 0) (midst part count) after gone.all refl refl did n counted plain),
    )

    -- too much came
    pub ends_there : (n : ℕ) → count ≡ n → 18446744073709551615 ≤ reads → (n ≤ length (lines_of end text)) × IsStop longest refuses end n TooMany text left
    ends_there n counted many = (
      few gone.bytes gone.rest (midst part count) n gone.all did counted,
      omega (arith, many, gone.long, ap (λ (t : List ℕ). length t) gone.all, length-append gone.bytes gone.rest),
    )

    -- it ends in the midst of what was read
    pub halts : (chunk : List ℕ) (n : ℕ) (why : Why) (after : Option (List ℕ)) → Consumes left after chunk → Stopped longest refuses false end chunk (midst part count) n why [] [] → (n ≤ length (lines_of end text)) × IsStop longest refuses end n why text after
    halts chunk n why after eats stopped =
        let more = left_of left after gone.rest chunk gone.is_left eats in
        let s = stopped.now in
        let is : text ≡ (gone.bytes ++ chunk) ++ more.0 = gone.all ∙ ap (λ t. gone.bytes ++ t) more.2 ∙ sym (append_assoc gone.bytes chunk more.0) in
        let d : Did false end (gone.bytes ++ chunk) (midst [] 0) s [] [] = did_then false end (midst [] 0) (midst part count) s gone.bytes chunk [] [] [] did stopped.did in (
          few (gone.bytes ++ chunk) more.0 s n is d stopped.counted,
          as_stop longest refuses end n s why text after stopped.cause
              (halt_cause longest refuses false end text (gone.bytes ++ chunk) more.0 [] (midst [] 0) s after is refl refl d n why stopped.counted stopped.cause),
        )

    -- the text has ended, and its last line isn't taken
    pub last_fails : (n : ℕ) (why : Why) (after : Option (List ℕ)) → count ≡ n → IsWhyHalt longest refuses end (midst part count) why → (n ≤ length (lines_of end text)) × IsStop longest refuses end n why text after
    last_fails n why after counted w = (
      few gone.bytes gone.rest (midst part count) n gone.all did counted,
      as_stop longest refuses end n (midst part count) why text after w
          (halt_cause longest refuses false end text gone.bytes gone.rest [] (midst [] 0) (midst part count) after gone.all refl refl did n why counted w),
    )

    -- all is counted
    pub finishes : (n : ℕ) (more : Tallied) → left ≡ Some [] → IsPlain end part → Last honest end part count n tally more → Whole honest end n text first more
    finishes n more over plain last =
        let rest : gone.rest ≡ [] = some_same gone.rest [] (sym gone.is_left ∙ over) in
        let lines : lines_of end text ≡ gone.came.ended ++ last_of part =
        lines_are longest refuses false end text gone.bytes gone.rest [] (midst [] 0) (midst part count) left gone.all refl refl did
        ∙ ap (λ t. gone.came.ended ++ lines_of end t) (ap (λ t. part ++ t) rest ∙ append-nil part) ∙ ap (λ t. gone.came.ended ++ t) (lines_last end part plain) in
        record {
          count = omega (arith, last.count, gone.came.count, ap (λ (t : List (List ℕ)). length t) lines, length-append gone.came.ended (last_of part));
          counts = subst (λ ls. Counted honest end first more ls) (sym lines) (counted_join honest end first tally more gone.came.ended (last_of part) gone.came.counts last.counts);
        }

-- as an end says it
pub at_end : (longest : ℕ) (refuses : Refusal → Type 0) (end n m : ℕ) (why ended : Why) (text : List ℕ) (left : Option (List ℕ)) → m ≡ n → ended ≡ why → (n ≤ length (lines_of end text)) × IsStop longest refuses end n why text left →
    (m ≤ length (lines_of end text)) × IsStop longest refuses end m ended text left
at_end longest refuses end n m why ended text left same is p =
    subst (λ k. (k ≤ length (lines_of end text)) × IsStop longest refuses end k ended text left) (sym same)
    (subst (λ w. (n ≤ length (lines_of end text)) × IsStop longest refuses end n w text left) (sym is) p)

-- ---- the text has ended
pub last_none : (honest : Bool) (end : ℕ) (part : List ℕ) (count : ℕ) (ps : Tallied) → part ≡ [] → Last honest end part count count ps ps
last_none honest end part count ps none =
    subst (λ (xs : List ℕ). Last honest end xs count count ps ps) (sym none) (record { count = omega arith; counts = record { total = omega arith; seed = refl; stamps = λ q. omega arith; exact = λ h. refl } })

pub last_one : (honest : Bool) (end : ℕ) (part : List ℕ) (count n : ℕ) (ps more : Tallied) → (length part ≡ 0 → ⊥) → n ≡ count + 1 → IsOneMore honest end ps more (part ++ []) → Last honest end part count n ps more
last_one honest end part count n ps more some one so =
    let is : ◌≡◌ {A = List (List ℕ)} ((part ++ []) ∷ []) (last_of part) = ap (λ (t : List ℕ). t ∷ []) (append-nil part) ∙ last_is part some in
    record {
      count = omega (arith, one, ap (λ (t : List (List ℕ)). length t) is);
      counts = subst (Counted honest end ps more) is (counted_one honest end ps more (part ++ []) so);
    }
