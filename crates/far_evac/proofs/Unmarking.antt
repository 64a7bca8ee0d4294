-- A round is given up: the live objects of its logs lose EVAC, log after log.
use Rattle.std.proofs.Common.{◌≡◌, ℕ, suc, ◌+◌, ◌^◌, ◌<◌, ◌-◌, false, List, [], ◌∷◌, ◌++◌, take, drop, length, slice_index_or, arith, ap, sym, refl, ◌∙◌, subst}
use Rattle.std.specs.Prelude.{fold}
use Rattle.std.specs.List.{AllByRecursion}
use Rattle.std.proofs.lemmas.List.{append-nil, append_assoc, take_rest}
use Rattle.std.proofs.lemmas.List.Sums.{fold-append}
use Rattle.far_word.specs.Sizes.{size_of}
use Rattle.far_log.specs.declared.span.Span.{Span}
use Rattle.far_events.specs.events.Clear.{evac_cleared}
use Rattle.far_events.specs.state.Law.{Law}
use Rattle.far_events.specs.state.State.{State}
use Rattle.far_hand.specs.Cleared.{cleared}
use Rattle.far_hand.specs.Finds.{Finds}
use Rattle.far_hand.specs.Known.{Forgets}
use Rattle.far_book.specs.book.NextLive.{IsBoundary, IsHomeOf, live_from}
use Rattle.far_book.specs.book.Own.{own_part}
use Rattle.far_hand.proofs.Finding.{near_known}
use Rattle.far_book.proofs.region.NextLives.{lives_from_start}
use Rattle.far_evac.specs.AnyHand.{Knows}
use Rattle.far_evac.specs.Live.{live_among, live_in, pointers_of}
use Rattle.far_evac.specs.RoundSteps.{unmarked}
use Rattle.far_evac.proofs.Changing.{clear_leaves, cleared_known, unmarked_fits, unmarked_known}
use Rattle.far_evac.proofs.Fronts.{knows_cells}
use Rattle.far_evac.proofs.SmallSteps.{drop_next}
use Rattle.far_evac.proofs.Hands.{knows_more}
use Rattle.far_evac.proofs.Lacking.{from_unmarked, live_unmarked, among_append}
use Rattle.far_evac.proofs.LiveLists.{knows_live}
use Rattle.far_evac.proofs.LiveOnce.{each_map, live_named}
use Rattle.far_evac.proofs.Marks.{IsNearWord, all_near, clear_sets, live_near, near_word}
use Rattle.far_evac.proofs.Onward.{front_is}
use Rattle.far_evac.proofs.Passing.{boundary_known, from_known, not_before}

pub live_start : (s : State) → Law (own_part s) → (l : ℕ) → live_in s l ≡ pointers_of (live_from s l 0)
unfolding live_in
live_start s law l = ap pointers_of (sym (lives_from_start s law l).1)

pub fold_logs : (ps : List ℕ) (s : State) → (fold unmarked s ps).logs ≡ s.logs
fold_logs [] s = refl
fold_logs (p ∷ ps) s = fold_logs ps (unmarked s p)

pub logs_known : (ps : List ℕ) (s t : State) → Knows (fold unmarked s ps) t → t.logs ≡ s.logs
logs_known ps s t known = ap (λ (u : State). u.logs) known.rest ∙ fold_logs ps s

-- ---- one object of a log
module _ (start s t u : State) (l at word : ℕ) (span : Span) (done : List ℕ) (fits : (q : ℕ) → (fold unmarked start done).cell q < 2 ^ 64)
    (parts : live_in start l ≡ done ++ pointers_of (live_from s l at)) (known : Knows (fold unmarked start done) s) (law : Law (own_part t)) (last : Law (own_part u))
    (first : live_from s l at ≡ span ∷ live_from s l (span.at + size_of span.len)) (next : IsBoundary s l (span.at + size_of span.len))
    (cells : (p : ℕ) → Finds (s.cell p) (t.cell p)) (kept : t ≡ record s { cell = t.cell }) (lies : IsHomeOf t l span)
    (finds : Finds (t.cell span.p) word) (word_fits : word < 2 ^ 64) (is : u ≡ record (cleared t span.p word) { word = u.word }) (forgot : Forgets t u) where
  abbrev ideal : State
  ideal = fold unmarked start done

  abbrev p : ℕ
  p = span.p

  abbrev past : ℕ
  past = span.at + size_of span.len

  meanwhile : Knows s t
  meanwhile = knows_cells s t cells kept

  to_t : Knows ideal t
  to_t = knows_more ideal s t known meanwhile

  near_t : IsNearWord (t.cell p)
  near_t = ((law.cells.cell_read p).0, (span.len, span.ds, record { log = l; at = span.at }, lies.marks, lies.near))

  near_ideal : IsNearWord (ideal.cell p)
  near_ideal = let x = near_known (ideal.cell p) (t.cell p) (to_t.found p) span.len span.ds (record { log = l; at = span.at }) lies.marks lies.near in
      (fits p, (span.len, span.ds, record { log = l; at = span.at }, x.marks, x.near))

  leaves : Knows (unmarked t p) u
  leaves = clear_leaves t u p word near_t finds word_fits is forgot last

  one_more : fold unmarked start (done ++ p ∷ []) ≡ unmarked ideal p
  one_more = fold-append unmarked start done (p ∷ [])

  pub then_known : Knows (fold unmarked start (done ++ p ∷ [])) u
  then_known = subst (λ (v : State). Knows v u) (sym one_more) (knows_more (unmarked ideal p) (unmarked t p) u (unmarked_known ideal t to_t p near_ideal (law.cells.cell_read p).0) leaves)

  pub then_fits : (q : ℕ) → (fold unmarked start (done ++ p ∷ [])).cell q < 2 ^ 64
  then_fits q = subst (λ (v : State). v.cell q < 2 ^ 64) (sym one_more) (unmarked_fits ideal fits p near_ideal q)

  pub then_exactly : s ≡ ideal → t ≡ s → u ≡ unmarked t p → u ≡ fold unmarked start (done ++ p ∷ [])
  then_exactly a b c = c ∙ ap (λ (v : State). unmarked v p) (b ∙ a) ∙ sym one_more

  from_left : live_from u l past ≡ live_from s l past
  from_left = from_known (unmarked t p) u leaves l past ∙ from_unmarked t p near_t l past ∙ from_known s t meanwhile l past

  pub then_parts : live_in start l ≡ (done ++ p ∷ []) ++ pointers_of (live_from u l past)
  then_parts = parts ∙ ap (λ spans. done ++ pointers_of spans) first ∙ sym (append_assoc done (p ∷ []) (pointers_of (live_from s l past)))
      ∙ ap (λ spans. (done ++ p ∷ []) ++ pointers_of spans) (sym from_left)

  pub then_begins : IsBoundary u l past
  then_begins = boundary_known (unmarked t p) u leaves l past (boundary_known s t meanwhile l past next)

size_some : (len : ℕ) → 0 < size_of len
size_some len = omega arith

pub goes_past : (s : State) → Law (own_part s) → (l at : ℕ) (span : Span) → live_from s l at ≡ span ∷ live_from s l (span.at + size_of span.len) → at < span.at + size_of span.len
goes_past s law l at span first = let le = not_before s law l at span first in let some = size_some span.len in omega (arith, le, some)

-- the end of a log
pub all_done : (start s t : State) (l at : ℕ) (done : List ℕ) → live_in start l ≡ done ++ pointers_of (live_from s l at) → live_from s l at ≡ [] → live_in start l ≡ done
all_done start s t l at done parts none = parts ∙ ap (λ spans. done ++ pointers_of spans) none ∙ append-nil done

-- ---- log after log
unmarked_all : (ps : List ℕ) (s : State) → ((q : ℕ) → s.cell q < 2 ^ 64) → AllByRecursion (λ p. IsNearWord (s.cell p)) ps → (q : ℕ) → (fold unmarked s ps).cell q < 2 ^ 64
unmarked_all [] s fits near = fits
unmarked_all (p ∷ ps) s fits near = unmarked_all ps (unmarked s p) (unmarked_fits s fits p near.0) (all_near false unmarked evac_cleared (λ u q. refl) clear_sets s p ps near.0 near.1)

live_all : (ps : List ℕ) (s : State) (l : ℕ) → AllByRecursion (λ p. IsNearWord (s.cell p)) ps → live_in (fold unmarked s ps) l ≡ live_in s l
live_all [] s l near = refl
live_all (p ∷ ps) s l near = live_all ps (unmarked s p) l (all_near false unmarked evac_cleared (λ u q. refl) clear_sets s p ps near.0 near.1) ∙ live_unmarked s p near.0 l

module _ (start t : State) (fits : (q : ℕ) → start.cell q < 2 ^ 64) (passed : List ℕ) (l : ℕ) (known : Knows (fold unmarked start (live_among start passed)) t) (law : Law (own_part t)) where
  abbrev sofar : State
  sofar = fold unmarked start (live_among start passed)

  near_start : AllByRecursion (λ p. IsNearWord (start.cell p)) (live_among start passed)
  near_start = live_near start fits passed

  live_still : live_in t l ≡ live_in start l
  live_still = knows_live sofar t known l ∙ live_all (live_among start passed) start l near_start

  near_sofar : AllByRecursion (λ p. IsNearWord (sofar.cell p)) (live_in t l)
  near_sofar = subst (AllByRecursion (λ p. IsNearWord (sofar.cell p))) (sym (knows_live sofar t known l))
      (each_map (near_word sofar (unmarked_all (live_among start passed) start fits near_start) l) (live_in sofar l) (live_named sofar l))

  joined : fold unmarked start (live_among start (passed ++ l ∷ [])) ≡ fold unmarked sofar (live_in t l)
  joined =
      ap (fold unmarked start) (among_append start passed (l ∷ []) ∙ ap (λ xs. live_among start passed ++ xs) (append-nil (live_in start l) ∙ sym live_still))
      ∙ fold-append unmarked start (live_among start passed) (live_in t l)

  pub log_known : (u : State) → Knows (fold unmarked t (live_in t l)) u → Knows (fold unmarked start (live_among start (passed ++ l ∷ []))) u
  log_known u then = subst (λ (v : State). Knows v u) (sym joined)
      (knows_more (fold unmarked sofar (live_in t l)) (fold unmarked t (live_in t l)) u (cleared_known (live_in t l) sofar t known (λ q. (law.cells.cell_read q).0) near_sofar) then)

  pub log_exactly : (u : State) → t ≡ sofar → u ≡ fold unmarked t (live_in t l) → u ≡ fold unmarked start (live_among start (passed ++ l ∷ []))
  log_exactly u is then = then ∙ ap (λ (v : State). fold unmarked v (live_in t l)) is ∙ sym joined

pub taken_next : (xs ys : List ℕ) (i : ℕ) → ys ≡ xs → i < length ys → take (i + 1) xs ≡ take i xs ++ slice_index_or ys i 0 ∷ []
taken_next xs ys i same lt =
    let one : i + 1 ≡ suc i = omega arith in
    let front = front_is xs ys i (length ys) same (ap length same) lt in
    ap (λ n. take n xs) one ∙ (drop_next i xs (slice_index_or ys i 0) (drop (i + 1) xs) front).2

pub slice_rest : (xs ys : List ℕ) (n : ℕ) → ys ≡ xs → take (length ys - n) (drop n ys) ≡ drop n xs
slice_rest xs ys n same = take_rest ys n ∙ ap (drop n) same
