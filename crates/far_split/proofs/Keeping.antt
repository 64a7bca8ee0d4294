-- Replies that are kept, and one more.
use Rattle.std.proofs.Common.{◌≡◌, ℕ, zero, suc, ◌+◌, ◌-◌, ◌<◌, ◌≤◌, Bool, List, [], ◌∷◌, ◌++◌, append-nil, length, length-append, take, drop, get_or, map, sym, ap, ◌∙◌, refl, subst, arith}
use Rattle.std.specs.Prelude.{◌==◌, IsTrue, ◌↔◌}
use Rattle.std.proofs.lemmas.Bool.{false≢true, ne_eqb}
use Rattle.std.specs.List.{slice_range}
use Rattle.std.proofs.lemmas.List.{drop-append-le, get_or_append_left, get_or_push, length-drop, length-take, map-append, take-append-le}
use Rattle.std.proofs.Math.Nat.{min-le_left}
use Rattle.std.proofs.Math.Seq.{drop-append_seam}
use Rattle.far_reply.specs.declared.reply.LogLine.{LogLine}
use Rattle.far_reply.specs.Reply.{Reply, Data, Logs}
use Rattle.far_split.specs.Kept.{AreKept, IsKept, IsWhole, line_told, lines_told, reply_in, round_reply}
use Rattle.far_split.specs.declared.replies.Kept.{Kept}
use Rattle.far_split.specs.declared.replies.Kept.TheVariants as kept
use Rattle.far_split.specs.declared.replies.Round.{Round}
use Rattle.far_split.specs.declared.told.LogWords.{LogWords}

-- ---- a list, with more behind it
pub record Grows {A : Type 0} (old new : List A) : Type 0 where
  pub more : List A
  pub is : new ≡ old ++ more

pub stays : {A : Type 0} (old : List A) → Grows old old
stays old = record { more = []; is = sym (append-nil old) }

module _ {A : Type 0} (old new : List A) (grows : Grows old new) where
  pub longer : length old ≤ length new
  longer = omega (arith, ap length grows.is, length-append old grows.more)

  part_stays : (start count : ℕ) → start + count ≤ length old → slice_range new start (start + count) ≡ slice_range old start (start + count)
  part_stays start count inside =
      ap (λ l. take (start + count - start) (drop start l)) grows.is
      ∙ ap (take (start + count - start)) (drop-append-le start old grows.more (omega arith))
      ∙ take-append-le (start + count - start) (drop start old) grows.more (omega (arith, length-drop start old))

  one_stays : (at : ℕ) (other : A) → at < length old → get_or new at other ≡ get_or old at other
  one_stays at other lt = ap (λ l. get_or l at other) grows.is ∙ get_or_append_left old grows.more other at lt

-- what was put behind is the last part
pub last_part : {A : Type 0} (old more : List A) (from count : ℕ) → from ≡ length old → count ≡ length more → slice_range (old ++ more) from (from + count) ≡ more
last_part old more from count at many =
    ap (λ k. take (k + count - k) (drop k (old ++ more))) at
    ∙ ap (take (length old + count - length old)) (drop-append_seam old more)
    ∙ ap (λ k. take k more) (omega (arith, many))
    ∙ whole more
  where
    whole : {B : Type 0} (xs : List B) → take (length xs) xs ≡ xs
    whole [] = refl
    whole (x ∷ xs) = ap (λ l. x ∷ l) (whole xs)

-- ---- all lists, with more behind them
module _ (bytes new_bytes : List ℕ) (b : Grows bytes new_bytes) (logs new_logs : List LogWords) (l : Grows logs new_logs) (ends new_ends : List Round) (e : Grows ends new_ends) where
  reply_stays : (k : Kept) → IsKept (length bytes) (length logs) (length ends) k → reply_in new_bytes new_logs new_ends k ≡ reply_in bytes logs ends k
  reply_stays kept.Done is = refl
  reply_stays (kept.Pointer pointer) is = refl
  reply_stays (kept.Data from count) is = ap Data (part_stays bytes new_bytes b from count is)
  reply_stays (kept.Logs first from count) is = ap (λ rows. Logs (lines_told first rows)) (part_stays logs new_logs l from count is.0)
  reply_stays (kept.Audited counts) is = refl
  reply_stays (kept.Refused why) is = refl
  reply_stays (kept.Round at) is = ap round_reply (one_stays ends new_ends e at _ is)

  replies_stay : (ks : List Kept) → AreKept (length bytes) (length logs) (length ends) ks → map (reply_in new_bytes new_logs new_ends) ks ≡ map (reply_in bytes logs ends) ks
  replies_stay [] are = refl
  replies_stay (k ∷ ks) are = rw (reply_stays k are.0, replies_stay ks are.1) refl

  kept_stays : (k : Kept) → IsKept (length bytes) (length logs) (length ends) k → IsKept (length new_bytes) (length new_logs) (length new_ends) k
  kept_stays kept.Done is = tt
  kept_stays (kept.Pointer pointer) is = tt
  kept_stays (kept.Data from count) is = omega (arith, longer bytes new_bytes b)
  kept_stays (kept.Logs first from count) is = (omega (arith, is.0, longer logs new_logs l), is.1)
  kept_stays (kept.Audited counts) is = tt
  kept_stays (kept.Refused why) is = tt
  kept_stays (kept.Round at) is = omega (arith, longer ends new_ends e)

  -- one reply more
  pub kept_more : (ks : List Kept) (k : Kept) → AreKept (length bytes) (length logs) (length ends) ks → IsKept (length new_bytes) (length new_logs) (length new_ends) k
      → AreKept (length new_bytes) (length new_logs) (length new_ends) (ks ++ k ∷ [])
  kept_more [] k are one = (one, tt)
  kept_more (x ∷ ks) k are one = (kept_stays x are.0, kept_more ks k are.1 one)

  pub reply_more : (ks : List Kept) (k : Kept) (r : Reply) → AreKept (length bytes) (length logs) (length ends) ks → reply_in new_bytes new_logs new_ends k ≡ r
      → map (reply_in new_bytes new_logs new_ends) (ks ++ k ∷ []) ≡ map (reply_in bytes logs ends) ks ++ r ∷ []
  reply_more ks k r are is =
      map-append (reply_in new_bytes new_logs new_ends) ks (k ∷ [])
      ∙ ap (λ rs. rs ++ reply_in new_bytes new_logs new_ends k ∷ []) (replies_stay ks are)
      ∙ ap (λ x. map (reply_in bytes logs ends) ks ++ x ∷ []) is

-- one that is kept whole hangs on no list
pub whole_reply : (bytes : List ℕ) (logs : List LogWords) (ends : List Round) (k : Kept) → IsWhole k → reply_in bytes logs ends k ≡ reply_in [] [] [] k
whole_reply bytes logs ends kept.Done is = refl
whole_reply bytes logs ends (kept.Pointer pointer) is = refl
whole_reply bytes logs ends (kept.Data from count) is = absurd is
whole_reply bytes logs ends (kept.Logs first from count) is = absurd is
whole_reply bytes logs ends (kept.Audited counts) is = refl
whole_reply bytes logs ends (kept.Refused why) is = refl
whole_reply bytes logs ends (kept.Round at) is = absurd is

pub whole_kept : (bytes logs ends : ℕ) (k : Kept) → IsWhole k → IsKept bytes logs ends k
whole_kept bytes logs ends kept.Done is = tt
whole_kept bytes logs ends (kept.Pointer pointer) is = tt
whole_kept bytes logs ends (kept.Data from count) is = absurd is
whole_kept bytes logs ends (kept.Logs first from count) is = absurd is
whole_kept bytes logs ends (kept.Audited counts) is = tt
whole_kept bytes logs ends (kept.Refused why) is = tt
whole_kept bytes logs ends (kept.Round at) is = absurd is

-- ---- the one at a place
pub kept_at : (bytes logs ends : ℕ) (ks : List Kept) (i : ℕ) (k : Kept) → AreKept bytes logs ends ks → i < length ks → k ≡ get_or ks i k → IsKept bytes logs ends k
kept_at bytes logs ends [] i k are lt is = absurd (omega arith)
kept_at bytes logs ends (x ∷ ks) zero k are lt is = subst (IsKept bytes logs ends) (sym is) are.0
kept_at bytes logs ends (x ∷ ks) (suc i) k are lt is = kept_at bytes logs ends ks i k are.1 (omega arith) is

-- ---- logs' lines
pub length-lines_told : (first : ℕ) (rows : List LogWords) → length (lines_told first rows) ≡ length rows
length-lines_told first [] = refl
length-lines_told first (row ∷ rows) = ap suc (length-lines_told (first + 1) rows)

pub log_at : (first : ℕ) (rows : List LogWords) (i : ℕ) (row : LogWords) (other : LogLine) → i < length rows → get_or (lines_told first rows) i other ≡ line_told (first + i) (get_or rows i row)
log_at first [] i row other lt = absurd (omega arith)
log_at first (x ∷ rows) zero row other lt = ap (λ n. line_told n x) (omega arith)
log_at first (x ∷ rows) (suc i) row other lt = log_at (first + 1) rows i row other (omega arith) ∙ ap (λ n. line_told n (get_or rows i row)) (omega arith)

pub logs_more : (first : ℕ) (rows : List LogWords) (row : LogWords) → lines_told first (rows ++ row ∷ []) ≡ lines_told first rows ++ line_told (first + length rows) row ∷ []
logs_more first [] row = ap (λ n. line_told n row ∷ []) (omega arith)
logs_more first (x ∷ rows) row = ap (λ l. line_told first x ∷ l) (logs_more (first + 1) rows row ∙ ap (λ n. lines_told (first + 1) rows ++ line_told n row ∷ []) (omega arith))

pub none_told : (empty : Bool) (first : ℕ) (rows : List LogWords) → empty ≡ (length rows == 0) → IsTrue empty ↔ (lines_told first rows ≡ [])
none_told empty first [] is = (λ yes. refl, λ none. subst IsTrue (sym is) refl)
none_told empty first (row ∷ rows) is = (λ yes. absurd (false≢true (sym (ne_eqb (length (row ∷ rows)) 0 (λ none. omega (arith, none))) ∙ sym is ∙ yes)), λ some. absurd (cc))

pub length-part : {A : Type 0} (xs : List A) (from count : ℕ) → length (slice_range xs from (from + count)) ≤ count
length-part xs from count = omega (arith, length-take (from + count - from) (drop from xs), min-le_left (from + count - from) (length (drop from xs)))

pub last_one : {A : Type 0} (old new : List A) (one other : A) (at : ℕ) → new ≡ old ++ one ∷ [] → at ≡ length old → get_or new at other ≡ one
last_one old new one other at is end = ap (λ l. get_or l at other) is ∙ get_or_push old one other at (sym end)
