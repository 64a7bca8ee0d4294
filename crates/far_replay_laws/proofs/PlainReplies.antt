-- Each reply of a heap is told in full by its lines.
use Rattle.std.proofs.Common.{◌≡◌, ℕ, zero, suc, ◌+◌, ◌-◌, ◌*◌, ◌<◌, ◌≤◌, nat_lt, not, refl, sym, subst, ap, arith, inl, inr, Option, Some, None, List, [], ◌∷◌, map, length, drop, false}
use Rattle.std.specs.Prelude.{slice_range, All, sum, sum_by}
use Rattle.std.specs.List.{range_with_len, AllByRecursion, AllByRecursion as Each}
use Rattle.std.proofs.Math.Nat.{min-le_left}
use Rattle.std.proofs.lemmas.Bool.{cases_lt, cond_both}
use Rattle.std.proofs.lemmas.Bool.Decides.{nat_tests}
use Rattle.std.proofs.lemmas.List.FromFn.{length-range_with_len}
use Rattle.std.proofs.lemmas.List.Sums.{sum-map, sum_by-cons}
use Rattle.std.proofs.lemmas.List.{get_or_past, length-take}
use Rattle.std.proofs.lemmas.List.Elements.{All-from_recursion}
use Rattle.hex.specs.Hex.{IsBytes}
use Rattle.far_word.specs.declared.refused.Refused.{Refused as Refusal}
use Rattle.far_word.specs.declared.refused.Refused.TheVariants.{Range}
use Rattle.far_word.specs.declared.pointer.PtrWord.{PtrWord}
use Rattle.far_word.specs.declared.pointer.PtrWord.TheVariants.{Near}
use Rattle.far_word.specs.declared.sizes.TheConstants.{CELLS, LOG_BYTES}
use Rattle.far_word.specs.Pointer.{IsPtr, read_of}
use Rattle.far_word.proofs.PointerLaws.{read_says}
use Rattle.far_core.specs.laws.Observed.{live_bytes}
use Rattle.far_events.specs.state.Law.{Law}
use Rattle.far_events.specs.state.State.{State}
use Rattle.far_core.proofs.Observations.{bytes_make_log}
use Rattle.far_book.specs.book.Home.{home_of}
use Rattle.far_evac.specs.MomentLaw.{MomentLaw}
use Rattle.far_replay.specs.Answers.{Answered, Commanded, Served}
use Rattle.far_replay.specs.Commanded.{KeepsFar}
use Rattle.far_replay.proofs.Outcomes.{by_outcome}
use Rattle.far_replay.specs.Audit.{counts_of, lies_near, lies_far, bytes_by_log}
use Rattle.far_text.specs.Command.{Command, New, On, Reads, Views, Where, Drop, Try, Epoch, Logs, Log, Audit, Mutator, Book, Evacuator, Evacuate}
use Rattle.far_replay_laws.specs.Headline.{IsToldInFull, IsLineToldInFull, AreToldInFull, IsRefusalToldInFull}
use Rattle.far_alone.specs.Dereference.{dereferenced}
use Rattle.far_replay.specs.Moment.{Moment, as_if_stored}
use Rattle.far_alone.specs.Objects.{lowest_cell, data_of}
use Rattle.far_reply.specs.declared.reply.LogLine.{LogLine}
use Rattle.far_reply.specs.Reply.{Reply, Audited, Evacuated, Refused}
use Rattle.far_replay.specs.Turn.{causes, refusal, reply_to, unless, turn_reply, log_line, pointer_reply, home_reply}
use Rattle.far_text.specs.Written.{AllWriteBytes, WritesBytes}
use Rattle.far_replay_laws.proofs.AloneNew.{is_structure}
use Rattle.far_alone.proofs.AloneStates.{lowest_own, data_small}
use Rattle.far_alone.proofs.Each.{Each-row}
use Rattle.far_text.proofs.Parts.{range_get}
use Rattle.far_replay.proofs.Lasting.{Lasts, still_lasts, misled_before}
use Rattle.far_replay_laws.proofs.PlainRounds.{filter_shorter, plain_step, plain_step_causes, plain_stop}
use Rattle.far_replay_laws.proofs.Stops.{left_some, stood_so}
use Rattle.far_replay_laws.proofs.Refusals.{EachCause, each_first, among, of_far}
use Rattle.far_replay.proofs.Ways.{new_tests}

-- a pointer is a number of a cell
plain_pointer : (s : State) (m : ℕ) (o : Option ℕ) → Law s → m < s.mutators → lowest_cell s m ≡ o → IsToldInFull (pointer_reply o)
plain_pointer s m None law own e = tt
plain_pointer s m (Some p) law own e = omega (arith, lowest_own s m p e, law.shape.few_mutators, own)

-- a part of an object's bytes is bytes
plain_data : (s : State) (p from len : ℕ) → IsBytes (slice_range (data_of s p) from (from + len))
plain_data s p from len k = elim (cases_lt k len) [
  | inl lt ↦ omega (arith, range_get (data_of s p) from len k lt, data_small s p (from + k))
  | inr past ↦ (
      let most : length (slice_range (data_of s p) from (from + len)) ≤ from + len - from = subst (λ n. n ≤ from + len - from) (sym (length-take (from + len - from) (drop from (data_of s p)))) (min-le_left _ _) in
      omega (arith, get_or_past (slice_range (data_of s p) from (from + len)) k 0 (omega (arith, most))))
]

-- what is told of a log is small
plain_lines : (lines : List LogLine) → Each IsLineToldInFull lines → AreToldInFull lines
plain_lines [] h = tt
plain_lines (line ∷ lines) h = (h.0, plain_lines lines h.1)

plain_line : (now : Moment) → Law now.core → (l : ℕ) → l < now.core.logs → IsLineToldInFull (log_line now l)
plain_line now law l lt =
    let made = bytes_make_log now.core law l in
    record { log = omega (arith, law.shape.few_logs); live = omega (arith, made); dead = omega (arith, made); unused = omega (arith, made) }

plain_logs : (now : Moment) → Law now.core → AreToldInFull (map (log_line now) (range_with_len 0 now.core.logs))
plain_logs now law = plain_lines _ (Each-row IsLineToldInFull (log_line now) 0 now.core.logs (λ l lt. plain_line now law (0 + l) (omega (arith, lt))))

-- a log that isn't refused is one of the heap's
log_inside : (now : Moment) (l : ℕ) → refusal now (Book (Log l)) ≡ None → l < now.core.logs
log_inside now l = cond_both (not (nat_lt l now.core.logs)) (Some Range) None (λ (o : Option Refusal). o ≡ None → l < now.core.logs) (λ _ e. absurd cc) (λ inside _. grind (arith, nat_tests))

-- where an object is: its log and the word in it
plain_home : (o : Option PtrWord) → ((v : PtrWord) → o ≡ Some v → IsPtr v) → IsToldInFull (home_reply (home_of o))
plain_home (Some (Near len ds place marks)) h = let lies : IsPtr (Near len ds place marks) = h (Near len ds place marks) refl in (omega (arith, lies.3), omega (arith, lies.4))
plain_home _ h = tt

-- what an audit counts
live_below : (s : State) → Law s → (a n : ℕ) → sum_by (live_bytes s) (range_with_len a n) ≤ LOG_BYTES * n
live_below s law a zero = omega arith
live_below s law a (suc n) = omega (arith, live_below s law (a + 1) n, sum_by-cons (live_bytes s) a (range_with_len (a + 1) n), bytes_make_log s law a)

plain_counts : (s : State) → Law s → IsToldInFull (Audited (counts_of s))
unfolding counts_of
plain_counts s law =
    let many : length (range_with_len 0 (CELLS * s.mutators)) ≡ CELLS * s.mutators = length-range_with_len 0 (CELLS * s.mutators) in
    let near = filter_shorter (λ p. lies_near (read_of (s.cell p))) (range_with_len 0 (CELLS * s.mutators)) in
    let far = filter_shorter (λ p. lies_far (read_of (s.cell p))) (range_with_len 0 (CELLS * s.mutators)) in
    let live = live_below s law 0 s.logs in
    let all : sum (bytes_by_log s) ≡ sum_by (live_bytes s) (range_with_len 0 s.logs) = sum-map (live_bytes s) (range_with_len 0 s.logs) in
    (omega (arith, near, many, law.shape.few_mutators), omega (arith, far, many, law.shape.few_mutators), omega (arith, live, all, law.shape.few_logs))

-- the word that a cause carries is a cell's, and a log is one that the command names
plain_causes : (now : Moment) (c : Command) → Law now.core → WritesBytes c → EachCause IsRefusalToldInFull (causes now c)
plain_causes now (Mutator m (New len ds)) law bytes = (tt, (tt, (tt, (tt, tt))))
plain_causes now (Mutator m (On p Views)) law bytes = (tt, (tt, (tt, (tt, tt))))
plain_causes now (Mutator m (On p how)) law bytes = (tt, (tt, (tt, (tt, (tt, tt)))))
plain_causes now (Mutator m (Drop p)) law bytes = (tt, (tt, (tt, tt)))
plain_causes now (Mutator m (Try p)) law bytes = (tt, (tt, (tt, ((law.cells.cell_read p).0, tt))))
plain_causes now (Book Logs) law bytes = tt
plain_causes now (Book (Log l)) law bytes = (tt, tt)
plain_causes now (Book Audit) law bytes = tt
plain_causes now (Evacuator step) law bytes = plain_step_causes now law step bytes
plain_causes now _ law bytes = (tt, (tt, tt))

-- the reply of a command that isn't refused
plain_turn : (now : Moment) (c : Command) → Law now.core → MomentLaw now → now.copying ≡ false → refusal now c ≡ None → IsToldInFull (turn_reply now c)
plain_turn now (Mutator m (New len ds)) law moment alone e =
    let parts = new_tests now.core m len ds e in
    plain_pointer now.core m (lowest_cell now.core m) law (is_structure now.core m ds (ap not parts.0)).0 refl
plain_turn now (Mutator m (On p (Reads from len))) law moment alone e = plain_data (dereferenced now.core m p) p from len
plain_turn now (Mutator m (Where p)) law moment alone e = plain_home (read_of (now.core.cell p)) (λ v is. (read_says (now.core.cell p) v (law.cells.cell_read p).0 is).0)
plain_turn now (Mutator m Epoch) law moment alone e = omega (arith, law.scopes.epoch_below)
plain_turn now (Book Logs) law moment alone e = plain_logs now law
plain_turn now (Book (Log l)) law moment alone e = (plain_line now law l (log_inside now l e), tt)
plain_turn now (Book Audit) law moment alone e = plain_counts now.core law
plain_turn now (Evacuator step) law moment alone e = plain_step now law moment alone step e
plain_turn now _ law moment alone e = tt

plain_unless : (now : Moment) (c : Command) (o : Option Refusal) → Law now.core → MomentLaw now → now.copying ≡ false → WritesBytes c → refusal now c ≡ o → IsToldInFull (unless o Refused (turn_reply now c))
plain_unless now c None law moment alone bytes e = plain_turn now c law moment alone e
plain_unless now c (Some why) law moment alone bytes e = among IsRefusalToldInFull (causes now c) why (each_first IsRefusalToldInFull (causes now c) (plain_causes now c law bytes)) e

-- each reply
pub plain_reply : (now : Moment) (c : Command) → Law now.core → MomentLaw now → now.copying ≡ false → WritesBytes c → IsToldInFull (reply_to now c)
plain_reply now c law moment alone bytes = plain_unless now c (refusal now c) law moment alone bytes refl

-- of a command that was served or refused in its midst
far_told : (why : Refusal) → KeepsFar why → IsRefusalToldInFull why
far_told why h = of_far IsRefusalToldInFull why h tt tt

served_plain : (now : Moment) (c : Command) (r : Reply) (next : Moment) → Lasts now → WritesBytes c → Served now c r next → IsToldInFull r
served_plain now c r next lasts bytes h = subst IsToldInFull (sym h.reply) (plain_reply now c lasts.law lasts.round lasts.alone bytes)

outcome_plain : (now : Moment) (c : Command) (r : Reply) (next : Moment) → Lasts now → WritesBytes c → Commanded now c r next → IsToldInFull r
outcome_plain now c r next lasts bytes h = by_outcome now r next (λ d. WritesBytes d → IsToldInFull r)
    (λ d h bytes. served_plain now d r next lasts bytes h)
    (λ why m p how h _. subst IsToldInFull (sym h.reply) (far_told why h.cause))
    (λ why objects count h _. subst IsToldInFull (sym h.reply) (h.cause, served_plain now (Evacuator (Evacuate objects)) (Evacuated h.progress) next lasts tt h.left, h.unfinished))
    (λ why turns objects policy most count h bytes.
    subst IsToldInFull (sym h.reply) (h.cause, plain_stop now lasts.law lasts.round lasts.alone policy most turns h.stood (stood_so now policy most turns h.stood h.turned) objects h.progress next (left_some h.stood objects h.progress next h.left h.unfinished), refl))
    (λ row m p d asks h bytes. served_plain (as_if_stored now p row) d r (as_if_stored next p row) (misled_before row now d p r next lasts h) bytes h.served)
    c h bytes

-- each reply to a list of commands
each_plain : (now : Moment) (cs : List Command) (rs : List Reply) (moments : List Moment) → Lasts now → AllWriteBytes cs → Answered now cs rs moments → AllByRecursion IsToldInFull rs
each_plain now [] [] [] lasts bytes h = tt
each_plain now (c ∷ cs) (r ∷ rs) (next ∷ ms) lasts bytes h =
    (outcome_plain now c r next lasts bytes.0 h.0, each_plain next cs rs ms (still_lasts now c r next lasts bytes.0 h.0) bytes.1 h.1)
each_plain now _ _ _ lasts bytes h = absurd h

pub replies_plain : (now : Moment) (cs : List Command) (rs : List Reply) (moments : List Moment) → Lasts now → AllWriteBytes cs → Answered now cs rs moments → All IsToldInFull rs
replies_plain now cs rs moments lasts bytes h = All-from_recursion IsToldInFull rs (each_plain now cs rs moments lasts bytes h)
