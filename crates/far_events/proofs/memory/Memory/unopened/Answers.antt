use Rattle.std.proofs.Common.{◌≡◌, ◌≤◌, ◌<◌, ◌*◌, ◌/◌, ◌∙◌, ℕ, ap, arith, false, cond, subst, sym, Some, None, rules}
use Rattle.far_word.specs.declared.sizes.TheConstants.{CELLS, LEAST_LOGS, LOG_WORDS, MOST_LOGS, MOST_MUTATORS}
use Rattle.std.specs.Vec.{vec_len}
use Rattle.far_events.specs.declared.event.Kind.TheVariants.{Free}
use Rattle.far_events.specs.state.Memory.{place_in, state_of}
use Rattle.far_events.specs.state.Stored.{stored_by}
use Rattle.far_events.proofs.Stored.{none_ends}
use Rattle.far_events.proofs.Begins.{InRange, in_range, row_of}
use Rattle.far_events.proofs.memory.Memory.unopened.Goals as goal

whole_cells : (n : ℕ) → 64 * (CELLS * n / 64) ≡ CELLS * n
whole_cells n = omega arith

whole_logs : (n : ℕ) → 64 * (LOG_WORDS * n / 64) ≡ LOG_WORDS * n
whole_logs n = omega arith

some_log : (n : ℕ) → LEAST_LOGS ≤ n → 0 < n
some_log n two = omega arith

pub invariant_of-result : goal.invariant_of-result
invariant_of-result c =
    let range : InRange c.args.shape = in_range c.args.shape c.requires in
    let mutators : c.args.shape.mutators ≡ vec_len c.in_ok-vec.field-0 = sym c.in_ok-vec.ensures.len in
    let logs : c.args.shape.logs ≡ vec_len c.in_ok-vec-7.field-0 = sym c.in_ok-vec-7.ensures.len in
    record {
      remembered_sized = c.in_ok-vec-3.ensures.len ∙ mutators;
      kinds_sized = c.in_ok-vec-6.ensures.len ∙ logs;
      current_within = subst (λ n. 0 < n) logs (some_log _ range.two_logs);
      few_logs = subst (λ n. n ≤ MOST_LOGS) logs range.few_logs;
      few_mutators = subst (λ n. n ≤ MOST_MUTATORS) mutators range.few_mutators;
      cells_sized = c.in_ok-vec-2.ensures.len ∙ ap (λ n. CELLS * n) mutators;
      words_sized = c.in_ok-new.ensures.sized ∙ ap (λ n. 8 * (LOG_WORDS * n)) logs;
      starts_sized = ap (λ n. 64 * n) c.in_ok-new-4.ensures.sized ∙ whole_logs c.args.shape.logs ∙ ap (λ n. LOG_WORDS * n) logs;
      used_sized = c.in_ok-vec-4.ensures.len ∙ ap (λ n. CELLS * n) mutators;
      held_sized = ap (λ n. 64 * n) c.in_ok-new-2.ensures.sized ∙ whole_cells c.args.shape.mutators ∙ ap (λ n. CELLS * n) mutators;
      places_sized = c.in_ok-vec-5.ensures.len ∙ ap (λ n. CELLS * n) mutators;
      soiled_sized = ap (λ n. 64 * n) c.in_ok-new-3.ensures.sized ∙ whole_cells c.args.shape.mutators ∙ ap (λ n. CELLS * n) mutators;
      round_sized = c.in_ok-vec-8.ensures.len ∙ logs;
      clear_sized = c.in_ok-vec-9.ensures.len ∙ mutators;
      stored_ends = rw c.new-5.ensures (none_ends (CELLS * vec_len c.in_ok-vec.field-0));
    }

pub returns : goal.returns
unfolding state_of
returns c = λ i. record {
  mutators = c.in_ok-vec.ensures.len i;
  logs = c.in_ok-vec-7.ensures.len i;
  honest = c.args.honest;
  epoch = c.args.shape.epoch;
  scope = λ q. row_of _ _ 0 (c.in_ok-vec.ensures.items_if_clones_equal (λ y e. e)) q i;
  cell = λ q. row_of _ _ 0 (c.in_ok-vec-2.ensures.items_if_clones_equal (λ y e. e)) q i;
  word = c.in_ok-new.ensures.zeros i;
  remembered = λ q. row_of _ _ None (c.in_ok-vec-3.ensures.items_if_clones_equal (λ y e. search rules)) q i;
  used = λ q. row_of _ _ false (c.in_ok-vec-4.ensures.items_if_clones_equal (λ y e. e)) q i;
  held = λ q. cond (c.in_ok-new-2.ensures.clear i q)
      (Some (place_in (row_of _ _ 0 (c.in_ok-vec-5.ensures.items_if_clones_equal (λ y e. e)) q i))) None;
  soiled = c.in_ok-new-3.ensures.clear i;
  kind = λ q. row_of _ _ Free (c.in_ok-vec-6.ensures.items_if_clones_equal (λ y e. search rules)) q i;
  tail = λ q. row_of _ _ 0 (c.in_ok-vec-7.ensures.items_if_clones_equal (λ y e. e)) q i;
  current = 0;
  starts = c.in_ok-new-4.ensures.clear i;
  round = λ q. row_of _ _ false (c.in_ok-vec-8.ensures.items_if_clones_equal (λ y e. e)) q i;
  round_epoch = c.args.shape.epoch;
  clear = λ q. row_of _ _ false (c.in_ok-vec-9.ensures.items_if_clones_equal (λ y e. e)) q i;
  stored = λ p j. stored_by (c.new-5.ensures i) p j;
  copying = c.in_ok-new-5.ensures i;
}
