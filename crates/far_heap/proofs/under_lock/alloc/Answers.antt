use Rattle.std.proofs.Common.{◌≡◌, ◌≢◌, ◌∙◌, ◌/◌, ◌<◌, ℕ, Ok, Err, true, ap, arith, refl, subst, sym}
use Rattle.std.specs.Prelude.{Result, is_ok}
use Rattle.std.proofs.lemmas.Bool.{eq-eqb, false_from_ne_true, true≢false}
use Rattle.far_word.specs.declared.refused.Refused.{Refused}
use Rattle.far_word.specs.declared.refused.Refused.TheVariants as refused
use Rattle.far_word.specs.declared.sizes.TheConstants.{CELLS}
use Rattle.far_heap.specs.Mine.{HasLeft, IsRefusedNew, Mine, UsesAll, adopting, is_length, uses}
use Rattle.far_heap.specs.BookHad.{BookDid, BookHad, HasRoom, LacksRoom, NoneFree, Places}
use Rattle.far_heap.proofs.Refusals.{length_allowed, length_within}
use Rattle.far_heap.proofs.under_lock.alloc.Goals.{then-len-eq0-via-then-len-eq0, then-len-eq0-via-else-len-eq0+then-len-gt-LONGEST}
use Rattle.far_heap.proofs.under_lock.alloc.Goals as goal

-- ---- one answer isn't another
made_isnt : (p : ℕ) (why : Refused) → Ok p ≡ Err why → ⊥
made_isnt p why e = true≢false (ap is_ok e)

why_is : (x y : Refused) (r : Result ℕ Refused) → r ≡ Err x → r ≡ Err y → x ≡ y
why_is x y r e f = cc

length_isnt_pointer : refused.Length ≡ refused.NoPointer → ⊥
length_isnt_pointer e = cc

length_isnt_room : refused.Length ≡ refused.NoRoom → ⊥
length_isnt_room e = cc

above : (n : ℕ) → n ≢ 0 → 0 < n
above n some = omega arith

pub returns-then-len-eq0 : goal.returns-then-len-eq0
returns-then-len-eq0 g c =
    let never : is_length c.args.len ≡ true → ⊥ = λ ok.
    let within = length_within c.args.len ok in
    elim c.then-len-eq0.branch [
      | then-len-eq0-via-then-len-eq0 w ↦ omega (arith, within.0, w.if-len-eq0.true)
      | then-len-eq0-via-else-len-eq0+then-len-gt-LONGEST w ↦ omega (arith, within.1, w.if-len-gt-LONGEST.true)
    ] in
    record {
      made = tt;
      had = tt;
      did = λ ok. absurd (never ok);
      refused = (subst (λ b. IsRefusedNew b refused.Length) (sym (false_from_ne_true (is_length c.args.len) never)) refl, refl);
      none = λ e. absurd (length_isnt_pointer (why_is _ _ (Err refused.Length) refl e));
      full = λ e. absurd (length_isnt_room (why_is _ _ (Err refused.Length) refl e));
      all = λ e. absurd (length_isnt_pointer (why_is _ _ (Err refused.Length) refl e));
      left = λ e. absurd (length_isnt_room (why_is _ _ (Err refused.Length) refl e));
    }

pub loop-init : goal.loop-init
loop-init g c = (tt, tt, refl)

-- ---- what is asked of what is called
pub place-placed-requires-clause-one : goal.place-placed-requires-clause-one
place-placed-requires-clause-one g c = subst (λ (n : ℕ). n < g.K.HeapName.heap.mutators) (sym (c.number.ensures ∙ ap (λ (m : Mine). m.number) c.loop.invariant.2)) c.requires.one

pub place-placed-requires-clause-some : goal.place-placed-requires-clause-some
place-placed-requires-clause-some g c = above c.args.len c.if-len-eq0.false

pub place-placed-requires-clause-most : goal.place-placed-requires-clause-most
place-placed-requires-clause-most g c = c.if-len-gt-LONGEST.false

pub adopt_new-requires : goal.adopt_new-requires
adopt_new-requires g c = eq-eqb (c.in-Ok.p / CELLS) c.loop.own.number (c.in-Ok.ensures.own ∙ c.number.ensures)

pub returns-then-adopt_new : goal.returns-then-adopt_new
returns-then-adopt_new g c =
    let p : ℕ = c.in-Ok.p in
    let same = c.loop.invariant.2 in
    let number = c.number.ensures ∙ ap (λ (m : Mine). m.number) same in
    let adopted = c.adopt_new.ensures.adopted c.if-adopt_new.true in record {
      made = (
        length_allowed c.args.len (above c.args.len c.if-len-eq0.false) c.if-len-gt-LONGEST.false,
        eq-eqb (p / CELLS) c.args.own.now.number (c.in-Ok.ensures.own ∙ number),
        ap (λ (m : Mine). uses m p) (sym same) ∙ adopted.0,
        adopted.1 ∙ ap (adopting p c.args.len c.args.ds) same,
      );
      had = subst (λ (n : ℕ). BookHad g.row.D.Denot g.K.HeapName.heap (HasRoom n c.args.len p)) number c.in-Ok.ensures.had;
      did = λ _. subst (λ (n : ℕ). BookDid g.row.D.Denot g.K.HeapName.heap (Places n c.args.len c.args.ds (Ok p))) number c.in-Ok.ensures.did;
      refused = tt;
      none = λ e. absurd (made_isnt p refused.NoPointer e);
      full = λ e. absurd (made_isnt p refused.NoRoom e);
      all = λ e. absurd (made_isnt p refused.NoPointer e);
      left = λ e. absurd (made_isnt p refused.NoRoom e);
    }

pub loop-preserved-else-adopt_new : goal.loop-preserved-else-adopt_new
loop-preserved-else-adopt_new g c = (tt, tt, c.adopt_new.ensures.kept c.if-adopt_new.false ∙ c.loop.invariant.2)

pub returns-then-bears_out : goal.returns-then-bears_out
returns-then-bears_out g c =
    let same = c.loop.invariant.2 in
    let number = c.number.ensures ∙ ap (λ (m : Mine). m.number) same in
    let allowed = length_allowed c.args.len (above c.args.len c.if-len-eq0.false) c.if-len-gt-LONGEST.false in record {
      made = tt;
      had = tt;
      did = λ _. subst (λ (n : ℕ). BookDid g.row.D.Denot g.K.HeapName.heap (Places n c.args.len c.args.ds (Err c.in-Err.why))) number c.in-Err.ensures.did;
      refused = (subst (λ b. IsRefusedNew b c.in-Err.why) (sym allowed) c.in-Err.ensures.refused, same);
      none = λ e. subst (λ (n : ℕ). BookHad g.row.D.Denot g.K.HeapName.heap (NoneFree n)) number (c.in-Err.ensures.none e);
      full = λ e. subst (λ (n : ℕ). BookHad g.row.D.Denot g.K.HeapName.heap (LacksRoom n c.args.len)) number (c.in-Err.ensures.full e);
      all = λ e. subst UsesAll same (c.bears_out.ensures.all c.if-bears_out.true (why_is _ _ (Err c.in-Err.why) refl e));
      left = λ e. subst HasLeft same (c.bears_out.ensures.left c.if-bears_out.true (why_is _ _ (Err c.in-Err.why) refl e));
    }

pub loop-preserved : goal.loop-preserved
loop-preserved g c = (tt, tt, c.loop.invariant.2)
