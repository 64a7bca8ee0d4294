-- An object that was taken over and dropped at once.
use Rattle.std.proofs.Common.{◌≡◌, ℕ, ◌%◌, Bool, true, false, Option, Some, None, is_some, List, length, get_or, set, refl, sym, ap, ◌∙◌}
use Rattle.std.proofs.lemmas.Bool.{false≢true}
use Rattle.std.proofs.lemmas.List.{set-get_or, set-set}
use Rattle.far_word.specs.declared.sizes.TheConstants.{CELLS}
use Rattle.far_heap.specs.Mine.{Mine, Object, adopting, dropping, object_of, owns, uses, zeros_known}
use Rattle.far_heap.proofs.Calls.{there}
use Rattle.far_heap.proofs.Mines.{none_there}

pub undone : (m : Mine) (p n t : ℕ) → owns m p ≡ true → uses m p ≡ false → dropping p (adopting p n t m) ≡ m
undone m p n t own unused =
    let i : ℕ = p % CELLS in
    let x : Option Object = Some record { len = n; ds = t; bytes = zeros_known m.honest n } in
    let here : get_or m.objects i None ≡ None = sym (rw own refl) ∙ none_there (object_of m p) unused in
    ap (λ (row : List (Option Object)). record m { objects = row }) (set-set m.objects i x None ∙ ap (set m.objects i) (sym here) ∙ set-get_or m.objects i None)

pub adopted_used : (m : Mine) → length m.objects ≡ CELLS → (p n t : ℕ) → owns m p ≡ true → uses (adopting p n t m) p ≡ true
adopted_used m many p n t own = ap is_some (there m many p own (Some record { len = n; ds = t; bytes = zeros_known m.honest n }))

pub unviewed : (v u : Bool) → (v ≡ true → u ≡ true) → u ≡ false → v ≡ false
unviewed true u f e = absurd (false≢true (sym e ∙ f refl))
unviewed false u f e = refl
