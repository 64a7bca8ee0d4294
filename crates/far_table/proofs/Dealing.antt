-- How the book's first seat gives each of the others its own.
use Rattle.std.proofs.Common.{◌≡◌, ℕ, suc, ◌+◌, ◌-◌, ◌<◌, Bool, List, [], ◌∷◌, ◌++◌, map, set, sym, ap, ◌∙◌, subst, arith, append_assoc}
use Rattle.std.specs.List.{range_with_len}
use mathlib.Core.Option.{some}
use mathlib.Core.List.{map-append}
use lib.ListN.{get_elem?}
use Rattle.atomic_table.specs.Table.{State as Table, Splits}
use Rattle.far_events.specs.state.State.{State}
use Rattle.far_table.specs.View.{BookView, Role, View, Book, Copier, Owner, AsCopier, AsOwner, seat_of}
use Rattle.far_table.specs.First.{first_book, first_copier, first_owner, first_owners, unseated, waiting}
use Rattle.far_table.specs.Rule.{Facts, Running}
use Rattle.far_table.specs.Tells.{owner_of}
use Rattle.far_table.proofs.Begins.{other_rest}
use Rattle.far_table.proofs.Roles.{book_place}
use Rattle.far_table.specs.Stands.{first_rest, left_of, others_rest, right_of}

module _ {S : Type 0} where
  deals_at : (id : ℕ) (b : BookView) (role : Role) (rest : List Role) → b.rest ≡ role ∷ rest → (s : Table S View) → Running s → get_elem? s.views id ≡ some (Book b) →
      Running record { words = s.words; homes = s.homes; views = set s.views id (Book (record b { rest = rest })) ++ seat_of role ∷ [] }
  deals_at id b role rest more s r at =
      let c : BookView = record b { rest = rest } in
      let p = book_place r.book r.dealt id b (subst (λ l. get_elem? l id ≡ some (Book b)) r.views at) in record {
        book = c;
        others = r.others;
        dealt = r.dealt ++ role ∷ [];
        views = ap (λ l. set l id (Book c) ++ seat_of role ∷ []) r.views
            ∙ (ap (λ j. set (Book r.book ∷ map seat_of r.dealt) j (Book c) ++ seat_of role ∷ []) p.0 ∙ ap (λ l. Book c ∷ l) (sym (map-append seat_of r.dealt (role ∷ []))));
        all = append_assoc r.dealt (role ∷ []) rest ∙ (ap (λ l. r.dealt ++ l) (sym more ∙ ap (λ (z : BookView). z.rest) (sym p.1)) ∙ r.all);
        facts = other_rest s.words b r.others rest (subst (λ z. Facts s.words z r.others) p.1 r.facts);
      }

  pub deals : (id : ℕ) (v : View) (b : BookView) (role : Role) (rest : List Role) → v ≡ Book b → b.rest ≡ role ∷ rest → Splits {S = S} Running id v (left_of v) (right_of v)
  deals id v b role rest is more s r at = subst (λ z. Running record { words = s.words; homes = s.homes; views = set s.views id (left_of z) ++ right_of z ∷ [] }) (sym is)
      (subst (λ l. Running record { words = s.words; homes = s.homes; views = set s.views id (Book (record b { rest = others_rest l })) ++ first_rest l ∷ [] }) (sym more)
      (deals_at id b role rest more s r (at ∙ ap some is)))

-- ---- one after the other
one_less : (n m : ℕ) → n < m → m - n ≡ suc (m - (n + 1))
one_less n m small = omega arith

module _ (s : State) (honest : Bool) (n m : ℕ) (small : n < m) where
  pub next_waits : (waiting s honest n (m - n)).rest ≡ AsOwner (first_owner s honest n) ∷ (waiting s honest (n + 1) (m - (n + 1))).rest
  next_waits = ap (λ k. map AsOwner (map (first_owner s honest) (range_with_len n k))) (one_less n m small)

  pub left_waits : left_of (Book (waiting s honest n (m - n))) ≡ Book (waiting s honest (n + 1) (m - (n + 1)))
  left_waits = ap (λ l. Book (record (first_book s honest) { rest = others_rest l })) next_waits

  pub right_waits : right_of (Book (waiting s honest n (m - n))) ≡ Owner (first_owner s honest n)
  right_waits = ap first_rest next_waits

  -- the same of copiers
  pub next_unseated : (unseated s honest n (m - n)).rest ≡ AsCopier (first_copier s n) ∷ (unseated s honest (n + 1) (m - (n + 1))).rest
  next_unseated = ap (λ k. map AsCopier (map (first_copier s) (range_with_len n k)) ++ map AsOwner (first_owners s honest)) (one_less n m small)

  pub left_unseated : left_of (Book (unseated s honest n (m - n))) ≡ Book (unseated s honest (n + 1) (m - (n + 1)))
  left_unseated = ap (λ l. Book (record (first_book s honest) { rest = others_rest l })) next_unseated

  pub right_unseated : right_of (Book (unseated s honest n (m - n))) ≡ Copier (first_copier s n)
  right_unseated = ap first_rest next_unseated

-- the seat that an owner got says itself whether the far side is honest
pub own_honest : (s : State) (honest : Bool) (n : ℕ) (v : View) → v ≡ Owner (first_owner s honest n) → v ≡ Owner (first_owner s (owner_of v).honest n)
own_honest s honest n v is = is ∙ ap (λ b. Owner (first_owner s b n)) (sym (ap (λ z. (owner_of z).honest) is))
