-- What was put last is there.
use Rattle.std.proofs.Common.{◌≡◌, ℕ, cond, Option, Some, None, List, [], ◌∷◌, sym, ◌∙◌, ap}
use Rattle.std.specs.Ordering.{nat_cmp}
use Rattle.std.specs.Cmp.Lexicographic.{nat_list_cmp_total, slice_cmp, texts_ties}
use Rattle.std.specs.FinMap as map
use Rattle.std.specs.Str.{bytes_eq}
use Rattle.far_map.specs.Laws.{Calls, called, after, given_last}
use Rattle.far_map.specs.Table.{Entries}

stepped : (m : Entries) (key : List ℕ) (o : Option (List ℕ)) (q : List ℕ) → map.get (called m key o) q ≡ cond (bytes_eq q key) o (map.get m q)
stepped m key (Some value) q = map.get-insert nat_list_cmp_total m key value q ∙ ap (λ t. cond t (Some value) (map.get m q)) (sym (texts_ties q key))
stepped m key None q = map.get-remove nat_list_cmp_total m key q ∙ ap (λ t. cond t None (map.get m q)) (sym (texts_ties q key))

pub put_last : (calls : Calls) (key : List ℕ) → map.get (after calls) key ≡ given_last key calls
put_last [] key = map.get-empty (slice_cmp nat_cmp) key
put_last (c ∷ calls) key = stepped (after calls) c.0 c.1 key ∙ ap (cond (bytes_eq key c.0) c.1) (put_last calls key)
