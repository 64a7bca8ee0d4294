use Rattle.std.proofs.Common.{List, ℕ, sym, subst, set, length, ◌+◌, ◌*◌, ◌∙◌}
use Rattle.far_packed.specs.Blocks.{Appends, table}
use Rattle.far_packed.proofs.Tables.{appends}
use Rattle.far_packed.proofs.near.append.Goals as goal

pub returns-clause-made : goal.returns-clause-made
returns-clause-made c =
    let t = table c.args.near.now in
    let q = c.requires in
    let number : ℕ = t.current * 8 + t.used in
    let bytes : List ℕ = c.args.bytes.now in
    let all : List ℕ = c.extend_from_slice.new.self.items in
    subst (λ (from : ℕ). Appends number bytes t record { slots = set t.slots number record { from = from; len = length bytes }; places = t.places; current = t.current; used = t.used + 1; buffer = all }) (sym (c.len-from.ensures ∙ c.args.near.now.buffer.ok.0))
    (subst (λ (all : List ℕ). Appends number bytes t record { slots = set t.slots number record { from = length t.buffer; len = length bytes }; places = t.places; current = t.current; used = t.used + 1; buffer = all }) (sym c.in-Ok.ensures.items)
    (appends t q.shaped bytes q.some q.room))
