use Rattle.std.proofs.Common.{Some, sym, ◌∙◌, ap, subst}
use Rattle.std.specs.FinMap as map
use Rattle.far_large.specs.Parts.{Stands, Takes}
use Rattle.far_dict.specs.Longs.{Sound, table_of}
use Rattle.far_dict.specs.Names.{Names}
use Rattle.far_dict.proofs.Keeping.{stands, whole_put}
use Rattle.far_dict.proofs.Moves.{gets_new, gets_over, put_new, put_over, put_stands, rests_refused, rests_undone}
use Rattle.far_dict.proofs.Tables.{moved_sound, rests_sound, rests_table}
use Rattle.far_dict.proofs.steps.put.Goals as goal

pub returns-in-Err-clause-sound : goal.returns-in-Err-clause-sound
returns-in-Err-clause-sound g c =
    let far = g.O.Objects.far c.args.parts.now.worker in
    let names = c.args.parts.now.near in
    let mid = g.O.Objects.far c.put.new.worker in
    rests_sound far mid names c.requires.sound (rests_refused far names c.requires.sound mid c.in-Err.ensures.refused)

pub returns-in-Err-clause-refused : goal.returns-in-Err-clause-refused
returns-in-Err-clause-refused g c =
    let far = g.O.Objects.far c.args.parts.now.worker in
    let names = c.args.parts.now.near in
    let mid = g.O.Objects.far c.put.new.worker in
    rests_table far mid names c.requires.sound (rests_refused far names c.requires.sound mid c.in-Err.ensures.refused)

pub let_go-requires : goal.let_go-requires
let_go-requires g c =
    let far = g.O.Objects.far c.args.parts.now.worker in
    let names : Names = c.args.parts.now.near in
    let there = ap (map.get names) (sym c.in-Ok.ensures.items) ∙ sym c.in-Ok-Some.ensures.was ∙ c.in-Ok-Some.field-0-is in
    put_stands far names c.requires.sound (g.O.Objects.far c.put.new.worker) c.args.key.now c.args.value.now c.in-Ok-put.large c.in-Ok-Some.was c.in-Ok-put.ensures.made there

pub let_go-requires-in-Err-insert : goal.let_go-requires-in-Err-insert
let_go-requires-in-Err-insert g c =
    let far = g.O.Objects.far c.args.parts.now.worker in
    let mid = g.O.Objects.far c.put.new.worker in
    subst (λ l. Stands mid l) (sym c.in-Err-insert.ensures.back)
    (stands mid c.in-Ok-put.large (whole_put c.in-Ok-put.large c.args.value.now far mid c.in-Ok-put.ensures.made c.in-Ok-put.ensures.count))

pub returns-in-Ok-None-clause-sound : goal.returns-in-Ok-None-clause-sound
returns-in-Ok-None-clause-sound g c =
    let far = g.O.Objects.far c.args.parts.now.worker in
    let mid = g.O.Objects.far c.put.new.worker in
    let names : Names = c.args.parts.now.near in
    let key = c.args.key.now in
    let large = c.in-Ok-put.large in
    let none = ap (map.get names) (sym c.in-Ok.ensures.items) ∙ sym c.in-Ok-None.ensures.was ∙ c.in-Ok-None.field-0-is in
    let is = c.in-Ok-None.ensures.made ∙ ap (λ k. map.insert names k large) c.in-Ok.ensures.items in
    moved_sound far mid names c.insert.new.self key (Some large) c.requires.sound
    (put_new far names c.requires.sound mid c.insert.new.self key c.args.value.now large c.in-Ok-put.ensures.made c.in-Ok-put.ensures.count is none)

pub returns-in-Ok-None-clause-made : goal.returns-in-Ok-None-clause-made
returns-in-Ok-None-clause-made g c =
    let far = g.O.Objects.far c.args.parts.now.worker in
    let mid = g.O.Objects.far c.put.new.worker in
    let names : Names = c.args.parts.now.near in
    let key = c.args.key.now in
    let large = c.in-Ok-put.large in
    let none = ap (map.get names) (sym c.in-Ok.ensures.items) ∙ sym c.in-Ok-None.ensures.was ∙ c.in-Ok-None.field-0-is in
    let is = c.in-Ok-None.ensures.made ∙ ap (λ k. map.insert names k large) c.in-Ok.ensures.items in
    gets_new far names c.requires.sound mid c.insert.new.self key c.args.value.now large c.in-Ok-put.ensures.made c.in-Ok-put.ensures.count is none

pub returns-in-Ok-Some-clause-sound : goal.returns-in-Ok-Some-clause-sound
returns-in-Ok-Some-clause-sound g c =
    let far = g.O.Objects.far c.args.parts.now.worker in
    let mid = g.O.Objects.far c.put.new.worker in
    let new = g.O.Objects.far c.let_go.new.worker in
    let names : Names = c.args.parts.now.near in
    let key = c.args.key.now in
    let large = c.in-Ok-put.large in
    let there = ap (map.get names) (sym c.in-Ok.ensures.items) ∙ sym c.in-Ok-Some.ensures.was ∙ c.in-Ok-Some.field-0-is in
    let is = c.in-Ok-Some.ensures.made ∙ ap (λ k. map.insert names k large) c.in-Ok.ensures.items in
    moved_sound far new names c.insert.new.self key (Some large) c.requires.sound
    (put_over far names c.requires.sound mid new c.insert.new.self key c.args.value.now large c.in-Ok-Some.was c.in-Ok-put.ensures.made c.in-Ok-put.ensures.count there c.let_go.ensures is)

pub returns-in-Ok-Some-clause-made : goal.returns-in-Ok-Some-clause-made
returns-in-Ok-Some-clause-made g c =
    let far = g.O.Objects.far c.args.parts.now.worker in
    let mid = g.O.Objects.far c.put.new.worker in
    let new = g.O.Objects.far c.let_go.new.worker in
    let names : Names = c.args.parts.now.near in
    let key = c.args.key.now in
    let large = c.in-Ok-put.large in
    let there = ap (map.get names) (sym c.in-Ok.ensures.items) ∙ sym c.in-Ok-Some.ensures.was ∙ c.in-Ok-Some.field-0-is in
    let is = c.in-Ok-Some.ensures.made ∙ ap (λ k. map.insert names k large) c.in-Ok.ensures.items in
    gets_over far names c.requires.sound mid new c.insert.new.self key c.args.value.now large c.in-Ok-Some.was c.in-Ok-put.ensures.made c.in-Ok-put.ensures.count there c.let_go.ensures is

pub returns-in-Err-insert-clause-sound : goal.returns-in-Err-insert-clause-sound
returns-in-Err-insert-clause-sound g c =
    let far = g.O.Objects.far c.args.parts.now.worker in
    let mid = g.O.Objects.far c.put.new.worker in
    let new = g.O.Objects.far c.let_go-in-Err-insert.new.worker in
    let names : Names = c.args.parts.now.near in
    let large = c.in-Ok-put.large in
    let took = subst (λ l. Takes l mid new) c.in-Err-insert.ensures.back c.let_go-in-Err-insert.ensures in
    subst (λ n. Sound new n) (sym c.in-Err-insert.ensures.refused)
    (rests_sound far new names c.requires.sound (rests_undone far names c.requires.sound mid new c.args.value.now large c.in-Ok-put.ensures.made took))

pub returns-in-Err-insert-clause-refused : goal.returns-in-Err-insert-clause-refused
returns-in-Err-insert-clause-refused g c =
    let far = g.O.Objects.far c.args.parts.now.worker in
    let mid = g.O.Objects.far c.put.new.worker in
    let new = g.O.Objects.far c.let_go-in-Err-insert.new.worker in
    let names : Names = c.args.parts.now.near in
    let large = c.in-Ok-put.large in
    let took = subst (λ l. Takes l mid new) c.in-Err-insert.ensures.back c.let_go-in-Err-insert.ensures in
    ap (table_of new) c.in-Err-insert.ensures.refused
    ∙ rests_table far new names c.requires.sound (rests_undone far names c.requires.sound mid new c.args.value.now large c.in-Ok-put.ensures.made took)
