use Rattle.far_map.specs.Plain.{plain}
use Rattle.far_map.proofs.Rewriting.{entries_over, honest_over, sound_over, table_over}
use Rattle.far_map.proofs.puts.rewrite.Goals as goal

pub returns-clause-sound : goal.returns-clause-sound
returns-clause-sound g c =
    sound_over (plain (g.O.Objects.far c.args.parts.now.worker) c.args.parts.now.near) (g.O.Objects.far c.write.new.self) c.args.at.place c.args.tag c.args.at.number c.args.key.now c.args.value.now
    c.requires.sound (g.met.O.Objects.known c.args.parts.now.worker) c.requires.stands.slot c.requires.long c.requires.more c.requires.has c.write.result c.write.ensures.written c.write.ensures.refused

pub returns-clause-honest : goal.returns-clause-honest
returns-clause-honest g c =
    honest_over (plain (g.O.Objects.far c.args.parts.now.worker) c.args.parts.now.near) (g.O.Objects.far c.write.new.self) c.args.at.place c.args.tag c.args.at.number c.args.key.now c.args.value.now
    c.requires.sound (g.met.O.Objects.known c.args.parts.now.worker) c.requires.stands.slot c.requires.long c.requires.more c.requires.has c.write.result c.write.ensures.written c.write.ensures.refused

pub returns-clause-ok : goal.returns-clause-ok
returns-clause-ok g c = λ o.
    entries_over (plain (g.O.Objects.far c.args.parts.now.worker) c.args.parts.now.near) (g.O.Objects.far c.write.new.self) c.args.at.place c.args.tag c.args.at.number c.args.key.now c.args.value.now
    c.requires.sound (g.met.O.Objects.known c.args.parts.now.worker) c.requires.stands.slot c.requires.long c.requires.more c.requires.has c.write.result c.write.ensures.written o

pub returns-clause-err : goal.returns-clause-err
returns-clause-err g c =
    table_over (plain (g.O.Objects.far c.args.parts.now.worker) c.args.parts.now.near) (g.O.Objects.far c.write.new.self) c.args.at.place c.args.tag c.args.at.number c.args.key.now c.args.value.now
    c.write.result c.write.ensures.refused
