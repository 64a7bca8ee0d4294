use Rattle.far_book.proofs.book.Book.logs_are_whole.Goals as goal
use Rattle.far_core.proofs.LiveLaws.{live_bytes_are, live_is}
use Rattle.far_book.proofs.region.Whole as whole

pub returns-clause-sum : goal.returns-clause-sum
returns-clause-sum g c = whole.bytes_make_log (g.N.Near.view c.args.self.now.near) c.keeps_law.ensures.law

pub returns-clause-one : goal.returns-clause-one
returns-clause-one g c = whole.has_one_place (g.N.Near.view c.args.self.now.near) c.keeps_law.ensures.law

pub returns-clause-near : goal.returns-clause-near
returns-clause-near g c = whole.near_has_one_live (g.N.Near.view c.args.self.now.near) c.keeps_law.ensures.law

pub returns-clause-once : goal.returns-clause-once
returns-clause-once g c = whole.names_once (g.N.Near.view c.args.self.now.near) c.keeps_law.ensures.law

pub returns-clause-walk : goal.returns-clause-walk
returns-clause-walk g c = whole.walks (g.N.Near.view c.args.self.now.near) c.keeps_law.ensures.law

pub returns-clause-pointers : goal.returns-clause-pointers
returns-clause-pointers g c = whole.of_heap (g.N.Near.view c.args.self.now.near) c.keeps_law.ensures.law

pub returns-clause-placed : goal.returns-clause-placed
returns-clause-placed g c = whole.placed_exactly (g.N.Near.view c.args.self.now.near) c.keeps_law.ensures.law

pub returns-clause-stand : goal.returns-clause-stand
returns-clause-stand g c = whole.logs_stand (g.N.Near.view c.args.self.now.near) c.keeps_law.ensures.law

pub returns-clause-room : goal.returns-clause-room
returns-clause-room g c = whole.room_is_right (g.N.Near.view c.args.self.now.near) c.keeps_law.ensures.law

pub returns-clause-live : goal.returns-clause-live
returns-clause-live g c = live_is (g.N.Near.view c.args.self.now.near)

pub returns-clause-bytes : goal.returns-clause-bytes
returns-clause-bytes g c = live_bytes_are (g.N.Near.view c.args.self.now.near)
