use Rattle.far_double.proofs.Dropping.{dropped}
use Rattle.far_double.proofs.objects.DoubleObjects.drop_object.Goals as goal

pub returns-clause-dropped : goal.returns-clause-dropped
returns-clause-dropped c = dropped c.args.self.now.0 c.args.self.now.1 c.args.number c.take.new.self c.in-Some._bytes.now c.take.ensures c.in-Some.ensures
