-- What falls is the number of nodes nearer to the key.
use Rattle.model.specs.Words.{decode}
use Rattle.model.specs.Route.{nearer_than}
use Rattle.call_route.proofs.+walk.Given as goal

abbrev pub decreases-walk : goal.decreases-walk
decreases-walk l = nearer_than (decode l.words.now) l.key.0 l.x.0
