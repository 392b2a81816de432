use Rattle.image.proofs.Formatting.{accepts_exactly}
use Rattle.image.proofs.Cutting.{record_ends}
use Rattle.image.proofs.image.layout.read.Goals as goal

pub returns-clause-exactly : goal.returns-clause-exactly
returns-clause-exactly c = accepts_exactly c.args.words.now

pub returns-clause-ends : goal.returns-clause-ends
returns-clause-ends c = record_ends c.args.words.now
