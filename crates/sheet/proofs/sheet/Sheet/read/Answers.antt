use Rattle.std.proofs.Common.{Ok, rules}
use Rattle.sheet.proofs.Again.{read_again, written_well}
use Rattle.sheet.proofs.Formatting.{accepts_exactly}
use Rattle.sheet.proofs.sheet.Sheet.read.Goals as goal

pub returns-in-Err-clause-exactly : goal.returns-in-Err-clause-exactly
returns-in-Err-clause-exactly c = accepts_exactly c.args.bytes.now

pub returns-clause-exactly : goal.returns-clause-exactly
returns-clause-exactly c = accepts_exactly c.args.bytes.now

pub returns-clause-well : goal.returns-clause-well
returns-clause-well c = written_well (Ok c.take_lines.new.self)

pub returns-clause-again : goal.returns-clause-again
returns-clause-again c = read_again c.args.bytes.now (Ok c.take_lines.new.self) (search rules)
