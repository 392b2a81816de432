use Rattle.std.proofs.Common.{drop}
use Rattle.sheet.proofs.Trips.{accepted, rewrites}
use Rattle.sheet.proofs.quote.read_quoted.Goals as goal

pub returns-clause-exactly : goal.returns-clause-exactly
returns-clause-exactly c = accepted (drop c.args.at c.args.bytes.now)

pub returns-clause-again : goal.returns-clause-again
returns-clause-again c = rewrites c.args.bytes.now c.args.at c.scan_quoted.result c.scan_quoted.ensures
