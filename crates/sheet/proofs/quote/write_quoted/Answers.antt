use Rattle.sheet.proofs.Trips.{reads_back}
use Rattle.sheet.proofs.quote.write_quoted.Goals as goal

pub returns-clause-back : goal.returns-clause-back
returns-clause-back c = reads_back c.put_quoted.result c.args.tail.now c.put_quoted.new.tail c.args.text.now c.put_quoted.ensures.value c.put_quoted.ensures.change
