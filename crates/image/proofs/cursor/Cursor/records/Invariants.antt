use Rattle.array_list.specs.Items.{items}
use Rattle.image.proofs.Reading.{Turn}
use Rattle.image.proofs.cursor.Cursor.records.Given as goal

abbrev pub invariant-loop-i : goal.invariant-loop-i
invariant-loop-i g l = Turn g.T.Record.reader g.T.Record.left g.T.Record.seen l.count l.fn.self (items l.records) l._i l.self
