use Rattle.std.proofs.Common.{rules}
use Rattle.array_list.proofs.Slots.{part_is}
use Rattle.array_list.proofs.list.ArrayVec.as_slice.Goals as goal

pub returns : goal.returns
returns g c = record {
  value = part_is c.args.self.now.slots g.row.N c.args.self.now.len c.min.result (search rules) c.min.ensures;
  few = search rules;
}
