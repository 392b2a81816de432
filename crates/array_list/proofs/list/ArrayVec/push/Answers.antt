use Rattle.std.proofs.Common.{rules}
use Rattle.array_list.proofs.Slots.{push_taken, push_left, room_taken}
use Rattle.array_list.proofs.list.ArrayVec.push.Goals as goal

pub returns-then-self-slots : goal.returns-then-self-slots
returns-then-self-slots g c =
    let all = push_taken c.args.self.now.slots g.row.N _ _ (search rules) (search rules) in
    record { value = all; room = room_taken g.row.N _ _ all }

pub returns-else-self-slots : goal.returns-else-self-slots
returns-else-self-slots g c =
    let all = push_left c.args.self.now.slots g.row.N _ _ (search rules) (search rules) in
    record { value = all; room = room_taken g.row.N _ _ all }
