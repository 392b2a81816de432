use Rattle.std.proofs.Common.{◌≡◌, map, take}
use Rattle.std.specs.Int.{w32, from_le_bytes}
use Rattle.array_list.specs.Items.{items}
use Rattle.image.proofs.bytes.words_of.Given as goal

abbrev pub invariant-loop-part : goal.invariant-loop-part
invariant-loop-part l = items l.words ≡ map (from_le_bytes w32) (take l.part-index l.parts)
