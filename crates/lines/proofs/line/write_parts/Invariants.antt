use Rattle.std.proofs.Common.{take}
use Rattle.lines.proofs.Laying.{Laid}
use Rattle.lines.specs.Lines.{joined}
use Rattle.lines.proofs.line.write_parts.Given as goal

abbrev pub invariant-loop-part : goal.invariant-loop-part
invariant-loop-part l = Laid l.initial.tail (joined (take l.part-index l.parts)) l.tail l.end
