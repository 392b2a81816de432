use Rattle.std.proofs.Common.{length}
use Rattle.sheet.proofs.Outcome.{ReadingOn}
use Rattle.sheet.proofs.sheet.Sheet.take_lines.Given as goal

abbrev pub invariant-loop-section : goal.invariant-loop-section
invariant-loop-section l = ReadingOn l.bytes l.section l.self l.left l.number

abbrev pub decreases-loop-section : goal.decreases-loop-section
decreases-loop-section l = length l.left
