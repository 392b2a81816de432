use Rattle.std.proofs.Common.{rules, ℕ, List, Bor, arith}
use Rattle.std.proofs.lemmas.Bool.Decides.{nat_tests}
use Rattle.std.proofs.lemmas.List.Folds.{length-flat_map-take}
use Rattle.lines.proofs.Laying.{no_part, more_laid, joined_more}
use Rattle.lines.proofs.line.write_parts.Goals as goal

pub returns-then-size_of-tail : goal.returns-then-size_of-tail
returns-then-size_of-tail c = record {
  value = grind (arith, nat_tests);
  change = search rules;
}

pub put-end-requires : goal.put-end-requires
put-end-requires c = omega (arith, length-flat_map-take (λ (part : Bor (List ℕ)). part.now) c.args.parts.now c.loop-part.part-index no_part c.loop-part-test.true)

pub loop-part-preserved : goal.loop-part-preserved
loop-part-preserved c =
    rw (← joined_more c.args.parts.now c.loop-part.part-index c.loop-part-test.true)
    (more_laid c.loop-part.invariant _ c.put-end.ensures.change c.put-end.ensures.value)
