use Rattle.std.proofs.Common.{length, get_or, sym, refl, ap, ◌∙◌, arith, rules}
use Rattle.sheet.proofs.Letters.{one, two}
use Rattle.sheet.proofs.Writing.{counted, uncounted, all_counted}
use Rattle.sheet.proofs.quote.quoted_size.Goals as goal
use Rattle.sheet.proofs.quote.quoted_size.Goals.{then-byte-eq-QUOTE, else-byte-eq-QUOTE}

pub returns-then-not-is_printable : goal.returns-then-not-is_printable
returns-then-not-is_printable c =
    sym (uncounted c.loop-byte.invariant c.loop-byte-test.true (sym c.is_printable.ensures ∙ c.if-not-is_printable.true))

pub loop-byte-init : goal.loop-byte-init
loop-byte-init c = record { sum = refl; clean = refl; small = omega arith }

pub loop-byte-preserved : goal.loop-byte-preserved
loop-byte-preserved c =
    let clean = sym c.is_printable.ensures ∙ c.if-not-is_printable.false in
    let byte = get_or c.args.text.now c.loop-byte.byte-index 0 in
    elim c.if-byte-eq-QUOTE.branch [
      | then-byte-eq-QUOTE w ↦ counted c.loop-byte.invariant c.loop-byte-test.true 2 (omega arith) clean (ap length (two byte w.if-byte-eq-QUOTE.true)) (omega (arith, w.size-is))
      | else-byte-eq-QUOTE w ↦ counted c.loop-byte.invariant c.loop-byte-test.true 1 (omega arith) clean (ap length (one byte w.if-byte-eq-QUOTE.false)) (omega (arith, w.size-is))
    ]

pub returns : goal.returns
returns c = sym (all_counted c.loop-byte.invariant c.loop-byte-test.false (search rules) (search rules))
