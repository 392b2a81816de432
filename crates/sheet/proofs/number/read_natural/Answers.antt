use Rattle.std.proofs.Common.{◌≤◌, ◌+◌, ◌*◌, ◌&&◌, length, get_or, drop, sym, ap, ◌∙◌, inl, inr, arith, rules}
use Rattle.std.specs.Str.{all_ascii_digits}
use Rattle.std.proofs.lemmas.List.{at_drop_more}
use Rattle.std.proofs.lemmas.Bool.{and_left}
use Rattle.sheet.specs.Number.{read_on}
use Rattle.sheet.proofs.Decimal.{digit_most, digits_drop, unclean, more_digits, read_all}
use Rattle.sheet.proofs.number.read_natural.Goals as goal

pub returns-then-not-is_ascii_digit : goal.returns-then-not-is_ascii_digit
returns-then-not-is_ascii_digit c =
    sym (unclean c.args.text.now (sym c.loop-digit.invariant.1 ∙ digits_drop c.args.text.now c.loop-digit.digit-index c.loop-digit-test.true
    ∙ and_left _ _ (sym c.if-not-is_ascii_digit.ensures.value)))

pub loop-digit-preserved : goal.loop-digit-preserved
loop-digit-preserved c =
    let text = c.args.text.now in
    let i = c.loop-digit.digit-index in
    let digit = sym c.if-not-is_ascii_digit.ensures.value in (
      ap (λ d. read_on (c.loop-digit.value * 10 + d) (drop (i + 1) text)) c.from.ensures ∙ sym (at_drop_more (read_on c.loop-digit.value) text i 0 c.loop-digit-test.true) ∙ c.loop-digit.invariant.0,
      sym (digits_drop text i c.loop-digit-test.true ∙ ap (λ b. b && all_ascii_digits (drop (i + 1) text)) digit) ∙ c.loop-digit.invariant.1,
      more_digits c.loop-digit.value i c.from.result c.loop-digit.invariant.2 (omega (arith, digit_most (get_or text i 0) digit, c.from.ensures)),
    )

pub returns : goal.returns
returns c =
    let some : 1 ≤ length c.args.text.now = search rules in
    sym (read_all c.args.text.now c.loop-digit.digit-index c.loop-digit.value (search rules) c.loop-digit.invariant.0 c.loop-digit.invariant.1 some (search rules)
    (λ e. elim c.else-text-eq-ZERO.either [ inl one ↦ omega (arith, one.1) | inr other ↦ absurd (other e) ]))
