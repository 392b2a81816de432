use Rattle.std.proofs.Common.{◌≡◌, ◌^◌, ◌<◌, drop}
use Rattle.std.specs.Str.{all_ascii_digits}
use Rattle.sheet.specs.Number.{read_on}
use Rattle.sheet.proofs.number.read_natural.Given as goal

abbrev pub invariant-loop-digit : goal.invariant-loop-digit
invariant-loop-digit l = (read_on l.value (drop l.digit-index l.text) ≡ read_on 0 l.text) × (all_ascii_digits (drop l.digit-index l.text) ≡ all_ascii_digits l.text) × (l.value < 10 ^ l.digit-index)
