use Rattle.std.proofs.Common.{arith, rules}
use Rattle.sheet.proofs.Reading.{begun, read_on, rest_short, unopened, no_bytes, ran_out, size_found, size_unclosed, size_none, size_inside}
use Rattle.sheet.proofs.quote.written_size.Goals as goal
use Rattle.sheet.proofs.quote.written_size.Goals.{then-rest-body-via-then-rest-body, then-rest-body-via-else-rest-body+then-not-starts_with}

pub returns-in_default-clause-value : goal.returns-in_default-clause-value
returns-in_default-clause-value c = unopened c.args.bytes.now (no_bytes c.args.bytes.now c.in_default.len_below)

pub returns-in_default-2-clause-value : goal.returns-in_default-2-clause-value
returns-in_default-2-clause-value c = unopened c.args.bytes.now (search rules)

pub loop-n-init : goal.loop-n-init
loop-n-init c = begun _

pub returns-then-rest-body-clause-value : goal.returns-then-rest-body-clause-value
returns-then-rest-body-clause-value c = elim c.then-rest-body.branch [
  | then-rest-body-via-then-rest-body w ↦
      size_none c.args.bytes.now (search rules) c.loop-n.invariant (search rules) c.in_default-behind_letter.ensures w.if-rest-body.true
  | then-rest-body-via-else-rest-body+then-not-starts_with w ↦
      size_unclosed c.args.bytes.now (search rules) c.loop-n.invariant (search rules) c.in_default-behind_letter.ensures w.if-not-starts_with.ensures.value
]

pub overflow_sub-result : goal.overflow_sub-result
overflow_sub-result c = rest_short c.loop-n.invariant

pub returns-in_default-behind_letter-clause-value :
    goal.returns-in_default-behind_letter-clause-value
returns-in_default-behind_letter-clause-value c =
    size_found c.args.bytes.now (search rules) c.loop-n.invariant (search rules) c.in_default-behind_letter.ensures c.if-not-starts_with.ensures.value c.if-rest-body.false

pub returns-in_default-behind_letter-clause-inside :
    goal.returns-in_default-behind_letter-clause-inside
returns-in_default-behind_letter-clause-inside c = size_inside c.args.bytes.now c.loop-n.rest.now c.if-not-starts_with.ensures.value c.in-34.len_at_least (rest_short c.loop-n.invariant)

pub loop-n-preserved : goal.loop-n-preserved
loop-n-preserved c = read_on c.loop-n.invariant (omega arith) c.in-Some.behind.now c.in-Some.ensures

pub returns-clause-value : goal.returns-clause-value
returns-clause-value c = ran_out c.args.bytes.now (search rules) c.loop-n.invariant (search rules)
