use Rattle.std.proofs.Common.{◌+◌, ◌<◌, length, get_or, sym, arith, length-set, rules}
use Rattle.sheet.proofs.Writing.{opened, wrote_one, wrote_two, answered, some_room, roomy, roomy_one, roomy_two, all_written}
use Rattle.sheet.proofs.quote.put_quoted.Goals as goal
use Rattle.sheet.proofs.quote.put_quoted.Goals.{then-byte-eq-QUOTE, else-byte-eq-QUOTE}

pub loop-byte-init : goal.loop-byte-init
loop-byte-init c = opened c.args.tail.now c.args.text.now (some_room c.args.tail.now c.args.text.now c.in_ok-size.ensures c.if-size-tail.false)

pub bounds-tail-next : goal.bounds-tail-next
bounds-tail-next c =
    let h = roomy_one c.args.tail.now c.args.text.now c.in_ok-size.ensures c.if-size-tail.false c.loop-byte.invariant c.loop-byte-test.true in
    omega (arith, c.loop-byte.auto.tail, length-set c.args.tail.now 0 34)

pub overflow_add-next : goal.overflow_add-next
overflow_add-next c =
    let h = roomy_one c.args.tail.now c.args.text.now c.in_ok-size.ensures c.if-size-tail.false c.loop-byte.invariant c.loop-byte-test.true in
    search rules

pub bounds-tail-next-then-byte-eq-QUOTE : goal.bounds-tail-next-then-byte-eq-QUOTE
bounds-tail-next-then-byte-eq-QUOTE c =
    let h = roomy_two c.args.tail.now c.args.text.now c.in_ok-size.ensures c.if-size-tail.false c.loop-byte.invariant c.loop-byte-test.true c.if-byte-eq-QUOTE.true in
    omega (arith, c.loop-byte.auto.tail, length-set c.args.tail.now 0 34, length-set c.loop-byte.tail c.loop-byte.next (get_or c.args.text.now c.loop-byte.byte-index 0))

pub overflow_add-next-then-byte-eq-QUOTE : goal.overflow_add-next-then-byte-eq-QUOTE
overflow_add-next-then-byte-eq-QUOTE c =
    let h = roomy_two c.args.tail.now c.args.text.now c.in_ok-size.ensures c.if-size-tail.false c.loop-byte.invariant c.loop-byte-test.true c.if-byte-eq-QUOTE.true in
    let k : c.loop-byte.next + 1 + 1 < length c.args.tail.now = omega arith in
    search rules

pub loop-byte-preserved : goal.loop-byte-preserved
loop-byte-preserved c = elim c.if-byte-eq-QUOTE.branch [
  | then-byte-eq-QUOTE w ↦
      let h = roomy_two c.args.tail.now c.args.text.now c.in_ok-size.ensures c.if-size-tail.false c.loop-byte.invariant c.loop-byte-test.true w.if-byte-eq-QUOTE.true in
      wrote_two c.loop-byte.invariant c.loop-byte-test.true w.if-byte-eq-QUOTE.true (omega arith) (search rules) (omega arith)
  | else-byte-eq-QUOTE w ↦
      let h = roomy_one c.args.tail.now c.args.text.now c.in_ok-size.ensures c.if-size-tail.false c.loop-byte.invariant c.loop-byte-test.true in
      wrote_one c.loop-byte.invariant c.loop-byte-test.true w.if-byte-eq-QUOTE.false (omega arith) (search rules) (omega arith)
]

pub bounds-tail-next-2 : goal.bounds-tail-next-2
bounds-tail-next-2 c =
    let h = roomy c.args.tail.now c.args.text.now c.in_ok-size.ensures c.if-size-tail.false c.loop-byte.invariant in
    omega (arith, c.loop-byte.auto.tail, length-set c.args.tail.now 0 34)

pub returns : goal.returns
returns c = record {
  value = sym (answered c.args.tail.now c.args.text.now c.in_ok-size.ensures c.if-size-tail.false);
  change = all_written c.args.tail.now c.args.text.now c.in_ok-size.ensures c.if-size-tail.false c.loop-byte.invariant c.loop-byte-test.false;
}
