use Rattle.sheet.proofs.Locating.{doubled, whole_rest, stands}
use Rattle.sheet.proofs.rest.read_text.Goals as goal

pub invariant_of-result : goal.invariant_of-result
invariant_of-result c = record { is_doubled = doubled c.args.rest.now c.in-Ok.begin c.in-Ok.end c.in-Ok.behind c.in-Ok.ensures.value }

pub returns-in-Ok-clause-value : goal.returns-in-Ok-clause-value
returns-in-Ok-clause-value c = whole_rest c.args.rest.now c.in-Ok.begin c.in-Ok.end c.in-Ok.behind c.in-Ok.ensures.value c.if-behind-rest.true

pub returns-in-Ok-clause-part : goal.returns-in-Ok-clause-part
returns-in-Ok-clause-part c = stands c.args.rest.now c.in-Ok.begin c.in-Ok.end c.in-Ok.behind c.in-Ok.ensures.value
