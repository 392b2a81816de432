use Rattle.std.proofs.Common.{◌≡◌, ℕ, Some, None, Ok, sym, ◌∙◌, ap, arith, rules}
use Rattle.std.proofs.lemmas.Result.{err_from_is_err_and, MatchResult-weaker, IfOk-at_ok}
use Rattle.sheet.specs.Sections.{moved}
use Rattle.sheet.specs.View.{view}
use Rattle.sheet.proofs.Outcome.{nothing_read, some_of, none_of, err_of, ok_of, stopped_headless, stopped_at, one_read, part_read, shorter}
use Rattle.sheet.proofs.sheet.Sheet.take_lines.Goals as goal

pub loop-section-init : goal.loop-section-init
loop-section-init c = nothing_read c.args.bytes.now c.args.self.now c.requires.says c.requires.style c.requires.names

pub returns-in_err-line-clause-value : goal.returns-in_err-line-clause-value
returns-in_err-line-clause-value c =
    let p = err_from_is_err_and c.from_residual.result c.from_residual.ensures.1 in
    let missing : c.first.result ≡ None = grind arith in
    let stopped = stopped_headless c.loop-section.invariant (sym c.is_last.ensures ∙ c.loop-section-test.true) (none_of c.loop-section.left.now missing c.first.ensures) in
    let at : c.in_err-line.field-0.0 ≡ c.at.result = grind arith in
    rw (p.1, p.2, at, c.at.ensures) stopped

pub returns-in_err-section-clause-value : goal.returns-in_err-section-clause-value
returns-in_err-section-clause-value c =
    let p = err_from_is_err_and c.from_residual-in_err-section.result c.from_residual-in_err-section.ensures.1 in
    let found : c.first.result ≡ Some c.in_ok-line.line = grind arith in
    let e = err_of c.take_line.result c.in_err-section.ensures.cases (λ x h. let z : ◌≡◌ {A = ℕ} 0 1 = cc in omega arith) in
    let stopped = stopped_at c.loop-section.invariant (sym c.is_last.ensures ∙ c.loop-section-test.true) c.in_ok-line.line (some_of c.loop-section.left.now found c.first.ensures) e.0
    (ap (λ r. moved r (view c.take_line.new.self)) (sym e.1) ∙ c.take_line.ensures.says) in
    let at : c.in_err-section.field-0.0 ≡ record { cause = e.0; place = c.loop-section.number } = search rules in
    rw (p.1, p.2, at) stopped

pub loop-section-smaller : goal.loop-section-smaller
loop-section-smaller c =
    let found : c.first.result ≡ Some c.in_ok-line.line = grind arith in
    shorter c.loop-section.left.now c.in_ok-line.line (some_of c.loop-section.left.now found c.first.ensures)

pub loop-section-preserved : goal.loop-section-preserved
loop-section-preserved c =
    let found : c.first.result ≡ Some c.in_ok-line.line = grind arith in
    let head = some_of c.loop-section.left.now found c.first.ensures in
    let last = sym c.is_last.ensures ∙ c.loop-section-test.true in
    let taken : c.take_line.result ≡ Ok c.in_ok-section.section = ok_of c.take_line.result (MatchResult-weaker c.take_line.result c.in_ok-section.ensures.cases (λ x e. cc) (λ e h. h)) (λ e h. h) in
    one_read c.loop-section.invariant last c.in_ok-line.line head c.in_ok-section.section c.take_line.new.self
    (ap (λ r. moved r (view c.take_line.new.self)) (sym taken) ∙ c.take_line.ensures.says)
    (IfOk-at_ok _ taken (c.take_line.ensures.from c.args.bytes.now (part_read c.loop-section.invariant last c.in_ok-line.line head) c.loop-section.invariant.from))
    (IfOk-at_ok _ taken c.take_line.ensures.roomy)
