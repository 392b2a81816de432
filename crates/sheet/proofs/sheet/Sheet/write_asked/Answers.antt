use Rattle.std.proofs.Common.{◌-◌, codes, length, get_or, ap, ◌∙◌, subst, w32, SFits, arith, rules}
use Rattle.std.proofs.lemmas.Int.{to_z-of_z}
use Rattle.lines.specs.Overlay.{Writes}
use Rattle.lines.specs.Lines.{number_line}
use Rattle.sheet.specs.View.{view}
use Rattle.sheet.proofs.Viewing.{next_line}
use Rattle.sheet.proofs.sheet.Sheet.write_asked.Goals as goal

pub returns-in-Some : goal.returns-in-Some
returns-in-Some c =
    let s = c.args.self.now in
    let z = c.in-Some.answer.now in
    let l = c.in-Some.ensures.lookup in
    let fits : SFits w32 z = search rules in
    subst (λ line. Writes c.args.tail.now c.write_number_line-in-Some.new.tail line c.write_number_line-in-Some.result)
    (ap (number_line (codes "ask=")) (to_z-of_z w32 z fits) ∙ next_line (number_line (codes "ask=")) (view s).asks z _ c.args.i z c.if-i-eq0.false (omega (arith, l.3.0, ap length c.as_slice.ensures.value)) (l.1 ∙ ap (λ xs. get_or xs (c.args.i - 1) z) c.as_slice.ensures.value))
    c.write_number_line-in-Some.ensures
