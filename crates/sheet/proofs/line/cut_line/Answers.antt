use Rattle.std.proofs.Common.{◌≡◌, ◌+◌, Some, None, take, refl, sym, ap, ◌∙◌}
use Rattle.std.proofs.lemmas.List.{take_rest}
use Rattle.sheet.specs.Format.{cut}
use Rattle.sheet.proofs.Cutting.{cut_found, cut_missing}
use Rattle.sheet.proofs.line.cut_line.Goals as goal

pub returns-in_err-end : goal.returns-in_err-end
returns-in_err-end c =
    let none : cut c.args.bytes.now ≡ None = cut_missing c.args.bytes.now c.in_err-end.ensures in
    rw (c.from_residual.ensures, none) refl

pub returns : goal.returns
returns c =
    ap (λ l. Some (take c.in_ok-end.end c.args.bytes.now, l)) (take_rest c.args.bytes.now (c.in_ok-end.end + 1))
    ∙ sym (cut_found c.args.bytes.now c.in_ok-end.end c.in_ok-end.ensures)
