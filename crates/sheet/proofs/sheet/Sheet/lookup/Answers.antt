use Rattle.std.proofs.Common.{◌≡◌, None, Ok, replicate, refl, ap, ◌∙◌, arith}
use Rattle.std.specs.Result.{result_ok}
use Rattle.sheet.specs.Lookup.{numbered}
use Rattle.sheet.specs.View.{view}
use Rattle.sheet.proofs.Viewing.{between_doubled, found_plain, found_none}
use Rattle.sheet.proofs.sheet.Sheet.lookup.Goals as goal

pub returns-in_err-size : goal.returns-in_err-size
returns-in_err-size c =
    let refuses : result_ok c.write_quoted.result ≡ None = grind arith in
    c.from_residual.ensures ∙ ap numbered (found_none c.args.text.now (replicate 66 0) c.write_quoted.result c.write_quoted.ensures.value refuses refl (view c.args.self.now).names)

pub invariant_of-find : goal.invariant_of-find
invariant_of-find c =
    let ok : c.write_quoted.result ≡ Ok c.in_ok-size.size = grind arith in
    record { is_doubled = between_doubled c.args.text.now (replicate 66 0) c.write_quoted.new.tail c.write_quoted.result c.in_ok-size.size c.write_quoted.ensures.value c.write_quoted.ensures.change ok }

pub returns : goal.returns
returns c =
    let ok : c.write_quoted.result ≡ Ok c.in_ok-size.size = grind arith in
    c.find.ensures ∙ ap numbered (found_plain c.args.text.now (replicate 66 0) c.write_quoted.new.tail c.write_quoted.result c.in_ok-size.size c.write_quoted.ensures.value c.write_quoted.ensures.change ok (view c.args.self.now).names)
