use Rattle.sheet.proofs.Sameness.{same_written}
use Rattle.sheet.proofs.text.Text.is_same.Goals as goal

pub returns : goal.returns
returns c = same_written c.args.self.now c.args.other.now c.eq_ignore_ascii_case.result c.eq_ignore_ascii_case.ensures.test
