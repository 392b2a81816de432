use Rattle.std.proofs.Common.{ap, ◌∙◌}
use Rattle.array_list.specs.Items.{items}
use Rattle.sheet.specs.Texts.{text_of}
use Rattle.sheet.specs.Lookup.{numbered}
use Rattle.sheet.proofs.Viewing.{first_same}
use Rattle.sheet.proofs.sheet.Sheet.find.Goals as goal

pub returns-in_err-i : goal.returns-in_err-i
returns-in_err-i c = rw c.from_residual.ensures (ap numbered (c.in_err-i.ensures.value ∙ first_same text_of (text_of c.args.text.now) (items c.args.self.now.names)))

pub returns : goal.returns
returns c = ap numbered (c.in_ok-i.ensures.value ∙ first_same text_of (text_of c.args.text.now) (items c.args.self.now.names))
