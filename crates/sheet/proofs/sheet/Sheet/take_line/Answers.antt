use Rattle.std.proofs.Common.{subst, arith}
use Rattle.std.proofs.lemmas.List.{length-map}
use Rattle.array_list.specs.Items.{items}
use Rattle.sheet.specs.declared.section.Section.{Section}
use Rattle.sheet.specs.Sections.{Roomy}
use Rattle.sheet.specs.Texts.{text_of}
use Rattle.sheet.specs.View.{view}
use Rattle.sheet.proofs.Parting.{part_part, named_stands}
use Rattle.sheet.proofs.sheet.Sheet.take_line.Goals as goal

pub returns-in_ok-self-in-Style-Style-clause-from :
    goal.returns-in_ok-self-in-Style-Style-clause-from
returns-in_ok-self-in-Style-Style-clause-from c = λ bytes part from. record { style = part_part part c.in_ok-self-in-Style-Style.ensures.part; names = from.names }

pub returns-in_ok-name-in-Name-Name-clause-from : goal.returns-in_ok-name-in-Name-Name-clause-from
returns-in_ok-name-in-Name-Name-clause-from c =
    let names = items c.args.self.now.names in
    let room = subst (λ (s : Section). Roomy s (view c.args.self.now)) c.in-Name-Name.is-0 c.requires in
    let pushed = c.push.ensures.room (omega (arith, room.0, length-map names text_of)) in
    λ bytes part from. record { style = from.style; names = named_stands bytes names c.in_ok-name-in-Name-Name.name from.names (part_part part c.in_ok-name-in-Name-Name.ensures.part) pushed }
