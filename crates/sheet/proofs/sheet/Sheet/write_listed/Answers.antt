use Rattle.std.proofs.Common.{codes, subst}
use Rattle.lines.specs.Overlay.{Writes}
use Rattle.lines.specs.Lines.{text_line}
use Rattle.array_list.specs.Items.{items}
use Rattle.sheet.specs.declared.text.Text.{Text}
use Rattle.sheet.specs.Lines.{asked_lines_of}
use Rattle.sheet.specs.View.{written_names}
use Rattle.sheet.proofs.Viewing.{front_line, seen_inside, seen_item}
use Rattle.sheet.proofs.sheet.Sheet.write_listed.Goals as goal

pub returns-in-Some : goal.returns-in-Some
returns-in-Some c =
    let s = c.args.self.now in
    let l = c.in-Some.ensures.lookup in
    let written = λ (t : Text). t.written.now in
    subst (λ line. Writes c.args.tail.now c.write_text_line.new.tail line c.write_text_line.result)
    (front_line (text_line (codes "name=")) (written_names s) c.in-Some.name.now.written.now (asked_lines_of s) c.args.i c.in-Some.name.now.written.now
    (seen_inside written (items s.names) c.as_slice.result.now c.as_slice.ensures.value c.args.i c.in-Some.name.now l.3.0 l.1)
    (seen_item written (items s.names) c.as_slice.result.now c.as_slice.ensures.value c.args.i c.in-Some.name.now l.3.0 l.1))
    c.write_text_line.ensures
