use Rattle.std.proofs.Common.{◌≤◌, length, sym, ◌∙◌, ap, Some, rules}
use Rattle.std.proofs.lemmas.List.{take_rest}
use Rattle.sheet.proofs.Keying.{key_inside, key_behind}
use Rattle.sheet.proofs.line.Line.first.Goals as goal

pub slice_bounds-rest-count : goal.slice_bounds-rest-count
slice_bounds-rest-count c = key_inside c.in_ok-line.line.now c.in_ok-key.key c.in_ok-key.size c.in_ok-key.ensures

pub slice_bounds-rest-start : goal.slice_bounds-rest-start
slice_bounds-rest-start c =
    let h : c.in_ok-key.size ≤ length c.in_ok-line.line.now = key_inside c.in_ok-line.line.now c.in_ok-key.key c.in_ok-key.size c.in_ok-key.ensures in
    search rules

pub returns : goal.returns
returns c = record {
  whole = c.in_ok-line.line.now;
  line = sym c.in_ok-line.ensures;
  rest = key_behind c.in_ok-line.line.now c.in_ok-key.key c.in_ok-key.size c.in_ok-key.ensures ∙ ap Some (sym (take_rest c.in_ok-line.line.now c.in_ok-key.size));
}
