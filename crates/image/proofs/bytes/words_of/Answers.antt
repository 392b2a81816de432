use Rattle.std.proofs.Common.{map, sym, ap, ◌∙◌, arith}
use Rattle.std.specs.Int.{w32, from_le_bytes}
use Rattle.std.proofs.lemmas.Bool.{eqb-true}
use Rattle.std.proofs.lemmas.List.{take_all}
use Rattle.image.proofs.Assembling.{whole, bytes_back}
use Rattle.image.proofs.bytes.words_of.Goals as goal

pub returns-clause-value : goal.returns-clause-value
returns-clause-value c =
    let cut = c.as_chunks.ensures in
    whole c.args.bytes.now _ (sym cut.back_len ∙ eqb-true _ 0 (sym c.is_empty.ensures ∙ c.if-not-is_empty.false)) (omega (arith, cut.front_len))
    (c.loop-part.invariant ∙ ap (map (from_le_bytes w32)) (take_all _ _ c.loop-part-test.false ∙ cut.front))

pub returns-clause-back : goal.returns-clause-back
returns-clause-back c = bytes_back c.args.bytes.now
