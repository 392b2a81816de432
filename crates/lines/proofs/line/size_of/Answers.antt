use Rattle.std.proofs.Common.{rules, arith, ◌^◌, ◌≤◌, length}
use Rattle.std.proofs.lemmas.Iterator.{YieldsList-from_slice}
use Rattle.std.proofs.lemmas.Iterator.Adapters.{fits_from_length, at_most_from_yields_List}
use Rattle.std.proofs.lemmas.List.Concat.{length-flat_map}
use Rattle.lines.proofs.line.size_of.Goals as goal

-- fewer than 2^64 parts, each with fewer than 2^64 bytes
pub sum-requires-clause-fits : goal.sum-requires-clause-fits
sum-requires-clause-fits c =
    let few : length c.args.parts.now ≤ 2 ^ 64 = search rules in
    fits_from_length _ _ (2 ^ 64) (2 ^ 128) (at_most_from_yields_List (YieldsList-from_slice c.args.parts.now cc) few) c.map.ensures.closure (omega arith) (λ x r q k. search rules)

pub returns : goal.returns
returns c = search (rules, length-flat_map)
