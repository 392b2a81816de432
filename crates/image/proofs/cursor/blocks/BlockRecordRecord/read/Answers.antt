use Rattle.std.proofs.Common.{◌≡◌, ◌-◌, false, eqb, List, [], ◌∷◌, length, sym, ap, ◌∙◌, arith}
use Rattle.std.specs.Option.{option_map}
use Rattle.std.proofs.lemmas.Option.{slice_get-get_or}
use Rattle.std.proofs.lemmas.Grind.{common_steps}
use Rattle.image.specs.Layout.{most_behind}
use Rattle.image.specs.Readers.{last_of}
use Rattle.image.specs.View.{seen_block}
use Rattle.image.proofs.cursor.blocks.BlockRecordRecord.read.Goals as goal
use Rattle.image.proofs.cursor.blocks.BlockRecordRecord.read.Goals.{then-is_empty, else-is_empty}

-- eight values at most behind any block
eight : {X Y : Type 0} (view : Y → X) (ys : List Y) → eqb (length ys) 0 ≡ false → most_behind (option_map view (last_of ys)) ≡ 8
eight view [] e = absurd cc
eight view (y ∷ ys) e = ap (λ o. most_behind (option_map view o)) (slice_get-get_or (y ∷ ys) (length (y ∷ ys) - 1) y (omega arith))

pub returns : goal.returns
returns c =
    let most : c.if-is_empty.most ≡ most_behind (option_map seen_block (last_of c.args.before.now)) = elim c.if-is_empty.branch [
      | then-is_empty w ↦ grind (arith, common_steps)
      | else-is_empty w ↦ w.most-is ∙ sym (eight seen_block c.args.before.now (sym c.is_empty.ensures ∙ w.if-is_empty.false))
    ] in
    rw most at c.block.ensures
