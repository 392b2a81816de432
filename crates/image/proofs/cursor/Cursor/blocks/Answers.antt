use Rattle.std.proofs.Common.{sym, refl, ◌∙◌}
use Rattle.image.specs.Layout.{block, after_block}
use Rattle.image.specs.View.{head}
use Rattle.image.proofs.Reading.{chain_kept}
use Rattle.image.proofs.cursor.Cursor.blocks.Goals as goal

pub returns : goal.returns
returns c =
    let old = c.args.self.now in
    record {
      value = c.records.ensures.value ∙ sym (chain_kept head (block old.counts) after_block (λ _ _. 8) (λ s x. refl) 0 old.counts.blocks old.words.now old.at);
      words = c.records.ensures.words;
      counts = c.records.ensures.counts;
    }
