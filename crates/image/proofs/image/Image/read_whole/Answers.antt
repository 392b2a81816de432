use Rattle.image.specs.View.{declares}
use Rattle.image.proofs.Composing.{passed_out}
use Rattle.image.proofs.Outlining.{outlined, blocks_refused, tables_refused, records_read, refused_end, reached_end}
use Rattle.image.proofs.image.Image.read_whole.Goals as goal

pub returns-in_err-blocks-clause-value : goal.returns-in_err-blocks-clause-value
returns-in_err-blocks-clause-value c = passed_out declares c.from_residual-in_err-blocks.result c.from_residual-in_err-blocks.ensures.1 (outlined (c.in_ok-cursor.ensures).value (c.in_ok-cursor.ensures).from (blocks_refused c.in_ok-types.ensures c.in_err-blocks.ensures))

pub returns-in_err-tables-clause-value : goal.returns-in_err-tables-clause-value
returns-in_err-tables-clause-value c = passed_out declares c.from_residual-in_err-tables.result c.from_residual-in_err-tables.ensures.1 (outlined (c.in_ok-cursor.ensures).value (c.in_ok-cursor.ensures).from (tables_refused c.in_ok-types.ensures c.in_ok-blocks.ensures c.in_err-tables.ensures))

pub returns-in_err-end-clause-value : goal.returns-in_err-end-clause-value
returns-in_err-end-clause-value c = passed_out declares c.from_residual-in_err-end.result c.from_residual-in_err-end.ensures.1 (refused_end (c.in_ok-cursor.ensures).value (c.in_ok-cursor.ensures).from (records_read c.in_ok-types.ensures c.in_ok-blocks.ensures c.in_ok-tables.ensures) _ c.in_err-end.ensures)

pub returns-clause-value : goal.returns-clause-value
returns-clause-value c =
    rw c.counts.ensures (reached_end (c.in_ok-cursor.ensures).value (c.in_ok-cursor.ensures).from (records_read c.in_ok-types.ensures c.in_ok-blocks.ensures c.in_ok-tables.ensures) c.in_ok-end.ensures)
