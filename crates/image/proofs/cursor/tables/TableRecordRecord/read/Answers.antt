use Rattle.std.proofs.Common.{sym, ap}
use Rattle.std.proofs.lemmas.List.{map-id}
use Rattle.image.specs.Layout.{pair, after_pair}
use Rattle.image.specs.Readers.{◌>>=◌, done, here, chain}
use Rattle.image.proofs.Composing.{next, placed, known}
use Rattle.image.proofs.cursor.tables.TableRecordRecord.read.Goals as goal

pub returns : goal.returns
returns c =
    next (λ r. r) (λ n k. here >>= λ start. chain (pair n.blocks) after_pair 0 k >>= λ ps. done (record { start = start; pairs = ps })) (c.in_ok-count.ensures).value
    (placed (λ r. r) (λ n start. chain (pair n.blocks) after_pair 0 c.in_ok-count.count >>= λ ps. done (record { start = start; pairs = ps }))
    (next (λ r. r) (λ n ps. done (record { start = c.count.new.self.at; pairs = ps })) c.in_ok-pairs.ensures (known _ (ap (λ ps. record { start = c.count.new.self.at; pairs = ps }) (sym (map-id _))))))
