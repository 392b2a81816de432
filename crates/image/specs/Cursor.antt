-- What a call of a cursor answers, by the reader that it stands for.
use Rattle.std.specs.Prelude.{◌≡◌, Result}
use Rattle.base.specs.declared.refusal.Refusal.{Refusal}
use Rattle.image.specs.declared.counts.Counts.{Counts}
use Rattle.image.specs.declared.cursor.Cursor.{Cursor}
use Rattle.image.specs.Readers.{Reader, answered}

-- A call answers what stands where the cursor stood, and the cursor then stands behind it, in the same image.
pub record Reads {X Y : Type 0} (reader : Counts → Reader X) (view : Y → X) (old : Cursor) (result : Result Y Refusal) (new : Cursor) : Type 0 where
  pub value : answered view result new.at ≡ reader old.counts old.words.now old.at
  pub words : new.words ≡ old.words
  pub counts : new.counts ≡ old.counts
