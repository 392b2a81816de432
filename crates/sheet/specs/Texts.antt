-- Texts where they stand in a sheet.
use Rattle.std.specs.Prelude.{ℕ, false, List}
use Rattle.sheet.specs.declared.text.Text.{Text}
use Rattle.sheet.specs.Text.{single}

-- the text that is written, its quotes single again
abbrev pub text_of : Text → List ℕ
text_of t = single false t.written.now
