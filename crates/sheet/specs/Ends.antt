-- A line by its key and its byte 10.
use Rattle.std.specs.Prelude.{◌≡◌, ℕ, List, Some, None, Option}
use Rattle.sheet.specs.declared.line.Key.{Key}
use Rattle.sheet.specs.declared.line.Line.{Line}
use Rattle.sheet.specs.Format.{behind, cut}
use Rattle.sheet.specs.Keys.{key_bytes}

-- the bytes begin with a line that begins with a key
pub record Head (bytes : List ℕ) (h : Line) : Type 0 where
  pub whole : List ℕ
  pub line : cut bytes ≡ Some (whole, h.behind.now)
  pub rest : behind (key_bytes h.key) whole ≡ Some h.rest.now

-- a line that does not begin with the key
abbrev pub Keyless : List ℕ → Option (List ℕ × List ℕ) → Type 0
Keyless key (Some p) = behind key p.0 ≡ None
Keyless key None = Unit {0}

abbrev pub Heads : List ℕ → Option Line → Type 0
Heads bytes (Some h) = Head bytes h
Heads bytes None = (k : Key) → Keyless (key_bytes k) (cut bytes)
