-- What is read is exactly what was quoted: quoted names go round trip both ways.
use Rattle.std.specs.Prelude.{◌≡◌, ℕ, ◌-◌, ◌≤◌, true, ◌↔◌, List, ◌++◌, length, take, drop, Some, Ok, Result, ◌≢◌, slice_index, slice_index_or, slice_range}
use Rattle.base.specs.declared.refusal.Refusal.{Refusal}
use Rattle.sheet.specs.Text.{good, quoted}
use Rattle.sheet.specs.Quoted.{unquoted, extent, written}
use Rattle.lines.specs.Overlay.{overlaid}

-- the bytes begin with the quoted form of the text, and no further quote follows it
pub record Begins (bytes text : List ℕ) : Type 0 where
  pub rest : List ℕ
  pub is : bytes ≡ quoted text ++ rest
  pub stops : slice_index_or rest 0 0 ≡ 34 → ⊥

-- a text is read from the bytes exactly when they begin with its quoted form
abbrev pub ReadsExactly : List ℕ → Type 0
ReadsExactly bytes = (text : List ℕ) → (unquoted bytes ≡ Some text) ↔ ((good text ≡ true) × Begins bytes text)

-- the text read at a place, written anew into any buffer with room, gives the bytes that were read
pub record SameBytes (bytes : List ℕ) (at behind : ℕ) : Type 0 where
  pub text : List ℕ
  pub found : unquoted (drop at bytes) ≡ Some text
  pub fits : (tail : List ℕ) → behind - at ≤ length tail → written tail text ≡ Ok (behind - at)
  pub same : (tail : List ℕ) → take (behind - at) (overlaid (quoted text) tail) ≡ slice_range bytes at behind

-- a quoted name read and rewritten gives its bytes back
abbrev pub Rewrites : List ℕ → ℕ → Result (ℕ × ℕ × ℕ) Refusal → Type 0
Rewrites bytes at r = (begin end behind : ℕ) → r ≡ Ok (begin, end, behind) → SameBytes bytes at behind

-- a text that was written is read back from the written part, whatever follows but a quote
pub record ReadBack (front text : List ℕ) (n : ℕ) : Type 0 where
  pub found : (rest : List ℕ) → (slice_index rest 0 ≢ 34) → unquoted (front ++ rest) ≡ Some text
  pub place : (rest : List ℕ) → (slice_index rest 0 ≢ 34) → extent 0 (unquoted (front ++ rest)) ≡ Ok (1, n - 1, n)

abbrev pub ReadsBack : Result ℕ Refusal → List ℕ → List ℕ → Type 0
ReadsBack r buffer text = (n : ℕ) → r ≡ Ok n → ReadBack (take n buffer) text n
