-- Words as bytes: four bytes a word, the least first.
use Rattle.std.specs.Prelude.{◌≡◌, ℕ, ◌+◌, ◌*◌, ◌/◌, ◌%◌, ◌<◌, cond, ◌&&◌, List, [], ◌∷◌, length, Ok, Result, ◌==◌, nat_le, slice_index}
use Rattle.std.specs.List.{flat_map}
use Rattle.base.specs.declared.refusal.Cause.TheVariants.{ImageSize}
use Rattle.base.specs.declared.refusal.Refusal.{Refusal}
use Rattle.base.specs.Refusals.{refused}

abbrev pub word : ℕ → ℕ → ℕ → ℕ → ℕ
word a b c d = a + 256 * (b + 256 * (c + 256 * d))

abbrev pub assembled : List ℕ → List ℕ
assembled [] = []
assembled (a ∷ []) = []
assembled (a ∷ b ∷ []) = []
assembled (a ∷ b ∷ c ∷ []) = []
assembled (a ∷ b ∷ c ∷ d ∷ bs) = word a b c d ∷ assembled bs

-- part of a word, and more than 8,192 words, are refused as a wrong size
abbrev pub words_in : List ℕ → Result (List ℕ) Refusal
words_in bytes = cond (length bytes % 4 == 0 && nat_le (length bytes / 4) 8192) (Ok (assembled bytes)) (refused ImageSize 0)

abbrev pub word_bytes : ℕ → List ℕ
word_bytes w = w % 256 ∷ w / 256 % 256 ∷ w / 65536 % 256 ∷ w / 16777216 ∷ []

-- the words that are answered are written in exactly these bytes
abbrev pub BytesBack : List ℕ → Type 0
BytesBack bytes = ((i : ℕ) → slice_index bytes i < 256) → (ws : List ℕ) → words_in bytes ≡ Ok ws → flat_map word_bytes ws ≡ bytes
