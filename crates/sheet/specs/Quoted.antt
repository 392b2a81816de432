-- What reading and writing a quoted name answers.
use Rattle.std.specs.Prelude.{ℕ, zero, suc, ◌+◌, cond, List, [], ◌∷◌, ◌++◌, length, drop, Some, None, Ok, Option, Result, ◌==◌, slice_index}
use Rattle.base.specs.declared.refusal.Cause.TheVariants.{BadText}
use Rattle.base.specs.declared.refusal.Refusal.{Refusal}
use Rattle.base.specs.Refusals.{refused}
use Rattle.lines.specs.Overlay.{room}
use Rattle.sheet.specs.Text.{printable, good, inner, quoted}

-- what is read, behind what was read before it
abbrev pub after : List ℕ → Option (List ℕ) → Option (List ℕ)
after xs (Some ys) = Some (xs ++ ys)
after xs None = None

-- the text in front of its closing quote, of less than n bytes; past the end of the bytes stands 0
abbrev pub body : ℕ → List ℕ → Option (List ℕ)
body zero bytes = None
body (suc n) bytes =
    cond (slice_index bytes 0 == 34)
    (cond (slice_index bytes 1 == 34) (after (34 ∷ []) (body n (drop 2 bytes))) (Some []))
    (cond (printable (slice_index bytes 0)) (after (slice_index bytes 0 ∷ []) (body n (drop 1 bytes))) None)

-- what stands behind the byte of text that the bytes begin with; none where the text ends
abbrev pub behind_letter : List ℕ → Option (List ℕ)
behind_letter bytes =
    cond (slice_index bytes 0 == 34)
    (cond (slice_index bytes 1 == 34) (Some (drop 2 bytes)) None)
    (cond (printable (slice_index bytes 0)) (Some (drop 1 bytes)) None)

abbrev pub nonempty : Option (List ℕ) → Option (List ℕ)
nonempty (Some []) = None
nonempty (Some (c ∷ cs)) = Some (c ∷ cs)
nonempty None = None

-- the text whose quoted form the bytes begin with
unfoldable pub unquoted : List ℕ → Option (List ℕ)
unquoted bytes = cond (slice_index bytes 0 == 34) (nonempty (body 33 (drop 1 bytes))) None

-- begin and end of the written text inside its outer quotes, and the place behind them
abbrev pub extent : ℕ → Option (List ℕ) → Result (ℕ × ℕ × ℕ) Refusal
extent at (Some text) = Ok (at + 1, at + 1 + length (inner text), at + 1 + length (inner text) + 1)
extent at None = refused BadText 1

-- how many bytes a text takes when quoted
abbrev pub sized : List ℕ → Result ℕ Refusal
sized text = cond (good text) (Ok (length (quoted text))) (refused BadText 1)

-- what writing a text into the front of a buffer answers: the text is judged first, then the room
abbrev pub written : List ℕ → List ℕ → Result ℕ Refusal
written tail text = room (length tail) (sized text)
