-- How the bytes of a text are written.
use Rattle.std.proofs.Common.{◌≡◌, ℕ, ◌+◌, ◌*◌, ◌<◌, ◌≤◌, false, eqb, List, [], ◌∷◌, ◌++◌, length, sym, refl, ap, ◌∙◌, inl, inr, arith, length-append}
use Rattle.std.proofs.lemmas.Bool.{eq-eqb, ne_eqb, cond-true, cond-false, cond_both, cases_eq}
use Rattle.sheet.specs.Text.{letter, inner, quoted, single}

pub one : (c : ℕ) → (c ≡ 34 → ⊥) → letter c ≡ c ∷ []
one c other = cond-false _ _ _ (ne_eqb c 34 other)

pub two : (c : ℕ) → c ≡ 34 → letter c ≡ 34 ∷ 34 ∷ []
two c is = cond-true _ _ _ (eq-eqb c 34 is)

-- each byte of text stands as one byte or two
pub letter_some : (c : ℕ) → 0 < length (letter c)
letter_some c = cond_both (eqb c 34) (34 ∷ 34 ∷ []) (c ∷ []) (λ l. 0 < length l) (λ _. omega arith) (λ _. omega arith)

pub letter_two : (c : ℕ) → length (letter c) ≤ 2
letter_two c = cond_both (eqb c 34) (34 ∷ 34 ∷ []) (c ∷ []) (λ l. length l ≤ 2) (λ _. omega arith) (λ _. omega arith)

abbrev pub letters : List ℕ → ℕ
letters text = length (inner text)

pub letters_twice : (t : List ℕ) → letters t ≤ 2 * length t
letters_twice [] = omega arith
letters_twice (c ∷ t) = omega (arith, length-append (letter c) (inner t), letter_two c, letters_twice t)

pub quoted_size : (text : List ℕ) → length (quoted text) ≡ 2 + letters text
quoted_size text = omega (arith, length-append (inner text) (34 ∷ []))

-- writing a text and leaving out each second quote gives the text
pub single_inner : (t : List ℕ) → single false (inner t) ≡ t
single_inner [] = refl
single_inner (c ∷ t) = elim (cases_eq c 34) [
  | inl is ↦ ap (λ l. single false (l ++ inner t)) (two c is) ∙ ap (λ l. 34 ∷ l) (single_inner t) ∙ ap (λ (k : ℕ). k ∷ t) (sym is)
  | inr other ↦ ap (λ l. single false (l ++ inner t)) (one c other) ∙ ap (λ b. c ∷ single b (inner t)) (ne_eqb c 34 other) ∙ ap (λ l. c ∷ l) (single_inner t)
]
