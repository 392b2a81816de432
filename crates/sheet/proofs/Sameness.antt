-- Two texts are the same if their written forms agree with A to Z read as a to z.
use Rattle.std.proofs.Common.{◌≡◌, ℕ, Bool, true, false, eqb, ◌↔◌, List, [], ◌∷◌, ◌++◌, map, sym, refl, ap, ◌∙◌, inl, inr, arith}
use Rattle.std.specs.Bool.{IsTrue}
use Rattle.std.specs.Char.{to_ascii_lowercase}
use Rattle.std.proofs.lemmas.Bool.{cases_eq, eqb-true, eq-eqb, and_parts, and_from}
use Rattle.std.proofs.lemmas.Bool.Decides.{nat_tests}
use Rattle.std.proofs.lemmas.List.{map-append}
use Rattle.sheet.specs.declared.text.Text.{Text}
use Rattle.sheet.specs.Text.{letter, inner, single}
use Rattle.sheet.specs.Texts.{text_of}
use Rattle.sheet.specs.Same.{lower, same_text}
use Rattle.sheet.proofs.Letters.{one, two, single_inner}

lower_is : (c : ℕ) → to_ascii_lowercase c ≡ lower c
lower_is c = grind (arith, nat_tests)

all_lower : (w : List ℕ) → map to_ascii_lowercase w ≡ map lower w
all_lower [] = refl
all_lower (c ∷ cs) = λ i. lower_is c i ∷ all_lower cs i

-- no letter becomes a quote
lower_other : (c : ℕ) → (c ≡ 34 → ⊥) → lower c ≡ 34 → ⊥
lower_other c other e = grind (arith, nat_tests)

lower_letter : (c : ℕ) → map lower (letter c) ≡ letter (lower c)
lower_letter c = elim (cases_eq c 34) [
  | inl is ↦ ap (map lower) (two c is) ∙ sym (two (lower c) (ap lower is))
  | inr other ↦ ap (map lower) (one c other) ∙ sym (one (lower c) (lower_other c other))
]

lower_inner : (t : List ℕ) → map lower (inner t) ≡ inner (map lower t)
lower_inner [] = refl
lower_inner (c ∷ cs) = map-append lower (letter c) (inner cs) ∙ (λ i. lower_letter c i ++ lower_inner cs i)

same_lowered : (s t : List ℕ) → map lower s ≡ map lower t → same_text s t ≡ true
same_lowered [] [] e = refl
same_lowered [] (b ∷ bs) e = let z : ◌≡◌ {A = ℕ} 0 1 = cc in absurd (omega arith)
same_lowered (a ∷ as') [] e = let z : ◌≡◌ {A = ℕ} 0 1 = cc in absurd (omega arith)
same_lowered (a ∷ as') (b ∷ bs) e =
    let first : lower a ≡ lower b = cc in
    let rest : map lower as' ≡ map lower bs = cc in
    and_from (eqb (lower a) (lower b)) _ (eq-eqb (lower a) (lower b) first) (same_lowered as' bs rest)

lowered_same : (s t : List ℕ) → same_text s t ≡ true → map lower s ≡ map lower t
lowered_same [] [] e = refl
lowered_same [] (b ∷ bs) e = let z : ◌≡◌ {A = ℕ} 0 1 = cc in absurd (omega arith)
lowered_same (a ∷ as') [] e = let z : ◌≡◌ {A = ℕ} 0 1 = cc in absurd (omega arith)
lowered_same (a ∷ as') (b ∷ bs) e =
    let parts = and_parts (eqb (lower a) (lower b)) (same_text as' bs) e in
    (λ i. eqb-true (lower a) (lower b) parts.0 i ∷ lowered_same as' bs parts.1 i)

lowered : (t : Text) → map to_ascii_lowercase t.written.now ≡ inner (map lower (text_of t))
lowered t = all_lower t.written.now ∙ ap (map lower) t.is_doubled ∙ lower_inner (text_of t)

-- so written forms may be compared as they stand
pub same_written : (a b : Text) (r : Bool) → (IsTrue r ↔ (map to_ascii_lowercase a.written.now ≡ map to_ascii_lowercase b.written.now)) → r ≡ same_text (text_of a) (text_of b)
same_written a b true is =
    let e = sym (lowered a) ∙ is.0 refl ∙ lowered b in
    sym (same_lowered (text_of a) (text_of b) (sym (single_inner (map lower (text_of a))) ∙ ap (single false) e ∙ single_inner (map lower (text_of b))))
same_written a b false is = go (same_text (text_of a) (text_of b)) refl
  where
    go : (q : Bool) → same_text (text_of a) (text_of b) ≡ q → false ≡ q
    go true e = is.1 (lowered a ∙ ap inner (lowered_same (text_of a) (text_of b) e) ∙ sym (lowered b))
    go false e = refl
