-- Names that are new in turn are texts of which no two are the same.
use Rattle.std.proofs.Common.{◌≡◌, ℕ, ◌+◌, ◌<◌, ◌≤◌, Bool, true, false, cond, List, [], ◌∷◌, ◌++◌, length, get_or, Some, None, fold, sym, refl, ap, ◌∙◌, subst, inl, inr, append_assoc, arith, length-append}
use Rattle.std.specs.List.{AllByRecursion as All}
use Rattle.std.proofs.ByRecursion.{All-get_or, All-from_get_or}
use Rattle.std.proofs.lemmas.List.{get_or_at, get_or_append_left, append-nil, length_push}
use Rattle.std.proofs.lemmas.Bool.{cases_eq, cond-false}
use Rattle.sheet.specs.Text.{good}
use Rattle.sheet.specs.Same.{same_text}
use Rattle.sheet.specs.Format.{Contents, lookup, with_name, titled}
use Rattle.sheet.proofs.Lines.{InTurn, not_some}

-- a text that is the same as none of the names
abbrev Apart : List (List ℕ) → List ℕ → Type 0
Apart names t = All (λ n. same_text n t ≡ false) names

apart_from_lookup : (names : List (List ℕ)) (t : List ℕ) (i : ℕ) → lookup names t i ≡ None → Apart names t
apart_from_lookup [] t i e = tt
apart_from_lookup (n ∷ ns) t i e = go (apart_from_lookup ns t (i + 1)) (same_text n t) refl e
  where
    go : (lookup ns t (i + 1) ≡ None → Apart ns t) → (b : Bool) → same_text n t ≡ b → cond b (Some i) (lookup ns t (i + 1)) ≡ None → (same_text n t ≡ false) × Apart ns t
    go ih true is h = absurd (not_some (sym h))
    go ih false is h = (is, ih h)

lookup_from_apart : (names : List (List ℕ)) (t : List ℕ) (i : ℕ) → Apart names t → lookup names t i ≡ None
lookup_from_apart [] t i apart = refl
lookup_from_apart (n ∷ ns) t i apart = cond-false _ _ _ apart.0 ∙ lookup_from_apart ns t (i + 1) apart.1

-- a name is a text that is not known
abbrev pub New : Contents → List ℕ → Type 0
New c t = (good t ≡ true) × (lookup c.names t 0 ≡ None)

-- no name from the place m on is the same as one before it
abbrev Differ : ℕ → List (List ℕ) → Type 0
Differ m names = (i j : ℕ) → m ≤ j → i < j → j < length names → same_text (get_or names i []) (get_or names j []) ≡ false

texts_in_turn : (names : List (List ℕ)) (c : Contents) → InTurn with_name New c names → All (λ t. good t ≡ true) names
texts_in_turn [] c new = tt
texts_in_turn (t ∷ ts) c new = (new.0.0, texts_in_turn ts (with_name c t) new.1)

pair_at : (front : List (List ℕ)) (t : List ℕ) (ts : List (List ℕ)) (i j : ℕ) → i < j → length front ≡ j → same_text (get_or (front ++ t ∷ ts) i []) (get_or (front ++ t ∷ ts) j []) ≡ same_text (get_or front i []) t
pair_at front t ts i j less is = let inside : i < length front = omega arith in λ k. same_text (get_or_append_left front (t ∷ ts) [] i inside k) (get_or_at front t ts [] j is k)

differ_in_turn : (names : List (List ℕ)) (c : Contents) → InTurn with_name New c names → Differ (length c.names) (c.names ++ names)
differ_in_turn [] c new i j low less high = absurd (omega (arith, ap length (append-nil c.names)))
differ_in_turn (t ∷ ts) c new i j low less high = elim (cases_eq (length c.names) j) [
  | inl is ↦ pair_at c.names t ts i j less is ∙ All-get_or (λ n. same_text n t ≡ false) c.names i [] (omega arith) (apart_from_lookup c.names t 0 new.0.1)
  | inr other ↦ subst (Differ (length (c.names ++ t ∷ []))) (append_assoc c.names (t ∷ []) ts) (differ_in_turn ts (with_name c t) new.1) i j (omega (arith, length_push c.names t)) less high
]

new_in_turn : (names : List (List ℕ)) (c : Contents) → All (λ t. good t ≡ true) names → Differ (length c.names) (c.names ++ names) → InTurn with_name New c names
new_in_turn [] c texts differ = tt
new_in_turn (t ∷ ts) c texts differ =
    let m = length c.names in
    let apart : Apart c.names t =
    All-from_get_or _ c.names [] (λ i less. sym (pair_at c.names t ts i m less refl) ∙ differ i m (omega arith) less (omega (arith, length-append c.names (t ∷ ts)))) in (
      (texts.0, lookup_from_apart c.names t 0 apart),
      new_in_turn ts (with_name c t) texts.1
          (λ i j low. subst (Differ m) (sym (append_assoc c.names (t ∷ []) ts)) differ i j (omega (arith, length_push c.names t))),
    )

pub all_named : (names : List (List ℕ)) (c : Contents) → fold with_name c names ≡ record { style = c.style; names = c.names ++ names; asks = c.asks }
all_named [] c = ap (λ l. record { style = c.style; names = l; asks = c.asks }) (sym (append-nil c.names))
all_named (t ∷ ts) c = all_named ts (with_name c t) ∙ ap (λ l. record { style = c.style; names = l; asks = c.asks }) (append_assoc c.names (t ∷ []) ts)

-- texts of which no two are the same
pub record Distinct (names : List (List ℕ)) : Type 0 where
  pub texts : (i : ℕ) → i < length names → good (get_or names i []) ≡ true
  pub differ : (i j : ℕ) → i < j → j < length names → same_text (get_or names i []) (get_or names j []) ≡ false

pub distinct_from_turns : (names : List (List ℕ)) (style : List ℕ) → InTurn with_name New (titled style) names → Distinct names
distinct_from_turns names style new = record {
  texts = λ i high. All-get_or _ names i [] high (texts_in_turn names (titled style) new);
  differ = λ i j. differ_in_turn names (titled style) new i j (omega arith);
}

pub turns_from_distinct : (names : List (List ℕ)) (style : List ℕ) → Distinct names → InTurn with_name New (titled style) names
turns_from_distinct names style distinct = new_in_turn names (titled style) (All-from_get_or _ names [] distinct.texts) (λ i j low. distinct.differ i j)
