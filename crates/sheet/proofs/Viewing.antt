-- The names of a sheet, one by one, and the lines that it is written back in.
use Rattle.std.proofs.Common.{◌≡◌, ℕ, suc, ◌+◌, ◌-◌, ◌<◌, Bool, true, false, List, [], ◌∷◌, ◌++◌, map, cond, get_or, length, take, drop, Some, None, Ok, Option, Result, sym, refl, ap, ◌∙◌, append_assoc, arith}
use Rattle.std.specs.Result.{result_ok}
use Rattle.std.specs.List.{position, position_from}
use Rattle.std.proofs.lemmas.List.{take_at, get_or-map, get_or_append_left, length-map}
use Rattle.std.proofs.lemmas.Bool.{cond-true, le-leb}
use Rattle.std.proofs.lemmas.Iterator.Adapters.{position_from-zero}
use Rattle.base.specs.declared.refusal.Cause.TheVariants.{BadText}
use Rattle.base.specs.declared.refusal.Refusal.{Refusal}
use Rattle.base.specs.Refusals.{refused}
use Rattle.lines.specs.Overlay.{room, overlaid, piece}
use Rattle.sheet.specs.Text.{good, inner, quoted, single}
use Rattle.sheet.specs.Quoted.{written}
use Rattle.sheet.specs.Same.{same_text}
use Rattle.sheet.specs.Format.{lookup}
use Rattle.sheet.specs.Lookup.{number_of}
use Rattle.sheet.proofs.Letters.{letters, letters_twice, quoted_size, single_inner}
use Rattle.sheet.proofs.Trips.{good_few, written_good}

module _ {X : Type 0} (f : X → List ℕ) (t : List ℕ) where
  abbrev same_as : X → Bool
  same_as x = same_text (f x) t

  from_position : (xs : List X) (i : ℕ) → position_from same_as i xs ≡ lookup (map f xs) t i
  from_position [] i = refl
  from_position (x ∷ xs) i = ap (cond (same_as x) (Some i)) (from_position xs (i + 1))

  -- the first name that is the same
  pub first_same : (xs : List X) → position same_as xs ≡ lookup (map f xs) t 0
  first_same xs = position_from-zero same_as xs ∙ from_position xs 0

-- a plain text is looked up by what stands between the outer quotes that were written
module _ (t tail now : List ℕ) (r : Result ℕ Refusal) (n : ℕ) (value : r ≡ written tail t) (change : now ≡ overlaid (piece r (quoted t)) tail) (ok : r ≡ Ok n) where
  form_of : (good t ≡ true) × (n ≡ length (quoted t))
  form_of = written_good tail t n (sym value ∙ ok)

  abbrev pub between : List ℕ
  between = take (n - 1 - 1) (drop 1 now)

  between_is : between ≡ inner t
  between_is =
      let size : n - 1 - 1 ≡ letters t = omega (arith, form_of.1, quoted_size t) in
      let rest = drop (length (quoted t)) tail in
      ap (λ l. take (n - 1 - 1) (drop 1 l)) (change ∙ ap (λ v. overlaid (piece v (quoted t)) tail) ok)
      ∙ (λ i. take (size i) (append_assoc (inner t) (34 ∷ []) rest i))
      ∙ take_at (inner t) (34 ∷ rest) (letters t) refl

  pub between_doubled : between ≡ inner (single false between)
  between_doubled = between_is ∙ ap inner (sym (ap (single false) between_is ∙ single_inner t))

  pub found_plain : (names : List (List ℕ)) → lookup names (single false between) 0 ≡ number_of names t
  found_plain names = ap (λ l. lookup names l 0) (ap (single false) between_is ∙ single_inner t) ∙ sym (cond-true _ _ _ form_of.0)

-- a text that is refused where there is room for every text is none
pub found_none : (t tail : List ℕ) (r : Result ℕ Refusal) → r ≡ written tail t → result_ok r ≡ None → length tail ≡ 66 → (names : List (List ℕ)) → None ≡ number_of names t
found_none t tail r value refuses long names = go (good t) refl (ap result_ok (sym value) ∙ refuses)
  where
    go : (b : Bool) → good t ≡ b → result_ok (room (length tail) (cond b (Ok (length (quoted t))) (refused BadText 1))) ≡ None → None ≡ cond b (lookup names t 0) None
    go true is none =
        let fits = le-leb (length (quoted t)) (length tail) (omega (arith, good_few t is, long, quoted_size t, letters_twice t)) in
        let never : ◌≡◌ {A = Option ℕ} (Some (length (quoted t))) None = sym (ap result_ok (cond-true _ _ _ fits)) ∙ none in
        let z : ◌≡◌ {A = ℕ} 0 1 = cc in absurd (omega arith)
    go false is none = refl

-- a line of a list of lines
module _ {X : Type 0} (f : X → List ℕ) (xs : List X) (d : X) where
  -- .. that has others behind it
  pub front_line : (more : List (List ℕ)) (i : ℕ) (x : X) → i < length xs → x ≡ get_or xs i d → f x ≡ get_or (map f xs ++ more) i []
  front_line more i x h is =
      ap f is ∙ sym (get_or-map f xs i d [] h) ∙ sym (get_or_append_left (map f xs) more [] i (omega (arith, length-map xs f)))

  -- .. that has one before it
  pub next_line : (first : List ℕ) (i : ℕ) (x : X) → (i ≡ 0 → ⊥) → i - 1 < length xs → x ≡ get_or xs (i - 1) d → f x ≡ get_or (first ∷ map f xs) i []
  next_line first i x some h is =
      let next : i ≡ suc (i - 1) = omega arith in
      ap f is ∙ sym (ap (λ k. get_or (first ∷ map f xs) k []) next ∙ get_or-map f xs (i - 1) d [] h)

-- an item of a list, seen through w
module _ {X Y : Type 0} (w : X → Y) (xs items : List X) (same : items ≡ xs) (i : ℕ) (x : X) (inside : i < length items) (is : x ≡ get_or items i x) where
  pub seen_inside : i < length (map w xs)
  seen_inside = omega (arith, inside, ap length same, length-map xs w)

  pub seen_item : w x ≡ get_or (map w xs) i (w x)
  seen_item = ap w (is ∙ ap (λ l. get_or l i x) same) ∙ sym (get_or-map w xs i x (w x) (omega (arith, inside, ap length same)))
