-- A numeral is the decimal form of its value.
use Rattle.std.proofs.Common.{◌≡◌, ℕ, suc, ◌+◌, ◌-◌, ◌*◌, ◌^◌, ◌<◌, ◌≤◌, Bool, true, false, cond, not, ◌&&◌, eqb, leb, List, [], ◌∷◌, length, get_or, drop, ℤ, pos, negsuc, Some, None, decimal, Option, sym, refl, ap, ◌∙◌, subst, inl, inr, pow-suc, add-one, arith, rules}
use Rattle.std.specs.Str.{all_ascii_digits}
use Rattle.std.specs.Char.{is_ascii_digit}
use Rattle.std.proofs.lemmas.List.{at_drop_more, drop_all}
use Rattle.std.specs.Fmt.{signed_decimal}
use Rattle.std.proofs.lemmas.Bool.{leb-true, leb-false, le-leb, lt-leb, eqb-true, eq-eqb, ne_eqb, and_parts, and_from, and_left, and_right, and_cases, not-true, not_from_false, cond-true, cond-false, cases_lt}
use Rattle.std.proofs.lemmas.Str.Parse.{IsNumeralModel, numerals_by_fold, digits_value_short}
use Rattle.std.proofs.lemmas.Fmt.{decimal-digits_value, digits_decimal, digits_value-decimal, length-decimal-le, decimal_nonempty, first_decimal, decimal_digit}
use Rattle.sheet.specs.Number.{read_on, numeral, natural, above, below, number, InRange, NaturalsAreDecimal, NumbersAreDecimal}

pub own : IsNumeralModel (λ ds. all_ascii_digits ds ≡ true) (read_on 0)
own = numerals_by_fold _ (search rules) read_on (search rules)

cond_some : {X : Type 0} (b : Bool) (x y : X) → ◌≡◌ {A = Option X} (cond b (Some x) None) (Some y) → (b ≡ true) × (x ≡ y)
cond_some true x y e = (refl, cc)
cond_some false x y e = let z : ◌≡◌ {A = ℕ} 0 1 = cc in absurd (omega arith)

record Parts (ds : List ℕ) : Type 0 where
  some : 1 ≤ length ds
  few : length ds ≤ 10
  lead : get_or ds 0 0 ≡ 48 → length ds ≡ 1
  clean : all_ascii_digits ds ≡ true

parts : (ds : List ℕ) → numeral ds ≡ true → Parts ds
parts ds h =
    let a = and_parts (leb 1 (length ds) && leb (length ds) 10) _ h in
    let b = and_parts (leb 1 (length ds)) (leb (length ds) 10) a.0 in
    let d = and_parts (not (eqb (get_or ds 0 0) 48 && leb 2 (length ds))) (all_ascii_digits ds) a.1 in
    let some = leb-true 1 (length ds) b.0 in
    record {
      some = some;
      few = leb-true (length ds) 10 b.1;
      lead = λ e. elim (and_cases (eqb (get_or ds 0 0) 48) (leb 2 (length ds)) (not-true (eqb (get_or ds 0 0) 48 && leb 2 (length ds)) d.0)) [
        | inl f ↦ let z : true ≡ false = sym (eq-eqb (get_or ds 0 0) 48 e) ∙ f in let y : ◌≡◌ {A = ℕ} 0 1 = cc in absurd (omega arith)
        | inr f ↦ omega (arith, some, leb-false 2 (length ds) f)
      ];
      clean = d.1;
    }

whole : (ds : List ℕ) → Parts ds → numeral ds ≡ true
whole ds p =
    and_from (leb 1 (length ds) && leb (length ds) 10) _
    (and_from (leb 1 (length ds)) _ (le-leb 1 (length ds) p.some) (le-leb (length ds) 10 p.few))
    (and_from (not (eqb (get_or ds 0 0) 48 && leb 2 (length ds))) _ (not_from_false _ (lead (eqb (get_or ds 0 0) 48) refl)) p.clean)
  where
    lead : (b : Bool) → eqb (get_or ds 0 0) 48 ≡ b → (eqb (get_or ds 0 0) 48 && leb 2 (length ds)) ≡ false
    lead true e = and_right (eqb (get_or ds 0 0) 48) (leb 2 (length ds)) (lt-leb 2 (length ds) (omega (arith, p.lead (eqb-true (get_or ds 0 0) 48 e))))
    lead false e = and_left (eqb (get_or ds 0 0) 48) _ e

pub naturals : NaturalsAreDecimal
naturals ds n = (sound, complete)
  where
    sound : natural ds ≡ Some n → (ds ≡ decimal n) × (n < 10 ^ 10)
    sound e =
        let a = cond_some (numeral ds) (read_on 0 ds) n e in
        let p = parts ds a.0 in
        let small : read_on 0 ds < 10 ^ 10 = digits_value_short own ds 10 p.clean p.few in
        let v = decimal-digits_value own ds p.clean p.some p.lead (omega arith) in
        (sym v ∙ ap decimal a.1, subst (λ (k : ℕ). k < 10 ^ 10) a.1 small)

    complete : (ds ≡ decimal n) × (n < 10 ^ 10) → natural ds ≡ Some n
    complete h =
        let big : n < 2 ^ 64 = omega (arith, h.1) in
        ap natural h.0
        ∙ cond-true _ _ _ (whole (decimal n) (record {
          some = decimal_nonempty n big;
          few = length-decimal-le 10 n (omega arith) h.1 big;
          lead = λ e. elim (cases_lt 0 n) [ inl more ↦ absurd (omega (arith, first_decimal n more big, e)) | inr none ↦ ap length (decimal_digit n (omega arith)) ];
          clean = digits_decimal own n big;
        }))
        ∙ ap Some (digits_value-decimal own n big)

-- the reader's loop
pub digits_drop : (text : List ℕ) (i : ℕ) → i < length text → all_ascii_digits (drop i text) ≡ (is_ascii_digit (get_or text i 0) && all_ascii_digits (drop (i + 1) text))
digits_drop text i h = at_drop_more all_ascii_digits text i 0 h

pub unclean : (text : List ℕ) → all_ascii_digits text ≡ false → natural text ≡ None
unclean text e = cond-false _ _ _ (and_right (leb 1 (length text) && leb (length text) 10) _ (and_right (not (eqb (get_or text 0 0) 48 && leb 2 (length text))) _ e))

pub digit_most : (c : ℕ) → is_ascii_digit c ≡ true → c - 48 ≤ 9
digit_most c is = omega (arith, leb-true c 57 (and_parts (leb 48 c) (leb c 57) is).1)

pub more_digits : (v i d : ℕ) → v < 10 ^ i → d ≤ 9 → v * 10 + d < 10 ^ (i + 1)
more_digits v i d h k = omega (arith, ap (λ j. 10 ^ j) (add-one i) ∙ pow-suc 10 i)

pub read_all : (text : List ℕ) (i v : ℕ) → length text ≤ i → read_on v (drop i text) ≡ read_on 0 text → all_ascii_digits (drop i text) ≡ all_ascii_digits text → 1 ≤ length text → length text ≤ 10 → (get_or text 0 0 ≡ 48 → length text ≡ 1) → natural text ≡ Some v
read_all text i v all is clean some few lead =
    let rest : drop i text ≡ [] = drop_all i text all in
    cond-true _ _ _ (whole text (record { some = some; few = few; lead = lead; clean = sym clean ∙ ap all_ascii_digits rest }))
    ∙ ap Some (sym is ∙ ap (read_on v) rest)

none_some : {X : Type 0} {x : X} → ◌≡◌ {A = Option X} None (Some x) → ⊥
none_some e = let z : ◌≡◌ {A = ℕ} 0 1 = cc in omega arith

above_some : (r : Option ℕ) (z : ℤ) → above r ≡ Some z → (n : ℕ) × (r ≡ Some n) × (n < 2147483648) × (pos n ≡ z)
above_some (Some n) z e = let a = cond_some (leb n 2147483647) (pos n) z e in let h = leb-true n 2147483647 a.0 in (n, refl, omega arith, a.1)
above_some None z e = absurd (none_some e)

below_some : (r : Option ℕ) (z : ℤ) → below r ≡ Some z → (n : ℕ) × (r ≡ Some (suc n)) × (n < 2147483648) × (negsuc n ≡ z)
below_some (Some n) z e =
    let a = cond_some (leb 1 n && leb n 2147483648) (negsuc (n - 1)) z e in
    let b = and_parts (leb 1 n) (leb n 2147483648) a.0 in
    let low = leb-true 1 n b.0 in
    let high = leb-true n 2147483648 b.1 in
    let is : n ≡ suc (n - 1) = omega arith in
    (n - 1, ap Some is, omega arith, a.1)
below_some None z e = absurd (none_some e)

minus_front : (text : List ℕ) → get_or text 0 0 ≡ 45 → text ≡ 45 ∷ drop 1 text
minus_front [] e = absurd (omega arith)
minus_front (b ∷ bs) e = ap (λ (k : ℕ). k ∷ bs) e

number_sound : (text : List ℕ) (z : ℤ) → number text ≡ Some z → (text ≡ signed_decimal z) × InRange z
number_sound text z e = go (eqb (get_or text 0 0) 45) refl e
  where
    go : (b : Bool) → eqb (get_or text 0 0) 45 ≡ b → cond b (below (natural (drop 1 text))) (above (natural text)) ≡ Some z → (text ≡ signed_decimal z) × InRange z
    go true isb h =
        let a = below_some (natural (drop 1 text)) z h in
        let d = (naturals (drop 1 text) (suc a.0)).0 a.1 in
        subst (λ y. (text ≡ signed_decimal y) × InRange y) a.3 (minus_front text (eqb-true (get_or text 0 0) 45 isb) ∙ ap (λ l. 45 ∷ l) d.0, a.2)
    go false isb h =
        let a = above_some (natural text) z h in
        let d = (naturals text a.0).0 a.1 in
        subst (λ y. (text ≡ signed_decimal y) × InRange y) a.3 (d.0, a.2)

no_minus : (n : ℕ) → n < 2 ^ 64 → get_or (decimal n) 0 0 ≡ 45 → ⊥
no_minus n big e = elim (cases_lt 0 n) [
  | inl more ↦ omega (arith, first_decimal n more big, e)
  | inr none ↦ omega (arith, sym e ∙ ap (λ l. get_or l 0 0) (decimal_digit n (omega arith)))
]

number_complete : (text : List ℕ) (z : ℤ) → text ≡ signed_decimal z → InRange z → number text ≡ Some z
number_complete text (pos n) is h =
    ap number is
    ∙ cond-false _ _ _ (ne_eqb (get_or (decimal n) 0 0) 45 (no_minus n (omega arith)))
    ∙ ap above ((naturals (decimal n) n).1 (refl, omega arith))
    ∙ cond-true _ _ _ (le-leb n 2147483647 (omega arith))
number_complete text (negsuc n) is h =
    let back : suc n - 1 ≡ n = omega arith in
    ap number is
    ∙ ap below ((naturals (decimal (suc n)) (suc n)).1 (refl, omega arith))
    ∙ cond-true _ _ _ (and_from (leb 1 (suc n)) _ (le-leb 1 (suc n) (omega arith)) (le-leb (suc n) 2147483648 (omega arith)))
    ∙ ap (λ k. Some (negsuc k)) back

pub numbers : NumbersAreDecimal
numbers text z = (number_sound text z, λ h. number_complete text z h.0 h.1)
