-- A text found in front of a rest, by its extent.
use Rattle.std.proofs.Common.{◌≡◌, ℕ, ◌+◌, ◌-◌, true, false, List, [], ◌∷◌, ◌++◌, length, take, drop, Some, None, Ok, Option, Result, sym, refl, ap, ◌∙◌, append_assoc, arith, length-append}
use Rattle.std.proofs.lemmas.List.{take_at}
use Rattle.std.proofs.lemmas.Bool.{eq-eqb, cond-true}
use Rattle.base.specs.declared.refusal.Refusal.{Refusal}
use Rattle.sheet.specs.Text.{inner, quoted, good, single}
use Rattle.sheet.specs.Quoted.{unquoted, extent}
use Rattle.sheet.specs.RoundTrips.{Begins}
use Rattle.sheet.specs.Parts.{IsPart}
use Rattle.sheet.specs.Format.{text, whole}
use Rattle.sheet.proofs.Letters.{letters, quoted_size, single_inner}
use Rattle.sheet.proofs.Trips.{accepted}

-- what an extent says of the text that was read
record Located (b e p : ℕ) (r : Option (List ℕ)) : Type 0 where
  is : List ℕ
  found : r ≡ Some is
  begins : b ≡ 1
  ends : e ≡ 1 + letters is
  behind : p ≡ 1 + letters is + 1

located : (b e p : ℕ) (r : Option (List ℕ)) → ◌≡◌ {A = Result (ℕ × ℕ × ℕ) Refusal} (Ok (b, e, p)) (extent 0 r) → Located b e p r
located b e p (Some t) k =
    let q : ◌≡◌ {A = ℕ × ℕ × ℕ} (b, e, p) (0 + 1, 0 + 1 + letters t, 0 + 1 + letters t + 1) = cc in
    record { is = t; found = refl; begins = ap (λ v. v.0) q; ends = ap (λ v. v.1) q; behind = ap (λ v. v.2) q }
located b e p None k = let z : ◌≡◌ {A = ℕ} 0 1 = cc in absurd (omega arith)

module _ (rest : List ℕ) (b e p : ℕ) (h : Ok (b, e, p) ≡ extent 0 (unquoted rest)) where
  name : Located b e p (unquoted rest)
  name = located b e p (unquoted rest) h

  begun : (good name.is ≡ true) × Begins rest name.is
  begun = (accepted rest name.is).0 name.found

  long : length rest ≡ 2 + letters name.is + length begun.1.rest
  long = omega (arith, ap length begun.1.is, length-append (quoted name.is) begun.1.rest, quoted_size name.is)

  abbrev pub written : List ℕ
  written = take (e - b) (drop b rest)

  written_is : written ≡ inner name.is
  written_is =
      let t = name.is in
      let size : e - b ≡ letters t = omega (arith, name.begins, name.ends) in
      ap (λ n. take n (drop b rest)) size
      ∙ ap (λ n. take (letters t) (drop n rest)) name.begins
      ∙ ap (λ l. take (letters t) (drop 1 l)) begun.1.is
      ∙ ap (take (letters t)) (append_assoc (inner t) (34 ∷ []) begun.1.rest)
      ∙ take_at (inner t) (34 ∷ begun.1.rest) (letters t) refl

  text_is : single false written ≡ name.is
  text_is = ap (single false) written_is ∙ single_inner name.is

  pub doubled : written ≡ inner (single false written)
  doubled = written_is ∙ ap inner (sym text_is)

  pub whole_rest : p ≡ length rest → Ok (single false written) ≡ text rest
  whole_rest all = sym (
      ap (whole rest) name.found
      ∙ cond-true _ _ _ (eq-eqb (length (quoted name.is)) (length rest) (omega (arith, quoted_size name.is, name.behind)))
      ∙ ap Ok (sym text_is))

  pub stands : IsPart rest written
  stands = record {
    before = 34 ∷ [];
    after = 34 ∷ begun.1.rest;
    is = begun.1.is ∙ ap (λ l. 34 ∷ l) (append_assoc (inner name.is) (34 ∷ []) begun.1.rest ∙ ap (λ l. l ++ 34 ∷ begun.1.rest) (sym written_is));
  }
