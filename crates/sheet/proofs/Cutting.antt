-- The first byte 10 cuts the bytes.
use Rattle.std.proofs.Common.{◌≡◌, ℕ, suc, ◌+◌, ◌<◌, ◌≤◌, Bool, true, false, cond, not, eqb, nat_lt, List, [], ◌∷◌, length, take, drop, Some, None, Option, sym, refl, ap, ◌∙◌, subst, arith}
use Rattle.std.proofs.lemmas.Bool.{ltb-true, ltb-false}
use Rattle.std.specs.List.{position, position_or_len}
use Rattle.sheet.specs.Format.{cut, longer}

abbrev ends : ℕ → Bool
ends b = eqb b 10

abbrev cut_behind : ℕ → List ℕ → Option (List ℕ × List ℕ)
cut_behind n bytes = Some (take n bytes, drop (n + 1) bytes)

cut_at : (bytes : List ℕ) (n : ℕ) → position_or_len ends bytes ≡ n → n < length bytes → cut bytes ≡ cut_behind n bytes
cut_at [] n is less = absurd (omega arith)
cut_at (b ∷ bs) n is less = go (cut_at bs) (eqb b 10) is
  where
    go : ((m : ℕ) → position_or_len ends bs ≡ m → m < length bs → cut bs ≡ cut_behind m bs) → (t : Bool) → cond (not t) (1 + position_or_len ends bs) 0 ≡ n → cond t (Some ([], bs)) (longer b (cut bs)) ≡ cut_behind n (b ∷ bs)
    go ih true e = subst (λ k. cut_behind 0 (b ∷ bs) ≡ cut_behind k (b ∷ bs)) e refl
    go ih false e =
        let m = position_or_len ends bs in
        let next : suc m ≡ n = omega arith in
        let more : suc m + 1 ≡ suc (m + 1) = omega arith in
        subst (λ k. longer b (cut bs) ≡ cut_behind k (b ∷ bs)) next
        (ap (longer b) (ih m refl (omega arith)) ∙ ap (λ k. Some (b ∷ take m bs, drop k (b ∷ bs))) (sym more))

cut_never : (bytes : List ℕ) → length bytes ≤ position_or_len ends bytes → cut bytes ≡ None
cut_never [] all = refl
cut_never (b ∷ bs) all = go (cut_never bs) (eqb b 10) all
  where
    go : (length bs ≤ position_or_len ends bs → cut bs ≡ None) → (t : Bool) → suc (length bs) ≤ cond (not t) (1 + position_or_len ends bs) 0 → cond t (Some ([], bs)) (longer b (cut bs)) ≡ None
    go ih true h = absurd (omega arith)
    go ih false h = ap (longer b) (ih (omega arith))

-- where the first byte 10 was found, and where none was
module _ (bytes : List ℕ) where
  pub cut_found : (end : ℕ) → Some end ≡ position ends bytes → cut bytes ≡ Some (take end bytes, drop (end + 1) bytes)
  cut_found end found = go (nat_lt (position_or_len ends bytes) (length bytes)) refl found
    where
      go : (b : Bool) → nat_lt (position_or_len ends bytes) (length bytes) ≡ b → Some end ≡ cond b (Some (position_or_len ends bytes)) None → cut bytes ≡ Some (take end bytes, drop (end + 1) bytes)
      go true is e = let same : position_or_len ends bytes ≡ end = cc in cut_at bytes end same (omega (arith, ltb-true _ _ is))
      go false is e = let z : ◌≡◌ {A = ℕ} 0 1 = cc in absurd (omega arith)

  pub cut_missing : None ≡ position ends bytes → cut bytes ≡ None
  cut_missing missing = go (nat_lt (position_or_len ends bytes) (length bytes)) refl missing
    where
      go : (b : Bool) → nat_lt (position_or_len ends bytes) (length bytes) ≡ b → None ≡ cond b (Some (position_or_len ends bytes)) None → cut bytes ≡ None
      go true is e = let z : ◌≡◌ {A = ℕ} 0 1 = cc in absurd (omega arith)
      go false is e = cut_never bytes (ltb-false _ _ is)
