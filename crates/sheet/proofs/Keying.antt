-- The key that a line begins with, and what stands behind it.
use Rattle.std.proofs.Common.{◌≡◌, ℕ, ◌≤◌, Bool, true, false, cond, ◌&&◌, eqb, List, [], ◌∷◌, length, drop, Some, None, sym, refl, ap, ◌∙◌, arith}
use Rattle.std.proofs.lemmas.Bool.{and_parts, cond-true}
use Rattle.sheet.specs.declared.line.Key.{Key}
use Rattle.sheet.specs.Format.{behind}
use Rattle.sheet.specs.Keys.{key_bytes, starts, first_key, all_keys, key_of}

behind_starts : (key line : List ℕ) → behind key line ≡ cond (starts key line) (Some (drop (length key) line)) None
behind_starts [] line = refl
behind_starts (c ∷ cs) [] = refl
behind_starts (c ∷ cs) (b ∷ bs) = go (behind_starts cs bs) (eqb b c)
  where
    go : behind cs bs ≡ cond (starts cs bs) (Some (drop (length cs) bs)) None → (t : Bool) → cond t (behind cs bs) None ≡ cond (t && starts cs bs) (Some (drop (length cs) bs)) None
    go ih true = ih
    go ih false = refl

pub starts_long : (key line : List ℕ) → starts key line ≡ true → length key ≤ length line
starts_long [] line e = omega arith
starts_long (c ∷ cs) [] e = let z : ◌≡◌ {A = ℕ} 0 1 = cc in absurd (omega arith)
starts_long (c ∷ cs) (b ∷ bs) e = omega (arith, starts_long cs bs (and_parts (eqb b c) (starts cs bs) e).1)

first_some : (ks : List Key) (line : List ℕ) (k : Key) (size : ℕ) → Some (k, size) ≡ first_key ks line → (starts (key_bytes k) line ≡ true) × (size ≡ length (key_bytes k))
first_some [] line k size e = let z : ◌≡◌ {A = ℕ} 0 1 = cc in absurd (omega arith)
first_some (j ∷ ks) line k size e = go (first_some ks line k size) (starts (key_bytes j) line) refl e
  where
    go : (Some (k, size) ≡ first_key ks line → (starts (key_bytes k) line ≡ true) × (size ≡ length (key_bytes k))) → (b : Bool) → starts (key_bytes j) line ≡ b → Some (k, size) ≡ cond b (Some (j, length (key_bytes j))) (first_key ks line) → (starts (key_bytes k) line ≡ true) × (size ≡ length (key_bytes k))
    go ih true is h =
        let q : ◌≡◌ {A = Key × ℕ} (k, size) (j, length (key_bytes j)) = cc in
        let same : j ≡ k = ap (λ v. v.0) (sym q) in
        (ap (λ i. starts (key_bytes i) line) (sym same) ∙ is, ap (λ v. v.1) q ∙ ap (λ i. length (key_bytes i)) same)
    go ih false is h = ih h

-- a key that was found
module _ (line : List ℕ) (k : Key) (size : ℕ) (begins : Some (k, size) ≡ key_of line) where
  keyed : (starts (key_bytes k) line ≡ true) × (size ≡ length (key_bytes k))
  keyed = first_some all_keys line k size begins

  pub key_inside : size ≤ length line
  key_inside = omega (arith, keyed.1, starts_long (key_bytes k) line keyed.0)

  pub key_behind : behind (key_bytes k) line ≡ Some (drop size line)
  key_behind = behind_starts (key_bytes k) line ∙ cond-true _ _ _ keyed.0 ∙ ap (λ n. Some (drop n line)) (sym keyed.1)
