-- Laws of the values that lie in the first slots.
use Rattle.std.proofs.Common.{◌≡◌, ℕ, ◌+◌, ◌-◌, ◌<◌, ◌≤◌, min, List, [], ◌∷◌, ◌++◌, length, take, set, sym, ap, ◌∙◌, inl, inr, arith, length-take-le}
use Rattle.std.proofs.lemmas.List.{take_more_set, take_all}
use Rattle.std.proofs.lemmas.Bool.{cases_lt, lt-ltb, le-ltb, cond-true, cond-false}
use Rattle.array_list.specs.Items.{pushed}

-- a length past the slots says no more than all of them
pub part_is : {X : Type 0} (xs : List X) (n len end : ℕ) → length xs ≡ n → end ≡ min len n → take (end - 0) xs ≡ take len xs
part_is xs n len end e k =
    elim (cases_lt len n) [
      | inl h ↦ let z : end - 0 ≡ len = omega arith in ap (λ i. take i xs) z
      | inr h ↦ take_all (end - 0) xs (omega arith) ∙ sym (take_all len xs (omega arith))
    ]

pub push_taken : {X : Type 0} (xs : List X) (n len : ℕ) (x : X) → length xs ≡ n → len < n → take (len + 1) (set xs len x) ≡ pushed n (take len xs) x
push_taken xs n len x e h =
    let few : length (take len xs) ≡ len = length-take-le len xs (omega arith) in
    take_more_set xs len x (omega arith) ∙ sym (cond-true _ _ _ (lt-ltb (length (take len xs)) n (omega arith)))

pub push_left : {X : Type 0} (xs : List X) (n len : ℕ) (x : X) → length xs ≡ n → n ≤ len → take len xs ≡ pushed n (take len xs) x
push_left xs n len x e h =
    let all = ap length (take_all len xs (omega arith)) in
    sym (cond-false _ _ _ (le-ltb (length (take len xs)) n (omega (arith, all))))

-- where there is room, the value stands behind the others
pub room_taken : {X : Type 0} (n : ℕ) (xs : List X) (x : X) {ys : List X} → ys ≡ pushed n xs x → length xs < n → ys ≡ xs ++ x ∷ []
room_taken n xs x e h = e ∙ cond-true _ _ _ (lt-ltb (length xs) n h)
