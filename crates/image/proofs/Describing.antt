-- A reader describes an encoder: it answers a value exactly where the words of that value stand and it fits there. Ways to put such readers together.
use Rattle.std.proofs.Common.{◌≡◌, ℕ, zero, suc, ◌+◌, ◌<◌, ◌≤◌, Bool, true, false, cond, ◌&&◌, ltb, leb, ◌↔◌, List, [], ◌∷◌, ◌++◌, length, get_or, drop, Ok, Err, Result, sym, refl, ap, ◌∙◌, subst, append_assoc, arith, length-append, length-drop}
use Rattle.std.specs.List.{flat_map}
use Rattle.std.proofs.lemmas.List.{drop-drop, drop_at, drop_more}
use Rattle.std.proofs.lemmas.Bool.{and_parts, and_from, ltb-true, leb-true, lt-ltb, le-leb, cond-true}
use Rattle.base.specs.declared.refusal.Refusal.{Refusal}
use Rattle.image.specs.Readers.{Read, Reader, ◌>>=◌, and_then, done, here, number, count, chain}

-- the piece stands in the words from at on, and ends at to
pub record Stands (words : List ℕ) (at : ℕ) (piece : List ℕ) (to : ℕ) : Type 0 where
  pub begins : drop at words ≡ piece ++ drop to words
  pub ends : to ≡ at + length piece

abbrev pub Describes : {X : Type 0} → Reader X → (X → List ℕ) → (ℕ → X → Type 0) → Type 0
Describes {X} r written Fits = (words : List ℕ) (at : ℕ) (x : X) (to : ℕ) → (r words at ≡ Ok (x, to)) ↔ (Stands words at (written x) to × Fits at x)

-- ---- pieces one behind another
pub stands_none : (words : List ℕ) (at : ℕ) → Stands words at [] at
stands_none words at = record { begins = refl; ends = omega arith }

pub stands_join : {words : List ℕ} {at mid to : ℕ} (p q : List ℕ) → Stands words at p mid → Stands words mid q to → Stands words at (p ++ q) to
stands_join p q h k = record {
  begins = h.begins ∙ ap (λ l. p ++ l) k.begins ∙ sym (append_assoc p q _);
  ends = omega (arith, length-append p q, h.ends, k.ends);
}

pub stands_cut : {words : List ℕ} {at to : ℕ} (p q : List ℕ) → Stands words at (p ++ q) to → Stands words at p (at + length p) × Stands words (at + length p) q to
stands_cut {words} {at} {to} p q h =
    let tail : drop (at + length p) words ≡ q ++ drop to words = sym (drop-drop (length p) at words) ∙ ap (drop (length p)) (h.begins ∙ append_assoc p q _) ∙ drop_at p (q ++ drop to words) (length p) refl in (
      record { begins = h.begins ∙ append_assoc p q _ ∙ ap (λ l. p ++ l) (sym tail); ends = refl },
      record { begins = tail; ends = omega (arith, length-append p q, h.ends) },
    )

-- ---- what an answer tells of its parts
pub ok_parts : {X : Type 0} {x y : X} {a b : ℕ} → ◌≡◌ {A = Read X} (Ok (x, a)) (Ok (y, b)) → ◌≡◌ {A = X × ℕ} (x, a) (y, b)
ok_parts e = cc

pub then_ok : {X Y : Type 0} (r : Read X) (f : X → ℕ → Read Y) {y : Y} {to : ℕ} → and_then r f ≡ Ok (y, to) → (x : X) × (mid : ℕ) × (r ≡ Ok (x, mid)) × (f x mid ≡ Ok (y, to))
then_ok (Ok p) f e = (p.0, p.1, refl, e)
then_ok (Err d) f e = absurd cc

pub cond_ok : {X : Type 0} (b : Bool) (r : Result X Refusal) (d : Refusal) {x : X} → cond b r (Err d) ≡ Ok x → (b ≡ true) × (r ≡ Ok x)
cond_ok true r d e = (refl, e)
cond_ok false r d e = absurd cc

-- ---- readers

pub number_d : (low limit : ℕ) → Describes (number low limit) (λ w. w ∷ []) (λ _ w. (low ≤ w) × (w < limit))
number_d low limit words at w to = (sound, complete)
  where
    sound : number low limit words at ≡ Ok (w, to) → Stands words at (w ∷ []) to × ((low ≤ w) × (w < limit))
    sound e =
        let a = cond_ok (ltb at (length words)) _ _ e in
        let b = cond_ok (leb low (get_or words at 0) && ltb (get_or words at 0) limit) _ _ a.1 in
        let in_range = and_parts _ _ b.0 in
        let there = ltb-true at (length words) a.0 in
        let q = ok_parts b.1 in
        let is : get_or words at 0 ≡ w = ap (λ v. v.0) q in
        let ends : at + 1 ≡ to = ap (λ v. v.1) q in (
          record { begins = drop_more words at 0 there ∙ (λ i. is i ∷ drop (ends i) words); ends = sym ends },
          (omega (arith, leb-true low (get_or words at 0) in_range.0), omega (arith, ltb-true (get_or words at 0) limit in_range.1)),
        )

    complete : Stands words at (w ∷ []) to × ((low ≤ w) × (w < limit)) → number low limit words at ≡ Ok (w, to)
    complete h =
        let long = ap length h.0.begins in
        let there : at < length words = omega (arith, length-drop at words, long) in
        let both : get_or words at 0 ∷ drop (at + 1) words ≡ w ∷ drop to words = sym (drop_more words at 0 there) ∙ h.0.begins in
        let is : get_or words at 0 ≡ w = cc in
        let ends : at + 1 ≡ to = sym h.0.ends in
        cond-true _ _ _ (lt-ltb at (length words) there)
        ∙ cond-true _ _ _ (and_from _ _ (le-leb low (get_or words at 0) (omega (arith, is, h.1.0))) (lt-ltb (get_or words at 0) limit (omega (arith, is, h.1.1))))
        ∙ (λ i. Ok (is i, ends i))

-- the same reader, its words and bounds said otherwise
pub said_d : {X : Type 0} {r : Reader X} {w v : X → List ℕ} {F G : ℕ → X → Type 0} → Describes r w F → ((x : X) → w x ≡ v x) → ((at : ℕ) (x : X) → F at x ↔ G at x) → Describes r v G
said_d d same fits words at x to = (
  λ e. let h = (d words at x to).0 e in (subst (λ p. Stands words at p to) (same x) h.0, (fits at x).0 h.1),
  λ h. (d words at x to).1 (subst (λ p. Stands words at p to) (sym (same x)) h.0, (fits at x).1 h.1),
)

pub count_d : (low most : ℕ) → Describes (count low most) (λ w. w ∷ []) (λ _ w. (low ≤ w) × (w ≤ most))
count_d low most = said_d (number_d low (most + 1)) (λ w. refl) (λ at w. (λ h. (h.0, omega (arith, h.1)), λ h. (h.0, omega (arith, h.1))))

-- nothing is read, and the value is known
pub done_d : {Y : Type 0} (z : Y) → Describes (done z) (λ _. []) (λ _ y. y ≡ z)
done_d {Y} z words at y to = (
  λ e. subst (λ (v : Y × ℕ). Stands words at [] v.1 × (v.0 ≡ z)) (ok_parts e) (stands_none words at, refl),
  λ h. let ends : at ≡ to = omega (arith, h.0.ends) in (λ i. Ok (sym h.1 i, ends i)),
)

-- The place where the rest is read is a part of it.
pub here_d : {Y : Type 0} (f : ℕ → Reader Y) {v : Y → List ℕ} {G : ℕ → Y → Type 0} → ((words : List ℕ) (at : ℕ) (y : Y) (to : ℕ) → (f at words at ≡ Ok (y, to)) ↔ (Stands words at (v y) to × G at y)) → Describes (here >>= f) v G
here_d f each words at y to = each words at y to

-- One reader after another: of the value that is answered last, part is what was read first.
pub then_d : {X Y : Type 0} {r : Reader X} {f : X → Reader Y} {w : X → List ℕ} {v : Y → List ℕ} {F : ℕ → X → Type 0} {G : X → ℕ → Y → Type 0} (part : Y → X) → Describes r w F → ((x : X) (m : ℕ) → F m x → Describes (f x) v (G x)) → ((x : X) (at : ℕ) (y : Y) → G x at y → part y ≡ x) → Describes (r >>= f) (λ y. w (part y) ++ v y) (λ at y. F at (part y) × G (part y) (at + length (w (part y))) y)
then_d {X} {Y} {r} {f} {w} {v} {F} {G} part first rest known words at y to = (sound, complete)
  where
    sound : (r >>= f) words at ≡ Ok (y, to) → Stands words at (w (part y) ++ v y) to × (F at (part y) × G (part y) (at + length (w (part y))) y)
    sound e =
        let a = then_ok (r words at) _ e in
        let one = (first words at a.0 a.1).0 a.2 in
        let two = (rest a.0 at one.1 words a.1 y to).0 a.3 in
        let is = known a.0 a.1 y two.1 in
        subst (λ x. Stands words at (w x ++ v y) to × (F at x × G x (at + length (w x)) y)) (sym is)
        (stands_join (w a.0) (v y) one.0 two.0, (one.1, subst (λ m. G a.0 m y) one.0.ends two.1))

    complete : Stands words at (w (part y) ++ v y) to × (F at (part y) × G (part y) (at + length (w (part y))) y) → (r >>= f) words at ≡ Ok (y, to)
    complete h =
        let p = stands_cut (w (part y)) (v y) h.0 in
        ap (λ q. and_then q (λ x to. f x words to)) ((first words at (part y) (at + length (w (part y)))).1 (p.0, h.1.0))
        ∙ (rest (part y) at h.1.0 words (at + length (w (part y))) y to).1 (p.1, h.1.1)

-- a chain of values, each of which fits after those before it
module _ {S X : Type 0} (item : S → Reader X) (next : S → X → S) (written : X → List ℕ) (Fits : S → ℕ → X → Type 0) where
  abbrev pub Follow : S → ℕ → List X → Type 0
  Follow s at [] = Unit {0}
  Follow s at (x ∷ xs) = Fits s at x × Follow (next s x) (at + length (written x)) xs

  module _ (each : (s : S) → Describes (item s) written (Fits s)) where
    chain_sound : (s : S) (n : ℕ) (words : List ℕ) (at : ℕ) (xs : List X) (to : ℕ) → chain item next s n words at ≡ Ok (xs, to) → Stands words at (flat_map written xs) to × ((length xs ≡ n) × Follow s at xs)
    chain_sound s zero words at xs to e =
        subst (λ (v : List X × ℕ). Stands words at (flat_map written v.0) v.1 × ((length v.0 ≡ 0) × Follow s at v.0)) (ok_parts e) (stands_none words at, (refl, tt))
    chain_sound s (suc n) words at xs to e =
        let a = then_ok (item s words at) _ e in
        let b = then_ok (chain item next (next s a.0) n words a.1) _ a.3 in
        let one = (each s words at a.0 a.1).0 a.2 in
        let more = chain_sound (next s a.0) n words a.1 b.0 b.1 b.2 in
        subst (λ (v : List X × ℕ). Stands words at (flat_map written v.0) v.1 × ((length v.0 ≡ suc n) × Follow s at v.0)) (ok_parts b.3) (
          stands_join (written a.0) (flat_map written b.0) one.0 more.0,
          (ap suc more.1.0, (one.1, subst (λ m. Follow (next s a.0) m b.0) one.0.ends more.1.1)),
        )

    chain_complete : (s : S) (n : ℕ) (words : List ℕ) (at : ℕ) (xs : List X) (to : ℕ) → Stands words at (flat_map written xs) to × ((length xs ≡ n) × Follow s at xs) → chain item next s n words at ≡ Ok (xs, to)
    chain_complete s zero words at [] to h = let ends : at ≡ to = omega (arith, h.0.ends) in (λ i. Ok ([], ends i))
    chain_complete s zero words at (x ∷ xs) to h = absurd (omega (arith, h.1.0))
    chain_complete s (suc n) words at [] to h = absurd (omega (arith, h.1.0))
    chain_complete s (suc n) words at (x ∷ xs) to h =
        let parts = stands_cut (written x) (flat_map written xs) h.0 in
        let one = (each s words at x (at + length (written x))).1 (parts.0, h.1.1.0) in
        let more = chain_complete (next s x) n words (at + length (written x)) xs to (parts.1, (omega (arith, h.1.0), h.1.1.1)) in
        ap (λ r. and_then r (λ y m. and_then (chain item next (next s y) n words m) (λ ys b. Ok (y ∷ ys, b)))) one
        ∙ ap (λ r. and_then r (λ ys b. Ok (x ∷ ys, b))) more

    pub chain_d : (s : S) (n : ℕ) → Describes (chain item next s n) (flat_map written) (λ at xs. (length xs ≡ n) × Follow s at xs)
    chain_d s n words at xs to = (chain_sound s n words at xs to, chain_complete s n words at xs to)

  -- the same, where each value fits by a rule on the whole list
  module _ (G : S → ℕ → List X → Type 0) (none : (s : S) (at : ℕ) → G s at []) (more : (s : S) (at : ℕ) (x : X) (xs : List X) → (Fits s at x × G (next s x) (at + length (written x)) xs) ↔ G s at (x ∷ xs)) where
    follow_is : (s : S) (at : ℕ) (xs : List X) → Follow s at xs ↔ G s at xs
    follow_is s at [] = (λ _. none s at, λ _. tt)
    follow_is s at (x ∷ xs) =
        let rest = follow_is (next s x) (at + length (written x)) xs in
        (λ h. (more s at x xs).0 (h.0, rest.0 h.1), λ h. let k = (more s at x xs).1 h in (k.0, rest.1 k.1))

    pub chain_as : ((s : S) → Describes (item s) written (Fits s)) → (s : S) (n : ℕ) → Describes (chain item next s n) (flat_map written) (λ at xs. (length xs ≡ n) × G s at xs)
    chain_as each s n = said_d (chain_d each s n) (λ xs. refl) (λ at xs. (λ h. (h.0, (follow_is s at xs).0 h.1), λ h. (h.0, (follow_is s at xs).1 h.1)))
