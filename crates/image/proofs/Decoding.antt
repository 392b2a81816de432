-- Decoding undoes encoding, and nothing else is decoded.
use Rattle.std.proofs.Common.{◌≡◌, ℕ, Bool, true, false, ◌&&◌, List, [], ◌∷◌, ◌++◌, Some, Option, sym, refl, ap, ◌∙◌, subst}
use Rattle.std.proofs.lemmas.Bool.{and_parts, and_from}
use Rattle.image.specs.declared.instruction.Instruction.{Instruction}
use Rattle.image.specs.Encoded.{encoded, OperandsFit, Decodes}
use Rattle.image.specs.Opcodes.{Form, unknown, bare, one, two, form_of, in_range, widest, taken_if, before, filled, decoded}
use Rattle.image.proofs.Coding.{Right, Entry, Built, by_none, by_one, by_two, entry, built, in_from, in_true}

abbrev Found : Type 0
Found = Option (Instruction × List ℕ)

-- an instruction that is taken passed its test
taken : (b : Bool) (j i : Instruction) (ws rest : List ℕ) → before ws (taken_if b j) ≡ Some (i, rest) → (b ≡ true) × (◌≡◌ {A = Instruction × List ℕ} (j, ws) (i, rest))
taken true j i ws rest e = (refl, cc)
taken false j i ws rest e = absurd cc

abbrev StandsFirst : List ℕ → Instruction → List ℕ → Type 0
StandsFirst ws i rest = (ws ≡ encoded i ++ rest) × OperandsFit widest i

stood : (o : List ℕ) (j i : Instruction) (ws rest : List ℕ) → Right widest j o → ◌≡◌ {A = Instruction × List ℕ} (j, ws) (i, rest) → StandsFirst (o ++ ws) i rest
stood o j i ws rest r e = subst (λ (v : Instruction × List ℕ). StandsFirst (o ++ ws) v.0 v.1) e (ap (λ l. l ++ ws) (sym r.written), r.fit)

there : (o : ℕ) (f : Form) → Entry o f → (ws : List ℕ) (i : Instruction) (rest : List ℕ) → filled f ws ≡ Some (i, rest) → StandsFirst (o ∷ ws) i rest
there o unknown n ws i rest e = absurd cc
there o (bare j) n ws i rest e = let p : ◌≡◌ {A = Instruction × List ℕ} (j, ws) (i, rest) = cc in stood (o ∷ []) j i ws rest (n widest) p
there o (one k f) n [] i rest e = absurd cc
there o (one k f) n (a ∷ ws) i rest e =
    let t = taken (in_range widest k a) (f a) i ws rest e in
    stood (o ∷ a ∷ []) (f a) i ws rest (n widest a (in_from widest k a t.0)) t.1
there o (two k l f) n [] i rest e = absurd cc
there o (two k l f) n (a ∷ []) i rest e = absurd cc
there o (two k l f) n (a ∷ b ∷ ws) i rest e =
    let t = taken (in_range widest k a && in_range widest l b) (f a b) i ws rest e in
    let p = and_parts (in_range widest k a) (in_range widest l b) t.0 in
    stood (o ∷ a ∷ b ∷ []) (f a b) i ws rest (n widest a b (in_from widest k a p.0) (in_from widest l b p.1)) t.1

found : (ws : List ℕ) (i : Instruction) (rest : List ℕ) → decoded ws ≡ Some (i, rest) → StandsFirst ws i rest
found [] i rest e = absurd cc
found (o ∷ ws) i rest e = there o (form_of o) (entry o) ws i rest e

back : (i : Instruction) (rest : List ℕ) → Built widest i → decoded (encoded i ++ rest) ≡ Some (i, rest)
back i rest (by_none o small e w) = ap (λ l. decoded (l ++ rest)) w ∙ ap (λ f. filled f rest) e
back i rest (by_one o k f a small e is h w) =
    ap (λ l. decoded (l ++ rest)) w ∙ ap (λ g. filled g (a ∷ rest)) e
    ∙ ap (λ b. before rest (taken_if b (f a))) (in_true widest k a h) ∙ ap (λ j. Some (j, rest)) is
back i rest (by_two o k l f a b small e is h m w) =
    ap (λ l. decoded (l ++ rest)) w ∙ ap (λ g. filled g (a ∷ b ∷ rest)) e
    ∙ ap (λ t. before rest (taken_if t (f a b))) (and_from _ _ (in_true widest k a h) (in_true widest l b m)) ∙ ap (λ j. Some (j, rest)) is

pub decodes : (ws : List ℕ) → Decodes ws
decodes ws i rest = (found ws i rest, λ h. ap decoded h.0 ∙ back i rest (built widest i h.1))
