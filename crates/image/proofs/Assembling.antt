-- Words from bytes, and the way back.
use Rattle.std.proofs.Common.{◌≡◌, ℕ, zero, suc, ◌*◌, ◌/◌, ◌%◌, ◌<◌, ◌≤◌, ◌&&◌, eqb, leb, List, [], ◌∷◌, ◌++◌, length, map, get_or, Ok, sym, refl, ap, ◌∙◌, arith}
use Rattle.std.specs.Int.{w32, from_le_bytes}
use Rattle.std.specs.List.{flat_map}
use Rattle.std.specs.Simd.{first_chunks}
use Rattle.std.proofs.lemmas.Bool.{and_parts, and_from, eqb-true, eq-eqb, le-leb, cond-true}
use Rattle.image.specs.Bytes.{word, assembled, word_bytes, words_in, BytesBack}
use Rattle.image.proofs.Describing.{cond_ok}

-- the words of the bytes in parts of four
pub parts_assembled : (bs : List ℕ) (n : ℕ) → length bs ≡ 4 * n → map (from_le_bytes w32) (first_chunks 4 n bs) ≡ assembled bs
parts_assembled [] zero e = refl
parts_assembled [] (suc n) e = absurd (omega arith)
parts_assembled (a ∷ []) n e = absurd (omega arith)
parts_assembled (a ∷ b ∷ []) n e = absurd (omega arith)
parts_assembled (a ∷ b ∷ c ∷ []) n e = absurd (omega arith)
parts_assembled (a ∷ b ∷ c ∷ d ∷ bs) zero e = absurd (omega arith)
parts_assembled (a ∷ b ∷ c ∷ d ∷ bs) (suc n) e =
    let first : from_le_bytes w32 (a ∷ b ∷ c ∷ d ∷ []) ≡ word a b c d = omega arith in
    let more = parts_assembled bs n (omega arith) in
    (λ i. first i ∷ more i)

-- whole words, and few enough, are read
pub whole : (bs ws : List ℕ) → length bs % 4 ≡ 0 → length bs / 4 ≤ 8192 → ws ≡ map (from_le_bytes w32) (first_chunks 4 (length bs / 4) bs) → Ok ws ≡ words_in bs
whole bs ws none few is =
    ap Ok (is ∙ parts_assembled bs (length bs / 4) (omega arith))
    ∙ sym (cond-true _ _ _ (and_from _ _ (eq-eqb (length bs % 4) 0 none) (le-leb (length bs / 4) 8192 few)))

-- ---- the bytes of the words

four_back : (a b c d : ℕ) → a < 256 → b < 256 → c < 256 → word_bytes (word a b c d) ≡ a ∷ b ∷ c ∷ d ∷ []
four_back a b c d ha hb hc =
    let w = word a b c d in
    let e0 : w % 256 ≡ a = omega arith in
    let e1 : w / 256 % 256 ≡ b = omega arith in
    let e2 : w / 65536 % 256 ≡ c = omega arith in
    let e3 : w / 16777216 ≡ d = omega arith in
    (λ i. e0 i ∷ e1 i ∷ e2 i ∷ e3 i ∷ [])

joined_back : (bs : List ℕ) (n : ℕ) → length bs ≡ 4 * n → ((i : ℕ) → get_or bs i 0 < 256) → flat_map word_bytes (assembled bs) ≡ bs
joined_back [] n e small = refl
joined_back (a ∷ []) n e small = absurd (omega arith)
joined_back (a ∷ b ∷ []) n e small = absurd (omega arith)
joined_back (a ∷ b ∷ c ∷ []) n e small = absurd (omega arith)
joined_back (a ∷ b ∷ c ∷ d ∷ bs) zero e small = absurd (omega arith)
joined_back (a ∷ b ∷ c ∷ d ∷ bs) (suc n) e small =
    ap (λ l. l ++ flat_map word_bytes (assembled bs)) (four_back a b c d (small 0) (small 1) (small 2))
    ∙ ap (λ l. a ∷ b ∷ c ∷ d ∷ l) (joined_back bs n (omega arith) (λ i. small (suc (suc (suc (suc i))))))

pub bytes_back : (bs : List ℕ) → BytesBack bs
bytes_back bs small ws e =
    let k = cond_ok (eqb (length bs % 4) 0 && leb (length bs / 4) 8192) _ _ e in
    let p = and_parts _ _ k.0 in
    let whole : length bs ≡ 4 * (length bs / 4) = omega (arith, eqb-true (length bs % 4) 0 p.0) in
    let is : assembled bs ≡ ws = cc in
    ap (flat_map word_bytes) (sym is) ∙ joined_back bs (length bs / 4) whole small
