-- An image is accepted exactly when it is the encoding of a structure that fits.
use Rattle.std.proofs.Common.{◌≡◌, ℕ, ◌+◌, ◌≤◌, Bool, true, false, cond, eqb, ltb, leb, List, [], ◌∷◌, ◌++◌, length, get_or, drop, Ok, Err, Result, sym, refl, ap, ◌∙◌, subst, append-nil, arith, length-drop}
use Rattle.std.specs.List.{flat_map, AllByRecursion}
use Rattle.std.proofs.lemmas.List.{drop_all, drop_more}
use Rattle.std.proofs.lemmas.Bool.{and_parts, and_from, leb-true, le-leb, le-ltb, ltb-false, eqb-true, eq-eqb, cond-true, cond-false}
use Rattle.base.specs.declared.refusal.Refusal.{Refusal}
use Rattle.image.specs.declared.counts.Counts.{Counts}
use Rattle.image.specs.Format.{type_words, block_words, table_words, record_words, image_words, counts_of, TypeFits, BlocksFit, TablesFit, Fits, AcceptsExactly}
use Rattle.image.specs.Layout.{Method, Block, Table, Structure, type_record, counts, total, records, ended, header, sized, layout}
use Rattle.image.specs.Readers.{Read, and_then}
use Rattle.image.proofs.Describing.{Stands, Describes, ok_parts, then_ok, cond_ok, count_d, said_d, done_d, then_d}
use Rattle.image.proofs.Written.{type_d, many_d, tables_d}
use Rattle.image.proofs.Coded.{blocks_d}

-- ---- the counts

abbrev with_counts : ℕ → ℕ → ℕ → ℕ → Counts
with_counts t b m n = record { types = t; blocks = b; tables = m; names = n }

pub record CountsFit (n : Counts) : Type 0 where
  pub types : n.types ≤ 64
  pub some : 1 ≤ n.blocks
  pub blocks : n.blocks ≤ 128
  pub tables : n.tables ≤ 128
  pub names : n.names ≤ 128

counts_d : Describes counts (λ n. n.types ∷ n.blocks ∷ n.tables ∷ n.names ∷ []) (λ _ n. CountsFit n)
counts_d =
    said_d {G = λ _ n. CountsFit n}
    (then_d (λ n. n.types) (count_d 0 64)
    (λ t k h. then_d (λ n. n.blocks) (count_d 1 128)
    (λ b k h. then_d (λ n. n.tables) (count_d 0 128)
    (λ m k h. then_d (λ n. n.names) (count_d 0 128) (λ n k h. done_d (with_counts t b m n)) (λ n at y e. ap (λ n. n.names) e))
    (λ m at y h. ap (λ n. n.tables) h.1))
    (λ b at y h. ap (λ n. n.blocks) h.1.1))
    (λ t at y h. ap (λ n. n.types) h.1.1.1))
    (λ n. refl)
    (λ at n. (
      λ h. record { types = h.0.1; some = h.1.0.0; blocks = h.1.0.1; tables = h.1.1.0.1; names = h.1.1.1.0.1 },
      λ h. ((omega arith, h.types), ((h.some, h.blocks), ((omega arith, h.tables), ((omega arith, h.names), refl)))),
    ))

-- ---- the records

abbrev with_records : List (List Method) → List Block → List Table → ℕ → Structure
with_records ts bs ms n = record { types = ts; blocks = bs; tables = ms; names = n }

-- a structure of so many records, written from a place on
pub record RecordsFit (n : Counts) (at : ℕ) (s : Structure) : Type 0 where
  pub counted : counts_of s ≡ n
  pub types : AllByRecursion (TypeFits n.types) s.types
  pub blocks : BlocksFit n 0 (at + length (flat_map type_words s.types)) s.blocks
  pub tables : TablesFit n.blocks (at + length (flat_map type_words s.types) + length (flat_map block_words s.blocks)) s.tables

records_d : (n : Counts) → Describes (records n) record_words (RecordsFit n)
records_d n =
    said_d {G = RecordsFit n}
    (then_d (λ s. s.types) (many_d (type_record n.types) type_words (TypeFits n.types) (type_d n.types) n.types)
    (λ ts k h. then_d (λ s. s.blocks) (blocks_d n n.blocks)
    (λ bs k h. then_d (λ s. s.tables) (tables_d n.blocks n.tables) (λ ms k h. done_d (with_records ts bs ms n.names)) (λ ms at s e. ap (λ s. s.tables) e))
    (λ bs at s h. ap (λ s. s.blocks) h.1))
    (λ ts at s h. ap (λ s. s.types) h.1.1))
    (λ s. ap (λ l. flat_map type_words s.types ++ (flat_map block_words s.blocks ++ l)) (append-nil (flat_map table_words s.tables)))
    (λ at s. (
      λ h. record {
        counted =
            let t = h.0.0 in
            let b = h.1.0.0 in
            let m = h.1.1.0.0 in
            let k = ap (λ s. s.names) h.1.1.1 in
            (λ i. with_counts (t i) (b i) (m i) (k i));
        types = h.0.1;
        blocks = h.1.0.1;
        tables = h.1.1.0.1;
      },
      λ h. (
        (ap (λ n. n.types) h.counted, h.types),
        (
          (ap (λ n. n.blocks) h.counted, h.blocks),
          ((ap (λ n. n.tables) h.counted, h.tables), ap (λ k. with_records s.types s.blocks s.tables k) (ap (λ n. n.names) h.counted)),
        ),
      ),
    ))

-- ---- the whole

ended_ok : (words : List ℕ) (r : Read Structure) {s : Structure} → ended words r ≡ Ok s → (to : ℕ) × (r ≡ Ok (s, to)) × (length words ≤ to)
ended_ok words (Ok p) {s} e =
    let k = cond_ok' (ltb p.1 (length words)) _ _ e in
    let is : p.0 ≡ s = cc in
    (p.1, ap (λ (s : Structure). Ok (s, p.1)) is, ltb-false p.1 (length words) k.0)
  where
    cond_ok' : (b : Bool) (d : Refusal) (t : Structure) → cond b (Err d) (Ok t) ≡ Ok s → (b ≡ false) × (◌≡◌ {A = Result Structure Refusal} (Ok t) (Ok s))
    cond_ok' true d t e = absurd cc
    cond_ok' false d t e = (refl, e)
ended_ok words (Err d) e = absurd cc

total_ok : (words : List ℕ) (at : ℕ) {u : Unit {0}} {to : ℕ} → total words at ≡ Ok (u, to) → (get_or words at 0 ≡ length words) × (to ≡ at + 1)
total_ok words at e =
    let k = cond_ok (eqb (get_or words at 0) (length words)) _ _ e in
    (eqb-true (get_or words at 0) (length words) k.0, sym (ap (λ v. v.1) (ok_parts k.1)))

-- all that is read: the header, and the records behind it
abbrev pub whole : List ℕ → Read Structure
whole words = and_then (header words) (λ n to. records n words to)

-- the counts, word 4 and the records, one after another
pub record Steps (words : List ℕ) (s : Structure) (to : ℕ) : Type 0 where
  pub n : Counts
  pub long : sized words ≡ true
  pub front : counts words 0 ≡ Ok (n, 4)
  pub size : get_or words 4 0 ≡ length words
  pub body : records n words 5 ≡ Ok (s, to)

pub steps : (words : List ℕ) (s : Structure) (to : ℕ) → whole words ≡ Ok (s, to) → Steps words s to
steps words s to e =
    let h = then_ok (header words) _ e in
    let k = cond_ok (sized words) _ _ h.2 in
    let a = then_ok (counts words 0) _ k.1 in
    let b = then_ok (total words a.1) _ a.3 in
    let same = ok_parts b.3 in
    let four : a.1 ≡ 4 = ((counts_d words 0 a.0 a.1).0 a.2).0.ends in
    let size = total_ok words a.1 b.2 in
    let five : h.1 ≡ 5 = sym (ap (λ v. v.1) same) ∙ size.1 ∙ ap (λ m. m + 1) four in
    record {
      n = h.0;
      long = k.0;
      front = a.2 ∙ (λ j. Ok ((same j).0, four j));
      size = subst (λ m. get_or words m 0 ≡ length words) four size.0;
      body = subst (λ m. records h.0 words m ≡ Ok (s, to)) five h.3;
    }

-- a structure that was read is written behind the counts
pub body_stands : (words : List ℕ) (s : Structure) (to : ℕ) → whole words ≡ Ok (s, to) → Stands words 5 (record_words s) to
body_stands words s to e = let p = steps words s to e in ((records_d p.n words 5 s to).0 p.body).0

-- the five counts in front of the records
abbrev fronted : Counts → List ℕ → List ℕ
fronted n rest = n.types ∷ n.blocks ∷ n.tables ∷ n.names ∷ (5 + length rest) ∷ rest

sound : (words : List ℕ) (s : Structure) → layout words ≡ Ok s → (words ≡ image_words s) × Fits s
sound words s e =
    let whole = ended_ok words _ e in
    let p = steps words s whole.0 whole.1 in
    let long = and_parts (leb 5 (length words)) (leb (length words) 8192) p.long in
    let least = leb-true 5 (length words) long.0 in
    let most = leb-true (length words) 8192 long.1 in
    let c = (counts_d words 0 p.n 4).0 p.front in
    let r = (records_d p.n words 5 s whole.0).0 p.body in
    let rest : drop 5 words ≡ record_words s = r.0.begins ∙ ap (λ l. record_words s ++ l) (drop_all whole.0 words whole.2) ∙ append-nil (record_words s) in
    let size : length words ≡ 5 + length (record_words s) = omega (arith, length-drop 5 words, ap length rest) in
    let fifth : drop 4 words ≡ (5 + length (record_words s)) ∷ record_words s = drop_more words 4 0 (omega arith) ∙ (λ i. (p.size ∙ size) i ∷ rest i) in
    let is : words ≡ fronted p.n (record_words s) = c.0.begins ∙ ap (λ l. p.n.types ∷ p.n.blocks ∷ p.n.tables ∷ p.n.names ∷ l) fifth in
    subst (λ n. words ≡ fronted n (record_words s) → CountsFit n → RecordsFit n 5 s → (words ≡ image_words s) × Fits s) r.1.counted
    (λ is few fit. (
      is,
      record {
        few_types = few.types;
        some_blocks = few.some;
        few_blocks = few.blocks;
        few_tables = few.tables;
        few_names = few.names;
        short = omega (arith, ap length is, most);
        types = fit.types;
        blocks = fit.blocks;
        tables = fit.tables;
      },
    )) is c.1 r.1

complete : (s : Structure) → Fits s → layout (image_words s) ≡ Ok s
complete s h =
    let words = image_words s in
    let n = counts_of s in
    let front : counts words 0 ≡ Ok (n, 4) = (counts_d words 0 n 4).1 (record { begins = refl; ends = refl }, record { types = h.few_types; some = h.some_blocks; blocks = h.few_blocks; tables = h.few_tables; names = h.few_names }) in
    let size : total words 4 ≡ Ok (tt, 5) = cond-true _ _ _ (eq-eqb (5 + length (record_words s)) (length words) (omega arith)) in
    let body : records n words 5 ≡ Ok (s, length words) = (records_d n words 5 s (length words)).1 (
      record { begins = sym (append-nil (record_words s)) ∙ ap (λ l. record_words s ++ l) (sym (drop_all (length words) words (omega arith))); ends = omega arith },
      record { counted = refl; types = h.types; blocks = h.blocks; tables = h.tables },
    ) in
    let head : header words ≡ Ok (n, 5) = cond-true _ _ _ (and_from _ _ (le-leb 5 (length words) (omega arith)) (le-leb (length words) 8192 h.short)) ∙ ap (λ v. and_then v (λ n to. and_then (total words to) (λ _ to. Ok (n, to)))) front ∙ ap (λ v. and_then v (λ (_ : Unit {0}) to. Ok (n, to))) size in
    ap (ended words) (ap (λ v. and_then v (λ n to. records n words to)) head ∙ body)
    ∙ cond-false _ _ _ (le-ltb (length words) (length words) (omega arith))

pub accepts_exactly : (words : List ℕ) → AcceptsExactly words
accepts_exactly words s = (sound words s, λ h. ap layout h.0 ∙ complete s h.1)
