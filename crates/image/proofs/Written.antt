-- Labels, type codes, values, type records and tables as they are written.
use Rattle.std.proofs.Common.{◌≡◌, ℕ, ◌+◌, ◌<◌, leb, ◌↔◌, List, [], ◌∷◌, length, Ok, sym, refl, ap, ◌∙◌, subst, append-nil, arith}
use Rattle.std.specs.List.{flat_map, AllByRecursion}
use Rattle.std.proofs.lemmas.List.Concat.{flat_map_single}
use Rattle.std.proofs.lemmas.Bool.{leb-true, le-leb, cond-true}
use Rattle.base.specs.declared.ids.Label.{Label}
use Rattle.image.specs.declared.records.Pair.{Pair}
use Rattle.image.specs.declared.types.TypeCode.{TypeCode}
use Rattle.image.specs.declared.types.TypeCode.TheVariants.{Integer, Truth, Name, Channel}
use Rattle.image.specs.Codes.{code_word, code_of, CodeFits}
use Rattle.image.specs.Format.{values_words, method_words, type_words, pair_words, table_words, ValuesFit, LabelFits, MethodFits, MethodsFit, TypeFits, PairFits, PairsFit, TableFits, TablesFit}
use Rattle.image.specs.Layout.{Method, Table, rising, label, code, many, values, method, after_method, type_record, pair, after_pair, table}
use Rattle.image.specs.Readers.{Reader, ◌>>=◌, and_then, done, chain, number}
use Rattle.image.proofs.Describing.{Stands, Describes, ok_parts, then_ok, cond_ok, number_d, count_d, said_d, done_d, here_d, then_d, chain_as}

pub label_d : (low : ℕ) → Describes (label low) (λ l. l.0 ∷ []) (λ _ l. LabelFits low l)
label_d low words at l to = (sound, complete)
  where
    sound : label low words at ≡ Ok (l, to) → Stands words at (l.0 ∷ []) to × LabelFits low l
    sound e =
        let a = then_ok (number 0 256 words at) _ e in
        let b = cond_ok (leb low a.0) _ _ a.3 in
        let one = (number_d 0 256 words at a.0 a.1).0 a.2 in
        subst (λ (v : Label × ℕ). Stands words at (v.0.0 ∷ []) v.1 × LabelFits low v.0) (ok_parts b.1)
        (one.0, record { small = one.1.1; rises = leb-true low a.0 b.0 })

    complete : Stands words at (l.0 ∷ []) to × LabelFits low l → label low words at ≡ Ok (l, to)
    complete h =
        ap (λ r. and_then r (λ k m. rising low at k words m)) ((number_d 0 256 words at l.0 to).1 (h.0, (omega arith, h.1.small)))
        ∙ cond-true _ _ _ (le-leb low l.0 h.1.rises)

-- ---- type codes

code_back : (c : TypeCode) → code_of (code_word c) ≡ c
code_back c = grind arith

word_back : (w : ℕ) → code_word (code_of w) ≡ w
word_back w = grind arith

code_below : (types : ℕ) (c : TypeCode) → (code_word c < types + 3) ↔ CodeFits types c
code_below types Integer = (λ _. tt, λ _. omega arith)
code_below types Truth = (λ _. tt, λ _. omega arith)
code_below types Name = (λ _. tt, λ _. omega arith)
code_below types (Channel k) = (λ h. omega arith, λ h. omega arith)

pub code_d : (types : ℕ) → Describes (code types) (λ c. code_word c ∷ []) (λ _ c. CodeFits types c)
code_d types =
    said_d (then_d code_word (number_d 0 (types + 3)) (λ w m h. done_d (code_of w)) (λ w at c e. ap code_word e ∙ word_back w)) (λ c. refl)
    (λ at c. (λ h. (code_below types c).0 h.0.1, λ h. ((omega arith, (code_below types c).1 h), sym (code_back c))))

-- ---- many of a kind

pub many_d : {X : Type 0} (item : Reader X) (written : X → List ℕ) (Fits : X → Type 0) → Describes item written (λ _ x. Fits x) → (n : ℕ) → Describes (many item n) (flat_map written) (λ _ xs. (length xs ≡ n) × AllByRecursion Fits xs)
many_d item written Fits d n = chain_as {S = Unit {0}} (λ _. item) (λ s _. s) written (λ _ _ x. Fits x) (λ _ _ xs. AllByRecursion Fits xs) (λ _ _. tt) (λ _ _ _ _. (λ h. h, λ h. h)) (λ _. d) tt n

pub values_d : (types most : ℕ) → Describes (values types most) values_words (λ _ cs. ValuesFit types most cs)
values_d types most =
    said_d (then_d length (count_d 0 most) (λ n m h. many_d (code types) (λ c. code_word c ∷ []) (CodeFits types) (code_d types) n) (λ n at cs h. h.0))
    (λ cs. ap (λ l. length cs ∷ l) (flat_map_single code_word cs))
    (λ at cs. (λ h. record { few = h.0.1; known = h.1.1 }, λ h. ((omega arith, h.few), (refl, h.known))))

-- ---- type records

abbrev with_label : Label → List TypeCode → Method
with_label l cs = record { label = l; codes = cs }

pub method_d : (types low : ℕ) → Describes (method types low) method_words (λ _ m. MethodFits types low m)
method_d types low =
    said_d
    (then_d (λ m. m.label) (label_d low)
    (λ l k h. then_d (λ m. m.codes) (values_d types 8) (λ cs k h. done_d (with_label l cs)) (λ cs at m e. ap (λ m. m.codes) e))
    (λ l at m h. ap (λ m. m.label) h.1))
    (λ m. ap (λ l. m.label.0 ∷ l) (append-nil (values_words m.codes)))
    (λ at m. (λ h. record { label = h.0; codes = h.1.0 }, λ h. (h.label, (h.codes, refl))))

methods_d : (types n : ℕ) → Describes (chain (method types) after_method 0 n) (flat_map method_words) (λ _ ms. (length ms ≡ n) × MethodsFit types 0 ms)
methods_d types n = chain_as (method types) after_method method_words (λ low _ m. MethodFits types low m) (λ low _ ms. MethodsFit types low ms) (λ _ _. tt) (λ _ _ _ _. (λ h. h, λ h. h)) (method_d types) 0 n

pub type_d : (types : ℕ) → Describes (type_record types) type_words (λ _ ms. TypeFits types ms)
type_d types =
    said_d
    (then_d length (count_d 0 16) (λ n m h. methods_d types n) (λ n at ms h. h.0))
    (λ ms. refl)
    (λ at ms. (λ h. record { few = h.0.1; methods = h.1.1 }, λ h. ((omega arith, h.few), (refl, h.methods))))

-- ---- tables

abbrev with_block : Label → ℕ → Pair
with_block l b = record { label = l; block = record { 0 = b } }

pub pair_d : (blocks low : ℕ) → Describes (pair blocks low) pair_words (λ _ p. PairFits blocks low p)
pair_d blocks low =
    said_d
    (then_d (λ p. p.label) (label_d low)
    (λ l k h. then_d (λ p. p.block.0) (number_d 0 blocks) (λ b k h. done_d (with_block l b)) (λ b at p e. ap (λ p. p.block.0) e))
    (λ l at p h. ap (λ p. p.label) h.1))
    (λ p. refl)
    (λ at p. (λ h. record { label = h.0; block = h.1.0.1 }, λ h. (h.label, ((omega arith, h.block), refl))))

pairs_d : (blocks n : ℕ) → Describes (chain (pair blocks) after_pair 0 n) (flat_map pair_words) (λ _ ps. (length ps ≡ n) × PairsFit blocks 0 ps)
pairs_d blocks n = chain_as (pair blocks) after_pair pair_words (λ low _ p. PairFits blocks low p) (λ low _ ps. PairsFit blocks low ps) (λ _ _. tt) (λ _ _ _ _. (λ h. h, λ h. h)) (pair_d blocks) 0 n

abbrev with_pairs : ℕ → List Pair → Table
with_pairs start ps = record { start = start; pairs = ps }

pub table_d : (blocks : ℕ) → Describes (table blocks) table_words (λ at t. TableFits blocks at t)
table_d blocks =
    said_d
    (then_d (λ t. length t.pairs) (count_d 1 16)
    (λ n k h. here_d (λ start. chain (pair blocks) after_pair 0 n >>= λ ps. done (with_pairs start ps))
    (λ words at. then_d (λ t. t.pairs) (pairs_d blocks n) (λ ps k h. done_d (with_pairs at ps)) (λ ps at t e. ap (λ t. t.pairs) e) words at))
    (λ n at t h. h.0.0))
    (λ t. ap (λ l. length t.pairs ∷ l) (append-nil (flat_map pair_words t.pairs)))
    (λ at t. (
      λ h. record { some = h.0.0; few = h.0.1; start = ap (λ t. t.start) h.1.1; pairs = h.1.0.1 },
      λ h. ((h.some, h.few), ((refl, h.pairs), ap (λ s. with_pairs s t.pairs) h.start)),
    ))

pub tables_d : (blocks n : ℕ) → Describes (many (table blocks) n) (flat_map table_words) (λ at ts. (length ts ≡ n) × TablesFit blocks at ts)
tables_d blocks n = chain_as {S = Unit {0}} (λ _. table blocks) (λ s _. s) table_words (λ _ at t. TableFits blocks at t) (λ _ at ts. TablesFit blocks at ts) (λ _ _. tt) (λ _ _ _ _. (λ h. h, λ h. h)) (λ _. table_d blocks) tt n
