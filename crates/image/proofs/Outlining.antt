-- The outline of an image, by the calls that read its records.
use Rattle.std.proofs.Common.{◌≡◌, ℕ, Bool, true, false, cond, ltb, List, map, length, Ok, Err, Result, sym, refl, ap, ◌∙◌}
use Rattle.base.specs.declared.refusal.Cause.TheVariants.{RecordEnd}
use Rattle.base.specs.declared.refusal.Refusal.{Refusal}
use Rattle.base.specs.Refusals.{refused as refused_at}
use Rattle.image.specs.declared.counts.Counts.{Counts}
use Rattle.image.specs.declared.cursor.Cursor.{Cursor}
use Rattle.image.specs.Cursor.{Reads}
use Rattle.image.specs.Layout.{Method, Block, Table, Structure, block, after_block, table, many, type_record, records, header, ended, layout}
use Rattle.image.specs.Readers.{Read, Reader, ◌>>=◌, and_then, done, chain, kept, answered}
use Rattle.base.specs.Outcomes.{read_as}
use Rattle.image.specs.View.{Head, Outline, head, outline}
use Rattle.image.proofs.Composing.{next, refused, known}

-- what is read behind the types, and behind the blocks
abbrev after_types : Counts → List (List Method) → Reader Structure
after_types n ts = chain (block n) after_block 0 n.blocks >>= λ bs. many (table n.blocks) n.tables >>= λ ms. done (record { types = ts; blocks = bs; tables = ms; names = n.names })

abbrev after_blocks : Counts → List (List Method) → List Head → Reader Outline
after_blocks n ts hs = many (table n.blocks) n.tables >>= λ ms. done (record { types = ts; blocks = hs; tables = ms; names = n.names })

abbrev Heads : Counts → Reader (List Head)
Heads n words at = kept (map head) (chain (block n) after_block 0 n.blocks words at)

-- of a block its head alone is seen
heads_alone : (n : Counts) (ts : List (List Method)) (words : List ℕ) (at : ℕ) → kept outline (after_types n ts words at) ≡ (Heads n >>= after_blocks n ts) words at
heads_alone n ts words at = blocks (chain (block n) after_block 0 n.blocks words at)
  where
    tables : (bs : List Block) (r : Read (List Table)) → kept outline (and_then r (λ ms to. Ok (record { types = ts; blocks = bs; tables = ms; names = n.names }, to))) ≡ and_then r (λ ms to. Ok (record { types = ts; blocks = map head bs; tables = ms; names = n.names }, to))
    tables bs (Ok p) = refl
    tables bs (Err e) = refl

    blocks : (r : Read (List Block)) → kept outline (and_then r (λ bs to. and_then (many (table n.blocks) n.tables words to) (λ ms to. Ok (record { types = ts; blocks = bs; tables = ms; names = n.names }, to)))) ≡ and_then (kept (map head) r) (λ hs to. after_blocks n ts hs words to)
    blocks (Ok p) = tables p.0 (many (table n.blocks) n.tables words p.1)
    blocks (Err e) = refl

abbrev Types : Counts → Reader (List (List Method))
Types n = many (type_record n.types) n.types

abbrev Tables : Counts → Reader (List Table)
Tables n = many (table n.blocks) n.tables

abbrev Outlined : Counts → Reader Outline
Outlined n words at = kept outline (records n words at)

-- the records, of whose blocks the heads alone are seen
behind_types : {V W : Type 0} {f : W → List (List Method)} {g : V → Outline} {a b c : Cursor} {ts : W} {v : Result V Refusal} → Reads Types f a (Ok ts) b → Reads (λ n. Heads n >>= after_blocks n (f ts)) g b v c → Reads Outlined g a v c
behind_types {f} {b} {ts} h k = next (kept outline) after_types h (record { value = k.value ∙ sym (heads_alone b.counts (f ts) b.words.now b.at); words = k.words; counts = k.counts })

pub blocks_refused : {U V : Type 0} {types : U → List (List Method)} {blocks : V → List Head} {a b c : Cursor} {ts : U} {e : Refusal} → Reads Types types a (Ok ts) b → Reads Heads blocks b (Err e) c → Reads Outlined (λ o. o) a (Err e) c
blocks_refused {types} {ts} h k = behind_types h (refused (λ r. r) refl (λ n. after_blocks n (types ts)) k)

module _ {U V W : Type 0} {types : U → List (List Method)} {blocks : V → List Head} {tables : W → List Table} {a b c d : Cursor} {ts : U} where
  pub tables_refused : {bs : V} {e : Refusal} → Reads Types types a (Ok ts) b → Reads Heads blocks b (Ok bs) c → Reads Tables tables c (Err e) d → Reads Outlined (λ o. o) a (Err e) d
  tables_refused {bs} h k l =
      behind_types h (next (λ r. r) (λ n. after_blocks n (types ts)) k
      (refused (λ r. r) refl (λ n ms. done (record { types = types ts; blocks = blocks bs; tables = ms; names = n.names })) l))

  pub records_read : {bs : V} {ms : W} → Reads Types types a (Ok ts) b → Reads Heads blocks b (Ok bs) c → Reads Tables tables c (Ok ms) d → Reads Outlined (λ o. o) a (Ok (record { types = types ts; blocks = blocks bs; tables = tables ms; names = d.counts.names })) d
  records_read {bs} {ms} h k l =
      behind_types h (next (λ r. r) (λ n. after_blocks n (types ts)) k
      (next (λ r. r) (λ n ms. done (record { types = types ts; blocks = blocks bs; tables = ms; names = n.names })) l
      (known (λ n. record { types = types ts; blocks = blocks bs; tables = tables ms; names = n.names }) refl)))

-- ---- the whole

seen_end : (words : List ℕ) (r : Read Structure) → read_as outline (ended words r) ≡ ended words (kept outline r)
seen_end words (Ok p) = go (ltb p.1 (length words))
  where
    go : (b : Bool) → read_as outline (cond b (refused_at RecordEnd p.1) (Ok p.0)) ≡ cond b (refused_at RecordEnd p.1) (Ok (outline p.0))
    go true = refl
    go false = refl
seen_end words (Err e) = refl

pub outlined : {V : Type 0} {g : V → Outline} {start new : Cursor} {v : Result V Refusal} {words : List ℕ} → Ok (start.counts, start.at) ≡ header words → start.words.now ≡ words → Reads Outlined g start v new → ended words (answered g v new.at) ≡ read_as outline (layout words)
outlined {start} {words} e w h =
    ap (ended words) (h.value ∙ (λ j. kept outline (records start.counts (w j) start.at))) ∙ sym (seen_end words (records start.counts words start.at))
    ∙ ap (λ r. read_as outline (ended words (and_then r (λ n to. records n words to)))) e

-- whether words are left goes by the place alone
module _ {X Y : Type 0} (x : X) (y : Y) (words : List ℕ) (at : ℕ) where
  left_over : {e : Refusal} → Err e ≡ ended words (Ok (x, at)) → Err e ≡ ended words (Ok (y, at))
  left_over {e} = go (ltb at (length words))
    where
      go : (b : Bool) → Err e ≡ cond b (refused_at RecordEnd at) (Ok x) → Err e ≡ cond b (refused_at RecordEnd at) (Ok y)
      go true h = cc
      go false h = absurd cc

  none_left : Ok x ≡ ended words (Ok (x, at)) → Ok y ≡ ended words (Ok (y, at))
  none_left = go (ltb at (length words))
    where
      go : (b : Bool) → Ok x ≡ cond b (refused_at RecordEnd at) (Ok x) → Ok y ≡ cond b (refused_at RecordEnd at) (Ok y)
      go true h = absurd cc
      go false h = refl

module _ {start end : Cursor} {o : Outline} {words : List ℕ} (e : Ok (start.counts, start.at) ≡ header words) (w : start.words.now ≡ words) (all : Reads Outlined (λ o. o) start (Ok o) end) where
  same_end : {X : Type 0} (x : X) → ended end.words.now (Ok (x, end.at)) ≡ ended words (Ok (x, end.at))
  same_end x = (λ j. ended (all.words j).now (Ok (x, end.at))) ∙ (λ j. ended (w j) (Ok (x, end.at)))

  pub refused_end : {X : Type 0} (x : X) {d : Refusal} → ◌≡◌ {A = Result X Refusal} (Err d) (ended end.words.now (Ok (x, end.at))) → Err d ≡ read_as outline (layout words)
  refused_end x h = left_over x o words end.at (h ∙ same_end x) ∙ outlined e w all

  pub reached_end : {X : Type 0} {x : X} → ◌≡◌ {A = Result X Refusal} (Ok x) (ended end.words.now (Ok (x, end.at))) → Ok o ≡ read_as outline (layout words)
  reached_end {x} h = none_left x o words end.at (h ∙ same_end x) ∙ outlined e w all
