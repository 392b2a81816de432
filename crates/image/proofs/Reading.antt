-- Loops that read: what was read so far, in front of a chain of what is still to be read.
use Rattle.std.proofs.Common.{◌≡◌, ℕ, zero, suc, ◌+◌, ◌-◌, ◌<◌, List, [], ◌∷◌, ◌++◌, map, length, Some, None, Option, Result, Ok, Err, sym, refl, ap, ◌∙◌, append_assoc, arith, length-append}
use Rattle.std.specs.List.{slice_get}
use Rattle.std.proofs.Math.Seq.{get_or-append_seam}
use Rattle.std.proofs.lemmas.List.{map_push}
use Rattle.std.proofs.lemmas.Option.{slice_get_read}
use Rattle.base.specs.declared.refusal.Refusal.{Refusal}
use Rattle.std.specs.Option.{option_map}
use Rattle.image.specs.declared.counts.Counts.{Counts}
use Rattle.image.specs.declared.cursor.Cursor.{Cursor}
use Rattle.image.specs.Cursor.{Reads}
use Rattle.image.specs.Readers.{Read, Reader, and_then, chain, kept, last_of, answered}

-- values read before, in front of those still to be read
abbrev pub prefixed : {X : Type 0} → List X → Read (List X) → Read (List X)
prefixed xs (Ok p) = Ok (xs ++ p.0, p.1)
prefixed xs (Err e) = Err e

prefixed_last : {X : Type 0} (xs : List X) (x : X) (r : Read (List X)) → prefixed xs (and_then r (λ ys to. Ok (x ∷ ys, to))) ≡ prefixed (xs ++ x ∷ []) r
prefixed_last xs x (Ok p) = ap (λ l. Ok (l, p.1)) (sym (append_assoc xs (x ∷ []) p.0))
prefixed_last xs x (Err e) = refl

module _ {S X : Type 0} (item : S → Reader X) (next : S → X → S) (words : List ℕ) where
  -- what was read, and a chain of m values still to be read
  abbrev pub Whole : List X → S → ℕ → ℕ → Read (List X)
  Whole xs s m at = prefixed xs (chain item next s m words at)

  opened : (xs : List X) (s : S) (n i at : ℕ) → i < n → (r : Read X) → item s words at ≡ r → Whole xs s (n - i) at ≡ prefixed xs (and_then r (λ x to. and_then (chain item next (next s x) (n - (i + 1)) words to) (λ ys b. Ok (x ∷ ys, b))))
  opened xs s n i at h r e =
      let m : n - i ≡ suc (n - (i + 1)) = omega arith in
      ap (λ k. Whole xs s k at) m ∙ ap (λ v. prefixed xs (and_then v (λ x to. and_then (chain item next (next s x) (n - (i + 1)) words to) (λ ys b. Ok (x ∷ ys, b))))) e

-- A loop reads the records below n, each seen by a view. At the start of a turn: the whole is what was read in front of the rest, i records were read, and the image is the same.
pub record Turn {X Y L : Type 0} (item : Counts → L → Reader X) (left : Option X → L) (view : Y → X) (n : ℕ) (start : Cursor) (ys : List Y) (i : ℕ) (now : Cursor) : Type 0 where
  pub whole : chain (item start.counts) (λ _ x. left (Some x)) (left None) n start.words.now start.at ≡ Whole (item start.counts) (λ _ x. left (Some x)) start.words.now (map view ys) (left (option_map view (last_of ys))) (n - i) now.at
  pub many : length ys ≡ i
  pub words : now.words ≡ start.words
  pub counts : now.counts ≡ start.counts

last_pushed : {Y : Type 0} (ys : List Y) (y : Y) → last_of (ys ++ y ∷ []) ≡ Some y
last_pushed ys y =
    let e : length (ys ++ y ∷ []) - 1 ≡ length ys = omega (arith, length-append ys (y ∷ [])) in
    ap (slice_get (ys ++ y ∷ [])) e ∙ slice_get_read (ys ++ y ∷ []) (length (ys ++ y ∷ [])) (length ys) y refl (omega (arith, length-append ys (y ∷ []))) (sym (get_or-append_seam ys y [] y))

-- all records
abbrev all : {X L : Type 0} → (Counts → L → Reader X) → (Option X → L) → ℕ → Counts → Reader (List X)
all item left n c = chain (item c) (λ _ x. left (Some x)) (left None) n

-- the record behind others
abbrev behind : {X Y L : Type 0} → (Counts → L → Reader X) → (Option X → L) → (Y → X) → List Y → Counts → Reader X
behind item left view ys c = item c (left (option_map view (last_of ys)))

module _ {X Y L : Type 0} {item : Counts → L → Reader X} {left : Option X → L} {view : Y → X} {n : ℕ} {start : Cursor} where
  -- the record at a turn's place, read in the image of the start
  there : {ys : List Y} {i : ℕ} {now then : Cursor} {r : Result Y Refusal} → Turn item left view n start ys i now → Reads (behind item left view ys) view now r then → behind item left view ys start.counts start.words.now now.at ≡ answered view r then.at
  there {ys} {i} {now} {then} {r} t h = sym (h.value ∙ (λ j. behind item left view ys (t.counts j) (t.words j).now now.at))

  pub next_turn : {ys zs : List Y} {i : ℕ} {y : Y} {now then : Cursor} → Turn item left view n start ys i now → i < n → Reads (behind item left view ys) view now (Ok y) then → zs ≡ ys ++ y ∷ [] → Turn item left view n start zs (i + 1) then
  next_turn {ys} {zs} {i} {y} {now} {then} t h r more =
      let seen : map view ys ++ view y ∷ [] ≡ map view zs = sym (ap (map view) more ∙ map_push view ys y) in
      let last : Some (view y) ≡ option_map view (last_of zs) = sym (ap (λ l. option_map view (last_of l)) more ∙ ap (option_map view) (last_pushed ys y)) in
      record {
        whole =
            t.whole ∙ opened (item start.counts) (λ _ x. left (Some x)) start.words.now (map view ys) _ n i now.at h (Ok (view y, then.at)) (there t r)
            ∙ prefixed_last (map view ys) (view y) (chain (item start.counts) (λ _ x. left (Some x)) (left (Some (view y))) (n - (i + 1)) start.words.now then.at)
            ∙ (λ j. Whole (item start.counts) (λ _ x. left (Some x)) start.words.now (seen j) (left (last j)) (n - (i + 1)) then.at);
        many = ap length more ∙ simp length-append (omega (arith, t.many));
        words = r.words ∙ t.words;
        counts = r.counts ∙ t.counts;
      }

  pub stopped : {V : Type 0} {f : V → List X} {ys : List Y} {i : ℕ} {e : Refusal} {now then : Cursor} → Turn item left view n start ys i now → i < n → Reads (behind item left view ys) view now (Err e) then → Reads (all item left n) f start (Err e) then
  stopped {V} {f} {ys} {i} {e} {now} {then} t h r = record {
    value = sym (t.whole ∙ opened (item start.counts) (λ _ x. left (Some x)) start.words.now (map view ys) _ n i now.at h (Err e) (there t r));
    words = r.words ∙ t.words;
    counts = r.counts ∙ t.counts;
  }

-- a part that is kept of each value of a chain
pub chain_kept : {S X Y : Type 0} (f : X → Y) (item : S → Reader X) (next : S → X → S) (after : S → Y → S) → ((s : S) (x : X) → next s x ≡ after s (f x)) → (s : S) (n : ℕ) (words : List ℕ) (at : ℕ) → kept (map f) (chain item next s n words at) ≡ chain (λ s words at. kept f (item s words at)) after s n words at
chain_kept f item next after same s zero words at = refl
chain_kept {S} {X} {Y} f item next after same s (suc n) words at = go (item s words at) (λ t to. chain_kept f item next after same t n words to)
  where
    rest : (x : X) (r : Read (List X)) → kept (map f) (and_then r (λ xs to. Ok (x ∷ xs, to))) ≡ and_then (kept (map f) r) (λ ys to. Ok (f x ∷ ys, to))
    rest x (Ok p) = refl
    rest x (Err e) = refl

    go : (r : Read X) → ((t : S) (to : ℕ) → kept (map f) (chain item next t n words to) ≡ chain (λ s words at. kept f (item s words at)) after t n words to) → kept (map f) (and_then r (λ x to. and_then (chain item next (next s x) n words to) (λ xs to. Ok (x ∷ xs, to)))) ≡ and_then (kept f r) (λ y to. and_then (chain (λ s words at. kept f (item s words at)) after (after s y) n words to) (λ ys to. Ok (y ∷ ys, to)))
    go (Ok p) more =
        rest p.0 (chain item next (next s p.0) n words p.1)
        ∙ ap (λ r. and_then r (λ ys to. Ok (f p.0 ∷ ys, to))) (more (next s p.0) p.1)
        ∙ ap (λ t. and_then (chain (λ s words at. kept f (item s words at)) after t n words p.1) (λ ys to. Ok (f p.0 ∷ ys, to))) (same s p.0)
    go (Err e) more = refl
