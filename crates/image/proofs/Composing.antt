-- Calls of a cursor one behind another. A function over all that is read, as kept, may stand outside.
use Rattle.std.proofs.Common.{◌≡◌, ℕ, Ok, Err, Result, sym, refl, ap, ◌∙◌}
use Rattle.std.specs.Result.{IsErrAnd}
use Rattle.std.proofs.lemmas.Result.{err_from_is_err_and}
use Rattle.base.specs.declared.refusal.Refusal.{Refusal}
use Rattle.image.specs.declared.counts.Counts.{Counts}
use Rattle.image.specs.declared.cursor.Cursor.{Cursor}
use Rattle.image.specs.Cursor.{Reads}
use Rattle.base.specs.Outcomes.{read_as}
use Rattle.image.specs.Readers.{Read, Reader, ◌>>=◌, and_then, done, here, kept, passed, answered}

module _ {Y Z V : Type 0} (over : Read Y → Read Z) {g : V → Z} {old new : Cursor} {v : Result V Refusal} where
  -- what is read next goes by the value before it
  pub next : {X U : Type 0} {r : Counts → Reader X} {f : U → X} {mid : Cursor} {u : U} (k : Counts → X → Reader Y) → Reads r f old (Ok u) mid → Reads (λ n words at. over (k n (f u) words at)) g mid v new → Reads (λ n words at. over ((r n >>= k n) words at)) g old v new
  next {f} {mid} {u} k a b = record {
    value = b.value ∙ (λ j. over (k (a.counts j) (f u) (a.words j).now mid.at)) ∙ ap (λ q. over (and_then q (λ x to. k old.counts x old.words.now to))) a.value;
    words = b.words ∙ a.words;
    counts = b.counts ∙ a.counts;
  }

  -- the place goes into what is read next
  pub placed : (k : Counts → ℕ → Reader Y) → Reads (λ n words at. over (k n old.at words at)) g old v new → Reads (λ n words at. over ((here >>= k n) words at)) g old v new
  placed k a = record { value = a.value; words = a.words; counts = a.counts }

-- nothing is read behind a refusal
pub refused : {X Y Z U V : Type 0} {r : Counts → Reader X} {f : U → X} {old mid : Cursor} {e : Refusal} (over : Read Y → Read Z) → over (Err e) ≡ Err e → (k : Counts → X → Reader Y) {g : V → Z} → Reads r f old (Err e) mid → Reads (λ n words at. over ((r n >>= k n) words at)) g old (Err e) mid
refused {old} over same k a = record {
  value = sym same ∙ ap (λ q. over (and_then q (λ x to. k old.counts x old.words.now to))) a.value;
  words = a.words;
  counts = a.counts;
}

-- the value is known
pub known : {Y V : Type 0} {g : V → Y} {v : V} (y : Counts → Y) {old : Cursor} → g v ≡ y old.counts → Reads (λ n. done (y n)) g old (Ok v) old
known y {old} e = record { value = (λ j. Ok (e j, old.at)); words = refl; counts = refl }

-- what was read over leaves no trace in the view
module _ {X Y Z : Type 0} (view : Y → Z) (f : X → Y) (z : Z) (same : (x : X) → view (f x) ≡ z) where
  leaves : (r : Read X) → kept view (and_then r (λ x to. Ok (f x, to))) ≡ kept (λ (u : Unit {0}). z) (kept (λ _. tt) r)
  leaves (Ok p) = (λ j. Ok (same p.0 j, p.1))
  leaves (Err e) = refl

  pub read_over : {V : Type 0} (r : Counts → Reader X) {g : V → Z} {old new : Cursor} {u : Result (Unit {0}) Refusal} {v : Result V Refusal} → Reads (λ n. passed (r n)) (λ u. u) old u new → answered g v new.at ≡ kept (λ (u : Unit {0}). z) (answered (λ u. u) u new.at) → Reads (λ n words at. kept view ((r n >>= λ x. done (f x)) words at)) g old v new
  read_over r {old} a e = record {
    value = e ∙ ap (kept (λ (u : Unit {0}). z)) a.value ∙ sym (leaves (r old.counts old.words.now old.at));
    words = a.words;
    counts = a.counts;
  }

-- a refusal that is passed on
pub passed_on : {V X : Type 0} {v : Result V Refusal} {e : Refusal} {reader : Counts → Reader X} {view : V → X} {old new : Cursor} → IsErrAnd v (λ d. d ≡ e) → Reads reader view old (Err e) new → Reads reader view old v new
passed_on {v} same h = let p = err_from_is_err_and v same in rw (p.1, p.2) h

pub passed_out : {V X : Type 0} (view : V → X) (v : Result V Refusal) {e : Refusal} {r : Result X Refusal} → IsErrAnd v (λ d. d ≡ e) → Err e ≡ r → read_as view v ≡ r
passed_out view v same h = let p = err_from_is_err_and v same in rw (p.1, p.2) h
