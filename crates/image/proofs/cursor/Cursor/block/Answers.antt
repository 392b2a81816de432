use Rattle.std.proofs.Common.{◌≡◌, ℕ, ◌+◌, ◌-◌, List, Ok, Result, refl, arith}
use Rattle.base.specs.declared.refusal.Refusal.{Refusal}
use Rattle.image.specs.declared.counts.Counts.{Counts}
use Rattle.image.specs.declared.cursor.Cursor.{Cursor}
use Rattle.image.specs.declared.instruction.Instruction.{Instruction}
use Rattle.image.specs.declared.types.TypeCode.{TypeCode}
use Rattle.image.specs.Cursor.{Reads}
use Rattle.image.specs.Layout.{Block, values, instructions, block}
use Rattle.image.specs.Readers.{Reader, ◌>>=◌, done, here, count, kept, passed, answered}
use Rattle.image.specs.View.{Head, head}
use Rattle.image.proofs.Composing.{next, placed, refused, read_over, passed_on}
use Rattle.image.proofs.cursor.Cursor.block.Goals as goal

-- a block whose code begins at a place
abbrev whole : List TypeCode → List TypeCode → ℕ → List Instruction → Block
whole ps fs start is = record { params = ps; free = fs; start = start; code = is }

-- what is read behind each of its parts
abbrev after_start : List TypeCode → List TypeCode → ℕ → Counts → ℕ → Reader Block
after_start ps fs size n start = instructions n (start + size) size >>= λ is. done (whole ps fs start is)

abbrev after_size : List TypeCode → List TypeCode → Counts → ℕ → Reader Block
after_size ps fs n size = here >>= after_start ps fs size n

abbrev after_free : List TypeCode → Counts → List TypeCode → Reader Block
after_free ps n fs = count 1 1024 >>= after_size ps fs n

abbrev after_params : ℕ → Counts → List TypeCode → Reader Block
after_params most n ps = values n.types most >>= after_free ps n

module _ {U V : Type 0} {f : U → List TypeCode} {g : V → Head} {v : Result V Refusal} (most : ℕ) {ps fs : U} where
  -- a block whose values were read
  behind_free : {a b c d : Cursor} → Reads (λ n. values n.types most) f a (Ok ps) b → Reads (λ n. values n.types most) f b (Ok fs) c → Reads (λ n words at. kept head (after_free (f ps) n (f fs) words at)) g c v d → Reads (λ n words at. kept head (block n most words at)) g a v d
  behind_free params free h = next (kept head) (after_params most) params (next (kept head) (after_free (f ps)) free h)

  -- a block whose code is read
  behind_size : {a b c d e : Cursor} {size : ℕ} {u : Result (Unit {0}) Refusal} → Reads (λ n. values n.types most) f a (Ok ps) b → Reads (λ n. values n.types most) f b (Ok fs) c → Reads (λ _. count 1 1024) (λ w. w) c (Ok size) d → Reads (λ n. passed (instructions n (d.at + size) (d.at + size - d.at))) (λ u. u) d u e → answered g v e.at ≡ kept (λ (u : Unit {0}). record { params = f ps; free = f fs; start = d.at }) (answered (λ u. u) u e.at) → Reads (λ n words at. kept head (block n most words at)) g a v e
  behind_size {d} {size} params free sized code same =
      let left : d.at + size - d.at ≡ size = omega arith in
      behind_free params free (next (kept head) (after_size (f ps) (f fs)) sized
      (placed (kept head) (after_start (f ps) (f fs) size) (read_over head (whole (f ps) (f fs) d.at) _ (λ _. refl) (λ n. instructions n (d.at + size) size) (rw left at code) same)))

pub returns-in_err-free : goal.returns-in_err-free
returns-in_err-free c = passed_on c.from_residual-in_err-free.ensures.1 (next (kept head) (after_params c.args.most) c.in_ok-params.ensures (refused (kept head) refl (after_free _) c.in_err-free.ensures))

pub returns-in_err-size : goal.returns-in_err-size
returns-in_err-size c = passed_on c.from_residual-in_err-size.ensures.1 (behind_free c.args.most c.in_ok-params.ensures c.in_ok-free.ensures (refused (kept head) refl (after_size _ _) (c.in_err-size.ensures).value))

pub returns-in_err-instructions : goal.returns-in_err-instructions
returns-in_err-instructions c = passed_on c.from_residual-in_err-instructions.ensures.1 (behind_size c.args.most c.in_ok-params.ensures c.in_ok-free.ensures (c.in_ok-size.ensures).value c.in_err-instructions.ensures refl)

pub returns : goal.returns
returns c = behind_size c.args.most c.in_ok-params.ensures c.in_ok-free.ensures (c.in_ok-size.ensures).value c.in_ok-instructions.ensures refl
