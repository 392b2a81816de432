-- The instructions of a block, read for their places alone.
use Rattle.std.proofs.Common.{◌≡◌, ℕ, zero, suc, ◌+◌, ◌-◌, ◌<◌, ◌≤◌, Bool, true, false, not, ◌&&◌, eqb, List, [], ◌∷◌, drop, Some, Ok, Err, Option, Result, sym, refl, ap, ◌∙◌, arith}
use mathlib.Core.Bool.{beq}
use Rattle.std.proofs.lemmas.Bool.{lt-ltb, le-ltb, le-leb, cond-true, cond-false}
use Rattle.base.specs.declared.refusal.Refusal.{Refusal}
use Rattle.image.specs.declared.counts.Counts.{Counts}
use Rattle.image.specs.declared.instruction.Instruction.{Instruction}
use Rattle.image.specs.declared.operand.Operand.{Operand}
use Rattle.image.specs.Layout.{operand, operands, opcode_stands, opened, instruction, instructions}
use Rattle.image.specs.Opcodes.{Form, unknown, bare, one, two, form_of, shape, size}
use Rattle.image.specs.Operands.{checked}
use Rattle.image.specs.declared.cursor.Cursor.{Cursor}
use Rattle.image.specs.Cursor.{Reads}
use Rattle.image.proofs.Describing.{ok_parts}
use Rattle.image.specs.Readers.{Read, Reader, and_then, number, kept, passed, answered}

-- the place alone
abbrev behind : {X : Type 0} → Read X → Read (Unit {0})
behind r = kept (λ _. tt) r

-- what is made of a value last leaves the place behind it
behind_last : {X Y : Type 0} (r : Read X) (f : X → Y) → behind (and_then r (λ x to. Ok (f x, to))) ≡ behind r
behind_last (Ok p) f = refl
behind_last (Err e) f = refl

-- the last operand leaves the place behind it
last_place : {X Y : Type 0} (r : Read X) (f : X → Y) → behind (and_then r (λ x to. Ok (f x, to))) ≡ and_then r (λ _ to. Ok (tt, to))
last_place (Ok p) f = refl
last_place (Err e) f = refl

operands_place : (n : Counts) (words : List ℕ) (at : ℕ) (f : Form) (os : List Operand) → ◌≡◌ {A = Option (List Operand)} (Some os) (shape f) → checked n os words at ≡ behind (operands n f words at)
operands_place n words at unknown os e = absurd cc
operands_place n words at (bare i) os e = let k : os ≡ [] = cc in ap (λ v. checked n v words at) k
operands_place n words at (one o f) os e =
    let k : os ≡ o ∷ [] = cc in
    ap (λ v. checked n v words at) k ∙ sym (last_place (operand n o words at) f)
operands_place n words at (two o p f) os e =
    let k : os ≡ o ∷ p ∷ [] = cc in
    ap (λ v. checked n v words at) k ∙ sym (second (operand n o words at))
  where
    second : (r : Read ℕ) → behind (and_then r (λ a to. and_then (operand n p words to) (λ b to. Ok (f a b, to)))) ≡ and_then r (λ a to. and_then (operand n p words to) (λ b to. Ok (tt, to)))
    second (Ok q) = last_place (operand n p words q.1) (f q.0)
    second (Err e) = refl

-- A loop over operands: the rest are read where it stands.
pub record Checking (os : List Operand) (i : ℕ) (start now : Cursor) : Type 0 where
  pub left : checked start.counts os start.words.now start.at ≡ checked start.counts (drop i os) start.words.now now.at
  pub on : start.at ≤ now.at
  pub words : now.words ≡ start.words
  pub counts : now.counts ≡ start.counts

beq_from : (b : Bool) → not b ≡ false → b ≡ true
beq_from b e = grind arith

stands_from : (end at o : ℕ) (s : List Operand) → at + size s ≤ end → not (beq (eqb (at + size s) end) (eqb o 15)) ≡ false → opcode_stands end at o (Some s) ≡ true
stands_from end at o s before ret = ap (λ b. b && beq (eqb (at + size s) end) (eqb o 15)) (le-leb (at + size s) end before) ∙ beq_from _ ret

instructed : (n : Counts) (end : ℕ) (words : List ℕ) (at : ℕ) {o next : ℕ} {s : List Operand} → Ok (o, next) ≡ number 0 4294967296 words at → Some s ≡ shape (form_of o) → at + size s ≤ end → not (beq (eqb (at + size s) end) (eqb o 15)) ≡ false → checked n s words next ≡ behind (instruction n end words at)
instructed n end words at {o} {next} {s} e known before ret =
    operands_place n words next (form_of o) s known
    ∙ sym (ap behind (ap (λ r. and_then r (λ o to. opened n end at o words to)) (sym e) ∙ cond-true _ _ _ (ap (opcode_stands end at o) (sym known) ∙ stands_from end at o s before ret)))

-- an instruction whose opcode stands: its operands decide
pub judged : {end : ℕ} {old mid new : Cursor} {o : ℕ} {s : List Operand} {r : Result (Unit {0}) Refusal} → Reads (λ _. number 0 4294967296) (λ w. w) old (Ok o) mid → Some s ≡ shape (form_of o) → old.at + size s ≤ end → not (beq (eqb (old.at + size s) end) (eqb o 15)) ≡ false → Reads (λ n. checked n s) (λ u. u) mid r new → Reads (λ n. passed (instruction n end)) (λ u. u) old r new
judged {end} {old} {mid} {new} {o} {s} {r} h known before ret k = record {
  value = k.value ∙ (λ j. checked (h.counts j) s (h.words j).now mid.at) ∙ instructed old.counts end old.words.now old.at h.value known before ret;
  words = k.words ∙ h.words;
  counts = k.counts ∙ h.counts;
}

-- a loop over the instructions: one turn, and the end
module _ (n : Counts) (end : ℕ) (words : List ℕ) where
  first : (most at : ℕ) (r : Read Instruction) → at < end → instruction n end words at ≡ r → behind (instructions n end (suc most) words at) ≡ behind (and_then r (λ i to. and_then (instructions n end most words to) (λ is b. Ok (i ∷ is, b))))
  first most at r h e =
      ap behind (cond-true _ _ _ (lt-ltb at end h))
      ∙ ap (λ v. behind (and_then v (λ i to. and_then (instructions n end most words to) (λ is b. Ok (i ∷ is, b))))) e

  more : (most at to : ℕ) (r : Read Instruction) → at < end → instruction n end words at ≡ r → behind r ≡ Ok (tt, to) → behind (instructions n end (suc most) words at) ≡ behind (instructions n end most words to)
  more most at to (Ok p) h e k =
      let place : p.1 ≡ to = ap (λ v. v.1) (ok_parts k) in
      first most at (Ok p) h e ∙ behind_last (instructions n end most words p.1) (λ is. p.0 ∷ is) ∙ ap (λ m. behind (instructions n end most words m)) place
  more most at to (Err d) h e k = absurd cc

  failed : (most at : ℕ) (d : Refusal) (r : Read Instruction) → at < end → instruction n end words at ≡ r → behind r ≡ Err d → behind (instructions n end (suc most) words at) ≡ Err d
  failed most at d (Ok p) h e k = absurd cc
  failed most at d (Err b) h e k = let is : b ≡ d = cc in first most at (Err b) h e ∙ ap Err is

  none_left : (most at : ℕ) → end ≤ at → behind (instructions n end most words at) ≡ Ok (tt, at)
  none_left zero at h = refl
  none_left (suc m) at h = ap behind (cond-false _ _ _ (le-ltb at end h))

-- At the start of a turn the whole is what is still to be read, of which there are at most so many.
pub record Turn (end : ℕ) (start now : Cursor) (most : ℕ) : Type 0 where
  pub enough : end - now.at ≤ most
  pub whole : behind (instructions start.counts end (end - start.at) start.words.now start.at) ≡ behind (instructions start.counts end most start.words.now now.at)
  pub words : now.words ≡ start.words
  pub counts : now.counts ≡ start.counts

abbrev each : ℕ → Counts → Reader (Unit {0})
each end n = passed (instruction n end)

abbrev all : ℕ → ℕ → Counts → Reader (Unit {0})
all end most n = passed (instructions n end most)

there : {end most : ℕ} {start now then : Cursor} {r : Result (Unit {0}) Refusal} → Turn end start now most → Reads (each end) (λ u. u) now r then → behind (instruction start.counts end start.words.now now.at) ≡ answered (λ u. u) r then.at
there {end} {most} {start} {now} {then} {r} t h = sym (h.value ∙ (λ j. behind (instruction (t.counts j) end (t.words j).now now.at)))

pub next_turn : {end : ℕ} {start now then : Cursor} (most : ℕ) → Turn end start now most → now.at < end → now.at < then.at → Reads (each end) (λ u. u) now (Ok tt) then → (m : ℕ) × Turn end start then m
next_turn zero t h on r = absurd (omega (arith, t.enough))
next_turn {end} {start} {now} {then} (suc m) t h on r = (
  m,
  record {
    enough = omega (arith, t.enough);
    whole = t.whole ∙ more start.counts end start.words.now m now.at then.at _ h refl (there t r);
    words = r.words ∙ t.words;
    counts = r.counts ∙ t.counts;
  },
)

pub stopped : {end : ℕ} {start now then : Cursor} (most : ℕ) {e : Refusal} → Turn end start now most → now.at < end → Reads (each end) (λ u. u) now (Err e) then → Reads (all end (end - start.at)) (λ u. u) start (Err e) then
stopped zero t h r = absurd (omega (arith, t.enough))
stopped {end} {start} {now} {then} (suc m) {e} t h r = record {
  value = sym (t.whole ∙ failed start.counts end start.words.now m now.at e _ h refl (there t r));
  words = r.words ∙ t.words;
  counts = r.counts ∙ t.counts;
}

pub finished : {end : ℕ} {start now : Cursor} (most : ℕ) → Turn end start now most → end ≤ now.at → Reads (all end (end - start.at)) (λ u. u) start (Ok tt) now
finished {end} {start} {now} most t h = record {
  value = sym (t.whole ∙ none_left start.counts end start.words.now most now.at h);
  words = t.words;
  counts = t.counts;
}
