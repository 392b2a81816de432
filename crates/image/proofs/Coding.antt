-- The opcode table against the encoder: each form writes the instruction that it builds, and each instruction is built by the form of its opcode.
use Rattle.std.proofs.Common.{◌≡◌, ℕ, zero, suc, ◌+◌, ◌-◌, ◌<◌, ◌≤◌, Bool, true, eqb, ltb, leb, List, [], ◌∷◌, get_or, refl, ap, subst, arith, w32, to_z, of_z}
use mir.Facts.{sfits_to_z, Fits-of_z}
use Rattle.std.proofs.lemmas.Bool.{and_parts, and_from, leb-true, ltb-true, le-leb, lt-ltb}
use Rattle.std.proofs.lemmas.Int.{to_z-of_z, of_z-to_z}
use Rattle.image.specs.declared.counts.Counts.{Counts}
use Rattle.image.specs.declared.instruction.Instruction.{Instruction}
use Rattle.image.specs.declared.instruction.Instruction.TheVariants.{Int, Truth, Name, Param, Free, Local, New, Op, Send, Object, Make, Choose, Tell, Ask, Ret}
use Rattle.image.specs.declared.instruction.Operator.{Operator}
use Rattle.image.specs.declared.operand.Operand.{Operand}
use Rattle.image.specs.declared.operand.Operand.TheVariants.{Word, Flag, NameNumber, Index, ChannelType, OperatorNumber, LabelNumber, Arity, TableNumber, BlockNumber}
use Rattle.image.specs.Codes.{operator_of, operator_word}
use Rattle.image.specs.Encoded.{encoded, flag, OperandsFit}
use Rattle.image.specs.Opcodes.{Form, unknown, bare, one, two, forms, form_of, least, limit, in_range, new_of}

-- an operand in its range
pub record In (n : Counts) (o : Operand) (w : ℕ) : Type 0 where
  pub low : least o ≤ w
  pub high : w < limit n o

pub in_from : (n : Counts) (o : Operand) (w : ℕ) → in_range n o w ≡ true → In n o w
in_from n o w e =
    let p = and_parts (leb (least o) w) (ltb w (limit n o)) e in
    record { low = leb-true (least o) w p.0; high = ltb-true w (limit n o) p.1 }

pub in_true : (n : Counts) (o : Operand) (w : ℕ) → In n o w → in_range n o w ≡ true
in_true n o w h = and_from _ _ (le-leb (least o) w h.low) (lt-ltb w (limit n o) h.high)

-- what a form builds is written with its opcode
pub record Right (n : Counts) (i : Instruction) (ws : List ℕ) : Type 0 where
  pub written : encoded i ≡ ws
  pub fit : OperandsFit n i

abbrev pub Entry : ℕ → Form → Type 0
Entry o unknown = Unit {0}
Entry o (bare i) = (n : Counts) → Right n i (o ∷ [])
Entry o (one k f) = (n : Counts) (a : ℕ) → In n k a → Right n (f a) (o ∷ a ∷ [])
Entry o (two k l f) = (n : Counts) (a b : ℕ) → In n k a → In n l b → Right n (f a b) (o ∷ a ∷ b ∷ [])

flag_of : (a : ℕ) → a < 2 → flag (eqb a 1) ≡ a
flag_of a h = grind arith

operator_is : (a : ℕ) → a < 11 → operator_word (operator_of a) ≡ a
operator_is a h = grind arith

pub operator_back : (o : Operator) → operator_of (operator_word o) ≡ o
operator_back o = grind arith

operator_below : (o : Operator) → operator_word o < 11
operator_below o = grind arith

int_entry : Entry 1 (one Word (λ w. Int (to_z w32 w)))
int_entry n a h = record { written = ap (λ w. 1 ∷ w ∷ []) (of_z-to_z w32 a h.high); fit = sfits_to_z (record { fits = h.high }) }

new_entry : Entry 7 (one ChannelType new_of)
new_entry n a h =
    let e : a - 3 + 3 ≡ a = omega (arith, h.low) in
    record { written = ap (λ w. 7 ∷ w ∷ []) e; fit = omega (arith, h.low, h.high) }

abbrev Entries : ℕ → List Form → Type 0
Entries k [] = Unit {0}
Entries k (f ∷ fs) = Entry k f × Entries (suc k) fs

entries : Entries 0 forms
entries = (
  tt,
  (
    int_entry,
    (
      λ n a h. record { written = ap (λ w. 2 ∷ w ∷ []) (flag_of a h.high); fit = tt },
      (
        λ n a h. record { written = refl; fit = h.high },
        (
          λ n a h. record { written = refl; fit = h.high },
          (
            λ n a h. record { written = refl; fit = h.high },
            (
              λ n a h. record { written = refl; fit = h.high },
              (
                new_entry,
                (
                  λ n a h. record { written = ap (λ w. 8 ∷ w ∷ []) (operator_is a h.high); fit = tt },
                  (
                    λ n a b h k. record { written = refl; fit = (h.high, omega (arith, k.high)) },
                    (
                      λ n a h. record { written = refl; fit = h.high },
                      (
                        λ n a h. record { written = refl; fit = h.high },
                        (
                          λ n a b h k. record { written = refl; fit = (h.high, k.high) },
                          (
                            λ n. record { written = refl; fit = tt },
                            (
                              λ n. record { written = refl; fit = tt },
                              (λ n. record { written = refl; fit = tt }, tt),
                            ),
                          ),
                        ),
                      ),
                    ),
                  ),
                ),
              ),
            ),
          ),
        ),
      ),
    ),
  ),
)

entry_at : (fs : List Form) (k : ℕ) → Entries k fs → (o : ℕ) → Entry (k + o) (get_or fs o unknown)
entry_at [] k all o = tt
entry_at (f ∷ fs) k all zero = let e : k ≡ k + 0 = omega arith in subst (λ m. Entry m f) e all.0
entry_at (f ∷ fs) k all (suc o) = let e : suc k + o ≡ k + suc o = omega arith in subst (λ m. Entry m (get_or fs o unknown)) e (entry_at fs (suc k) all.1 o)

pub entry : (o : ℕ) → Entry o (form_of o)
entry o = let e : 0 + o ≡ o = omega arith in subst (λ m. Entry m (form_of o)) e (entry_at forms 0 entries o)

-- the form of an instruction's opcode builds it from its operands
pub data Built (n : Counts) (i : Instruction) : Type 0 where
  by_none : (o : ℕ) → o < 16 → form_of o ≡ bare i → encoded i ≡ o ∷ [] → Built n i
  by_one : (o : ℕ) (k : Operand) (f : ℕ → Instruction) (a : ℕ) → o < 16 → form_of o ≡ one k f → f a ≡ i → In n k a → encoded i ≡ o ∷ a ∷ [] → Built n i
  by_two : (o : ℕ) (k l : Operand) (f : ℕ → ℕ → Instruction) (a b : ℕ) → o < 16 → form_of o ≡ two k l f → f a b ≡ i → In n k a → In n l b → encoded i ≡ o ∷ a ∷ b ∷ [] → Built n i

flag_back : (b : Bool) → eqb (flag b) 1 ≡ b
flag_back b = grind arith

flag_below : (b : Bool) → flag b < 2
flag_below b = grind arith

pub built : (n : Counts) (i : Instruction) → OperandsFit n i → Built n i
built n (Int z) h = by_one 1 Word (λ w. Int (to_z w32 w)) (of_z w32 z) (omega arith) refl (ap Int (to_z-of_z w32 z h)) (record { low = omega arith; high = (Fits-of_z h).fits }) refl
built n (Truth b) h = by_one 2 Flag (λ w. Truth (eqb w 1)) (flag b) (omega arith) refl (ap Truth (flag_back b)) (record { low = omega arith; high = flag_below b }) refl
built n (Name k) h = by_one 3 NameNumber (λ w. Name (record { 0 = w })) k.0 (omega arith) refl refl (record { low = omega arith; high = h }) refl
built n (Param i) h = by_one 4 Index Param i (omega arith) refl refl (record { low = omega arith; high = h }) refl
built n (Free i) h = by_one 5 Index Free i (omega arith) refl refl (record { low = omega arith; high = h }) refl
built n (Local i) h = by_one 6 Index Local i (omega arith) refl refl (record { low = omega arith; high = h }) refl
built n (New t) h =
    let e : t.0 + 3 - 3 ≡ t.0 = omega arith in
    by_one 7 ChannelType new_of (t.0 + 3) (omega arith) refl (ap (λ k. New (record { 0 = k })) e) (record { low = omega arith; high = omega arith }) refl
built n (Op o) h = by_one 8 OperatorNumber (λ w. Op (operator_of w)) (operator_word o) (omega arith) refl (ap Op (operator_back o)) (record { low = omega arith; high = operator_below o }) refl
built n (Send l a) h = by_two 9 LabelNumber Arity (λ l a. Send (record { 0 = l }) a) l.0 a (omega arith) refl refl (record { low = omega arith; high = h.0 }) (record { low = omega arith; high = omega (arith, h.1) }) refl
built n (Object t) h = by_one 10 TableNumber (λ w. Object (record { 0 = w })) t.0 (omega arith) refl refl (record { low = omega arith; high = h }) refl
built n (Make b) h = by_one 11 BlockNumber (λ w. Make (record { 0 = w })) b.0 (omega arith) refl refl (record { low = omega arith; high = h }) refl
built n (Choose b c) h = by_two 12 BlockNumber BlockNumber (λ b c. Choose (record { 0 = b }) (record { 0 = c })) b.0 c.0 (omega arith) refl refl (record { low = omega arith; high = h.0 }) (record { low = omega arith; high = h.1 }) refl
built n Tell h = by_none 13 (omega arith) refl refl
built n Ask h = by_none 14 (omega arith) refl refl
built n Ret h = by_none 15 (omega arith) refl refl
