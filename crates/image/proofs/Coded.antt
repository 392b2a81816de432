-- Instructions and blocks as they are written.
use Rattle.std.proofs.Common.{◌≡◌, ℕ, zero, suc, ◌+◌, ◌-◌, ◌<◌, ◌≤◌, Bool, true, ◌&&◌, eqb, leb, ◌↔◌, List, [], ◌∷◌, ◌++◌, length, get_or, Ok, sym, refl, ap, ◌∙◌, subst, inl, inr, append-nil, arith, length-append}
use mathlib.Core.Bool.{beq}
use Rattle.std.specs.List.{flat_map, AllByRecursion}
use Rattle.std.proofs.lemmas.List.{length-map}
use Rattle.std.proofs.lemmas.Bool.{and_parts, and_from, leb-true, le-leb, lt-ltb, le-ltb, eqb-true, eq-eqb, cond-true, cond-false, cases_lt}
use Rattle.image.specs.declared.counts.Counts.{Counts}
use Rattle.image.specs.declared.instruction.Instruction.{Instruction}
use Rattle.image.specs.declared.instruction.Instruction.TheVariants.{Ret}
use Rattle.image.specs.declared.types.TypeCode.{TypeCode}
use Rattle.image.specs.Codes.{code_word}
use Rattle.image.specs.Encoded.{encoded, OperandsFit}
use Rattle.image.specs.Format.{values_words, code_words, block_words, EndsByRet, BlockFits, BlocksFit}
use Rattle.image.specs.Layout.{Block, operand, operands, opcode_stands, opened, instruction, instructions, block, after_block}
use Rattle.image.specs.Opcodes.{Form, unknown, bare, one, two, form_of, shape}
use Rattle.image.specs.Readers.{Read, ◌>>=◌, and_then, done, here, number, chain}
use Rattle.image.proofs.Coding.{Entry, Built, by_none, by_one, by_two, entry, built}
use Rattle.image.proofs.Describing.{Stands, Describes, stands_join, stands_cut, ok_parts, then_ok, cond_ok, number_d, count_d, said_d, then_d, chain_as}
use Rattle.image.proofs.Written.{values_d}

-- ---- one instruction

abbrev opcode : Instruction → ℕ
opcode i = get_or (encoded i) 0 0

ret_only : (i : Instruction) → opcode i ≡ 15 → i ≡ Ret
ret_only i e = grind arith

pub encoded_some : (i : Instruction) → 1 ≤ length (encoded i)
encoded_some i = grind arith

-- an instruction of a block that ends at end: it does not pass the end, and ends there exactly if it is ret
pub record Placed (n : Counts) (end at : ℕ) (i : Instruction) : Type 0 where
  pub fit : OperandsFit n i
  pub before : at + length (encoded i) ≤ end
  pub last : at + length (encoded i) ≡ end → i ≡ Ret
  pub only : i ≡ Ret → at + length (encoded i) ≡ end

beq_left : (a b : Bool) → beq a b ≡ true → a ≡ true → b ≡ true
beq_left a b e h = grind arith

beq_right : (a b : Bool) → beq a b ≡ true → b ≡ true → a ≡ true
beq_right a b e h = grind arith

beq_same : (a b : Bool) → (a ≡ true → b ≡ true) → (b ≡ true → a ≡ true) → beq a b ≡ true
beq_same a b f g = grind arith

-- what the test at an opcode says, for an instruction of so many words
placed_from : (n : Counts) (end at o k : ℕ) (i : Instruction) (rest : List ℕ) → encoded i ≡ o ∷ rest → length (encoded i) ≡ k → OperandsFit n i → (leb (at + k) end && beq (eqb (at + k) end) (eqb o 15)) ≡ true → Placed n end at i
placed_from n end at o k i rest is long fit e =
    let p = and_parts _ _ e in
    let code : opcode i ≡ o = ap (λ l. get_or l 0 0) is in
    record {
      fit = fit;
      before = omega (arith, leb-true (at + k) end p.0);
      last = λ h. ret_only i (code ∙ eqb-true o 15 (beq_left _ _ p.1 (eq-eqb (at + k) end (omega arith))));
      only = λ h. let z : o ≡ 15 = sym code ∙ ap opcode h in omega (arith, eqb-true (at + k) end (beq_right _ _ p.1 (eq-eqb o 15 z)));
    }

stands_from : (n : Counts) (end at o k : ℕ) (i : Instruction) (rest : List ℕ) → encoded i ≡ o ∷ rest → length (encoded i) ≡ k → Placed n end at i → (leb (at + k) end && beq (eqb (at + k) end) (eqb o 15)) ≡ true
stands_from n end at o k i rest is long h =
    let code : opcode i ≡ o = ap (λ l. get_or l 0 0) is in
    let past = h.before in
    and_from _ _ (le-leb (at + k) end (omega arith))
    (beq_same _ _
    (λ e. let r = h.last (omega (arith, eqb-true (at + k) end e)) in eq-eqb o 15 (sym code ∙ ap opcode r))
    (λ e. eq-eqb (at + k) end (omega (arith, h.only (ret_only i (code ∙ eqb-true o 15 e))))))

module _ (n : Counts) (end : ℕ) (words : List ℕ) (at : ℕ) where
  abbrev There : Instruction → ℕ → Type 0
  There i to = Stands words at (encoded i) to × Placed n end at i

  -- the operands behind an opcode
  operands_sound : (o : ℕ) (f : Form) → Entry o f → Stands words at (o ∷ []) (at + 1) → opcode_stands end at o (shape f) ≡ true → (i : Instruction) (to : ℕ) → operands n f words (at + 1) ≡ Ok (i, to) → There i to
  operands_sound o unknown right stood test i to e = absurd cc
  operands_sound o (bare j) right stood test i to e =
      let r = right n in
      subst (λ (v : Instruction × ℕ). There v.0 v.1) (ok_parts e)
      (subst (λ l. Stands words at l (at + 1)) (sym r.written) stood, placed_from n end at o 1 j [] r.written (ap length r.written) r.fit test)
  operands_sound o (one k f) right stood test i to e =
      let a = then_ok (operand n k words (at + 1)) _ e in
      let one = (number_d _ _ words (at + 1) a.0 a.1).0 a.2 in
      let r = right n a.0 (record { low = one.1.0; high = one.1.1 }) in
      subst (λ (v : Instruction × ℕ). There v.0 v.1) (ok_parts a.3)
      (subst (λ l. Stands words at l a.1) (sym r.written) (stands_join (o ∷ []) (a.0 ∷ []) stood one.0), placed_from n end at o 2 (f a.0) (a.0 ∷ []) r.written (ap length r.written) r.fit test)
  operands_sound o (two k l f) right stood test i to e =
      let a = then_ok (operand n k words (at + 1)) _ e in
      let b = then_ok (operand n l words a.1) _ a.3 in
      let one = (number_d _ _ words (at + 1) a.0 a.1).0 a.2 in
      let two = (number_d _ _ words a.1 b.0 b.1).0 b.2 in
      let r = right n a.0 b.0 (record { low = one.1.0; high = one.1.1 }) (record { low = two.1.0; high = two.1.1 }) in
      subst (λ (v : Instruction × ℕ). There v.0 v.1) (ok_parts b.3) (
        subst (λ l. Stands words at l b.1) (sym r.written) (stands_join (o ∷ []) (a.0 ∷ b.0 ∷ []) stood (stands_join (a.0 ∷ []) (b.0 ∷ []) one.0 two.0)),
        placed_from n end at o 3 (f a.0 b.0) (a.0 ∷ b.0 ∷ []) r.written (ap length r.written) r.fit test,
      )

  instruction_sound : (i : Instruction) (to : ℕ) → instruction n end words at ≡ Ok (i, to) → There i to
  instruction_sound i to e =
      let a = then_ok (number 0 4294967296 words at) _ e in
      let b = cond_ok (opcode_stands end at a.0 (shape (form_of a.0))) _ _ a.3 in
      let one = (number_d 0 4294967296 words at a.0 a.1).0 a.2 in
      let next : a.1 ≡ at + 1 = one.0.ends in
      operands_sound a.0 (form_of a.0) (entry a.0) (subst (λ m. Stands words at (a.0 ∷ []) m) next one.0) b.0 i to (subst (λ m. operands n (form_of a.0) words m ≡ Ok (i, to)) next b.1)

  -- an opcode that is read, and what its form makes of the words behind it
  from_opcode : (o : ℕ) (f : Form) → form_of o ≡ f → o < 4294967296 → Stands words at (o ∷ []) (at + 1) → opcode_stands end at o (shape f) ≡ true → (r : Read Instruction) → operands n f words (at + 1) ≡ r → instruction n end words at ≡ r
  from_opcode o f is small stood test r e =
      ap (λ v. and_then v (λ o to. opened n end at o words to)) ((number_d 0 4294967296 words at o (at + 1)).1 (stood, (omega arith, small)))
      ∙ cond-true _ _ _ (ap (λ g. opcode_stands end at o (shape g)) is ∙ test) ∙ ap (λ g. operands n g words (at + 1)) is ∙ e

  instruction_complete : (i : Instruction) (to : ℕ) → There i to → Built n i → instruction n end words at ≡ Ok (i, to)
  instruction_complete i to h (by_none o small is w) =
      let s : Stands words at (o ∷ []) to = subst (λ l. Stands words at l to) w h.0 in
      let ends : at + 1 ≡ to = sym s.ends in
      from_opcode o (bare i) is (omega arith) (subst (λ m. Stands words at (o ∷ []) m) s.ends s) (stands_from n end at o 1 i [] w (ap length w) h.1) (Ok (i, to)) (λ j. Ok (i, ends j))
  instruction_complete i to h (by_one o k f a small is made low-high w) =
      let s : Stands words at ((o ∷ []) ++ (a ∷ [])) to = subst (λ l. Stands words at l to) w h.0 in
      let p = stands_cut (o ∷ []) (a ∷ []) s in
      from_opcode o (one k f) is (omega arith) p.0 (stands_from n end at o 2 i (a ∷ []) w (ap length w) h.1) (Ok (i, to))
      (ap (λ v. and_then v (λ a to. Ok (f a, to))) ((number_d _ _ words (at + 1) a to).1 (p.1, (low-high.low, low-high.high))) ∙ ap (λ j. Ok (j, to)) made)
  instruction_complete i to h (by_two o k l f a b small is made first second w) =
      let s : Stands words at ((o ∷ []) ++ (a ∷ b ∷ [])) to = subst (λ l. Stands words at l to) w h.0 in
      let p = stands_cut (o ∷ []) (a ∷ b ∷ []) s in
      let q = stands_cut (a ∷ []) (b ∷ []) p.1 in
      from_opcode o (two k l f) is (omega arith) p.0 (stands_from n end at o 3 i (a ∷ b ∷ []) w (ap length w) h.1) (Ok (i, to))
      (ap (λ v. and_then v (λ a to. and_then (operand n l words to) (λ b to. Ok (f a b, to)))) ((number_d _ _ words (at + 1) a (at + 1 + 1)).1 (q.0, (first.low, first.high)))
      ∙ ap (λ v. and_then v (λ b to. Ok (f a b, to))) ((number_d _ _ words (at + 1 + 1) b to).1 (q.1, (second.low, second.high))) ∙ ap (λ j. Ok (j, to)) made)

pub instruction_d : (n : Counts) (end : ℕ) → Describes (instruction n end) encoded (Placed n end)
instruction_d n end words at i to = (instruction_sound n end words at i to, λ h. instruction_complete n end words at i to h (built n i h.1.fit))

-- ---- the instructions of a block

-- they fill the words up to the end, and ret is the last
pub record CodeFits (n : Counts) (size : ℕ) (is : List Instruction) : Type 0 where
  pub operands : AllByRecursion (OperandsFit n) is
  pub ends : EndsByRet is
  pub fills : length (code_words is) ≡ size

module _ (n : Counts) (end : ℕ) (words : List ℕ) where
  none_left : (most at : ℕ) → end ≤ at → instructions n end most words at ≡ Ok ([], at)
  none_left zero at h = refl
  none_left (suc m) at h = cond-false _ _ _ (le-ltb at end h)

  ends_more : (i : Instruction) (is : List Instruction) → (i ≡ Ret → ⊥) → EndsByRet is → EndsByRet (i ∷ is)
  ends_more i [] other e = absurd e
  ends_more i (j ∷ is) other e = (other, e)

  abbrev Filled : ℕ → List Instruction → ℕ → Type 0
  Filled at is to = Stands words at (code_words is) to × CodeFits n (end - at) is

  code_sound : (most at : ℕ) → at < end → end - at ≤ most → (is : List Instruction) (to : ℕ) → instructions n end most words at ≡ Ok (is, to) → Filled at is to
  code_sound zero at h few is to e = absurd (omega arith)
  code_sound (suc m) at h few is to e =
      let a = then_ok (instruction n end words at) _ (sym (cond-true _ _ _ (lt-ltb at end h)) ∙ e) in
      let b = then_ok (instructions n end m words a.1) _ a.3 in
      let one = (instruction_d n end words at a.0 a.1).0 a.2 in
      let long = encoded_some a.0 in
      let ends = one.0.ends in
      let past = one.1.before in
      subst (λ (v : List Instruction × ℕ). Filled at v.0 v.1) (ok_parts b.3)
      (elim (cases_lt a.1 end) [
        | inl more ↦
            let rest = code_sound m a.1 more (omega arith) b.0 b.1 b.2 in (
              stands_join (encoded a.0) (code_words b.0) one.0 rest.0,
              record {
                operands = (one.1.fit, rest.1.operands);
                ends = ends_more a.0 b.0 (λ r. omega (arith, one.1.only r)) rest.1.ends;
                fills = length-append (encoded a.0) (code_words b.0) ∙ omega (arith, rest.1.fills);
              },
            )
        | inr last ↦
            let q = ok_parts (sym (none_left m a.1 last) ∙ b.2) in
            let none : b.0 ≡ [] = sym (ap (λ v. v.0) q) in
            let to' : a.1 ≡ b.1 = ap (λ v. v.1) q in
            subst (λ is. Filled at (a.0 ∷ is) b.1) (sym none) (
              subst (λ l. Stands words at l b.1) (sym (append-nil (encoded a.0))) (subst (λ m. Stands words at (encoded a.0) m) to' one.0),
              record {
                operands = (one.1.fit, tt);
                ends = one.1.last (omega arith);
                fills = ap length (append-nil (encoded a.0)) ∙ omega arith;
              },
            )
      ])

  code_complete : (most at : ℕ) → at < end → end - at ≤ most → (is : List Instruction) (to : ℕ) → Filled at is to → instructions n end most words at ≡ Ok (is, to)
  code_complete zero at h few is to f = absurd (omega arith)
  code_complete (suc m) at h few [] to f = absurd f.1.ends
  code_complete (suc m) at h few (i ∷ []) to f =
      let s : Stands words at (encoded i) to = subst (λ l. Stands words at l to) (append-nil (encoded i)) f.0 in
      let size : length (encoded i) ≡ end - at = sym (ap length (append-nil (encoded i))) ∙ f.1.fills in
      let one = (instruction_d n end words at i to).1 (s, record { fit = f.1.operands.0; before = omega arith; last = λ _. f.1.ends; only = λ _. omega arith }) in
      cond-true _ _ _ (lt-ltb at end h)
      ∙ ap (λ v. and_then v (λ i to. and_then (instructions n end m words to) (λ is to. Ok (i ∷ is, to)))) one
      ∙ ap (λ v. and_then v (λ is to. Ok (i ∷ is, to))) (none_left m to (omega (arith, s.ends)))
  code_complete (suc m) at h few (i ∷ j ∷ is) to f =
      let mid = at + length (encoded i) in
      let p = stands_cut (encoded i) (code_words (j ∷ is)) f.0 in
      let size : length (encoded i) + length (code_words (j ∷ is)) ≡ end - at = sym (length-append (encoded i) (code_words (j ∷ is))) ∙ f.1.fills in
      let more : 1 ≤ length (code_words (j ∷ is)) = omega (arith, length-append (encoded j) (code_words is), encoded_some j) in
      let one = (instruction_d n end words at i mid).1 (p.0, record { fit = f.1.operands.0; before = omega arith; last = λ e. absurd (omega arith); only = λ e. absurd (f.1.ends.0 e) }) in
      let rest = code_complete m mid (omega arith) (omega (arith, encoded_some i)) (j ∷ is) to (p.1, record { operands = f.1.operands.1; ends = f.1.ends.1; fills = omega arith }) in
      cond-true _ _ _ (lt-ltb at end h)
      ∙ ap (λ v. and_then v (λ i to. and_then (instructions n end m words to) (λ is to. Ok (i ∷ is, to)))) one
      ∙ ap (λ v. and_then v (λ is to. Ok (i ∷ is, to))) rest

-- so many words of code from a place on
code_d : (n : Counts) (size : ℕ) → 1 ≤ size → (words : List ℕ) (at : ℕ) (is : List Instruction) (to : ℕ) → (instructions n (at + size) size words at ≡ Ok (is, to)) ↔ (Stands words at (code_words is) to × CodeFits n size is)
code_d n size some words at is to =
    let e : at + size - at ≡ size = omega arith in
    subst (λ k. (instructions n (at + size) size words at ≡ Ok (is, to)) ↔ (Stands words at (code_words is) to × CodeFits n k is)) e
    (code_sound n (at + size) words size at (omega arith) (omega arith) is to, code_complete n (at + size) words size at (omega arith) (omega arith) is to)

-- ---- blocks

abbrev with_code : List TypeCode → List TypeCode → ℕ → List Instruction → Block
with_code ps fs start is = record { params = ps; free = fs; start = start; code = is }

-- the code of a block that stands at a place
pub record Begun (n : Counts) (ps fs : List TypeCode) (size at : ℕ) (b : Block) : Type 0 where
  pub code : CodeFits n size b.code
  pub is : b ≡ with_code ps fs at b.code

begun_d : (n : Counts) (ps fs : List TypeCode) (size : ℕ) → 1 ≤ size → Describes (here >>= λ start. instructions n (start + size) size >>= λ is. done (with_code ps fs start is)) (λ b. code_words b.code) (Begun n ps fs size)
begun_d n ps fs size some words at b to = (sound, complete)
  where
    sound : and_then (instructions n (at + size) size words at) (λ is to. Ok (with_code ps fs at is, to)) ≡ Ok (b, to) → Stands words at (code_words b.code) to × Begun n ps fs size at b
    sound e =
        let a = then_ok (instructions n (at + size) size words at) _ e in
        let c = (code_d n size some words at a.0 a.1).0 a.2 in
        subst (λ (v : Block × ℕ). Stands words at (code_words v.0.code) v.1 × Begun n ps fs size at v.0) (ok_parts a.3) (c.0, record { code = c.1; is = refl })

    complete : Stands words at (code_words b.code) to × Begun n ps fs size at b → and_then (instructions n (at + size) size words at) (λ is to. Ok (with_code ps fs at is, to)) ≡ Ok (b, to)
    complete h = ap (λ v. and_then v (λ is to. Ok (with_code ps fs at is, to))) ((code_d n size some words at b.code to).1 (h.0, h.1.code)) ∙ ap (λ b. Ok (b, to)) (sym h.1.is)

-- where the code of a block begins
behind_values : (at : ℕ) (b : Block) → at + length (values_words b.params) + length (values_words b.free) + 1 ≡ at + length b.params + length b.free + 3
behind_values at b = omega (arith, length-map b.params code_word, length-map b.free code_word)

pub block_d : (n : Counts) (most : ℕ) → Describes (block n most) block_words (λ at b. BlockFits n most at b)
block_d n most =
    said_d {G = λ at b. BlockFits n most at b}
    (then_d (λ b. b.params) (values_d n.types most)
    (λ ps k h. then_d (λ b. b.free) (values_d n.types most)
    (λ fs k h. then_d (λ b. length (code_words b.code)) (count_d 1 1024)
    (λ size k h. begun_d n ps fs size h.0)
    (λ size at b h. h.code.fills))
    (λ fs at b h. ap (λ b. b.free) h.1.is))
    (λ ps at b h. ap (λ b. b.params) h.1.1.is))
    (λ b. refl)
    (λ at b. (
      λ h. record {
        params = h.0;
        free = h.1.0;
        start = ap (λ b. b.start) h.1.1.1.is ∙ behind_values at b;
        short = h.1.1.0.1;
        operands = h.1.1.1.code.operands;
        ends = h.1.1.1.code.ends;
      },
      λ h. (h.params, (h.free, ((code_some b.code h.ends, h.short), record { code = record { operands = h.operands; ends = h.ends; fills = refl }; is = ap (λ s. with_code b.params b.free s b.code) (h.start ∙ sym (behind_values at b)) }))),
    ))
  where
    code_some : (is : List Instruction) → EndsByRet is → 1 ≤ length (code_words is)
    code_some [] e = absurd e
    code_some (i ∷ is) e = omega (arith, length-append (encoded i) (code_words is), encoded_some i)

pub blocks_d : (n : Counts) (k : ℕ) → Describes (chain (block n) after_block 0 k) (flat_map block_words) (λ at bs. (length bs ≡ k) × BlocksFit n 0 at bs)
blocks_d n k = chain_as (block n) after_block block_words (λ most at b. BlockFits n most at b) (λ most at bs. BlocksFit n most at bs) (λ _ _. tt) (λ _ _ _ _. (λ h. h, λ h. h)) (block_d n) 0 k
