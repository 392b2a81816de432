-- A record that is cut off is refused at the image's length.
use Rattle.std.proofs.Common.{◌≡◌, ℕ, zero, suc, ◌+◌, Bool, true, false, cond, ◌&&◌, eqb, ltb, leb, List, length, get_or, Ok, Err, sym, refl, ap, ◌∙◌, subst, arith}
use Rattle.std.proofs.lemmas.Bool.{ltb-true}
use Rattle.base.specs.declared.refusal.Cause.{Cause}
use Rattle.base.specs.declared.refusal.Cause.TheVariants.{ImageSize, NumberRange, RecordEnd, LabelOrder, Opcode}
use Rattle.base.specs.declared.refusal.Refusal.{Refusal}
use Rattle.base.specs.Refusals.{refused}
use Rattle.image.specs.declared.counts.Counts.{Counts}
use Rattle.image.specs.Format.{record_words, EndsWrong, cut_off, left_over, RecordEnds}
use Rattle.image.specs.Layout.{Structure, label, code, values, method, after_method, type_record, operands, opcode_stands, instruction, instructions, block, after_block, pair, after_pair, table, counts, total, records, ended, header, sized}
use Rattle.image.specs.Opcodes.{Form, unknown, bare, one, two, form_of, shape, least, limit}
use Rattle.image.specs.Readers.{Read, Reader, and_then, number, chain}
use Rattle.image.proofs.Describing.{Stands}
use Rattle.image.proofs.Formatting.{whole, body_stands}

-- where an answer is a cut_off record, its place is the image's length
record Ended {X : Type 0} (words : List ℕ) (r : Read X) : Type 0 where
  place : (p : ℕ) → r ≡ refused RecordEnd p → p ≡ length words

abbrev Cut : {X : Type 0} → Reader X → Type 0
Cut r = (words : List ℕ) (at : ℕ) → Ended words (r words at)

ok_cut : {X : Type 0} {words : List ℕ} {v : X × ℕ} → Ended {X = X} words (Ok v)
ok_cut = record { place = λ p e. absurd cc }

end_cut : {X : Type 0} (words : List ℕ) → Ended {X = X} words (refused RecordEnd (length words))
end_cut {X} words = record {
  place = λ p e.
      let is : ◌≡◌ {A = Refusal} (record { cause = RecordEnd; place = length words }) (record { cause = RecordEnd; place = p }) = cc in
      sym (ap (λ r. r.place) is);
}

-- any other cause
other_cut : {X : Type 0} {words : List ℕ} {at : ℕ} (cause : Cause) → (cause ≡ RecordEnd → ⊥) → Ended {X = X} words (refused cause at)
other_cut {X} {words} {at} cause other = record {
  place = λ p e.
      let is : ◌≡◌ {A = Refusal} (record { cause = cause; place = at }) (record { cause = RecordEnd; place = p }) = cc in
      absurd (other (ap (λ r. r.cause) is));
}

cond_cut : {X : Type 0} {words : List ℕ} (b : Bool) {r s : Read X} → Ended words r → Ended words s → Ended words (cond b r s)
cond_cut true h k = h
cond_cut false h k = k

then_cut : {X Y : Type 0} {words : List ℕ} (r : Read X) (f : X → ℕ → Read Y) → Ended words r → ((x : X) (to : ℕ) → Ended words (f x to)) → Ended words (and_then r f)
then_cut (Ok v) f h k = k v.0 v.1
then_cut {X} {Y} (Err d) f h k = record { place = λ p e. let is : d ≡ record { cause = RecordEnd; place = p } = cc in h.place p (ap {B = Read X} Err is) }

number_cut : (low limit : ℕ) → Cut (number low limit)
number_cut low limit words at = cond_cut (ltb at (length words)) (cond_cut (leb low (get_or words at 0) && ltb (get_or words at 0) limit) ok_cut (other_cut NumberRange (λ e. cc))) (end_cut words)

chain_cut : {S X : Type 0} (item : S → Reader X) (next : S → X → S) → ((s : S) → Cut (item s)) → (s : S) (n : ℕ) → Cut (chain item next s n)
chain_cut item next each s zero words at = ok_cut
chain_cut item next each s (suc n) words at = then_cut (item s words at) _ (each s words at) (λ x to. then_cut (chain item next (next s x) n words to) _ (chain_cut item next each (next s x) n words to) (λ xs to. ok_cut))

label_cut : (low : ℕ) → Cut (label low)
label_cut low words at = then_cut (number 0 256 words at) _ (number_cut 0 256 words at) (λ l to. cond_cut (leb low l) ok_cut (other_cut LabelOrder (λ e. cc)))

code_cut : (types : ℕ) → Cut (code types)
code_cut types words at = then_cut (number 0 (types + 3) words at) _ (number_cut 0 (types + 3) words at) (λ w to. ok_cut)

values_cut : (types most : ℕ) → Cut (values types most)
values_cut types most words at = then_cut (number 0 (most + 1) words at) _ (number_cut 0 (most + 1) words at) (λ n to. chain_cut {S = Unit {0}} (λ _. code types) (λ s _. s) (λ _. code_cut types) tt n words to)

type_cut : (types : ℕ) → Cut (type_record types)
type_cut types words at =
    then_cut (number 0 17 words at) _ (number_cut 0 17 words at)
    (λ n to. chain_cut (method types) after_method (λ low words at. then_cut (label low words at) _ (label_cut low words at) (λ l to. then_cut (values types 8 words to) _ (values_cut types 8 words to) (λ cs to. ok_cut))) 0 n words to)

operands_cut : (n : Counts) (f : Form) → Cut (operands n f)
operands_cut n unknown words at = other_cut Opcode (λ e. cc)
operands_cut n (bare i) words at = ok_cut
operands_cut n (one o f) words at = then_cut (number (least o) (limit n o) words at) _ (number_cut (least o) (limit n o) words at) (λ a to. ok_cut)
operands_cut n (two o p f) words at =
    then_cut (number (least o) (limit n o) words at) _ (number_cut (least o) (limit n o) words at)
    (λ a to. then_cut (number (least p) (limit n p) words to) _ (number_cut (least p) (limit n p) words to) (λ b to. ok_cut))

instruction_cut : (n : Counts) (end : ℕ) → Cut (instruction n end)
instruction_cut n end words at =
    then_cut (number 0 4294967296 words at) _ (number_cut 0 4294967296 words at)
    (λ o to. cond_cut (opcode_stands end at o (shape (form_of o))) (operands_cut n (form_of o) words to) (other_cut Opcode (λ e. cc)))

instructions_cut : (n : Counts) (end most : ℕ) → Cut (instructions n end most)
instructions_cut n end zero words at = ok_cut
instructions_cut n end (suc m) words at =
    cond_cut (ltb at end) (then_cut (instruction n end words at) _ (instruction_cut n end words at) (λ i to. then_cut (instructions n end m words to) _ (instructions_cut n end m words to) (λ is to. ok_cut))) ok_cut

block_cut : (n : Counts) (most : ℕ) → Cut (block n most)
block_cut n most words at =
    then_cut (values n.types most words at) _ (values_cut n.types most words at)
    (λ ps to. then_cut (values n.types most words to) _ (values_cut n.types most words to)
    (λ fs to. then_cut (number 1 1025 words to) _ (number_cut 1 1025 words to)
    (λ size to. then_cut (instructions n (to + size) size words to) _ (instructions_cut n (to + size) size words to) (λ is to. ok_cut))))

table_cut : (blocks : ℕ) → Cut (table blocks)
table_cut blocks words at =
    then_cut (number 1 17 words at) _ (number_cut 1 17 words at)
    (λ n to. then_cut (chain (pair blocks) after_pair 0 n words to) _
    (chain_cut (pair blocks) after_pair (λ low words at. then_cut (label low words at) _ (label_cut low words at) (λ l to. then_cut (number 0 blocks words to) _ (number_cut 0 blocks words to) (λ b to. ok_cut))) 0 n words to)
    (λ ps to. ok_cut))

records_cut : (n : Counts) → Cut (records n)
records_cut n words at =
    then_cut _ _ (chain_cut {S = Unit {0}} (λ _. type_record n.types) (λ s _. s) (λ _. type_cut n.types) tt n.types words at)
    (λ ts to. then_cut _ _ (chain_cut (block n) after_block (block_cut n) 0 n.blocks words to)
    (λ bs to. then_cut _ _ (chain_cut {S = Unit {0}} (λ _. table n.blocks) (λ s _. s) (λ _. table_cut n.blocks) tt n.tables words to) (λ ms to. ok_cut)))

counts_cut : Cut counts
counts_cut words at =
    then_cut (number 0 65 words at) _ (number_cut 0 65 words at)
    (λ t to. then_cut (number 1 129 words to) _ (number_cut 1 129 words to)
    (λ b to. then_cut (number 0 129 words to) _ (number_cut 0 129 words to)
    (λ m to. then_cut (number 0 129 words to) _ (number_cut 0 129 words to) (λ n to. ok_cut))))

whole_cut : (words : List ℕ) → Ended words (whole words)
whole_cut words =
    then_cut (header words) _ (cond_cut (sized words) (
    then_cut (counts words 0) _ (counts_cut words 0)
    (λ n to. then_cut (total words to) _ (cond_cut (eqb (get_or words to 0) (length words)) ok_cut (other_cut ImageSize (λ e. cc))) (λ _ to. ok_cut))
    ) (other_cut ImageSize (λ e. cc)))
    (λ n to. records_cut n words to)

-- what is behind a whole structure, or a record that is cut off
pub record_ends : (words : List ℕ) → RecordEnds words
record_ends words place e = ended_case (whole words) refl e
  where
    ended_case : (r : Read Structure) → whole words ≡ r → ended words r ≡ refused RecordEnd place → EndsWrong words place
    ended_case (Err d) is e = let same : d ≡ record { cause = RecordEnd; place = place } = cc in cut_off ((whole_cut words).place place (is ∙ ap {B = Read Structure} Err same))
    ended_case (Ok v) is e = over (ltb v.1 (length words)) refl e
      where
        over : (b : Bool) → ltb v.1 (length words) ≡ b → cond b (refused RecordEnd v.1) (Ok v.0) ≡ refused RecordEnd place → EndsWrong words place
        over true test e =
            let at_end : ◌≡◌ {A = Refusal} (record { cause = RecordEnd; place = v.1 }) (record { cause = RecordEnd; place = place }) = cc in
            let here : v.1 ≡ place = ap (λ r. r.place) at_end in
            let stands = subst (λ p. Stands words 5 (record_words v.0) p) here (body_stands words v.0 v.1 is) in
            left_over v.0 stands.begins stands.ends (omega (arith, ltb-true v.1 (length words) test))
        over false test e = absurd cc
