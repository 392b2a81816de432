-- The loops of the writer: the size of a quoted text, and its bytes in front of the old tail.
use Rattle.std.proofs.Common.{◌≡◌, ℕ, ◌+◌, ◌*◌, ◌<◌, ◌≤◌, true, false, ◌&&◌, leb, List, [], ◌∷◌, ◌++◌, length, get_or, take, drop, set, Ok, sym, refl, ap, ◌∙◌, append_assoc, arith, length-append}
use Rattle.std.proofs.lemmas.List.{at_drop_more, drop_more, take_more, flat_map_more, set_at, take-append-drop, take_all, drop_all}
use Rattle.std.proofs.lemmas.Bool.{le-leb, cond-true, cond-false, and_left, and_right}
use Rattle.std.proofs.lemmas.Grind.{flat_map-append}
use Rattle.base.specs.declared.refusal.Cause.TheVariants.{BadText}
use Rattle.base.specs.Refusals.{refused}
use Rattle.lines.specs.Overlay.{room, overlaid}
use Rattle.sheet.specs.Text.{letter, inner, quoted, printable, all_printable}
use Rattle.sheet.specs.Quoted.{sized, written}
use Rattle.sheet.proofs.Letters.{one, two, letter_some, letters, quoted_size}
use Rattle.sheet.proofs.Trips.{good_is, sized_is, written_good}

letters_drop : (text : List ℕ) (i : ℕ) → i < length text → letters (drop i text) ≡ length (letter (get_or text i 0)) + letters (drop (i + 1) text)
letters_drop text i inside = at_drop_more letters text i 0 inside ∙ length-append (letter (get_or text i 0)) (inner (drop (i + 1) text))

-- the loop that counts, before turn i
pub record Counting (text : List ℕ) (i size : ℕ) : Type 0 where
  pub sum : size + letters (drop i text) ≡ 2 + letters text
  pub clean : all_printable (drop i text) ≡ all_printable text
  pub small : size ≤ 2 + 2 * i

module _ {text : List ℕ} {i size : ℕ} (now : Counting text i size) where
  pub all_counted : length text ≤ i → 1 ≤ length text → length text ≤ 32 → sized text ≡ Ok size
  all_counted all some few =
      let rest : drop i text ≡ [] = drop_all i text all in
      sized_is text (good_is text some few (sym now.clean ∙ ap all_printable rest))
      ∙ ap Ok (omega (arith, now.sum, ap letters rest, quoted_size text))

  module _ (inside : i < length text) where
    clean_drop : all_printable text ≡ (printable (get_or text i 0) && all_printable (drop (i + 1) text))
    clean_drop = sym now.clean ∙ at_drop_more all_printable text i 0 inside

    pub counted : (n : ℕ) {after : ℕ} → n ≤ 2 → printable (get_or text i 0) ≡ true → length (letter (get_or text i 0)) ≡ n → after ≡ size + n → Counting text (i + 1) after
    counted n few ok is after_is = record {
      sum = omega (arith, after_is, now.sum, letters_drop text i inside);
      clean = sym (clean_drop ∙ ap (λ b. b && all_printable (drop (i + 1) text)) ok);
      small = omega (arith, after_is, now.small);
    }

    pub uncounted : printable (get_or text i 0) ≡ false → sized text ≡ refused BadText 1
    uncounted e = cond-false _ _ _ (and_right (leb 1 (length text) && leb (length text) 32) _ (clean_drop ∙ and_left _ _ e))

-- a byte written behind what is written
put : (p old : List ℕ) (n v : ℕ) → length p ≡ n → n < length old → set (p ++ drop n old) n v ≡ (p ++ v ∷ []) ++ drop (n + 1) old
put p old n v e h =
    ap (λ l. set (p ++ l) n v) (drop_more old n 0 h) ∙ set_at p (get_or old n 0) (drop (n + 1) old) v n e ∙ sym (append_assoc p (v ∷ []) (drop (n + 1) old))

-- the loop that writes, before turn i
pub record Writing (old text : List ℕ) (i : ℕ) (now : List ℕ) (next : ℕ) : Type 0 where
  pub stands : now ≡ (34 ∷ inner (take i text)) ++ drop next old
  pub ends : next ≡ 1 + letters (take i text)

pub opened : (old text : List ℕ) → 0 < length old → Writing old text 0 (set old 0 34) 1
opened old text h = record { stands = put [] old 0 34 refl h; ends = refl }

module _ {old text : List ℕ} {i : ℕ} {now : List ℕ} {next : ℕ} (w : Writing old text i now next) (inside : i < length text) where
  abbrev front : List ℕ
  front = 34 ∷ inner (take i text)

  abbrev byte : ℕ
  byte = get_or text i 0

  grown : (ls : List ℕ) {after : List ℕ} {end : ℕ} → letter byte ≡ ls → after ≡ (front ++ ls) ++ drop end old → end ≡ next + length ls → Writing old text (i + 1) after end
  grown ls {after} {end} is stands end_is =
      let more : inner (take (i + 1) text) ≡ inner (take i text) ++ ls =
      ap inner (take_more text i 0 inside) ∙ sym (flat_map_more letter [] (take i text) byte) ∙ ap (λ l. inner (take i text) ++ l) is in
      record {
        stands = stands ∙ ap (λ l. (34 ∷ l) ++ drop end old) (sym more);
        ends = omega (arith, end_is, w.ends, ap length more, length-append (inner (take i text)) ls);
      }

  first : next < length old → set now next byte ≡ (front ++ byte ∷ []) ++ drop (next + 1) old
  first h = ap (λ l. set l next byte) w.stands ∙ put front old next byte (omega (arith, w.ends)) h

  pub wrote_one : {after : List ℕ} {end : ℕ} → (byte ≡ 34 → ⊥) → next < length old → after ≡ set now next byte → end ≡ next + 1 → Writing old text (i + 1) after end
  wrote_one other h after_is end_is =
      grown (byte ∷ []) (one byte other) (after_is ∙ first h ∙ ap (λ k. (front ++ byte ∷ []) ++ drop k old) (sym end_is)) end_is

  pub wrote_two : {after : List ℕ} {end : ℕ} → byte ≡ 34 → next + 1 < length old → after ≡ set (set now next byte) (next + 1) 34 → end ≡ next + 2 → Writing old text (i + 1) after end
  wrote_two {after} {end} is h after_is end_is =
      let past : next + 1 + 1 ≡ end = omega (arith, end_is) in
      grown (byte ∷ 34 ∷ []) (two byte is ∙ ap (λ (k : ℕ). k ∷ 34 ∷ []) (sym is))
      (after_is
      ∙ ap (λ l. set l (next + 1) 34) (first (omega arith))
      ∙ put (front ++ byte ∷ []) old (next + 1) 34 (omega (arith, w.ends, length-append front (byte ∷ []))) h
      ∙ (λ k. append_assoc front (byte ∷ []) (34 ∷ []) k ++ drop (past k) old))
      end_is

-- a size that was answered, and that the tail has room for
module _ (tail text : List ℕ) {size : ℕ} (fits : Ok size ≡ sized text) (short : size ≤ length tail) where
  pub answered : written tail text ≡ Ok size
  answered = ap (room (length tail)) (sym fits) ∙ cond-true _ _ _ (le-leb size (length tail) short)

  whole_size : size ≡ 2 + letters text
  whole_size = omega (arith, (written_good tail text size answered).1, quoted_size text)

  pub some_room : 0 < length tail
  some_room = omega (arith, whole_size, short)

  module _ {i : ℕ} {now : List ℕ} {next : ℕ} (w : Writing tail text i now next) where
    -- room for what is still to write, and the closing quote
    pub roomy : next + letters (drop i text) < length tail
    roomy =
        let split = ap letters (sym (take-append-drop i text)) ∙ ap length (flat_map-append letter (take i text) (drop i text)) ∙ length-append (inner (take i text)) (inner (drop i text)) in
        omega (arith, whole_size, short, w.ends, split)

    pub roomy_one : i < length text → next + 1 < length tail
    roomy_one inside = omega (arith, roomy, letters_drop text i inside, letter_some (get_or text i 0))

    pub roomy_two : i < length text → get_or text i 0 ≡ 34 → next + 2 < length tail
    roomy_two inside is = omega (arith, roomy, letters_drop text i inside, ap length (two (get_or text i 0) is))

    pub all_written : length text ≤ i → set now next 34 ≡ overlaid (quoted text) tail
    all_written all =
        let front = 34 ∷ inner (take i text) in
        let whole : take i text ≡ text = take_all i text all in
        let end : next + 1 ≡ length (quoted text) = omega (arith, w.ends, quoted_size text, ap letters whole) in
        ap (λ l. set l next 34) w.stands
        ∙ put front tail next 34 (omega (arith, w.ends)) (omega (arith, roomy))
        ∙ (λ k. quoted (whole k) ++ drop (end k) tail)
