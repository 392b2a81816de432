-- The lines of a sheet that was read, written back, are read as the same contents.
use Rattle.std.proofs.Common.{◌≡◌, ℕ, ◌+◌, ◌<◌, ◌≤◌, Bool, true, false, cond, List, [], ◌∷◌, ◌++◌, map, length, IfOk, Some, Ok, Err, codes, Result, sym, refl, ap, ◌∙◌, subst, arith}
use mathlib.Core.List.{map-map}
use Rattle.std.specs.List.{flat_map}
use Rattle.base.specs.declared.refusal.Refusal.{Refusal}
use Rattle.std.proofs.ByRecursion.{All-get_or, All-from_get_or, All-map, All-weaker}
use Rattle.std.proofs.lemmas.List.{length-map, map-id}
use Rattle.std.proofs.lemmas.Grind.{flat_map-append}
use Rattle.lines.specs.Lines.{text_line, count_line, number_line}
use Rattle.array_list.specs.Items.{items}
use Rattle.sheet.specs.declared.sheet.Sheet.{Sheet}
use Rattle.sheet.specs.declared.text.Text.{Text}
use Rattle.sheet.specs.Texts.{text_of}
use Rattle.sheet.specs.Text.{inner}
use Rattle.sheet.specs.Number.{InRange}
use Rattle.sheet.specs.Same.{same_text}
use Rattle.sheet.specs.Format.{Contents, lookup, sheet_of}
use Rattle.sheet.specs.Written.{Ask, figure, named, Source, ask_line, encoded, or_zero, resolved, meant, Answerable, Fits}
use Rattle.sheet.specs.View.{contents, written_names, view, WellWritten}
use Rattle.sheet.specs.Lines.{lines_of, SaysAgain}
use Rattle.sheet.proofs.Lines.{not_some}
use Rattle.sheet.proofs.Formatting.{accepts_exactly}

-- what is found among the names, counted from i, is one of their numbers
found_below : (names : List (List ℕ)) (t : List ℕ) (i k : ℕ) → lookup names t i ≡ Some k → k < i + length names
found_below [] t i k e = absurd (not_some e)
found_below (n ∷ ns) t i k e = go (found_below ns t (i + 1) k) (same_text n t) e
  where
    go : (lookup ns t (i + 1) ≡ Some k → k < i + 1 + length ns) → (b : Bool) → cond b (Some i) (lookup ns t (i + 1)) ≡ Some k → k < i + length (n ∷ ns)
    go ih true h = let same : i ≡ k = cc in omega arith
    go ih false h = omega (arith, ih h)

resolved_in_range : (names : List (List ℕ)) → length names ≤ 128 → (a : Ask) → Answerable names a → InRange (resolved names a)
resolved_in_range names few (figure z) h = h
resolved_in_range names few (named t) h =
    let below : h.1.0 < 2147483648 = omega (arith, found_below names t 0 h.1.0 h.1.1) in
    subst (λ o. InRange (or_zero o)) (sym h.1.1) below

-- the contents as a source, with each ask as its number
abbrev plain : Contents → Source
plain c = record { style = c.style; names = c.names; asks = map figure c.asks }

plain_means : (c : Contents) → c ≡ meant (plain c)
plain_means c = ap (λ l. record { style = c.style; names = c.names; asks = l }) (sym (map-map (resolved c.names) figure c.asks ∙ map-id c.asks))

plain_fits : (s : Source) → Fits s → Fits (plain (meant s))
plain_fits s fits =
    let values = map (resolved s.names) s.asks in
    let in_range = All-map InRange (resolved s.names) s.asks (All-weaker _ _ (resolved_in_range s.names fits.few_names) s.asks (All-from_get_or _ s.asks _ fits.asks_answerable)) in
    record {
      style_is_text = fits.style_is_text;
      few_names = fits.few_names;
      names_are_texts = fits.names_are_texts;
      no_two_same = fits.no_two_same;
      few_asks = omega (arith, fits.few_asks, length-map values figure, length-map s.asks (resolved s.names));
      asks_answerable = λ i h. All-get_or (Answerable s.names) (map figure values) i _ h (All-map (Answerable s.names) figure values in_range);
    }

joined_map : {X Y A : Type 0} (f : Y → List A) (g : X → Y) (xs : List X) → flat_map f (map g xs) ≡ flat_map (λ x. f (g x)) xs
joined_map f g [] = refl
joined_map f g (x ∷ xs) = ap (λ l. f (g x) ++ l) (joined_map f g xs)

-- two lines, a line for each x, one line more, and a line for each y, where equal lines may stand in their place
joined_lines : {X Y A : Type 0} {a a' c c' all_x all_y : List A} (b : List A) (f : X → List A) (xs : List X) (g : Y → List A) (ys : List Y) → a ≡ a' → flat_map f xs ≡ all_x → c ≡ c' → flat_map g ys ≡ all_y → flat_map (λ l. l) (a ∷ b ∷ (map f xs ++ c ∷ map g ys)) ≡ a' ++ (b ++ (all_x ++ (c' ++ all_y)))
joined_lines b f xs g ys first many next more =
    let rest = flat_map-append (λ l. l) (map f xs) (_ ∷ map g ys) ∙ (λ i. (joined_map (λ l. l) f xs ∙ many) i ++ (next i ++ (joined_map (λ l. l) g ys ∙ more) i)) in
    λ i. first i ++ (b ++ rest i)

written_plain : (s : Sheet) → WellWritten s → flat_map (λ l. l) (lines_of s) ≡ encoded (plain (view s))
written_plain s well =
    let name = text_line (codes "name=") in
    joined_lines (count_line (codes "names=") (length (view s).names)) name (written_names s) (number_line (codes "ask=")) (view s).asks
    (ap (text_line (codes "style=")) well.style)
    (ap (flat_map name) well.names ∙ joined_map name inner (view s).names)
    (ap (count_line (codes "asks=")) (sym (length-map (view s).asks figure)))
    (sym (joined_map ask_line figure (view s).asks))

pub says_again : (bytes : List ℕ) (s : Sheet) → WellWritten s → sheet_of bytes ≡ Ok (view s) → SaysAgain s
says_again bytes s well read =
    let w = (accepts_exactly bytes (view s)).0 read in
    (accepts_exactly (flat_map (λ l. l) (lines_of s)) (view s)).1 (record {
      source = plain (view s);
      bytes_are = written_plain s well;
      fits = subst (λ c. Fits (plain c)) (sym w.says) (plain_fits w.source w.fits);
      says = plain_means (view s);
    })

-- each text of a sheet is written as it must be
doubled : (texts : List Text) → map (λ (t : Text). t.written.now) texts ≡ map inner (map text_of texts)
doubled [] = refl
doubled (t ∷ ts) = λ i. t.is_doubled i ∷ doubled ts i

well_written : (s : Sheet) → WellWritten s
well_written s = record { style = s.style.is_doubled; names = doubled (items s.names) }

pub written_well : (r : Result Sheet Refusal) → IfOk r WellWritten
written_well (Ok s) = well_written s
written_well (Err e) = tt

-- what was read, written back
pub read_again : (bytes : List ℕ) (r : Result Sheet Refusal) → contents r ≡ sheet_of bytes → IfOk r SaysAgain
read_again bytes (Ok s) value = says_again bytes s (well_written s) (sym value)
read_again bytes (Err e) value = tt
