-- The accepted bytes are exactly the written forms of sheets.
use Rattle.std.proofs.Common.{◌≡◌, ℕ, suc, ◌^◌, ◌<◌, ◌≤◌, Bool, true, false, cond, ◌&&◌, eqb, leb, ◌↔◌, List, [], ◌∷◌, ◌++◌, map, length, get_or, ℤ, pos, negsuc, Some, None, Ok, Err, codes, decimal, fold, Option, Result, sym, refl, ap, ◌∙◌, subst, append_assoc, arith, length-append, rules}
use Rattle.std.specs.Fmt.{signed_decimal}
use Rattle.std.specs.Char.{is_ascii_digit}
use Rattle.std.specs.Str.{all_ascii_digits}
use Rattle.std.specs.List.{flat_map, AllByRecursion as All}
use Rattle.std.proofs.lemmas.Fmt.{digits_decimal}
use Rattle.std.proofs.ByRecursion.{All-append, All-get_or, All-from_get_or, All-weaker}
use Rattle.std.proofs.lemmas.List.{append-nil, nil_from_length}
use Rattle.std.proofs.lemmas.Bool.{leb-true, le-leb, eqb-true, eq-eqb, ne_eqb, cond-true, cond-false, cond_both, and_parts}
use Rattle.base.specs.declared.refusal.Cause.{Cause}
use Rattle.lines.specs.Lines.{line as written-line}
use Rattle.sheet.specs.Text.{printable, all_printable, good, letter, inner, quoted}
use Rattle.sheet.specs.Number.{natural, number, InRange}
use Rattle.sheet.specs.Quoted.{unquoted}
use Rattle.sheet.specs.Format.{Contents, Place, whole, text, few, count, lookup, unless_known, new, name, known, asked, ask, figure as figured, with_name, with_ask, ask_lines, name_lines, names_line, titled, sheet_of}
use Rattle.sheet.specs.Written.{Ask, figure, named, name_line, ask_text, ask_line, or_zero, resolved, meant, Answerable, Writes, AcceptsExactly}
use Rattle.sheet.proofs.Trips.{accepted}
use Rattle.sheet.proofs.Decimal.{own, naturals, numbers}
use Rattle.sheet.proofs.Lines.{not_ok, Clear, Rest, Line, line_exactly, InTurn, Lines, lines_exactly}
use Rattle.sheet.proofs.Names.{New, all_named, distinct_from_turns, turns_from_distinct}

cond_ok : {X E : Type 0} (b : Bool) (x y : X) (e : E) → ◌≡◌ {A = Result X E} (cond b (Ok x) (Err e)) (Ok y) → (b ≡ true) × (x ≡ y)
cond_ok true x y e h = (refl, cc)
cond_ok false x y e h = absurd (not_ok h)

-- the rest of a line that is a text
whole_ok : (bytes : List ℕ) (o : Option (List ℕ)) (t : List ℕ) → whole bytes o ≡ Ok t → (o ≡ Some t) × (length (quoted t) ≡ length bytes)
whole_ok bytes (Some u) t e =
    let a = cond_ok (eqb (length (quoted u)) (length bytes)) u t _ e in
    (ap Some a.1, ap (λ l. length (quoted l)) (sym a.1) ∙ eqb-true (length (quoted u)) (length bytes) a.0)
whole_ok bytes None t e = absurd (not_ok e)

clear_byte : (b : ℕ) → 32 ≤ b → eqb b 10 ≡ false
clear_byte b low = ne_eqb b 10 (λ e. omega arith)

clear_letter : (c : ℕ) → printable c ≡ true → Clear (letter c)
clear_letter c clean = cond_both (eqb c 34) _ _ Clear (λ _. (refl, (refl, tt))) (λ _. (clear_byte c (leb-true 32 c (and_parts (leb 32 c) _ clean).0), tt))

clear_inner : (t : List ℕ) → all_printable t ≡ true → Clear (inner t)
clear_inner [] clean = tt
clear_inner (c ∷ cs) clean = let parts = and_parts (printable c) (all_printable cs) clean in All-append _ (letter c) (inner cs) (clear_letter c parts.0) (clear_inner cs parts.1)

pub text_sound : (bytes t : List ℕ) → text bytes ≡ Ok t → (bytes ≡ quoted t) × (good t ≡ true)
text_sound bytes t e =
    let w = whole_ok bytes (unquoted bytes) t e in
    let a = (accepted bytes t).0 w.0 in
    let none : a.1.rest ≡ [] = nil_from_length a.1.rest (omega (arith, w.1, ap length a.1.is, length-append (quoted t) a.1.rest)) in
    (a.1.is ∙ ap (λ l. quoted t ++ l) none ∙ append-nil (quoted t), a.0)

pub text_complete : (t : List ℕ) → good t ≡ true → text (quoted t) ≡ Ok t
text_complete t is =
    ap (whole (quoted t)) ((accepted (quoted t) t).1 (is, record { rest = []; is = sym (append-nil (quoted t)); stops = λ e. omega arith }))
    ∙ cond-true _ _ _ (eq-eqb (length (quoted t)) _ refl)

clear_quoted : (t : List ℕ) → good t ≡ true → Clear (quoted t)
clear_quoted t is = (refl, All-append _ (inner t) (34 ∷ []) (clear_inner t (and_parts (leb 1 (length t) && leb (length t) 32) _ is).1) (refl, tt))

pub reads_text : Rest text quoted (λ t. good t ≡ true) (λ t. t)
reads_text = record { sound = λ bytes t e. let a = text_sound bytes t e in (t, a.0, a.1, refl); complete = text_complete; clear = clear_quoted }

-- .. that is a count
few_ok : (o : Option ℕ) (n : ℕ) → few o ≡ Ok n → (o ≡ Some n) × (n ≤ 128)
few_ok (Some m) n e = let a = cond_ok (leb m 128) m n _ e in (ap Some a.1, subst (λ k. k ≤ 128) a.1 (leb-true m 128 a.0))
few_ok None n e = absurd (not_ok e)

digits_high : (ds : List ℕ) → all_ascii_digits ds ≡ true → All (λ b. 48 ≤ b) ds
digits_high [] clean = tt
digits_high (b ∷ bs) clean = let parts = and_parts (is_ascii_digit b) (all_ascii_digits bs) clean in (leb-true 48 b (and_parts (leb 48 b) _ parts.0).0, digits_high bs parts.1)

decimal_high : (n : ℕ) → n < 2 ^ 64 → All (λ b. 48 ≤ b) (decimal n)
decimal_high n small = digits_high (decimal n) (digits_decimal own n small)

clear_decimal : (n : ℕ) → n < 2 ^ 64 → Clear (decimal n)
clear_decimal n small = All-weaker _ _ (λ b high. clear_byte b (omega arith)) (decimal n) (decimal_high n small)

pub reads_count : Rest count decimal (λ n. n ≤ 128) (λ n. n)
reads_count = record {
  sound = λ bytes n e. let a = few_ok (natural bytes) n e in (n, ((naturals bytes n).0 a.0).0, a.1, refl);
  complete = λ n h. ap few ((naturals (decimal n) n).1 (refl, omega arith)) ∙ cond-true _ _ _ (le-leb n 128 h);
  clear = λ n h. clear_decimal n (omega arith);
}

-- .. that is a new name
new_ok : (names : List (List ℕ)) (r : Result (List ℕ) Cause) (t : List ℕ) → new names r ≡ Ok t → (r ≡ Ok t) × (lookup names t 0 ≡ None)
new_ok names (Ok u) t e = go (lookup names u 0) refl e
  where
    go : (o : Option ℕ) → lookup names u 0 ≡ o → unless_known u o ≡ Ok t → (◌≡◌ {A = Result (List ℕ) Cause} (Ok u) (Ok t)) × (lookup names t 0 ≡ None)
    go (Some i) is h = absurd (not_ok h)
    go None is h = let same : u ≡ t = cc in (h, ap (λ l. lookup names l 0) (sym same) ∙ is)
new_ok names (Err cause) t e = absurd (not_ok e)

pub reads_name : (c : Contents) → Rest (name c.names) quoted (New c) (λ t. t)
reads_name c = record {
  sound = λ bytes t e. let a = new_ok c.names (text bytes) t e in let b = text_sound bytes t a.0 in (t, b.0, (b.1, a.1), refl);
  complete = λ t is. ap (new c.names) (text_complete t is.0) ∙ ap (unless_known t) is.1;
  clear = λ t is. clear_quoted t is.0;
}

-- .. that is an ask
asked_ok : (names : List (List ℕ)) (r : Result (List ℕ) Cause) (z : ℤ) → asked names r ≡ Ok z → (t : List ℕ) × (i : ℕ) × (r ≡ Ok t) × (lookup names t 0 ≡ Some i) × (z ≡ pos i)
asked_ok names (Ok t) z e = go (lookup names t 0) refl e
  where
    go : (o : Option ℕ) → lookup names t 0 ≡ o → known o ≡ Ok z → (u : List ℕ) × (i : ℕ) × (◌≡◌ {A = Result (List ℕ) Cause} (Ok t) (Ok u)) × (lookup names u 0 ≡ Some i) × (z ≡ pos i)
    go (Some i) is h = (t, i, refl, is, cc)
    go None is h = absurd (not_ok h)
asked_ok names (Err cause) z e = absurd (not_ok e)

figured_ok : (o : Option ℤ) (z : ℤ) → figured o ≡ Ok z → o ≡ Some z
figured_ok (Some y) z e = cc
figured_ok None z e = absurd (not_ok e)

first_high : (bs : List ℕ) → All (λ b. 48 ≤ b) bs → get_or bs 0 0 ≡ 34 → ⊥
first_high [] high e = omega arith
first_high (b ∷ bs) high e = omega (arith, high.0)

no_quote : (z : ℤ) → InRange z → get_or (signed_decimal z) 0 0 ≡ 34 → ⊥
no_quote (pos n) h e = first_high (decimal n) (decimal_high n (omega arith)) e
no_quote (negsuc n) h e = omega arith

module _ (names : List (List ℕ)) where
  ask_sound : (bytes : List ℕ) (z : ℤ) → ask names bytes ≡ Ok z → (a : Ask) × (bytes ≡ ask_text a) × Answerable names a × (z ≡ resolved names a)
  ask_sound bytes z e = go (eqb (get_or bytes 0 0) 34) e
    where
      go : (b : Bool) → cond b (asked names (text bytes)) (figured (number bytes)) ≡ Ok z → (a : Ask) × (bytes ≡ ask_text a) × Answerable names a × (z ≡ resolved names a)
      go true h =
          let a = asked_ok names (text bytes) z h in
          let b = text_sound bytes a.0 a.2 in
          (named a.0, b.0, (b.1, (a.1, a.3)), a.4 ∙ ap or_zero (sym a.3))
      go false h = let a = (numbers bytes z).0 (figured_ok (number bytes) z h) in (figure z, a.0, a.1, refl)

  -- over any bytes, since those of a quoted text would compute
  ask_quoted : (bytes t : List ℕ) (i : ℕ) → get_or bytes 0 0 ≡ 34 → text bytes ≡ Ok t → lookup names t 0 ≡ Some i → ask names bytes ≡ Ok (pos i)
  ask_quoted bytes t i first is found = cond-true _ _ _ (eq-eqb (get_or bytes 0 0) 34 first) ∙ ap (asked names) is ∙ ap known found

  ask_complete : (a : Ask) → Answerable names a → ask names (ask_text a) ≡ Ok (resolved names a)
  ask_complete (figure z) h = cond-false _ _ _ (ne_eqb (get_or (signed_decimal z) 0 0) 34 (no_quote z h)) ∙ ap figured ((numbers (signed_decimal z) z).1 (refl, h))
  ask_complete (named t) h = ask_quoted (quoted t) t h.1.0 refl (text_complete t h.0) h.1.1 ∙ ap (λ o. Ok (or_zero o)) (sym h.1.1)

  clear_ask : (a : Ask) → Answerable names a → Clear (ask_text a)
  clear_ask (figure (pos n)) h = clear_decimal n (omega arith)
  clear_ask (figure (negsuc n)) h = (refl, clear_decimal (suc n) (omega arith))
  clear_ask (named t) h = clear_quoted t h.0

pub reads_ask : (c : Contents) → Rest (ask c.names) ask_text (Answerable c.names) (resolved c.names)
reads_ask c = record { sound = ask_sound c.names; complete = ask_complete c.names; clear = clear_ask c.names }

-- how a sheet that says d goes on: behind its last ask, from its count of asks, from its count of names, and from its start
abbrev Done : Contents → Contents → List ℕ → Type 0
Done d c left = (left ≡ []) × (c ≡ d)

abbrev with_asked : Contents → Ask → Contents
with_asked c a = with_ask c (resolved c.names a)

abbrev Asks : Contents → Contents → List ℕ → Type 0
Asks d c left = Line (codes "asks=") decimal (λ n. n ≤ 128) (Lines (codes "ask=") ask_text (λ e. Answerable e.names) with_asked (Done d) c) left

abbrev Names : Contents → Contents → List ℕ → Type 0
Names d c left = Line (codes "names=") decimal (λ n. n ≤ 128) (Lines (codes "name=") quoted New with_name (Asks d) c) left

abbrev Sheet : Contents → List ℕ → Type 0
Sheet d left = Line (codes "style=") quoted (λ t. good t ≡ true) (λ t. Names d (titled t)) left

module _ (d : Contents) where
  done_exactly : (c : Contents) (p : Place) → (ask_lines c 0 p ≡ Ok d) ↔ Done d c p.left
  done_exactly c p = (
    λ e. let a = cond_ok (eqb (length p.left) 0) c d _ e in (nil_from_length p.left (eqb-true (length p.left) 0 a.0), a.1),
    λ h. cond-true _ _ _ (eq-eqb (length p.left) 0 (ap length h.0)) ∙ ap Ok h.1,
  )

  asks_exactly : (c : Contents) (p : Place) → (name_lines c 0 p ≡ Ok d) ↔ Asks d c p.left
  asks_exactly c = line_exactly (codes "asks=") (search rules) reads_count (ask_lines c) d _
      (lines_exactly (codes "ask=") (search rules) reads_ask with_ask ask_lines (λ e n p. refl) d (Done d) done_exactly c)

  names_exactly : (c : Contents) (p : Place) → (names_line c p ≡ Ok d) ↔ Names d c p.left
  names_exactly c = line_exactly (codes "names=") (search rules) reads_count (name_lines c) d _
      (lines_exactly (codes "name=") (search rules) reads_name with_name name_lines (λ e n p. refl) d (Asks d) asks_exactly c)

  sheet_exactly : (bytes : List ℕ) → (sheet_of bytes ≡ Ok d) ↔ Sheet d bytes
  sheet_exactly bytes = line_exactly (codes "style=") (search rules) reads_text (λ t. names_line (titled t)) d _ (λ t. names_exactly (titled t)) (record { line = 1; left = bytes })

asks_in_turn : (qs : List Ask) (c : Contents) → InTurn with_asked (λ e. Answerable e.names) c qs ↔ All (Answerable c.names) qs
asks_in_turn [] c = (λ h. tt, λ h. tt)
asks_in_turn (q ∷ qs) c = let more = asks_in_turn qs (with_asked c q) in (λ h. (h.0, more.0 h.1), λ h. (h.0, more.1 h.1))

all_asked : (qs : List Ask) (c : Contents) → fold with_asked c qs ≡ record { style = c.style; names = c.names; asks = c.asks ++ map (resolved c.names) qs }
all_asked [] c = ap (λ l. record { style = c.style; names = c.names; asks = l }) (sym (append-nil c.asks))
all_asked (q ∷ qs) c = all_asked qs (with_asked c q) ∙ ap (λ l. record { style = c.style; names = c.names; asks = l }) (append_assoc c.asks (resolved c.names q ∷ []) _)

-- a count of lines, and the lines
counted : (key left behind lines end : List ℕ) (n m : ℕ) → left ≡ written-line key (decimal n) ++ behind → m ≡ n → behind ≡ lines ++ end → left ≡ written-line key (decimal m) ++ (lines ++ end)
counted key left behind lines end n m is many more = is ∙ (λ i. written-line key (decimal (sym many i)) ++ more i)

-- the asks of a sheet with this style and these names
record Asked (d : Contents) (style : List ℕ) (names : List (List ℕ)) (left : List ℕ) : Type 0 where
  asks : List Ask
  is : left ≡ written-line (codes "asks=") (decimal (length asks)) ++ flat_map ask_line asks
  few : length asks ≤ 128
  answerable : All (Answerable names) asks
  says : d ≡ meant (record { style = style; names = names; asks = asks })

abbrev before_asks : List ℕ → List (List ℕ) → Contents
before_asks style names = record { style = style; names = names; asks = [] }

module _ {d : Contents} {style : List ℕ} {names : List (List ℕ)} {left : List ℕ} where
  asked_from_lines : Asks d (before_asks style names) left → Asked d style names left
  asked_from_lines w = record {
    asks = w.ends.items;
    is =
        counted (codes "asks=") left w.behind (flat_map ask_line w.ends.items) w.ends.behind w.item _ w.is w.ends.many w.ends.is
        ∙ ap (λ l. written-line (codes "asks=") (decimal (length w.ends.items)) ++ l) (ap (λ l. flat_map ask_line w.ends.items ++ l) w.ends.ends.0 ∙ append-nil _);
    few = omega (arith, w.allowed, w.ends.many);
    answerable = (asks_in_turn w.ends.items (before_asks style names)).0 w.ends.allowed;
    says = sym w.ends.ends.1 ∙ all_asked w.ends.items (before_asks style names);
  }

  lines_from_asked : Asked d style names left → Asks d (before_asks style names) left
  lines_from_asked v = record {
    item = length v.asks;
    behind = flat_map ask_line v.asks;
    is = v.is;
    allowed = v.few;
    ends = record {
      items = v.asks;
      many = refl;
      behind = [];
      is = sym (append-nil _);
      allowed = (asks_in_turn v.asks (before_asks style names)).1 v.answerable;
      ends = (refl, all_asked v.asks (before_asks style names) ∙ sym v.says);
    };
  }

  behind_names : Asks d (fold with_name (titled style) names) left ↔ Asked d style names left
  behind_names =
      let is = all_named names (titled style) in
      (λ w. asked_from_lines (subst (λ c. Asks d c left) is w), λ v. subst (λ c. Asks d c left) (sym is) (lines_from_asked v))

module _ {d : Contents} {bytes : List ℕ} where
  written : (w : Sheet d bytes) → Asked d w.item w.ends.ends.items w.ends.ends.behind → Writes bytes d
  written w v =
      let proper = distinct_from_turns w.ends.ends.items w.item w.ends.ends.allowed in
      record {
        source = record { style = w.item; names = w.ends.ends.items; asks = v.asks };
        bytes_are =
            w.is
            ∙ ap (λ l. written-line (codes "style=") (quoted w.item) ++ l)
            (counted (codes "names=") w.behind w.ends.behind (flat_map name_line w.ends.ends.items) _ w.ends.item _ w.ends.is w.ends.ends.many (w.ends.ends.is ∙ ap (λ l. flat_map name_line w.ends.ends.items ++ l) v.is));
        fits = record {
          style_is_text = w.allowed;
          few_names = omega (arith, w.ends.allowed, w.ends.ends.many);
          names_are_texts = proper.texts;
          no_two_same = proper.differ;
          few_asks = v.few;
          asks_answerable = λ i h. All-get_or _ v.asks i _ h v.answerable;
        };
        says = v.says;
      }

  sheet_from_writes : Writes bytes d → Sheet d bytes
  sheet_from_writes v =
      let s = v.source in
      record {
        item = s.style;
        behind = _;
        is = v.bytes_are;
        allowed = v.fits.style_is_text;
        ends = record {
          item = length s.names;
          behind = _;
          is = refl;
          allowed = v.fits.few_names;
          ends = record {
            items = s.names;
            many = refl;
            behind = _;
            is = refl;
            allowed = turns_from_distinct s.names s.style (record { texts = v.fits.names_are_texts; differ = v.fits.no_two_same });
            ends = behind_names.1 (record {
              asks = s.asks;
              is = refl;
              few = v.fits.few_asks;
              answerable = All-from_get_or _ s.asks _ v.fits.asks_answerable;
              says = v.says;
            });
          };
        };
      }

pub accepts_exactly : (bytes : List ℕ) → AcceptsExactly bytes
accepts_exactly bytes d = (
  λ e. let w = (sheet_exactly d bytes).0 e in written w (behind_names.0 w.ends.ends.ends),
  λ v. (sheet_exactly d bytes).1 (sheet_from_writes v),
)
