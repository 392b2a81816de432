-- One line on, the rest of the sheet makes the same of the contents.
use Rattle.std.proofs.Common.{◌≡◌, ℕ, zero, suc, ◌+◌, ◌<◌, ◌≤◌, Bool, true, false, cond, eqb, List, [], ◌∷◌, ◌++◌, length, ℤ, Some, None, Ok, Err, Option, Result, sym, refl, ap, ◌∙◌, subst, append_assoc, arith, length-append, rules}
use Rattle.std.proofs.lemmas.List.{append-nil}
use Rattle.std.proofs.lemmas.Bool.{both_ways, eqb-true, eqb-false}
use Rattle.base.specs.declared.refusal.Cause.{Cause}
use Rattle.base.specs.declared.refusal.Cause.TheVariants.{SheetLine}
use Rattle.base.specs.declared.refusal.Refusal.{Refusal}
use Rattle.base.specs.Refusals.{refused}
use Rattle.sheet.specs.declared.line.Key.{Key}
use Rattle.sheet.specs.declared.line.Key.TheVariants as key
use Rattle.sheet.specs.declared.line.Line.{Line}
use Rattle.sheet.specs.declared.sheet.Sheet.{Sheet}
use Rattle.sheet.specs.declared.section.Section.{Section}
use Rattle.sheet.specs.declared.section.Section.TheVariants.{Style, Names, Name, Asks, Ask, End}
use Rattle.sheet.specs.Format.{Contents, Place, ◌>>=◌, behind, cut, judged, keyed, ended, line, text, count, name, ask, with_name, with_ask, names_line, name_lines, ask_lines, titled, sheet_of}
use Rattle.sheet.specs.Keys.{key_bytes}
use Rattle.sheet.specs.Ends.{Head, Heads, Keyless}
use Rattle.std.specs.Result.{MatchResult}
use Rattle.sheet.specs.Sections.{with_style, names_left, asks_left, outcome, leads, says, key_number, wanted_number, judged_line, is_last, Roomy}
use Rattle.sheet.specs.Parts.{IsPart}
use Rattle.sheet.specs.View.{view, written_style, written_names, StandsIn}
use Rattle.sheet.proofs.Lines.{cut_sound, behind_sound}
use Rattle.sheet.proofs.Parting.{whole_part, empty_part, part_part}
use Rattle.std.specs.List.{All}
use Rattle.std.proofs.lemmas.List.Elements.{All-nil}

names_next : (n : ℕ) (c : Contents) (p : Place) → name_lines c n p ≡ outcome (names_left n) c p
names_next zero c p = refl
names_next (suc n) c p = refl

asks_next : (n : ℕ) (c : Contents) (p : Place) → ask_lines c n p ≡ outcome (asks_left n) c p
asks_next zero c p = refl
asks_next (suc n) c p = refl

-- the key that a section wants; the end wants none, and any key stands for that
abbrev wanted : Section → Key
wanted Style = key.Style
wanted Names = key.Names
wanted (Name more) = key.Name
wanted Asks = key.Asks
wanted (Ask more) = key.Ask
wanted End = key.Style

-- a rest that was read leads on, one that was not stops at its line
module _ {X : Type 0} (to : X → Section) (gives : X → Contents) (f : X → Place → Result Contents Refusal) (same : (x : X) (p : Place) → f x p ≡ outcome (to x) (gives x) p) (n : ℕ) (more : List ℕ) where
  leads_on : (r : Result X Cause) (s : Section) (c : Contents) → leads to gives r ≡ Ok (s, c) → (judged n more r >>= f) ≡ outcome s c (record { line = n + 1; left = more })
  leads_on (Ok x) s c e =
      let q : ◌≡◌ {A = Section × Contents} (to x, gives x) (s, c) = cc in
      same x (record { line = n + 1; left = more }) ∙ (λ i. outcome (q i).0 (q i).1 (record { line = n + 1; left = more }))
  leads_on (Err cause) s c e = let z : ◌≡◌ {A = ℕ} 0 1 = cc in absurd (omega arith)

  leads_off : (r : Result X Cause) (cause : Cause) → leads to gives r ≡ Err cause → (judged n more r >>= f) ≡ refused cause n
  leads_off (Ok x) cause e = let z : ◌≡◌ {A = ℕ} 0 1 = cc in absurd (omega arith)
  leads_off (Err x) cause e = let q : x ≡ cause = cc in ap (λ y. refused y n) q

-- how a section reads its line: what it reads the rest as, and where that leads
record Shape (s : Section) (c : Contents) : Type 1 where
  X : Type 0
  reads : List ℕ → Result X Cause
  to : X → Section
  gives : X → Contents
  goes : X → Place → Result Contents Refusal
  same : (x : X) (p : Place) → goes x p ≡ outcome (to x) (gives x) p
  opens : (p : Place) → outcome s c p ≡ (line (key_bytes (wanted s)) reads p >>= goes)
  leading : (rest : List ℕ) → says s c rest ≡ leads to gives (reads rest)

shape : (s : Section) (c : Contents) → is_last s ≡ false → Shape s c
shape Style c o = record { X = List ℕ; reads = text; to = λ _. Names; gives = with_style c; goes = λ t. names_line (with_style c t); same = λ t p. refl; opens = λ p. refl; leading = λ rest. refl }
shape Names c o = record { X = ℕ; reads = count; to = names_left; gives = λ _. c; goes = name_lines c; same = λ n. names_next n c; opens = λ p. refl; leading = λ rest. refl }
shape (Name m) c o = record { X = List ℕ; reads = name c.names; to = λ _. names_left m; gives = with_name c; goes = λ t. name_lines (with_name c t) m; same = λ t. names_next m (with_name c t); opens = λ p. refl; leading = λ rest. refl }
shape Asks c o = record { X = ℕ; reads = count; to = asks_left; gives = λ _. c; goes = ask_lines c; same = λ n. asks_next n c; opens = λ p. refl; leading = λ rest. refl }
shape (Ask m) c o = record { X = ℤ; reads = ask c.names; to = λ _. asks_left m; gives = with_ask c; goes = λ z. ask_lines (with_ask c z) m; same = λ z. asks_next m (with_ask c z); opens = λ p. refl; leading = λ rest. refl }
shape End c o = absurd (both_ways true o refl)

module _ (s : Section) (c : Contents) (o : is_last s ≡ false) (n : ℕ) (left : List ℕ) where
  abbrev here : Place
  here = record { line = n; left = left }

  module _ (l more : List ℕ) (is : cut left ≡ Some (l, more)) where
    keyed_at : (b : Option (List ℕ)) → behind (key_bytes (wanted s)) l ≡ b → outcome s c here ≡ (keyed (shape s c o).reads n more b >>= (shape s c o).goes)
    keyed_at b e =
        let h = shape s c o in
        h.opens here ∙ ap (λ v. ended (key_bytes (wanted s)) h.reads n v >>= h.goes) is ∙ ap (λ v. keyed h.reads n more v >>= h.goes) e

    -- a line that is read leads on to the next
    section_on : (rest : List ℕ) (t : Section) (d : Contents) → behind (key_bytes (wanted s)) l ≡ Some rest → says s c rest ≡ Ok (t, d) → outcome s c here ≡ outcome t d (record { line = n + 1; left = more })
    section_on rest t d b e =
        let h = shape s c o in
        keyed_at (Some rest) b ∙ leads_on h.to h.gives h.goes h.same n more (h.reads rest) t d (sym (h.leading rest) ∙ e)

    section_off : (rest : List ℕ) (cause : Cause) → behind (key_bytes (wanted s)) l ≡ Some rest → says s c rest ≡ Err cause → outcome s c here ≡ refused cause n
    section_off rest cause b e =
        let h = shape s c o in
        keyed_at (Some rest) b ∙ leads_off h.to h.gives h.goes h.same n more (h.reads rest) cause (sym (h.leading rest) ∙ e)

    section_keyless : behind (key_bytes (wanted s)) l ≡ None → outcome s c here ≡ refused SheetLine n
    section_keyless b = keyed_at None b

  -- no line that begins with a key
  pub headless : ((k : Key) → Keyless (key_bytes k) (cut left)) → outcome s c here ≡ refused SheetLine n
  headless none = go (cut left) refl (none (wanted s))
    where
      go : (v : Option (List ℕ × List ℕ)) → cut left ≡ v → Keyless (key_bytes (wanted s)) v → outcome s c here ≡ refused SheetLine n
      go (Some p) is h = section_keyless p.0 p.1 is h
      go None is h = (shape s c o).opens here ∙ ap (λ v. ended (key_bytes (wanted s)) (shape s c o).reads n v >>= (shape s c o).goes) is

-- two keys differ at a place that both have
abbrev clash : List ℕ → List ℕ → Bool
clash [] bs = false
clash (a ∷ as') [] = false
clash (a ∷ as') (b ∷ bs) = cond (eqb a b) (clash as' bs) true

clashing : (xs ys l rest : List ℕ) → clash xs ys ≡ true → behind xs l ≡ Some rest → behind ys l ≡ None
clashing [] ys l rest differ e = absurd (both_ways false refl differ)
clashing (a ∷ as') [] l rest differ e = absurd (both_ways false refl differ)
clashing (a ∷ as') (b ∷ bs) [] rest differ e = refl
clashing (a ∷ as') (b ∷ bs) (c ∷ cs) rest differ e = go (clashing as' bs cs rest) (eqb c a) refl (eqb a b) refl (eqb c b) refl differ e
  where
    go : (clash as' bs ≡ true → behind as' cs ≡ Some rest → behind bs cs ≡ None) → (p : Bool) → eqb c a ≡ p → (q : Bool) → eqb a b ≡ q → (r : Bool) → eqb c b ≡ r → cond q (clash as' bs) true ≡ true → cond p (behind as' cs) None ≡ Some rest → cond r (behind bs cs) None ≡ None
    go ih false isp q isq r isr d h = let z : ◌≡◌ {A = ℕ} 0 1 = cc in absurd (omega arith)
    go ih true isp true isq true isr d h = ih d h
    go ih true isp true isq false isr d h = refl
    go ih true isp false isq true isr d h = absurd (eqb-false a b isq (sym (eqb-true c a isp) ∙ eqb-true c b isr))
    go ih true isp false isq false isr d h = refl

-- the key of a section, by its number
key_is : (k : Key) (s : Section) → is_last s ≡ false → eqb (key_number k) (wanted_number s) ≡ true → k ≡ wanted s
key_is k s o e = search rules

other_key : (k : Key) (s : Section) → is_last s ≡ false → eqb (key_number k) (wanted_number s) ≡ false → clash (key_bytes k) (key_bytes (wanted s)) ≡ true
other_key k s o e = search rules

module _ (s : Section) (c : Contents) (o : is_last s ≡ false) (n : ℕ) (left : List ℕ) (l : Line) (h : Head left l) where
  wanted_rest : eqb (key_number l.key) (wanted_number s) ≡ true → behind (key_bytes (wanted s)) h.whole ≡ Some l.rest.now
  wanted_rest e = ap (λ j. behind (key_bytes j) h.whole) (sym (key_is l.key s o e)) ∙ h.rest

  -- a line that is taken in leads on to the next
  pub taken_on : (t : Section) (d : Contents) → judged_line s l.key c l.rest.now ≡ Ok (t, d) → outcome s c (record { line = n; left = left }) ≡ outcome t d (record { line = n + 1; left = l.behind.now })
  taken_on t d e = go (eqb (key_number l.key) (wanted_number s)) refl e
    where
      go : (b : Bool) → eqb (key_number l.key) (wanted_number s) ≡ b → cond b (says s c l.rest.now) (Err SheetLine) ≡ Ok (t, d) → outcome s c (record { line = n; left = left }) ≡ outcome t d (record { line = n + 1; left = l.behind.now })
      go true is v = section_on s c o n left h.whole l.behind.now h.line l.rest.now t d (wanted_rest is) v
      go false is v = let z : ◌≡◌ {A = ℕ} 0 1 = cc in absurd (omega arith)

  -- a line that is not stops the reading
  pub taken_off : (cause : Cause) → judged_line s l.key c l.rest.now ≡ Err cause → outcome s c (record { line = n; left = left }) ≡ refused cause n
  taken_off cause e = go (eqb (key_number l.key) (wanted_number s)) refl e
    where
      go : (b : Bool) → eqb (key_number l.key) (wanted_number s) ≡ b → cond b (says s c l.rest.now) (Err SheetLine) ≡ Err cause → outcome s c (record { line = n; left = left }) ≡ refused cause n
      go true is v = section_off s c o n left h.whole l.behind.now h.line l.rest.now cause (wanted_rest is) v
      go false is v =
          let q : SheetLine ≡ cause = cc in
          section_keyless s c o n left h.whole l.behind.now h.line (clashing (key_bytes l.key) (key_bytes (wanted s)) h.whole l.rest.now (other_key l.key s o is) h.rest)
          ∙ ap (λ y. refused y n) q

-- a line by its parts
module _ (left : List ℕ) (l : Line) (h : Head left l) where
  left_is : left ≡ (key_bytes l.key ++ l.rest.now) ++ 10 ∷ l.behind.now
  left_is = cut_sound left (h.whole, l.behind.now) h.line ∙ ap (λ w. w ++ 10 ∷ l.behind.now) (behind_sound (key_bytes l.key) h.whole l.rest.now h.rest)

  pub shorter : length l.behind.now < length left
  shorter = omega (arith, ap length left_is, length-append (key_bytes l.key ++ l.rest.now) (10 ∷ l.behind.now))

  pub rest_part : IsPart left l.rest.now
  rest_part = record { before = key_bytes l.key; after = 10 ∷ l.behind.now; is = left_is ∙ append_assoc (key_bytes l.key) l.rest.now (10 ∷ l.behind.now) }

  pub behind_part : IsPart left l.behind.now
  behind_part = record {
    before = (key_bytes l.key ++ l.rest.now) ++ 10 ∷ [];
    after = [];
    is = left_is ∙ sym (append_assoc (key_bytes l.key ++ l.rest.now) (10 ∷ []) l.behind.now) ∙ ap (λ r. ((key_bytes l.key ++ l.rest.now) ++ 10 ∷ []) ++ r) (sym (append-nil l.behind.now));
  }

-- what a call gave that answered one of its two errors
pub some_of : (left : List ℕ) {r : Option Line} {l : Line} → r ≡ Some l → Heads left r → Head left l
some_of left is h = subst (Heads left) is h

pub none_of : (left : List ℕ) {r : Option Line} → r ≡ None → Heads left r → (k : Key) → Keyless (key_bytes k) (cut left)
none_of left is h = subst (Heads left) is h

pub err_of : {X E : Type 0} {P : X → Type 0} {Q : E → Type 0} (r : Result X E) → MatchResult r P Q → ((x : X) → P x → ⊥) → (e : E) × (r ≡ Err e) × Q e
err_of {X} {E} {P} {Q} (Ok x) h never = absurd (never x h)
err_of {X} {E} {P} {Q} (Err e) h never = (e, refl, h)

pub ok_of : {X E : Type 0} {Q : E → Type 0} (r : Result X E) {s : X} → MatchResult r (λ x. x ≡ s) Q → ((e : E) → Q e → ⊥) → r ≡ Ok s
ok_of {X} {E} {Q} (Ok x) h never = ap Ok h
ok_of {X} {E} {Q} (Err e) h never = absurd (never e h)

-- where the reading stands, and that the rest makes of it what the whole sheet says
pub record ReadingOn (bytes : List ℕ) (s : Section) (sheet : Sheet) (left : List ℕ) (n : ℕ) : Type 0 where
  pub ahead : sheet_of bytes ≡ outcome s (view sheet) (record { line = n; left = left })
  pub from : StandsIn bytes sheet
  pub part : IsPart bytes left
  pub room : Roomy s (view sheet)
  pub counted : n + length left ≤ length bytes + 1

pub nothing_read : (bytes : List ℕ) (sheet : Sheet) → view sheet ≡ titled [] → written_style sheet ≡ [] → written_names sheet ≡ [] → ReadingOn bytes Style sheet bytes 1
nothing_read bytes sheet empty no_style no_names = record {
  ahead = ap (λ c. outcome Style c (record { line = 1; left = bytes })) (sym empty);
  from = record { style = subst (IsPart bytes) (sym no_style) (empty_part bytes); names = subst (All (IsPart bytes)) (sym no_names) (All-nil (IsPart bytes)) };
  part = whole_part bytes;
  room = subst (Roomy Style) (sym empty) (refl, refl);
  counted = omega arith;
}

module _ {bytes : List ℕ} {s : Section} {sheet : Sheet} {left : List ℕ} {n : ℕ} (inv : ReadingOn bytes s sheet left n) where
  module _ (o : is_last s ≡ false) where
    pub stopped_headless : ((k : Key) → Keyless (key_bytes k) (cut left)) → refused SheetLine n ≡ sheet_of bytes
    stopped_headless none = sym (inv.ahead ∙ headless s (view sheet) o n left none)

    module _ (l : Line) (h : Head left l) where
      pub stopped_at : (cause : Cause) → Err cause ≡ judged_line s l.key (view sheet) l.rest.now → refused cause n ≡ sheet_of bytes
      stopped_at cause e = sym (inv.ahead ∙ taken_off s (view sheet) o n left l h cause (sym e))

      pub part_read : IsPart bytes l.rest.now
      part_read = part_part inv.part (rest_part left l h)

      pub one_read : (t : Section) (next : Sheet) → Ok (t, view next) ≡ judged_line s l.key (view sheet) l.rest.now → StandsIn bytes next → Roomy t (view next) → ReadingOn bytes t next l.behind.now (n + 1)
      one_read t next e from room = record {
        ahead = inv.ahead ∙ taken_on s (view sheet) o n left l h t (view next) (sym e);
        from = from;
        part = part_part inv.part (behind_part left l h);
        room = room;
        counted = omega (arith, inv.counted, shorter left l h);
      }
