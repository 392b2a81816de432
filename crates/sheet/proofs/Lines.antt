-- A line is read exactly from its key, a written rest and a byte 10; lines of one kind, one after another.
use Rattle.std.proofs.Common.{◌≡◌, ℕ, zero, suc, ◌+◌, Bool, true, false, cond, eqb, ◌↔◌, List, [], ◌∷◌, ◌++◌, length, Some, None, Ok, Err, fold, Option, Result, sym, refl, ap, ◌∙◌, subst, append_assoc, arith}
use Rattle.std.specs.List.{flat_map, AllByRecursion as All}
use Rattle.std.proofs.ByRecursion.{All-append}
use Rattle.std.proofs.lemmas.Bool.{eqb-true, eq-eqb, cond-true, cond-false}
use Rattle.base.specs.declared.refusal.Cause.{Cause}
use Rattle.base.specs.declared.refusal.Refusal.{Refusal}
use Rattle.sheet.specs.Format.{Contents, Place, ◌>>=◌, longer, cut, behind, judged, keyed, ended, line}
use Rattle.lines.specs.Lines.{line as written-line}

pub not_ok : {X E : Type 0} {e : E} {x : X} → ◌≡◌ {A = Result X E} (Err e) (Ok x) → ⊥
not_ok h = let z : ◌≡◌ {A = ℕ} 0 1 = cc in omega arith

pub not_some : {X : Type 0} {x : X} → ◌≡◌ {A = Option X} None (Some x) → ⊥
not_some h = let z : ◌≡◌ {A = ℕ} 0 1 = cc in omega arith

-- no byte 10
abbrev pub Clear : List ℕ → Type 0
Clear bytes = All (λ b. eqb b 10 ≡ false) bytes

longer_some : (b : ℕ) (r : Option (List ℕ × List ℕ)) {p : List ℕ × List ℕ} → longer b r ≡ Some p → (q : List ℕ × List ℕ) × (r ≡ Some q) × (◌≡◌ {A = List ℕ × List ℕ} (b ∷ q.0, q.1) p)
longer_some b (Some q) e = (q, refl, cc)
longer_some b None e = absurd (not_some e)

pub cut_sound : (bytes : List ℕ) (p : List ℕ × List ℕ) → cut bytes ≡ Some p → bytes ≡ p.0 ++ 10 ∷ p.1
cut_sound [] p e = absurd (not_some e)
cut_sound (b ∷ bs) p e = go (cut_sound bs) (eqb b 10) refl e
  where
    go : ((q : List ℕ × List ℕ) → cut bs ≡ Some q → bs ≡ q.0 ++ 10 ∷ q.1) → (t : Bool) → eqb b 10 ≡ t → cond t (Some ([], bs)) (longer b (cut bs)) ≡ Some p → b ∷ bs ≡ p.0 ++ 10 ∷ p.1
    go ih true is h = let same : ◌≡◌ {A = List ℕ × List ℕ} ([], bs) p = cc in ap (λ k. k ∷ bs) (eqb-true b 10 is) ∙ ap (λ q. q.0 ++ 10 ∷ q.1) same
    go ih false is h = let a = longer_some b (cut bs) h in ap (λ l. b ∷ l) (ih a.0 a.1) ∙ ap (λ q. q.0 ++ 10 ∷ q.1) a.2

cut_complete : (front left : List ℕ) → Clear front → cut (front ++ 10 ∷ left) ≡ Some (front, left)
cut_complete [] left clear = refl
cut_complete (b ∷ bs) left clear = cond-false _ _ _ clear.0 ∙ ap (longer b) (cut_complete bs left clear.1)

pub behind_sound : (key bytes rest : List ℕ) → behind key bytes ≡ Some rest → bytes ≡ key ++ rest
behind_sound [] bytes rest e = cc
behind_sound (c ∷ cs) [] rest e = absurd (not_some e)
behind_sound (c ∷ cs) (b ∷ bs) rest e = go (behind_sound cs bs rest) (eqb b c) refl e
  where
    go : (behind cs bs ≡ Some rest → bs ≡ cs ++ rest) → (t : Bool) → eqb b c ≡ t → cond t (behind cs bs) None ≡ Some rest → b ∷ bs ≡ c ∷ (cs ++ rest)
    go ih true is h = let same = eqb-true b c is in let more = ih h in cc
    go ih false is h = absurd (not_some h)

behind_complete : (key rest : List ℕ) → behind key (key ++ rest) ≡ Some rest
behind_complete [] rest = refl
behind_complete (c ∷ cs) rest = cond-true _ _ _ (eq-eqb c c refl) ∙ behind_complete cs rest

regrouped : (key rest left : List ℕ) → (key ++ rest) ++ 10 ∷ left ≡ written-line key rest ++ left
regrouped key rest left = simp append_assoc

-- a rest is read exactly from the forms of what is allowed, and these have no byte 10
pub record Rest {X Y : Type 0} (rest : List ℕ → Result X Cause) (form : Y → List ℕ) (Allowed : Y → Type 0) (value : Y → X) : Type 0 where
  pub sound : (bytes : List ℕ) (x : X) → rest bytes ≡ Ok x → (y : Y) × (bytes ≡ form y) × Allowed y × (x ≡ value y)
  pub complete : (y : Y) → Allowed y → rest (form y) ≡ Ok (value y)
  pub clear : (y : Y) → Allowed y → Clear (form y)

-- the bytes begin with a line for something allowed, and End tells how they go on
pub record Line {Y : Type 0} (key : List ℕ) (form : Y → List ℕ) (Allowed : Y → Type 0) (End : Y → List ℕ → Type 0) (left : List ℕ) : Type 0 where
  pub item : Y
  pub behind : List ℕ
  pub is : left ≡ written-line key (form item) ++ behind
  pub allowed : Allowed item
  pub ends : End item behind

abbrev at : ℕ → List ℕ → Place
at n left = record { line = n; left = left }

module _ {X Y Z : Type 0} (key : List ℕ) (clear : Clear key) {rest : List ℕ → Result X Cause} {form : Y → List ℕ} {Allowed : Y → Type 0} {value : Y → X} (reads : Rest rest form Allowed value)
    (then : X → Place → Result Z Refusal) (z : Z) (End : Y → List ℕ → Type 0) (ends : (y : Y) (p : Place) → (then (value y) p ≡ Ok z) ↔ End y p.left) where
  judged_sound : (n : ℕ) (left bytes : List ℕ) → (judged n left (rest bytes) >>= then) ≡ Ok z → (y : Y) × (bytes ≡ form y) × Allowed y × End y left
  judged_sound n left bytes e = go (rest bytes) refl e
    where
      go : (r : Result X Cause) → rest bytes ≡ r → (judged n left r >>= then) ≡ Ok z → (y : Y) × (bytes ≡ form y) × Allowed y × End y left
      go (Ok x) is h = let w = reads.sound bytes x is in (w.0, w.1, w.2, (ends w.0 (at (n + 1) left)).0 (ap (λ v. then v (at (n + 1) left)) (sym w.3) ∙ h))
      go (Err cause) is h = absurd (not_ok h)

  keyed_sound : (n : ℕ) (left bytes : List ℕ) → (keyed rest n left (behind key bytes) >>= then) ≡ Ok z → (y : Y) × (bytes ≡ key ++ form y) × Allowed y × End y left
  keyed_sound n left bytes e = go (behind key bytes) refl e
    where
      go : (o : Option (List ℕ)) → behind key bytes ≡ o → (keyed rest n left o >>= then) ≡ Ok z → (y : Y) × (bytes ≡ key ++ form y) × Allowed y × End y left
      go (Some b) is h = let w = judged_sound n left b h in (w.0, behind_sound key bytes b is ∙ ap (λ l. key ++ l) w.1, w.2, w.3)
      go None is h = absurd (not_ok h)

  line_sound : (p : Place) → (line key rest p >>= then) ≡ Ok z → Line key form Allowed End p.left
  line_sound p e = go (cut p.left) refl e
    where
      go : (o : Option (List ℕ × List ℕ)) → cut p.left ≡ o → (ended key rest p.line o >>= then) ≡ Ok z → Line key form Allowed End p.left
      go (Some q) is h =
          let w = keyed_sound p.line q.1 q.0 h in
          record { item = w.0; behind = q.1; is = cut_sound p.left q is ∙ ap (λ l. l ++ 10 ∷ q.1) w.1 ∙ regrouped key (form w.0) q.1; allowed = w.2; ends = w.3 }
      go None is h = absurd (not_ok h)

  line_complete : (p : Place) → Line key form Allowed End p.left → (line key rest p >>= then) ≡ Ok z
  line_complete p w =
      let n = p.line in
      ap (λ l. ended key rest n (cut l) >>= then) (w.is ∙ sym (regrouped key (form w.item) w.behind))
      ∙ ap (λ o. ended key rest n o >>= then) (cut_complete (key ++ form w.item) w.behind (All-append _ key (form w.item) clear (reads.clear w.item w.allowed)))
      ∙ ap (λ o. keyed rest n w.behind o >>= then) (behind_complete key (form w.item))
      ∙ ap (λ r. judged n w.behind r >>= then) (reads.complete w.item w.allowed)
      ∙ (ends w.item (at (n + 1) w.behind)).1 w.ends

  pub line_exactly : (p : Place) → ((line key rest p >>= then) ≡ Ok z) ↔ Line key form Allowed End p.left
  line_exactly p = (line_sound p, line_complete p)

-- each is allowed at what was said before it
abbrev pub InTurn : {Y : Type 0} → (Contents → Y → Contents) → (Contents → Y → Type 0) → Contents → List Y → Type 0
InTurn add Allowed c [] = Unit {0}
InTurn add Allowed c (y ∷ ys) = Allowed c y × InTurn add Allowed (add c y) ys

-- the bytes begin with n lines of one kind
pub record Lines {Y : Type 0} (key : List ℕ) (form : Y → List ℕ) (Allowed : Contents → Y → Type 0) (add : Contents → Y → Contents) (End : Contents → List ℕ → Type 0) (c : Contents) (n : ℕ) (left : List ℕ) : Type 0 where
  pub items : List Y
  pub many : length items ≡ n
  pub behind : List ℕ
  pub is : left ≡ flat_map (λ y. written-line key (form y)) items ++ behind
  pub allowed : InTurn add Allowed c items
  pub ends : End (fold add c items) behind

module _ {Y : Type 0} {key : List ℕ} {form : Y → List ℕ} {Allowed : Contents → Y → Type 0} {add : Contents → Y → Contents} {End : Contents → List ℕ → Type 0} {c : Contents} {left : List ℕ} where
  none : Lines key form Allowed add End c 0 left → End c left
  none w = go w.items w.many w.is w.ends
    where
      go : (ys : List Y) → length ys ≡ 0 → left ≡ flat_map (λ y. written-line key (form y)) ys ++ w.behind → End (fold add c ys) w.behind → End c left
      go [] many is ends = subst (End c) (sym is) ends
      go (y ∷ ys) many is ends = absurd (omega arith)

  join : {n : ℕ} → Line key form (Allowed c) (λ y. Lines key form Allowed add End (add c y) n) left → Lines key form Allowed add End c (suc n) left
  join w = record {
    items = w.item ∷ w.ends.items;
    many = ap suc w.ends.many;
    behind = w.ends.behind;
    is = w.is ∙ ap (λ l. written-line key (form w.item) ++ l) w.ends.is ∙ sym (append_assoc (written-line key (form w.item)) _ _);
    allowed = (w.allowed, w.ends.allowed);
    ends = w.ends.ends;
  }

  part : {n : ℕ} → Lines key form Allowed add End c (suc n) left → Line key form (Allowed c) (λ y. Lines key form Allowed add End (add c y) n) left
  part {n} w = go w.items w.many w.is w.allowed w.ends
    where
      go : (ys : List Y) → length ys ≡ suc n → left ≡ flat_map (λ y. written-line key (form y)) ys ++ w.behind → InTurn add Allowed c ys → End (fold add c ys) w.behind → Line key form (Allowed c) (λ y. Lines key form Allowed add End (add c y) n) left
      go [] many is allowed ends = absurd (omega arith)
      go (y ∷ ys) many is allowed ends = record {
        item = y;
        behind = flat_map (λ x. written-line key (form x)) ys ++ w.behind;
        is = is ∙ append_assoc (written-line key (form y)) _ w.behind;
        allowed = allowed.0;
        ends = record { items = ys; many = omega arith; behind = w.behind; is = refl; allowed = allowed.1; ends = ends };
      }

-- a loop that reads one line at each step
module _ {X Y : Type 0} (key : List ℕ) (clear : Clear key) {form : Y → List ℕ} {rest : Contents → List ℕ → Result X Cause} {Allowed : Contents → Y → Type 0} {value : Contents → Y → X}
    (reads : (c : Contents) → Rest (rest c) form (Allowed c) (value c)) (with : Contents → X → Contents) (lines : Contents → ℕ → Place → Result Contents Refusal)
    (step : (c : Contents) (n : ℕ) (p : Place) → lines c (suc n) p ≡ (line key (rest c) p >>= λ x. lines (with c x) n))
    (d : Contents) (End : Contents → List ℕ → Type 0) (ends : (c : Contents) (p : Place) → (lines c 0 p ≡ Ok d) ↔ End c p.left) where
  pub lines_exactly : (c : Contents) (n : ℕ) (p : Place) → (lines c n p ≡ Ok d) ↔ Lines key form Allowed (λ e y. with e (value e y)) End c n p.left
  lines_exactly c zero p = (λ e. record { items = []; many = refl; behind = p.left; is = refl; allowed = tt; ends = (ends c p).0 e }, λ w. (ends c p).1 (none w))
  lines_exactly c (suc n) p =
      let one = line_exactly key clear (reads c) (λ x. lines (with c x) n) d (λ y. Lines key form Allowed (λ e x. with e (value e x)) End (with c (value c y)) n) (λ y. lines_exactly (with c (value c y)) n) p in
      (λ e. join (one.0 (sym (step c n p) ∙ e)), λ w. step c n p ∙ one.1 (part w))
