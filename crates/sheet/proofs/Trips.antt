-- The reader accepts exactly the quoted forms of texts; both round trips follow.
use Rattle.std.proofs.Common.{◌≡◌, ℕ, zero, suc, ◌+◌, ◌-◌, ◌<◌, ◌≤◌, Bool, true, false, cond, ◌&&◌, eqb, leb, List, [], ◌∷◌, ◌++◌, length, get_or, take, drop, Some, None, Ok, Option, Result, sym, refl, ap, ◌∙◌, subst, inl, inr, append_assoc, arith}
use Rattle.std.proofs.lemmas.Bool.{eqb-true, eqb-false, leb-true, le-leb, cond-true, and_parts, and_from, cases_eq}
use Rattle.std.proofs.lemmas.List.{take_at}
use Rattle.base.specs.declared.refusal.Refusal.{Refusal}
use Rattle.base.specs.declared.refusal.Cause.TheVariants.{BadText, BufferShort}
use Rattle.sheet.specs.Text.{inner, quoted, printable, all_printable, good}
use Rattle.sheet.specs.Quoted.{after, body, nonempty, unquoted, extent, sized, written}
use Rattle.base.specs.Refusals.{refused}
use Rattle.lines.specs.Overlay.{room, overlaid, piece}
use Rattle.sheet.specs.RoundTrips.{Begins, ReadsExactly, Rewrites, ReadsBack}
use Rattle.sheet.proofs.Reading.{body_plain, body_two, body_closed, head_is}
use Rattle.sheet.proofs.Letters.{one, two, letters, quoted_size}

some_none : {X : Type 0} {x : X} → ◌≡◌ {A = Option X} None (Some x) → ⊥
some_none e = let z : ◌≡◌ {A = ℕ} 0 1 = cc in omega arith

after_some : (x : ℕ) (r : Option (List ℕ)) {text : List ℕ} → after (x ∷ []) r ≡ Some text → (t : List ℕ) × (r ≡ Some t) × (x ∷ t ≡ text)
after_some x (Some t) e = (t, refl, cc)
after_some x None e = absurd (some_none e)

-- what the body that was read says of the bytes
record Stood (n : ℕ) (bytes text : List ℕ) : Type 0 where
  rest : List ℕ
  is : bytes ≡ inner text ++ 34 ∷ rest
  stops : get_or rest 0 0 ≡ 34 → ⊥
  clean : all_printable text ≡ true
  few : length text < n

body_sound : (n : ℕ) (bytes text : List ℕ) → body n bytes ≡ Some text → Stood n bytes text
body_sound zero bytes text e = absurd (some_none e)
body_sound (suc n) [] text e = absurd (some_none e)
body_sound (suc n) (b ∷ bs) text e = go (body_sound n) (eqb b 34) refl (eqb (get_or bs 0 0) 34) refl (printable b) refl e
  where
    go : ((l t : List ℕ) → body n l ≡ Some t → Stood n l t) → (q : Bool) → eqb b 34 ≡ q → (d : Bool) → eqb (get_or bs 0 0) 34 ≡ d → (p : Bool) → printable b ≡ p → cond q (cond d (after (34 ∷ []) (body n (drop 1 bs))) (Some [])) (cond p (after (b ∷ []) (body n bs)) None) ≡ Some text → Stood (suc n) (b ∷ bs) text
    go ih true isq true isd p isp h =
        let a = after_some 34 (body n (drop 1 bs)) h in
        let s = ih (drop 1 bs) a.0 a.1 in
        let b34 = eqb-true b 34 isq in
        let bs34 = head_is bs (eqb-true (get_or bs 0 0) 34 isd) in
        subst (λ t. Stood (suc n) (b ∷ bs) t) a.2 (record {
          rest = s.rest;
          is = ap (λ (k : ℕ). k ∷ bs) b34 ∙ ap (λ l. 34 ∷ l) bs34 ∙ ap (λ l. 34 ∷ 34 ∷ l) s.is;
          stops = s.stops;
          clean = s.clean;
          few = omega (arith, s.few);
        })
    go ih true isq false isd p isp h =
        let t0 : [] ≡ text = cc in
        subst (λ t. Stood (suc n) (b ∷ bs) t) t0 (record {
          rest = bs;
          is = ap (λ (k : ℕ). k ∷ bs) (eqb-true b 34 isq);
          stops = eqb-false (get_or bs 0 0) 34 isd;
          clean = refl;
          few = omega arith;
        })
    go ih false isq d isd true isp h =
        let a = after_some b (body n bs) h in
        let s = ih bs a.0 a.1 in
        subst (λ t. Stood (suc n) (b ∷ bs) t) a.2 (record {
          rest = s.rest;
          is = ap (λ l. b ∷ l) s.is ∙ ap (λ l. (l ++ inner a.0) ++ 34 ∷ s.rest) (sym (one b (eqb-false b 34 isq)));
          stops = s.stops;
          clean = and_from (printable b) _ isp s.clean;
          few = omega (arith, s.few);
        })
    go ih false isq d isd false isp h = absurd (some_none h)

body_complete : (n : ℕ) (text rest : List ℕ) → length text < n → all_printable text ≡ true → (get_or rest 0 0 ≡ 34 → ⊥) → body n (inner text ++ 34 ∷ rest) ≡ Some text
body_complete zero text rest few clean stops = absurd (omega arith)
body_complete (suc n) [] rest few clean stops = body_closed n (34 ∷ rest) refl stops
body_complete (suc n) (c ∷ cs) rest few clean stops =
    let parts = and_parts (printable c) (all_printable cs) clean in
    let more = body_complete n cs rest (omega arith) parts.1 stops in
    elim (cases_eq c 34) [
      | inl is ↦
          ap (λ l. body (suc n) ((l ++ inner cs) ++ 34 ∷ rest)) (two c is)
          ∙ body_two n (34 ∷ 34 ∷ (inner cs ++ 34 ∷ rest)) refl refl
          ∙ ap (after (34 ∷ [])) more ∙ ap (λ (k : ℕ). Some (k ∷ cs)) (sym is)
      | inr other ↦
          ap (λ l. body (suc n) ((l ++ inner cs) ++ 34 ∷ rest)) (one c other)
          ∙ body_plain n (c ∷ (inner cs ++ 34 ∷ rest)) refl other parts.0
          ∙ ap (after (c ∷ [])) more
    ]

pub good_is : (text : List ℕ) → 1 ≤ length text → length text ≤ 32 → all_printable text ≡ true → good text ≡ true
good_is text some few clean = and_from (leb 1 (length text) && leb (length text) 32) _ (and_from (leb 1 (length text)) _ (le-leb 1 (length text) some) (le-leb (length text) 32 few)) clean

pub good_few : (text : List ℕ) → good text ≡ true → length text ≤ 32
good_few text is = leb-true (length text) 32 (and_parts (leb 1 (length text)) (leb (length text) 32) (and_parts (leb 1 (length text) && leb (length text) 32) (all_printable text) is).0).1

nonempty_some : (r : Option (List ℕ)) {text : List ℕ} → nonempty r ≡ Some text → (r ≡ Some text) × (1 ≤ length text)
nonempty_some (Some []) e = absurd (some_none e)
nonempty_some (Some (c ∷ cs)) {text} e = let same : c ∷ cs ≡ text = cc in (e, subst (λ t. 1 ≤ length t) same (omega arith))
nonempty_some None e = absurd (some_none e)

nonempty_keeps : (text : List ℕ) → 1 ≤ length text → nonempty (Some text) ≡ Some text
nonempty_keeps [] h = absurd (omega arith)
nonempty_keeps (c ∷ cs) h = refl

opened_some : (q : Bool) (r : Option (List ℕ)) (text : List ℕ) → cond q (nonempty r) None ≡ Some text → (q ≡ true) × (r ≡ Some text) × (1 ≤ length text)
opened_some true r text e = let a = nonempty_some r e in (refl, a.0, a.1)
opened_some false r text e = absurd (some_none e)

-- over any n, since at 33 the body would compute
within : (n : ℕ) (bytes text rest : List ℕ) → bytes ≡ 34 ∷ (inner text ++ 34 ∷ rest) → length text < n → 1 ≤ length text → all_printable text ≡ true → (get_or rest 0 0 ≡ 34 → ⊥) → cond (eqb (get_or bytes 0 0) 34) (nonempty (body n (drop 1 bytes))) None ≡ Some text
within n bytes text rest is few some clean stops =
    ap (λ l. cond (eqb (get_or l 0 0) 34) (nonempty (body n (drop 1 l))) None) is
    ∙ ap nonempty (body_complete n text rest few clean stops)
    ∙ nonempty_keeps text some

pub accepted : (bytes : List ℕ) → ReadsExactly bytes
unfolding unquoted
accepted bytes text = (sound bytes, complete)
  where
    shape : (t rest : List ℕ) → quoted t ++ rest ≡ 34 ∷ (inner t ++ 34 ∷ rest)
    shape t rest = ap (λ l. 34 ∷ l) (append_assoc (inner t) (34 ∷ []) rest)

    sound : (bs : List ℕ) → unquoted bs ≡ Some text → (good text ≡ true) × Begins bs text
    sound [] e = absurd (some_none e)
    sound (b ∷ bs) e =
        let a = opened_some (eqb b 34) (body 33 bs) text e in
        let s = body_sound 33 bs text a.1 in (
          good_is text a.2 (omega (arith, s.few)) s.clean,
          record { rest = s.rest; is = ap (λ (k : ℕ). k ∷ bs) (eqb-true b 34 a.0) ∙ ap (λ l. 34 ∷ l) s.is ∙ sym (shape text s.rest); stops = s.stops },
        )

    complete : (good text ≡ true) × Begins bytes text → unquoted bytes ≡ Some text
    complete h =
        let parts = and_parts (leb 1 (length text) && leb (length text) 32) (all_printable text) h.0 in
        let range = and_parts (leb 1 (length text)) (leb (length text) 32) parts.0 in
        let few = leb-true (length text) 32 range.1 in
        within 33 bytes text h.1.rest (h.1.is ∙ shape text h.1.rest) (omega arith) (leb-true 1 (length text) range.0) parts.1 h.1.stops

pub sized_is : (text : List ℕ) → good text ≡ true → sized text ≡ Ok (length (quoted text))
sized_is text h = cond-true _ _ _ h

extent_some : (at : ℕ) (r : Option (List ℕ)) {b e p : ℕ} → extent at r ≡ Ok (b, e, p) → (text : List ℕ) × (r ≡ Some text) × (at + 1 + letters text + 1 ≡ p)
extent_some at (Some text) {b} {e} {p} h =
    let q : ◌≡◌ {A = ℕ × ℕ × ℕ} (at + 1, at + 1 + letters text, at + 1 + letters text + 1) (b, e, p) = cc in
    (text, refl, ap (λ v. v.2) q)
extent_some at None h = let z : ◌≡◌ {A = ℕ} 0 1 = cc in absurd (omega arith)

pub rewrites : (bytes : List ℕ) (at : ℕ) (r : Result (ℕ × ℕ × ℕ) Refusal) → r ≡ extent at (unquoted (drop at bytes)) → Rewrites bytes at r
rewrites bytes at r value b e behind h =
    let x = extent_some at (unquoted (drop at bytes)) (sym value ∙ h) in
    let text = x.0 in
    let a = (accepted (drop at bytes) text).0 x.1 in
    let size : length (quoted text) ≡ behind - at = omega (arith, x.2, quoted_size text) in
    record {
      text = text;
      found = x.1;
      fits = λ tail long.
          ap (room (length tail)) (sized_is text a.0) ∙ cond-true _ _ _ (le-leb (length (quoted text)) (length tail) (omega arith)) ∙ ap Ok size;
      same = λ tail.
          take_at (quoted text) (drop (length (quoted text)) tail) (behind - at) size ∙ sym (ap (take (behind - at)) a.1.is ∙ take_at (quoted text) a.1.rest (behind - at) size);
    }

pub written_good : (tail text : List ℕ) (n : ℕ) → written tail text ≡ Ok n → (good text ≡ true) × (n ≡ length (quoted text))
written_good tail text n e = go (good text) refl e
  where
    last : (b : Bool) → ◌≡◌ {A = Result ℕ Refusal} (cond b (Ok (length (quoted text))) (refused BufferShort 0)) (Ok n) → n ≡ length (quoted text)
    last true e = cc
    last false e = let z : ◌≡◌ {A = ℕ} 0 1 = cc in absurd (omega arith)

    go : (g : Bool) → good text ≡ g → room (length tail) (cond g (Ok (length (quoted text))) (refused BadText 1)) ≡ Ok n → (good text ≡ true) × (n ≡ length (quoted text))
    go true is h = (is, last (leb (length (quoted text)) (length tail)) h)
    go false is h = let z : ◌≡◌ {A = ℕ} 0 1 = cc in absurd (omega arith)

pub reads_back : (r : Result ℕ Refusal) (tail buffer text : List ℕ) → r ≡ written tail text → buffer ≡ overlaid (piece r (quoted text)) tail → ReadsBack r buffer text
reads_back r tail buffer text value change n e =
    let g = written_good tail text n (sym value ∙ e) in
    let front : take n buffer ≡ quoted text =
    ap (take n) (change ∙ ap (λ v. overlaid (piece v (quoted text)) tail) e) ∙ take_at (quoted text) (drop (length (quoted text)) tail) n (sym g.1) in
    let inside : 0 + 1 + letters text ≡ n - 1 = omega (arith, g.1, quoted_size text) in
    let all : 0 + 1 + letters text + 1 ≡ n = omega (arith, g.1, quoted_size text) in
    let found : (rest : List ℕ) → (get_or rest 0 0 ≡ 34 → ⊥) → unquoted (take n buffer ++ rest) ≡ Some text =
    λ rest other. (accepted (take n buffer ++ rest) text).1 (g.0, record { rest = rest; is = ap (λ l. l ++ rest) front; stops = other }) in
    record {
      found = found;
      place = λ rest other. ap (extent 0) (found rest other) ∙ (λ i. Ok (1, inside i, all i));
    }
