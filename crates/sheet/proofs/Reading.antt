-- The loop of the reader: what was read in front, and what is still to read.
use Rattle.std.proofs.Common.{◌≡◌, ℕ, suc, ◌+◌, ◌-◌, ◌<◌, ◌≤◌, Bool, true, false, cond, eqb, List, [], ◌∷◌, ◌++◌, length, get_or, take, drop, Some, None, Option, sym, refl, ap, ◌∙◌, subst, append_assoc, arith, length-append, length-drop}
use Rattle.std.specs.Option.{option_map}
use Rattle.std.specs.List.{starts_with}
use Rattle.std.proofs.lemmas.List.{append-nil, drop_all, flat_map_more, take_rest}
use Rattle.std.proofs.lemmas.Bool.{eqb-true, eqb-false, eq-eqb, ne_eqb, cond-true, cond-false}
use Rattle.std.proofs.Math.Bool.{and-true}
use Rattle.sheet.specs.Text.{letter, inner, printable}
use Rattle.base.specs.declared.refusal.Cause.TheVariants.{BadText}
use Rattle.base.specs.Refusals.{refused}
use Rattle.sheet.specs.Quoted.{after, body, behind_letter, extent, nonempty, unquoted}
use Rattle.sheet.proofs.Letters.{one, letter_some, letters}

-- the text in front of the closing quote; closed, since it runs up to 33 turns
unfoldable pub in_front : List ℕ → Option (List ℕ)
in_front bytes = nonempty (body 33 bytes)

pub after_nil : (r : Option (List ℕ)) → after [] r ≡ r
after_nil (Some xs) = refl
after_nil None = refl

pub after_after : (xs ys : List ℕ) (r : Option (List ℕ)) → after xs (after ys r) ≡ after (xs ++ ys) r
after_after xs ys (Some zs) = ap Some (sym (append_assoc xs ys zs))
after_after xs ys None = refl

-- one step of the body, at its first bytes
module _ (n : ℕ) (bytes : List ℕ) where
  pub body_plain : {b : ℕ} → get_or bytes 0 0 ≡ b → (b ≡ 34 → ⊥) → printable b ≡ true → body (suc n) bytes ≡ after (b ∷ []) (body n (drop 1 bytes))
  body_plain {b} is other clean =
      cond-false _ _ _ (ne_eqb (get_or bytes 0 0) 34 (λ e. other (sym is ∙ e)))
      ∙ cond-true _ _ _ (ap printable is ∙ clean)
      ∙ ap (λ (c : ℕ). after (c ∷ []) (body n (drop 1 bytes))) is

  pub body_two : get_or bytes 0 0 ≡ 34 → get_or bytes 1 0 ≡ 34 → body (suc n) bytes ≡ after (34 ∷ []) (body n (drop 2 bytes))
  body_two is too = cond-true _ _ _ (eq-eqb (get_or bytes 0 0) 34 is) ∙ cond-true _ _ _ (eq-eqb (get_or bytes 1 0) 34 too)

  pub body_closed : get_or bytes 0 0 ≡ 34 → (get_or bytes 1 0 ≡ 34 → ⊥) → body (suc n) bytes ≡ Some []
  body_closed is other = cond-true _ _ _ (eq-eqb (get_or bytes 0 0) 34 is) ∙ cond-false _ _ _ (ne_eqb (get_or bytes 1 0) 34 other)

pub head_is : (bs : List ℕ) → get_or bs 0 0 ≡ 34 → bs ≡ 34 ∷ drop 1 bs
head_is [] e = absurd (omega arith)
head_is (b ∷ bs) e = ap (λ (k : ℕ). k ∷ bs) e

-- a byte of text in front of the rest
record Letter (n : ℕ) (rest more : List ℕ) : Type 0 where
  byte : ℕ
  stands : rest ≡ letter byte ++ more
  goes : body (suc n) rest ≡ after (byte ∷ []) (body n more)

one_letter : (n : ℕ) (rest more : List ℕ) → Some more ≡ behind_letter rest → Letter n rest more
one_letter n [] more e = let z : ◌≡◌ {A = ℕ} 0 1 = cc in absurd (omega arith)
one_letter n (b ∷ bs) more e = go (eqb b 34) refl (eqb (get_or bs 0 0) 34) refl (printable b) refl e
  where
    go : (q : Bool) → eqb b 34 ≡ q → (d : Bool) → eqb (get_or bs 0 0) 34 ≡ d → (p : Bool) → printable b ≡ p → Some more ≡ cond q (cond d (Some (drop 1 bs)) None) (cond p (Some bs) None) → Letter n (b ∷ bs) more
    go true isq true isd p isp h =
        let same : more ≡ drop 1 bs = cc in
        let b34 = eqb-true b 34 isq in
        let bs34 = eqb-true (get_or bs 0 0) 34 isd in
        record {
          byte = 34;
          stands = ap (λ (k : ℕ). k ∷ bs) b34 ∙ ap (λ l. 34 ∷ l) (head_is bs bs34) ∙ ap (λ l. 34 ∷ 34 ∷ l) (sym same);
          goes = body_two n (b ∷ bs) b34 bs34 ∙ ap (λ l. after (34 ∷ []) (body n l)) (sym same);
        }
    go true isq false isd p isp h = let z : ◌≡◌ {A = ℕ} 0 1 = cc in absurd (omega arith)
    go false isq d isd true isp h =
        let same : more ≡ bs = cc in
        let other = eqb-false b 34 isq in
        record {
          byte = b;
          stands = ap (λ l. b ∷ l) (sym same) ∙ ap (λ l. l ++ more) (sym (one b other));
          goes = body_plain n (b ∷ bs) refl other isp ∙ ap (λ l. after (b ∷ []) (body n l)) (sym same);
        }
    go false isq d isd false isp h = let z : ◌≡◌ {A = ℕ} 0 1 = cc in absurd (omega arith)

-- where no byte of text stands, the text ends: well if a quote stands there
no_letter : (n : ℕ) (rest : List ℕ) → None ≡ behind_letter rest → body (suc n) rest ≡ cond (eqb (get_or rest 0 0) 34) (Some []) None
no_letter n rest e = go (eqb (get_or rest 0 0) 34) (eqb (get_or rest 1 0) 34) (printable (get_or rest 0 0)) e
  where
    go : (q d p : Bool) → None ≡ cond q (cond d (Some (drop 2 rest)) None) (cond p (Some (drop 1 rest)) None) → cond q (cond d (after (34 ∷ []) (body n (drop 2 rest))) (Some [])) (cond p (after (get_or rest 0 0 ∷ []) (body n (drop 1 rest))) None) ≡ cond q (Some []) None
    go true true p h = let z : ◌≡◌ {A = ℕ} 0 1 = cc in absurd (omega arith)
    go true false p h = refl
    go false d true h = let z : ◌≡◌ {A = ℕ} 0 1 = cc in absurd (omega arith)
    go false d false h = refl

-- before turn i of the loop
pub record Reading (bytes : List ℕ) (i : ℕ) (rest : List ℕ) : Type 0 where
  pub front : List ℕ
  pub splits : bytes ≡ inner front ++ rest
  pub whole : body 33 bytes ≡ after front (body (33 - i) rest)

pub begun : (bytes : List ℕ) → Reading bytes 0 bytes
begun bytes = record { front = []; splits = refl; whole = sym (after_nil (body 33 bytes)) }

module _ {bytes rest : List ℕ} {i : ℕ} (now : Reading bytes i rest) (turn : i < 33) where
  fuel : 33 - i ≡ suc (33 - (i + 1))
  fuel = omega arith

  pub read_on : (more : List ℕ) → Some more ≡ behind_letter rest → Reading bytes (i + 1) more
  read_on more e =
      let l = one_letter (33 - (i + 1)) rest more e in
      record {
        front = now.front ++ l.byte ∷ [];
        splits = now.splits ∙ ap (λ r. inner now.front ++ r) l.stands ∙ sym (append_assoc (inner now.front) (letter l.byte) more) ∙ ap (λ r. r ++ more) (flat_map_more letter [] now.front l.byte);
        whole = now.whole ∙ ap (λ n. after now.front (body n rest)) fuel ∙ ap (after now.front) l.goes ∙ after_after now.front (l.byte ∷ []) _;
      }

  -- where no byte of text stands
  module _ (e : None ≡ behind_letter rest) where
    ended : body 33 bytes ≡ after now.front (cond (eqb (get_or rest 0 0) 34) (Some []) None)
    ended = now.whole ∙ ap (λ n. after now.front (body n rest)) fuel ∙ ap (after now.front) (no_letter (33 - (i + 1)) rest e)

    closed : get_or rest 0 0 ≡ 34 → 0 < length bytes - length rest → in_front bytes ≡ Some now.front
    unfolding in_front
    closed is some =
        ap nonempty (ended ∙ ap (after now.front) (cond-true _ _ _ (eq-eqb (get_or rest 0 0) 34 is)) ∙ ap Some (append-nil now.front))
        ∙ kept now.front (omega (arith, ap length now.splits, length-append (inner now.front) rest))
      where
        kept : (xs : List ℕ) → 0 < letters xs → nonempty (Some xs) ≡ Some xs
        kept [] h = absurd (omega arith)
        kept (x ∷ xs) h = refl

    closed_empty : length bytes ≤ length rest → in_front bytes ≡ None
    unfolding in_front
    closed_empty all = ap nonempty ended ∙ none now.front (eqb (get_or rest 0 0) 34) (omega (arith, ap length now.splits, length-append (inner now.front) rest))
      where
        none : (xs : List ℕ) (q : Bool) → letters xs ≡ 0 → nonempty (after xs (cond q (Some []) None)) ≡ None
        none [] true h = refl
        none [] false h = refl
        none (x ∷ xs) q h = absurd (omega (arith, h, length-append (letter x) (inner xs), letter_some x))

    unclosed : (get_or rest 0 0 ≡ 34 → ⊥) → in_front bytes ≡ None
    unfolding in_front
    unclosed other = ap nonempty (ended ∙ ap (after now.front) (cond-false _ _ _ (ne_eqb (get_or rest 0 0) 34 other)))

pub rest_short : {bytes rest : List ℕ} {i : ℕ} → Reading bytes i rest → length rest ≤ length bytes
rest_short {bytes} {rest} now = omega (arith, ap length now.splits, length-append (inner now.front) rest)

first_quote : (rest : List ℕ) → starts_with eqb rest (34 ∷ []) ≡ eqb 34 (get_or rest 0 0)
first_quote [] = refl
first_quote (b ∷ bs) = and-true (eqb 34 b)

-- how many bytes the text takes where it is written
abbrev size_of : Option (List ℕ) → Option ℕ
size_of r = option_map letters r

-- the first byte is no opening quote
pub unopened : (bytes : List ℕ) → (get_or bytes 0 0 ≡ 34 → ⊥) → None ≡ size_of (unquoted bytes)
unfolding unquoted
unopened bytes other = ap size_of (sym (cond-false _ _ _ (ne_eqb (get_or bytes 0 0) 34 other)))

pub no_bytes : (bytes : List ℕ) → length bytes < 1 → get_or bytes 0 0 ≡ 34 → ⊥
no_bytes [] h e = omega arith
no_bytes (b ∷ bs) h e = omega arith

quote_long : (rest : List ℕ) → true ≡ starts_with eqb rest (34 ∷ []) → 1 ≤ length rest
quote_long [] is = let z : ◌≡◌ {A = ℕ} 0 1 = cc in absurd (omega arith)
quote_long (b ∷ bs) is = omega arith

-- a quote in front and one behind
pub size_inside : (bytes rest : List ℕ) → true ≡ starts_with eqb rest (34 ∷ []) → 1 ≤ length bytes → length rest ≤ length (take (length bytes - 1) (drop 1 bytes)) → length (take (length bytes - 1) (drop 1 bytes)) - length rest + 2 ≤ length bytes
size_inside bytes rest is some short = let long = quote_long rest is in omega (arith, ap length (take_rest bytes 1), length-drop 1 bytes)

-- past the end of the bytes stands no quoted name
pub past_end : (bytes : List ℕ) (at : ℕ) → length bytes < at → refused BadText 1 ≡ extent at (unquoted (drop at bytes))
unfolding unquoted
past_end bytes at past = sym (ap (λ l. extent at (unquoted l)) (drop_all at bytes (omega arith)))

-- the first byte is one
module _ (bytes : List ℕ) (opens : get_or bytes 0 0 ≡ 34) where
  abbrev inside : List ℕ
  inside = take (length bytes - 1) (drop 1 bytes)

  opened : unquoted bytes ≡ in_front inside
  unfolding unquoted in_front
  opened = cond-true _ _ _ (eq-eqb (get_or bytes 0 0) 34 opens) ∙ ap (λ l. nonempty (body 33 l)) (sym (take_rest bytes 1))

  never : {rest : List ℕ} → Reading inside 33 rest → in_front inside ≡ None
  unfolding in_front
  never now = ap nonempty now.whole

  pub ran_out : {rest : List ℕ} {i : ℕ} → Reading inside i rest → i ≡ 33 → None ≡ size_of (unquoted bytes)
  ran_out {rest} now all = ap size_of (sym (opened ∙ never (subst (λ k. Reading inside k rest) all now)))

  module _ {rest : List ℕ} {i : ℕ} (now : Reading inside i rest) (turn : i < 33) (e : None ≡ behind_letter rest) where
    pub size_found : true ≡ starts_with eqb rest (34 ∷ []) → (length rest ≡ length inside → ⊥) → Some (length inside - length rest) ≡ size_of (unquoted bytes)
    size_found is some =
        let quote = eqb-true 34 (get_or rest 0 0) (sym (is ∙ first_quote rest)) in
        ap Some (omega (arith, ap length now.splits, length-append (inner now.front) rest)) ∙ ap size_of (sym (opened ∙ closed now turn e (sym quote) (omega (arith, some, rest_short now))))

    pub size_unclosed : false ≡ starts_with eqb rest (34 ∷ []) → None ≡ size_of (unquoted bytes)
    size_unclosed is =
        let other = eqb-false 34 (get_or rest 0 0) (sym (is ∙ first_quote rest)) in
        ap size_of (sym (opened ∙ unclosed now turn e (λ k. other (sym k))))

    pub size_none : length rest ≡ length inside → None ≡ size_of (unquoted bytes)
    size_none none = ap size_of (sym (opened ∙ closed_empty now turn e (omega (arith, none))))
