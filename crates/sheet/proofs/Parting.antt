-- A part of a part is a part; the parts that a sheet shows.
use Rattle.std.proofs.Common.{◌≡◌, ℕ, List, [], ◌∷◌, ◌++◌, map, sym, refl, ap, ◌∙◌, subst, append_assoc}
use Rattle.std.specs.List.{All}
use Rattle.std.proofs.lemmas.List.{append-nil, map_push}
use Rattle.std.proofs.lemmas.List.Elements.{All-push}
use Rattle.sheet.specs.declared.text.Text.{Text}
use Rattle.sheet.specs.Parts.{IsPart}

pub whole_part : (bytes : List ℕ) → IsPart bytes bytes
whole_part bytes = record { before = []; after = []; is = sym (append-nil bytes) }

pub empty_part : (bytes : List ℕ) → IsPart bytes []
empty_part bytes = record { before = []; after = bytes; is = refl }

pub part_part : {bytes part inner : List ℕ} → IsPart bytes part → IsPart part inner → IsPart bytes inner
part_part {bytes} {part} {inner} p q = record {
  before = p.before ++ q.before;
  after = q.after ++ p.after;
  is = p.is ∙ ap (λ l. p.before ++ (l ++ p.after)) q.is ∙ simp append_assoc;
}

-- one name more
pub named_stands : (bytes : List ℕ) (names : List Text) (t : Text) {after : List Text} → All (IsPart bytes) (map (λ (n : Text). n.written.now) names) → IsPart bytes t.written.now → after ≡ names ++ t ∷ [] → All (IsPart bytes) (map (λ (n : Text). n.written.now) after)
named_stands bytes names t stand part is =
    subst (All (IsPart bytes)) (sym (ap (map (λ (n : Text). n.written.now)) is ∙ map_push (λ (n : Text). n.written.now) names t))
    (All-push (IsPart bytes) (map (λ (n : Text). n.written.now) names) t.written.now stand part)
