-- Bytes put behind what is written.
use Rattle.std.proofs.Common.{◌≡◌, ℕ, ◌+◌, ◌<◌, Bor, get_or, List, [], ◌++◌, length, take, drop, sym, refl, ap, ◌∙◌, arith, length-append}
use Rattle.std.proofs.lemmas.Grind.{common_steps, flat_map-append}
use Rattle.std.proofs.lemmas.List.{drop-drop, drop_at, take_at}
use Rattle.lines.specs.Overlay.{overlaid}
use Rattle.lines.specs.Lines.{joined}

-- the front is laid over the old bytes, and ends here
pub record Laid (old front now : List ℕ) (end : ℕ) : Type 0 where
  pub stands : now ≡ overlaid front old
  pub ends : length front ≡ end

pub more_laid : {old front now : List ℕ} {end : ℕ} → Laid old front now end → (bytes : List ℕ) {next : List ℕ} {after : ℕ} → next ≡ overlaid (take end now ++ bytes) now → after ≡ end + length bytes → Laid old (front ++ bytes) next after
more_laid {old} {front} {now} {end} l bytes is sum =
    record {
      stands = is ∙ ap (λ f. overlaid (f ++ bytes) now) same ∙ ap (λ b. (front ++ bytes) ++ b) rest;
      ends = omega (arith, sum, l.ends, length-append front bytes);
    }
  where
    same : take end now ≡ front
    same = ap (take end) l.stands ∙ take_at front (drop (length front) old) end l.ends

    past : drop (length front) now ≡ drop (length front) old
    past = ap (drop (length front)) l.stands ∙ drop_at front (drop (length front) old) (length front) refl

    further : (b : List ℕ) → drop (length (front ++ bytes)) b ≡ drop (length bytes) (drop (length front) b)
    further b = rw (length-append, drop-drop)

    rest : drop (length (front ++ bytes)) now ≡ drop (length (front ++ bytes)) old
    rest = further now ∙ ap (drop (length bytes)) past ∙ sym (further old)

-- what stands for a part past the last one
abbrev pub no_part : Bor (List ℕ)
no_part = record { ref_ptr = (0, 0); now = [] }

pub joined_more : (parts : List (Bor (List ℕ))) (i : ℕ) → i < length parts → joined (take i parts) ++ (get_or parts i no_part).now ≡ joined (take (i + 1) parts)
joined_more parts i h = grind (arith, common_steps, flat_map-append)
