-- The keys that a line may begin with.
use Rattle.std.specs.Prelude.{ℕ, Bool, true, false, cond, ◌&&◌, List, [], ◌∷◌, length, Some, None, codes, Option, ◌==◌}
use Rattle.sheet.specs.declared.line.Key.{Key}
use Rattle.sheet.specs.declared.line.Key.TheVariants.{Style, Names, Name, Asks, Ask}

abbrev pub key_bytes : Key → List ℕ
key_bytes Style = codes "style="
key_bytes Names = codes "names="
key_bytes Name = codes "name="
key_bytes Asks = codes "asks="
key_bytes Ask = codes "ask="

abbrev pub starts : List ℕ → List ℕ → Bool
starts [] line = true
starts (c ∷ cs) [] = false
starts (c ∷ cs) (b ∷ bs) = b == c && starts cs bs

-- the first of the keys that a line begins with, and how long it is
abbrev pub first_key : List Key → List ℕ → Option (Key × ℕ)
first_key [] line = None
first_key (k ∷ ks) line = cond (starts (key_bytes k) line) (Some (k, length (key_bytes k))) (first_key ks line)

abbrev pub all_keys : List Key
all_keys = Style ∷ Names ∷ Name ∷ Asks ∷ Ask ∷ []

-- the key that a line begins with: no key is the front of another
abbrev pub key_of : List ℕ → Option (Key × ℕ)
key_of line = first_key all_keys line
