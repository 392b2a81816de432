-- Numbers in decimal, without plus sign, leading zero or the form -0.
use Rattle.std.specs.Prelude.{◌≡◌, ℕ, ◌+◌, ◌-◌, ◌*◌, ◌^◌, ◌<◌, Bool, cond, not, ◌&&◌, ◌↔◌, List, [], ◌∷◌, length, drop, ℤ, pos, negsuc, Some, None, decimal, Option, ◌==◌, nat_le, slice_index}
use Rattle.std.specs.Str.{all_ascii_digits}
use Rattle.std.specs.Fmt.{signed_decimal}

-- the number that digits write, read on behind n
abbrev pub read_on : ℕ → List ℕ → ℕ
read_on n [] = n
read_on n (c ∷ cs) = read_on (n * 10 + (c - 48)) cs

-- 1 to 10 digits, the first no zero unless it is the only one
abbrev pub numeral : List ℕ → Bool
numeral ds = (nat_le 1 (length ds) && nat_le (length ds) 10) && (not (slice_index ds 0 == 48 && nat_le 2 (length ds)) && all_ascii_digits ds)

abbrev pub natural : List ℕ → Option ℕ
natural ds = cond (numeral ds) (Some (read_on 0 ds)) None

-- 0 to 2147483647
abbrev pub above : Option ℕ → Option ℤ
above (Some n) = cond (nat_le n 2147483647) (Some (pos n)) None
above None = None

-- -1 to -2147483648
abbrev pub below : Option ℕ → Option ℤ
below (Some n) = cond (nat_le 1 n && nat_le n 2147483648) (Some (negsuc (n - 1))) None
below None = None

-- a signed number of 32 bits; 45 is the minus sign
abbrev pub number : List ℕ → Option ℤ
number text = cond (slice_index text 0 == 45) (below (natural (drop 1 text))) (above (natural text))

abbrev pub InRange : ℤ → Type 0
InRange (pos n) = n < 2147483648
InRange (negsuc n) = n < 2147483648

-- a number is read exactly from its decimal form
abbrev pub NaturalsAreDecimal : Type 0
NaturalsAreDecimal = (ds : List ℕ) (n : ℕ) → (natural ds ≡ Some n) ↔ ((ds ≡ decimal n) × (n < 10 ^ 10))

abbrev pub NumbersAreDecimal : Type 0
NumbersAreDecimal = (text : List ℕ) (z : ℤ) → (number text ≡ Some z) ↔ ((text ≡ signed_decimal z) × InRange z)
