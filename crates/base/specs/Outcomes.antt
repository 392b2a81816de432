-- The answer of a call that may be refused.
use Rattle.std.specs.Prelude.{Ok, Err, Result}

-- what was read, by what it says, or why it was refused
abbrev pub read_as : {X Y E : Type 0} → (X → Y) → Result X E → Result Y E
read_as f (Ok x) = Ok (f x)
read_as f (Err e) = Err e
