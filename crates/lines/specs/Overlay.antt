-- Writing into the front of a lent buffer.
use Rattle.std.specs.Prelude.{◌≡◌, ℕ, cond, List, [], ◌++◌, length, drop, Ok, Err, Result, nat_le}
use Rattle.base.specs.declared.refusal.Cause.TheVariants.{BufferShort}
use Rattle.base.specs.declared.refusal.Refusal.{Refusal}
use Rattle.base.specs.Refusals.{refused}

-- a size has to fit a buffer of n bytes
abbrev pub room : ℕ → Result ℕ Refusal → Result ℕ Refusal
room n (Ok size) = cond (nat_le size n) (Ok size) (refused BufferShort 0)
room n (Err e) = Err e

-- what writing these bytes into the buffer answers: how many they are
abbrev pub fitted : List ℕ → List ℕ → Result ℕ Refusal
fitted buffer bytes = room (length buffer) (Ok (length bytes))

-- the bytes that are written: none where refused
abbrev pub piece : Result ℕ Refusal → List ℕ → List ℕ
piece (Ok n) bytes = bytes
piece (Err e) bytes = []

-- the buffer with its front written over; what lies behind stays
abbrev pub overlaid : List ℕ → List ℕ → List ℕ
overlaid bytes buffer = bytes ++ drop (length bytes) buffer

-- a call that writes these bytes into the front of a buffer: what it answers, and what it leaves
pub record Writes (old new bytes : List ℕ) (answer : Result ℕ Refusal) : Type 0 where
  pub value : answer ≡ fitted old bytes
  pub change : new ≡ overlaid (piece answer bytes) old
