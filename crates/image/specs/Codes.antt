-- Type codes and operators as words.
use Rattle.std.specs.Prelude.{ℕ, zero, suc, ◌+◌, ◌<◌, List, [], ◌∷◌, length, Result, MatchResult, ◌≡◌, ◌≤◌, slice_index_or}
use Rattle.base.specs.declared.refusal.Cause.{Cause}
use Rattle.base.specs.declared.refusal.Cause.TheVariants.{NumberRange}
use Rattle.image.specs.declared.types.TypeCode.{TypeCode}
use Rattle.image.specs.declared.types.TypeCode.TheVariants.{Integer, Truth, Name, Channel}
use Rattle.image.specs.declared.instruction.Operator.{Operator}
use Rattle.image.specs.declared.instruction.Operator.TheVariants.{Sum, Difference, Product, Quotient, Remainder, Negation, Less, Equal, And, Or, Not}

-- a type code is 0 integer, 1 truth, 2 name, or 3 + k for the channel type k
abbrev pub code_word : TypeCode → ℕ
code_word Integer = 0
code_word Truth = 1
code_word Name = 2
code_word (Channel k) = k.0 + 3

abbrev pub code_of : ℕ → TypeCode
code_of zero = Integer
code_of (suc zero) = Truth
code_of (suc (suc zero)) = Name
code_of (suc (suc (suc k))) = Channel (record { 0 = k })

-- a channel type is one of those that the image has
abbrev pub CodeFits : ℕ → TypeCode → Type 0
CodeFits types Integer = Unit {0}
CodeFits types Truth = Unit {0}
CodeFits types Name = Unit {0}
CodeFits types (Channel k) = k.0 < types

-- the operators are written 0 to 10 in this order
abbrev pub operators : List Operator
operators = Sum ∷ Difference ∷ Product ∷ Quotient ∷ Remainder ∷ Negation ∷ Less ∷ Equal ∷ And ∷ Or ∷ Not ∷ []

abbrev pub operator_of : ℕ → Operator
operator_of w = slice_index_or operators w Sum

abbrev pub operator_word : Operator → ℕ
operator_word Sum = 0
operator_word Difference = 1
operator_word Product = 2
operator_word Quotient = 3
operator_word Remainder = 4
operator_word Negation = 5
operator_word Less = 6
operator_word Equal = 7
operator_word And = 8
operator_word Or = 9
operator_word Not = 10

-- the operator of a word; a word past the last has none
abbrev pub operator_from : ℕ → Result Operator Cause → Type 0
operator_from w r = MatchResult r (λ o. (w < length operators) × (operator_of w ≡ o)) (λ e. (length operators ≤ w) × (e ≡ NumberRange))
