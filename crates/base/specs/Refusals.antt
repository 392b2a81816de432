-- The refusals: which number and which layer each cause has.
use Rattle.std.specs.Prelude.{ℕ, Err, Result}
use Rattle.base.specs.declared.refusal.Cause.{Cause}
use Rattle.base.specs.declared.refusal.Cause.TheVariants.{ImageSize, NumberRange, RecordEnd, LabelOrder, Opcode, StackDepth, NoSuchIndex, TypeMismatch, UnknownLabel, Arity, TableMismatch, NotLoaded, PolicyNotEmpty, PolicyFull, NoWaitingThread, NoFreeCell, NoFreeChannel, StepLimit, StuckStack, StuckIndex, StuckKind, StuckLabel, StuckCounts, BudgetRange, NoAnswer, NoPlace, TapeSize, SheetLine, BadText, BadNumber, NameTwice, NameUnknown, NamesDiffer, BufferShort}
use Rattle.base.specs.declared.refusal.Refusal.{Refusal}

pub record Assigned : Type 0 where
  pub number : ℕ
  pub layer : ℕ

abbrev pub in_layer : ℕ → ℕ → Assigned
in_layer l n = record { number = n; layer = l }

-- layer 1 is the image's layout, 2 its typing, 3 the machine, 4 the host, 5 the sheet and the report
abbrev pub assigned : Cause → Assigned
assigned ImageSize = in_layer 1 1
assigned NumberRange = in_layer 1 2
assigned RecordEnd = in_layer 1 3
assigned LabelOrder = in_layer 1 4
assigned Opcode = in_layer 1 5
assigned StackDepth = in_layer 2 6
assigned NoSuchIndex = in_layer 2 7
assigned TypeMismatch = in_layer 2 8
assigned UnknownLabel = in_layer 2 9
assigned Arity = in_layer 2 10
assigned TableMismatch = in_layer 2 11
assigned NotLoaded = in_layer 3 12
assigned PolicyNotEmpty = in_layer 3 13
assigned PolicyFull = in_layer 3 14
assigned NoWaitingThread = in_layer 3 15
assigned NoFreeCell = in_layer 3 16
assigned NoFreeChannel = in_layer 3 17
assigned StepLimit = in_layer 3 18
assigned StuckStack = in_layer 3 19
assigned StuckIndex = in_layer 3 20
assigned StuckKind = in_layer 3 21
assigned StuckLabel = in_layer 3 22
assigned StuckCounts = in_layer 3 23
assigned BudgetRange = in_layer 3 24
assigned NoAnswer = in_layer 4 25
assigned NoPlace = in_layer 4 26
assigned TapeSize = in_layer 4 27
assigned SheetLine = in_layer 5 28
assigned BadText = in_layer 5 29
assigned BadNumber = in_layer 5 30
assigned NameTwice = in_layer 5 31
assigned NameUnknown = in_layer 5 32
assigned NamesDiffer = in_layer 5 33
assigned BufferShort = in_layer 5 34

-- the answer of a call that is refused
abbrev pub refused : {X : Type 0} → Cause → ℕ → Result X Refusal
refused cause place = Err (record { cause = cause; place = place })
