-- The layers of the whole.
use Rattle.std.specs.Prelude.{ℕ}
use Rattle.base.specs.declared.refusal.Layer.{Layer}
use Rattle.base.specs.declared.refusal.Layer.TheVariants.{Layout, Typing, Machine, Host, Sheet}

-- the number that users see
abbrev pub layer_number : Layer → ℕ
layer_number Layout = 1
layer_number Typing = 2
layer_number Machine = 3
layer_number Host = 4
layer_number Sheet = 5
