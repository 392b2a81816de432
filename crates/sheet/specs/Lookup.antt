-- Looking a text up among the names.
use Rattle.std.specs.Prelude.{ℕ, cond, List, Some, None, Option}
use Rattle.base.specs.declared.ids.NameId.{NameId}
use Rattle.sheet.specs.Text.{good}
use Rattle.sheet.specs.Format.{lookup}

-- the number of the name that is the same text; what is no text has none
abbrev pub number_of : List (List ℕ) → List ℕ → Option ℕ
number_of names t = cond (good t) (lookup names t 0) None

-- a name number, where one is found
abbrev pub numbered : Option ℕ → Option NameId
numbered (Some i) = Some (record { 0 = i })
numbered None = None
