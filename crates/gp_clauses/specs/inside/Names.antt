-- Names seen one after the other.
use Rattle.std.specs.Prelude.{◌≡◌, List, ◌∷◌, ◌++◌, Option, None, Result, Ok, Err}
use Rattle.std.specs.Option.{option_or, option_copied}
use Rattle.std.specs.Borrow.{Bor}
use Rattle.gp_memory.specs.declared.refusal.NoMemory.{NoMemory}
use Rattle.gp_values.specs.Names.{Name, first_doubled_behind}
use Rattle.gp_syntax.specs.declared.tree.VariableGroup.{VariableGroup}

abbrev pub group_names : VariableGroup → List Name
group_names g = g.first ∷ g.rest

-- the first that stood before, or all of them behind those that were seen
pub record Doubled (told : Option Name) (old new names : List Name) : Type 0 where
  pub first : told ≡ first_doubled_behind old names
  pub all : told ≡ None → new ≡ old ++ names

-- what was told before, or else this; where memory was refused before, nothing is told
abbrev pub ToldBehind : Result (Option (Bor Name)) NoMemory → Option Name → Option Name → Type 0
ToldBehind (Ok before) more told = told ≡ option_or (option_copied before) more
ToldBehind (Err refused) more told = ⊥
