-- The names of procedures.
use Rattle.std.specs.Prelude.{◌≡◌, ℕ, if◌then◌else◌, List, [], ◌∷◌, ◌++◌, Option, slice_get}
use Rattle.std.specs.Option.{option_or}
use Rattle.gp_values.specs.Names.{Name}
use Rattle.gp_syntax.specs.declared.tree.Decl.{Decl}
use Rattle.gp_scope.specs.Outline.{Outline, nothing, rule, procedure, is_main, declared}

-- of those beside Main, in the order in which their declarations begin
abbrev pub procedure_names : Outline → List Name
procedure_names nothing = []
procedure_names (rule d os) = procedure_names os
procedure_names (procedure n local body os) = (if is_main n then [] else n ∷ []) ++ (procedure_names local ++ procedure_names os)

-- what is told of the names in the declaration: that of a number, or how many are left behind them
abbrev pub TellsName : Decl → ℕ → Option Name → ℕ → Type 0
TellsName d old o new = (os : Outline) (ns : List Name) → slice_get (procedure_names (declared d os) ++ ns) old ≡ option_or o (slice_get (procedure_names os ++ ns) new)
