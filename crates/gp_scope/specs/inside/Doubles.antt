-- Names that stand twice, declaration by declaration.
use Rattle.std.specs.Prelude.{◌≡◌, List, [], ◌∷◌, ◌++◌, if◌then◌else◌, true, Option, Some}
use Rattle.std.specs.Option.{option_or}
use Rattle.gp_values.specs.Names.{Name, has_name}
use Rattle.gp_syntax.specs.declared.tree.Decl.{Decl}
use Rattle.gp_syntax.specs.declared.tree.Decl.TheOpen.{Decl-F}
use Rattle.gp_syntax.specs.declared.tree.Decl.TheFolds.{fold-Decl}
use Rattle.gp_scope.specs.Outline.{Outline, declared}
use Rattle.gp_scope.specs.Fault.{doubled_behind}

abbrev pub name_step : Decl-F Name → Name
name_step (Decl-F.Rule d) = d.name
name_step (Decl-F.Procedure n ds body) = n

-- the name that is declared
unfoldable pub name_of : Decl → Name
name_of = fold-Decl Name name_step

-- what is told of the names within the declaration, where its own name is new
abbrev pub TellsDoubled : Decl → Option Name → Type 0
TellsDoubled d o = (seen : List Name) (os : Outline) →
    doubled_behind seen (declared d os) ≡ (if has_name seen (name_of d) then Some (name_of d) else option_or o (doubled_behind (seen ++ name_of d ∷ []) os))

-- a name that was seen is told
abbrev pub StopsDoubled : Decl → Type 0
StopsDoubled d = (seen : List Name) (os : Outline) → has_name seen (name_of d) ≡ true → doubled_behind seen (declared d os) ≡ Some (name_of d)
