-- What is visible in a place, as levels of declarations, the outermost first.
use Rattle.std.specs.Prelude.{List, [], ◌∷◌, ◌++◌, map, fold}
use Rattle.gp_values.specs.Names.{Name}
use Rattle.gp_scope.specs.declared.meaning.Meaning.{Meaning}
use Rattle.gp_scope.specs.Names.{Scope}

abbrev pub paired : List Name → List Meaning → Scope
paired [] ms = []
paired (n ∷ ns) [] = []
paired (n ∷ ns) (m ∷ ms) = (n, m) ∷ paired ns ms

abbrev pub names_of : Scope → List Name
names_of s = map (λ (x : Name × Meaning). x.0) s

abbrev pub scope_of : List Scope → Scope
scope_of levels = fold (λ s level. level ++ s) [] levels
