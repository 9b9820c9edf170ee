-- Lists of names of one class.
use Rattle.std.specs.Prelude.{List, []}
use Rattle.gp_tokens.specs.declared.want.Want.{Want}
use Rattle.gp_tokens.specs.Grammar.{Grammar, At, Absent, Separated}
use Rattle.gp_tokens.specs.SignWants.{comma}
use Rattle.gp_values.specs.Names.{Name}
use Rattle.gp_expressions.specs.Expressions.{name}

-- [Name {"," Name}]
abbrev pub names : Want → Grammar (List Name)
names want = At want (Separated comma (name want)) (Absent [])
