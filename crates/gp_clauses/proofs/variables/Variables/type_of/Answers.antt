use Rattle.std.proofs.Common.{sym, ◌∙◌, ap}
use Rattle.gp_values.specs.Names.{place_of}
use Rattle.gp_clauses.proofs.Tables.{none_there}
use Rattle.gp_clauses.proofs.variables.Variables.type_of.Goals as goal

pub returns-in-None-get : goal.returns-in-None-get
returns-in-None-get c = none_there c.args.self.now.types c.in-Some.place (place_of c.args.self.now.names c.args.name.now) (ap (place_of c.args.self.now.names) (sym c.as_bytes.ensures) ∙ sym c.in-Some.ensures) (sym c.in-None-get.ensures.value)
