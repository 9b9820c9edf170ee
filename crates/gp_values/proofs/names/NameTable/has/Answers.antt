use Rattle.std.proofs.Common.{◌∙◌, refl}
use Rattle.gp_values.proofs.Keys.{has_key}
use Rattle.gp_values.proofs.names.NameTable.has.Goals as goal

pub returns : goal.returns
returns c = c.contains.ensures ∙ has_key _ c.self.inside.places.keys c.args.self.now c.self.view_is c.args.name.now c.args.name.now refl
