use Rattle.std.proofs.Common.{◌∙◌, refl}
use Rattle.gp_values.proofs.Keys.{key_place}
use Rattle.gp_hostfile.proofs.names.TextNames.place.Goals as goal

pub returns : goal.returns
returns c = c.get_index_of.ensures.index ∙ key_place _ c.self.inside.places.keys c.args.self.now c.self.view_is c.args.name.now c.args.name.now refl
