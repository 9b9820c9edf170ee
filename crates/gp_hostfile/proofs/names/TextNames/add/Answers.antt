use Rattle.std.proofs.Common.{◌∙◌, map, refl, ap, not}
use Rattle.gp_values.proofs.Keys.{has_key, with_key}
use Rattle.gp_hostfile.proofs.names.TextNames.add.Goals as goal

pub returns-clause-new : goal.returns-clause-new
returns-clause-new c = c.in_ok-added.ensures.added ∙ ap not (has_key _ c.self.inside.places.keys c.args.self.now c.self.view_is c.args.name.now c.args.name.now refl)

pub returns-clause-names : goal.returns-clause-names
returns-clause-names c = ap (λ ks. map (λ k. k.now) ks) c.in_ok-added.ensures.keys ∙ with_key (λ k. k.now) c.self.inside.places.keys c.args.self.now c.self.view_is c.args.name c.args.name.now refl
