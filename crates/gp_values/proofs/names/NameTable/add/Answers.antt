use Rattle.std.proofs.Common.{ℕ, List, map, Vec, Global, ◌∙◌, ap, not}
use Rattle.gp_values.proofs.Keys.{has_key, with_key}
use Rattle.gp_values.proofs.names.NameTable.add.Goals as goal

pub returns-clause-new : goal.returns-clause-new
returns-clause-new c = c.in_ok-added.ensures.added ∙ ap not (has_key _ c.self.inside.places.keys c.args.self.now c.self.view_is c.in_ok-name.name.items c.args.name.now c.in_ok-name.ensures.items)

pub returns-clause-names : goal.returns-clause-names
returns-clause-names c =
    let f = λ (k : Vec ℕ Global). k.items in
    ap (λ (ks : List (Vec ℕ Global)). map f ks) c.in_ok-added.ensures.keys ∙ with_key f c.self.inside.places.keys c.args.self.now c.self.view_is c.in_ok-name.name c.args.name.now c.in_ok-name.ensures.items
