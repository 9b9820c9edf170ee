-- Where the atoms of a list are held.
use Rattle.std.specs.Prelude.{List, [], ◌∷◌}
use Rattle.gp_values.specs.declared.atom.Atom.{Atom}
use Rattle.gp_values.specs.declared.list.Held.{Held}
use Rattle.gp_values.specs.declared.list.Held.TheVariants as helds

abbrev pub held_atoms : Held → List Atom
held_atoms helds.None = []
held_atoms (helds.One a) = a ∷ []
held_atoms (helds.Many v) = v.items
