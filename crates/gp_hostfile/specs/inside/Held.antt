-- Where the atoms of a label are held.
use Rattle.std.specs.Prelude.{List, [], ◌∷◌}
use Rattle.gp_hostfile.specs.declared.tree.AtomTree.{AtomTree}
use Rattle.gp_hostfile.specs.declared.tree.Held.{Held}
use Rattle.gp_hostfile.specs.declared.tree.Held.TheVariants as helds

abbrev pub held_atoms : Held → List AtomTree
held_atoms (helds.One a) = a ∷ []
held_atoms (helds.Many v) = v.items
