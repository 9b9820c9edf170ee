use Rattle.gp_unify.proofs.text.unify_dots.Goals as goal

pub spare_in_dots-spare-requires-clause-first : goal.spare_in_dots-spare-requires-clause-first
spare_in_dots-spare-requires-clause-first c = rw c.types.ensures c.requires.first

pub spare_in_dots-spare-requires-clause-rest : goal.spare_in_dots-spare-requires-clause-rest
spare_in_dots-spare-requires-clause-rest c = rw c.types.ensures c.requires.rest
