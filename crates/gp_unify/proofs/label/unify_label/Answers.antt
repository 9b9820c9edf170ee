use Rattle.gp_unify.proofs.label.unify_label.Goals as goal

pub spare_in_label-spare-requires : goal.spare_in_label-spare-requires
spare_in_label-spare-requires c = rw c.types.ensures c.requires
