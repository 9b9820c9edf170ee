use Rattle.gp_values.specs.inside.CompareLaws.{list_cmp_total, list_cmp-equal}
use Rattle.gp_values.proofs.laws.orders_lists.Goals as goal

pub returns : goal.returns
returns c = record { total = list_cmp_total; ties = list_cmp-equal }
