use Rattle.std.proofs.lemmas.Result.{err_from_is_err_and}
use Rattle.gp_hostfile.specs.inside.Stages.{tree_in}
use Rattle.gp_hostfile.proofs.Hosts.{fault_refused, graph_answered}
use Rattle.gp_hostfile.proofs.read.read_host.Goals as goal

pub returns-in_err-names : goal.returns-in_err-names
returns-in_err-names c =
    let p = err_from_is_err_and c.from_residual-in_err-names.result c.from_residual-in_err-names.ensures.1 in
    rw (p.1, p.2) (fault_refused c.args.text.now (tree_in c.in_ok-tree.tree) c.in_ok-tree.ensures c.in_err-names.field-0.0 c.in_err-names.ensures.fault)

pub returns : goal.returns
returns c =
    graph_answered c.args.text.now (tree_in c.in_ok-tree.tree) c.in_ok-tree.ensures c.in_ok-names.names.nodes c.in_ok-names.ensures.fault c.in_ok-names.ensures.names c.build.result c.build.ensures.made c.build.ensures.graph
