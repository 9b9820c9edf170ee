use Rattle.std.proofs.Common.{None, ap, ◌∙◌, arith}
use Rattle.gp_derivation.specs.inside.Table.{Tables}
use Rattle.gp_derivation.proofs.Changes.{today_got}
use Rattle.gp_derivation.proofs.table.EdgeTable.today.Goals as goal

pub returns-in-Some : goal.returns-in-Some
returns-in-Some c = today_got c.args.self.now.now c.deref.result.now c.args.was c.in-Some.number.now (c.deref.ensures.value ∙ ap (λ (t : Tables). t.now) c.self.view_is) (c.in-Some.ensures.lookup.4 (omega arith) None)

pub returns-in-None : goal.returns-in-None
returns-in-None c = today_got c.args.self.now.now c.deref.result.now c.args.was None (c.deref.ensures.value ∙ ap (λ (t : Tables). t.now) c.self.view_is) (c.in-None.ensures.lookup.4 (omega arith) None)
