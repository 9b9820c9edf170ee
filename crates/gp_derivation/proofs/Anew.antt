-- An applying match has a step that makes all edges anew: today's step, where each edge has the number that it had.
use Rattle.std.proofs.Common.{sym, subst}
use Rattle.gp_values.specs.Graph.{Graph}
use Rattle.gp_syntax.specs.Rule.{Rule, Found, kept_edges}
use Rattle.gp_syntax.specs.Step.{AppliesBy, Applies}
use Rattle.gp_syntax.specs.WellFormed.{IsWellFormed}
use Rattle.gp_step.specs.Laws.{IsNumbered}
use Rattle.gp_step.specs.After.{after}
use Rattle.gp_step.specs.Halves.{images_from}
use Rattle.gp_step.proofs.Afters.{leads_on}
use Rattle.gp_derivation.specs.StepAnew.{StepAnew}
use Rattle.gp_derivation.specs.inside.Table.{as_it_was, own_numbers, moved}
use Rattle.gp_derivation.proofs.Tables.{own_table, own_graph}
use Rattle.gp_derivation.proofs.Renumbered.{applies_on, match_there}
use Rattle.gp_derivation.proofs.Standings.{step_anew}

pub leads_anew : (r : Rule) (g : Graph) (m : Found) → IsWellFormed r → IsNumbered g → Applies r g m → (h : Graph) × StepAnew r g m h
leads_anew r g m wf w k =
    let t = own_numbers g 0 g.next_edge in
    let table = own_table g w in
    let was : AppliesBy r (as_it_was t g) m k.0 = subst (λ z. AppliesBy r z m k.0) (sym (own_graph g w)) k.1 in
    let n = match_there r t g m k.0 table was.is_match in
    let step = leads_on r g n.0 wf w (k.0, applies_on r t g m n.0 k.0 table n.1 was) in
    let h = as_it_was (moved t m.edges (images_from n.0.edges (kept_edges r) g.next_edge)) (after r g n.0) in
    (h, subst (λ z. StepAnew r z m h) (own_graph g w) (step_anew r t g (after r g n.0) m n.0 wf w table n.1 step))
