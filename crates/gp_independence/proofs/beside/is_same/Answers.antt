use Rattle.std.proofs.Common.{sym, ◌∙◌}
use Rattle.std.specs.Cmp.Lexicographic.{same_text}
use Rattle.gp_independence.proofs.Others.{same_bare}
use Rattle.gp_independence.proofs.beside.is_same.Goals as goal

pub returns : goal.returns
returns c = λ t.
    same_bare c.args.first.now c.args.second.now c.edges-first_edges.result.now c.edges-second_edges.result.now c.edges-first_edges.ensures.numbers c.edges-first_edges.ensures.directions c.edges-second_edges.ensures.numbers c.edges-second_edges.ensures.directions
    c.if-first_edges-ne0.false c.if-second_edges-ne0.false
    (sym c.rule.ensures ∙ c.if-rule.false ∙ c.rule-2.ensures) (sym c.nodes.ensures ∙ same_text c.nodes.result.now c.nodes-2.result.now (sym t ∙ c.eq.ensures) ∙ c.nodes-2.ensures)
