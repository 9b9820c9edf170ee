use Rattle.std.proofs.Common.{◌∙◌, List, map, length, sym, ap, subst}
use Rattle.gp_graph.specs.Held.{Held}
use Rattle.gp_syntax.specs.declared.command.ProgramParts.{ProgramParts}
use Rattle.gp_syntax.specs.declared.rule.RuleParts.{RuleParts}
use Rattle.gp_syntax.specs.Tree.{rule_of_tree, item_of}
use Rattle.gp_certify.specs.inside.Along.{AllGo, Stands}
use Rattle.gp_certify.specs.inside.Replay.{Shown}
use Rattle.gp_certify.proofs.Parted.{if_ok}
use Rattle.gp_certify.proofs.Told.{graph_there}
use Rattle.gp_certify.proofs.replay.Replay.last_graph.Goals as goal

pub stand_at-requires-clause-goes : goal.stand_at-requires-clause-goes
stand_at-requires-clause-goes c =
    let same = c.as_slice-rules.ensures ∙ ap (λ (p : ProgramParts). p.rules) c.parts.ensures.value in
    subst (λ (rs : List RuleParts). AllGo (map rule_of_tree rs) c.self.inside.host.now.graph (map item_of c.self.inside.items.now) (length c.self.inside.items.now)) (sym same) c.self.invariant.all_go

pub stand_at-requires-clause-stands : goal.stand_at-requires-clause-stands
stand_at-requires-clause-stands c =
    let same = c.as_slice-rules.ensures ∙ ap (λ (p : ProgramParts). p.rules) c.parts.ensures.value in
    subst (λ (rs : List RuleParts). Stands (map rule_of_tree rs) c.self.inside.host.now.graph (map item_of c.self.inside.items.now) c.self.inside.standing) (sym same) c.self.invariant.stands

pub returns : goal.returns
returns c =
    let t : Shown = record { program = c.self.inside.program.now; host = c.self.inside.host.now.graph; items = c.self.inside.items.now } in
    if_ok c.copy.result _ _ c.copy.ensures
    (λ (g : Held) o. graph_there c.args.self.now t c.as_slice-rules.result.now c.stand_at.new.standing.trail c.graph.result.now.graph g.graph c.self.view_is
    (c.as_slice-rules.ensures ∙ ap (λ (p : ProgramParts). p.rules) c.parts.ensures.value) c.in_ok-stand_at.ensures.there c.graph.ensures o)
