use Rattle.std.proofs.Common.{◌∙◌, ◌<◌, ℕ, All, map, ap, sym, subst, arith}
use Rattle.gp_values.specs.Graph.{Graph, IsGraph}
use Rattle.gp_syntax.specs.Tree.{rule_of_tree}
use Rattle.gp_syntax.specs.WellFormed.{IsWellFormed}
use Rattle.gp_system.specs.inside.Viewed.{Shown}
use Rattle.gp_system.proofs.Sessions.{applies_for, applies_told, stands_here, spent_here, step_here, blocked_here, faulty_here}
use Rattle.gp_system.proofs.session.Session.take_found.Goals as goal

pub returns-then-self-eq0-clause-called : goal.returns-then-self-eq0-clause-called
returns-then-self-eq0-clause-called c = (stands_here c.args.call c.args.self.now, spent_here c.args.call c.args.self.now c.in-Applies.found (applies_for _ _ _ _ _ (rw c.in-Applies.is at c.requires.sought)) (ap (λ (s : Shown). s.left) (sym c.self.view_is) ∙ c.if-self-eq0.true))

pub step-requires-clause-applies : goal.step-requires-clause-applies
step-requires-clause-applies c = rw (c.into_inner.ensures, c.get-2.ensures) (applies_told _ _ _ _ _ (rw c.in-Applies.is at c.requires.sought))

pub returns-in-Ok-clause-called : goal.returns-in-Ok-clause-called
returns-in-Ok-clause-called c =
    step_here c.args.call c.args.self.now _ c.in-Applies.found (subst (λ (s : Shown). All IsWellFormed (map rule_of_tree s.program.rules)) c.self.view_is c.self.invariant.well_formed) (subst (λ (g : Graph). IsGraph g) (c.graph.ensures ∙ ap (λ (s : Shown). s.trail.graph) c.self.view_is) c.next_numbers-sound.ensures.sound) (applies_for _ _ _ _ _ (rw c.in-Applies.is at c.requires.sought))
    (subst (λ (n : ℕ). 0 < n) (ap (λ (s : Shown). s.left) c.self.view_is) (omega (arith, c.if-self-eq0.false))) (rw c.into_inner.ensures at c.in-Ok.ensures.stepped)

pub returns-in-Faulty-clause-called : goal.returns-in-Faulty-clause-called
returns-in-Faulty-clause-called c = faulty_here c.args.call c.rule.result c.args.self.now c.in-Faulty.found c.in-Faulty.kind (rw c.get.ensures at c.rule.ensures) (rw c.in-Faulty.is at c.requires.sought)

pub returns-in-Barren-clause-called : goal.returns-in-Barren-clause-called
returns-in-Barren-clause-called c = blocked_here c.args.call c.args.self.now (rw c.in-Barren.is at c.requires.sought)
