use Rattle.std.proofs.Common.{◌≡◌, length, replicate, None, Some, sym, ap, ◌∙◌}
use Rattle.std.proofs.lemmas.List.{length-map}
use Rattle.gp_syntax.specs.Images.{EdgeImage}
use Rattle.gp_syntax.specs.Tree.{rule_of_tree}
use Rattle.gp_unify.proofs.Matches.{one_from_nothing, none_from_nothing, of_match}
use Rattle.gp_unify.proofs.matched.assignment_by.Goals as goal

pub returns-then-branch-clause-fits : goal.returns-then-branch-clause-fits
returns-then-branch-clause-fits c =
    let r = c.args.parts.now in
    let m = c.args.found.now in
    let ns : length r.left_nodes ≡ length m.nodes = sym c.len.ensures ∙ c.if-len-nodes.false ∙ ap length c.nodes.ensures in
    let es : length r.left_edges ≡ length m.edges = sym c.len-else-len-nodes.ensures ∙ c.if-len-edges.false ∙ sym (length-map c.edges.result.now (λ (i : EdgeImage). i.number)) ∙ ap length c.edges.ensures.numbers in
    let first : c.in_ok-assignment.assignment ≡ record { types = r.types; values = replicate (length r.types) None } = rw (← c.as_slice.ensures) c.in_ok-assignment.ensures in
    one_from_nothing r c.args.graph.now.graph m c.requires ns es c.in_ok-assignment.assignment first c.unify_left.new.assignment _ c.if-branch.true c.in_ok-unify_left.ensures

pub returns-then-branch-clause-of_match : goal.returns-then-branch-clause-of_match
returns-then-branch-clause-of_match c =
    let r = c.args.parts.now in
    let m = c.args.found.now in
    let ns : length r.left_nodes ≡ length m.nodes = sym c.len.ensures ∙ c.if-len-nodes.false ∙ ap length c.nodes.ensures in
    let es : length r.left_edges ≡ length m.edges = sym c.len-else-len-nodes.ensures ∙ c.if-len-edges.false ∙ sym (length-map c.edges.result.now (λ (i : EdgeImage). i.number)) ∙ ap length c.edges.ensures.numbers in
    let first : c.in_ok-assignment.assignment ≡ record { types = r.types; values = replicate (length r.types) None } = rw (← c.as_slice.ensures) c.in_ok-assignment.ensures in
    of_match (Some c.unify_left.new.assignment) (rule_of_tree r) c.args.graph.now.graph m (one_from_nothing r c.args.graph.now.graph m c.requires ns es c.in_ok-assignment.assignment first c.unify_left.new.assignment _ c.if-branch.true c.in_ok-unify_left.ensures)

pub returns-else-branch-clause-fits : goal.returns-else-branch-clause-fits
returns-else-branch-clause-fits c =
    let r = c.args.parts.now in
    let m = c.args.found.now in
    let ns : length r.left_nodes ≡ length m.nodes = sym c.len.ensures ∙ c.if-len-nodes.false ∙ ap length c.nodes.ensures in
    let es : length r.left_edges ≡ length m.edges = sym c.len-else-len-nodes.ensures ∙ c.if-len-edges.false ∙ sym (length-map c.edges.result.now (λ (i : EdgeImage). i.number)) ∙ ap length c.edges.ensures.numbers in
    let first : c.in_ok-assignment.assignment ≡ record { types = r.types; values = replicate (length r.types) None } = rw (← c.as_slice.ensures) c.in_ok-assignment.ensures in
    none_from_nothing r c.args.graph.now.graph m c.requires ns es c.in_ok-assignment.assignment first c.unify_left.new.assignment _ c.if-branch.false c.in_ok-unify_left.ensures

pub returns-else-branch-clause-of_match : goal.returns-else-branch-clause-of_match
returns-else-branch-clause-of_match c =
    let r = c.args.parts.now in
    let m = c.args.found.now in
    let ns : length r.left_nodes ≡ length m.nodes = sym c.len.ensures ∙ c.if-len-nodes.false ∙ ap length c.nodes.ensures in
    let es : length r.left_edges ≡ length m.edges = sym c.len-else-len-nodes.ensures ∙ c.if-len-edges.false ∙ sym (length-map c.edges.result.now (λ (i : EdgeImage). i.number)) ∙ ap length c.edges.ensures.numbers in
    let first : c.in_ok-assignment.assignment ≡ record { types = r.types; values = replicate (length r.types) None } = rw (← c.as_slice.ensures) c.in_ok-assignment.ensures in
    of_match None (rule_of_tree r) c.args.graph.now.graph m (none_from_nothing r c.args.graph.now.graph m c.requires ns es c.in_ok-assignment.assignment first c.unify_left.new.assignment _ c.if-branch.false c.in_ok-unify_left.ensures)
