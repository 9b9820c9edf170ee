use Rattle.std.proofs.Common.{ℕ, ◌+◌, ◌∙◌, ap, subst, take, drop}
use Rattle.gp_syntax.specs.Rule.{Found}
use Rattle.gp_trace.specs.inside.Words.{SpellsNoNumbers, SpellsNoImages, PutsNodes, PutsEdges}
use Rattle.gp_trace.proofs.WordFacts.{texts, texts_front, texts_behind, on_true, on_false, found_read, no_found_nodes, no_found_edges}
use Rattle.gp_trace.proofs.line.read_step.Goals as goal

pub returns-then-not-branch : goal.returns-then-not-branch
returns-then-not-branch c =
    let e = ap texts (c.split_at-2.ensures.front ∙ ap (take c.in-Some.end) c.split_at.ensures.back) ∙ texts_front c.args.words.now c.in-Some.end in
    no_found_nodes (texts c.args.words.now) c.in-Some.rule c.in-Some.end c.in-Some.ensures (subst SpellsNoNumbers e (on_false _ _ _ c.if-not-branch.true c.in_ok-push_nodes.ensures))

pub returns-then-not-branch-2 : goal.returns-then-not-branch-2
returns-then-not-branch-2 c =
    let e = ap texts (c.split_at-3.ensures.back ∙ ap (drop (c.in-Some.end + 1)) c.split_at.ensures.back) ∙ texts_behind c.args.words.now (c.in-Some.end + 1) in
    no_found_edges (texts c.args.words.now) c.in-Some.rule c.in-Some.end c.in-Some.ensures (subst SpellsNoImages e (on_false _ _ _ c.if-not-branch-2.true c.in_ok-push_edges.ensures))

pub returns : goal.returns
returns c =
    let e = ap texts (c.split_at-2.ensures.front ∙ ap (take c.in-Some.end) c.split_at.ensures.back) ∙ texts_front c.args.words.now c.in-Some.end in
    let f = ap texts (c.split_at-3.ensures.back ∙ ap (drop (c.in-Some.end + 1)) c.split_at.ensures.back) ∙ texts_behind c.args.words.now (c.in-Some.end + 1) in
    found_read (texts c.args.words.now) c.in-Some.rule c.in-Some.end c.new-found.result c.push_nodes.new.found c.push_edges.new.found c.in-Some.ensures (let rule : Found → ℕ = λ m. m.rule in ap rule c.new-found.ensures)
    (subst (λ ws. PutsNodes ws c.new-found.result c.push_nodes.new.found) e (on_true _ _ _ c.if-not-branch.false c.in_ok-push_nodes.ensures))
    (subst (λ ws. PutsEdges ws c.push_nodes.new.found c.push_edges.new.found) f (on_true _ _ _ c.if-not-branch-2.false c.in_ok-push_edges.ensures))
