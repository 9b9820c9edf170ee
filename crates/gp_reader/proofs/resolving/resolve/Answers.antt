use Rattle.std.proofs.Common.{◌≡◌, ℕ, List, ◌∙◌, ap, sym, subst, Vec, Global}
use Rattle.gp_syntax.specs.declared.command.Command.{Command}
use Rattle.gp_scope.specs.Outline.{outline}
use Rattle.gp_scope.specs.Bodies.{AreBodies}
use Rattle.gp_reader.specs.Resolution.{IsFaultless}
use Rattle.gp_reader.proofs.Joined.{resolved_parts}
use Rattle.gp_reader.proofs.Faults.{always_scoped}
use Rattle.gp_reader.proofs.resolving.resolve.Goals as goal

pub new-requires : goal.new-requires
new-requires c =
    let os = outline c.args.tree.declarations in
    let b = c.in_ok-bodies.bodies in
    let p = c.into_parts-main.ensures in
    let free : IsFaultless os = subst (λ l. IsFaultless (outline l)) c.as_slice.ensures c.in_ok-bodies.ensures.faultless in
    let are : AreBodies os b = subst (λ l. AreBodies (outline l) b) c.as_slice.ensures c.in_ok-bodies.ensures.ok in
    let procedures : c.from_vec.result ≡ b.procedures.items = c.from_vec.ensures ∙ ap (λ (v : Vec Command Global). v.items) p.procedures in
    let sets : c.from_vec-2.result ≡ b.sets.items = c.from_vec-2.ensures ∙ ap (λ (v : Vec (List ℕ) Global). v.items) p.sets in
    always_scoped os _ free (resolved_parts os b c.unwrap.result c.from_vec.result c.from_vec-2.result c.in_ok-rules.rules are (sym p.main ∙ c.unwrap.ensures) procedures sets c.in_ok-rules.ensures)
