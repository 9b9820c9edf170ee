use Rattle.std.proofs.Common.{◌≡◌, map, drop}
use Rattle.gp_syntax.specs.Declaration.{DeclaredEdge}
use Rattle.gp_syntax.specs.Tree.{edge_of, declaration_of}
use Rattle.gp_syntax.specs.Fault.{first_told, unless, keeps_direction, bad_bidi}
use Rattle.gp_clauses.proofs.marks.bad_bidi.Given as goal

abbrev pub invariant-loop-edge : goal.invariant-loop-edge
invariant-loop-edge l = first_told (λ (e : DeclaredEdge). unless (keeps_direction (declaration_of l.rule) e) e.name) (map edge_of (drop l.edge-index l.edge-items)) ≡ bad_bidi (declaration_of l.rule)
