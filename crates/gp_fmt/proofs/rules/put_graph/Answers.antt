use Rattle.std.proofs.Common.{◌≡◌, [], ◌∷◌, ◌++◌, refl}
use Rattle.gp_tokens.specs.declared.token.Kind.TheVariants as k
use Rattle.gp_fmt.specs.declared.piece.Piece.TheVariants as p
use Rattle.std.specs.List.{flat_map}
use Rattle.gp_fmt.specs.Rules.{node, edge, graph}
use Rattle.gp_fmt.proofs.Puts.{and_then, told}
use Rattle.gp_fmt.proofs.rules.put_graph.Goals as goal

pub returns : goal.returns
returns c =
    let e : graph c.args.side.now ≡ p.Sign k.OpenBracket ∷ flat_map node c.as_slice.result.now ++ p.Sign k.Bar ∷ flat_map edge c.as_slice-2.result.now ++ p.Sign k.CloseBracket ∷ [] = rw (c.as_slice.ensures, c.as_slice-2.ensures) refl in
    told e (and_then (and_then (and_then c.sign.ensures c.put_nodes.ensures) (and_then c.sign-2.ensures c.put_edges.ensures)) c.sign-3.ensures)
