use Rattle.std.proofs.Common.{arith, ◌∙◌, ap, ◌∷◌, [], Some, ◌++◌}
use Rattle.opt_gate.proofs.Splits.{opens_at}
use Rattle.opt_gate.proofs.gate.GateOf+Core+S+S+Found+S+Reason+GateRule+S+S+Goal.start.Goals as goal

pub new-requires : goal.new-requires
new-requires g c =
    let r = c.requires.core in
    let one = c.push_reserved.ensures.items ∙ ap (λ l. l ++ Some c.args.core ∷ []) c.in-Ok.ensures.items in
    opens_at g.S.System.means record { core = c.of.result; passes = c.args.passes } c.args.core c.push_reserved.new.self.items c.of.ensures one r.0 r.1 c.requires.passes (omega arith)

pub only-requires : goal.only-requires
only-requires g c =
    let one = c.push_reserved.ensures.items ∙ ap (λ l. l ++ Some c.args.core ∷ []) c.in-Ok.ensures.items in
    (c.args.core, c.in-Err.ensures.err ∙ one)
