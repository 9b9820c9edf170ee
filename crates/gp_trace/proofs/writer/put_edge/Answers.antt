use Rattle.std.proofs.Common.{ℕ, Bool, if◌then◌else◌, List, [], ◌++◌, ◌∙◌, decimal, ap, sym}
use Rattle.std.specs.Prelude.{codes}
use Rattle.gp_trace.proofs.Puts.{and_then, told}
use Rattle.gp_trace.proofs.writer.put_edge.Goals as goal

pub returns-clause-text : goal.returns-clause-text
returns-clause-text c =
    let sign : Bool → List ℕ = λ r. if r then codes "~" else [] in
    told (ap (λ n. codes " " ++ (decimal n ++ sign c.args.edge.reversed)) (sym c.number.ensures) ∙ ap (λ s. codes " " ++ (decimal c.number.result ++ s)) (sym (c.tilde.ensures ∙ ap sign c.reversed.ensures)))
    (and_then c.put.ensures (and_then c.number-2.ensures.text c.put-2.ensures))
