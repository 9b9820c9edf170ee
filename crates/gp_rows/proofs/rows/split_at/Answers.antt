use Rattle.std.proofs.Common.{◌≡◌, ◌++◌, Some, sym}
use Rattle.std.proofs.lemmas.Bool.Decides.{Decides-eqb}
use Rattle.std.proofs.lemmas.List.{append_assoc, take-append-drop}
use Rattle.std.proofs.lemmas.Slice.Eq.{strip_prefix_is}
use Rattle.gp_rows.proofs.rows.split_at.Goals as goal

-- what stands behind a mark is what is left of what begins with it
pub returns-in-Some : goal.returns-in-Some
returns-in-Some c =
    let text = c.args.text.now in
    let before = c.split_at.result.0.now in
    let mark = c.args.mark.now in
    let behind = c.in-Some.behind.now in
    let rest : c.split_at.result.1.now ≡ mark ++ behind = strip_prefix_is Decides-eqb c.split_at.result.1.now mark (Some c.in-Some.behind) c.in-Some.ensures.cases in
    let whole : text ≡ before ++ c.split_at.result.1.now = rw (c.split_at.ensures.front, c.split_at.ensures.back) (sym (take-append-drop c.loop-place.place text)) in
    rw (append_assoc before mark behind, ← rest) whole
