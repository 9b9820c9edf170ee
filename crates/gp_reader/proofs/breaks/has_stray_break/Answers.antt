use Rattle.std.proofs.Common.{◌≡◌, ◌∙◌, ap, sym, subst, true, false, ◌||◌, Bool, List, map, refl}
use Rattle.std.specs.List.{list_any}
use Rattle.gp_syntax.specs.Tree.{command_of}
use Rattle.gp_reader.specs.declared.breaks.Judged.{Judged}
use Rattle.gp_reader.specs.inside.Judged.{judged_by, breaks_by, strays_by, MarksBreaking}
use Rattle.gp_reader.proofs.Strays_found.{found_in_main, found_in_body, all_found}
use Rattle.gp_reader.proofs.breaks.has_stray_break.Goals as goal

pub returns-then-any : goal.returns-then-any
returns-then-any c =
    let marks = c.in_ok-known.known.items in
    let main = command_of c.args.main.now in
    let j : c.judge-judged.result ≡ judged_by marks main = c.judge-judged.ensures ∙ ap (λ l. judged_by l main) c.as_slice.ensures.value in
    let e : (breaks_by marks main || strays_by marks main) ≡ true = sym (ap (λ (j : Judged). j.breaks || j.strays) j) ∙ sym c.any.ensures ∙ c.if-any.true in
    (λ _. found_in_main main c.args.procedures.now marks c.in_ok-known.ensures e, λ _. refl)

pub returns : goal.returns
returns c =
    let marks = c.in_ok-known.known.items in
    let main = command_of c.args.main.now in
    let j : c.judge-judged.result ≡ judged_by marks main = c.judge-judged.ensures ∙ ap (λ l. judged_by l main) c.as_slice.ensures.value in
    let e : (breaks_by marks main || strays_by marks main) ≡ false = sym (ap (λ (j : Judged). j.breaks || j.strays) j) ∙ sym c.any.ensures ∙ c.if-any.false in
    let s : c.any_strays.result ≡ list_any (λ b. strays_by marks (command_of b)) c.args.procedures.now = c.any_strays.ensures ∙ ap (λ l. list_any (λ b. strays_by l (command_of b)) c.args.procedures.now) c.as_slice-2.ensures.value in
    (λ h. found_in_body main c.args.procedures.now marks c.in_ok-known.ensures (sym s ∙ h), λ h. s ∙ all_found main c.args.procedures.now marks c.in_ok-known.ensures e h)
