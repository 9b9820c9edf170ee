use Rattle.std.proofs.Common.{◌≡◌, ◌∙◌, true, map, ap, [], ◌∷◌, ◌++◌, append-nil, List, None}
use Rattle.gp_syntax.specs.Tree.{command_of}
use Rattle.gp_scope.specs.declared.bodies.Bodies.{Bodies}
use Rattle.gp_scope.specs.Outline.{Outline, outline}
use Rattle.gp_scope.specs.Names.{Scope, entries, bodies, all_bodies}
use Rattle.gp_scope.specs.Fault.{declares_main}
use Rattle.gp_scope.specs.Bodies.{AreBodies}
use Rattle.gp_scope.specs.inside.Levels.{scope_of}
use Rattle.gp_scope.specs.inside.Numbering.{Numbered, numbered_of, with_bodies}
use Rattle.gp_scope.proofs.All_bodies.{all_sets, all_procedures, all_mains, main_has_body, main_found, names_in_order}
use Rattle.gp_scope.proofs.bodies.bodies_of.Goals as goal

pub enter-requires-clause-once : goal.enter-requires-clause-once
enter-requires-clause-once c = (names_in_order (outline c.args.declarations.now) c.requires).1

pub put_bodies-requires-clause-once : goal.put_bodies-requires-clause-once
put_bodies-requires-clause-once c = (names_in_order (outline c.args.declarations.now) c.requires).1

abbrev none : Numbered
none = record { main = None; procedures = []; sets = [] }

all_numbered : (os : Outline) (levels : List Scope) (b : Bodies) → declares_main os ≡ true → levels ≡ entries 0 0 os ∷ [] → numbered_of b ≡ with_bodies none (bodies (scope_of levels) 0 0 os) → AreBodies os b
all_numbered os levels b m l e =
    let s = ap scope_of l ∙ append-nil (entries 0 0 os) in
    let n = e ∙ ap (λ x. with_bodies none (bodies x 0 0 os)) s in
    record {
      main = ap (λ (d : Numbered). d.main) n ∙ all_mains none (all_bodies os) ∙ main_found 0 (all_bodies os) (main_has_body (entries 0 0 os) 0 0 os m);
      procedures = ap (λ (d : Numbered). d.procedures) n ∙ all_procedures none (all_bodies os);
      sets = ap (λ (d : Numbered). d.sets) n ∙ all_sets none (all_bodies os);
    }

pub returns : goal.returns
returns c =
    let os = outline c.args.declarations.now in
    let levels = c.in_ok-enter.ensures ∙ ap (λ l. l ++ entries 0 0 os ∷ []) c.new-levels.ensures.items in
    let start : Numbered = record { main = None; procedures = map command_of c.new.result.items; sets = c.new-2.result.items } in
    let fresh : start ≡ none = ap (λ l. (let x : Numbered = record { main = None; procedures = map command_of l; sets = c.new-2.result.items } in x)) c.new.ensures.items ∙ ap (λ l. (let x : Numbered = record { main = None; procedures = []; sets = l } in x)) c.new-2.ensures.items in
    all_numbered os c.enter.new.levels.items c.put_bodies.new.done (names_in_order os c.requires).0 levels (c.in_ok-put_bodies.ensures.bodies ∙ ap (λ d. with_bodies d (bodies (scope_of c.enter.new.levels.items) 0 0 os)) fresh)
