-- What functions answer, and lists of what procedures call.
use Rattle.std.proofs.Common.{◌≡◌, ℕ, List, [], ◌∷◌, map, Option, Some, None, option_map, Result, Ok, Err, IfOk, IfErr, OnOk, refl, sym, ap, subst, ◌∙◌}
use Rattle.std.specs.Prelude.{MatchOption}
use Rattle.gp_syntax.specs.declared.command.Command.{Command as Tree}
use Rattle.gp_syntax.specs.Run.{Command}
use Rattle.gp_syntax.specs.Tree.{command_of}
use Rattle.gp_syntax.specs.Scoped.{procedures_in}
use Rattle.gp_reader.specs.inside.Procedures.{Strays}
use Rattle.gp_syntax.specs.declared.tree.RuleDecl.{RuleDecl}
use Rattle.gp_scope.specs.declared.bodies.Bodies.{Bodies}
use Rattle.gp_scope.specs.Outline.{Outline, rules_in}
use Rattle.gp_scope.specs.Resolved.{resolved_bodies, main_of}
use Rattle.gp_scope.specs.Bodies.{AreBodies}
use Rattle.gp_reader.specs.Resolution.{IsResolved}
use Rattle.gp_reader.proofs.Chains.{callees_in}

pub if_some : {A : Type 0} (o : Option A) (x : A) (P : Type 0) (Q : A → Type 0) → o ≡ Some x → MatchOption o P Q → Q x
if_some (Some y) x P Q e m = let g : y ≡ x = cc in subst Q g m
if_some None x P Q e m = cc

pub if_none : {A : Type 0} (o : Option A) (P : Type 0) (Q : A → Type 0) → o ≡ None → MatchOption o P Q → P
if_none (Some y) P Q e m = cc
if_none None P Q e m = m

pub on_ok : {A E : Type 0} (r : Result A E) (P Q : Type 0) → (P → Q) → OnOk r P → OnOk r Q
on_ok (Ok x) P Q f h = f h
on_ok (Err e) P Q f h = tt

pub if_ok : {A E : Type 0} (r : Result A E) (P Q : A → Type 0) → ((x : A) → P x → Q x) → IfOk r P → IfOk r Q
if_ok (Ok x) P Q f h = f x h
if_ok (Err e) P Q f h = tt

pub if_err : {A E : Type 0} (r : Result A E) (P Q : E → Type 0) → ((e : E) → P e → Q e) → IfErr r P → IfErr r Q
if_err (Ok x) P Q f h = tt
if_err (Err e) P Q f h = f e h

pub callees_are : (ps : List Tree) (cs : List Command) → map command_of ps ≡ cs → map (λ c. procedures_in (command_of c)) ps ≡ callees_in cs
callees_are ps cs e = go ps ∙ ap callees_in e
  where
    go : (ps : List Tree) → map (λ c. procedures_in (command_of c)) ps ≡ callees_in (map command_of ps)
    go [] = refl
    go (p ∷ ps) = ap (λ l. procedures_in (command_of p) ∷ l) (go ps)

pub strays_are : (m n : Command) (ps qs : List Command) → m ≡ n → ps ≡ qs → Strays m ps → Strays n qs
strays_are m n ps qs e f s = subst (λ l. Strays n l) f (subst (λ c. Strays c ps) e s)

pub resolved_parts : (os : Outline) (b : Bodies) (m : Tree) (ps : List Tree) (ss : List (List ℕ)) (rs : List RuleDecl) → AreBodies os b → b.main ≡ Some m → ps ≡ b.procedures.items → ss ≡ b.sets.items → rs ≡ rules_in os
    → IsResolved os (record { main = m; procedures = ps; sets = ss; rules = rs })
resolved_parts os b m ps ss rs a main procedures sets rules = record {
  main = (let e : Some (command_of m) ≡ Some (main_of (resolved_bodies os)) = sym (ap (option_map command_of) main) ∙ a.main in cc);
  procedures = ap (map command_of) procedures ∙ a.procedures;
  sets = sets ∙ a.sets;
  rules = rules;
}
