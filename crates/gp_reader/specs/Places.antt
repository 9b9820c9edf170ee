-- Where the declarations of a text stand, and which of them a name means in a body. Here is no number.
use Rattle.std.specs.Prelude.{◌≡◌, ℕ, not, if◌then◌else◌, List, [], ◌∷◌, ◌++◌, map, filter, Option, Some, None, slice_get}
use Rattle.gp_values.specs.Names.{Name, same_name}
use Rattle.gp_syntax.specs.declared.tree.RuleDecl.{RuleDecl}
use Rattle.gp_scope.specs.declared.meaning.Meaning.{Meaning}
use Rattle.gp_scope.specs.declared.meaning.Meaning.TheVariants.{Rule, Procedure}
use Rattle.gp_syntax.specs.Run as meant
use Rattle.gp_scope.specs.Outline.{NamedCommand, Call, Named, Seq, If, Try, Loop, Or, Skip, Fail, Break, Outline, nothing, rule, procedure, is_main}

-- The place of a declaration: that of the first one of the text; the one behind a declaration, among the same
-- declarations; that of the first local declaration of a procedure.
pub data Place : Type 0 where
  front : Place
  behind : Place → Place
  within : Place → Place

-- The names of declarations among one another, the first of which stands at the place. Main cannot be called.
abbrev pub named_at : Place → Outline → List (Name × Place)
named_at at nothing = []
named_at at (rule d os) = (d.name, at) ∷ named_at (behind at) os
named_at at (procedure n local body os) = (if is_main n then [] else (n, at) ∷ []) ++ named_at (behind at) os

-- where the declaration stands that a name means: the first that has it
abbrev pub meant_by : List (Name × Place) → Name → Option Place
meant_by [] n = None
meant_by (x ∷ xs) n = if same_name n x.0 then Some x.1 else meant_by xs n

-- the rules, in text order
abbrev pub rules_at : Place → Outline → List (RuleDecl × Place)
rules_at at nothing = []
rules_at at (rule d os) = (d, at) ∷ rules_at (behind at) os
rules_at at (procedure n local body os) = rules_at (within at) local ++ rules_at (behind at) os

-- a procedure: where it is declared, what is visible in its body, the inner declarations first, and the body
pub record Placed : Type 0 where
  pub name : Name
  pub at : Place
  pub visible : List (Name × Place)
  pub command : NamedCommand

-- The procedures, Main among them, in the order in which their declarations begin. Visible in a body are the local
-- declarations, and what is visible around the procedure.
abbrev pub procedures_at : List (Name × Place) → Place → Outline → List Placed
procedures_at around at nothing = []
procedures_at around at (rule d os) = procedures_at around (behind at) os
procedures_at around at (procedure n local body os) =
    record { name = n; at = at; visible = named_at (within at) local ++ around; command = body }
    ∷ (procedures_at (named_at (within at) local ++ around) (within at) local ++ procedures_at around (behind at) os)

-- those of a text, and those that can be called
abbrev pub procedures_of : Outline → List Placed
procedures_of os = procedures_at (named_at front os) front os

abbrev pub callable : Outline → List Placed
callable os = filter (λ (v : Placed). not (is_main v.name)) (procedures_of os)

-- ---- numbers

abbrev pub IsRuleNumber : Outline → Place → ℕ → Type 0
IsRuleNumber os at r = slice_get (map (λ (x : RuleDecl × Place). x.1) (rules_at front os)) r ≡ Some at

abbrev pub IsProcedureNumber : Outline → Place → ℕ → Type 0
IsProcedureNumber os at p = slice_get (map (λ (v : Placed). v.at) (callable os)) p ≡ Some at

-- a meaning is the number of the declaration that stands at the place, among the rules or the procedures of the text
abbrev pub IsNumbered : Outline → Option Place → Option Meaning → Type 0
IsNumbered os None None = Unit {0}
IsNumbered os (Some at) (Some (Rule r)) = IsRuleNumber os at r
IsNumbered os (Some at) (Some (Procedure p)) = IsProcedureNumber os at p
IsNumbered os None (Some m) = ⊥
IsNumbered os (Some at) None = ⊥

-- each element of the one list is so to the element in the same place of the other
abbrev pub EachTo : {A B : Type 0} → (A → B → Type 0) → List A → List B → Type 0
EachTo R [] [] = Unit {0}
EachTo R (x ∷ xs) (y ∷ ys) = R x y × EachTo R xs ys
EachTo R [] (y ∷ ys) = ⊥
EachTo R (x ∷ xs) [] = ⊥

-- A command with numbers calls what the command of the text calls, where these declarations are visible: a set of the
-- rules that its names mean, by the number of the set; the procedure that a name means. All else is the same.
pub data CallsVisible (os : Outline) (sets : List (List ℕ)) (visible : List (Name × Place)) : NamedCommand → meant.Command → Type 0 where
  of_set : {names : List Name} {c : ℕ} {set : List ℕ} → slice_get sets c ≡ Some set → EachTo (λ n r. IsNumbered os (meant_by visible n) (Some (Rule r))) names set →
      CallsVisible os sets visible (Call names) (meant.Call c)
  of_procedure : {n : Name} {p : ℕ} → IsNumbered os (meant_by visible n) (Some (Procedure p)) → CallsVisible os sets visible (Named n) (meant.Procedure p)
  in_seq : {p q : NamedCommand} {x y : meant.Command} → CallsVisible os sets visible p x → CallsVisible os sets visible q y → CallsVisible os sets visible (Seq p q) (meant.Seq x y)
  in_if : {k p q : NamedCommand} {z x y : meant.Command} → CallsVisible os sets visible k z → CallsVisible os sets visible p x → CallsVisible os sets visible q y →
      CallsVisible os sets visible (If k p q) (meant.If z x y)
  in_try : {k p q : NamedCommand} {z x y : meant.Command} → CallsVisible os sets visible k z → CallsVisible os sets visible p x → CallsVisible os sets visible q y →
      CallsVisible os sets visible (Try k p q) (meant.Try z x y)
  in_loop : {p : NamedCommand} {x : meant.Command} → CallsVisible os sets visible p x → CallsVisible os sets visible (Loop p) (meant.Loop x)
  in_or : {p q : NamedCommand} {x y : meant.Command} → CallsVisible os sets visible p x → CallsVisible os sets visible q y → CallsVisible os sets visible (Or p q) (meant.Or x y)
  of_skip : CallsVisible os sets visible Skip meant.Skip
  of_fail : CallsVisible os sets visible Fail meant.Fail
  of_break : CallsVisible os sets visible Break meant.Break

-- The commands of a program are those of the text: its Main, and one procedure after the other, in the order in which
-- their declarations begin.
pub record CallsAsTextDoes (os : Outline) (program : meant.Program) : Type 0 where
  pub main : (v : Placed) → slice_get (filter (λ (v : Placed). is_main v.name) (procedures_of os)) 0 ≡ Some v → CallsVisible os program.sets v.visible v.command program.main
  pub procedures : EachTo (λ c (v : Placed). CallsVisible os program.sets v.visible v.command c) program.procedures (callable os)
