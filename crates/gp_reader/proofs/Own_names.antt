-- The names of procedures, counted off one declaration after another.
use Rattle.std.proofs.Common.{◌≡◌, ℕ, zero, suc, Bool, true, false, cond, List, [], ◌∷◌, ◌++◌, slice_get, Some, refl, ap, ◌∙◌, arith, append_assoc}
use Rattle.gp_values.specs.Names.{Name}
use Rattle.gp_syntax.specs.declared.tree.RuleDecl.{RuleDecl}
use Rattle.gp_syntax.specs.declared.tree.CommandTree.{CommandTree}
use Rattle.gp_syntax.specs.declared.tree.Decl.{Decl}
use Rattle.gp_syntax.specs.declared.tree.Decl.TheVariants as decl
use Rattle.gp_scope.specs.Outline.{Outline, outline, declared, is_main}
use Rattle.gp_scope.proofs.Outlines.{declared-Rule, declared-Procedure}
use Rattle.gp_reader.specs.inside.Named.{procedure_names}

pub rule_names : (d : Decl) (r : RuleDecl) (os : Outline) → d ≡ decl.Rule r → procedure_names (declared d os) ≡ procedure_names os
rule_names d r os e = ap (λ x. procedure_names (declared x os)) e ∙ ap procedure_names (declared-Rule r os)

first_of : (m : Bool) (n : Name) (xs : List Name) (k : ℕ) → m ≡ false → k ≡ 0 → slice_get ((cond m [] (n ∷ [])) ++ xs) k ≡ Some n
first_of true n xs k e z = cc
first_of false n xs zero e z = refl
first_of false n xs (suc k) e z = absurd (omega (arith, z))

rest_of : (m : Bool) (n : Name) (xs : List Name) (k j : ℕ) → m ≡ false → k ≡ suc j → slice_get ((cond m [] (n ∷ [])) ++ xs) k ≡ slice_get xs j
rest_of true n xs k j e z = cc
rest_of false n xs zero j e z = absurd (omega (arith, z))
rest_of false n xs (suc k) j e z = ap (slice_get xs) (omega (arith, z))

all_of : (m : Bool) (n : Name) (xs : List Name) (k : ℕ) → m ≡ true → slice_get ((cond m [] (n ∷ [])) ++ xs) k ≡ slice_get xs k
all_of true n xs k e = refl
all_of false n xs k e = cc

module _ (d : Decl) (n : Name) (ds : List Decl) (body : CommandTree) (is : d ≡ decl.Procedure n ds body) (os : Outline) (ns : List Name) where
  its_names : procedure_names (declared d os) ++ ns ≡ (cond (is_main n) [] (n ∷ [])) ++ (procedure_names (outline ds) ++ (procedure_names os ++ ns))
  its_names =
      ap (λ x. procedure_names (declared x os) ++ ns) is ∙ ap (λ x. procedure_names x ++ ns) (declared-Procedure n ds body os)
      ∙ append_assoc (cond (is_main n) [] (n ∷ [])) (procedure_names (outline ds) ++ procedure_names os) ns
      ∙ ap (λ l. (cond (is_main n) [] (n ∷ [])) ++ l) (append_assoc (procedure_names (outline ds)) (procedure_names os) ns)

  pub own_first : (k : ℕ) → is_main n ≡ false → k ≡ 0 → slice_get (procedure_names (declared d os) ++ ns) k ≡ Some n
  own_first k e z = ap (λ l. slice_get l k) its_names ∙ first_of (is_main n) n (procedure_names (outline ds) ++ (procedure_names os ++ ns)) k e z

  pub one_less : (k j : ℕ) → is_main n ≡ false → k ≡ suc j → slice_get (procedure_names (declared d os) ++ ns) k ≡ slice_get (procedure_names (outline ds) ++ (procedure_names os ++ ns)) j
  one_less k j e z = ap (λ l. slice_get l k) its_names ∙ rest_of (is_main n) n (procedure_names (outline ds) ++ (procedure_names os ++ ns)) k j e z

  pub as_many : (k : ℕ) → is_main n ≡ true → slice_get (procedure_names (declared d os) ++ ns) k ≡ slice_get (procedure_names (outline ds) ++ (procedure_names os ++ ns)) k
  as_many k e = ap (λ l. slice_get l k) its_names ∙ all_of (is_main n) n (procedure_names (outline ds) ++ (procedure_names os ++ ns)) k e
