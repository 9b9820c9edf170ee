-- A rule is read again where its parts are.
use Rattle.std.proofs.Common.{◌≡◌, ℕ, List, [], ◌∷◌, ◌++◌, append_assoc, Option, Some, None, refl, sym, ap, subst, ◌∙◌}
use Rattle.std.specs.Option.{option_or}
use Rattle.std.specs.List.{AllByRecursion}
use Rattle.gp_tokens.specs.declared.keyword.Keyword.TheVariants as words
use Rattle.gp_tokens.specs.declared.token.Kind.TheVariants as k
use Rattle.gp_tokens.specs.declared.token.Token.{Token}
use Rattle.gp_tokens.specs.Kinds.{same_kind}
use Rattle.gp_values.specs.Names.{Name}
use Rattle.gp_tokens.specs.declared.want.Want.TheVariants as wants
use Rattle.gp_tokens.specs.Wants.{meets}
use Rattle.gp_tokens.specs.Grammar.{shape_of}
use Rattle.gp_tokens.specs.Shape.{Is, ◌then◌}
use Rattle.gp_tokens.specs.SignWants.{open_sign, close_sign, open_brace, close_brace, equal, arrow}
use Rattle.gp_syntax.specs.declared.tree.VariableGroup.{VariableGroup}
use Rattle.gp_syntax.specs.declared.tree.GraphDecl.{GraphDecl}
use Rattle.gp_syntax.specs.declared.tree.RuleDecl.{RuleDecl}
use Rattle.gp_expressions.specs.declared.ranged.Ranged.{Ranged}
use Rattle.gp_expressions.specs.Ranges.{whole, with}
use Rattle.gp_expressions.specs.Signs.{where_word, interface_word}
use Rattle.gp_expressions.specs.Expressions.{list}
use Rattle.gp_expressions.specs.Conditions.{CondTree, condition}
use Rattle.gp_program.specs.Rules.{graph, interface, where_of, where_part, rule_of, rule_with, rule}
use Rattle.gp_fmt.specs.declared.piece.Piece.{Piece}
use Rattle.gp_fmt.specs.declared.piece.Piece.TheVariants as p
use Rattle.gp_fmt.specs.Expressions.{in_parentheses, part_of_condition}
use Rattle.gp_fmt.specs.Expressions as expressions
use Rattle.gp_fmt.specs.Commands.{names, in_braces}
use Rattle.gp_fmt.specs.Rules as printed
use Rattle.gp_fmt.proofs.Parse.Printed.{Reads, Takes, some, made_into, one_reads, other_reads, absent_reads, then_takes, behind_takes}
use Rattle.gp_fmt.proofs.Parse.Names.{IsNamed, name_reads}
use Rattle.gp_fmt.proofs.Parse.Rooms.{Roomy, anywhere, becomes, together, of_lists, in_both}
use Rattle.gp_fmt.proofs.Parse.Spelling.{AreWell, well_append, open_well, close_well, arrow_well, equal_well, open_brace_well, close_brace_well}
use Rattle.gp_fmt.proofs.Parse.Lists.{names_well}
use Rattle.gp_fmt.proofs.Parse.ConditionParts.{IsGoodCondition, as_condition}
use Rattle.gp_fmt.proofs.Parse.RuleParts.{IsGoodGroup, variables_read, variables_well, interface_reads, IsGoodGraph, good_graph, graph_well}

-- ---- conditions of rules

abbrev pub IsGoodWhere : Option CondTree → Type 0
IsGoodWhere None = Unit {0}
IsGoodWhere (Some d) = IsGoodCondition d

where_missing : (m n : ℕ) → Reads [] (shape_of (where_part (condition m n))) (whole None)
unfolding where_part
where_missing m n = other_reads _ _ _ _ (absent_reads (whole None))

where_written : (m n : ℕ) (d : CondTree) → Reads (expressions.condition d) (shape_of (condition m n)) (whole d) → Reads (p.Word words.Where ∷ expressions.condition d) (shape_of (where_part (condition m n))) (whole (Some d))
unfolding where_part meets same_kind
where_written m n d r =
    one_reads _ _ _ _ (made_into _ where_of _ (λ (x : Token × Ranged CondTree). x.1 ≡ whole d) (whole (Some d)) (λ x j. ap (λ (r : Ranged CondTree). with Some r) j)
    (behind_takes (p.Word words.Where) (expressions.condition d) where_word _ (λ x. x ≡ whole d) (λ start. refl) (some _ _ (whole d) r)))

where_reads : (o : Option CondTree) → IsGoodWhere o → Roomy (λ m n. Reads (printed.where_part o) (shape_of (where_part (condition m n))) (whole o))
where_reads None h = anywhere _ (λ m n. where_missing m n)
where_reads (Some d) h = becomes (λ m n. Reads (expressions.condition d) (shape_of (condition m n)) (whole d)) _ (λ m n r. where_written m n d r) (as_condition (part_of_condition d) d h)

where_well : (o : Option CondTree) → IsGoodWhere o → AreWell (printed.where_part o)
where_well None h = tt
where_well (Some d) h = (tt, h.well)

-- ---- rules

pub record IsGoodRule (r : RuleDecl) : Type 0 where
  pub name : IsNamed wants.RuleName r.name
  pub variables : AllByRecursion IsGoodGroup r.variables
  pub left : IsGoodGraph r.left
  pub right : IsGoodGraph r.right
  pub interface : AllByRecursion (IsNamed wants.Item) r.interface
  pub condition : IsGoodWhere r.condition

-- what stands behind, from the interface on, from the right side on, from the left side on, and from the variables on
abbrev pub FromInterface : Type 0
FromInterface = List Name × (Token × Ranged (Option CondTree))

abbrev pub FromRight : Type 0
FromRight = Ranged GraphDecl × (Token × (Token × (Token × FromInterface)))

abbrev pub FromLeft : Type 0
FromLeft = Ranged GraphDecl × (Token × FromRight)

abbrev pub FromVariables : Type 0
FromVariables = List VariableGroup × (Token × FromLeft)

module _ (r : RuleDecl) where
  abbrev IsInterface : FromInterface → Type 0
  IsInterface x = (x.0 ≡ r.interface) × (x.1.1 ≡ whole r.condition)

  abbrev IsRight : FromRight → Type 0
  IsRight x = (x.0 ≡ whole r.right) × IsInterface x.1.1.1.1

  abbrev IsLeft : FromLeft → Type 0
  IsLeft x = (x.0 ≡ whole r.left) × IsRight x.1.1

  abbrev AreVariables : FromVariables → Type 0
  AreVariables x = (x.0 ≡ r.variables) × IsLeft x.1.1

  abbrev from_interface : List Piece
  from_interface = names r.interface ++ (p.Sign k.CloseBrace ∷ printed.where_part r.condition)

  abbrev from_right : List Piece
  from_right = printed.graph r.right ++ (p.Word words.Interface ∷ p.Sign k.Equal ∷ p.Sign k.OpenBrace ∷ from_interface)

  abbrev from_left : List Piece
  from_left = printed.graph r.left ++ (p.Sign k.Arrow ∷ from_right)

  abbrev from_variables : List Piece
  from_variables = printed.variables r.variables ++ (p.Sign k.CloseParenthesis ∷ from_left)

  abbrev rule_pieces : List Piece
  rule_pieces = p.Name r.name ∷ p.Sign k.OpenParenthesis ∷ from_variables

to_the_right : (a b c d e f : List Piece) → a ++ b ++ c ++ d ++ e ++ f ≡ a ++ (b ++ (c ++ (d ++ (e ++ f))))
to_the_right a b c d e f = simp append_assoc

regroup : (n : Piece) (v l r s w : List Piece)
    → (n ∷ p.Sign k.OpenParenthesis ∷ (v ++ (p.Sign k.CloseParenthesis ∷ (l ++ (p.Sign k.Arrow ∷ (r ++ (p.Word words.Interface ∷ p.Sign k.Equal ∷ p.Sign k.OpenBrace ∷ (s ++ (p.Sign k.CloseBrace ∷ w)))))))))
    ≡ (n ∷ in_parentheses v ++ l ++ p.Sign k.Arrow ∷ r ++ p.Word words.Interface ∷ p.Sign k.Equal ∷ in_braces s ++ w)
regroup n v l r s w =
    ap (λ (t : List Piece). n ∷ p.Sign k.OpenParenthesis ∷ t)
    (ap (λ (t : List Piece). v ++ (p.Sign k.CloseParenthesis ∷ (l ++ (p.Sign k.Arrow ∷ (r ++ (p.Word words.Interface ∷ p.Sign k.Equal ∷ p.Sign k.OpenBrace ∷ t)))))) (sym (append_assoc s (p.Sign k.CloseBrace ∷ []) w))
    ∙ sym (to_the_right v (p.Sign k.CloseParenthesis ∷ []) l (p.Sign k.Arrow ∷ r) (p.Word words.Interface ∷ p.Sign k.Equal ∷ in_braces s) w))

rule_is : (r : RuleDecl) → rule_pieces r ≡ printed.rule r
rule_is r = regroup (p.Name r.name) (printed.variables r.variables) (printed.graph r.left) (printed.graph r.right) (names r.interface) (printed.where_part r.condition)

module _ (m : ℕ) (r : RuleDecl) (h : IsGoodRule r) (left : Reads (printed.graph r.left) (shape_of (graph (list m))) (whole r.left)) (right : Reads (printed.graph r.right) (shape_of (graph (list m))) (whole r.right))
    (behind : Reads (printed.where_part r.condition) (shape_of (where_part (condition m m))) (whole r.condition)) where
  interface_takes : Takes (from_interface r) (shape_of interface then (Is close_brace then shape_of (where_part (condition m m)))) (IsInterface r)
  unfolding meets same_kind
  interface_takes =
      then_takes (names r.interface) (p.Sign k.CloseBrace ∷ printed.where_part r.condition) _ _ (λ x. x ≡ r.interface) (λ (x : Token × Ranged (Option CondTree)). x.1 ≡ whole r.condition) (some _ _ r.interface (interface_reads r.interface h.interface))
      (behind_takes (p.Sign k.CloseBrace) (printed.where_part r.condition) close_brace _ (λ x. x ≡ whole r.condition) (λ start. refl) (some _ _ (whole r.condition) behind))

  right_takes : Takes (from_right r) (shape_of (graph (list m)) then (Is interface_word then (Is equal then (Is open_brace then (shape_of interface then (Is close_brace then shape_of (where_part (condition m m)))))))) (IsRight r)
  unfolding meets same_kind
  right_takes =
      then_takes (printed.graph r.right) (p.Word words.Interface ∷ p.Sign k.Equal ∷ p.Sign k.OpenBrace ∷ from_interface r) _ _ (λ x. x ≡ whole r.right) (λ (x : Token × (Token × (Token × FromInterface))). IsInterface r x.1.1.1) (some _ _ (whole r.right) right)
      (behind_takes (p.Word words.Interface) (p.Sign k.Equal ∷ p.Sign k.OpenBrace ∷ from_interface r) interface_word _ (λ (x : Token × (Token × FromInterface)). IsInterface r x.1.1) (λ start. refl)
      (behind_takes (p.Sign k.Equal) (p.Sign k.OpenBrace ∷ from_interface r) equal _ (λ (x : Token × FromInterface). IsInterface r x.1) (λ start. refl)
      (behind_takes (p.Sign k.OpenBrace) (from_interface r) open_brace _ (IsInterface r) (λ start. refl) interface_takes)))

  rule_reads : Reads (rule_pieces r) (shape_of (rule m)) (whole r)
  unfolding rule_with meets same_kind
  rule_reads =
      made_into _ rule_of _ (λ (x : Name × (Token × FromVariables)). (x.0 ≡ r.name) × AreVariables r x.1.1) (whole r)
      (λ x j i. record {
        tree = record { name = j.0 i; variables = j.1.0 i; left = (j.1.1.0 i).tree; right = (j.1.1.1.0 i).tree; interface = j.1.1.1.1.0 i; condition = (j.1.1.1.1.1 i).tree };
        past = option_or (j.1.1.0 i).past (option_or (j.1.1.1.0 i).past (j.1.1.1.1.1 i).past);
      })
      (then_takes (p.Name r.name ∷ []) (p.Sign k.OpenParenthesis ∷ from_variables r) _ _ (λ x. x ≡ r.name) (λ (x : Token × FromVariables). AreVariables r x.1) (some _ _ r.name (name_reads wants.RuleName r.name h.name))
      (behind_takes (p.Sign k.OpenParenthesis) (from_variables r) open_sign _ (AreVariables r) (λ start. refl)
      (then_takes (printed.variables r.variables) (p.Sign k.CloseParenthesis ∷ from_left r) _ _ (λ x. x ≡ r.variables) (λ (x : Token × FromLeft). IsLeft r x.1) (some _ _ r.variables (variables_read r.variables h.variables))
      (behind_takes (p.Sign k.CloseParenthesis) (from_left r) close_sign _ (IsLeft r) (λ start. refl)
      (then_takes (printed.graph r.left) (p.Sign k.Arrow ∷ from_right r) _ _ (λ x. x ≡ whole r.left) (λ (x : Token × FromRight). IsRight r x.1) (some _ _ (whole r.left) left)
      (behind_takes (p.Sign k.Arrow) (from_right r) arrow _ (IsRight r) (λ start. refl) right_takes))))))

pub good_rule : (r : RuleDecl) → IsGoodRule r → Roomy (λ m n. Reads (printed.rule r) (shape_of (rule m)) (whole r))
good_rule r h =
    becomes (λ m n. Reads (printed.graph r.left) (shape_of (graph (list m))) (whole r.left) × (Reads (printed.graph r.right) (shape_of (graph (list m))) (whole r.right) × Reads (printed.where_part r.condition) (shape_of (where_part (condition m m))) (whole r.condition)))
    (λ m n. Reads (printed.rule r) (shape_of (rule m)) (whole r))
    (λ m n j. subst (λ (ps : List Piece). Reads ps (shape_of (rule m)) (whole r)) (rule_is r) (rule_reads m r h j.0 j.1.0 j.1.1))
    (together (λ m n. Reads (printed.graph r.left) (shape_of (graph (list m))) (whole r.left)) _ (of_lists (λ m. Reads (printed.graph r.left) (shape_of (graph (list m))) (whole r.left)) (good_graph r.left h.left))
    (together (λ m n. Reads (printed.graph r.right) (shape_of (graph (list m))) (whole r.right)) (λ m n. Reads (printed.where_part r.condition) (shape_of (where_part (condition m m))) (whole r.condition))
    (of_lists (λ m. Reads (printed.graph r.right) (shape_of (graph (list m))) (whole r.right)) (good_graph r.right h.right))
    (in_both (λ m n. Reads (printed.where_part r.condition) (shape_of (where_part (condition m n))) (whole r.condition)) (where_reads r.condition h.condition))))

pub rule_well : (r : RuleDecl) → IsGoodRule r → AreWell (printed.rule r)
rule_well r h =
    let behind : AreWell (from_interface r) = well_append (names r.interface) (p.Sign k.CloseBrace ∷ printed.where_part r.condition) (names_well wants.Item r.interface h.interface) (close_brace_well, where_well r.condition h.condition) in
    let right : AreWell (from_right r) = well_append (printed.graph r.right) (p.Word words.Interface ∷ p.Sign k.Equal ∷ p.Sign k.OpenBrace ∷ from_interface r) (graph_well r.right h.right) (tt, (equal_well, (open_brace_well, behind))) in
    let left : AreWell (from_left r) = well_append (printed.graph r.left) (p.Sign k.Arrow ∷ from_right r) (graph_well r.left h.left) (arrow_well, right) in
    let all : AreWell (from_variables r) = well_append (printed.variables r.variables) (p.Sign k.CloseParenthesis ∷ from_left r) (variables_well r.variables h.variables) (close_well, left) in
    subst AreWell (rule_is r) (h.name.word, (open_well, all))
