-- A tree at some room is a tree at each room that is no less than the number of tokens.
use Rattle.std.proofs.Common.{◌≡◌, ℕ, zero, suc, ◌<◌, ◌≤◌, false, List, [], length, refl, arith}
use Rattle.gp_tokens.specs.declared.token.Token.{Token}
use Rattle.gp_tokens.specs.declared.want.Want.{Want}
use Rattle.gp_tokens.specs.declared.want.Want.TheVariants as wants
use Rattle.gp_tokens.specs.Grammar.{Grammar, One, Made, ◌followed_by◌, shape_of}
use Rattle.gp_tokens.specs.Fits.{nullable}
use Rattle.gp_tokens.specs.GrammarLaws.{Keeps}
use Rattle.gp_tokens.specs.Shape.{Shape, Is, ◌then◌, one, other, none, more, list_of, second_of}
use Rattle.gp_tokens.specs.Shape as s
use Rattle.gp_tokens.specs.SignWants.{open_sign, close_sign, open_bracket, open_brace, comma, colon, semicolon, dot, plus, minus, star, slash, bar, arrow, equal, root_word}
use Rattle.gp_tokens.proofs.Complete.{keeps, shrinks}
use Rattle.gp_tokens.proofs.Shapes.{token_shrinks}
use Rattle.gp_syntax.specs.declared.kinds.VariableType.{VariableType}
use Rattle.gp_syntax.specs.declared.kinds.VariableType.TheVariants as types
use Rattle.gp_syntax.specs.declared.expression.SumSign.TheVariants as sums
use Rattle.gp_syntax.specs.declared.expression.ProductSign.TheVariants as products
use Rattle.gp_syntax.specs.declared.tree.Decl.{Decl}
use Rattle.gp_syntax.specs.declared.tree.CommandTree.{CommandTree}
use Rattle.gp_expressions.specs.declared.ranged.Ranged.{Ranged}
use Rattle.gp_expressions.specs.Signs.{not_word, and_word, or_word, edge_word, then_word}
use Rattle.gp_expressions.specs.Expressions.{Tree, signed_by, behind, unary, quotients, product, differences, sum, dots, joins, name, nested, operand, list}
use Rattle.gp_expressions.specs.Conditions.{CondTree, label, comparison, typed, edge_label, edge_test, comparing, plain_test, conjunction, disjunction, in_parentheses, negated_in, negation, condition}
use Rattle.gp_expressions.proofs.ListLaws.{never_empty}
use Rattle.gp_expressions.proofs.ConditionLaws.{negation_full}
use Rattle.gp_program.specs.Rules.{position, flag, node, edge, nodes, edges, body, barred, graph, variables, interface, where_part, rule_with, rule}
use Rattle.gp_program.specs.Commands.{repeatable, simple_in, block, part, command, sequence, simple, commands_of}
use Rattle.gp_program.specs.Programs.{rule_decl, rules, locals, procedure, procedure_group, declarations_in, declarations, program}
use Rattle.gp_program.specs.Laws.{ProgramsHaveRoom}
use Rattle.gp_program.proofs.CommandLaws.{simple_full}

-- of so many tokens at most
abbrev Within : {A : Type 0} → ℕ → Shape A → Shape A → Type 0
Within {A} k R S = (ts rest : List Token) (x : A) → length ts ≤ k → R ts rest x → S ts rest x

same : {A : Type 0} (k : ℕ) (R : Shape A) → Within k R R
same k R ts rest x le h = h

fewer : {A : Type 0} (j k : ℕ) (R S : Shape A) → j ≤ k → Within k R S → Within j R S
fewer j k R S less p ts rest x le h = p ts rest x (omega arith) h

then_within : {A B : Type 0} (k : ℕ) (R R' : Shape A) (S S' : Shape B) → Keeps R → Within k R R' → Within k S S' → Within k (R then S) (R' then S')
then_within k R R' S S' keep p q ts rest x le h =
    let n : length h.mid ≤ length ts = keep ts h.mid x.0 h.first in
    record { mid = h.mid; first = p ts h.mid x.0 le h.first; second = q h.mid rest x.1 (omega arith) h.second }

-- behind a token that is the same
skip : {B : Type 0} (k : ℕ) (w : Want) (S S' : Shape B) → Within k S S' → Within k (Is w then S) (Is w then S')
skip k w S S' q = then_within k (Is w) (Is w) S S' (keeps (One w)) (same k (Is w)) q

-- behind a token there is one less
behind_within : {B : Type 0} (k : ℕ) (w : Want) (S S' : Shape B) → Within k S S' → Within (suc k) (Is w then S) (Is w then S')
behind_within k w S S' q ts rest x le h =
    let n : length h.mid < length ts = token_shrinks w ts h.mid x.0 h.first in
    record { mid = h.mid; first = h.first; second = q h.mid rest x.1 (omega arith) h.second }

made_within : {A B : Type 0} (k : ℕ) (f : A → B) (R R' : Shape A) → Within k R R' → Within k (s.Made f R) (s.Made f R')
made_within k f R R' p ts rest y le h = record { of = h.of; shape = p ts rest h.of le h.shape; made = h.made }

either_within : {A : Type 0} (k : ℕ) (R R' S S' : Shape A) → Within k R R' → Within k S S' → Within k (s.Either R S) (s.Either R' S')
either_within k R R' S S' p q ts rest x le (one h) = one (p ts rest x le h)
either_within k R R' S S' p q ts rest x le (other h) = other (q ts rest x le h)

many_within : {A : Type 0} (k : ℕ) (R R' : Shape A) → Keeps R → Within k R R' → Within k (s.Many R) (s.Many R')
many_within k R R' keep p ts _ _ le none = none
many_within k R R' keep p ts rest _ le (more {mid = mid} {x = x} {xs = xs} h hs) =
    let n : length mid ≤ length ts = keep ts mid x h in
    more (p ts mid x le h) (many_within k R R' keep p mid rest xs (omega arith) hs)

separated_within : {A : Type 0} (k : ℕ) (sign : Want) (g h : Grammar A) → Within k (shape_of g) (shape_of h) → Within k (s.Separated sign (shape_of g)) (s.Separated sign (shape_of h))
separated_within k sign g h p =
    made_within k list_of _ _ (then_within k _ _ _ _ (keeps g) p (many_within k _ _ (keeps (Made second_of (One sign followed_by g))) (made_within k second_of _ _ (skip k sign _ _ p))))

-- ---- expressions

module _ (k : ℕ) (g h : Grammar (Ranged Tree)) (p : Within k (shape_of g) (shape_of h)) where
  unary_within : Within k (shape_of (unary g)) (shape_of (unary h))
  unfolding unary
  unary_within = either_within k _ _ _ _ (same k _) p

  quotients_within : Within k (shape_of (quotients g)) (shape_of (quotients h))
  unfolding quotients
  quotients_within = made_within k _ _ _ (separated_within k slash (Made (signed_by products.Over) (unary g)) (Made (signed_by products.Over) (unary h)) (made_within k _ _ _ unary_within))

  product_within : Within k (shape_of (product g)) (shape_of (product h))
  unfolding product
  product_within = made_within k _ _ _ (separated_within k star (quotients g) (quotients h) quotients_within)

  differences_within : Within k (shape_of (differences g)) (shape_of (differences h))
  unfolding differences
  differences_within = made_within k _ _ _ (separated_within k minus (Made (signed_by sums.Minus) (product g)) (Made (signed_by sums.Minus) (product h)) (made_within k _ _ _ product_within))

  sum_within : Within k (shape_of (sum g)) (shape_of (sum h))
  unfolding sum
  sum_within = made_within k _ _ _ (separated_within k plus (differences g) (differences h) differences_within)

  dots_within : Within k (shape_of (dots g)) (shape_of (dots h))
  unfolding dots
  dots_within = made_within k _ _ _ (separated_within k dot (sum g) (sum h) sum_within)

  joins_within : Within k (shape_of (joins g)) (shape_of (joins h))
  unfolding joins
  joins_within = made_within k _ _ _ (separated_within k colon (dots g) (dots h) dots_within)

nested_within : (k : ℕ) (g h : Grammar (Ranged Tree)) → Within k (shape_of g) (shape_of h) → Within (suc k) (shape_of (nested g)) (shape_of (nested h))
unfolding nested
nested_within k g h p =
    either_within (suc k) _ _ _ _ (made_within (suc k) _ _ _ (behind_within k minus _ _ (either_within k _ _ _ _ (same k _) (made_within k _ _ _ p))))
    (either_within (suc k) _ _ _ _ (made_within (suc k) _ _ _ (behind_within k open_sign _ _ (then_within k _ _ _ _ (keeps (joins g)) (joins_within k g h p) (same k _)))) (same (suc k) _))

-- no tokens at all are none
nothing : {A : Type 0} (g : Grammar A) → nullable g ≡ false → (S : Shape A) → Within 0 (shape_of g) S
nothing g e S ts rest x le h = let n : length rest < length ts = shrinks g e ts rest x h in absurd (omega arith)

operand_within : (m n : ℕ) → Within m (shape_of (operand n)) (shape_of (operand m))
unfolding operand
operand_within zero n = nothing (operand n) (never_empty n) (shape_of (operand zero))
operand_within (suc m) zero = λ ts rest x le h. absurd h
operand_within (suc m) (suc n) = nested_within m (operand n) (operand m) (operand_within m n)

list_within : (m n : ℕ) → Within m (shape_of (list n)) (shape_of (list m))
list_within m n = joins_within m (operand n) (operand m) (operand_within m n)

-- ---- labels and tests

module _ (k : ℕ) (l m : Grammar (Ranged Tree)) (p : Within k (shape_of l) (shape_of m)) where
  label_within : Within k (shape_of (label l)) (shape_of (label m))
  unfolding label
  label_within = then_within k _ _ _ _ (keeps l) p (same k _)

  typed_within : (type : VariableType) → Within k (shape_of (typed l type)) (shape_of (typed m type))
  unfolding typed
  typed_within type = made_within k _ _ _ (skip k open_sign _ _ (then_within k _ _ _ _ (keeps l) p (same k _)))

  edge_label_within : Within k (shape_of (edge_label l)) (shape_of (edge_label m))
  unfolding edge_label
  edge_label_within = either_within k _ _ _ _ (made_within k _ _ _ (made_within k _ _ _ (skip k comma _ _ label_within))) (same k _)

  edge_test_within : Within k (shape_of (edge_test l)) (shape_of (edge_test m))
  unfolding edge_test
  edge_test_within =
      made_within k _ _ _ (skip k edge_word _ _ (skip k open_sign _ _ (then_within k _ _ _ _ (keeps (name wants.Item)) (same k _)
      (skip k comma _ _ (then_within k _ _ _ _ (keeps (name wants.Item)) (same k _) (then_within k _ _ _ _ (keeps (edge_label l)) edge_label_within (same k _)))))))

  comparing_within : Within k (shape_of (comparing l)) (shape_of (comparing m))
  unfolding comparing
  comparing_within = made_within k _ _ _ (then_within k _ _ _ _ (keeps l) p (then_within k _ _ _ _ (keeps comparison) (same k _) p))

  test_within : Within k (shape_of (plain_test l)) (shape_of (plain_test m))
  unfolding plain_test
  test_within =
      either_within k _ _ _ _ (made_within k _ _ _ (skip k _ _ _ (typed_within types.Int)))
      (either_within k _ _ _ _ (made_within k _ _ _ (skip k _ _ _ (typed_within types.Char)))
      (either_within k _ _ _ _ (made_within k _ _ _ (skip k _ _ _ (typed_within types.String)))
      (either_within k _ _ _ _ (made_within k _ _ _ (skip k _ _ _ (typed_within types.Atom)))
      (either_within k _ _ _ _ edge_test_within comparing_within))))

-- ---- conditions

disjunction_within : (k : ℕ) (g h : Grammar (Ranged CondTree)) → Within k (shape_of g) (shape_of h) → Within k (shape_of (disjunction g)) (shape_of (disjunction h))
unfolding conjunction disjunction
disjunction_within k g h p = made_within k _ _ _ (separated_within k or_word (conjunction g) (conjunction h) (made_within k _ _ _ (separated_within k and_word g h p)))

negated_within : (k : ℕ) (l m : Grammar (Ranged Tree)) → Within (suc k) (shape_of l) (shape_of m) → (g h : Grammar (Ranged CondTree)) → Within k (shape_of g) (shape_of h)
    → Within (suc k) (shape_of (negated_in l g)) (shape_of (negated_in m h))
unfolding negated_in in_parentheses
negated_within k l m p g h q =
    either_within (suc k) _ _ _ _ (made_within (suc k) _ _ _ (behind_within k not_word _ _ q))
    (either_within (suc k) _ _ _ _ (made_within (suc k) _ _ _ (behind_within k open_sign _ _ (then_within k _ _ _ _ (keeps (disjunction g)) (disjunction_within k g h q) (same k _)))) (test_within (suc k) l m p))

negation_within : (a b m n : ℕ) → m ≤ b → Within m (shape_of (negation (list a) n)) (shape_of (negation (list b) m))
unfolding negation
negation_within a b zero n le = nothing (negation (list a) n) (negation_full a n) (shape_of (negation (list b) zero))
negation_within a b (suc m) zero le = λ ts rest x l h. absurd h
negation_within a b (suc m) (suc n) le =
    let less : m ≤ b = omega arith in
    negated_within m (list a) (list b) (fewer (suc m) b _ _ le (list_within b a)) (negation (list a) n) (negation (list b) m) (negation_within a b m n less)

condition_within : (b a : ℕ) → Within b (shape_of (condition a a)) (shape_of (condition b b))
condition_within b a = let le : b ≤ b = omega arith in disjunction_within b (negation (list a) a) (negation (list b) b) (negation_within a b b a le)

-- ---- rules

module _ (k : ℕ) (l m : Grammar (Ranged Tree)) (p : Within k (shape_of l) (shape_of m)) where
  node_within : Within k (shape_of (node l)) (shape_of (node m))
  unfolding node
  node_within =
      made_within k _ _ _ (skip k open_sign _ _ (then_within k _ _ _ _ (keeps (name wants.Item)) (same k _) (then_within k _ _ _ _ (keeps (flag root_word)) (same k _)
      (skip k comma _ _ (then_within k _ _ _ _ (keeps (label l)) (label_within k l m p) (same k _))))))

  edge_within : Within k (shape_of (edge l)) (shape_of (edge m))
  unfolding edge
  edge_within =
      made_within k _ _ _ (skip k open_sign _ _ (then_within k _ _ _ _ (keeps (name wants.Item)) (same k _) (then_within k _ _ _ _ (keeps (flag _)) (same k _)
      (skip k comma _ _ (then_within k _ _ _ _ (keeps (name wants.Item)) (same k _) (skip k comma _ _ (then_within k _ _ _ _ (keeps (name wants.Item)) (same k _)
      (skip k comma _ _ (then_within k _ _ _ _ (keeps (label l)) (label_within k l m p) (same k _))))))))))

  nodes_within : Within k (shape_of (nodes l)) (shape_of (nodes m))
  unfolding nodes
  nodes_within = made_within k _ _ _ (many_within k _ _ (keeps (node l)) node_within)

  edges_within : Within k (shape_of (edges l)) (shape_of (edges m))
  unfolding edges
  edges_within = made_within k _ _ _ (many_within k _ _ (keeps (edge l)) edge_within)

  body_within : Within k (shape_of (body l)) (shape_of (body m))
  unfolding body
  body_within = made_within k _ _ _ (then_within k _ _ _ _ (keeps (nodes l)) nodes_within (skip k bar _ _ (then_within k _ _ _ _ (keeps (edges l)) edges_within (same k _))))

  barred_within : Within k (shape_of (barred l)) (shape_of (barred m))
  unfolding barred
  barred_within = either_within k _ _ _ _ (made_within k _ _ _ (skip k bar _ _ body_within)) body_within

  graph_within : Within k (shape_of (graph l)) (shape_of (graph m))
  unfolding graph
  graph_within = made_within k _ _ _ (skip k open_bracket _ _ (either_within k _ _ _ _ (made_within k _ _ _ (then_within k _ _ _ _ (keeps position) (same k _) barred_within)) body_within))

rule_within : (k : ℕ) (l m : Grammar (Ranged Tree)) → Within k (shape_of l) (shape_of m) → (c d : Grammar (Ranged CondTree)) → Within k (shape_of c) (shape_of d)
    → Within k (shape_of (rule_with l c)) (shape_of (rule_with m d))
unfolding where_part rule_with
rule_within k l m p c d q =
    made_within k _ _ _ (then_within k _ _ _ _ (keeps (name wants.RuleName)) (same k _) (skip k open_sign _ _ (then_within k _ _ _ _ (keeps variables) (same k _) (skip k close_sign _ _
    (then_within k _ _ _ _ (keeps (graph l)) (graph_within k l m p) (skip k arrow _ _ (then_within k _ _ _ _ (keeps (graph l)) (graph_within k l m p)
    (skip k _ _ _ (skip k equal _ _ (skip k open_brace _ _ (then_within k _ _ _ _ (keeps interface) (same k _) (skip k _ _ _
    (either_within k _ _ _ _ (made_within k _ _ _ (skip k _ _ _ q)) (same k _))))))))))))))

one_rule_within : (b a : ℕ) → Within b (shape_of (rule a)) (shape_of (rule b))
one_rule_within b a = rule_within b (list a) (list b) (list_within b a) (condition a a) (condition b b) (condition_within b a)

-- ---- commands

module _ (k : ℕ) (g h : Grammar CommandTree) (p : Within k (shape_of g) (shape_of h)) where
  block_within : Within k (shape_of (block g)) (shape_of (block h))
  unfolding block
  block_within = made_within k _ _ _ (separated_within k or_word g h p)

  part_within : (w : Want) → Within k (shape_of (part g w)) (shape_of (part h w))
  unfolding part
  part_within w = either_within k _ _ _ _ (made_within k _ _ _ (skip k w _ _ block_within)) (same k _)

  command_within : Within k (shape_of (command g)) (shape_of (command h))
  unfolding command
  command_within =
      either_within k _ _ _ _ (made_within k _ _ _ (skip k _ _ _ (then_within k _ _ _ _ (keeps (block g)) block_within
      (then_within k _ _ _ _ (keeps (behind then_word (block g))) (made_within k _ _ _ (skip k _ _ _ block_within)) (part_within _)))))
      (either_within k _ _ _ _ (made_within k _ _ _ (skip k _ _ _ (then_within k _ _ _ _ (keeps (block g)) block_within
      (then_within k _ _ _ _ (keeps (part g then_word)) (part_within then_word) (part_within _))))) block_within)

  sequence_within : Within k (shape_of (sequence g)) (shape_of (sequence h))
  unfolding sequence
  sequence_within = made_within k _ _ _ (separated_within k semicolon (command g) (command h) command_within)

simple_in_within : (k : ℕ) (g h : Grammar CommandTree) → Within k (shape_of g) (shape_of h) → Within (suc k) (shape_of (simple_in g)) (shape_of (simple_in h))
unfolding repeatable simple_in
simple_in_within k g h p =
    either_within (suc k) _ _ _ _ (same (suc k) _) (either_within (suc k) _ _ _ _ (same (suc k) _) (either_within (suc k) _ _ _ _ (same (suc k) _)
    (made_within (suc k) _ _ _ (then_within (suc k) _ _ _ _ (keeps (repeatable g)) (either_within (suc k) _ _ _ _ (made_within (suc k) _ _ _ (behind_within k open_sign _ _ (then_within k _ _ _ _ (keeps g) p (same k _)))) (same (suc k) _)) (same (suc k) _)))))

simple_within : (m n : ℕ) → Within m (shape_of (simple n)) (shape_of (simple m))
unfolding simple
simple_within zero n = nothing (simple n) (simple_full n) (shape_of (simple zero))
simple_within (suc m) zero = λ ts rest x le h. absurd h
simple_within (suc m) (suc n) = simple_in_within m (sequence (simple n)) (sequence (simple m)) (sequence_within m (simple n) (simple m) (simple_within m n))

commands_within : (m n : ℕ) → Within m (shape_of (commands_of n)) (shape_of (commands_of m))
commands_within m n = sequence_within m (simple n) (simple m) (simple_within m n)

-- ---- declarations

rules_within : (b a : ℕ) → Within b (shape_of (rules a)) (shape_of (rules b))
unfolding rules
rules_within b a = made_within b _ _ _ (many_within b _ _ (keeps (Made rule_decl (rule a))) (made_within b _ _ _ (one_rule_within b a)))

module _ (a b k : ℕ) (le : k ≤ b) (d e : Grammar (Ranged (List Decl))) (p : Within k (shape_of (locals d)) (shape_of (locals e))) where
  procedure_within : Within k (shape_of (procedure a d)) (shape_of (procedure b e))
  unfolding procedure
  procedure_within =
      made_within k _ _ _ (then_within k _ _ _ _ (keeps (name wants.ProcedureName)) (same k _) (skip k equal _ _ (then_within k _ _ _ _ (keeps (locals d)) p (fewer k b _ _ le (commands_within b a)))))

  group_within : Within k (shape_of (procedure_group a d)) (shape_of (procedure_group b e))
  unfolding procedure_group
  group_within = made_within k _ _ _ (then_within k _ _ _ _ (keeps (procedure a d)) procedure_within (fewer k b _ _ le (rules_within b a)))

  declarations_in_within : Within k (shape_of (declarations_in a d)) (shape_of (declarations_in b e))
  unfolding declarations_in
  declarations_in_within = made_within k _ _ _ (then_within k _ _ _ _ (keeps (rules a)) (fewer k b _ _ le (rules_within b a)) (many_within k _ _ (keeps (procedure_group a d)) group_within))

no_bracket : {A : Type 0} (S S' : Shape A) → Within 0 (Is open_bracket then S) (Is open_bracket then S')
no_bracket S S' ts rest x le h = let n : length h.mid < length ts = token_shrinks open_bracket ts h.mid x.0 h.first in absurd (omega arith)

locals_within : (a b k n : ℕ) → ((j : ℕ) → suc j ≡ k → Within j (shape_of (declarations a n)) (shape_of (declarations b (suc j)))) → Within k (shape_of (locals (declarations a n))) (shape_of (locals (declarations b k)))
unfolding locals
locals_within a b zero n p = either_within 0 _ _ _ _ (made_within 0 _ _ _ (no_bracket _ _)) (same 0 _)
locals_within a b (suc k) n p =
    either_within (suc k) _ _ _ _ (made_within (suc k) _ _ _ (behind_within k open_bracket _ _ (then_within k _ _ _ _ (keeps (declarations a n)) (p k refl) (same k _)))) (same (suc k) _)

declarations_within : (a b n k : ℕ) → k ≤ b → Within k (shape_of (declarations a n)) (shape_of (declarations b (suc k)))
unfolding declarations
declarations_within a b zero k le = λ ts rest x l h. absurd h
declarations_within a b (suc n) k le =
    declarations_in_within a b k le (declarations a n) (declarations b k) (locals_within a b k n (λ j e. declarations_within a b n j (omega arith)))

program_within : (b a : ℕ) → Within b (shape_of (program a)) (shape_of (program b))
unfolding program
program_within b a = let le : b ≤ b = omega arith in made_within b _ _ _ (declarations_in_within a b b le (declarations a a) (declarations b b) (locals_within a b b a (λ j e. declarations_within a b a j (omega arith))))

pub programs_have_room : ProgramsHaveRoom
programs_have_room room tokens x h = let le : length tokens ≤ length tokens = omega arith in program_within (length tokens) room tokens [] x le h
