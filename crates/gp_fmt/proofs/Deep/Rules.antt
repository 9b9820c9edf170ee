-- Rules, nested no deeper than their texts.
use Rattle.std.proofs.Common.{◌≡◌, ℕ, true, false, List, [], ◌∷◌, ◌++◌, map, Option, refl, sym, ◌∙◌, ap, append_assoc}
use Rattle.std.specs.Prelude.{flat_map}
use Rattle.gp_tokens.specs.declared.token.Token.{Token}
use Rattle.gp_tokens.specs.declared.token.Kind.{Kind}
use Rattle.gp_tokens.specs.declared.token.Kind.TheVariants as k
use Rattle.gp_tokens.specs.declared.keyword.Keyword.{Keyword}
use Rattle.gp_tokens.specs.declared.keyword.Keyword.TheVariants as words
use Rattle.gp_tokens.specs.declared.want.Want.{Want}
use Rattle.gp_tokens.specs.declared.want.Want.TheVariants as wants
use Rattle.gp_tokens.specs.Grammar.{Grammar, shape_of}
use Rattle.gp_tokens.specs.Fits.{AllExcluded}
use Rattle.gp_tokens.specs.Shape.{◌then◌, Made, Either, one, other, dropped, second_of}
use Rattle.gp_tokens.specs.SignWants.{number_sign, less, greater, comma, semicolon, colon, dot, bar, equal, arrow, root_word}
use Rattle.gp_syntax.specs.declared.kinds.VariableType.TheVariants as types
use Rattle.gp_syntax.specs.declared.tree.VariableGroup.{VariableGroup}
use Rattle.gp_syntax.specs.declared.tree.NodeDecl.{NodeDecl}
use Rattle.gp_syntax.specs.declared.tree.EdgeDecl.{EdgeDecl}
use Rattle.gp_syntax.specs.declared.tree.GraphDecl.{GraphDecl}
use Rattle.gp_syntax.specs.declared.tree.RuleDecl.{RuleDecl}
use Rattle.gp_expressions.specs.declared.ranged.Ranged.{Ranged}
use Rattle.gp_expressions.specs.Ranges.{gathered}
use Rattle.gp_expressions.specs.Signs.{int_word, char_word, string_word, atom_word, list_word, where_word, interface_word, bidirectional_word}
use Rattle.gp_expressions.specs.Expressions.{Tree, list}
use Rattle.gp_expressions.specs.Conditions.{CondTree, means, condition}
use Rattle.gp_program.specs.Rules.{coord, position, place, flagged, flag, node_of, edge_of, graph_of, node, edge, nodes, edges, body, barred, graph, variable_type, group_of, variable_group, variables, interface, where_of, where_part, rule_of, rule_with, rule}
use Rattle.gp_program.specs.declared.depth.Role.{Role}
use Rattle.gp_program.specs.Depth.{role_by}
use Rattle.gp_program.specs.declared.depth.Role.TheVariants as role
use Rattle.gp_fmt.specs.declared.piece.Piece.{Piece}
use Rattle.gp_fmt.specs.declared.piece.Piece.TheVariants as p
use Rattle.gp_fmt.specs.Expressions.{in_parentheses, label, type_word}
use Rattle.gp_fmt.specs.Commands.{names, names_behind, in_braces}
use Rattle.gp_fmt.specs.Rules as canonical
use Rattle.gp_fmt.proofs.Deep.Roles.{piece_role, keyword_role, roles, roles_append, name_role, loud}
use Rattle.gp_fmt.proofs.Deep.Quiet.{quiet_number_sign, quiet_item, quiet_variable, quiet_rule_name, quiet_comma, quiet_semicolon, quiet_colon, quiet_dot, quiet_bar, quiet_arrow, quiet_equal, quiet_less, quiet_greater, quiet_int, quiet_char, quiet_string, quiet_atom, quiet_list, quiet_where, quiet_interface, quiet_bidirectional, quiet_root}
use Rattle.gp_fmt.proofs.Deep.Texts.{IsDeeper, then_deeper, dropped_deeper, recast, Covers, other_covers, opening_covers, closing_covers, minus_covers, name_covers, then_covers, made_covers, seen_covers, either_covers, absent_covers, loud_covers, raised_covers, Closes, covers_close, then_close, made_close, either_close, absent_close, dropped_covers, many_covers, separated, sign_covers, separated_covers}
use Rattle.gp_fmt.proofs.Deep.Parts.{tree_of}
use Rattle.gp_fmt.proofs.Deep.Expressions.{expression_roles, list_covers}
use Rattle.gp_fmt.proofs.Deep.Conditions.{label_covers, condition_roles, condition_covers}
use Rattle.gp_fmt.proofs.Deep.Commands.{names_roles, all_names}

pub roles_flat : {A B : Type 0} (f : B → List Piece) (g : A → B) (xs : List A) → flat_map (λ x. roles (f (g x))) xs ≡ roles (flat_map f (map g xs))
roles_flat f g [] = refl
roles_flat f g (x ∷ xs) = ap (λ m. roles (f (g x)) ++ m) (roles_flat f g xs) ∙ sym (roles_append (f (g x)) (flat_map f (map g xs)))

-- ---- positions

coord_closes : Closes (shape_of coord)
unfolding coord
coord_closes =
    made_close dropped (
    then_close (either_close (made_close dropped (covers_close minus_covers)) (absent_close _))
    (then_close (covers_close (other_covers number_sign 0 quiet_number_sign)) (either_close (made_close dropped (then_close (covers_close (other_covers dot 0 quiet_dot)) (covers_close (other_covers number_sign 0 quiet_number_sign)))) (absent_close _)))
    )

position_closes : Closes (shape_of position)
unfolding position
position_closes =
    made_close dropped (then_close (covers_close (other_covers less 0 quiet_less)) (then_close coord_closes (then_close (covers_close (other_covers comma 0 quiet_comma)) (then_close coord_closes (covers_close (other_covers greater 0 quiet_greater))))))

place_closes : Closes (shape_of place)
unfolding place
place_closes = either_close position_closes (absent_close _)

-- ---- nodes and edges

flag_covers : (w : Want) (word : Keyword) → keyword_role word ≡ role.Other → AllExcluded w loud → Covers false 0 0 (shape_of (flag w)) (λ b. roles (canonical.flag word b))
unfolding flag
flag_covers w word r e =
    either_covers
    (loud_covers (made_covers flagged _ (λ x. ap (λ m. role.Opening ∷ m ∷ role.Closing ∷ []) (sym r)) (then_covers (opening_covers k.OpenParenthesis 0 (λ n. refl)) (then_covers (other_covers w 1 e) (closing_covers k.CloseParenthesis 0 (λ n. refl))))))
    (absent_covers 0 false _ refl)

-- brackets, and what stands behind them
enclosed : (o c : Kind) (ps : List Piece) (xs : List Role) → role_by o false ∷ (roles ps ++ role_by c false ∷ xs) ≡ roles (p.Sign o ∷ ps ++ p.Sign c ∷ []) ++ xs
enclosed o c ps xs = ap (λ m. role_by o false ∷ m) (sym (append_assoc (roles ps) (role_by c false ∷ []) xs) ∙ ap (λ m. m ++ xs) (sym (roles_append ps (p.Sign c ∷ []))))

five : {A : Type 0} (a b c d e : List A) → a ++ b ++ c ++ d ++ e ≡ a ++ (b ++ (c ++ (d ++ e)))
five a b c d e = append_assoc (a ++ b ++ c) d e ∙ append_assoc (a ++ b) c (d ++ e) ∙ append_assoc a b (c ++ (d ++ e))

roles_five : (a b c d e : List Piece) → roles (a ++ b ++ c ++ d ++ e) ≡ roles a ++ (roles b ++ (roles c ++ (roles d ++ roles e)))
roles_five a b c d e =
    ap roles (five a b c d e) ∙ roles_append a (b ++ (c ++ (d ++ e)))
    ∙ ap (λ m. roles a ++ m) (roles_append b (c ++ (d ++ e)) ∙ ap (λ m. roles b ++ m) (roles_append c (d ++ e) ∙ ap (λ m. roles c ++ m) (roles_append d e)))

node_roles : (n : NodeDecl) → role.Opening ∷ name_role n.name ∷ (roles (canonical.flag words.Root n.root) ++ role.Other ∷ (roles (label n.label n.mark) ++ role.Closing ∷ [])) ≡ roles (canonical.node n)
node_roles n =
    let f = canonical.flag words.Root n.root in
    let l = label n.label n.mark in
    ap (λ m. role.Opening ∷ name_role n.name ∷ m) (
    sym (append_assoc (roles f) (role.Other ∷ roles l) (role.Closing ∷ [])) ∙ ap (λ m. m ++ role.Closing ∷ []) (sym (roles_append f (p.Sign k.Comma ∷ l)))
    ∙ sym (roles_append (f ++ p.Sign k.Comma ∷ l) (p.Sign k.CloseParenthesis ∷ []))
    )

edge_roles : (e : EdgeDecl)
    → role.Opening ∷ name_role e.name ∷ (roles (canonical.flag words.Bidirectional e.bidirectional) ++ role.Other ∷ name_role e.source ∷ role.Other ∷ name_role e.target ∷ role.Other ∷ (roles (label e.label e.mark) ++ role.Closing ∷ []))
    ≡ roles (canonical.edge e)
edge_roles e =
    let f = canonical.flag words.Bidirectional e.bidirectional in
    let l = p.Sign k.Comma ∷ p.Name e.source ∷ p.Sign k.Comma ∷ p.Name e.target ∷ p.Sign k.Comma ∷ label e.label e.mark in
    ap (λ m. role.Opening ∷ name_role e.name ∷ m)
    (sym (append_assoc (roles f) (roles l) (role.Closing ∷ [])) ∙ ap (λ m. m ++ role.Closing ∷ []) (sym (roles_append f l)) ∙ sym (roles_append (f ++ l) (p.Sign k.CloseParenthesis ∷ [])))

graph_roles : (g : GraphDecl) → role.Opening ∷ (roles (flat_map canonical.node g.nodes) ++ role.Other ∷ (roles (flat_map canonical.edge g.edges) ++ role.Closing ∷ [])) ≡ roles (canonical.graph g)
graph_roles g =
    let n = p.Sign k.OpenBracket ∷ flat_map canonical.node g.nodes in
    let e = p.Sign k.Bar ∷ flat_map canonical.edge g.edges in
    sym (append_assoc (roles n) (roles e) (role.Closing ∷ [])) ∙ ap (λ m. m ++ role.Closing ∷ []) (sym (roles_append n e)) ∙ sym (roles_append (n ++ e) (p.Sign k.CloseBracket ∷ []))

module _ (lists : Grammar (Ranged Tree)) (g : Covers true 0 0 (shape_of lists) (λ (x : Ranged Tree). expression_roles x.tree)) where
  node_covers : Covers true 0 0 (shape_of (node lists)) (λ (r : Ranged NodeDecl). roles (canonical.node r.tree))
  unfolding node
  node_covers =
      made_covers node_of _ (λ x. node_roles (node_of x).tree)
      (then_covers (opening_covers k.OpenParenthesis 0 (λ n. refl)) (then_covers (name_covers wants.Item 1 refl quiet_item) (then_covers (raised_covers 1 (flag_covers root_word words.Root refl quiet_root))
      (then_covers (other_covers comma 1 quiet_comma) (then_covers (raised_covers 1 (label_covers lists g)) (dropped_covers k.CloseParenthesis 0 (λ n. refl) place_closes))))))

  edge_covers : Covers true 0 0 (shape_of (edge lists)) (λ (r : Ranged EdgeDecl). roles (canonical.edge r.tree))
  unfolding edge
  edge_covers =
      made_covers edge_of _ (λ x. edge_roles (edge_of x).tree)
      (then_covers (opening_covers k.OpenParenthesis 0 (λ n. refl)) (then_covers (name_covers wants.Item 1 refl quiet_item) (then_covers (raised_covers 1 (flag_covers bidirectional_word words.Bidirectional refl quiet_bidirectional))
      (then_covers (other_covers comma 1 quiet_comma) (then_covers (name_covers wants.Item 1 refl quiet_item) (then_covers (other_covers comma 1 quiet_comma) (then_covers (name_covers wants.Item 1 refl quiet_item)
      (then_covers (other_covers comma 1 quiet_comma) (then_covers (raised_covers 1 (label_covers lists g)) (closing_covers k.CloseParenthesis 0 (λ n. refl)))))))))))

  nodes_covers : Covers false 0 0 (shape_of (nodes lists)) (λ (r : Ranged (List NodeDecl)). roles (flat_map canonical.node r.tree))
  unfolding nodes
  nodes_covers = made_covers gathered _ (λ rs. roles_flat canonical.node tree_of rs) (many_covers node_covers)

  edges_covers : Covers false 0 0 (shape_of (edges lists)) (λ (r : Ranged (List EdgeDecl)). roles (flat_map canonical.edge r.tree))
  unfolding edges
  edges_covers = made_covers gathered _ (λ rs. roles_flat canonical.edge tree_of rs) (many_covers edge_covers)

  -- behind the opening bracket
  abbrev body_roles : Ranged GraphDecl → List Role
  body_roles r = roles (flat_map canonical.node r.tree.nodes) ++ role.Other ∷ (roles (flat_map canonical.edge r.tree.edges) ++ role.Closing ∷ [])

  body_covers : Covers true 1 0 (shape_of (body lists)) body_roles
  unfolding body
  body_covers = made_covers graph_of _ (λ x. refl) (then_covers (raised_covers 1 nodes_covers) (then_covers (other_covers bar 1 quiet_bar) (then_covers (raised_covers 1 edges_covers) (closing_covers k.CloseBracket 0 (λ n. refl)))))

  barred_deeper : (ts mid rest : List Token) (x : Ranged GraphDecl) → IsDeeper true 0 1 (role.Opening ∷ []) ts mid → shape_of (barred lists) mid rest x → IsDeeper true 0 0 (role.Opening ∷ body_roles x) ts rest
  unfolding barred
  barred_deeper ts mid rest x f (one d) =
      let b = (other_covers bar 0 quiet_bar).covers mid d.shape.mid d.of.0 f.left d.shape.first in
      recast (ap (λ m. role.Opening ∷ body_roles m) (sym d.made)) (then_deeper (dropped_deeper f b) (body_covers.covers d.shape.mid rest d.of.1 b.left d.shape.second))
  barred_deeper ts mid rest x f (other d) = then_deeper f (body_covers.covers mid rest x f.left d)

  graph_covers : Covers true 0 0 (shape_of (graph lists)) (λ (r : Ranged GraphDecl). roles (canonical.graph r.tree))
  unfolding graph
  graph_covers = record {
    covers = λ ts rest x s d.
        let f = (opening_covers k.OpenBracket 0 (λ n. refl)).covers ts d.shape.mid d.of.0 s d.shape.first in
        recast (graph_roles d.of.1.tree ∙ ap (λ (r : Ranged GraphDecl). roles (canonical.graph r.tree)) (sym d.made)) (go ts d.shape.mid rest d.of.1 f d.shape.second);
  }
    where
      go : (ts mid rest : List Token) (x : Ranged GraphDecl) → IsDeeper true 0 1 (role.Opening ∷ []) ts mid → Either (Made second_of (shape_of position then shape_of (barred lists))) (shape_of (body lists)) mid rest x
          → IsDeeper true 0 0 (role.Opening ∷ body_roles x) ts rest
      go ts mid rest x f (one d) =
          let c = (position_closes.closes mid d.shape.mid d.of.0 f.left d.shape.first).deeper in
          recast (ap (λ m. role.Opening ∷ body_roles m) (sym d.made)) (barred_deeper ts d.shape.mid rest d.of.1 (dropped_deeper f c) d.shape.second)
      go ts mid rest x f (other d) = then_deeper f (body_covers.covers mid rest x f.left d)

-- ---- variables and interfaces

type_covers : Covers true 0 0 (shape_of variable_type) (λ t. piece_role (type_word t) ∷ [])
unfolding variable_type
type_covers =
    either_covers (made_covers (means types.Int) _ (λ x. refl) (other_covers int_word 0 quiet_int))
    (either_covers (made_covers (means types.Char) _ (λ x. refl) (other_covers char_word 0 quiet_char))
    (either_covers (made_covers (means types.String) _ (λ x. refl) (other_covers string_word 0 quiet_string))
    (either_covers (made_covers (means types.Atom) _ (λ x. refl) (other_covers atom_word 0 quiet_atom)) (made_covers (means types.List) _ (λ x. refl) (other_covers list_word 0 quiet_list)))))

group_roles : (g : VariableGroup) → name_role g.first ∷ (flat_map (λ n. role.Other ∷ name_role n ∷ []) g.rest ++ role.Other ∷ piece_role (type_word g.variable_type) ∷ []) ≡ roles (canonical.variable_group g)
group_roles g =
    ap (λ m. name_role g.first ∷ m)
    (ap (λ m. m ++ role.Other ∷ piece_role (type_word g.variable_type) ∷ []) (names_roles g.rest) ∙ sym (roles_append (names_behind g.rest) (p.Sign k.Colon ∷ type_word g.variable_type ∷ [])))

group_covers : Covers true 0 0 (shape_of variable_group) (λ g. roles (canonical.variable_group g))
unfolding variable_group
group_covers =
    made_covers group_of _ (λ x. group_roles (group_of x))
    (then_covers (name_covers wants.Variable 0 refl quiet_variable) (then_covers (many_covers (sign_covers comma quiet_comma (name_covers wants.Variable 0 refl quiet_variable))) (then_covers (other_covers colon 0 quiet_colon) type_covers)))

groups_flat : (gs : List VariableGroup) → flat_map (λ h. role.Other ∷ roles (canonical.variable_group h)) gs ≡ roles (flat_map (λ h. p.Sign k.Semicolon ∷ canonical.variable_group h) gs)
groups_flat [] = refl
groups_flat (g ∷ gs) =
    ap (λ m. role.Other ∷ (roles (canonical.variable_group g) ++ m)) (groups_flat gs) ∙ ap (λ m. role.Other ∷ m) (sym (roles_append (canonical.variable_group g) (flat_map (λ h. p.Sign k.Semicolon ∷ canonical.variable_group h) gs)))

variables_roles : (gs : List VariableGroup) → separated role.Other (λ g. roles (canonical.variable_group g)) gs ≡ roles (canonical.variables gs)
variables_roles [] = refl
variables_roles (g ∷ gs) = ap (λ m. roles (canonical.variable_group g) ++ m) (groups_flat gs) ∙ sym (roles_append (canonical.variable_group g) (flat_map (λ h. p.Sign k.Semicolon ∷ canonical.variable_group h) gs))

variables_covers : Covers false 0 0 (shape_of variables) (λ gs. roles (canonical.variables gs))
unfolding variables
variables_covers = either_covers (loud_covers (seen_covers _ variables_roles (separated_covers semicolon quiet_semicolon group_covers))) (absent_covers 0 [] _ refl)

interface_covers : Covers false 0 0 (shape_of interface) (λ ns. roles (names ns))
unfolding interface
interface_covers = either_covers (loud_covers (seen_covers _ all_names (separated_covers comma quiet_comma (name_covers wants.Item 0 refl quiet_item)))) (absent_covers 0 [] _ refl)

-- ---- rules

where_covers : (conditions : Grammar (Ranged CondTree)) → Covers true 0 0 (shape_of conditions) (λ (x : Ranged CondTree). condition_roles x.tree) → Covers false 0 0 (shape_of (where_part conditions)) (λ (r : Ranged (Option CondTree)). roles (canonical.where_part r.tree))
unfolding where_part
where_covers conditions c = either_covers (loud_covers (made_covers where_of _ (λ x. refl) (then_covers (other_covers where_word 0 quiet_where) c))) (absent_covers 0 _ _ refl)

rule_roles : (r : RuleDecl)
    → name_role r.name ∷ role.Opening ∷ (roles (canonical.variables r.variables) ++ role.Closing ∷ (roles (canonical.graph r.left) ++ role.Other ∷ (roles (canonical.graph r.right) ++ role.Other ∷ role.Other ∷ role.Opening ∷ (roles (names r.interface) ++ role.Closing ∷ roles (canonical.where_part r.condition)))))
    ≡ roles (canonical.rule r)
rule_roles r =
    let v = canonical.variables r.variables in
    let l = canonical.graph r.left in
    let h = canonical.graph r.right in
    let n = names r.interface in
    let w = canonical.where_part r.condition in
    ap (λ m. name_role r.name ∷ m) (
    ap (λ m. role.Opening ∷ (roles v ++ role.Closing ∷ (roles l ++ role.Other ∷ (roles h ++ role.Other ∷ role.Other ∷ m)))) (enclosed k.OpenBrace k.CloseBrace n (roles w))
    ∙ enclosed k.OpenParenthesis k.CloseParenthesis v (roles l ++ role.Other ∷ (roles h ++ role.Other ∷ role.Other ∷ (roles (in_braces n) ++ roles w)))
    )
    ∙ sym (roles_five (p.Name r.name ∷ in_parentheses v) l (p.Sign k.Arrow ∷ h) (p.Word words.Interface ∷ p.Sign k.Equal ∷ in_braces n) w)

pub rule_covers : (room : ℕ) → Covers false 0 0 (shape_of (rule room)) (λ (r : Ranged RuleDecl). roles (canonical.rule r.tree))
unfolding rule_with
rule_covers room =
    let g = graph_covers (list room) (list_covers room) in
    made_covers rule_of _ (λ x. rule_roles (rule_of x).tree)
    (then_covers (name_covers wants.RuleName 0 refl quiet_rule_name) (then_covers (opening_covers k.OpenParenthesis 0 (λ n. refl)) (then_covers (raised_covers 1 variables_covers) (then_covers (closing_covers k.CloseParenthesis 0 (λ n. refl))
    (then_covers g (then_covers (other_covers arrow 0 quiet_arrow) (then_covers g (then_covers (other_covers interface_word 0 quiet_interface) (then_covers (other_covers equal 0 quiet_equal)
    (then_covers (opening_covers k.OpenBrace 0 (λ n. refl)) (then_covers (raised_covers 1 interface_covers) (then_covers (closing_covers k.CloseBrace 0 (λ n. refl)) (where_covers (condition room room) (condition_covers room room))))))))))))))
