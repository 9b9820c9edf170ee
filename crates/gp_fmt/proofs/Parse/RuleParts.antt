-- The parts of rules are read again: variables, interfaces, nodes, edges and graphs.
use Rattle.std.proofs.Common.{◌≡◌, ℕ, Bool, true, false, List, [], ◌∷◌, ◌++◌, map, map-id, flat_map, append_assoc, Option, refl, sym, ap, subst}
use Rattle.std.specs.List.{AllByRecursion}
use Rattle.gp_tokens.specs.declared.keyword.Keyword.{Keyword}
use Rattle.gp_tokens.specs.declared.keyword.Keyword.TheVariants as words
use Rattle.gp_tokens.specs.declared.token.Kind.TheVariants as k
use Rattle.gp_tokens.specs.declared.token.Token.{Token}
use Rattle.gp_tokens.specs.Kinds.{same_kind}
use Rattle.gp_values.specs.Names.{Name}
use Rattle.gp_tokens.specs.declared.want.Want.TheVariants as wants
use Rattle.gp_tokens.specs.Wants.{meets}
use Rattle.gp_tokens.specs.Grammar.{shape_of}
use Rattle.gp_tokens.specs.Shape.{Is, ◌then◌, Many, second_of}
use Rattle.gp_tokens.specs.SignWants.{open_sign, close_sign, open_bracket, close_bracket, comma, semicolon, colon, bar}
use Rattle.gp_syntax.specs.declared.kinds.VariableType.{VariableType}
use Rattle.gp_syntax.specs.declared.kinds.VariableType.TheVariants as types
use Rattle.gp_syntax.specs.declared.tree.VariableGroup.{VariableGroup}
use Rattle.gp_syntax.specs.declared.tree.NodeDecl.{NodeDecl}
use Rattle.gp_syntax.specs.declared.tree.EdgeDecl.{EdgeDecl}
use Rattle.gp_syntax.specs.declared.tree.GraphDecl.{GraphDecl}
use Rattle.gp_expressions.specs.declared.ranged.Ranged.{Ranged}
use Rattle.gp_expressions.specs.Ranges.{whole, with, both, gathered}
use Rattle.gp_expressions.specs.Signs.{int_word, char_word, string_word, atom_word, list_word}
use Rattle.gp_expressions.specs.Expressions.{Tree, name, behind, list}
use Rattle.gp_expressions.specs.Conditions.{means}
use Rattle.gp_expressions.specs.Conditions as labels
use Rattle.gp_program.specs.Rules.{place, flagged, flag, node_of, edge_of, graph_of, variable_type, group_of, variable_group, variables, interface}
use Rattle.gp_program.specs.Rules as grammar
use Rattle.gp_fmt.specs.declared.piece.Piece.{Piece}
use Rattle.gp_fmt.specs.declared.piece.Piece.TheVariants as p
use Rattle.gp_fmt.specs.Expressions.{label, type_word}
use Rattle.gp_fmt.specs.Commands.{names, names_behind}
use Rattle.gp_fmt.specs.Rules as printed
use Rattle.gp_fmt.proofs.Parse.Printed.{token_at, Reads, Takes, Anything, some, made_into, made_reads, one_reads, other_reads, absent_reads, then_takes, behind_takes, sign_takes}
use Rattle.gp_fmt.proofs.Parse.Names.{IsNamed, name_reads}
use Rattle.gp_fmt.proofs.Parse.Rooms.{Roomy, becomes, together, all_roomy}
use Rattle.gp_fmt.proofs.Parse.Ranges.{gathered_whole}
use Rattle.gp_fmt.proofs.Parse.Chains.{behind_signs}
use Rattle.gp_fmt.proofs.Parse.Lists.{many_reads, separated_same, names_read, names_behind_well}
use Rattle.gp_fmt.proofs.Parse.Spelling.{AreWell, well_append, well_flat, all_into, enclosed_well, open_well, close_well, open_bracket_well, close_bracket_well, comma_well, semicolon_well, colon_well, bar_well}
use Rattle.gp_fmt.proofs.Parse.Parts.{IsGood}
use Rattle.gp_fmt.proofs.Parse.Labels.{between_takes, IsMarked, label_reads, label_well}
use Rattle.gp_fmt.proofs.Parse.Tests.{type_well}

-- ---- variables and interfaces

type_reads : (type : VariableType) → Reads (type_word type ∷ []) (shape_of variable_type) type
unfolding variable_type meets same_kind
type_reads types.Int = one_reads _ _ _ _ (made_into _ (means types.Int) _ Anything _ (λ x _. refl) (sign_takes (p.Word words.Int) int_word (λ start. refl)))
type_reads types.Char = other_reads _ _ _ _ (one_reads _ _ _ _ (made_into _ (means types.Char) _ Anything _ (λ x _. refl) (sign_takes (p.Word words.Char) char_word (λ start. refl))))
type_reads types.String = other_reads _ _ _ _ (other_reads _ _ _ _ (one_reads _ _ _ _ (made_into _ (means types.String) _ Anything _ (λ x _. refl) (sign_takes (p.Word words.String) string_word (λ start. refl)))))
type_reads types.Atom = other_reads _ _ _ _ (other_reads _ _ _ _ (other_reads _ _ _ _ (one_reads _ _ _ _ (made_into _ (means types.Atom) _ Anything _ (λ x _. refl) (sign_takes (p.Word words.Atom) atom_word (λ start. refl))))))
type_reads types.List = other_reads _ _ _ _ (other_reads _ _ _ _ (other_reads _ _ _ _ (other_reads _ _ _ _ (made_into _ (means types.List) _ Anything _ (λ x _. refl) (sign_takes (p.Word words.List) list_word (λ start. refl))))))

pub record IsGoodGroup (g : VariableGroup) : Type 0 where
  pub first : IsNamed wants.Variable g.first
  pub rest : AllByRecursion (IsNamed wants.Variable) g.rest

further_names : (ns : List Name) → AllByRecursion (IsNamed wants.Variable) ns → Reads (names_behind ns) (Many (shape_of (behind comma (name wants.Variable)))) ns
unfolding meets same_kind
further_names ns hs =
    subst (λ (l : List Name). Reads (names_behind ns) (Many (shape_of (behind comma (name wants.Variable)))) l) (map-id ns)
    (behind_signs (p.Sign k.Comma) comma (λ start. refl) (shape_of (name wants.Variable)) (λ n. p.Name n ∷ []) (λ n. n) ns
    (all_into (IsNamed wants.Variable) (λ n. Reads (p.Name n ∷ []) (shape_of (name wants.Variable)) n) (name_reads wants.Variable) ns hs))

group_reads : (g : VariableGroup) → IsGoodGroup g → Reads (printed.variable_group g) (shape_of variable_group) g
unfolding variable_group meets same_kind
group_reads g h =
    made_into _ group_of _ (λ (x : Name × (List Name × (Token × VariableType))). (x.0 ≡ g.first) × ((x.1.0 ≡ g.rest) × (x.1.1.1 ≡ g.variable_type))) g (λ x j i. record { first = j.0 i; rest = j.1.0 i; variable_type = j.1.1 i })
    (then_takes (p.Name g.first ∷ []) (names_behind g.rest ++ p.Sign k.Colon ∷ type_word g.variable_type ∷ []) _ _ (λ x. x ≡ g.first) (λ (x : List Name × (Token × VariableType)). (x.0 ≡ g.rest) × (x.1.1 ≡ g.variable_type)) (some _ _ g.first (name_reads wants.Variable g.first h.first))
    (then_takes (names_behind g.rest) (p.Sign k.Colon ∷ type_word g.variable_type ∷ []) _ _ (λ x. x ≡ g.rest) (λ (x : Token × VariableType). x.1 ≡ g.variable_type) (some _ _ g.rest (further_names g.rest h.rest))
    (behind_takes (p.Sign k.Colon) (type_word g.variable_type ∷ []) colon _ (λ x. x ≡ g.variable_type) (λ start. refl) (some _ _ g.variable_type (type_reads g.variable_type)))))

group_well : (g : VariableGroup) → IsGoodGroup g → AreWell (printed.variable_group g)
group_well g h = (h.first.word, well_append (names_behind g.rest) _ (names_behind_well wants.Variable g.rest h.rest) (colon_well, (type_well g.variable_type, tt)))

pub variables_read : (gs : List VariableGroup) → AllByRecursion IsGoodGroup gs → Reads (printed.variables gs) (shape_of variables) gs
unfolding variables meets same_kind
variables_read [] hs = other_reads _ _ _ _ (absent_reads [])
variables_read (g ∷ gs) hs =
    one_reads _ _ _ _ (separated_same (p.Sign k.Semicolon) semicolon (λ start. refl) (shape_of variable_group) printed.variable_group g gs (group_reads g hs.0)
    (all_into IsGoodGroup (λ g. Reads (printed.variable_group g) (shape_of variable_group) g) group_reads gs hs.1))

pub variables_well : (gs : List VariableGroup) → AllByRecursion IsGoodGroup gs → AreWell (printed.variables gs)
variables_well [] hs = tt
variables_well (g ∷ gs) hs =
    well_append (printed.variable_group g) _ (group_well g hs.0)
    (well_flat (λ h. p.Sign k.Semicolon ∷ printed.variable_group h) gs (all_into IsGoodGroup (λ h. AreWell (p.Sign k.Semicolon ∷ printed.variable_group h)) (λ g h. (semicolon_well, group_well g h)) gs hs.1))

pub interface_reads : (ns : List Name) → AllByRecursion (IsNamed wants.Item) ns → Reads (names ns) (shape_of interface) ns
unfolding interface
interface_reads [] hs = other_reads _ _ _ _ (absent_reads [])
interface_reads (n ∷ ns) hs = one_reads _ _ _ _ (names_read wants.Item n ns hs.0 hs.1)

-- ---- nodes and edges

flag_reads : (word : Keyword) → ((start : ℕ) → meets (wants.Keyword word) (token_at (p.Word word) start) ≡ true) → (b : Bool) → Reads (printed.flag word b) (shape_of (flag (wants.Keyword word))) b
unfolding flag meets same_kind
flag_reads word met false = other_reads _ _ _ _ (absent_reads false)
flag_reads word met true =
    one_reads _ _ _ _ (made_into _ flagged _ (λ (x : Token × (Token × Token)). Anything x.1.0 × Anything x.1.1) true (λ x _. refl)
    (between_takes (p.Sign k.OpenParenthesis) (p.Sign k.CloseParenthesis) open_sign close_sign (λ start. refl) (λ start. refl) (p.Word word ∷ []) _ Anything (sign_takes (p.Word word) (wants.Keyword word) met)))

flag_well : (word : Keyword) (b : Bool) → AreWell (printed.flag word b)
flag_well word false = tt
flag_well word true = (open_well, (tt, (close_well, tt)))

no_place : Reads [] (shape_of place) tt
unfolding place
no_place = other_reads _ _ _ _ (absent_reads tt)

pub record IsGoodNode (n : NodeDecl) : Type 0 where
  pub name : IsNamed wants.Item n.name
  pub label : IsGood n.label
  pub mark : IsMarked n.mark

pub record IsGoodEdge (e : EdgeDecl) : Type 0 where
  pub name : IsNamed wants.Item e.name
  pub source : IsNamed wants.Item e.source
  pub target : IsNamed wants.Item e.target
  pub label : IsGood e.label
  pub mark : IsMarked e.mark

-- the pieces of a node, and of an edge, one by one
abbrev node_pieces : NodeDecl → List Piece
node_pieces n = p.Sign k.OpenParenthesis ∷ p.Name n.name ∷ (printed.flag words.Root n.root ++ (p.Sign k.Comma ∷ (label n.label n.mark ++ p.Sign k.CloseParenthesis ∷ [])))

node_is : (n : NodeDecl) → node_pieces n ≡ printed.node n
node_is n = ap (λ (l : List Piece). p.Sign k.OpenParenthesis ∷ p.Name n.name ∷ l) (sym (append_assoc (printed.flag words.Root n.root) (p.Sign k.Comma ∷ label n.label n.mark) (p.Sign k.CloseParenthesis ∷ [])))

abbrev edge_pieces : EdgeDecl → List Piece
edge_pieces e =
    p.Sign k.OpenParenthesis ∷ p.Name e.name ∷ (printed.flag words.Bidirectional e.bidirectional
    ++ (p.Sign k.Comma ∷ p.Name e.source ∷ p.Sign k.Comma ∷ p.Name e.target ∷ p.Sign k.Comma ∷ (label e.label e.mark ++ p.Sign k.CloseParenthesis ∷ [])))

edge_is : (e : EdgeDecl) → edge_pieces e ≡ printed.edge e
edge_is e =
    ap (λ (l : List Piece). p.Sign k.OpenParenthesis ∷ p.Name e.name ∷ l)
    (sym (append_assoc (printed.flag words.Bidirectional e.bidirectional) (p.Sign k.Comma ∷ p.Name e.source ∷ p.Sign k.Comma ∷ p.Name e.target ∷ p.Sign k.Comma ∷ label e.label e.mark) (p.Sign k.CloseParenthesis ∷ [])))

abbrev Labelled : Type 0
Labelled = Ranged Tree × Option Name

node_reads : (m : ℕ) (n : NodeDecl) → IsGoodNode n → Reads (label n.label n.mark) (shape_of (labels.label (list m))) (whole n.label, n.mark) → Reads (node_pieces n) (shape_of (grammar.node (list m))) (whole n)
unfolding grammar.node meets same_kind
node_reads m n h r =
    made_into _ node_of _ (λ x. (x.1.0 ≡ n.name) × ((x.1.1.0 ≡ n.root) × ((x.1.1.1.1.0 ≡ (whole n.label, n.mark)) × Anything x.1.1.1.1.1))) (whole n)
    (λ x j i. with (λ (e : Tree). record { name = j.0 i; root = j.1.0 i; label = e; mark = (j.1.1.0 i).1 }) (j.1.1.0 i).0)
    (behind_takes (p.Sign k.OpenParenthesis) _ open_sign _ (λ x. (x.0 ≡ n.name) × ((x.1.0 ≡ n.root) × ((x.1.1.1.0 ≡ (whole n.label, n.mark)) × Anything x.1.1.1.1))) (λ start. refl)
    (then_takes (p.Name n.name ∷ []) (printed.flag words.Root n.root ++ (p.Sign k.Comma ∷ (label n.label n.mark ++ p.Sign k.CloseParenthesis ∷ []))) _ _ (λ x. x ≡ n.name)
    (λ x. (x.0 ≡ n.root) × ((x.1.1.0 ≡ (whole n.label, n.mark)) × Anything x.1.1.1)) (some _ _ n.name (name_reads wants.Item n.name h.name))
    (then_takes (printed.flag words.Root n.root) (p.Sign k.Comma ∷ (label n.label n.mark ++ p.Sign k.CloseParenthesis ∷ [])) _ _ (λ x. x ≡ n.root) (λ x. (x.1.0 ≡ (whole n.label, n.mark)) × Anything x.1.1) (some _ _ n.root (flag_reads words.Root (λ start. refl) n.root))
    (behind_takes (p.Sign k.Comma) (label n.label n.mark ++ p.Sign k.CloseParenthesis ∷ []) comma _ (λ (x : Labelled × (Unit {0} × Token)). (x.0 ≡ (whole n.label, n.mark)) × Anything x.1) (λ start. refl)
    (then_takes (label n.label n.mark) (p.Sign k.CloseParenthesis ∷ []) _ _ (λ (x : Labelled). x ≡ (whole n.label, n.mark)) Anything (some _ _ _ r) (close_place))))))
  where
    close_place : Takes (p.Sign k.CloseParenthesis ∷ []) (shape_of place then Is close_sign) Anything
    close_place ts rest q =
        let t = then_takes [] (p.Sign k.CloseParenthesis ∷ []) (shape_of place) (Is close_sign) (λ x. x ≡ tt) Anything (some [] (shape_of place) tt no_place) (sign_takes (p.Sign k.CloseParenthesis) close_sign (λ start. refl)) ts rest q in
        (t.0, t.1, tt)

edge_reads : (m : ℕ) (e : EdgeDecl) → IsGoodEdge e → Reads (label e.label e.mark) (shape_of (labels.label (list m))) (whole e.label, e.mark) → Reads (edge_pieces e) (shape_of (grammar.edge (list m))) (whole e)
unfolding grammar.edge meets same_kind
edge_reads m e h r =
    made_into _ edge_of _ (λ x. (x.1.0 ≡ e.name) × ((x.1.1.0 ≡ e.bidirectional) × ((x.1.1.1.1.0 ≡ e.source) × ((x.1.1.1.1.1.1.0 ≡ e.target) × ((x.1.1.1.1.1.1.1.1.0 ≡ (whole e.label, e.mark)) × Anything x.1.1.1.1.1.1.1.1.1))))) (whole e)
    (λ x j i. with (λ (d : Tree). record { name = j.0 i; bidirectional = j.1.0 i; source = j.1.1.0 i; target = j.1.1.1.0 i; label = d; mark = (j.1.1.1.1.0 i).1 }) (j.1.1.1.1.0 i).0)
    (behind_takes (p.Sign k.OpenParenthesis) _ open_sign _ (λ x. (x.0 ≡ e.name) × ((x.1.0 ≡ e.bidirectional) × ((x.1.1.1.0 ≡ e.source) × ((x.1.1.1.1.1.0 ≡ e.target) × ((x.1.1.1.1.1.1.1.0 ≡ (whole e.label, e.mark)) × Anything x.1.1.1.1.1.1.1.1))))) (λ start. refl)
    (then_takes (p.Name e.name ∷ []) (printed.flag words.Bidirectional e.bidirectional ++ behind_flag) _ _ (λ x. x ≡ e.name)
    (λ x. (x.0 ≡ e.bidirectional) × ((x.1.1.0 ≡ e.source) × ((x.1.1.1.1.0 ≡ e.target) × ((x.1.1.1.1.1.1.0 ≡ (whole e.label, e.mark)) × Anything x.1.1.1.1.1.1.1)))) (some _ _ e.name (name_reads wants.Item e.name h.name))
    (then_takes (printed.flag words.Bidirectional e.bidirectional) behind_flag _ _ (λ x. x ≡ e.bidirectional)
    (λ x. (x.1.0 ≡ e.source) × ((x.1.1.1.0 ≡ e.target) × ((x.1.1.1.1.1.0 ≡ (whole e.label, e.mark)) × Anything x.1.1.1.1.1.1))) (some _ _ e.bidirectional (flag_reads words.Bidirectional (λ start. refl) e.bidirectional))
    (behind_takes (p.Sign k.Comma) (p.Name e.source ∷ behind_source) comma _ (λ x. (x.0 ≡ e.source) × ((x.1.1.0 ≡ e.target) × ((x.1.1.1.1.0 ≡ (whole e.label, e.mark)) × Anything x.1.1.1.1.1))) (λ start. refl)
    (then_takes (p.Name e.source ∷ []) behind_source _ _ (λ x. x ≡ e.source) (λ x. (x.1.0 ≡ e.target) × ((x.1.1.1.0 ≡ (whole e.label, e.mark)) × Anything x.1.1.1.1)) (some _ _ e.source (name_reads wants.Item e.source h.source))
    (behind_takes (p.Sign k.Comma) (p.Name e.target ∷ behind_target) comma _ (λ x. (x.0 ≡ e.target) × ((x.1.1.0 ≡ (whole e.label, e.mark)) × Anything x.1.1.1)) (λ start. refl)
    (then_takes (p.Name e.target ∷ []) behind_target _ _ (λ x. x ≡ e.target) (λ (x : Token × (Labelled × Token)). (x.1.0 ≡ (whole e.label, e.mark)) × Anything x.1.1) (some _ _ e.target (name_reads wants.Item e.target h.target))
    (behind_takes (p.Sign k.Comma) (label e.label e.mark ++ p.Sign k.CloseParenthesis ∷ []) comma _ (λ (x : Labelled × Token). (x.0 ≡ (whole e.label, e.mark)) × Anything x.1) (λ start. refl)
    (then_takes (label e.label e.mark) (p.Sign k.CloseParenthesis ∷ []) _ _ (λ (x : Labelled). x ≡ (whole e.label, e.mark)) Anything (some _ _ _ r) (sign_takes (p.Sign k.CloseParenthesis) close_sign (λ start. refl)))))))))))
  where
    behind_target : List Piece
    behind_target = p.Sign k.Comma ∷ (label e.label e.mark ++ p.Sign k.CloseParenthesis ∷ [])

    behind_source : List Piece
    behind_source = p.Sign k.Comma ∷ p.Name e.target ∷ behind_target

    behind_flag : List Piece
    behind_flag = p.Sign k.Comma ∷ p.Name e.source ∷ behind_source

good_node : (n : NodeDecl) → IsGoodNode n → Roomy (λ _ m. Reads (printed.node n) (shape_of (grammar.node (list m))) (whole n))
good_node n h =
    becomes (λ _ m. Reads (label n.label n.mark) (shape_of (labels.label (list m))) (whole n.label, n.mark)) _
    (λ _ m r. subst (λ (ps : List Piece). Reads ps (shape_of (grammar.node (list m))) (whole n)) (node_is n) (node_reads m n h r)) (label_reads n.label n.mark h.label h.mark)

good_edge : (e : EdgeDecl) → IsGoodEdge e → Roomy (λ _ m. Reads (printed.edge e) (shape_of (grammar.edge (list m))) (whole e))
good_edge e h =
    becomes (λ _ m. Reads (label e.label e.mark) (shape_of (labels.label (list m))) (whole e.label, e.mark)) _
    (λ _ m r. subst (λ (ps : List Piece). Reads ps (shape_of (grammar.edge (list m))) (whole e)) (edge_is e) (edge_reads m e h r)) (label_reads e.label e.mark h.label h.mark)

node_well : (n : NodeDecl) → IsGoodNode n → AreWell (printed.node n)
node_well n h = enclosed_well (p.Name n.name ∷ printed.flag words.Root n.root ++ p.Sign k.Comma ∷ label n.label n.mark) (h.name.word, well_append (printed.flag words.Root n.root) (p.Sign k.Comma ∷ label n.label n.mark) (flag_well words.Root n.root) (comma_well, label_well n.label n.mark h.label h.mark))

edge_well : (e : EdgeDecl) → IsGoodEdge e → AreWell (printed.edge e)
edge_well e h =
    enclosed_well (p.Name e.name ∷ printed.flag words.Bidirectional e.bidirectional ++ p.Sign k.Comma ∷ p.Name e.source ∷ p.Sign k.Comma ∷ p.Name e.target ∷ p.Sign k.Comma ∷ label e.label e.mark) (
      h.name.word,
      well_append (printed.flag words.Bidirectional e.bidirectional) (p.Sign k.Comma ∷ p.Name e.source ∷ p.Sign k.Comma ∷ p.Name e.target ∷ p.Sign k.Comma ∷ label e.label e.mark) (flag_well words.Bidirectional e.bidirectional)
          (comma_well, (h.source.word, (comma_well, (h.target.word, (comma_well, label_well e.label e.mark h.label h.mark))))),
    )

-- ---- graphs

pub record IsGoodGraph (g : GraphDecl) : Type 0 where
  pub nodes : AllByRecursion IsGoodNode g.nodes
  pub edges : AllByRecursion IsGoodEdge g.edges

nodes_read : (m : ℕ) (ns : List NodeDecl) → AllByRecursion (λ n. Reads (printed.node n) (shape_of (grammar.node (list m))) (whole n)) ns → Reads (flat_map printed.node ns) (shape_of (grammar.nodes (list m))) (whole ns)
unfolding grammar.nodes
nodes_read m ns hs =
    subst (λ (r : Ranged (List NodeDecl)). Reads (flat_map printed.node ns) (shape_of (grammar.nodes (list m))) r) (gathered_whole ns)
    (made_reads _ gathered _ (map whole ns) (many_reads (shape_of (grammar.node (list m))) printed.node whole ns hs))

edges_read : (m : ℕ) (es : List EdgeDecl) → AllByRecursion (λ e. Reads (printed.edge e) (shape_of (grammar.edge (list m))) (whole e)) es → Reads (flat_map printed.edge es) (shape_of (grammar.edges (list m))) (whole es)
unfolding grammar.edges
edges_read m es hs =
    subst (λ (r : Ranged (List EdgeDecl)). Reads (flat_map printed.edge es) (shape_of (grammar.edges (list m))) r) (gathered_whole es)
    (made_reads _ gathered _ (map whole es) (many_reads (shape_of (grammar.edge (list m))) printed.edge whole es hs))

abbrev graph_pieces : GraphDecl → List Piece
graph_pieces g = p.Sign k.OpenBracket ∷ (flat_map printed.node g.nodes ++ (p.Sign k.Bar ∷ (flat_map printed.edge g.edges ++ p.Sign k.CloseBracket ∷ [])))

graph_is : (g : GraphDecl) → graph_pieces g ≡ printed.graph g
graph_is g = ap (λ (l : List Piece). p.Sign k.OpenBracket ∷ l) (sym (append_assoc (flat_map printed.node g.nodes) (p.Sign k.Bar ∷ flat_map printed.edge g.edges) (p.Sign k.CloseBracket ∷ [])))

graph_reads : (m : ℕ) (g : GraphDecl) → Reads (flat_map printed.node g.nodes) (shape_of (grammar.nodes (list m))) (whole g.nodes) → Reads (flat_map printed.edge g.edges) (shape_of (grammar.edges (list m))) (whole g.edges)
    → Reads (graph_pieces g) (shape_of (grammar.graph (list m))) (whole g)
unfolding grammar.graph grammar.body meets same_kind
graph_reads m g r s =
    made_into _ second_of _ (λ (x : Token × Ranged GraphDecl). x.1 ≡ whole g) (whole g) (λ x j. j)
    (behind_takes (p.Sign k.OpenBracket) (flat_map printed.node g.nodes ++ (p.Sign k.Bar ∷ (flat_map printed.edge g.edges ++ p.Sign k.CloseBracket ∷ []))) open_bracket _ (λ (x : Ranged GraphDecl). x ≡ whole g) (λ start. refl) (some _ _ (whole g)
    (other_reads _ _ _ _ (made_into _ graph_of _ (λ (x : Ranged (List NodeDecl) × (Token × (Ranged (List EdgeDecl) × Token))). (x.0 ≡ whole g.nodes) × ((x.1.1.0 ≡ whole g.edges) × Anything x.1.1.1)) (whole g)
    (λ x j i. both (λ (ns : List NodeDecl) (es : List EdgeDecl). record { nodes = ns; edges = es }) (j.0 i) (j.1.0 i))
    (then_takes (flat_map printed.node g.nodes) (p.Sign k.Bar ∷ (flat_map printed.edge g.edges ++ p.Sign k.CloseBracket ∷ [])) _ _ (λ x. x ≡ whole g.nodes)
    (λ (x : Token × (Ranged (List EdgeDecl) × Token)). (x.1.0 ≡ whole g.edges) × Anything x.1.1) (some _ _ (whole g.nodes) r)
    (behind_takes (p.Sign k.Bar) (flat_map printed.edge g.edges ++ p.Sign k.CloseBracket ∷ []) bar _ (λ (x : Ranged (List EdgeDecl) × Token). (x.0 ≡ whole g.edges) × Anything x.1) (λ start. refl)
    (then_takes (flat_map printed.edge g.edges) (p.Sign k.CloseBracket ∷ []) _ _ (λ x. x ≡ whole g.edges) Anything (some _ _ (whole g.edges) s) (sign_takes (p.Sign k.CloseBracket) close_bracket (λ start. refl)))))))))

pub good_graph : (g : GraphDecl) → IsGoodGraph g → Roomy (λ _ m. Reads (printed.graph g) (shape_of (grammar.graph (list m))) (whole g))
good_graph g h =
    becomes (λ _ m. AllByRecursion (λ n. Reads (printed.node n) (shape_of (grammar.node (list m))) (whole n)) g.nodes × AllByRecursion (λ e. Reads (printed.edge e) (shape_of (grammar.edge (list m))) (whole e)) g.edges) _
    (λ _ m r. subst (λ (ps : List Piece). Reads ps (shape_of (grammar.graph (list m))) (whole g)) (graph_is g) (graph_reads m g (nodes_read m g.nodes r.0) (edges_read m g.edges r.1)))
    (together _ _
    (all_roomy (λ n _ m. Reads (printed.node n) (shape_of (grammar.node (list m))) (whole n)) g.nodes (all_into IsGoodNode (λ n. Roomy (λ _ m. Reads (printed.node n) (shape_of (grammar.node (list m))) (whole n))) good_node g.nodes h.nodes))
    (all_roomy (λ e _ m. Reads (printed.edge e) (shape_of (grammar.edge (list m))) (whole e)) g.edges (all_into IsGoodEdge (λ e. Roomy (λ _ m. Reads (printed.edge e) (shape_of (grammar.edge (list m))) (whole e))) good_edge g.edges h.edges)))

pub graph_well : (g : GraphDecl) → IsGoodGraph g → AreWell (printed.graph g)
graph_well g h =
    subst AreWell (graph_is g) (
      open_bracket_well,
      well_append (flat_map printed.node g.nodes) _ (well_flat printed.node g.nodes (all_into IsGoodNode (λ n. AreWell (printed.node n)) node_well g.nodes h.nodes))
          (bar_well, well_append (flat_map printed.edge g.edges) _ (well_flat printed.edge g.edges (all_into IsGoodEdge (λ e. AreWell (printed.edge e)) edge_well g.edges h.edges)) (close_bracket_well, tt)),
    )
