-- Rules are read without a doubt.
use Rattle.std.proofs.Common.{◌≡◌, true, false, List, [], ◌∷◌, ◌++◌, refl, ◌∙◌}
use Rattle.gp_tokens.specs.declared.token.Token.{Token}
use Rattle.gp_tokens.specs.Kinds.{same_kind}
use Rattle.gp_tokens.specs.Wants.{excludes, meets}
use Rattle.gp_tokens.specs.Shape.{Is, Many, none, more, ◌then◌, second_of}
use Rattle.gp_tokens.specs.Grammar.{Grammar, One, Made, ◌followed_by◌, shape_of}
use Rattle.gp_tokens.specs.Fits.{Fits, Avoids, AllAvoid, Lacks, Answers, BeginsBy, enders, nullable}
use Rattle.gp_tokens.specs.SignWants.{bar, less, open_sign, close_bracket}
use Rattle.gp_tokens.specs.Ahead.{stands_before}
use Rattle.gp_tokens.specs.Reading.{begins}
use Rattle.gp_tokens.proofs.Complete.{strong}
use Rattle.gp_tokens.proofs.Passing.{passes, want_met, stop_met}
use Rattle.gp_syntax.specs.declared.tree.NodeDecl.{NodeDecl}
use Rattle.gp_syntax.specs.declared.tree.GraphDecl.{GraphDecl}
use Rattle.gp_expressions.specs.declared.ranged.Ranged.{Ranged}
use Rattle.gp_expressions.specs.Signs.{where_word}
use Rattle.gp_expressions.specs.Expressions.{Tree, name}
use Rattle.gp_expressions.specs.Conditions.{CondTree, mark, label}
use Rattle.gp_program.specs.Rules.{coord, position, place, flag, node, edge, nodes, edges, body, two_bars, barred, graph, variable_type, variable_group, variables, interface, where_part, rule_with}
use Rattle.gp_expressions.proofs.ListLaws.{IsListPart}
use Rattle.gp_expressions.proofs.ConditionLaws.{label_part, avoid_both}

module _ (l : Grammar (Ranged Tree)) (p : IsListPart l) where
  label_lacks : Lacks bar (label l) × Lacks close_bracket (label l)
  unfolding name mark label excludes meets same_kind
  label_lacks = let a = p.bars in let b = p.brackets in search (a, b)

  node_fits : Fits (node l)
  unfolding coord position place flag name node excludes meets same_kind
  node_fits = let q = label_part l p in let f = q.fits in rw q.ends (search f)

  node_ends : enders (node l) ≡ []
  unfolding coord position place flag name node
  node_ends = let q = label_part l p in rw q.full refl

  node_lacks : Lacks bar (node l) × Lacks close_bracket (node l)
  unfolding coord position place flag name node excludes meets same_kind
  node_lacks = let a = label_lacks in search a

  node_avoids : Avoids bar (node l)
  unfolding node excludes meets same_kind
  node_avoids = search

  node_begins : BeginsBy open_sign (node l)
  unfolding node
  node_begins = refl

  node_full : nullable (node l) ≡ false
  unfolding node
  node_full = refl

  edge_fits : Fits (edge l)
  unfolding flag name edge excludes meets same_kind
  edge_fits = let q = label_part l p in let f = q.fits in rw q.ends (search f)

  edge_ends : enders (edge l) ≡ []
  unfolding flag name edge
  edge_ends = let q = label_part l p in rw q.full refl

  edge_lacks : Lacks bar (edge l) × Lacks close_bracket (edge l)
  unfolding flag name edge excludes meets same_kind
  edge_lacks = let a = label_lacks in search a

  edge_avoids : Avoids bar (edge l) × Avoids close_bracket (edge l)
  unfolding edge excludes meets same_kind
  edge_avoids = search

  edge_begins : BeginsBy open_sign (edge l)
  unfolding edge
  edge_begins = refl

  edge_full : nullable (edge l) ≡ false
  unfolding edge
  edge_full = refl

  nodes_lack : Lacks close_bracket (nodes l) × Lacks bar (nodes l)
  unfolding nodes
  nodes_lack = let a = node_lacks in search a

  edges_lack : Lacks close_bracket (edges l) × Lacks bar (edges l)
  unfolding edges
  edges_lack = let a = edge_lacks in search a

  nodes_fit : Fits (nodes l)
  unfolding nodes
  nodes_fit = let f = node_fits in let e = node_full in let b = node_begins in rw node_ends (search (f, e, b))

  edges_fit : Fits (edges l)
  unfolding edges
  edges_fit = let f = edge_fits in let e = edge_full in let b = edge_begins in rw edge_ends (search (f, e, b))

  nodes_end : enders (nodes l) ≡ open_sign ∷ []
  unfolding nodes
  nodes_end = rw node_ends refl

  edges_end : enders (edges l) ≡ open_sign ∷ []
  unfolding edges
  edges_end = rw edge_ends refl

  body_fits : Fits (body l)
  unfolding body excludes meets same_kind
  body_fits = let f = nodes_fit in let g = edges_fit in rw (nodes_end, edges_end) (search (f, g))

  body_avoids : Avoids less (body l)
  unfolding node nodes body excludes meets same_kind
  body_avoids = search

  body_ends : enders (body l) ≡ []
  unfolding body edges
  body_ends = refl

  -- ---- the bar behind a leading position

  another : (ts rest : List Token) (x : Ranged GraphDecl) → shape_of (body l) ts rest x → stands_before bar close_bracket ts ≡ true
  unfolding body nodes excludes meets same_kind
  another ts rest x h =
      let q = h.shape.second in
      passes bar close_bracket (nodes l) nodes_lack.0 nodes_lack.1 ts h.shape.mid h.of.0 h.shape.first ∙ want_met bar close_bracket refl h.shape.mid q.mid h.of.1.0 q.first

  both_bars : Answers two_bars true (Made second_of (One bar followed_by body l))
  both_bars ts rest x h = rw (h.shape.first.front, h.shape.first.is, another h.shape.mid rest h.of.1 h.shape.second) refl

  not_bar : (ts : List Token) → begins bar ts ≡ false → two_bars ts ≡ false
  not_bar [] e = refl
  not_bar (t ∷ ts) e = rw e refl

  one_bar : Answers two_bars false (body l)
  unfolding body nodes edges excludes meets same_kind
  one_bar ts rest x h = go ts h.shape.mid h.shape.first.of h.shape.first.shape h.shape.second
    where
      go : (ts mid : List Token) (rs : List (Ranged NodeDecl)) → Many (shape_of (node l)) ts mid rs → (Is bar then shape_of (edges l) then Is close_bracket) mid rest h.of.1 → two_bars ts ≡ false
      go ts _ _ none q =
          let k = q.second in
          let e : stands_before bar close_bracket q.mid ≡ false = passes bar close_bracket (edges l) edges_lack.0 edges_lack.1 q.mid k.mid h.of.1.1.0 k.first ∙ stop_met bar close_bracket k.mid rest h.of.1.1.1 k.second in
          rw (q.first.front, q.first.is, e) refl
      go ts mid _ (more n hs) q = not_bar ts ((strong bar (node l) node_full node_avoids ts _ _ n tt).none)

  barred_fits : Fits (barred l)
  unfolding barred
  barred_fits = let f = body_fits in search (f, both_bars, one_bar)

  graph_fits : Fits (graph l)
  unfolding coord position graph excludes meets same_kind
  graph_fits = let f = body_fits in let b = barred_fits in let a = body_avoids in search (f, b, a)

  graph_ends : enders (graph l) ≡ []
  unfolding coord position nodes edges body barred graph
  graph_ends = refl

  -- ---- rules

  pub rule_fits : (c : Grammar (Ranged CondTree)) → Fits c → Fits (rule_with l c)
  unfolding name variable_type variable_group variables interface where_part rule_with excludes meets same_kind
  rule_fits c f = let g = graph_fits in rw graph_ends (search (f, g))

  pub rule_full : (c : Grammar (Ranged CondTree)) → nullable (rule_with l c) ≡ false
  unfolding name rule_with
  rule_full c = refl

  pub rule_follow : (c : Grammar (Ranged CondTree)) → nullable c ≡ false → {A : Type 0} (g : Grammar A) → Avoids where_word g → AllAvoid (enders c) g → AllAvoid (enders (rule_with l c)) g
  unfolding name variable_group variables interface graph where_part rule_with
  rule_follow c f g a b = rw f (a, avoid_both (enders c ++ []) [] g (avoid_both (enders c) [] g b tt) tt)
