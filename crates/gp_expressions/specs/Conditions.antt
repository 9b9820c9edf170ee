-- The grammar of labels and of conditions.
use Rattle.std.specs.Prelude.{ℕ, zero, suc, ◌+◌, ◌-◌, nat_eq, Bool, true, false, ◌&&◌, if◌then◌else◌, List, [], ◌∷◌, Option, Some, None}
use Rattle.std.specs.List.{list_any}
use Rattle.gp_tokens.specs.declared.token.Token.{Token}
use Rattle.gp_tokens.specs.declared.want.Want.{Want}
use Rattle.gp_tokens.specs.declared.want.Want.TheVariants as wants
use Rattle.gp_tokens.specs.Grammar.{Grammar, One, Made, At, If, Absent, Separated, Never, ◌followed_by◌}
use Rattle.gp_tokens.specs.Shape.{second_of}
use Rattle.gp_tokens.specs.SignWants.{any_word, open_sign, close_sign, comma, hash, equal, less, greater}
use Rattle.gp_tokens.specs.Wants.{meets}
use Rattle.gp_values.specs.Names.{Name}
use Rattle.gp_syntax.specs.declared.kinds.VariableType.{VariableType}
use Rattle.gp_syntax.specs.declared.kinds.VariableType.TheVariants as types
use Rattle.gp_syntax.specs.declared.kinds.Comparison.{Comparison}
use Rattle.gp_syntax.specs.declared.kinds.Comparison.TheVariants as comparisons
use Rattle.gp_syntax.specs.declared.expression.Cond.{Cond}
use Rattle.gp_syntax.specs.declared.expression.Cond.TheVariants as c
use Rattle.gp_expressions.specs.declared.ranged.Ranged.{Ranged}
use Rattle.gp_expressions.specs.Ranges.{whole, with, both, chained}
use Rattle.gp_expressions.specs.Signs.{not_word, and_word, or_word, edge_word, int_word, char_word, string_word, atom_word, not_equal, less_equal, greater_equal}
use Rattle.gp_expressions.specs.Expressions.{Tree, name, inner, behind, list}

abbrev pub CondTree : Type 0
CondTree = Cond Name (Option Name)

-- ---- labels

abbrev pub word_of : Token × Name → Option Name
word_of (_, word) = Some word

-- ["#" Word]
unfoldable pub mark : Grammar (Option Name)
mark = At hash (Made word_of (One hash followed_by name any_word)) (Absent None)

-- Label = List ["#" Word]
unfoldable pub label : Grammar (Ranged Tree) → Grammar (Ranged Tree × Option Name)
label lists = lists followed_by mark

-- ---- tests

abbrev pub means : {A : Type 0} → A → Token → A
means x _ = x

-- "=" | "!=" | "<" | "<=" | ">" | ">="
unfoldable pub comparison : Grammar Comparison
comparison =
    At equal (Made (means comparisons.Equal) (One equal))
    (At not_equal (Made (means comparisons.NotEqual) (One not_equal))
    (At less (Made (means comparisons.Less) (One less))
    (At less_equal (Made (means comparisons.LessEqual) (One less_equal))
    (At greater (Made (means comparisons.Greater) (One greater))
    (Made (means comparisons.GreaterEqual) (One greater_equal))))))

abbrev pub compared : Ranged Tree × (Comparison × Ranged Tree) → Ranged CondTree
compared (r, (sign, s)) = both (c.Compared sign) r s

abbrev pub has_type : VariableType → Token × (Ranged Tree × Token) → Ranged CondTree
has_type type (_, (r, _)) = with (c.HasType type) r

abbrev pub joined_by : Name → Name → Option (Ranged Tree × Option Name) → Ranged CondTree
joined_by source target None = whole (c.HasEdge source target)
joined_by source target (Some (r, mark)) = with (λ e. c.HasEdgeWith source target e mark) r

abbrev pub has_edge : Token × (Token × (Name × (Token × (Name × (Option (Ranged Tree × Option Name) × Token))))) → Ranged CondTree
has_edge (_, (_, (source, (_, (target, (label, _)))))) = joined_by source target label

module _ (lists : Grammar (Ranged Tree)) where
  -- "(" List ")", behind a type
  unfoldable pub typed : VariableType → Grammar (Ranged CondTree)
  typed type = Made (has_type type) (One open_sign followed_by lists followed_by One close_sign)

  -- ["," Label]
  unfoldable pub edge_label : Grammar (Option (Ranged Tree × Option Name))
  edge_label = At comma (Made Some (behind comma (label lists))) (Absent None)

  -- "edge" "(" Item "," Item ["," Label] ")"
  unfoldable pub edge_test : Grammar (Ranged CondTree)
  edge_test = Made has_edge (One edge_word followed_by One open_sign followed_by name wants.Item followed_by One comma followed_by name wants.Item followed_by edge_label followed_by One close_sign)

  -- List ("=" | "!=" | "<" | "<=" | ">" | ">=") List
  unfoldable pub comparing : Grammar (Ranged CondTree)
  comparing = Made compared (lists followed_by comparison followed_by lists)

  -- Test = ("int" | "char" | "string" | "atom") "(" List ")" | "edge" "(" Item "," Item ["," Label] ")" | List Comparison List
  unfoldable pub plain_test : Grammar (Ranged CondTree)
  plain_test =
      At int_word (Made second_of (One int_word followed_by typed types.Int))
      (At char_word (Made second_of (One char_word followed_by typed types.Char))
      (At string_word (Made second_of (One string_word followed_by typed types.String))
      (At atom_word (Made second_of (One atom_word followed_by typed types.Atom))
      (At edge_word edge_test comparing))))

-- ---- whether a parenthesis encloses a condition

-- what stands in each condition and in no list
abbrev pub condition_signs : List Want
condition_signs =
    equal ∷ not_equal ∷ less ∷ less_equal ∷ greater ∷ greater_equal ∷ not_word ∷ and_word ∷ or_word ∷ edge_word ∷ int_word ∷ char_word ∷ string_word ∷ atom_word ∷ []

unfoldable pub tells : Token → Bool
tells t = list_any (λ w. meets w t) condition_signs

-- such a token comes before the partner of a parenthesis inside which so many more are open
abbrev pub encloses : ℕ → List Token → Bool
encloses n [] = false
encloses n (t ∷ ts) =
    if tells t then true else (if meets open_sign t then encloses (n + 1) ts else (if meets close_sign t then (if nat_eq n 0 then false else encloses (n - 1) ts) else encloses n ts))

-- a parenthesis comes next that encloses a condition
unfoldable pub condition_ahead : List Token → Bool
condition_ahead [] = false
condition_ahead (t ∷ ts) = meets open_sign t && encloses 0 ts

-- ---- conditions

-- what stands for a chain of none, which there is not
abbrev pub no_condition : CondTree
no_condition = c.HasEdge [] []

module _ (negation : Grammar (Ranged CondTree)) where
  -- Conj = Neg {"and" Neg}
  unfoldable pub conjunction : Grammar (Ranged CondTree)
  conjunction = Made (chained no_condition c.And) (Separated and_word negation)

  -- Cond = Conj {"or" Conj}
  unfoldable pub disjunction : Grammar (Ranged CondTree)
  disjunction = Made (chained no_condition c.Or) (Separated or_word conjunction)

  unfoldable pub in_parentheses : Grammar (Ranged CondTree)
  in_parentheses = Made inner (One open_sign followed_by disjunction followed_by One close_sign)

abbrev pub denied : Token × Ranged CondTree → Ranged CondTree
denied (_, r) = with c.Not r

-- Neg = "not" Neg | "(" Cond ")" | Test
unfoldable pub negated_in : Grammar (Ranged Tree) → Grammar (Ranged CondTree) → Grammar (Ranged CondTree)
negated_in lists negation = At not_word (Made denied (One not_word followed_by negation)) (If condition_ahead (in_parentheses negation) (plain_test lists))

-- the number is the room: one less at each bracket and each `not`
unfoldable pub negation : Grammar (Ranged Tree) → ℕ → Grammar (Ranged CondTree)
negation lists zero = Never
negation lists (suc n) = negated_in lists (negation lists n)

-- Cond, with so much room, and so much for lists
abbrev pub condition : ℕ → ℕ → Grammar (Ranged CondTree)
condition room n = disjunction (negation (list room) n)
