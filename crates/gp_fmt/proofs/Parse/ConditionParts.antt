-- Each form of condition is read again where its parts are.
use Rattle.std.proofs.Common.{◌≡◌, ℕ, zero, suc, ◌<◌, ◌≤◌, Bool, true, false, List, [], ◌∷◌, ◌++◌, flat_map, Option, Some, None, refl, sym, ap, subst, ◌∙◌, arith, leb-false, ltb-false}
use Rattle.std.specs.Prelude.{nat_le, nat_lt}
use Rattle.std.specs.List.{AllByRecursion}
use Rattle.gp_tokens.specs.declared.keyword.Keyword.TheVariants as words
use Rattle.gp_tokens.specs.declared.token.Kind.TheVariants as k
use Rattle.gp_tokens.specs.declared.token.Token.{Token}
use Rattle.gp_tokens.specs.Kinds.{same_kind}
use Rattle.gp_values.specs.Names.{Name}
use Rattle.gp_tokens.specs.declared.want.Want.TheVariants as wants
use Rattle.gp_tokens.specs.Wants.{meets}
use Rattle.gp_tokens.specs.Grammar.{Grammar, shape_of}
use Rattle.gp_syntax.specs.declared.kinds.VariableType.{VariableType}
use Rattle.gp_syntax.specs.declared.kinds.Comparison.{Comparison}
use Rattle.gp_syntax.specs.declared.expression.Cond.TheVariants as c
use Rattle.gp_syntax.specs.declared.expression.Cond.TheOpen.{Cond-F}
use Rattle.gp_syntax.specs.declared.expression.Cond.TheFolds.{fold-roll-Cond}
use Rattle.gp_expressions.specs.declared.ranged.Ranged.{Ranged}
use Rattle.gp_expressions.specs.Ranges.{whole, with}
use Rattle.gp_expressions.specs.Signs.{not_word, and_word, or_word}
use Rattle.gp_expressions.specs.Expressions.{Tree, list, inner}
use Rattle.gp_expressions.specs.Conditions.{CondTree, no_condition, conjunction, disjunction, denied, negated_in, negation, condition, plain_test}
use Rattle.gp_expressions.specs.Conditions as grammar
use Rattle.gp_fmt.specs.declared.piece.Piece.{Piece}
use Rattle.gp_fmt.specs.declared.piece.Piece.TheVariants as p
use Rattle.gp_fmt.specs.Expressions.{Part, in_parentheses, in_parentheses_if, member, expression, type_word, comparison_sign, edge_test, test, not_level, and_level, or_level, condition_step, part_of_condition}
use Rattle.gp_fmt.specs.Expressions as printed
use Rattle.gp_fmt.specs.inside.Spelled.{IsWellSpelled}
use Rattle.gp_fmt.proofs.Parse.Printed.{Reads, Anything, some, made_into, one_reads, other_reads, behind_takes}
use Rattle.gp_fmt.proofs.Parse.Names.{IsNamed}
use Rattle.gp_fmt.proofs.Parse.Rooms.{Roomy, anywhere, becomes, deeper, together, all_roomy, of_lists}
use Rattle.gp_fmt.proofs.Parse.Chains.{one_alone, chain_reads}
use Rattle.gp_fmt.proofs.Parse.Levels.{descend}
use Rattle.gp_fmt.proofs.Parse.Spelling.{AreWell, well_append, well_flat, all_into, flat_map-map, enclosed_well, enclosed_if_well, comma_well}
use Rattle.gp_fmt.proofs.Parse.Parts.{IsGood}
use Rattle.gp_fmt.proofs.Parse.Labels.{enclosed_takes, IsMarked, list_reads, label_reads, label_well}
use Rattle.gp_fmt.proofs.Parse.Tests.{IsTested, type_reads, type_well, no_label_reads, some_label_reads, edge_reads, comparison_well, compared_reads}

-- ---- levels

abbrev pub condition_at : ℕ → ℕ → ℕ → Grammar (Ranged CondTree)
condition_at zero m n = disjunction (negation (list m) n)
condition_at (suc zero) m n = conjunction (negation (list m) n)
condition_at _ m n = negation (list m) n

module _ (m n : ℕ) (ts rest : List Token) (d : CondTree) where
  conjunction_of : shape_of (negation (list m) n) ts rest (whole d) → shape_of (conjunction (negation (list m) n)) ts rest (whole d)
  unfolding conjunction
  conjunction_of h = record { of = whole d ∷ []; shape = one_alone and_word _ ts rest _ h; made = refl }

  disjunction_of : shape_of (conjunction (negation (list m) n)) ts rest (whole d) → shape_of (disjunction (negation (list m) n)) ts rest (whole d)
  unfolding disjunction
  disjunction_of h = record { of = whole d ∷ []; shape = one_alone or_word _ ts rest _ h; made = refl }

  looser : (level : ℕ) → shape_of (condition_at (suc level) m n) ts rest (whole d) → shape_of (condition_at level m n) ts rest (whole d)
  looser zero h = disjunction_of h
  looser (suc zero) h = conjunction_of h
  looser (suc (suc level)) h = h

  at_looser : (level other : ℕ) → other ≤ level → shape_of (condition_at level m n) ts rest (whole d) → shape_of (condition_at other m n) ts rest (whole d)
  at_looser level other le h = descend (λ l. shape_of (condition_at l m n) ts rest (whole d)) looser level other le h

pub record IsGoodConditionPart (x : Part) (d : CondTree) : Type 0 where
  pub well : AreWell x.pieces
  pub reads : Roomy (λ m n. Reads x.pieces (shape_of (condition_at x.level m n)) (whole d))

abbrev pub IsGoodCondition : CondTree → Type 0
IsGoodCondition d = IsGoodConditionPart (part_of_condition d) d

good_by : (x : Part) (d : CondTree) → part_of_condition d ≡ x → IsGoodConditionPart x d → IsGoodCondition d
good_by x d same h = subst (λ (x : Part). IsGoodConditionPart x d) (sym same) h

-- all of it
pub as_condition : (x : Part) (d : CondTree) → IsGoodConditionPart x d → Roomy (λ m n. Reads x.pieces (shape_of (condition m n)) (whole d))
as_condition x d h = becomes (λ m n. Reads x.pieces (shape_of (condition_at x.level m n)) (whole d)) _ (λ m n r ts rest q. at_looser m n ts rest d x.level 0 (omega arith) (r ts rest q)) h.reads

-- ---- parts

enclosed_condition : (ps : List Piece) (m n : ℕ) (d : CondTree) → Reads ps (shape_of (condition m n)) (whole d) → Reads (in_parentheses ps) (shape_of (negation (list m) (suc n))) (whole d)
unfolding negation negated_in grammar.in_parentheses
enclosed_condition ps m n d h = other_reads _ _ _ _ (one_reads _ _ _ _ (made_into _ inner _ (λ (x : Token × (Ranged CondTree × Token)). (x.1.0 ≡ whole d) × Anything x.1.1) (whole d) (λ x j. j.0) (enclosed_takes ps _ (whole d) h)))

in_parentheses_reads : (x : Part) (d : CondTree) → IsGoodConditionPart x d → Roomy (λ m n. Reads (in_parentheses x.pieces) (shape_of (negation (list m) n)) (whole d))
in_parentheses_reads x d h =
    deeper (λ m n. Reads x.pieces (shape_of (condition m n)) (whole d)) (λ m n. Reads (in_parentheses x.pieces) (shape_of (negation (list m) n)) (whole d))
    (λ m n r. enclosed_condition x.pieces m n d r) (as_condition x d h)

member_reads : (level : ℕ) → level ≤ 1 → (x : Part) (d : CondTree) → IsGoodConditionPart x d → Roomy (λ m n. Reads (member level x) (shape_of (condition_at (suc level) m n)) (whole d))
member_reads level le x d h = go (nat_le x.level level) refl
  where
    go : (b : Bool) → nat_le x.level level ≡ b → Roomy (λ m n. Reads (in_parentheses_if b x.pieces) (shape_of (condition_at (suc level) m n)) (whole d))
    go true _ =
        becomes (λ m n. Reads (in_parentheses x.pieces) (shape_of (negation (list m) n)) (whole d)) _
        (λ m n r ts rest q. at_looser m n ts rest d 2 (suc level) (omega arith) (r ts rest q)) (in_parentheses_reads x d h)
    go false same =
        let above : level < x.level = leb-false x.level level same in
        becomes (λ m n. Reads x.pieces (shape_of (condition_at x.level m n)) (whole d)) _ (λ m n r ts rest q. at_looser m n ts rest d x.level (suc level) above (r ts rest q)) h.reads

operand_reads : (x : Part) (d : CondTree) → IsGoodConditionPart x d → Roomy (λ m n. Reads (printed.operand not_level x) (shape_of (negation (list m) n)) (whole d))
operand_reads x d h = go (nat_lt x.level not_level) refl
  where
    go : (b : Bool) → nat_lt x.level not_level ≡ b → Roomy (λ m n. Reads (in_parentheses_if b x.pieces) (shape_of (negation (list m) n)) (whole d))
    go true _ = in_parentheses_reads x d h
    go false same =
        let above : 2 ≤ x.level = ltb-false x.level 2 same in
        becomes (λ m n. Reads x.pieces (shape_of (condition_at x.level m n)) (whole d)) _ (λ m n r ts rest q. at_looser m n ts rest d x.level 2 above (r ts rest q)) h.reads

-- ---- tests

test_reads : (ps : List Piece) (m n : ℕ) (d : CondTree) → Reads ps (shape_of (plain_test (list m))) (whole d) → Reads ps (shape_of (negation (list m) (suc n))) (whole d)
unfolding negation negated_in
test_reads ps m n d h = other_reads _ _ _ _ (other_reads _ _ _ _ h)

test_part : (ps : List Piece) (d : CondTree) → AreWell ps → Roomy (λ m n. Reads ps (shape_of (plain_test (list n))) (whole d)) → IsGoodConditionPart (test ps) d
test_part ps d w h = record {
  well = w;
  reads = deeper (λ m n. Reads ps (shape_of (plain_test (list m))) (whole d)) (λ m n. Reads ps (shape_of (negation (list m) n)) (whole d)) (λ m n r. test_reads ps m n d r)
      (of_lists (λ n. Reads ps (shape_of (plain_test (list n))) (whole d)) h);
}

pub good_type : (type : VariableType) (d : Tree) → IsTested type → IsGood d → IsGoodCondition (c.HasType type d)
unfolding part_of_condition
good_type type d t h =
    good_by (test (type_word type ∷ in_parentheses (expression d))) (c.HasType type d) (ap part_of_condition (sym (c.rolls-HasType type d)) ∙ fold-roll-Cond Name (Option Name) Part condition_step (Cond-F.HasType type d))
    (test_part _ (c.HasType type d) (type_well type, enclosed_well (expression d) h.well) (becomes (λ m n. Reads (expression d) (shape_of (list n)) (whole d)) _ (λ m n r. type_reads n d r type t) (list_reads d h)))

edge_well : (source target : Name) (behind : List Piece) → IsNamed wants.Item source → IsNamed wants.Item target → AreWell behind → AreWell (edge_test source target behind).pieces
edge_well source target behind hs ht w = (tt, enclosed_well (p.Name source ∷ p.Sign k.Comma ∷ p.Name target ∷ behind) (hs.word, (comma_well, (ht.word, w))))

pub good_edge : (source target : Name) → IsNamed wants.Item source → IsNamed wants.Item target → IsGoodCondition (c.HasEdge source target)
unfolding part_of_condition
good_edge source target hs ht =
    good_by (edge_test source target []) (c.HasEdge source target) (ap part_of_condition (sym (c.rolls-HasEdge source target)) ∙ fold-roll-Cond Name (Option Name) Part condition_step (Cond-F.HasEdge source target))
    (test_part _ (c.HasEdge source target) (edge_well source target [] hs ht tt) (anywhere _ (λ m n. edge_reads n source target [] None hs ht (no_label_reads n))))

pub good_edge_with : (source target : Name) (d : Tree) (w : Option Name) → IsNamed wants.Item source → IsNamed wants.Item target → IsGood d → IsMarked w → IsGoodCondition (c.HasEdgeWith source target d w)
unfolding part_of_condition
good_edge_with source target d w hs ht h j =
    good_by (edge_test source target (p.Sign k.Comma ∷ printed.label d w)) (c.HasEdgeWith source target d w)
    (ap part_of_condition (sym (c.rolls-HasEdgeWith source target d w)) ∙ fold-roll-Cond Name (Option Name) Part condition_step (Cond-F.HasEdgeWith source target d w))
    (test_part _ (c.HasEdgeWith source target d w) (edge_well source target (p.Sign k.Comma ∷ printed.label d w) hs ht (comma_well, label_well d w h j))
    (becomes (λ m n. Reads (printed.label d w) (shape_of (grammar.label (list n))) (whole d, w)) _ (λ m n r. edge_reads n source target (p.Sign k.Comma ∷ printed.label d w) (Some (whole d, w)) hs ht (some_label_reads n d w r)) (label_reads d w h j)))

pub good_compared : (sign : Comparison) (d e : Tree) → IsGood d → IsGood e → IsGoodCondition (c.Compared sign d e)
unfolding part_of_condition
good_compared sign d e h j =
    good_by (test (expression d ++ comparison_sign sign ∷ expression e)) (c.Compared sign d e) (ap part_of_condition (sym (c.rolls-Compared sign d e)) ∙ fold-roll-Cond Name (Option Name) Part condition_step (Cond-F.Compared sign d e))
    (test_part _ (c.Compared sign d e) (well_append (expression d) (comparison_sign sign ∷ expression e) h.well (comparison_well sign, j.well))
    (becomes (λ m n. Reads (expression d) (shape_of (list n)) (whole d) × Reads (expression e) (shape_of (list n)) (whole e)) _ (λ m n r. compared_reads n sign d e r.0 r.1)
    (together (λ m n. Reads (expression d) (shape_of (list n)) (whole d)) (λ m n. Reads (expression e) (shape_of (list n)) (whole e)) (list_reads d h) (list_reads e j))))

-- ---- not, and, or

not_reads : (ps : List Piece) (m n : ℕ) (d : CondTree) → Reads ps (shape_of (negation (list m) n)) (whole d) → Reads (p.Word words.Not ∷ ps) (shape_of (negation (list m) (suc n))) (whole (c.Not d))
unfolding negation negated_in meets same_kind
not_reads ps m n d h =
    one_reads _ _ _ _ (made_into _ denied _ (λ (x : Token × Ranged CondTree). x.1 ≡ whole d) _ (λ x j. ap (λ (r : Ranged CondTree). with c.Not r) j)
    (behind_takes (p.Word words.Not) ps not_word _ (λ x. x ≡ whole d) (λ start. refl) (some _ _ _ h)))

pub good_not : (d : CondTree) → IsGoodCondition d → IsGoodCondition (c.Not d)
unfolding part_of_condition
good_not d h =
    good_by (record { level = not_level; pieces = p.Word words.Not ∷ printed.operand not_level (part_of_condition d) }) (c.Not d) (ap part_of_condition (sym (c.rolls-Not d)) ∙ fold-roll-Cond Name (Option Name) Part condition_step (Cond-F.Not d))
    (record {
      well = (tt, enclosed_if_well (nat_lt (part_of_condition d).level not_level) (part_of_condition d).pieces h.well);
      reads = deeper (λ m n. Reads (printed.operand not_level (part_of_condition d)) (shape_of (negation (list m) n)) (whole d))
          (λ m n. Reads (p.Word words.Not ∷ printed.operand not_level (part_of_condition d)) (shape_of (negation (list m) n)) (whole (c.Not d)))
          (λ m n r. not_reads (printed.operand not_level (part_of_condition d)) m n d r) (operand_reads (part_of_condition d) d h);
    })

module _ (sign : Piece) (sign_well : IsWellSpelled sign) (level : ℕ) (le : level ≤ 1) (make : CondTree → List CondTree → CondTree) (x y : CondTree) (ys : List CondTree) where
  abbrev inside : CondTree → List Piece
  inside d = member level (part_of_condition d)

  abbrev pieces : List Piece
  pieces = inside x ++ flat_map (λ y. sign ∷ inside y) (y ∷ ys)

  abbrev MemberReads : CondTree → ℕ → ℕ → Type 0
  MemberReads d m n = Reads (inside d) (shape_of (condition_at (suc level) m n)) (whole d)

  chain_part : ((m n : ℕ) → MemberReads x m n → AllByRecursion (λ y. MemberReads y m n) (y ∷ ys) → Reads pieces (shape_of (condition_at level m n)) (whole (make x (y ∷ ys))))
      → IsGoodCondition x → AllByRecursion IsGoodCondition (y ∷ ys) → IsGoodConditionPart (record { level = level; pieces = pieces }) (make x (y ∷ ys))
  chain_part read h hs = record {
    well = well_append (inside x) _ (enclosed_if_well (nat_le (part_of_condition x).level level) _ h.well)
        (well_flat (λ y. sign ∷ inside y) (y ∷ ys) (all_into IsGoodCondition (λ y. AreWell (sign ∷ inside y)) (λ y g. (sign_well, enclosed_if_well (nat_le (part_of_condition y).level level) _ g.well)) (y ∷ ys) hs));
    reads =
        becomes (λ m n. MemberReads x m n × AllByRecursion (λ y. MemberReads y m n) (y ∷ ys)) (λ m n. Reads pieces (shape_of (condition_at level m n)) (whole (make x (y ∷ ys)))) (λ m n r. read m n r.0 r.1)
        (together (MemberReads x) (λ m n. AllByRecursion (λ y. MemberReads y m n) (y ∷ ys)) (member_reads level le (part_of_condition x) x h)
        (all_roomy MemberReads (y ∷ ys) (all_into IsGoodCondition (λ y. Roomy (MemberReads y)) (λ y g. member_reads level le (part_of_condition y) y g) (y ∷ ys) hs)));
  }

and_is : (x : CondTree) (ys : List CondTree) → part_of_condition (c.And x ys) ≡ record { level = and_level; pieces = member and_level (part_of_condition x) ++ flat_map (λ y. p.Word words.And ∷ member and_level (part_of_condition y)) ys }
unfolding part_of_condition
and_is x ys =
    ap part_of_condition (sym (c.rolls-And x ys)) ∙ (fold-roll-Cond Name (Option Name) Part condition_step (Cond-F.And x ys)
    ∙ ap (λ (l : List Piece). record { level = and_level; pieces = member and_level (part_of_condition x) ++ l }) (flat_map-map (λ y. p.Word words.And ∷ member and_level y) part_of_condition ys))

or_is : (x : CondTree) (ys : List CondTree) → part_of_condition (c.Or x ys) ≡ record { level = or_level; pieces = member or_level (part_of_condition x) ++ flat_map (λ y. p.Word words.Or ∷ member or_level (part_of_condition y)) ys }
unfolding part_of_condition
or_is x ys =
    ap part_of_condition (sym (c.rolls-Or x ys)) ∙ (fold-roll-Cond Name (Option Name) Part condition_step (Cond-F.Or x ys)
    ∙ ap (λ (l : List Piece). record { level = or_level; pieces = member or_level (part_of_condition x) ++ l }) (flat_map-map (λ y. p.Word words.Or ∷ member or_level y) part_of_condition ys))

pub good_and : (x y : CondTree) (ys : List CondTree) → IsGoodCondition x → AllByRecursion IsGoodCondition (y ∷ ys) → IsGoodCondition (c.And x (y ∷ ys))
unfolding conjunction meets same_kind
good_and x y ys h hs =
    subst (λ (z : Part). IsGoodConditionPart z (c.And x (y ∷ ys))) (sym (and_is x (y ∷ ys)))
    (chain_part (p.Word words.And) tt and_level (omega arith) c.And x y ys
    (λ m n r rs. chain_reads no_condition c.And (p.Word words.And) and_word (λ start. refl) (shape_of (negation (list m) n)) (λ d. member and_level (part_of_condition d)) x y ys r rs) h hs)

pub good_or : (x y : CondTree) (ys : List CondTree) → IsGoodCondition x → AllByRecursion IsGoodCondition (y ∷ ys) → IsGoodCondition (c.Or x (y ∷ ys))
unfolding disjunction meets same_kind
good_or x y ys h hs =
    subst (λ (z : Part). IsGoodConditionPart z (c.Or x (y ∷ ys))) (sym (or_is x (y ∷ ys)))
    (chain_part (p.Word words.Or) tt or_level (omega arith) c.Or x y ys
    (λ m n r rs. chain_reads no_condition c.Or (p.Word words.Or) or_word (λ start. refl) (shape_of (conjunction (negation (list m) n))) (λ d. member or_level (part_of_condition d)) x y ys r rs) h hs)
