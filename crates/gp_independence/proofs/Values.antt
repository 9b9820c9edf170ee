-- Values and conditions over two graphs that are alike around the images.
use Rattle.std.proofs.Common.{◌≡◌, ℕ, suc, ◌<◌, true, false, if◌then◌else◌, List, [], ◌∷◌, refl, ap, arith}
use Rattle.std.specs.Prelude.{pos, neg_ℤ, ◌+ℤ◌, ◌-ℤ◌, ◌*ℤ◌, ◌++◌, not, All, slice_index}
use Rattle.std.specs.List.{list_any}
use Rattle.std.proofs.lemmas.Bool.{or_left, or_right}
use Rattle.gp_values.specs.declared.atom.Atom.{Atom}
use Rattle.gp_values.specs.declared.atom.Atom.TheVariants.{Str}
use Rattle.gp_values.specs.declared.marks.EdgeMark.{EdgeMark}
use Rattle.gp_values.specs.Graph.{Graph, in_degree, out_degree}
use Rattle.gp_syntax.specs.declared.kinds.VariableType.{VariableType}
use Rattle.gp_syntax.specs.Expression.{Expression, Number, Text, Variable, In_degree, Out_degree, Length_of, Negated, Plus, Minus, Times, Over, Dot, Empty, Join, MarkPattern, Condition, Holds, HasType, HasEdge, HasEdgeWith, Compared, Not, And, Or}
use Rattle.gp_syntax.specs.Value.{Assignment, Setting, Valued, Value, ◌>>=◌, value_of, is_of, integer, characters, number, ranged, quotient}
use Rattle.gp_syntax.specs.Truth.{truth_of, has_edge, has_edge_with, compared}
use Rattle.gp_syntax.specs.Step.{first_fault, kind_or}
use Rattle.gp_syntax.specs.WellFormed.{IsWithin, IsConditionWithin}
use Rattle.gp_independence.specs.Independent.{has_degree, asks_edges}

both : {A B C : Type 0} (f : A → B → Valued C) {v w : Valued A} {x y : Valued B} → v ≡ w → x ≡ y → (v >>= λ a. x >>= λ b. f a b) ≡ (w >>= λ a. y >>= λ b. f a b)
both f p q = λ i. p i >>= λ a. q i >>= λ b. f a b

-- the images of the first k left nodes have the same edges around them in both graphs
pub record AlikeAround (g h : Graph) (ns : List ℕ) (k : ℕ) : Type 0 where
  pub into : (i : ℕ) → i < k → in_degree h (slice_index ns i) ≡ in_degree g (slice_index ns i)
  pub out_of : (i : ℕ) → i < k → out_degree h (slice_index ns i) ≡ out_degree g (slice_index ns i)
  pub between : (i j : ℕ) → i < k → has_edge h (slice_index ns i) (slice_index ns j) ≡ has_edge g (slice_index ns i) (slice_index ns j)
  pub between_with : (i j : ℕ) (v : List Atom) (mark : MarkPattern EdgeMark) → i < k → has_edge_with h (slice_index ns i) (slice_index ns j) v mark ≡ has_edge_with g (slice_index ns i) (slice_index ns j) v mark

module _ (types : List VariableType) (a : Assignment) (ns : List ℕ) (g h : Graph) (n k : ℕ) where
  abbrev over : Graph → Setting
  over z = record { types = types; assigned = a; images = ns; graph = z }

  pub value_same : (e : Expression ℕ) → IsWithin n k e → (has_degree e ≡ true → AlikeAround g h ns k) → value_of e (over h) ≡ value_of e (over g)
  value_same (Number z) w f = refl
  value_same (Text t) w f = refl
  value_same (Variable x) w f = refl
  value_same (In_degree i) w f = ap (λ d. Value (number (pos d))) ((f refl).into i w)
  value_same (Out_degree i) w f = ap (λ d. Value (number (pos d))) ((f refl).out_of i w)
  value_same (Length_of x) w f = refl
  value_same (Negated e) w f = ap (λ v. v >>= λ x. ranged (neg_ℤ (integer x))) (value_same e w f)
  value_same (Plus d e) w f = both (λ x y. ranged (integer x +ℤ integer y)) (value_same d w.0 (λ t. f (or_left (has_degree d) (has_degree e) t))) (value_same e w.1 (λ t. f (or_right (has_degree d) (has_degree e) t)))
  value_same (Minus d e) w f = both (λ x y. ranged (integer x -ℤ integer y)) (value_same d w.0 (λ t. f (or_left (has_degree d) (has_degree e) t))) (value_same e w.1 (λ t. f (or_right (has_degree d) (has_degree e) t)))
  value_same (Times d e) w f = both (λ x y. ranged (integer x *ℤ integer y)) (value_same d w.0 (λ t. f (or_left (has_degree d) (has_degree e) t))) (value_same e w.1 (λ t. f (or_right (has_degree d) (has_degree e) t)))
  value_same (Over d e) w f = both (λ x y. quotient (integer x) (integer y)) (value_same d w.0 (λ t. f (or_left (has_degree d) (has_degree e) t))) (value_same e w.1 (λ t. f (or_right (has_degree d) (has_degree e) t)))
  value_same (Dot d e) w f = both (λ x y. Value (Str (characters x ++ characters y) ∷ [])) (value_same d w.0 (λ t. f (or_left (has_degree d) (has_degree e) t))) (value_same e w.1 (λ t. f (or_right (has_degree d) (has_degree e) t)))
  value_same Empty w f = refl
  value_same (Join d e) w f = both (λ x y. Value (x ++ y)) (value_same d w.0 (λ t. f (or_left (has_degree d) (has_degree e) t))) (value_same e w.1 (λ t. f (or_right (has_degree d) (has_degree e) t)))

  pub truth_same : (c : Condition ℕ (MarkPattern EdgeMark)) → IsConditionWithin n k c → (asks_edges c ≡ true → AlikeAround g h ns k) → truth_of c (over h) ≡ truth_of c (over g)
  truth_same Holds w f = refl
  truth_same (HasType type e) w f = ap (λ v. v >>= λ x. Value (is_of type x)) (value_same e w f)
  truth_same (HasEdge i j) w f = ap (λ b. Value b) ((f refl).between i j w.0)
  truth_same (HasEdgeWith i j e mark) w f =
      let s = f refl in
      let v = value_same e w.2 (λ t. s) in
      λ z. v z >>= λ x. Value (s.between_with i j x mark w.0 z)
  truth_same (Compared op d e) w f = both (λ x y. Value (compared op x y)) (value_same d w.0 (λ t. f (or_left (has_degree d) (has_degree e) t))) (value_same e w.1 (λ t. f (or_right (has_degree d) (has_degree e) t)))
  truth_same (Not c) w f = ap (λ v. v >>= λ x. Value (not x)) (truth_same c w f)
  truth_same (And c d) w f =
      let p = truth_same c w.0 (λ t. f (or_left (asks_edges c) (asks_edges d) t)) in
      let q = truth_same d w.1 (λ t. f (or_right (asks_edges c) (asks_edges d) t)) in
      λ z. p z >>= λ x. if x then q z else Value false
  truth_same (Or c d) w f =
      let p = truth_same c w.0 (λ t. f (or_left (asks_edges c) (asks_edges d) t)) in
      let q = truth_same d w.1 (λ t. f (or_right (asks_edges c) (asks_edges d) t)) in
      λ z. p z >>= λ x. if x then Value true else q z

  pub faults_same : (es : List (Expression ℕ)) → All (IsWithin n k) es → (list_any has_degree es ≡ true → AlikeAround g h ns k) → first_fault es (over h) ≡ first_fault es (over g)
  faults_same [] w f = refl
  faults_same (e ∷ es) w f =
      let p = value_same e (w 0 e (omega arith)) (λ t. f (or_left (has_degree e) (list_any has_degree es) t)) in
      let q = faults_same es (λ i d l. w (suc i) d (omega arith)) (λ t. f (or_right (has_degree e) (list_any has_degree es) t)) in
      λ z. kind_or (p z) (q z)
