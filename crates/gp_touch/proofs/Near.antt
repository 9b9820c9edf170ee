-- Values and conditions over two graphs that have the same edges between the images, and the same degrees there where they are
-- asked.
use Rattle.std.proofs.Common.{◌≡◌, ℕ, ◌<◌, Bool, true, false, if◌then◌else◌, List, [], ◌∷◌, refl, ap}
use Rattle.std.specs.Prelude.{pos, neg_ℤ, ◌+ℤ◌, ◌-ℤ◌, ◌*ℤ◌, ◌++◌, ◌||◌, not, slice_index}
use Rattle.std.proofs.lemmas.Bool.{or_left, or_right}
use Rattle.gp_values.specs.declared.atom.Atom.{Atom}
use Rattle.gp_values.specs.declared.atom.Atom.TheVariants.{Str}
use Rattle.gp_values.specs.declared.marks.EdgeMark.{EdgeMark}
use Rattle.gp_values.specs.Graph.{Graph, in_degree, out_degree}
use Rattle.gp_syntax.specs.declared.kinds.VariableType.{VariableType}
use Rattle.gp_syntax.specs.Expression.{Expression, Number, Text, Variable, In_degree, Out_degree, Length_of, Negated, Plus, Minus, Times, Over, Dot, Empty, Join, MarkPattern, Condition, Holds, HasType, HasEdge, HasEdgeWith, Compared, Not, And, Or}
use Rattle.gp_syntax.specs.Value.{Assignment, Setting, Valued, Value, ◌>>=◌, value_of, is_of, integer, characters, number, ranged, quotient}
use Rattle.gp_syntax.specs.Truth.{truth_of, has_edge, has_edge_with, compared}
use Rattle.gp_syntax.specs.Simple.{IsText, IsSimple}
use Rattle.gp_syntax.specs.WellFormed.{IsWithin, IsConditionWithin}
use Rattle.gp_independence.specs.Independent.{has_degree}
use Rattle.gp_touch.specs.Ends.{asks_degrees}

-- ---- simple labels ask no degrees

both_false : (a b : Bool) → a ≡ false → b ≡ false → (a || b) ≡ false
both_false false b p q = q
both_false true b p q = absurd cc

plain_text : (t : ℕ → VariableType) (e : Expression ℕ) → IsText t e → has_degree e ≡ false
plain_text t (Text s) h = refl
plain_text t (Variable x) h = refl
plain_text t (Dot d e) h = both_false (has_degree d) (has_degree e) (plain_text t d h.0) (plain_text t e h.1)
plain_text t other h = absurd h

pub plain : (t : ℕ → VariableType) (e : Expression ℕ) → IsSimple t e → has_degree e ≡ false
plain t (Number z) h = refl
plain t (Text s) h = refl
plain t (Variable x) h = refl
plain t (Negated (Number z)) h = refl
plain t (Dot d e) h = plain_text t (Dot d e) h
plain t Empty h = refl
plain t (Join d e) h = both_false (has_degree d) (has_degree e) (plain t d h.0) (plain t e h.1)
plain t other h = absurd h

-- ---- over two graphs

-- the images of the first k left nodes have the same degrees in both graphs
pub record HaveSameDegrees (g h : Graph) (ns : List ℕ) (k : ℕ) : Type 0 where
  pub into : (i : ℕ) → i < k → in_degree h (slice_index ns i) ≡ in_degree g (slice_index ns i)
  pub out_of : (i : ℕ) → i < k → out_degree h (slice_index ns i) ≡ out_degree g (slice_index ns i)

-- and tests for edges between them have one answer
pub record HaveSameBetween (g h : Graph) (ns : List ℕ) (k : ℕ) : Type 0 where
  pub edge : (i j : ℕ) → i < k → j < k → has_edge h (slice_index ns i) (slice_index ns j) ≡ has_edge g (slice_index ns i) (slice_index ns j)
  pub edge_with : (i j : ℕ) (v : List Atom) (mark : MarkPattern EdgeMark) → i < k → j < k → has_edge_with h (slice_index ns i) (slice_index ns j) v mark ≡ has_edge_with g (slice_index ns i) (slice_index ns j) v mark

either : {A B C : Type 0} (f : A → B → Valued C) {v w : Valued A} {x y : Valued B} → v ≡ w → x ≡ y → (v >>= λ a. x >>= λ b. f a b) ≡ (w >>= λ a. y >>= λ b. f a b)
either f p q = λ i. p i >>= λ a. q i >>= λ b. f a b

module _ (types : List VariableType) (a : Assignment) (ns : List ℕ) (g h : Graph) (n k : ℕ) where
  abbrev over : Graph → Setting
  over z = record { types = types; assigned = a; images = ns; graph = z }

  pub value_near : (e : Expression ℕ) → IsWithin n k e → (has_degree e ≡ true → HaveSameDegrees g h ns k) → value_of e (over h) ≡ value_of e (over g)
  value_near (Number z) w f = refl
  value_near (Text t) w f = refl
  value_near (Variable x) w f = refl
  value_near (In_degree i) w f = ap (λ d. Value (number (pos d))) ((f refl).into i w)
  value_near (Out_degree i) w f = ap (λ d. Value (number (pos d))) ((f refl).out_of i w)
  value_near (Length_of x) w f = refl
  value_near (Negated e) w f = ap (λ v. v >>= λ x. ranged (neg_ℤ (integer x))) (value_near e w f)
  value_near (Plus d e) w f = either (λ x y. ranged (integer x +ℤ integer y)) (value_near d w.0 (λ t. f (or_left (has_degree d) (has_degree e) t))) (value_near e w.1 (λ t. f (or_right (has_degree d) (has_degree e) t)))
  value_near (Minus d e) w f = either (λ x y. ranged (integer x -ℤ integer y)) (value_near d w.0 (λ t. f (or_left (has_degree d) (has_degree e) t))) (value_near e w.1 (λ t. f (or_right (has_degree d) (has_degree e) t)))
  value_near (Times d e) w f = either (λ x y. ranged (integer x *ℤ integer y)) (value_near d w.0 (λ t. f (or_left (has_degree d) (has_degree e) t))) (value_near e w.1 (λ t. f (or_right (has_degree d) (has_degree e) t)))
  value_near (Over d e) w f = either (λ x y. quotient (integer x) (integer y)) (value_near d w.0 (λ t. f (or_left (has_degree d) (has_degree e) t))) (value_near e w.1 (λ t. f (or_right (has_degree d) (has_degree e) t)))
  value_near (Dot d e) w f = either (λ x y. Value (Str (characters x ++ characters y) ∷ [])) (value_near d w.0 (λ t. f (or_left (has_degree d) (has_degree e) t))) (value_near e w.1 (λ t. f (or_right (has_degree d) (has_degree e) t)))
  value_near Empty w f = refl
  value_near (Join d e) w f = either (λ x y. Value (x ++ y)) (value_near d w.0 (λ t. f (or_left (has_degree d) (has_degree e) t))) (value_near e w.1 (λ t. f (or_right (has_degree d) (has_degree e) t)))

  pub truth_near : (c : Condition ℕ (MarkPattern EdgeMark)) → IsConditionWithin n k c → HaveSameBetween g h ns k → (asks_degrees c ≡ true → HaveSameDegrees g h ns k) → truth_of c (over h) ≡ truth_of c (over g)
  truth_near Holds w s f = refl
  truth_near (HasType type e) w s f = ap (λ v. v >>= λ x. Value (is_of type x)) (value_near e w f)
  truth_near (HasEdge i j) w s f = ap (λ b. Value b) (s.edge i j w.0 w.1)
  truth_near (HasEdgeWith i j e mark) w s f =
      let v = value_near e w.2 f in
      λ z. v z >>= λ x. Value (s.edge_with i j x mark w.0 w.1 z)
  truth_near (Compared op d e) w s f = either (λ x y. Value (compared op x y)) (value_near d w.0 (λ t. f (or_left (has_degree d) (has_degree e) t))) (value_near e w.1 (λ t. f (or_right (has_degree d) (has_degree e) t)))
  truth_near (Not c) w s f = ap (λ v. v >>= λ x. Value (not x)) (truth_near c w s f)
  truth_near (And c d) w s f =
      let p = truth_near c w.0 s (λ t. f (or_left (asks_degrees c) (asks_degrees d) t)) in
      let q = truth_near d w.1 s (λ t. f (or_right (asks_degrees c) (asks_degrees d) t)) in
      λ z. p z >>= λ x. if x then q z else Value false
  truth_near (Or c d) w s f =
      let p = truth_near c w.0 s (λ t. f (or_left (asks_degrees c) (asks_degrees d) t)) in
      let q = truth_near d w.1 s (λ t. f (or_right (asks_degrees c) (asks_degrees d) t)) in
      λ z. p z >>= λ x. if x then Value true else q z
