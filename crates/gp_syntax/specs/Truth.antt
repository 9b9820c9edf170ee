-- The truth of a condition (Plump 2012, section 3: conditions of rule schemata).
use Rattle.std.specs.Prelude.{ℕ, int_lt, int_le, ◌==◌, ◌&&◌, not, Bool, true, false, if◌then◌else◌, List}
use Rattle.std.specs.List.{list_any}
use Rattle.std.specs.FinMap.{entries}
use Rattle.gp_values.specs.declared.atom.Atom.{Atom}
use Rattle.gp_values.specs.declared.marks.EdgeMark.{EdgeMark}
use Rattle.gp_values.specs.Atoms.{same_list}
use Rattle.gp_values.specs.Marks.{edge_mark_rank}
use Rattle.gp_values.specs.Graph.{Graph, Edge}
use Rattle.gp_syntax.specs.declared.kinds.Comparison.{Comparison}
use Rattle.gp_syntax.specs.declared.kinds.Comparison.TheVariants as comparisons
use Rattle.gp_syntax.specs.Expression.{MarkPattern, Marked, AnyMark, Condition, Holds, HasType, HasEdge, HasEdgeWith, Compared, Not, And, Or}
use Rattle.gp_syntax.specs.Value.{Setting, Valued, Value, ◌>>=◌, value_of, image_at, is_of, integer}

abbrev pub compared : Comparison → List Atom → List Atom → Bool
compared comparisons.Equal v w = same_list v w
compared comparisons.NotEqual v w = not (same_list v w)
compared comparisons.Less v w = int_lt (integer v) (integer w)
compared comparisons.LessEqual v w = int_le (integer v) (integer w)
compared comparisons.Greater v w = int_lt (integer w) (integer v)
compared comparisons.GreaterEqual v w = int_le (integer w) (integer v)

-- some edge goes from the one node to the other
abbrev pub has_edge : Graph → ℕ → ℕ → Bool
has_edge g a b = list_any (λ (e : ℕ × Edge). e.1.source == a && e.1.target == b) (entries g.edges)

-- the edge's mark is the one written, none where none is written; `any` takes each
abbrev pub has_mark : MarkPattern EdgeMark → EdgeMark → Bool
has_mark (Marked mark) found = edge_mark_rank mark == edge_mark_rank found
has_mark AnyMark found = true

-- and some such edge has that list and that mark
abbrev pub has_edge_with : Graph → ℕ → ℕ → List Atom → MarkPattern EdgeMark → Bool
has_edge_with g a b v mark =
    list_any (λ (e : ℕ × Edge). (e.1.source == a && e.1.target == b) && (same_list e.1.label v && has_mark mark e.1.mark)) (entries g.edges)

-- `and` and `or` value the second part only when it is needed.
abbrev pub truth_of : Condition ℕ (MarkPattern EdgeMark) → Setting → Valued Bool
truth_of Holds s = Value true
truth_of (HasType type e) s = value_of e s >>= λ v. Value (is_of type v)
truth_of (HasEdge a b) s = Value (has_edge s.graph (image_at s a) (image_at s b))
truth_of (HasEdgeWith a b e mark) s = value_of e s >>= λ v. Value (has_edge_with s.graph (image_at s a) (image_at s b) v mark)
truth_of (Compared op d e) s = value_of d s >>= λ v. value_of e s >>= λ w. Value (compared op v w)
truth_of (Not c) s = truth_of c s >>= λ x. Value (not x)
truth_of (And c d) s = truth_of c s >>= λ x. if x then truth_of d s else Value false
truth_of (Or c d) s = truth_of c s >>= λ x. if x then Value true else truth_of d s
