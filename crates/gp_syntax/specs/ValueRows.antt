-- Worked examples of values and conditions: what the definitions say of small ones, to be compared with what is meant.
use Rattle.std.specs.Prelude.{◌≡◌, ℕ, ℤ, pos, negsuc, ◌-◌, ◌^◌, true, false, [], ◌∷◌, codes}
use Rattle.gp_values.specs.declared.atom.Atom.TheVariants.{Int, Str}
use Rattle.gp_values.specs.declared.marks.EdgeMark.{EdgeMark}
use Rattle.gp_values.specs.declared.marks.EdgeMark.TheVariants as edge_marks
use Rattle.gp_values.specs.Graph.{Edge, empty_graph}
use Rattle.gp_syntax.specs.declared.kinds.Comparison.TheVariants as comparisons
use Rattle.gp_syntax.specs.declared.kinds.NumberKind.TheVariants.{PastBits, ZeroDivisor}
use Rattle.gp_syntax.specs.declared.kinds.VariableType.TheVariants as types
use Rattle.gp_syntax.specs.Expression.{MarkPattern, Marked, AnyMark, Expression, Number, Text, Variable, In_degree, Out_degree, Length_of, Negated, Plus, Minus, Times, Over, Dot, Empty, Join, Condition, HasType, HasEdge, HasEdgeWith, Compared, Not, And, Or}
use Rattle.gp_syntax.specs.Value.{Setting, Value, NoValue, number, value_of}
use Rattle.gp_syntax.specs.Truth.{truth_of}
use Rattle.gp_syntax.specs.Rows.{two_nodes}

-- ---- integers

-- no variables, nodes and edges
abbrev pub nowhere : Setting
nowhere = record { types = []; assigned = []; images = []; graph = empty_graph }

abbrev pub int : ℕ → Expression ℕ
int n = Number (pos n)

abbrev pub minus : ℕ → Expression ℕ
minus n = Negated (Number (pos n))

-- 2^127 - 1 and -2^127
abbrev pub greatest : Expression ℕ
greatest = int (2 ^ 127 - 1)

abbrev pub least : Expression ℕ
least = Number (negsuc (2 ^ 127 - 1))

-- Arithmetic has no value past 128 bits.
pub record ArithmeticHasEnds : Type 0 where
  pub sum : value_of (Plus (int (2 ^ 127 - 2)) (int 1)) nowhere ≡ Value (number (pos (2 ^ 127 - 1)))
  pub sum_past : value_of (Plus greatest (int 1)) nowhere ≡ NoValue PastBits
  pub difference : value_of (Minus (minus (2 ^ 127 - 1)) (int 1)) nowhere ≡ Value (number (negsuc (2 ^ 127 - 1)))
  pub difference_past : value_of (Minus least (int 1)) nowhere ≡ NoValue PastBits
  pub product : value_of (Times (int (2 ^ 63)) (minus (2 ^ 64))) nowhere ≡ Value (number (negsuc (2 ^ 127 - 1)))
  pub product_past : value_of (Times (int (2 ^ 63)) (int (2 ^ 64))) nowhere ≡ NoValue PastBits
  pub quotient : value_of (Over least (int 1)) nowhere ≡ Value (number (negsuc (2 ^ 127 - 1)))
  pub quotient_past : value_of (Over least (minus 1)) nowhere ≡ NoValue PastBits
  pub negation_past : value_of (Negated least) nowhere ≡ NoValue PastBits

-- Division truncates towards zero, and has no value by zero.
pub record DivisionTruncates : Type 0 where
  pub plus_plus : value_of (Over (int 7) (int 2)) nowhere ≡ Value (number (pos 3))
  pub minus_plus : value_of (Over (minus 7) (int 2)) nowhere ≡ Value (number (negsuc 2))
  pub plus_minus : value_of (Over (int 7) (minus 2)) nowhere ≡ Value (number (negsuc 2))
  pub minus_minus : value_of (Over (minus 7) (minus 2)) nowhere ≡ Value (number (pos 3))
  pub by_zero : value_of (Over (int 0) (int 0)) nowhere ≡ NoValue ZeroDivisor

-- Of two operands without a value the left one tells the kind.
pub record FirstKindIsTold : Type 0 where
  pub divisor_first : value_of (Plus (Over (int 1) (int 0)) (Plus greatest (int 1))) nowhere ≡ NoValue ZeroDivisor
  pub bits_first : value_of (Join (Plus greatest (int 1)) (Over (int 1) (int 0))) nowhere ≡ NoValue PastBits

-- ---- length and degrees

-- a list, an atom that is a string, an atom that is an integer, an integer, a string and a char
abbrev pub six_variables : Setting
six_variables = record {
  types = types.List ∷ types.Atom ∷ types.Atom ∷ types.Int ∷ types.String ∷ types.Char ∷ [];
  assigned = (Int (pos 1) ∷ Str (codes "ab") ∷ []) ∷ (Str (codes "abc") ∷ []) ∷ (Int (pos 70) ∷ []) ∷ (Int (pos 70) ∷ []) ∷ (Str [] ∷ []) ∷ (Str (codes "x") ∷ []) ∷ [];
  images = [];
  graph = empty_graph;
}

pub record LengthGoesByType : Type 0 where
  pub of_list : value_of (Length_of 0) six_variables ≡ Value (number (pos 2))
  pub of_string_atom : value_of (Length_of 1) six_variables ≡ Value (number (pos 3))
  pub of_integer_atom : value_of (Length_of 2) six_variables ≡ Value (number (pos 1))
  pub of_integer : value_of (Length_of 3) six_variables ≡ Value (number (pos 1))
  pub of_string : value_of (Length_of 4) six_variables ≡ Value (number (pos 0))
  pub of_char : value_of (Length_of 5) six_variables ≡ Value (number (pos 1))

abbrev pub dashed : ℕ → ℕ → ℤ → Edge
dashed a b z = record { source = a; target = b; label = Int z ∷ []; mark = edge_marks.Dashed }

-- an edge from node 0 to node 1, and a loop at node 0; the left nodes lie there
abbrev pub with_loop : Setting
with_loop = record { types = []; assigned = []; images = 0 ∷ 1 ∷ []; graph = two_nodes ((0, dashed 0 1 (pos 3)) ∷ (1, dashed 0 0 (pos 4)) ∷ []) 2 }

-- A loop counts once in each.
pub record DegreesCountLoops : Type 0 where
  pub into_first : value_of (In_degree 0) with_loop ≡ Value (number (pos 1))
  pub out_of_first : value_of (Out_degree 0) with_loop ≡ Value (number (pos 2))
  pub into_second : value_of (In_degree 1) with_loop ≡ Value (number (pos 1))
  pub out_of_second : value_of (Out_degree 1) with_loop ≡ Value (number (pos 0))

-- ---- strings and lists

-- `.` joins strings, `:` lists; `empty` is the list of none.
pub record ChainsJoin : Type 0 where
  pub strings : value_of (Dot (Dot (Text (codes "a")) (Variable 4)) (Variable 5)) six_variables ≡ Value (Str (codes "ax") ∷ [])
  pub lists : value_of (Join (Join (Variable 0) Empty) (Text (codes "c"))) six_variables ≡ Value (Int (pos 1) ∷ Str (codes "ab") ∷ Str (codes "c") ∷ [])

-- ---- conditions

-- 10 / 0 > 1
abbrev pub faulty_test : Condition ℕ (MarkPattern EdgeMark)
faulty_test = Compared comparisons.Greater (Over (int 10) (int 0)) (int 1)

-- `and` and `or` value their second part only when it is needed.
pub record SecondPartWaits : Type 0 where
  pub and_false : truth_of (And (Compared comparisons.NotEqual (int 0) (int 0)) faulty_test) nowhere ≡ Value false
  pub and_true : truth_of (And (Compared comparisons.Equal (int 0) (int 0)) faulty_test) nowhere ≡ NoValue ZeroDivisor
  pub and_behind : truth_of (And faulty_test (Compared comparisons.NotEqual (int 0) (int 0))) nowhere ≡ NoValue ZeroDivisor
  pub or_true : truth_of (Or (Compared comparisons.Equal (int 0) (int 0)) faulty_test) nowhere ≡ Value true
  pub or_false : truth_of (Or (Compared comparisons.NotEqual (int 0) (int 0)) faulty_test) nowhere ≡ NoValue ZeroDivisor
  pub or_behind : truth_of (Or faulty_test (Compared comparisons.Equal (int 0) (int 0))) nowhere ≡ NoValue ZeroDivisor
  pub not_faulty : truth_of (Not faulty_test) nowhere ≡ NoValue ZeroDivisor

-- `edge` wants a direction, and with a label that list and that mark, where `any` takes each; the label is valued first.
pub record EdgeTests : Type 0 where
  pub there : truth_of (HasEdge 0 1) with_loop ≡ Value true
  pub back : truth_of (HasEdge 1 0) with_loop ≡ Value false
  pub loop : truth_of (HasEdge 0 0) with_loop ≡ Value true
  pub labelled : truth_of (HasEdgeWith 0 1 (int 3) (Marked edge_marks.Dashed)) with_loop ≡ Value true
  pub of_another : truth_of (HasEdgeWith 0 1 (int 4) (Marked edge_marks.Dashed)) with_loop ≡ Value false
  pub unmarked : truth_of (HasEdgeWith 0 1 (int 3) (Marked edge_marks.None)) with_loop ≡ Value false
  pub any : truth_of (HasEdgeWith 0 1 (int 3) AnyMark) with_loop ≡ Value true
  pub valued_first : truth_of (HasEdgeWith 1 0 (Over (int 1) (int 0)) AnyMark) with_loop ≡ NoValue ZeroDivisor

-- Tests of types look at the value; `=` compares lists, `<` integers.
pub record OtherTests : Type 0 where
  pub char : truth_of (HasType types.Char (Text (codes "a"))) nowhere ≡ Value true
  pub no_char : truth_of (HasType types.Char (Text (codes "ab"))) nowhere ≡ Value false
  pub string : truth_of (HasType types.String (Text [])) nowhere ≡ Value true
  pub no_string : truth_of (HasType types.String (int 1)) nowhere ≡ Value false
  pub integer : truth_of (HasType types.Int (minus 1)) nowhere ≡ Value true
  pub atom : truth_of (HasType types.Atom (Text (codes "ab"))) nowhere ≡ Value true
  pub no_atom : truth_of (HasType types.Atom (Join (int 1) (int 2))) nowhere ≡ Value false
  pub equal : truth_of (Compared comparisons.Equal (Join (int 1) Empty) (int 1)) nowhere ≡ Value true
  pub apart : truth_of (Compared comparisons.Equal (Text (codes "1")) (int 1)) nowhere ≡ Value false
  pub less : truth_of (Compared comparisons.Less (minus 2) (int 1)) nowhere ≡ Value true
  pub not_less : truth_of (Compared comparisons.Less (int 1) (int 1)) nowhere ≡ Value false
  pub at_most : truth_of (Compared comparisons.LessEqual (int 1) (int 1)) nowhere ≡ Value true
  pub greater : truth_of (Compared comparisons.Greater (int 10) (int 9)) nowhere ≡ Value true
  pub at_least : truth_of (Compared comparisons.GreaterEqual (int 1) (int 2)) nowhere ≡ Value false
