-- Expressions and conditions, with chains grouped from the left. A reference names a variable or a left node: by its
-- name in a declaration, by its place in a rule.
use Rattle.std.specs.Prelude.{ℕ, ℤ, List}
use Rattle.gp_syntax.specs.declared.kinds.VariableType.{VariableType}
use Rattle.gp_syntax.specs.declared.kinds.Comparison.{Comparison}

-- a mark that is written, none where none is, or `any`
pub data MarkPattern (M : Type 0) : Type 0 where
  Marked : M → MarkPattern M
  AnyMark : MarkPattern M

pub data Expression (Ref : Type 0) : Type 0 where
  Number : ℤ → Expression Ref
  Text : List ℕ → Expression Ref
  Variable : Ref → Expression Ref
  In_degree : Ref → Expression Ref
  Out_degree : Ref → Expression Ref
  Length_of : Ref → Expression Ref
  Negated : Expression Ref → Expression Ref
  Plus : Expression Ref → Expression Ref → Expression Ref
  Minus : Expression Ref → Expression Ref → Expression Ref
  Times : Expression Ref → Expression Ref → Expression Ref
  Over : Expression Ref → Expression Ref → Expression Ref
  Dot : Expression Ref → Expression Ref → Expression Ref
  Empty : Expression Ref
  Join : Expression Ref → Expression Ref → Expression Ref

-- Mark: how the mark of an edge's label is given, by its word in a declaration, as a pattern in a rule
pub data Condition (Ref Mark : Type 0) : Type 0 where
  Holds : Condition Ref Mark
  HasType : VariableType → Expression Ref → Condition Ref Mark
  HasEdge : Ref → Ref → Condition Ref Mark
  HasEdgeWith : Ref → Ref → Expression Ref → Mark → Condition Ref Mark
  Compared : Comparison → Expression Ref → Expression Ref → Condition Ref Mark
  Not : Condition Ref Mark → Condition Ref Mark
  And : Condition Ref Mark → Condition Ref Mark → Condition Ref Mark
  Or : Condition Ref Mark → Condition Ref Mark → Condition Ref Mark

-- the expression with each variable and each node named otherwise
abbrev pub renamed : {A B : Type 0} → (A → B) → (A → B) → Expression A → Expression B
renamed v n (Number z) = Number z
renamed v n (Text s) = Text s
renamed v n (Variable x) = Variable (v x)
renamed v n (In_degree x) = In_degree (n x)
renamed v n (Out_degree x) = Out_degree (n x)
renamed v n (Length_of x) = Length_of (v x)
renamed v n (Negated e) = Negated (renamed v n e)
renamed v n (Plus d e) = Plus (renamed v n d) (renamed v n e)
renamed v n (Minus d e) = Minus (renamed v n d) (renamed v n e)
renamed v n (Times d e) = Times (renamed v n d) (renamed v n e)
renamed v n (Over d e) = Over (renamed v n d) (renamed v n e)
renamed v n (Dot d e) = Dot (renamed v n d) (renamed v n e)
renamed v n Empty = Empty
renamed v n (Join d e) = Join (renamed v n d) (renamed v n e)

abbrev pub renamed_condition : {A B M L : Type 0} → (A → B) → (A → B) → (M → L) → Condition A M → Condition B L
renamed_condition v n mark Holds = Holds
renamed_condition v n mark (HasType type e) = HasType type (renamed v n e)
renamed_condition v n mark (HasEdge a b) = HasEdge (n a) (n b)
renamed_condition v n mark (HasEdgeWith a b e m) = HasEdgeWith (n a) (n b) (renamed v n e) (mark m)
renamed_condition v n mark (Compared op d e) = Compared op (renamed v n d) (renamed v n e)
renamed_condition v n mark (Not c) = Not (renamed_condition v n mark c)
renamed_condition v n mark (And c d) = And (renamed_condition v n mark c) (renamed_condition v n mark d)
renamed_condition v n mark (Or c d) = Or (renamed_condition v n mark c) (renamed_condition v n mark d)
