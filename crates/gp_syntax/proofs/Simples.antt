-- A label is simple exactly where the clauses on types and on simple left labels hold.
use Rattle.std.proofs.Common.{◌≡◌, ◌↔◌, ℕ, ◌+◌, ◌≤◌, true, List, [], ◌∷◌, refl, arith}
use Rattle.gp_syntax.specs.declared.kinds.VariableType.{VariableType}
use Rattle.gp_syntax.specs.declared.kinds.VariableType.TheVariants as types
use Rattle.gp_syntax.specs.Expression.{Expression, Number, Text, Variable, Negated, Dot, Empty, Join}
use Rattle.gp_syntax.specs.Typing.{is_subtype, type_of, IsWellTyped}
use Rattle.gp_syntax.specs.Simple.{lists_of, strings_in, lists_in, IsText, IsSimple, HasNoOperation, all_lists_in, HasOneString, MeetsClause}

module _ {Ref : Type 0} (t : Ref → VariableType) where
  literal_type : (s : List ℕ) → is_subtype (type_of t (Text s)) types.String ≡ true
  literal_type [] = refl
  literal_type (c ∷ []) = refl
  literal_type (c ∷ d ∷ s) = refl

  no_lists : (k : VariableType) → is_subtype k types.String ≡ true → lists_of k ≡ 0
  no_lists types.String h = refl
  no_lists types.Char h = refl
  no_lists other h = absurd cc

  at_most_one : (k : VariableType) → lists_of k ≤ 1
  at_most_one types.List = omega arith
  at_most_one other = omega arith

  record TextFacts (e : Expression Ref) : Type 0 where
    text : is_subtype (type_of t e) types.String ≡ true
    typed : IsWellTyped t e
    no_operation : HasNoOperation e
    none : all_lists_in t e ≡ 0

  text_facts : (e : Expression Ref) → IsText t e → TextFacts e
  text_facts (Text s) c = record { text = literal_type s; typed = tt; no_operation = tt; none = refl }
  text_facts (Variable x) c = record { text = c; typed = tt; no_operation = tt; none = no_lists (t x) c }
  text_facts (Dot d e) c =
      let x = text_facts d c.0 in
      let y = text_facts e c.1 in
      let k = x.none in
      let l = y.none in
      record { text = refl; typed = (x.text, y.text, x.typed, y.typed); no_operation = (x.no_operation, y.no_operation); none = omega arith }
  text_facts other c = absurd c

  text_from : (e : Expression Ref) → is_subtype (type_of t e) types.String ≡ true → IsWellTyped t e → HasNoOperation e → strings_in t e ≤ 1 → IsText t e
  text_from (Text s) h k n o = tt
  text_from (Variable x) h k n o = h
  text_from (Dot d e) h k n o = (text_from d k.0 k.2 n.0 (omega arith), text_from e k.1 k.3 n.1 (omega arith), o)
  text_from other h k n o = absurd cc

  -- list variables of a typed label stand outside chains of strings
  same_lists : (e : Expression Ref) → IsSimple t e → all_lists_in t e ≡ lists_in t e
  same_lists (Variable x) c = refl
  same_lists (Dot d e) c = (text_facts (Dot d e) c).none
  same_lists (Join d e) c = λ i. same_lists d c.0 i + same_lists e c.1 i
  same_lists other c = refl

  simple_meets : (e : Expression Ref) → IsSimple t e → MeetsClause t e
  simple_meets (Number z) c = record { typed = tt; no_operation = tt; one_list = omega arith; one_string = tt }
  simple_meets (Text s) c = record { typed = tt; no_operation = tt; one_list = omega arith; one_string = tt }
  simple_meets (Variable x) c = record { typed = tt; no_operation = tt; one_list = at_most_one (t x); one_string = tt }
  simple_meets (Negated (Number z)) c = record { typed = (refl, tt); no_operation = tt; one_list = omega arith; one_string = tt }
  simple_meets (Dot d e) c =
      let f = text_facts (Dot d e) c in
      let n = f.none in
      record { typed = f.typed; no_operation = f.no_operation; one_list = omega arith; one_string = c.2 }
  simple_meets Empty c = record { typed = tt; no_operation = tt; one_list = omega arith; one_string = tt }
  simple_meets (Join d e) c =
      let x = simple_meets d c.0 in
      let y = simple_meets e c.1 in
      let s = same_lists (Join d e) c in
      let m = c.2 in
      record { typed = (x.typed, y.typed); no_operation = (x.no_operation, y.no_operation); one_list = omega arith; one_string = (x.one_string, y.one_string) }
  simple_meets other c = absurd c

  meets_simple : (e : Expression Ref) → IsWellTyped t e → HasNoOperation e → all_lists_in t e ≤ 1 → HasOneString t e → IsSimple t e
  meets_simple (Number z) k n l s = tt
  meets_simple (Text u) k n l s = tt
  meets_simple (Variable x) k n l s = tt
  meets_simple (Negated (Number z)) k n l s = tt
  meets_simple (Dot d e) k n l s = text_from (Dot d e) refl k n s
  meets_simple Empty k n l s = tt
  meets_simple (Join d e) k n l s =
      let x = meets_simple d k.0 n.0 (omega arith) s.0 in
      let y = meets_simple e k.1 n.1 (omega arith) s.1 in
      let a = same_lists d x in
      let b = same_lists e y in
      (x, y, omega arith)
  meets_simple other k n l s = absurd n

  pub simple_iff : (e : Expression Ref) → IsSimple t e ↔ MeetsClause t e
  simple_iff e = (simple_meets e, λ h. meets_simple e h.typed h.no_operation h.one_list h.one_string)
