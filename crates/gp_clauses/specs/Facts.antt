-- What the clauses ask of an expression, operation by operation.
use Rattle.std.specs.Prelude.{ℕ, ◌+◌, ◌&&◌, Bool, true, false, nat_lt, nat_le, if◌then◌else◌}
use Rattle.gp_syntax.specs.declared.kinds.VariableType.{VariableType}
use Rattle.gp_syntax.specs.declared.kinds.VariableType.TheVariants as types
use Rattle.gp_syntax.specs.Expression.{Expression, Number}
use Rattle.gp_syntax.specs.Typing.{is_subtype, type_of}
use Rattle.gp_syntax.specs.Simple.{strings_in, all_lists_in}
use Rattle.gp_syntax.specs.Fault.{is_well_typed, has_no_operation, has_one_string}
use Rattle.gp_clauses.specs.declared.shape.Operation.{Operation}
use Rattle.gp_clauses.specs.declared.shape.Operation.TheVariants as operations
use Rattle.gp_clauses.specs.declared.facts.Facts.{Facts}

-- counted up to two
abbrev pub few : ℕ → ℕ
few n = if nat_lt n 2 then n else 2

abbrev pub is_numeral : {Ref : Type 0} → Expression Ref → Bool
is_numeral (Number z) = true
is_numeral other = false

abbrev pub facts_of : {Ref : Type 0} → (Ref → VariableType) → Expression Ref → Facts
facts_of t e = record {
  kind = type_of t e;
  is_typed = is_well_typed t e;
  is_numeral = is_numeral e;
  is_plain = has_no_operation e;
  lists = few (all_lists_in t e);
  strings = few (strings_in t e);
  has_one_string = has_one_string t e;
}

abbrev pub negated : Facts → Facts
negated e = record {
  kind = types.Int;
  is_typed = is_subtype e.kind types.Int && e.is_typed;
  is_numeral = false;
  is_plain = e.is_numeral;
  lists = 0;
  strings = 0;
  has_one_string = true;
}

abbrev pub arithmetic : Facts → Facts → Facts
arithmetic d e = record {
  kind = types.Int;
  is_typed = is_subtype d.kind types.Int && is_subtype e.kind types.Int && d.is_typed && e.is_typed;
  is_numeral = false;
  is_plain = false;
  lists = 0;
  strings = 0;
  has_one_string = true;
}

abbrev pub dotted : Facts → Facts → Facts
dotted d e = record {
  kind = types.String;
  is_typed = is_subtype d.kind types.String && is_subtype e.kind types.String && d.is_typed && e.is_typed;
  is_numeral = false;
  is_plain = d.is_plain && e.is_plain;
  lists = few (d.lists + e.lists);
  strings = few (d.strings + e.strings);
  has_one_string = nat_le (d.strings + e.strings) 1;
}

abbrev pub joined : Facts → Facts → Facts
joined d e = record {
  kind = types.List;
  is_typed = d.is_typed && e.is_typed;
  is_numeral = false;
  is_plain = d.is_plain && e.is_plain;
  lists = few (d.lists + e.lists);
  strings = 0;
  has_one_string = d.has_one_string && e.has_one_string;
}

abbrev pub combined : Operation → Facts → Facts → Facts
combined operations.Plus d e = arithmetic d e
combined operations.Minus d e = arithmetic d e
combined operations.Times d e = arithmetic d e
combined operations.Over d e = arithmetic d e
combined operations.Dot d e = dotted d e
combined operations.Join d e = joined d e
