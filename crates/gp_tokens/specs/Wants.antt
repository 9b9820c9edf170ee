-- What a token has to be.
use Rattle.std.specs.Prelude.{Bool, true, false, not, ◌||◌, List, ℕ}
use Rattle.gp_tokens.specs.declared.token.Kind.{Kind}
use Rattle.gp_tokens.specs.declared.token.Kind.TheVariants as k
use Rattle.gp_tokens.specs.declared.token.Token.{Token}
use Rattle.gp_tokens.specs.Kinds.{same_kind}
use Rattle.gp_tokens.specs.Words.{keyword_text, is_word, is_item, is_rule_name, is_variable, is_procedure_name}
use Rattle.gp_tokens.specs.declared.want.Want.{Want}
use Rattle.gp_tokens.specs.declared.want.Want.TheVariants as want

-- the token is what is wanted
unfoldable pub meets : Want → Token → Bool
meets (want.Kind kind) t = same_kind t.kind kind
meets (want.Keyword word) t = is_word word t
meets want.Item t = is_item t
meets want.RuleName t = is_rule_name t
meets want.Variable t = is_variable t
meets want.ProcedureName t = is_procedure_name t

-- ---- which wants no token meets both of, told without a token

-- a token of this kind may meet it
abbrev pub may_be : Want → Kind → Bool
may_be (want.Kind a) kind = same_kind kind a
may_be (want.Keyword word) kind = same_kind kind k.Word
may_be want.Item kind = same_kind kind k.Number || same_kind kind k.Word
may_be want.RuleName kind = same_kind kind k.Word
may_be want.Variable kind = same_kind kind k.Word
may_be want.ProcedureName kind = same_kind kind k.Word

abbrev pub word_token : List ℕ → Token
word_token text = record { kind = k.Word; start = 0; text = text }

abbrev pub is_rule_want : Want → Bool
is_rule_want (want.Kind a) = false
is_rule_want (want.Keyword word) = false
is_rule_want want.Item = false
is_rule_want want.RuleName = true
is_rule_want want.Variable = false
is_rule_want want.ProcedureName = false

-- told by the first: by its kind, by the text of its word, or by the case of its first letter
abbrev pub rules_out : Want → Want → Bool
rules_out (want.Kind kind) other = not (may_be other kind)
rules_out (want.Keyword word) other = not (meets other (word_token (keyword_text word)))
rules_out want.Item other = false
rules_out want.RuleName other = false
rules_out want.Variable other = false
rules_out want.ProcedureName other = is_rule_want other

-- No token meets both. A proof at two wants that are written out is `refl`, under `unfolding excludes meets same_kind`.
unfoldable pub excludes : Want → Want → Bool
excludes a b = rules_out a b || rules_out b a
