-- Names of wants that the grammars of hosts and of programs share.
use Rattle.gp_tokens.specs.declared.keyword.Keyword.TheVariants as keywords
use Rattle.gp_tokens.specs.declared.token.Kind.TheVariants as kinds
use Rattle.gp_tokens.specs.declared.want.Want.{Want}
use Rattle.gp_tokens.specs.declared.want.Want.TheVariants as wants

abbrev pub number_sign : Want
number_sign = wants.Kind kinds.Number

abbrev pub string_sign : Want
string_sign = wants.Kind kinds.String

abbrev pub any_word : Want
any_word = wants.Kind kinds.Word

abbrev pub open_sign : Want
open_sign = wants.Kind kinds.OpenParenthesis

abbrev pub close_sign : Want
close_sign = wants.Kind kinds.CloseParenthesis

abbrev pub open_bracket : Want
open_bracket = wants.Kind kinds.OpenBracket

abbrev pub close_bracket : Want
close_bracket = wants.Kind kinds.CloseBracket

abbrev pub open_brace : Want
open_brace = wants.Kind kinds.OpenBrace

abbrev pub close_brace : Want
close_brace = wants.Kind kinds.CloseBrace

abbrev pub less : Want
less = wants.Kind kinds.Less

abbrev pub greater : Want
greater = wants.Kind kinds.Greater

abbrev pub comma : Want
comma = wants.Kind kinds.Comma

abbrev pub semicolon : Want
semicolon = wants.Kind kinds.Semicolon

abbrev pub colon : Want
colon = wants.Kind kinds.Colon

abbrev pub dot : Want
dot = wants.Kind kinds.Dot

abbrev pub plus : Want
plus = wants.Kind kinds.Plus

abbrev pub minus : Want
minus = wants.Kind kinds.Minus

abbrev pub star : Want
star = wants.Kind kinds.Star

abbrev pub slash : Want
slash = wants.Kind kinds.Slash

abbrev pub hash : Want
hash = wants.Kind kinds.Hash

abbrev pub bar : Want
bar = wants.Kind kinds.Bar

abbrev pub equal : Want
equal = wants.Kind kinds.Equal

abbrev pub arrow : Want
arrow = wants.Kind kinds.Arrow

abbrev pub exclamation : Want
exclamation = wants.Kind kinds.Exclamation

abbrev pub empty : Want
empty = wants.Keyword keywords.Empty

abbrev pub root_word : Want
root_word = wants.Keyword keywords.Root
