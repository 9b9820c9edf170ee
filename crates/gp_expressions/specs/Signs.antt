-- Names of wants that only programs have.
use Rattle.gp_tokens.specs.declared.keyword.Keyword.TheVariants as keywords
use Rattle.gp_tokens.specs.declared.token.Kind.TheVariants as kinds
use Rattle.gp_tokens.specs.declared.want.Want.{Want}
use Rattle.gp_tokens.specs.declared.want.Want.TheVariants as wants

abbrev pub indegree_word : Want
indegree_word = wants.Keyword keywords.Indegree

abbrev pub outdegree_word : Want
outdegree_word = wants.Keyword keywords.Outdegree

abbrev pub length_word : Want
length_word = wants.Keyword keywords.Length

abbrev pub not_word : Want
not_word = wants.Keyword keywords.Not

abbrev pub and_word : Want
and_word = wants.Keyword keywords.And

abbrev pub or_word : Want
or_word = wants.Keyword keywords.Or

abbrev pub edge_word : Want
edge_word = wants.Keyword keywords.Edge

abbrev pub int_word : Want
int_word = wants.Keyword keywords.Int

abbrev pub char_word : Want
char_word = wants.Keyword keywords.Char

abbrev pub string_word : Want
string_word = wants.Keyword keywords.String

abbrev pub atom_word : Want
atom_word = wants.Keyword keywords.Atom

abbrev pub list_word : Want
list_word = wants.Keyword keywords.List

abbrev pub where_word : Want
where_word = wants.Keyword keywords.Where

abbrev pub interface_word : Want
interface_word = wants.Keyword keywords.Interface

abbrev pub bidirectional_word : Want
bidirectional_word = wants.Keyword keywords.Bidirectional

abbrev pub if_word : Want
if_word = wants.Keyword keywords.If

abbrev pub then_word : Want
then_word = wants.Keyword keywords.Then

abbrev pub else_word : Want
else_word = wants.Keyword keywords.Else

abbrev pub try_word : Want
try_word = wants.Keyword keywords.Try

abbrev pub skip_word : Want
skip_word = wants.Keyword keywords.Skip

abbrev pub fail_word : Want
fail_word = wants.Keyword keywords.Fail

abbrev pub break_word : Want
break_word = wants.Keyword keywords.Break

abbrev pub not_equal : Want
not_equal = wants.Kind kinds.NotEqual

abbrev pub less_equal : Want
less_equal = wants.Kind kinds.LessEqual

abbrev pub greater_equal : Want
greater_equal = wants.Kind kinds.GreaterEqual
