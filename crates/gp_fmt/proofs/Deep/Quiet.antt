-- Tokens that neither open nor close nor make a run.
use Rattle.std.proofs.Common.{refl}
use Rattle.gp_tokens.specs.Kinds.{same_kind}
use Rattle.gp_tokens.specs.declared.want.Want.TheVariants as wants
use Rattle.gp_tokens.specs.Wants.{excludes, meets}
use Rattle.gp_tokens.specs.Fits.{AllExcluded}
use Rattle.gp_tokens.specs.SignWants.{number_sign, string_sign, comma, semicolon, colon, dot, plus, star, slash, hash, bar, arrow, exclamation, equal, less, greater, empty, root_word}
use Rattle.gp_expressions.specs.Signs.{indegree_word, outdegree_word, length_word, not_equal, less_equal, greater_equal, int_word, char_word, string_word, atom_word, list_word, edge_word, and_word, or_word, where_word, interface_word, bidirectional_word, if_word, then_word, else_word, try_word, skip_word, fail_word, break_word}
use Rattle.gp_fmt.proofs.Deep.Roles.{loud}

pub quiet_string_sign : AllExcluded string_sign loud
unfolding excludes meets same_kind
quiet_string_sign = (refl, (refl, (refl, (refl, (refl, (refl, (refl, (refl, tt))))))))

pub quiet_number_sign : AllExcluded number_sign loud
unfolding excludes meets same_kind
quiet_number_sign = (refl, (refl, (refl, (refl, (refl, (refl, (refl, (refl, tt))))))))

pub quiet_item : AllExcluded wants.Item loud
unfolding excludes meets same_kind
quiet_item = (refl, (refl, (refl, (refl, (refl, (refl, (refl, (refl, tt))))))))

pub quiet_variable : AllExcluded wants.Variable loud
unfolding excludes meets same_kind
quiet_variable = (refl, (refl, (refl, (refl, (refl, (refl, (refl, (refl, tt))))))))

pub quiet_rule_name : AllExcluded wants.RuleName loud
unfolding excludes meets same_kind
quiet_rule_name = (refl, (refl, (refl, (refl, (refl, (refl, (refl, (refl, tt))))))))

pub quiet_procedure_name : AllExcluded wants.ProcedureName loud
unfolding excludes meets same_kind
quiet_procedure_name = (refl, (refl, (refl, (refl, (refl, (refl, (refl, (refl, tt))))))))

pub quiet_empty : AllExcluded empty loud
unfolding excludes meets same_kind
quiet_empty = (refl, (refl, (refl, (refl, (refl, (refl, (refl, (refl, tt))))))))

pub quiet_indegree : AllExcluded indegree_word loud
unfolding excludes meets same_kind
quiet_indegree = (refl, (refl, (refl, (refl, (refl, (refl, (refl, (refl, tt))))))))

pub quiet_outdegree : AllExcluded outdegree_word loud
unfolding excludes meets same_kind
quiet_outdegree = (refl, (refl, (refl, (refl, (refl, (refl, (refl, (refl, tt))))))))

pub quiet_length : AllExcluded length_word loud
unfolding excludes meets same_kind
quiet_length = (refl, (refl, (refl, (refl, (refl, (refl, (refl, (refl, tt))))))))

pub quiet_comma : AllExcluded comma loud
unfolding excludes meets same_kind
quiet_comma = (refl, (refl, (refl, (refl, (refl, (refl, (refl, (refl, tt))))))))

pub quiet_semicolon : AllExcluded semicolon loud
unfolding excludes meets same_kind
quiet_semicolon = (refl, (refl, (refl, (refl, (refl, (refl, (refl, (refl, tt))))))))

pub quiet_colon : AllExcluded colon loud
unfolding excludes meets same_kind
quiet_colon = (refl, (refl, (refl, (refl, (refl, (refl, (refl, (refl, tt))))))))

pub quiet_dot : AllExcluded dot loud
unfolding excludes meets same_kind
quiet_dot = (refl, (refl, (refl, (refl, (refl, (refl, (refl, (refl, tt))))))))

pub quiet_plus : AllExcluded plus loud
unfolding excludes meets same_kind
quiet_plus = (refl, (refl, (refl, (refl, (refl, (refl, (refl, (refl, tt))))))))

pub quiet_star : AllExcluded star loud
unfolding excludes meets same_kind
quiet_star = (refl, (refl, (refl, (refl, (refl, (refl, (refl, (refl, tt))))))))

pub quiet_slash : AllExcluded slash loud
unfolding excludes meets same_kind
quiet_slash = (refl, (refl, (refl, (refl, (refl, (refl, (refl, (refl, tt))))))))

pub quiet_hash : AllExcluded hash loud
unfolding excludes meets same_kind
quiet_hash = (refl, (refl, (refl, (refl, (refl, (refl, (refl, (refl, tt))))))))

pub quiet_bar : AllExcluded bar loud
unfolding excludes meets same_kind
quiet_bar = (refl, (refl, (refl, (refl, (refl, (refl, (refl, (refl, tt))))))))

pub quiet_arrow : AllExcluded arrow loud
unfolding excludes meets same_kind
quiet_arrow = (refl, (refl, (refl, (refl, (refl, (refl, (refl, (refl, tt))))))))

pub quiet_exclamation : AllExcluded exclamation loud
unfolding excludes meets same_kind
quiet_exclamation = (refl, (refl, (refl, (refl, (refl, (refl, (refl, (refl, tt))))))))

pub quiet_equal : AllExcluded equal loud
unfolding excludes meets same_kind
quiet_equal = (refl, (refl, (refl, (refl, (refl, (refl, (refl, (refl, tt))))))))

pub quiet_not_equal : AllExcluded not_equal loud
unfolding excludes meets same_kind
quiet_not_equal = (refl, (refl, (refl, (refl, (refl, (refl, (refl, (refl, tt))))))))

pub quiet_less : AllExcluded less loud
unfolding excludes meets same_kind
quiet_less = (refl, (refl, (refl, (refl, (refl, (refl, (refl, (refl, tt))))))))

pub quiet_less_equal : AllExcluded less_equal loud
unfolding excludes meets same_kind
quiet_less_equal = (refl, (refl, (refl, (refl, (refl, (refl, (refl, (refl, tt))))))))

pub quiet_greater : AllExcluded greater loud
unfolding excludes meets same_kind
quiet_greater = (refl, (refl, (refl, (refl, (refl, (refl, (refl, (refl, tt))))))))

pub quiet_greater_equal : AllExcluded greater_equal loud
unfolding excludes meets same_kind
quiet_greater_equal = (refl, (refl, (refl, (refl, (refl, (refl, (refl, (refl, tt))))))))

pub quiet_int : AllExcluded int_word loud
unfolding excludes meets same_kind
quiet_int = (refl, (refl, (refl, (refl, (refl, (refl, (refl, (refl, tt))))))))

pub quiet_char : AllExcluded char_word loud
unfolding excludes meets same_kind
quiet_char = (refl, (refl, (refl, (refl, (refl, (refl, (refl, (refl, tt))))))))

pub quiet_string : AllExcluded string_word loud
unfolding excludes meets same_kind
quiet_string = (refl, (refl, (refl, (refl, (refl, (refl, (refl, (refl, tt))))))))

pub quiet_atom : AllExcluded atom_word loud
unfolding excludes meets same_kind
quiet_atom = (refl, (refl, (refl, (refl, (refl, (refl, (refl, (refl, tt))))))))

pub quiet_list : AllExcluded list_word loud
unfolding excludes meets same_kind
quiet_list = (refl, (refl, (refl, (refl, (refl, (refl, (refl, (refl, tt))))))))

pub quiet_edge : AllExcluded edge_word loud
unfolding excludes meets same_kind
quiet_edge = (refl, (refl, (refl, (refl, (refl, (refl, (refl, (refl, tt))))))))

pub quiet_and : AllExcluded and_word loud
unfolding excludes meets same_kind
quiet_and = (refl, (refl, (refl, (refl, (refl, (refl, (refl, (refl, tt))))))))

pub quiet_or : AllExcluded or_word loud
unfolding excludes meets same_kind
quiet_or = (refl, (refl, (refl, (refl, (refl, (refl, (refl, (refl, tt))))))))

pub quiet_where : AllExcluded where_word loud
unfolding excludes meets same_kind
quiet_where = (refl, (refl, (refl, (refl, (refl, (refl, (refl, (refl, tt))))))))

pub quiet_interface : AllExcluded interface_word loud
unfolding excludes meets same_kind
quiet_interface = (refl, (refl, (refl, (refl, (refl, (refl, (refl, (refl, tt))))))))

pub quiet_bidirectional : AllExcluded bidirectional_word loud
unfolding excludes meets same_kind
quiet_bidirectional = (refl, (refl, (refl, (refl, (refl, (refl, (refl, (refl, tt))))))))

pub quiet_root : AllExcluded root_word loud
unfolding excludes meets same_kind
quiet_root = (refl, (refl, (refl, (refl, (refl, (refl, (refl, (refl, tt))))))))

pub quiet_if : AllExcluded if_word loud
unfolding excludes meets same_kind
quiet_if = (refl, (refl, (refl, (refl, (refl, (refl, (refl, (refl, tt))))))))

pub quiet_then : AllExcluded then_word loud
unfolding excludes meets same_kind
quiet_then = (refl, (refl, (refl, (refl, (refl, (refl, (refl, (refl, tt))))))))

pub quiet_else : AllExcluded else_word loud
unfolding excludes meets same_kind
quiet_else = (refl, (refl, (refl, (refl, (refl, (refl, (refl, (refl, tt))))))))

pub quiet_try : AllExcluded try_word loud
unfolding excludes meets same_kind
quiet_try = (refl, (refl, (refl, (refl, (refl, (refl, (refl, (refl, tt))))))))

pub quiet_skip : AllExcluded skip_word loud
unfolding excludes meets same_kind
quiet_skip = (refl, (refl, (refl, (refl, (refl, (refl, (refl, (refl, tt))))))))

pub quiet_fail : AllExcluded fail_word loud
unfolding excludes meets same_kind
quiet_fail = (refl, (refl, (refl, (refl, (refl, (refl, (refl, (refl, tt))))))))

pub quiet_break : AllExcluded break_word loud
unfolding excludes meets same_kind
quiet_break = (refl, (refl, (refl, (refl, (refl, (refl, (refl, (refl, tt))))))))
