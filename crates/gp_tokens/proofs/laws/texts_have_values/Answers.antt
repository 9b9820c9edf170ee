use Rattle.gp_tokens.proofs.Texts.{numbers_have_values, strings_have_characters}
use Rattle.gp_tokens.proofs.laws.texts_have_values.Goals as goal

pub returns-clause-numbers : goal.returns-clause-numbers
returns-clause-numbers c = numbers_have_values

pub returns-clause-strings : goal.returns-clause-strings
returns-clause-strings c = strings_have_characters
