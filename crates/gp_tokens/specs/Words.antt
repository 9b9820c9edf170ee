-- Words with a meaning of their own, and the classes of names.
use Rattle.std.specs.Prelude.{ℕ, Bool, not, ◌&&◌, ◌||◌, List, [], ◌∷◌, slice_index, codes}
use Rattle.std.specs.Char.{is_ascii_uppercase, is_ascii_lowercase, is_ascii_alphabetic}
use Rattle.std.specs.List.{list_any}
use Rattle.std.specs.Str.{bytes_eq}
use Rattle.gp_tokens.specs.declared.keyword.Keyword.{Keyword}
use Rattle.gp_tokens.specs.declared.keyword.Keyword.TheVariants as word
use Rattle.gp_tokens.specs.declared.token.Kind.TheVariants as k
use Rattle.gp_tokens.specs.declared.token.Token.{Token}
use Rattle.gp_tokens.specs.Kinds.{same_kind}

abbrev pub keyword_text : Keyword → List ℕ
keyword_text word.Interface = codes "interface"
keyword_text word.Where = codes "where"
keyword_text word.Empty = codes "empty"
keyword_text word.Not = codes "not"
keyword_text word.And = codes "and"
keyword_text word.Or = codes "or"
keyword_text word.Edge = codes "edge"
keyword_text word.Indegree = codes "indeg"
keyword_text word.Outdegree = codes "outdeg"
keyword_text word.Length = codes "length"
keyword_text word.Int = codes "int"
keyword_text word.Char = codes "char"
keyword_text word.String = codes "string"
keyword_text word.Atom = codes "atom"
keyword_text word.List = codes "list"
keyword_text word.If = codes "if"
keyword_text word.Then = codes "then"
keyword_text word.Else = codes "else"
keyword_text word.Try = codes "try"
keyword_text word.Skip = codes "skip"
keyword_text word.Fail = codes "fail"
keyword_text word.Break = codes "break"
keyword_text word.Root = codes "R"
keyword_text word.Bidirectional = codes "B"

-- all of these but `R` and `B`
abbrev pub reserved : List Keyword
reserved =
    word.Interface ∷ word.Where ∷ word.Empty ∷ word.Not ∷ word.And ∷ word.Or ∷ word.Edge ∷ word.Indegree ∷ word.Outdegree ∷ word.Length ∷ word.Int
    ∷ word.Char ∷ word.String ∷ word.Atom ∷ word.List ∷ word.If ∷ word.Then ∷ word.Else ∷ word.Try ∷ word.Skip ∷ word.Fail ∷ word.Break ∷ []

abbrev pub is_among : List ℕ → List Keyword → Bool
is_among text words = list_any (λ word. bytes_eq (keyword_text word) text) words

abbrev pub is_reserved : List ℕ → Bool
is_reserved text = is_among text reserved

-- the token is this word
abbrev pub is_word : Keyword → Token → Bool
is_word word t = same_kind t.kind k.Word && bytes_eq t.text (keyword_text word)

-- a word that is not reserved
abbrev pub is_free_word : Token → Bool
is_free_word t = same_kind t.kind k.Word && not (is_reserved t.text)

-- a name of a node or an edge: a word that is not reserved, or a number
abbrev pub is_item : Token → Bool
is_item t = same_kind t.kind k.Number || is_free_word t

-- a name of a rule: a word that is not reserved and begins with a lower-case letter
abbrev pub is_rule_name : Token → Bool
is_rule_name t = is_free_word t && is_ascii_lowercase (slice_index t.text 0)

-- a name of a variable: a word that is not reserved and begins with a letter
abbrev pub is_variable : Token → Bool
is_variable t = is_free_word t && is_ascii_alphabetic (slice_index t.text 0)

-- a name of a procedure: a word that begins with an upper-case letter
abbrev pub is_procedure_name : Token → Bool
is_procedure_name t = same_kind t.kind k.Word && is_ascii_uppercase (slice_index t.text 0)
