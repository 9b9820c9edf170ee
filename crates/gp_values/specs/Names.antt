-- Names of nodes, edges, variables and rules: texts, which are equal where their characters are.
use Rattle.std.specs.Prelude.{ℕ, nat_eq, Bool, if◌then◌else◌, List, [], ◌∷◌, ◌++◌, Option, Some, None}
use Rattle.std.specs.List.{list_any, position_from}
use Rattle.std.specs.Cmp.Lexicographic.{pointwise}

abbrev pub Name : Type 0
Name = List ℕ

abbrev pub same_name : Name → Name → Bool
same_name a b = pointwise nat_eq a b

-- whether a name stands in a list
abbrev pub has_name : List Name → Name → Bool
has_name names n = list_any (same_name n) names

-- the place of the first name that is equal, in a list
abbrev pub place_of : List Name → Name → Option ℕ
place_of names n = position_from (same_name n) 0 names

-- the first name, from the front, that stood before, behind those that were seen
abbrev pub first_doubled_behind : List Name → List Name → Option Name
first_doubled_behind seen [] = None
first_doubled_behind seen (n ∷ names) = if has_name seen n then Some n else first_doubled_behind (seen ++ n ∷ []) names

abbrev pub first_doubled : List Name → Option Name
first_doubled names = first_doubled_behind [] names

-- the first name that does not stand in the other list
abbrev pub first_unknown : List Name → List Name → Option Name
first_unknown known [] = None
first_unknown known (n ∷ names) = if has_name known n then first_unknown known names else Some n
