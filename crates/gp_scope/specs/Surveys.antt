-- How much is declared, at any place.
use Rattle.std.specs.Prelude.{ℕ, ◌+◌, if◌then◌else◌, List, [], ◌∷◌, map, length}
use Rattle.gp_syntax.specs.declared.tree.Decl.{Decl}
use Rattle.gp_syntax.specs.declared.tree.Decl.TheOpen.{Decl-F}
use Rattle.gp_syntax.specs.declared.tree.Decl.TheFolds.{fold-Decl}
use Rattle.gp_values.specs.Names.{Name}
use Rattle.gp_scope.specs.declared.survey.Survey.{Survey}
use Rattle.gp_scope.specs.Outline.{Outline, nothing, rule, procedure, is_main, own_number, rules_in, procedures_in}
use Rattle.gp_scope.specs.Fault.{mains_in}

abbrev pub declarations_in : Outline → ℕ
declarations_in nothing = 0
declarations_in (rule d os) = 1 + declarations_in os
declarations_in (procedure n local body os) = 1 + declarations_in local + declarations_in os

abbrev pub survey_of : Outline → Survey
survey_of os = record { rules = length (rules_in os); procedures = procedures_in os; mains = mains_in os }

abbrev pub both_counted : Survey → Survey → Survey
both_counted a b = record { rules = a.rules + b.rules; procedures = a.procedures + b.procedures; mains = a.mains + b.mains }

abbrev pub main_number : Name → ℕ
main_number n = if is_main n then 1 else 0

abbrev pub one_more_counted : Survey → Name → Survey
one_more_counted a n = record { rules = a.rules; procedures = own_number n + a.procedures; mains = main_number n + a.mains }

-- ---- how large a declaration is: what recursion over it takes less of at each call

abbrev pub total : List ℕ → ℕ
total [] = 0
total (n ∷ ns) = n + total ns

abbrev pub weight_step : Decl-F ℕ → ℕ
weight_step (Decl-F.Rule d) = 1
weight_step (Decl-F.Procedure n ds body) = 1 + total ds

unfoldable pub weight : Decl → ℕ
weight = fold-Decl ℕ weight_step

abbrev pub weights : List Decl → ℕ
weights ds = total (map weight ds)
