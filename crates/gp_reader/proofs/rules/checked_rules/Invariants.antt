use Rattle.std.proofs.Common.{◌≡◌, map, take, drop}
use Rattle.gp_syntax.specs.Declaration.{Declaration, rule_of}
use Rattle.gp_syntax.specs.Tree.{declaration_of, rule_of_tree}
use Rattle.gp_reader.specs.Program.{first_faulty, rule_names}
use Rattle.gp_reader.proofs.rules.checked_rules.Given as goal

abbrev pub invariant-rules : goal.invariant-rules
invariant-rules l = record {
  left : first_faulty (map declaration_of (drop l.rule-index l.rules)) ≡ first_faulty (map declaration_of l.rules);
  done : map rule_of_tree l.checked ≡ map rule_of (map declaration_of (take l.rule-index l.rules));
  names : rule_names l.checked ≡ map (λ (d : Declaration). d.name) (map declaration_of (take l.rule-index l.rules));
}
