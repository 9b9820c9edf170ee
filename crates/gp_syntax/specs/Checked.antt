-- What a checked rule keeps.
use Rattle.std.specs.Prelude.{◌≡◌, None}
use Rattle.gp_syntax.specs.Declaration.{Declaration, rule_of}
use Rattle.gp_syntax.specs.Fault.{fault_of}
use Rattle.gp_syntax.specs.Rule.{Rule}

-- it is the rule of a declaration without a fault
pub record IsChecked (r : Rule) : Type 0 where
  pub declaration : Declaration
  pub no_fault : fault_of declaration ≡ None
  pub is_rule : r ≡ rule_of declaration
