use Rattle.std.proofs.Common.{map, refl}
use Rattle.gp_syntax.specs.Tree.{rule_of_tree}
use Rattle.gp_journal.specs.Journal.{items_of}
use Rattle.gp_cli.proofs.Stepped.{leads_there}
use Rattle.gp_cli.proofs.step.walked.Goals as goal

pub unwrap-requires : goal.unwrap-requires
unwrap-requires c = rw c.requires.items refl

pub walk-requires : goal.walk-requires
walk-requires c = leads_there (map rule_of_tree c.args.rules.now) c.args.host.graph c.args.ran c.unwrap.result c.requires c.unwrap.ensures

pub returns : goal.returns
returns c = record {
  trace = items_of c.unwrap.result.items;
  left = rw c.unwrap.ensures refl;
  text = c.in_ok-text.text.items;
  tells = refl;
  walks = c.in_ok-text.ensures;
}
