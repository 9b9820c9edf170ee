-- What the right node of a place keeps.
use Rattle.std.proofs.Common.{◌≡◌, ℕ, ◌<◌, ◌≤◌, Bool, false, length, get_or, Some, sym, ap, ◌∙◌}
use Rattle.std.specs.Prelude.{Option}
use Rattle.std.specs.Option.{option_map, option_map_or}
use Rattle.std.proofs.lemmas.Option.{slice_get-map, slice_get-get_or, slice_get_past}
use Rattle.gp_syntax.specs.declared.rule.RuleParts.{RuleParts}
use Rattle.gp_syntax.specs.declared.rule.RightNode as tree
use Rattle.gp_syntax.specs.Rule.{RightNode, is_origin, keeps_node}
use Rattle.gp_syntax.specs.Tree.{right_node_of, rule_of_tree}

abbrev keeps : ℕ → Option RightNode → Bool
keeps i o = option_map_or (λ (q : RightNode). is_origin i q.origin) o false

pub keeps_at : (r : RuleParts) (j i : ℕ) (q : tree.RightNode) → j < length r.right_nodes → q ≡ get_or r.right_nodes j q → keeps_node (rule_of_tree r) j i ≡ is_origin i q.origin
keeps_at r j i q l e = ap (keeps i) (slice_get-map right_node_of r.right_nodes j ∙ ap (option_map right_node_of) (slice_get-get_or r.right_nodes j q l ∙ ap Some (sym e)))

pub keeps_past : (r : RuleParts) (j i : ℕ) → length r.right_nodes ≤ j → keeps_node (rule_of_tree r) j i ≡ false
keeps_past r j i l = ap (keeps i) (slice_get-map right_node_of r.right_nodes j ∙ ap (option_map right_node_of) (slice_get_past r.right_nodes j l))
