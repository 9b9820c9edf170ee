use Rattle.std.proofs.Common.{map, ◌∙◌, ◌++◌, ap}
use Rattle.std.proofs.lemmas.Result.{on_ok_weaker}
use Rattle.gp_syntax.specs.Tree.{rule_of_tree}
use Rattle.gp_derivation.specs.Walk.{place_text}
use Rattle.gp_derivation.proofs.Told.{goes_back_to, at_first}
use Rattle.gp_derivation.proofs.walker.Walker.back.Goals as goal

pub returns-in-Made : goal.returns-in-Made
returns-in-Made c =
    let moved = c.back.ensures.made c.in-Made.is in
    on_ok_weaker c.tell_place.result (λ told. goes_back_to (map rule_of_tree c.args.rules.now) c.args.self.now _ (told ∙ ap (λ n. c.args.self.now.text.items ++ place_text n) c.place.ensures) moved.0 moved.1) c.tell_place.ensures

pub returns-in-End : goal.returns-in-End
returns-in-End c =
    on_ok_weaker c.tell.result (λ told. at_first (map rule_of_tree c.args.rules.now) c.args.self.now _ c.requires told (c.back.ensures.end.0 c.in-End.is) (c.back.ensures.stays c.in-End.is)) c.tell.ensures
