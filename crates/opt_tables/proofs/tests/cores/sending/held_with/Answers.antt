use Rattle.std.proofs.Common.{◌∙◌, ap, refl, List, [], ◌∷◌, ◌++◌}
use Rattle.opt_tables.proofs.Held.{one_held, held_whole}
use Rattle.opt_tables.proofs.tests.cores.sending.held_with.Goals as goal

pub more-requires : goal.more-requires
more-requires g c =
    one_held (g.S.System.means c.args.s.now) c.args.goal c.args.goal 0 c.args.limit c.args.at.now c.args.found c.push.new.self.items refl (c.in_ok-push.ensures.items ∙ ap (λ (z : List _). z ++ c.args.found ∷ []) c.new-held.ensures.items) c.requires.share c.requires.applies c.requires.some

pub returns : goal.returns
returns g c = held_whole (g.S.System.means c.args.s.now) c.args.goal 0 c.args.limit c.args.at.now c.more.new.held.items c.from_vec.result c.from_vec.ensures c.more.ensures.held
