use Rattle.std.proofs.Common.{◌<◌, ◌∙◌, length, refl, sym, subst, arith}
use Rattle.gp_syntax.specs.declared.command.ProgramParts.{ProgramParts}
use Rattle.gp_system.specs.declared.session.AfterTurn.TheVariants.{Dear, Came}
use Rattle.gp_system.specs.inside.Viewed.{view_of}
use Rattle.gp_system.proofs.Goes.{goes_not, goes_on_all, gone_on}
use Rattle.gp_system.proofs.session.Session.take_turns.Goals as goal

pub turns-init : goal.turns-init
turns-init c = record { going = goes_not _ _; less = omega arith; program = refl }

pub take_turn-requires : goal.take_turn-requires
take_turn-requires c = subst (λ (p : ProgramParts). c.args.call < length p.sets) (sym c.turns.invariant.program) c.requires

pub turns-preserved : goal.turns-preserved
turns-preserved c = record { going = goes_on_all _ _ _ _ c.turns.invariant.going c.in-On.ensures.going; less = omega (arith, c.in-On.ensures.less); program = c.in-On.ensures.program ∙ c.turns.invariant.program }

pub turns-smaller : goal.turns-smaller
turns-smaller c = omega (arith, c.in-On.ensures.less)

pub returns-in-Dear-clause-going : goal.returns-in-Dear-clause-going
returns-in-Dear-clause-going c = gone_on c.args.call Dear (view_of c.args.self.now) (view_of c.turns.self) (view_of c.take_turn.new.self) c.turns.invariant.going c.in-Dear.ensures.going

pub returns-in-Came-clause-going : goal.returns-in-Came-clause-going
returns-in-Came-clause-going c = gone_on c.args.call (Came c.in-Came.repeated) (view_of c.args.self.now) (view_of c.turns.self) (view_of c.take_turn.new.self) c.turns.invariant.going c.in-Came.ensures.going

pub returns-in-Dear-clause-program : goal.returns-in-Dear-clause-program
returns-in-Dear-clause-program c = c.in-Dear.ensures.program ∙ c.turns.invariant.program

pub returns-in-Came-clause-program : goal.returns-in-Came-clause-program
returns-in-Came-clause-program c = c.in-Came.ensures.program ∙ c.turns.invariant.program
