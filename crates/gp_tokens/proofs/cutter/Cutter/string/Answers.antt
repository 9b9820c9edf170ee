use Rattle.std.proofs.Common.{◌∙◌, ap}
use Rattle.std.specs.Prelude.{option_map}
use Rattle.gp_tokens.proofs.Strings.{string_is}
use Rattle.gp_tokens.proofs.cutter.Cutter.string.Goals as goal
use Rattle.gp_tokens.proofs.cutter.Cutter.string.Goals.{in-Some, in-None}

pub returns : goal.returns
returns c =
    let e = string_is c.args.self.now c.in_ok-first.first c.expect.new.self c.as_bytes.result.now c.in_ok-characters.field-0 c.in_ok-first.ensures.read c.as_bytes.ensures c.in_ok-characters.ensures in
    elim c.match-branch-3.branch [
      | in-Some w ↦ rw w.result-is (e ∙ ap (option_map (λ characters. (characters, c.expect.new.self))) w.in-Some.is)
      | in-None w ↦ rw (w.result-is, c.refusal-refusal.ensures) (e ∙ ap (option_map (λ characters. (characters, c.expect.new.self))) w.in-None.is)
    ]
