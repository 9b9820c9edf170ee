use Rattle.std.proofs.Common.{◌≡◌, List, not, if◌then◌else◌, sym, [], ◌∷◌, ◌++◌, ◌+◌, ◌≤◌, ap, ◌∙◌, arith}
use Rattle.std.specs.List.{flat_map}
use Rattle.gp_tokens.specs.declared.keyword.Keyword.TheVariants as words
use Rattle.gp_tokens.specs.declared.token.Kind.TheVariants as k
use Rattle.gp_fmt.specs.declared.piece.Piece.{Piece}
use Rattle.gp_fmt.specs.declared.piece.Piece.TheVariants as p
use Rattle.gp_fmt.specs.Expressions.{in_parentheses_if}
use Rattle.gp_fmt.specs.Commands.{CommandPart, command, part_of_command, called, in_sequence, in_branch, in_choice, optional}
use Rattle.gp_fmt.specs.inside.Links.{sequence_link, choice_link}
use Rattle.gp_fmt.specs.inside.Sizes.{command_size, command_sizes}
use Rattle.gp_fmt.proofs.Forms.{of-Call, of-Procedure, links-Seq, of-If, of-Try, of-Loop, links-Either, of-Skip, of-Fail, of-Break}
use Rattle.gp_fmt.proofs.Puts.{loop_is, nothing, wrapped, bare, and_then, told, more, all}
use Rattle.gp_fmt.proofs.Sizes.{size_within, command_size-Seq, command_size-If, command_size-Try, command_size-Loop, command_size-Or}
use Rattle.gp_fmt.proofs.commands.+command.Goals as goal

pub put_command-returns-in-Call : goal.put_command-returns-in-Call
put_command-returns-in-Call t c =
    let e : command c.args.c.now ≡ called c.as_slice.result.now = rw (c.as_slice.ensures) (ap command c.in-Call.is ∙ ap (λ (x : CommandPart). x.pieces) (of-Call c.in-Call.rules)) in
    told e c.put_called.ensures

pub put_command-returns-in-Procedure : goal.put_command-returns-in-Procedure
put_command-returns-in-Procedure t c =
    told (ap command c.in-Procedure.is ∙ ap (λ (x : CommandPart). x.pieces) (of-Procedure c.in-Procedure.name)) c.name.ensures

pub put_command-returns-in-Seq : goal.put_command-returns-in-Seq
put_command-returns-in-Seq t c =
    let e : command c.args.c.now ≡ in_sequence (part_of_command c.get.result.now) ++ flat_map sequence_link c.as_slice-in-Seq.result.now = rw (c.get.ensures, c.as_slice-in-Seq.ensures) (ap command c.in-Seq.is ∙ ap (λ (x : CommandPart). x.pieces) (links-Seq c.in-Seq.first c.in-Seq.rest)) in
    told e c.put_sequence.ensures

pub put_command-returns-in-If : goal.put_command-returns-in-If
put_command-returns-in-If t c =
    let e : command c.args.c.now ≡ p.Word words.If ∷ in_branch (part_of_command c.get-in-If.result.now) ++ p.Word words.Then ∷ in_branch (part_of_command c.get-in-If-2.result.now) ++ optional words.Else (part_of_command c.get-in-If-3.result.now) = rw (c.get-in-If.ensures, c.get-in-If-2.ensures, c.get-in-If-3.ensures) (ap command c.in-If.is ∙ ap (λ (x : CommandPart). x.pieces) (of-If c.in-If.test c.in-If.then c.in-If.other)) in
    told e c.put_if.ensures

pub put_command-returns-in-Try : goal.put_command-returns-in-Try
put_command-returns-in-Try t c =
    let e : command c.args.c.now ≡ p.Word words.Try ∷ in_branch (part_of_command c.get-in-Try.result.now) ++ optional words.Then (part_of_command c.get-in-Try-2.result.now) ++ optional words.Else (part_of_command c.get-in-Try-3.result.now) = rw (c.get-in-Try.ensures, c.get-in-Try-2.ensures, c.get-in-Try-3.ensures) (ap command c.in-Try.is ∙ ap (λ (x : CommandPart). x.pieces) (of-Try c.in-Try.test c.in-Try.then c.in-Try.other)) in
    told e c.put_try.ensures

pub put_command-returns-in-Loop : goal.put_command-returns-in-Loop
put_command-returns-in-Loop t c =
    let e : command c.args.c.now ≡ in_parentheses_if (not c.is_call.result) (command c.get-body.result.now) ++ p.Sign k.Exclamation ∷ [] = rw (c.is_call.ensures, c.get-body.ensures) (ap command c.in-Loop.is ∙ ap (λ (x : CommandPart). x.pieces) (of-Loop c.in-Loop.body) ∙ ap (λ (l : List Piece). l ++ p.Sign k.Exclamation ∷ []) (loop_is (part_of_command c.in-Loop.body))) in
    told e (and_then c.put_part.ensures c.sign.ensures)

pub put_command-returns-in-Or : goal.put_command-returns-in-Or
put_command-returns-in-Or t c =
    let e : command c.args.c.now ≡ in_choice (part_of_command c.get-in-Or.result.now) ++ flat_map choice_link c.as_slice-in-Or.result.now = rw (c.get-in-Or.ensures, c.as_slice-in-Or.ensures) (ap command c.in-Or.is ∙ ap (λ (x : CommandPart). x.pieces) (links-Either c.in-Or.first c.in-Or.rest)) in
    told e c.put_choice.ensures

pub put_command-returns-in-Skip : goal.put_command-returns-in-Skip
put_command-returns-in-Skip t c =
    told (ap command c.in-Skip.is ∙ ap (λ (x : CommandPart). x.pieces) of-Skip) c.word.ensures

pub put_command-returns-in-Fail : goal.put_command-returns-in-Fail
put_command-returns-in-Fail t c =
    told (ap command c.in-Fail.is ∙ ap (λ (x : CommandPart). x.pieces) of-Fail) c.word-in-Fail.ensures

pub put_command-returns-in-Break : goal.put_command-returns-in-Break
put_command-returns-in-Break t c =
    told (ap command c.in-Break.is ∙ ap (λ (x : CommandPart). x.pieces) of-Break) c.word-in-Break.ensures

pub put_command-put_sequence-requires : goal.put_command-put_sequence-requires
put_command-put_sequence-requires t c =
    let z : command_size c.args.c.now ≡ 1 + command_size c.get.result.now + command_sizes c.as_slice-in-Seq.result.now = rw (c.get.ensures, c.as_slice-in-Seq.ensures) (ap command_size c.in-Seq.is ∙ command_size-Seq c.in-Seq.first c.in-Seq.rest) in
    (omega arith, tt)

pub put_command-put_if-requires : goal.put_command-put_if-requires
put_command-put_if-requires t c =
    let z : command_size c.args.c.now ≡ 1 + command_size c.get-in-If.result.now + command_size c.get-in-If-2.result.now + command_size c.get-in-If-3.result.now = rw (c.get-in-If.ensures, c.get-in-If-2.ensures, c.get-in-If-3.ensures) (ap command_size c.in-If.is ∙ command_size-If c.in-If.test c.in-If.then c.in-If.other) in
    (omega arith, tt)

pub put_command-put_try-requires : goal.put_command-put_try-requires
put_command-put_try-requires t c =
    let z : command_size c.args.c.now ≡ 1 + command_size c.get-in-Try.result.now + command_size c.get-in-Try-2.result.now + command_size c.get-in-Try-3.result.now = rw (c.get-in-Try.ensures, c.get-in-Try-2.ensures, c.get-in-Try-3.ensures) (ap command_size c.in-Try.is ∙ command_size-Try c.in-Try.test c.in-Try.then c.in-Try.other) in
    (omega arith, tt)

pub put_command-put_part-requires : goal.put_command-put_part-requires
put_command-put_part-requires t c =
    let z : command_size c.args.c.now ≡ 1 + command_size c.get-body.result.now = rw (c.get-body.ensures) (ap command_size c.in-Loop.is ∙ command_size-Loop c.in-Loop.body) in
    (omega arith, tt)

pub put_command-put_choice-requires : goal.put_command-put_choice-requires
put_command-put_choice-requires t c =
    let z : command_size c.args.c.now ≡ 1 + command_size c.get-in-Or.result.now + command_sizes c.as_slice-in-Or.result.now = rw (c.get-in-Or.ensures, c.as_slice-in-Or.ensures) (ap command_size c.in-Or.is ∙ command_size-Or c.in-Or.first c.in-Or.rest) in
    (omega arith, tt)

pub put_sequence-put_from-requires-in-each : goal.put_sequence-put_from-requires-in-each
put_sequence-put_from-requires-in-each t c =
    let l : command_size c.part-item.result ≤ command_sizes c.args.rest.now = size_within command_size c.args.rest.now c.each.part-index c.part-item.result c.each-test.true c.part-item.is in
    (omega arith, tt)

pub put_choice-put_from-requires-in-each : goal.put_choice-put_from-requires-in-each
put_choice-put_from-requires-in-each t c =
    let l : command_size c.part-item.result ≤ command_sizes c.args.rest.now = size_within command_size c.args.rest.now c.each.part-index c.part-item.result c.each-test.true c.part-item.is in
    (omega arith, tt)

pub put_part-returns-then-needed : goal.put_part-returns-then-needed
put_part-returns-then-needed t c = wrapped c.if-needed.true c.sign.ensures c.put_command.ensures c.sign-then-needed.ensures

pub put_part-returns-else-needed : goal.put_part-returns-else-needed
put_part-returns-else-needed t c = bare c.if-needed.false c.put_command-else-needed.ensures

pub put_optional-returns : goal.put_optional-returns
put_optional-returns t c = told (ap (λ b. if b then [] else p.Word c.args.word ∷ in_branch (part_of_command c.args.c.now)) (sym c.is_nothing.ensures ∙ c.if-is_nothing.false)) (and_then c.word.ensures c.put_from.ensures)

pub put_if-returns : goal.put_if-returns
put_if-returns t c = and_then (and_then (and_then c.word.ensures c.put_from.ensures) (and_then c.word-2.ensures c.put_from-2.ensures)) c.put_optional.ensures

pub put_try-returns : goal.put_try-returns
put_try-returns t c = and_then (and_then (and_then c.word.ensures c.put_from.ensures) c.put_optional.ensures) c.put_optional-2.ensures

pub put_sequence-each-init : goal.put_sequence-each-init
put_sequence-each-init t c = nothing

pub put_sequence-each-preserved : goal.put_sequence-each-preserved
put_sequence-each-preserved t c = more sequence_link c.args.rest.now c.each-test.true c.part-item.is c.each.invariant (and_then c.sign.ensures c.put_from-in-each.ensures)

pub put_sequence-returns : goal.put_sequence-returns
put_sequence-returns t c = and_then c.put_from.ensures (all sequence_link c.args.rest.now c.each-test.false c.each.invariant)

pub put_choice-each-init : goal.put_choice-each-init
put_choice-each-init t c = nothing

pub put_choice-each-preserved : goal.put_choice-each-preserved
put_choice-each-preserved t c = more choice_link c.args.rest.now c.each-test.true c.part-item.is c.each.invariant (and_then c.word.ensures c.put_from-in-each.ensures)

pub put_choice-returns : goal.put_choice-returns
put_choice-returns t c = and_then c.put_from.ensures (all choice_link c.args.rest.now c.each-test.false c.each.invariant)
