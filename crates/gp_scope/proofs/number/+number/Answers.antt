use Rattle.std.proofs.Common.{◌≡◌, ◌∙◌, ◌+◌, ◌++◌, ◌∷◌, [], ap, sym, length, map, take, List, arith, append_assoc, append-nil, length-append}
use Rattle.std.proofs.lemmas.List.{take_all, take_more, map-append}
use Rattle.gp_syntax.specs.Tree.{command_of}
use Rattle.gp_syntax.specs.declared.tree.CommandTree.TheVariants as tree
use Rattle.gp_scope.specs.Outline.{named}
use Rattle.gp_scope.specs.Resolved.{resolved}
use Rattle.gp_scope.specs.inside.Levels.{scope_of}
use Rattle.gp_scope.specs.inside.Commands.{sets_in, sets_in_rest, resolved_rest, called_in_rest, size, sizes}
use Rattle.gp_scope.proofs.Numbered.{how_many, rest_counted, rest_push, sets_push, size-Seq, size-Or, size-If, size-Try, size-Loop, is_smaller}
use Rattle.gp_scope.proofs.Forms.{behind_part, seq_command, or_command, seq_sets, or_sets, if_sets, try_sets, if_command, try_command, loop_sets, loop_command, call_sets, call_command, procedure_command, procedure_sets, skip_command, skip_sets, fail_command, fail_sets, break_command, break_sets}
use Rattle.gp_scope.proofs.number.+number.Goals as goal

nothing_behind : {A : Type 0} (xs ys : List A) → ys ≡ [] → xs ≡ xs ++ ys
nothing_behind xs ys e = sym (ap (λ l. xs ++ l) e ∙ append-nil xs)

pub number-number_chain-requires : goal.number-number_chain-requires
number-number_chain-requires t c =
    let e : c.args.command.now ≡ tree.Seq c.get.result.now c.as_slice-in-Seq.result.now = c.in-Seq.is ∙ ap (λ x. tree.Seq x c.in-Seq.rest) (sym c.get.ensures) ∙ ap (tree.Seq c.get.result.now) (sym c.as_slice-in-Seq.ensures) in
    let z : size c.args.command.now ≡ 1 + size c.get.result.now + sizes c.as_slice-in-Seq.result.now = ap size e ∙ size-Seq c.get.result.now c.as_slice-in-Seq.result.now in
    (omega arith, tt)

pub number-returns-in_ok-chain-in-Seq-clause-command : goal.number-returns-in_ok-chain-in-Seq-clause-command
number-returns-in_ok-chain-in-Seq-clause-command t c =
    let e : c.args.command.now ≡ tree.Seq c.get.result.now c.as_slice-in-Seq.result.now = c.in-Seq.is ∙ ap (λ x. tree.Seq x c.in-Seq.rest) (sym c.get.ensures) ∙ ap (tree.Seq c.get.result.now) (sym c.as_slice-in-Seq.ensures) in
    ap command_of c.into_seq.ensures ∙ seq_command (scope_of c.args.levels.now) (length c.args.sets.now.items) c.args.command.now c.get.result.now c.as_slice-in-Seq.result.now c.in_ok-chain-in-Seq.chain.first c.in_ok-chain-in-Seq.chain.rest e c.in_ok-chain-in-Seq.ensures.first c.in_ok-chain-in-Seq.ensures.rest

pub number-returns-in_ok-chain-in-Seq-clause-sets : goal.number-returns-in_ok-chain-in-Seq-clause-sets
number-returns-in_ok-chain-in-Seq-clause-sets t c =
    let e : c.args.command.now ≡ tree.Seq c.get.result.now c.as_slice-in-Seq.result.now = c.in-Seq.is ∙ ap (λ x. tree.Seq x c.in-Seq.rest) (sym c.get.ensures) ∙ ap (tree.Seq c.get.result.now) (sym c.as_slice-in-Seq.ensures) in
    c.in_ok-chain-in-Seq.ensures.sets ∙ ap (λ l. c.args.sets.now.items ++ l) (seq_sets (scope_of c.args.levels.now) (length c.args.sets.now.items) c.args.command.now c.get.result.now c.as_slice-in-Seq.result.now e)

pub number-number_chain-requires-in-Or : goal.number-number_chain-requires-in-Or
number-number_chain-requires-in-Or t c =
    let e : c.args.command.now ≡ tree.Or c.get-in-Or.result.now c.as_slice-in-Or.result.now = c.in-Or.is ∙ ap (λ x. tree.Or x c.in-Or.rest) (sym c.get-in-Or.ensures) ∙ ap (tree.Or c.get-in-Or.result.now) (sym c.as_slice-in-Or.ensures) in
    let z : size c.args.command.now ≡ 1 + size c.get-in-Or.result.now + sizes c.as_slice-in-Or.result.now = ap size e ∙ size-Or c.get-in-Or.result.now c.as_slice-in-Or.result.now in
    (omega arith, tt)

pub number-returns-in_ok-chain-in-Or-clause-command : goal.number-returns-in_ok-chain-in-Or-clause-command
number-returns-in_ok-chain-in-Or-clause-command t c =
    let e : c.args.command.now ≡ tree.Or c.get-in-Or.result.now c.as_slice-in-Or.result.now = c.in-Or.is ∙ ap (λ x. tree.Or x c.in-Or.rest) (sym c.get-in-Or.ensures) ∙ ap (tree.Or c.get-in-Or.result.now) (sym c.as_slice-in-Or.ensures) in
    ap command_of c.into_or.ensures ∙ or_command (scope_of c.args.levels.now) (length c.args.sets.now.items) c.args.command.now c.get-in-Or.result.now c.as_slice-in-Or.result.now c.in_ok-chain-in-Or.chain.first c.in_ok-chain-in-Or.chain.rest e c.in_ok-chain-in-Or.ensures.first c.in_ok-chain-in-Or.ensures.rest

pub number-returns-in_ok-chain-in-Or-clause-sets : goal.number-returns-in_ok-chain-in-Or-clause-sets
number-returns-in_ok-chain-in-Or-clause-sets t c =
    let e : c.args.command.now ≡ tree.Or c.get-in-Or.result.now c.as_slice-in-Or.result.now = c.in-Or.is ∙ ap (λ x. tree.Or x c.in-Or.rest) (sym c.get-in-Or.ensures) ∙ ap (tree.Or c.get-in-Or.result.now) (sym c.as_slice-in-Or.ensures) in
    c.in_ok-chain-in-Or.ensures.sets ∙ ap (λ l. c.args.sets.now.items ++ l) (or_sets (scope_of c.args.levels.now) (length c.args.sets.now.items) c.args.command.now c.get-in-Or.result.now c.as_slice-in-Or.result.now e)

pub number-number_branches-requires : goal.number-number_branches-requires
number-number_branches-requires t c =
    let z : size c.args.command.now ≡ 1 + size c.in-If.condition + size c.in-If.then + size c.in-If.other = ap size c.in-If.is ∙ size-If c.in-If.condition c.in-If.then c.in-If.other in
    (omega arith, tt)

pub number-returns-in_ok-branches-in-If-clause-command : goal.number-returns-in_ok-branches-in-If-clause-command
number-returns-in_ok-branches-in-If-clause-command t c =
    let r = c.in_ok-branches-in-If in
    ap command_of c.into_if.ensures ∙ if_command (scope_of c.args.levels.now) (length c.args.sets.now.items) c.args.command.now c.in-If.condition c.in-If.then c.in-If.other r.branches.condition r.branches.then r.branches.other c.in-If.is r.ensures.first r.ensures.second r.ensures.third

pub number-returns-in_ok-branches-in-If-clause-sets : goal.number-returns-in_ok-branches-in-If-clause-sets
number-returns-in_ok-branches-in-If-clause-sets t c =
    c.in_ok-branches-in-If.ensures.sets ∙ ap (λ l. c.args.sets.now.items ++ l) (sym (if_sets (scope_of c.args.levels.now) (length c.args.sets.now.items) c.args.command.now c.in-If.condition c.in-If.then c.in-If.other c.in-If.is))

pub number-number_branches-requires-in-Try : goal.number-number_branches-requires-in-Try
number-number_branches-requires-in-Try t c =
    let z : size c.args.command.now ≡ 1 + size c.in-Try.condition + size c.in-Try.then + size c.in-Try.other = ap size c.in-Try.is ∙ size-Try c.in-Try.condition c.in-Try.then c.in-Try.other in
    (omega arith, tt)

pub number-returns-in_ok-branches-in-Try-clause-command : goal.number-returns-in_ok-branches-in-Try-clause-command
number-returns-in_ok-branches-in-Try-clause-command t c =
    let r = c.in_ok-branches-in-Try in
    ap command_of c.into_try.ensures ∙ try_command (scope_of c.args.levels.now) (length c.args.sets.now.items) c.args.command.now c.in-Try.condition c.in-Try.then c.in-Try.other r.branches.condition r.branches.then r.branches.other c.in-Try.is r.ensures.first r.ensures.second r.ensures.third

pub number-returns-in_ok-branches-in-Try-clause-sets : goal.number-returns-in_ok-branches-in-Try-clause-sets
number-returns-in_ok-branches-in-Try-clause-sets t c =
    c.in_ok-branches-in-Try.ensures.sets ∙ ap (λ l. c.args.sets.now.items ++ l) (sym (try_sets (scope_of c.args.levels.now) (length c.args.sets.now.items) c.args.command.now c.in-Try.condition c.in-Try.then c.in-Try.other c.in-Try.is))

pub number-number_boxed-requires : goal.number-number_boxed-requires
number-number_boxed-requires t c =
    let e : c.args.command.now ≡ tree.Loop c.get-in-Loop.result.now = c.in-Loop.is ∙ ap tree.Loop (sym c.get-in-Loop.ensures) in
    let z : size c.args.command.now ≡ 1 + size c.get-in-Loop.result.now = ap size e ∙ size-Loop c.get-in-Loop.result.now in
    (omega arith, tt)

pub number-returns-in_ok-number_boxed-in-Loop-clause-command : goal.number-returns-in_ok-number_boxed-in-Loop-clause-command
number-returns-in_ok-number_boxed-in-Loop-clause-command t c =
    let e : c.args.command.now ≡ tree.Loop c.get-in-Loop.result.now = c.in-Loop.is ∙ ap tree.Loop (sym c.get-in-Loop.ensures) in
    loop_command (scope_of c.args.levels.now) (length c.args.sets.now.items) c.args.command.now c.get-in-Loop.result.now c.in_ok-number_boxed-in-Loop.field-0 e c.in_ok-number_boxed-in-Loop.ensures.command

pub number-returns-in_ok-number_boxed-in-Loop-clause-sets : goal.number-returns-in_ok-number_boxed-in-Loop-clause-sets
number-returns-in_ok-number_boxed-in-Loop-clause-sets t c =
    let e : c.args.command.now ≡ tree.Loop c.get-in-Loop.result.now = c.in-Loop.is ∙ ap tree.Loop (sym c.get-in-Loop.ensures) in
    c.in_ok-number_boxed-in-Loop.ensures.sets ∙ ap (λ l. c.args.sets.now.items ++ l) (loop_sets (scope_of c.args.levels.now) (length c.args.sets.now.items) c.args.command.now c.get-in-Loop.result.now e)

pub number-returns-in_ok-place-in-Call-clause-command : goal.number-returns-in_ok-place-in-Call-clause-command
number-returns-in_ok-place-in-Call-clause-command t c =
    let e : c.args.command.now ≡ tree.Call c.as_slice.result.now = c.in-Call.is ∙ ap tree.Call (sym c.as_slice.ensures) in
    call_command (scope_of c.args.levels.now) (length c.args.sets.now.items) c.args.command.now c.as_slice.result.now c.in_ok-place-in-Call.place e c.in_ok-place-in-Call.ensures.place

pub number-returns-in_ok-place-in-Call-clause-sets : goal.number-returns-in_ok-place-in-Call-clause-sets
number-returns-in_ok-place-in-Call-clause-sets t c =
    let e : c.args.command.now ≡ tree.Call c.as_slice.result.now = c.in-Call.is ∙ ap tree.Call (sym c.as_slice.ensures) in
    c.in_ok-place-in-Call.ensures.sets ∙ ap (λ l. c.args.sets.now.items ++ l) (call_sets (scope_of c.args.levels.now) (length c.args.sets.now.items) c.args.command.now c.as_slice.result.now e)

pub number-returns-in-Procedure-clause-command : goal.number-returns-in-Procedure-clause-command
number-returns-in-Procedure-clause-command t c =
    procedure_command (scope_of c.args.levels.now) (length c.args.sets.now.items) c.args.command.now c.in-Procedure.name c.procedure_at.result c.in-Procedure.is c.procedure_at.ensures

pub number-returns-in-Procedure-clause-sets : goal.number-returns-in-Procedure-clause-sets
number-returns-in-Procedure-clause-sets t c =
    nothing_behind c.args.sets.now.items _ (procedure_sets (scope_of c.args.levels.now) (length c.args.sets.now.items) c.args.command.now c.in-Procedure.name c.in-Procedure.is)

pub number-returns-in-Skip-clause-command : goal.number-returns-in-Skip-clause-command
number-returns-in-Skip-clause-command t c =
    skip_command (scope_of c.args.levels.now) (length c.args.sets.now.items) c.args.command.now c.in-Skip.is

pub number-returns-in-Skip-clause-sets : goal.number-returns-in-Skip-clause-sets
number-returns-in-Skip-clause-sets t c =
    nothing_behind c.args.sets.now.items _ (skip_sets (scope_of c.args.levels.now) (length c.args.sets.now.items) c.args.command.now c.in-Skip.is)

pub number-returns-in-Fail-clause-command : goal.number-returns-in-Fail-clause-command
number-returns-in-Fail-clause-command t c =
    fail_command (scope_of c.args.levels.now) (length c.args.sets.now.items) c.args.command.now c.in-Fail.is

pub number-returns-in-Fail-clause-sets : goal.number-returns-in-Fail-clause-sets
number-returns-in-Fail-clause-sets t c =
    nothing_behind c.args.sets.now.items _ (fail_sets (scope_of c.args.levels.now) (length c.args.sets.now.items) c.args.command.now c.in-Fail.is)

pub number-returns-in-Break-clause-command : goal.number-returns-in-Break-clause-command
number-returns-in-Break-clause-command t c =
    break_command (scope_of c.args.levels.now) (length c.args.sets.now.items) c.args.command.now c.in-Break.is

pub number-returns-in-Break-clause-sets : goal.number-returns-in-Break-clause-sets
number-returns-in-Break-clause-sets t c =
    nothing_behind c.args.sets.now.items _ (break_sets (scope_of c.args.levels.now) (length c.args.sets.now.items) c.args.command.now c.in-Break.is)

pub number_branches-number_boxed-requires : goal.number_branches-number_boxed-requires
number_branches-number_boxed-requires t c =
    let z : size c.get.result.now ≡ size c.args.first.now = ap size c.get.ensures in
    (omega arith, tt)

pub number_branches-number_boxed-requires-2 : goal.number_branches-number_boxed-requires-2
number_branches-number_boxed-requires-2 t c =
    let z : size c.get-2.result.now ≡ size c.args.second.now = ap size c.get-2.ensures in
    (omega arith, tt)

pub number_branches-number_boxed-requires-3 : goal.number_branches-number_boxed-requires-3
number_branches-number_boxed-requires-3 t c =
    let z : size c.get-3.result.now ≡ size c.args.third.now = ap size c.get-3.ensures in
    (omega arith, tt)

pub number_branches-returns-clause-second : goal.number_branches-returns-clause-second
number_branches-returns-clause-second t c =
    let s = scope_of c.args.levels.now in
    let behind = rw c.get.ensures at c.in_ok-first.ensures.sets in
    let is = rw c.get-2.ensures at c.in_ok-second.ensures.command in
    is ∙ ap (λ n. resolved s n (named c.args.second.now)) (behind_part s c.args.sets.now.items _ c.args.first.now behind)

pub number_branches-returns-clause-third : goal.number_branches-returns-clause-third
number_branches-returns-clause-third t c =
    let s = scope_of c.args.levels.now in
    let behind = rw c.get.ensures at c.in_ok-first.ensures.sets in
    let further = rw c.get-2.ensures at c.in_ok-second.ensures.sets in
    let is = rw c.get-3.ensures at c.in_ok-third.ensures.command in
    is
    ∙ ap (λ n. resolved s n (named c.args.third.now))
    (behind_part s _ _ c.args.second.now further ∙ ap (λ n. n + how_many (named c.args.second.now)) (behind_part s c.args.sets.now.items _ c.args.first.now behind))

pub number_branches-returns-clause-sets : goal.number_branches-returns-clause-sets
number_branches-returns-clause-sets t c =
    let s = scope_of c.args.levels.now in
    let old = c.args.sets.now.items in
    let a = sets_in s (named c.args.first.now) in
    let b = sets_in s (named c.args.second.now) in
    let d = sets_in s (named c.args.third.now) in
    let behind = rw c.get.ensures at c.in_ok-first.ensures.sets in
    let further = rw c.get-2.ensures at c.in_ok-second.ensures.sets in
    let last = rw c.get-3.ensures at c.in_ok-third.ensures.sets in
    last ∙ ap (λ l. l ++ d) (further ∙ ap (λ l. l ++ b) behind) ∙ append_assoc (old ++ a) b d ∙ append_assoc old a (b ++ d)

pub number_chain-number_rest-requires : goal.number_chain-number_rest-requires
number_chain-number_rest-requires t c =
    (omega arith, tt)

pub number_rest-number-requires : goal.number_rest-number-requires
number_rest-number-requires t c =
    let z = is_smaller c.args.commands.now c.each.command-index c.command-item.result c.each-test.true c.command-item.is in
    (omega arith, tt)

pub number_rest-each-preserved : goal.number_rest-each-preserved
number_rest-each-preserved t c =
    let more : take (c.each.command-index + 1) c.args.commands.now ≡ take c.each.command-index c.args.commands.now ++ c.command-item.result ∷ [] = take_more c.args.commands.now c.each.command-index c.command-item.result c.each-test.true ∙ ap (λ x. take c.each.command-index c.args.commands.now ++ x ∷ []) (sym c.command-item.is) in
    let count : length c.each.sets.items ≡ length c.args.sets.now.items + called_in_rest (take c.each.command-index c.args.commands.now) = ap length c.each.invariant.sets ∙ length-append c.args.sets.now.items (sets_in_rest (scope_of c.args.levels.now) (take c.each.command-index c.args.commands.now)) ∙ ap (λ n. length c.args.sets.now.items + n) (rest_counted (scope_of c.args.levels.now) (take c.each.command-index c.args.commands.now)) in
    record {
      commands = ap (map command_of) c.in_ok-push.ensures.items ∙ map-append command_of c.each.numbered.items (c.in_ok-number.field-0 ∷ []) ∙ ap (λ l. l ++ command_of c.in_ok-number.field-0 ∷ []) c.each.invariant.commands
          ∙ ap (λ x. resolved_rest (scope_of c.args.levels.now) (length c.args.sets.now.items) (take c.each.command-index c.args.commands.now) ++ x ∷ []) (c.in_ok-number.ensures.command ∙ ap (λ n. resolved (scope_of c.args.levels.now) n (named c.command-item.result)) count) ∙ sym (ap (resolved_rest (scope_of c.args.levels.now) (length c.args.sets.now.items)) more ∙ rest_push (scope_of c.args.levels.now) (length c.args.sets.now.items) (take c.each.command-index c.args.commands.now) c.command-item.result);
      sets = c.in_ok-number.ensures.sets ∙ ap (λ l. l ++ sets_in (scope_of c.args.levels.now) (named c.command-item.result)) c.each.invariant.sets ∙ append_assoc c.args.sets.now.items (sets_in_rest (scope_of c.args.levels.now) (take c.each.command-index c.args.commands.now)) (sets_in (scope_of c.args.levels.now) (named c.command-item.result)) ∙ ap (λ l. c.args.sets.now.items ++ l) (sym (ap (sets_in_rest (scope_of c.args.levels.now)) more ∙ sets_push (scope_of c.args.levels.now) (take c.each.command-index c.args.commands.now) c.command-item.result));
    }

pub number_chain-returns-clause-rest : goal.number_chain-returns-clause-rest
number_chain-returns-clause-rest t c =
    let s = scope_of c.args.levels.now in
    c.in_ok-rest.ensures.commands ∙ ap (λ n. resolved_rest s n c.args.rest.now) (behind_part s c.args.sets.now.items _ c.args.first.now c.in_ok-first.ensures.sets)

pub number_chain-returns-clause-sets : goal.number_chain-returns-clause-sets
number_chain-returns-clause-sets t c =
    let s = scope_of c.args.levels.now in
    let a = sets_in s (named c.args.first.now) in
    let b = sets_in_rest s c.args.rest.now in
    c.in_ok-rest.ensures.sets ∙ ap (λ l. l ++ b) c.in_ok-first.ensures.sets ∙ append_assoc c.args.sets.now.items a b

pub number_rest-returns-clause-commands : goal.number_rest-returns-clause-commands
number_rest-returns-clause-commands t c =
    ap (map command_of) c.from_vec.ensures ∙ c.each.invariant.commands
    ∙ ap (resolved_rest (scope_of c.args.levels.now) (length c.args.sets.now.items)) (take_all c.each.command-index c.args.commands.now c.each-test.false)

pub number_rest-returns-clause-sets : goal.number_rest-returns-clause-sets
number_rest-returns-clause-sets t c =
    c.each.invariant.sets ∙ ap (λ l. c.args.sets.now.items ++ sets_in_rest (scope_of c.args.levels.now) l) (take_all c.each.command-index c.args.commands.now c.each-test.false)
