use Rattle.std.proofs.Common.{◌≡◌, ◌∙◌, ◌+◌, ap, sym, drop, Bor}
use Rattle.std.specs.Option.{option_or, option_copied}
use Rattle.gp_values.specs.Names.{Name}
use Rattle.gp_scope.specs.Fault.{first_told, unknown_in}
use Rattle.gp_scope.specs.inside.Levels.{scope_of}
use Rattle.gp_scope.specs.inside.Commands.{unknown_rule, unknown_in_rest}
use Rattle.gp_scope.proofs.Told.{some_told, none_told, told_from, told_past}
use Rattle.gp_scope.proofs.Named.{named-Call, named-Procedure, named-Loop, told, chain_told, branches_told, nothing_told}
use Rattle.gp_scope.proofs.unknown.+unknown.Goals as goal

pub unknown_in-returns-in-Call : goal.unknown_in-returns-in-Call
unknown_in-returns-in-Call t c =
    let s = scope_of c.args.levels.now in
    c.unknown_rule.ensures ∙ ap (first_told (unknown_rule s)) c.as_slice.ensures ∙ sym (ap (told s) c.in-Call.is ∙ ap (unknown_in s) (named-Call c.in-Call.names))

pub unknown_in-returns-in-Procedure : goal.unknown_in-returns-in-Procedure
unknown_in-returns-in-Procedure t c =
    let s = scope_of c.args.levels.now in
    c.unknown_procedure.ensures ∙ sym (ap (told s) c.in-Procedure.is ∙ ap (unknown_in s) (named-Procedure c.in-Procedure.name))

pub unknown_in-returns-in-Loop : goal.unknown_in-returns-in-Loop
unknown_in-returns-in-Loop t c =
    let s = scope_of c.args.levels.now in
    c.unknown_in.ensures ∙ ap (told s) c.get.ensures ∙ sym (ap (told s) c.in-Loop.is ∙ ap (unknown_in s) (named-Loop c.in-Loop.body))

pub unknown_in-returns-in-Skip : goal.unknown_in-returns-in-Skip
unknown_in-returns-in-Skip t c = sym (nothing_told (scope_of c.args.levels.now) c.args.command.now c.in-Skip.is)

pub unknown_in-returns-then-is_some : goal.unknown_in-returns-then-is_some
unknown_in-returns-then-is_some t c =
    let s = scope_of c.args.levels.now in
    let k : option_copied c.unknown_in-found.result ≡ told s c.in-If.condition = c.unknown_in-found.ensures ∙ ap (told s) c.get-in-If.ensures in
    let rest = option_or (told s c.in-If.then) (told s c.in-If.other) in
    sym (some_told c.unknown_in-found.result (λ (x : Bor Name). x.now) rest (sym c.if-is_some.ensures)) ∙ ap (λ o. option_or o rest) k ∙ sym (branches_told s c.args.command.now c.in-If.condition c.in-If.then c.in-If.other c.in-If.is)

pub unknown_in-returns-then-is_some-2 : goal.unknown_in-returns-then-is_some-2
unknown_in-returns-then-is_some-2 t c =
    let s = scope_of c.args.levels.now in
    let k : option_copied c.unknown_in-found.result ≡ told s c.in-If.condition = c.unknown_in-found.ensures ∙ ap (told s) c.get-in-If.ensures in
    let p : option_copied c.unknown_in-found-in-If.result ≡ told s c.in-If.then = c.unknown_in-found-in-If.ensures ∙ ap (told s) c.get-in-If-2.ensures in
    let rest = option_or (told s c.in-If.then) (told s c.in-If.other) in
    sym (some_told c.unknown_in-found-in-If.result (λ (x : Bor Name). x.now) (told s c.in-If.other) (sym c.if-is_some-2.ensures)) ∙ ap (λ o. option_or o (told s c.in-If.other)) p
    ∙ sym (none_told c.unknown_in-found.result (λ (x : Bor Name). x.now) rest (sym c.if-is_some.ensures)) ∙ ap (λ o. option_or o rest) k ∙ sym (branches_told s c.args.command.now c.in-If.condition c.in-If.then c.in-If.other c.in-If.is)

pub unknown_in-returns-else-is_some-2 : goal.unknown_in-returns-else-is_some-2
unknown_in-returns-else-is_some-2 t c =
    let s = scope_of c.args.levels.now in
    let k : option_copied c.unknown_in-found.result ≡ told s c.in-If.condition = c.unknown_in-found.ensures ∙ ap (told s) c.get-in-If.ensures in
    let p : option_copied c.unknown_in-found-in-If.result ≡ told s c.in-If.then = c.unknown_in-found-in-If.ensures ∙ ap (told s) c.get-in-If-2.ensures in
    let q : option_copied c.unknown_in-in-If.result ≡ told s c.in-If.other = c.unknown_in-in-If.ensures ∙ ap (told s) c.get-in-If-3.ensures in
    let rest = option_or (told s c.in-If.then) (told s c.in-If.other) in
    q ∙ sym (none_told c.unknown_in-found-in-If.result (λ (x : Bor Name). x.now) (told s c.in-If.other) (sym c.if-is_some-2.ensures)) ∙ ap (λ o. option_or o (told s c.in-If.other)) p
    ∙ sym (none_told c.unknown_in-found.result (λ (x : Bor Name). x.now) rest (sym c.if-is_some.ensures)) ∙ ap (λ o. option_or o rest) k ∙ sym (branches_told s c.args.command.now c.in-If.condition c.in-If.then c.in-If.other c.in-If.is)

pub unknown_in-returns-then-is_some-3 : goal.unknown_in-returns-then-is_some-3
unknown_in-returns-then-is_some-3 t c =
    let s = scope_of c.args.levels.now in
    let p : option_copied c.unknown_in-found-in-Seq.result ≡ told s c.in-Seq.first = c.unknown_in-found-in-Seq.ensures ∙ ap (told s) c.get-in-Seq.ensures in
    let rest = unknown_in_rest s c.in-Seq.rest in
    sym (some_told c.unknown_in-found-in-Seq.result (λ (x : Bor Name). x.now) rest (sym c.if-is_some-3.ensures)) ∙ ap (λ o. option_or o rest) p ∙ sym (chain_told s c.args.command.now c.in-Seq.first c.in-Seq.rest c.in-Seq.is)

pub unknown_in-returns-else-is_some-3 : goal.unknown_in-returns-else-is_some-3
unknown_in-returns-else-is_some-3 t c =
    let s = scope_of c.args.levels.now in
    let p : option_copied c.unknown_in-found-in-Seq.result ≡ told s c.in-Seq.first = c.unknown_in-found-in-Seq.ensures ∙ ap (told s) c.get-in-Seq.ensures in
    let rest = unknown_in_rest s c.in-Seq.rest in
    c.unknown_in_rest.ensures ∙ ap (unknown_in_rest s) c.as_slice-in-Seq.ensures ∙ sym (none_told c.unknown_in-found-in-Seq.result (λ (x : Bor Name). x.now) rest (sym c.if-is_some-3.ensures)) ∙ ap (λ o. option_or o rest) p ∙ sym (chain_told s c.args.command.now c.in-Seq.first c.in-Seq.rest c.in-Seq.is)

pub unknown_in_rest-returns-then-is_some : goal.unknown_in_rest-returns-then-is_some
unknown_in_rest-returns-then-is_some t c =
    let s = scope_of c.args.levels.now in
    let rest = unknown_in_rest s (drop (c.each.command-index + 1) c.args.commands.now) in
    sym (some_told c.unknown_in-found.result (λ (x : Bor Name). x.now) rest (sym c.if-is_some.ensures)) ∙ ap (λ o. option_or o rest) c.unknown_in-found.ensures ∙ sym (told_from (told s) c.args.commands.now c.each.command-index c.command-item.result c.each-test.true c.command-item.is) ∙ c.each.invariant

pub unknown_in_rest-each-preserved : goal.unknown_in_rest-each-preserved
unknown_in_rest-each-preserved t c =
    let s = scope_of c.args.levels.now in
    let rest = unknown_in_rest s (drop (c.each.command-index + 1) c.args.commands.now) in
    sym (none_told c.unknown_in-found.result (λ (x : Bor Name). x.now) rest (sym c.if-is_some.ensures)) ∙ ap (λ o. option_or o rest) c.unknown_in-found.ensures ∙ sym (told_from (told s) c.args.commands.now c.each.command-index c.command-item.result c.each-test.true c.command-item.is) ∙ c.each.invariant

pub unknown_in_rest-returns : goal.unknown_in_rest-returns
unknown_in_rest-returns t c = sym (told_past (told (scope_of c.args.levels.now)) c.args.commands.now c.each.command-index c.each-test.false) ∙ c.each.invariant
