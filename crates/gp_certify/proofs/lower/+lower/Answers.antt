use Rattle.std.proofs.Common.{◌≡◌, [], ◌∷◌, length, map, slice_index_or, Some, refl, ap, sym, ◌∙◌, arith, subst}
use Rattle.std.proofs.lemmas.List.{length-map}
use Rattle.std.proofs.lemmas.Option.{slice_get_read}
use Rattle.gp_syntax.specs.Run.{Command, Call, Skip, Fail, Break, Procedure}
use Rattle.gp_syntax.specs.Tree.{command_of, program_of_tree}
use Rattle.gp_syntax.specs.declared.command.Command.TheVariants as form
use Rattle.gp_syntax.proofs.Trees.{command_of-Call, command_of-Seq, command_of-If, command_of-Try, command_of-Loop, command_of-Or, command_of-Skip, command_of-Fail, command_of-Break, command_of-Proc}
use Rattle.gp_certify.specs.declared.node.Node.TheVariants as node
use Rattle.gp_certify.specs.inside.Fits.{Fits, room}
use Rattle.gp_certify.proofs.TreeParts.{seq_parts, or_parts, if_parts, try_parts, loop_part, call_part, body_part}
use Rattle.gp_certify.proofs.Sizes.{size_of_one}
use Rattle.gp_certify.proofs.Scopes.{fits_call, fits_condition, fits_then, fits_else, grouped_first, fits_one, fits_procedure, fits_positive}
use Rattle.gp_certify.proofs.Tables.{put_leaf, put_behind, means_if, means_try, means_loop, means_procedure, lowers_then, lowers_more, lowers_known, lowers_kept}
use Rattle.gp_certify.proofs.lower.+lower.Goals as goal

pub lower-lower_chain-requires : goal.lower-lower_chain-requires
lower-lower_chain-requires t c =
    let e = c.in-Seq.is in
    let h = seq_parts (program_of_tree c.args.program.now) c.args.depth (room c.args.program.now.procedures c.args.depth) c.args.command.now _ _ e c.requires.fits in
    (omega arith, (h.fits, c.requires.roots))

pub lower-lower_chain-requires-in-Or : goal.lower-lower_chain-requires-in-Or
lower-lower_chain-requires-in-Or t c =
    let e = c.in-Or.is in
    let h = or_parts (program_of_tree c.args.program.now) c.args.depth (room c.args.program.now.procedures c.args.depth) c.args.command.now _ _ e c.requires.fits in
    (omega arith, (h.fits, c.requires.roots))

pub lower-lower_branches-requires : goal.lower-lower_branches-requires
lower-lower_branches-requires t c =
    let e = c.in-If.is in
    let h = if_parts (program_of_tree c.args.program.now) c.args.depth (room c.args.program.now.procedures c.args.depth) c.args.command.now _ _ _ e c.requires.fits in
    (omega arith, (h.fits, c.requires.roots))

pub lower-lower_branches-requires-in-Try : goal.lower-lower_branches-requires-in-Try
lower-lower_branches-requires-in-Try t c =
    let e = c.in-Try.is in
    let h = try_parts (program_of_tree c.args.program.now) c.args.depth (room c.args.program.now.procedures c.args.depth) c.args.command.now _ _ _ e c.requires.fits in
    (omega arith, (h.fits, c.requires.roots))

pub lower-lower-requires : goal.lower-lower-requires
lower-lower-requires t c =
    let e = c.in-Loop.is in
    let h = loop_part (program_of_tree c.args.program.now) c.args.depth (room c.args.program.now.procedures c.args.depth) c.args.command.now _ e c.requires.fits in
    rw c.get.ensures (omega arith, (h.fits, c.requires.roots))

pub lower-lower_body-requires : goal.lower-lower_body-requires
lower-lower_body-requires t c =
    let h = call_part (program_of_tree c.args.program.now) c.args.depth (room c.args.program.now.procedures c.args.depth) c.args.command.now c.in-Proc.procedure c.in-Proc.is c.requires.fits in
    (omega arith, (h.fits, c.requires.roots))

pub lower-returns-in-Call-clause-lowers : goal.lower-returns-in-Call-clause-lowers
lower-returns-in-Call-clause-lowers t c =
    let program = program_of_tree c.args.program.now in
    let e : command_of c.args.command.now ≡ Call c.in-Call.call = ap command_of c.in-Call.is ∙ command_of-Call c.in-Call.call in
    let l = fits_call program c.args.depth c.in-Call.call (subst (λ (p : Command). Fits program c.args.depth p) e c.requires.fits) in
    rw e (put_leaf program _ _ _ (node.Call c.in-Call.call) (Call c.in-Call.call) (λ es m h. (h, l)) c.put.ensures.put)

pub lower-returns-in-Skip-clause-lowers : goal.lower-returns-in-Skip-clause-lowers
lower-returns-in-Skip-clause-lowers t c =
    rw (c.in-Skip.is, command_of-Skip) (put_leaf (program_of_tree c.args.program.now) _ _ _ node.Skip Skip (λ es m h. h) c.put-in-Skip.ensures.put)

pub lower-returns-in-Fail-clause-lowers : goal.lower-returns-in-Fail-clause-lowers
lower-returns-in-Fail-clause-lowers t c =
    rw (c.in-Fail.is, command_of-Fail) (put_leaf (program_of_tree c.args.program.now) _ _ _ node.Fail Fail (λ es m h. h) c.put-in-Fail.ensures.put)

pub lower-returns-in-Break-clause-lowers : goal.lower-returns-in-Break-clause-lowers
lower-returns-in-Break-clause-lowers t c =
    rw (c.in-Break.is, command_of-Break) (put_leaf (program_of_tree c.args.program.now) _ _ _ node.Break Break (λ es m h. h) c.put-in-Break.ensures.put)

pub lower-returns-in-Seq-clause-lowers : goal.lower-returns-in-Seq-clause-lowers
lower-returns-in-Seq-clause-lowers t c =
    let e = c.in-Seq.is in
    rw (e, command_of-Seq) c.lower_chain.ensures.lowers

pub lower-returns-in-Or-clause-lowers : goal.lower-returns-in-Or-clause-lowers
lower-returns-in-Or-clause-lowers t c =
    let e = c.in-Or.is in
    rw (e, command_of-Or) c.lower_chain-in-Or.ensures.lowers

pub lower-returns-in_ok-condition-in-If-clause-lowers : goal.lower-returns-in_ok-condition-in-If-clause-lowers
lower-returns-in_ok-condition-in-If-clause-lowers t c =
    let e = c.in-If.is in
    rw (e, command_of-If) (put_behind (program_of_tree c.args.program.now) _ _ _ _ _ _ (node.If c.in_ok-condition-in-If.condition c.in_ok-condition-in-If.then c.in_ok-condition-in-If.otherwise) _ (means_if (program_of_tree c.args.program.now) _ _ _ _ _ _) c.in_ok-condition-in-If.ensures.lowers c.put-in-If.ensures.put)

pub lower-returns-in_ok-condition-in-Try-clause-lowers : goal.lower-returns-in_ok-condition-in-Try-clause-lowers
lower-returns-in_ok-condition-in-Try-clause-lowers t c =
    let e = c.in-Try.is in
    rw (e, command_of-Try) (put_behind (program_of_tree c.args.program.now) _ _ _ _ _ _ (node.Try c.in_ok-condition-in-Try.condition c.in_ok-condition-in-Try.then c.in_ok-condition-in-Try.otherwise) _ (means_try (program_of_tree c.args.program.now) _ _ _ _ _ _) c.in_ok-condition-in-Try.ensures.lowers c.put-in-Try.ensures.put)

pub lower-returns-in_ok-body-in-Loop-clause-lowers : goal.lower-returns-in_ok-body-in-Loop-clause-lowers
lower-returns-in_ok-body-in-Loop-clause-lowers t c =
    let e : c.args.command.now ≡ form.Loop c.get.result.now = rw c.get.ensures c.in-Loop.is in
    rw (e, command_of-Loop) (put_behind (program_of_tree c.args.program.now) _ _ _ _ _ _ (node.Loop c.in_ok-body-in-Loop.body) _ (means_loop (program_of_tree c.args.program.now) _ _) c.in_ok-body-in-Loop.ensures.lowers c.put-in-Loop.ensures.put)

pub lower-returns-in_ok-body-in-Proc-clause-lowers : goal.lower-returns-in_ok-body-in-Proc-clause-lowers
lower-returns-in_ok-body-in-Proc-clause-lowers t c =
    let program = program_of_tree c.args.program.now in
    let e : command_of c.args.command.now ≡ Procedure c.in-Proc.procedure = ap command_of c.in-Proc.is ∙ command_of-Proc c.in-Proc.procedure in
    let l = fits_procedure program c.args.depth c.in-Proc.procedure (subst (λ (p : Command). Fits program c.args.depth p) e c.requires.fits) in
    rw e (put_behind program _ _ _ _ _ _ (node.Proc c.in-Proc.procedure c.in_ok-body-in-Proc.body) _ (λ es m. means_procedure program _ _ es m l) c.in_ok-body-in-Proc.ensures.lowers c.put-in-Proc.ensures.put)

pub lower_body-index-requires : goal.lower_body-index-requires
lower_body-index-requires t c =
    let l = fits_procedure (program_of_tree c.args.program.now) c.args.depth c.args.procedure c.requires.fits in
    omega (arith, length-map c.args.program.now.procedures command_of)

pub lower_body-returns-in-Some-clause-lowers : goal.lower_body-returns-in-Some-clause-lowers
lower_body-returns-in-Some-clause-lowers t c =
    let l = fits_procedure (program_of_tree c.args.program.now) c.args.depth c.args.procedure c.requires.fits in
    let e = slice_get_read c.args.table.now.roots.items _ c.args.procedure c.index.result.now refl (omega (arith, length-map c.args.program.now.procedures command_of)) c.index.ensures in
    lowers_known (program_of_tree c.args.program.now) c.args.table.now c.args.procedure c.in-Some.body (e ∙ ap Some c.in-Some.is)

pub lower_body-overflow_sub-depth : goal.lower_body-overflow_sub-depth
lower_body-overflow_sub-depth t c = fits_positive (program_of_tree c.args.program.now) c.args.depth c.args.procedure c.requires.fits

pub lower_body-bounds-as_slice-procedure : goal.lower_body-bounds-as_slice-procedure
lower_body-bounds-as_slice-procedure t c =
    let l = fits_procedure (program_of_tree c.args.program.now) c.args.depth c.args.procedure c.requires.fits in
    rw (c.as_slice.ensures, c.parts-parts.ensures.value) (omega (arith, length-map c.args.program.now.procedures command_of))

pub lower_body-lower-requires : goal.lower_body-lower-requires
lower_body-lower-requires t c =
    let e : c.as_slice.result.now ≡ c.args.program.now.procedures = rw (c.as_slice.ensures, c.parts-parts.ensures.value) refl in
    let body = c.index-as_slice-procedure.result in
    let is : body ≡ slice_index_or c.args.program.now.procedures c.args.procedure body = rw (← e) c.index-as_slice-procedure.is in
    let h = body_part (program_of_tree c.args.program.now) c.args.program.now.procedures c.args.depth c.args.procedure body refl c.parts-parts.ensures.scoped c.requires.fits is in
    (omega arith, (h.fits, c.requires.roots))

pub lower_body-index_mut-requires : goal.lower_body-index_mut-requires
lower_body-index_mut-requires t c =
    let l = fits_procedure (program_of_tree c.args.program.now) c.args.depth c.args.procedure c.requires.fits in
    let r = c.lower.ensures.roots in
    omega (arith, length-map c.args.program.now.procedures command_of)

pub lower_body-returns-clause-lowers : goal.lower_body-returns-clause-lowers
lower_body-returns-clause-lowers t c =
    let e : c.as_slice.result.now ≡ c.args.program.now.procedures = rw (c.as_slice.ensures, c.parts-parts.ensures.value) refl in
    let body = c.index-as_slice-procedure.result in
    let is : body ≡ slice_index_or c.args.program.now.procedures c.args.procedure body = rw (← e) c.index-as_slice-procedure.is in
    let h = body_part (program_of_tree c.args.program.now) c.args.program.now.procedures c.args.depth c.args.procedure body refl c.parts-parts.ensures.scoped c.requires.fits is in
    lowers_kept (program_of_tree c.args.program.now) c.args.table.now c.lower.new.table c.args.procedure c.in_ok-body.body (rw h.named at c.in_ok-body.ensures.lowers)

pub lower_chain-lower-requires : goal.lower_chain-lower-requires
lower_chain-lower-requires t c =
    let fits = grouped_first (program_of_tree c.args.program.now) c.args.depth c.args.chain (command_of c.args.first.now) (map command_of c.args.rest.now) c.requires.fits in
    rw c.get.ensures (omega arith, (fits, c.requires.roots))

pub lower_chain-lower-requires-in-parts : goal.lower_chain-lower-requires-in-parts
lower_chain-lower-requires-in-parts t c =
    let within = rw c.as_slice-part-items.ensures at c.parts-test.true in
    let is = rw c.as_slice-part-items.ensures at c.part-item.is in
    let fits = fits_one (program_of_tree c.args.program.now) c.args.depth c.args.chain (command_of c.args.first.now) c.args.rest.now c.parts.part-index c.part-item.result within is c.requires.fits in
    let size = size_of_one c.args.rest.now c.parts.part-index c.part-item.result within is in
    (omega arith, (fits, c.parts.invariant.roots))

pub lower_chain-parts-preserved : goal.lower_chain-parts-preserved
lower_chain-parts-preserved t c =
    let within = rw c.as_slice-part-items.ensures at c.parts-test.true in
    let is = rw c.as_slice-part-items.ensures at c.part-item.is in
    record {
      roots = ap (λ (r : _). length r.items) c.put.ensures.roots ∙ c.in_ok-next.ensures.roots ∙ c.parts.invariant.roots;
      lowered = lowers_more (program_of_tree c.args.program.now) _ _ _ _ c.args.chain (command_of c.args.first.now) c.args.rest.now c.parts.part-index c.part-item.result _ _ _ within is c.parts.invariant.lowered c.in_ok-next.ensures.lowers (rw c.joined.ensures at c.in_ok-so_far-2.ensures.put);
    }

pub lower_branches-lower-requires : goal.lower_branches-lower-requires
lower_branches-lower-requires t c =
    let fits = fits_condition (program_of_tree c.args.program.now) c.args.depth (command_of c.args.condition.now) (command_of c.args.then.now) (command_of c.args.otherwise.now) c.requires.fits in
    rw c.get.ensures (omega arith, (fits, c.requires.roots))

pub lower_branches-lower-requires-2 : goal.lower_branches-lower-requires-2
lower_branches-lower-requires-2 t c =
    let fits = fits_then (program_of_tree c.args.program.now) c.args.depth (command_of c.args.condition.now) (command_of c.args.then.now) (command_of c.args.otherwise.now) c.requires.fits in
    rw c.get-2.ensures (omega arith, (fits, c.in_ok-condition.ensures.roots ∙ c.requires.roots))

pub lower_branches-lower-requires-3 : goal.lower_branches-lower-requires-3
lower_branches-lower-requires-3 t c =
    let fits = fits_else (program_of_tree c.args.program.now) c.args.depth (command_of c.args.condition.now) (command_of c.args.then.now) (command_of c.args.otherwise.now) c.requires.fits in
    rw c.get-3.ensures (omega arith, (fits, c.in_ok-then.ensures.roots ∙ c.in_ok-condition.ensures.roots ∙ c.requires.roots))

pub lower_branches-returns-clause-lowers : goal.lower_branches-returns-clause-lowers
lower_branches-returns-clause-lowers t c =
    let program = program_of_tree c.args.program.now in
    let k = command_of c.args.condition.now in
    let p = command_of c.args.then.now in
    let q = command_of c.args.otherwise.now in
    let two = lowers_then program _ _ _ (c.in_ok-condition.condition ∷ []) (c.in_ok-then.then ∷ []) (k ∷ []) (p ∷ []) (rw c.get.ensures at c.in_ok-condition.ensures.lowers) (rw c.get-2.ensures at c.in_ok-then.ensures.lowers) in
    lowers_then program _ _ _ (c.in_ok-condition.condition ∷ c.in_ok-then.then ∷ []) (c.in_ok-otherwise.otherwise ∷ []) (k ∷ p ∷ []) (q ∷ []) two (rw c.get-3.ensures at c.in_ok-otherwise.ensures.lowers)

pub lower-returns-in-Call-clause-roots : goal.lower-returns-in-Call-clause-roots
lower-returns-in-Call-clause-roots t c = ap (λ (r : _). length r.items) c.put.ensures.roots

pub lower-returns-in-Skip-clause-roots : goal.lower-returns-in-Skip-clause-roots
lower-returns-in-Skip-clause-roots t c = ap (λ (r : _). length r.items) c.put-in-Skip.ensures.roots

pub lower-returns-in-Fail-clause-roots : goal.lower-returns-in-Fail-clause-roots
lower-returns-in-Fail-clause-roots t c = ap (λ (r : _). length r.items) c.put-in-Fail.ensures.roots

pub lower-returns-in-Break-clause-roots : goal.lower-returns-in-Break-clause-roots
lower-returns-in-Break-clause-roots t c = ap (λ (r : _). length r.items) c.put-in-Break.ensures.roots

pub lower-returns-in-Seq-clause-roots : goal.lower-returns-in-Seq-clause-roots
lower-returns-in-Seq-clause-roots t c = c.lower_chain.ensures.roots

pub lower-returns-in-Or-clause-roots : goal.lower-returns-in-Or-clause-roots
lower-returns-in-Or-clause-roots t c = c.lower_chain-in-Or.ensures.roots

pub lower-returns-in_err-condition-in-If-clause-roots : goal.lower-returns-in_err-condition-in-If-clause-roots
lower-returns-in_err-condition-in-If-clause-roots t c = c.lower_branches.ensures.roots

pub lower-returns-in_ok-condition-in-If-clause-roots : goal.lower-returns-in_ok-condition-in-If-clause-roots
lower-returns-in_ok-condition-in-If-clause-roots t c = ap (λ (r : _). length r.items) c.put-in-If.ensures.roots ∙ c.lower_branches.ensures.roots

pub lower-returns-in_err-condition-in-Try-clause-roots : goal.lower-returns-in_err-condition-in-Try-clause-roots
lower-returns-in_err-condition-in-Try-clause-roots t c = c.lower_branches-in-Try.ensures.roots

pub lower-returns-in_ok-condition-in-Try-clause-roots : goal.lower-returns-in_ok-condition-in-Try-clause-roots
lower-returns-in_ok-condition-in-Try-clause-roots t c = ap (λ (r : _). length r.items) c.put-in-Try.ensures.roots ∙ c.lower_branches-in-Try.ensures.roots

pub lower-returns-in_err-body-in-Loop-clause-roots : goal.lower-returns-in_err-body-in-Loop-clause-roots
lower-returns-in_err-body-in-Loop-clause-roots t c = c.lower.ensures.roots

pub lower-returns-in_ok-body-in-Loop-clause-roots : goal.lower-returns-in_ok-body-in-Loop-clause-roots
lower-returns-in_ok-body-in-Loop-clause-roots t c = ap (λ (r : _). length r.items) c.put-in-Loop.ensures.roots ∙ c.lower.ensures.roots

pub lower-returns-in_err-body-in-Proc-clause-roots : goal.lower-returns-in_err-body-in-Proc-clause-roots
lower-returns-in_err-body-in-Proc-clause-roots t c = c.lower_body.ensures.roots

pub lower-returns-in_ok-body-in-Proc-clause-roots : goal.lower-returns-in_ok-body-in-Proc-clause-roots
lower-returns-in_ok-body-in-Proc-clause-roots t c = ap (λ (r : _). length r.items) c.put-in-Proc.ensures.roots ∙ c.lower_body.ensures.roots

pub lower_body-returns-in_err-body-clause-roots : goal.lower_body-returns-in_err-body-clause-roots
lower_body-returns-in_err-body-clause-roots t c = c.lower.ensures.roots

pub lower_chain-returns-in_err-so_far-clause-roots : goal.lower_chain-returns-in_err-so_far-clause-roots
lower_chain-returns-in_err-so_far-clause-roots t c = c.lower.ensures.roots

pub lower_chain-returns-in_err-next-clause-roots : goal.lower_chain-returns-in_err-next-clause-roots
lower_chain-returns-in_err-next-clause-roots t c = c.lower-in-parts.ensures.roots ∙ c.parts.invariant.roots ∙ sym c.requires.roots

pub lower_chain-returns-in_err-so_far-2-clause-roots : goal.lower_chain-returns-in_err-so_far-2-clause-roots
lower_chain-returns-in_err-so_far-2-clause-roots t c = ap (λ (r : _). length r.items) c.put.ensures.roots ∙ c.lower-in-parts.ensures.roots ∙ c.parts.invariant.roots ∙ sym c.requires.roots

pub lower_chain-returns-clause-roots : goal.lower_chain-returns-clause-roots
lower_chain-returns-clause-roots t c = c.parts.invariant.roots ∙ sym c.requires.roots

pub lower_branches-returns-in_err-condition-clause-roots : goal.lower_branches-returns-in_err-condition-clause-roots
lower_branches-returns-in_err-condition-clause-roots t c = c.lower.ensures.roots

pub lower_branches-returns-in_err-then-clause-roots : goal.lower_branches-returns-in_err-then-clause-roots
lower_branches-returns-in_err-then-clause-roots t c = c.lower-2.ensures.roots ∙ c.lower.ensures.roots

pub lower_branches-returns-in_err-otherwise-clause-roots : goal.lower_branches-returns-in_err-otherwise-clause-roots
lower_branches-returns-in_err-otherwise-clause-roots t c = c.lower-3.ensures.roots ∙ c.lower-2.ensures.roots ∙ c.lower.ensures.roots

pub lower_branches-returns-clause-roots : goal.lower_branches-returns-clause-roots
lower_branches-returns-clause-roots t c = c.lower-3.ensures.roots ∙ c.lower-2.ensures.roots ∙ c.lower.ensures.roots
