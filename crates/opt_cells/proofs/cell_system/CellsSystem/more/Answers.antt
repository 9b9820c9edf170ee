use Rattle.std.proofs.Common.{◌≡◌, arith, ap, sym, ◌∙◌, subst, ◌+◌, List, ℕ, Bool, true, false, Vec, Global}
use Rattle.opt_cells.proofs.More.{Gathered, skips, joins, at_end, contained_where, none_where}
use Rattle.opt_cells.proofs.cell_system.CellsSystem.more.Goals as goal
use Rattle.opt_cells.proofs.cell_system.CellsSystem.more.Goals.{then-is_of_share+then-is_true+then-not-contains+in_ok-push, else-is_of_share, else-is_of_share-via-then-is_of_share+then-is_true+else-not-contains, else-is_of_share-via-then-is_of_share+else-is_true, else-is_of_share-via-else-is_of_share}

not_both : (b : Bool) → b ≡ false → b ≡ true → ⊥
not_both b e f = cc

pub loop-place-preserved : goal.loop-place-preserved
loop-place-preserved c =
    let at = c.args.at.now in
    let first = c.args.held.now.items in
    let held = c.loop-place.held.items in
    let n = c.loop-place.place-counter in
    let G : List ℕ → Type 0 = λ ps. Gathered c.args.goal c.args.share at c.args.limit first ps (n + 1) in
    elim c.if-is_of_share.branch [
      | then-is_of_share+then-is_true+then-not-contains+in_ok-push w ↦
          subst G (sym w.in_ok-push.ensures.items ∙ ap (λ (v : Vec ℕ Global). v.items) (sym w.held-is))
          (joins c.args.goal c.args.share at c.args.limit first held n c.loop-place.invariant (omega arith) w.if-is_of_share.true (sym w.is_true.ensures ∙ w.if-is_true.true)
          (none_where w.deref.result.now held n w.deref.ensures.value w.contains.result w.if-not-contains.true w.contains.ensures.cases))
      | else-is_of_share w ↦ subst (λ (v : Vec ℕ Global). G v.items) (sym w.held-is) (elim w.else-is_of_share.branch [
        | else-is_of_share-via-then-is_of_share+then-is_true+else-not-contains v ↦
            skips c.args.goal c.args.share at c.args.limit first held n c.loop-place.invariant
            (λ its lit. contained_where v.deref.result.now held n v.deref.ensures.value v.contains.result v.if-not-contains.false v.contains.ensures.cases)
        | else-is_of_share-via-then-is_of_share+else-is_true v ↦
            skips c.args.goal c.args.share at c.args.limit first held n c.loop-place.invariant (λ its lit. absurd (not_both _ (sym v.is_true.ensures ∙ v.if-is_true.false) lit))
        | else-is_of_share-via-else-is_of_share v ↦
            skips c.args.goal c.args.share at c.args.limit first held n c.loop-place.invariant (λ its lit. absurd (v.if-is_of_share.false its))
      ])
    ]

pub returns-clause-full : goal.returns-clause-full
returns-clause-full c = at_end c.args.goal c.args.share c.args.at.now c.args.limit c.args.held.now.items c.loop-place.held.items
    (subst (λ k. Gathered c.args.goal c.args.share c.args.at.now c.args.limit c.args.held.now.items c.loop-place.held.items k) (omega arith) c.loop-place.invariant)
