use Rattle.std.proofs.Common.{◌≡◌, ◌∙◌, ◌-◌, ◌++◌, zero, suc, refl, ℕ, ap, sym, slice_get, arith}
use Rattle.std.specs.Option.{option_or, option_copied}
use Rattle.gp_scope.specs.Outline.{outline}
use Rattle.gp_reader.specs.inside.Named.{procedure_names}
use Rattle.gp_reader.proofs.Own_names.{rule_names, own_first, one_less, as_many}
use Rattle.gp_reader.proofs.names.+name.Goals as goal
use Rattle.gp_reader.proofs.names.+name.Goals.{name_within-then-not-is_main+else-left-eq0, name_within-else-not-is_main}

one_before : (k j : ℕ) → j ≡ k - 1 → (k ≡ 0 → ⊥) → k ≡ suc j
one_before zero j e n = absurd (n refl)
one_before (suc k) j e n = omega (arith, e)

pub name_within-returns-in-Rule : goal.name_within-returns-in-Rule
name_within-returns-in-Rule t c = λ os ns. ap (λ l. slice_get (l ++ ns) c.args.left.now) (rule_names c.args.declaration.now c.in-Rule.field-0 os c.in-Rule.is)

pub name_within-returns-then-left-eq0 : goal.name_within-returns-then-left-eq0
name_within-returns-then-left-eq0 t c = λ os ns.
    let p = c.in-Procedure in
    own_first c.args.declaration.now p.name p.declarations p.body p.is os ns c.args.left.now (sym c.is_main.ensures ∙ c.if-not-is_main.true) c.if-left-eq0.true

pub name_within-returns-after-not-is_main : goal.name_within-returns-after-not-is_main
name_within-returns-after-not-is_main t c = λ os ns.
    let p = c.in-Procedure in
    let here : slice_get (procedure_names (outline p.declarations) ++ (procedure_names os ++ ns)) c.if-not-is_main.left ≡ option_or (option_copied c.name_among.result) (slice_get (procedure_names os ++ ns) c.name_among.new.left) =
    ap (λ ds. slice_get (procedure_names (outline ds) ++ (procedure_names os ++ ns)) c.if-not-is_main.left) (sym c.as_slice.ensures) ∙ c.name_among.ensures (procedure_names os ++ ns) in
    elim c.if-not-is_main.branch [
      | name_within-then-not-is_main+else-left-eq0 w ↦ one_less c.args.declaration.now p.name p.declarations p.body p.is os ns c.args.left.now c.if-not-is_main.left (sym c.is_main.ensures ∙ w.if-not-is_main.true) (one_before c.args.left.now c.if-not-is_main.left w.left-is w.if-left-eq0.false) ∙ here
      | name_within-else-not-is_main w ↦ as_many c.args.declaration.now p.name p.declarations p.body p.is os ns c.args.left.now (sym c.is_main.ensures ∙ w.if-not-is_main.false) ∙ ap (slice_get (procedure_names (outline p.declarations) ++ (procedure_names os ++ ns))) (sym w.left-is) ∙ here
    ]
