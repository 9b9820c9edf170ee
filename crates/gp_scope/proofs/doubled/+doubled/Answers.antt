use Rattle.std.proofs.Common.{rules, ◌≡◌, ◌∙◌, ◌+◌, ap, sym, [], ◌∷◌, ◌++◌, drop, true, false, not, cond, Bool, Some, None, Option, option_map, is_some, List, refl}
use Rattle.std.specs.Option.{option_or, option_copied}
use Rattle.gp_values.specs.Names.{Name, has_name}
use Rattle.gp_syntax.specs.declared.tree.Decl.{Decl}
use Rattle.gp_scope.specs.Outline.{outline, declared, Outline}
use Rattle.gp_scope.specs.Fault.{doubled_behind}
use Rattle.gp_scope.specs.inside.Doubles.{name_of, TellsDoubled}
use Rattle.gp_scope.specs.Surveys.{weight, weights}
use Rattle.gp_scope.proofs.Outlines.{outline_from, outline_past, declared-Rule, declared-Procedure, name_of-Rule, name_of-Procedure, weight-Procedure, weighs_less}
use Rattle.gp_scope.proofs.doubled.+doubled.Goals as goal

was_there : (r b : Bool) → r ≡ not b → r ≡ false → b ≡ true
was_there r true e f = refl
was_there r false e f = cc

was_new : (r b : Bool) → r ≡ not b → r ≡ true → b ≡ false
was_new r true e f = cc
was_new r false e f = refl

pub doubled_within-returns-in-Rule : goal.doubled_within-returns-in-Rule
doubled_within-returns-in-Rule t c = λ seen os. rw (c.in-Rule.is, declared-Rule c.in-Rule.field-0 os, name_of-Rule c.in-Rule.field-0) refl

pub doubled_within-first_doubled-requires : goal.doubled_within-first_doubled-requires
doubled_within-first_doubled-requires t c =
    let are = c.as_slice.ensures in
    let w : weight c.args.declaration.now ≡ 1 + weights c.in-Procedure.declarations = ap weight c.in-Procedure.is ∙ weight-Procedure c.in-Procedure.name c.in-Procedure.declarations c.in-Procedure.body in
    search rules

pub doubled_within-returns-in_ok-found-in-Procedure : goal.doubled_within-returns-in_ok-found-in-Procedure
doubled_within-returns-in_ok-found-in-Procedure t c = λ seen os.
    rw (c.in-Procedure.is, declared-Procedure c.in-Procedure.name c.in-Procedure.declarations c.in-Procedure.body os, name_of-Procedure c.in-Procedure.name c.in-Procedure.declarations c.in-Procedure.body, c.in_ok-found-in-Procedure.ensures, c.as_slice.ensures) refl

pub first_doubled-doubled_within-requires : goal.first_doubled-doubled_within-requires
first_doubled-doubled_within-requires t c =
    let w = weighs_less c.args.declarations.now c.each.declaration-index c.declaration-item.result c.each-test.true c.declaration-item.is in
    search rules

pub first_doubled-returns-then-not-branch : goal.first_doubled-returns-then-not-branch
first_doubled-returns-then-not-branch t c =
    let n = c.name_of-name.ensures.name in
    let b : c.as_bytes.result.now ≡ name_of c.declaration-item.result = c.as_bytes.ensures ∙ n in
    let h : has_name c.each.seen (name_of c.declaration-item.result) ≡ true = was_there c.in_ok-add.field-0 (has_name c.each.seen (name_of c.declaration-item.result)) (c.in_ok-add.ensures.new ∙ ap (λ x. not (has_name c.each.seen x)) b) c.if-not-branch.true in
    let e = outline_from c.args.declarations.now c.each.declaration-index c.declaration-item.result c.each-test.true c.declaration-item.is in
    ap Some n ∙ sym (c.name_of-name.ensures.again c.each.seen (outline (drop (c.each.declaration-index + 1) c.args.declarations.now)) h) ∙ ap (doubled_behind c.each.seen) (sym e) ∙ c.each.invariant

-- what is told where the name is new
new_told : (seen : List Name) (d : Decl) (o : Option Name) (os : Outline) → has_name seen (name_of d) ≡ false → TellsDoubled d o → doubled_behind seen (declared d os) ≡ option_or o (doubled_behind (seen ++ name_of d ∷ []) os)
new_told seen d o os n told = told seen os ∙ ap (λ b. cond b (Some (name_of d)) (option_or o (doubled_behind (seen ++ name_of d ∷ []) os))) n

some_told : {X : Type 0} (o : Option X) (f : X → Name) (r : Option Name) → is_some o ≡ true → option_or (option_map f o) r ≡ option_map f o
some_told (Some x) f r e = refl
some_told None f r e = cc

none_told : {X : Type 0} (o : Option X) (f : X → Name) (r : Option Name) → is_some o ≡ false → option_or (option_map f o) r ≡ r
none_told (Some x) f r e = cc
none_told None f r e = refl

pub first_doubled-returns-then-is_some : goal.first_doubled-returns-then-is_some
first_doubled-returns-then-is_some t c =
    let b : c.as_bytes.result.now ≡ name_of c.declaration-item.result = c.as_bytes.ensures ∙ c.name_of-name.ensures.name in
    let h : has_name c.each.seen (name_of c.declaration-item.result) ≡ false = was_new c.in_ok-add.field-0 (has_name c.each.seen (name_of c.declaration-item.result)) (c.in_ok-add.ensures.new ∙ ap (λ x. not (has_name c.each.seen x)) b) c.if-not-branch.false in
    let e = outline_from c.args.declarations.now c.each.declaration-index c.declaration-item.result c.each-test.true c.declaration-item.is in
    let rest = outline (drop (c.each.declaration-index + 1) c.args.declarations.now) in
    sym (some_told c.in_ok-within.within (λ x. x.now) _ (sym c.if-is_some.ensures)) ∙ sym (new_told c.each.seen c.declaration-item.result (option_copied c.in_ok-within.within) rest h c.in_ok-within.ensures) ∙ ap (doubled_behind c.each.seen) (sym e) ∙ c.each.invariant

pub first_doubled-each-preserved : goal.first_doubled-each-preserved
first_doubled-each-preserved t c =
    let b : c.as_bytes.result.now ≡ name_of c.declaration-item.result = c.as_bytes.ensures ∙ c.name_of-name.ensures.name in
    let h : has_name c.each.seen (name_of c.declaration-item.result) ≡ false = was_new c.in_ok-add.field-0 (has_name c.each.seen (name_of c.declaration-item.result)) (c.in_ok-add.ensures.new ∙ ap (λ x. not (has_name c.each.seen x)) b) c.if-not-branch.false in
    let e = outline_from c.args.declarations.now c.each.declaration-index c.declaration-item.result c.each-test.true c.declaration-item.is in
    let rest = outline (drop (c.each.declaration-index + 1) c.args.declarations.now) in
    let s : c.add.new.self ≡ c.each.seen ++ name_of c.declaration-item.result ∷ [] = c.in_ok-add.ensures.names ∙ ap (λ n. cond (has_name c.each.seen n) c.each.seen (c.each.seen ++ n ∷ [])) b ∙ ap (λ x. cond x c.each.seen (c.each.seen ++ name_of c.declaration-item.result ∷ [])) h in
    ap (λ l. doubled_behind l rest) s ∙ sym (none_told c.in_ok-within.within (λ x. x.now) _ (sym c.if-is_some.ensures)) ∙ sym (new_told c.each.seen c.declaration-item.result (option_copied c.in_ok-within.within) rest h c.in_ok-within.ensures) ∙ ap (doubled_behind c.each.seen) (sym e) ∙ c.each.invariant

pub first_doubled-returns : goal.first_doubled-returns
first_doubled-returns t c = sym (ap (doubled_behind c.each.seen) (outline_past c.args.declarations.now c.each.declaration-index c.each-test.false)) ∙ c.each.invariant
