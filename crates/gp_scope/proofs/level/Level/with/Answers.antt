use Rattle.std.proofs.Common.{◌≡◌, ◌∙◌, ap, sym, false, cond, [], ◌∷◌, ◌++◌, length, length-append, ◌+◌}
use Rattle.gp_values.specs.Names.{has_name}
use Rattle.gp_scope.specs.inside.Levels.{paired, names_of}
use Rattle.gp_scope.proofs.Pairs.{paired_push, paired_names}
use Rattle.gp_scope.proofs.level.Level.with.Goals as goal

pub invariant_of-result : goal.invariant_of-result
invariant_of-result c =
    let old : names_of c.args.self ≡ c.self.inside.names = ap names_of (sym c.self.view_is) ∙ paired_names c.self.inside.names c.self.inside.meanings.items c.self.invariant in
    let new : has_name c.self.inside.names c.as_bytes.result.now ≡ false = ap (has_name c.self.inside.names) c.as_bytes.ensures ∙ ap (λ l. has_name l c.args.name.now) (sym old) ∙ c.requires in
    let e : c.add.new.self ≡ c.self.inside.names ++ c.as_bytes.result.now ∷ [] = c.in_ok-add.ensures.names ∙ ap (λ b. cond b c.self.inside.names (c.self.inside.names ++ c.as_bytes.result.now ∷ [])) new in
    ap length e ∙ length-append c.self.inside.names (c.as_bytes.result.now ∷ []) ∙ sym (ap length c.in_ok-push.ensures.items ∙ length-append c.self.inside.meanings.items (c.args.meaning ∷ []) ∙ ap (λ n. n + 1) (sym c.self.invariant))

pub returns : goal.returns
returns c =
    let old : names_of c.args.self ≡ c.self.inside.names = ap names_of (sym c.self.view_is) ∙ paired_names c.self.inside.names c.self.inside.meanings.items c.self.invariant in
    let new : has_name c.self.inside.names c.as_bytes.result.now ≡ false = ap (has_name c.self.inside.names) c.as_bytes.ensures ∙ ap (λ l. has_name l c.args.name.now) (sym old) ∙ c.requires in
    let e : c.add.new.self ≡ c.self.inside.names ++ c.args.name.now ∷ [] = c.in_ok-add.ensures.names ∙ ap (λ b. cond b c.self.inside.names (c.self.inside.names ++ c.as_bytes.result.now ∷ [])) new ∙ ap (λ n. c.self.inside.names ++ n ∷ []) c.as_bytes.ensures in
    ap (λ l. paired l c.push.new.self.items) e ∙ ap (paired (c.self.inside.names ++ c.args.name.now ∷ [])) c.in_ok-push.ensures.items ∙ paired_push c.self.inside.names c.self.inside.meanings.items c.args.name.now c.args.meaning c.self.invariant ∙ ap (λ s. s ++ (c.args.name.now, c.args.meaning) ∷ []) c.self.view_is
