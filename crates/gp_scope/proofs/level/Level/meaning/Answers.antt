use Rattle.std.proofs.Common.{◌≡◌, ◌∙◌, ap, sym, Some, None, arith}
use Rattle.gp_values.specs.Names.{place_of}
use Rattle.gp_scope.specs.Names.{meaning_in}
use Rattle.gp_scope.proofs.Pairs.{no_place, some_place}
use Rattle.gp_scope.proofs.level.Level.meaning.Goals as goal

pub returns-in_err-place : goal.returns-in_err-place
returns-in_err-place c =
    let e : place_of c.self.inside.names c.args.name.now ≡ None = sym (c.in_err-place.ensures ∙ ap (place_of c.self.inside.names) c.as_bytes.ensures) in
    c.from_residual.ensures ∙ sym (no_place c.self.inside.names c.self.inside.meanings.items c.args.name.now e) ∙ ap (λ s. meaning_in s c.args.name.now) c.self.view_is

pub index-requires : goal.index-requires
index-requires c =
    let e : place_of c.self.inside.names c.args.name.now ≡ Some c.in_ok-place.place = sym (c.in_ok-place.ensures ∙ ap (place_of c.self.inside.names) c.as_bytes.ensures) in
    let s = some_place c.self.inside.names c.self.inside.meanings.items c.args.name.now c.in_ok-place.place c.self.invariant e in
    omega (arith, s.0)

pub returns : goal.returns
returns c =
    let e : place_of c.self.inside.names c.args.name.now ≡ Some c.in_ok-place.place = sym (c.in_ok-place.ensures ∙ ap (place_of c.self.inside.names) c.as_bytes.ensures) in
    let s = some_place c.self.inside.names c.self.inside.meanings.items c.args.name.now c.in_ok-place.place c.self.invariant e in
    ap Some c.index.ensures ∙ sym (s.1 c.index.result.now) ∙ ap (λ s. meaning_in s c.args.name.now) c.self.view_is
