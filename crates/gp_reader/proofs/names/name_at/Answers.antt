use Rattle.std.proofs.Common.{◌≡◌, ◌∙◌, ◌<◌, ap, sym, List, [], length, append-nil, slice_get, Option, Some, None, Bor, ℕ, arith, refl}
use Rattle.std.specs.Option.{IsSome, option_or, option_copied}
use Rattle.std.proofs.lemmas.Option.{slice_get_past}
use Rattle.gp_memory.proofs.Basics.{some_at as element}
use Rattle.gp_values.specs.Names.{Name}
use Rattle.gp_scope.specs.Outline.{outline}
use Rattle.gp_reader.specs.inside.Named.{procedure_names}
use Rattle.gp_reader.proofs.Joined.{if_ok}
use Rattle.gp_reader.proofs.names.name_at.Goals as goal

is_found : (o : Option (Bor Name)) (ns : List Name) (k j : ℕ) → k < length ns → slice_get ns k ≡ option_or (option_copied o) (slice_get [] j) → IsSome o
is_found (Some x) ns k j lt e = refl
is_found None ns k j lt e =
    let n : slice_get ns k ≡ None = e ∙ slice_get_past [] j (omega arith) in
    let s = (element ns k lt).1 in
    cc

pub unwrap-name-requires : goal.unwrap-name-requires
unwrap-name-requires c =
    let names = procedure_names (outline c.args.declarations.now) in
    is_found c.name_among.result names c.args.number c.name_among.new.left c.requires (sym (ap (λ l. slice_get l c.args.number) (append-nil names)) ∙ c.name_among.ensures [])

pub returns : goal.returns
returns c =
    let names = procedure_names (outline c.args.declarations.now) in
    let e : slice_get names c.args.number ≡ Some c.unwrap-name.result.now =
    sym (ap (λ l. slice_get l c.args.number) (append-nil names)) ∙ c.name_among.ensures [] ∙ ap (λ o. option_or (option_copied o) (slice_get [] c.name_among.new.left)) c.unwrap-name.ensures in
    if_ok c.copy.result (λ n. n ≡ c.unwrap-name.result.now) (λ n. slice_get names c.args.number ≡ Some n) (λ n h. e ∙ ap Some (sym h)) c.copy.ensures
