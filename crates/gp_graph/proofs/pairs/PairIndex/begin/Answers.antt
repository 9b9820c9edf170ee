use Rattle.std.proofs.Common.{inl, inr, ◌≡◌, ◌<◌, length, set, sym, ap, subst, ◌∙◌, arith}
use Rattle.std.specs.Prelude.{vec_len}
use Rattle.gp_graph.specs.inside.Pairs.{ring_at, next_pair, FallsIn}
use Rattle.gp_graph.specs.declared.slots.Ring.{Ring}
use Rattle.gp_graph.proofs.Buckets.{some_buckets, falls, next_falls, ring_is, All, turned}
use Rattle.gp_graph.proofs.pairs.PairIndex.begin.Goals as goal

pub returns : goal.returns
returns c many_ =
    let bs = c.args.self.now.buckets.items in
    let ps = c.args.self.now.pairs.items in
    let es = c.args.edges.now in
    let many = some_buckets (vec_len c.args.self.now.buckets) (sym c.is_empty.ensures ∙ c.if-is_empty.false) in
    let some : 0 < length bs = omega (arith, many) in
    let all = c.requires.all some in
    let n : c.len.result ≡ length bs = omega (arith, c.len.ensures) in
    let b = c.bucket-place.result in
    let within : b < length bs = omega (arith, n, c.bucket-place.ensures.within) in
    let fall : FallsIn (length bs) es b c.args.e =
    subst (λ m. FallsIn m es b c.args.e) n (subst (λ k. FallsIn c.len.result es k c.args.e) (sym c.bucket-place.ensures.is) (falls c.len.result es c.args.e c.ends_of-source.result.0 c.ends_of-source.result.1 c.ends_of-source.ensures.source c.ends_of-source.ensures.target)) in
    let f = c.first_of-first.result in
    let is : c.index_mut.result.now ≡ ring_at bs b = ring_is bs b c.index_mut.result.now _ within c.index_mut.ensures.value in
    let there : FallsIn (length bs) es b f = elim c.first_of-first.ensures [
      | inl same ↦ subst (FallsIn (length bs) es b) (sym same) fall
      | inr next ↦ subst (FallsIn (length bs) es b) (sym (next ∙ ap (λ xs. next_pair xs c.args.e) c.deref.ensures.value)) (next_falls bs ps es b c.args.e fall all.1.rings)
    ] in (
      all.0,
      record {
        rings = subst (λ (r : Ring). All (set bs b (record { first = f; count = r.count })) ps es) (sym is) (turned bs ps es b f within there all.1.rings);
        ends = all.1.ends;
      },
    )
