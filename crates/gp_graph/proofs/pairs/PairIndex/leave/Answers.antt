use Rattle.std.proofs.Common.{◌≡◌, ◌<◌, ◌≤◌, ◌-◌, length, set, sym, ap, subst, ◌∙◌, arith}
use Rattle.std.specs.Prelude.{vec_len}
use Rattle.gp_graph.specs.Chains.{Joins}
use Rattle.gp_graph.specs.inside.Pairs.{bucket_of, ring_at, pair_at, count_in, next_pair, prev_pair, FallsIn}
use Rattle.gp_graph.specs.declared.slots.Ring.{Ring}
use Rattle.gp_graph.specs.declared.pairs.Pair.{Pair}
use Rattle.gp_graph.proofs.Buckets.{some_buckets, falls, falls_within, next_falls, prev_falls, ring_is, Others, may_leave, left, ends_kept}
use Rattle.gp_graph.proofs.pairs.PairIndex.leave.Goals as goal

pub join-requires-clause-from : goal.join-requires-clause-from
join-requires-clause-from c =
    let bs = c.args.self.now.buckets.items in
    let ps = c.args.self.now.pairs.items in
    let es = c.args.edges.now in
    let many = some_buckets (vec_len c.args.self.now.buckets) (sym c.is_empty.ensures ∙ c.if-is_empty.false) in
    let some : 0 < length bs = omega (arith, many) in
    let all = c.requires.all some in
    let at : c.pair_of.result ≡ pair_at ps c.args.e = c.pair_of.ensures ∙ ap (λ xs. pair_at xs c.args.e) c.deref.ensures.value in
    let b = bucket_of (length bs) c.ends_of-source.result.0 c.ends_of-source.result.1 in
    let fall : FallsIn (length bs) es b c.args.e = falls (length bs) es c.args.e c.ends_of-source.result.0 c.ends_of-source.result.1 c.ends_of-source.ensures.source c.ends_of-source.ensures.target in
    let l = falls_within (length bs) es b (prev_pair ps c.args.e) (prev_falls bs ps es b c.args.e fall all.1.rings) in
    let is : c.pair_of.result.link.prev ≡ prev_pair ps c.args.e = ap (λ (p : Pair). p.link.prev) at in
    omega (arith, l, is, all.0)

pub join-requires-clause-to : goal.join-requires-clause-to
join-requires-clause-to c =
    let bs = c.args.self.now.buckets.items in
    let ps = c.args.self.now.pairs.items in
    let es = c.args.edges.now in
    let many = some_buckets (vec_len c.args.self.now.buckets) (sym c.is_empty.ensures ∙ c.if-is_empty.false) in
    let some : 0 < length bs = omega (arith, many) in
    let all = c.requires.all some in
    let at : c.pair_of.result ≡ pair_at ps c.args.e = c.pair_of.ensures ∙ ap (λ xs. pair_at xs c.args.e) c.deref.ensures.value in
    let b = bucket_of (length bs) c.ends_of-source.result.0 c.ends_of-source.result.1 in
    let fall : FallsIn (length bs) es b c.args.e = falls (length bs) es c.args.e c.ends_of-source.result.0 c.ends_of-source.result.1 c.ends_of-source.ensures.source c.ends_of-source.ensures.target in
    let l = falls_within (length bs) es b (next_pair ps c.args.e) (next_falls bs ps es b c.args.e fall all.1.rings) in
    let is : c.pair_of.result.link.next ≡ next_pair ps c.args.e = ap (λ (p : Pair). p.link.next) at in
    omega (arith, l, is, all.0)

pub overflow_sub-count : goal.overflow_sub-count
overflow_sub-count c =
    let bs = c.args.self.now.buckets.items in
    let ps = c.args.self.now.pairs.items in
    let es = c.args.edges.now in
    let many = some_buckets (vec_len c.args.self.now.buckets) (sym c.is_empty.ensures ∙ c.if-is_empty.false) in
    let some : 0 < length bs = omega (arith, many) in
    let all = c.requires.all some in
    let at : c.pair_of.result ≡ pair_at ps c.args.e = c.pair_of.ensures ∙ ap (λ xs. pair_at xs c.args.e) c.deref.ensures.value in
    let n : c.len.result ≡ length bs = omega (arith, c.len.ensures) in
    let b = c.bucket-place.result in
    let within : b < length bs = omega (arith, n, c.bucket-place.ensures.within) in
    let fall : FallsIn (length bs) es b c.args.e =
    subst (λ m. FallsIn m es b c.args.e) n (subst (λ k. FallsIn c.len.result es k c.args.e) (sym c.bucket-place.ensures.is) (falls c.len.result es c.args.e c.ends_of-source.result.0 c.ends_of-source.result.1 c.ends_of-source.ensures.source c.ends_of-source.ensures.target)) in
    let is : c.index.result.now ≡ ring_at bs b = ring_is bs b c.index.result.now c.index.result.now within c.index.ensures in
    let count : c.index.result.now.count ≡ count_in bs b = ap (λ (r : Ring). r.count) is in
    let l = may_leave bs ps es b c.args.e fall all.1.rings in
    omega (arith, l, count)

pub returns : goal.returns
returns c many_ =
    let bs = c.args.self.now.buckets.items in
    let ps = c.args.self.now.pairs.items in
    let es = c.args.edges.now in
    let many = some_buckets (vec_len c.args.self.now.buckets) (sym c.is_empty.ensures ∙ c.if-is_empty.false) in
    let some : 0 < length bs = omega (arith, many) in
    let all = c.requires.all some in
    let at : c.pair_of.result ≡ pair_at ps c.args.e = c.pair_of.ensures ∙ ap (λ xs. pair_at xs c.args.e) c.deref.ensures.value in
    let n : c.len.result ≡ length bs = omega (arith, c.len.ensures) in
    let b = c.bucket-place.result in
    let within : b < length bs = omega (arith, n, c.bucket-place.ensures.within) in
    let fall : FallsIn (length bs) es b c.args.e =
    subst (λ m. FallsIn m es b c.args.e) n (subst (λ k. FallsIn c.len.result es k c.args.e) (sym c.bucket-place.ensures.is) (falls c.len.result es c.args.e c.ends_of-source.result.0 c.ends_of-source.result.1 c.ends_of-source.ensures.source c.ends_of-source.ensures.target)) in
    let ps' = c.join.new.pairs.items in
    let is : c.index.result.now ≡ ring_at bs b = ring_is bs b c.index.result.now c.index.result.now within c.index.ensures in
    let joins : Joins (next_pair ps) (prev_pair ps) (next_pair ps') (prev_pair ps') (prev_pair ps c.args.e) (next_pair ps c.args.e) =
    subst (λ (p : Pair). Joins (next_pair ps) (prev_pair ps) (next_pair ps') (prev_pair ps') p.link.prev p.link.next) at c.join.ensures.joins in
    let room : length es ≤ length ps' = omega (arith, all.0, c.join.ensures.size) in (
      room,
      record {
        rings = subst (λ (p : Pair). Others (set bs b (record { first = p.link.next; count = c.index.result.now.count - 1 })) ps' es c.args.e) (sym at)
            (subst (λ (r : Ring). Others (set bs b (record { first = next_pair ps c.args.e; count = r.count - 1 })) ps' es c.args.e) (sym is) (left bs ps ps' es b c.args.e within fall all.1.rings joins));
        ends = λ k ne. ends_kept ps ps' es c.join.ensures.same all.1.ends k;
      },
    )
