use Rattle.std.proofs.Common.{◌≡◌, ◌<◌, ◌≤◌, ◌+◌, length, sym, ap, subst, ◌∙◌, arith, length-set}
use Rattle.std.specs.Prelude.{vec_len}
use Rattle.gp_graph.specs.inside.Pairs.{ring_at, prev_pair, FallsIn}
use Rattle.gp_graph.specs.declared.pairs.Pair.{Pair}
use Rattle.gp_graph.proofs.Links.{slot_within}
use Rattle.gp_graph.proofs.Buckets.{some_buckets, falls, ring_is, Others, noted, last_within, first_within, may_enter, entered, ends_entered}
use Rattle.gp_graph.proofs.pairs.PairIndex.enter.Goals as goal

pub join-requires-clause-from : goal.join-requires-clause-from
join-requires-clause-from c =
    let bs = c.args.self.now.buckets.items in
    let ps = c.args.self.now.pairs.items in
    let es = c.args.edges.now in
    let many = some_buckets (vec_len c.args.self.now.buckets) (sym c.is_empty.ensures ∙ c.if-is_empty.false) in
    let some : 0 < length bs = omega (arith, many) in
    let others = c.requires.others some in
    let n : c.len.result ≡ length bs = omega (arith, c.len.ensures) in
    let b = c.bucket-place.result in
    let within : b < length bs = omega (arith, n, c.bucket-place.ensures.within) in
    let ring = c.index-ring.result.now in
    let is : ring ≡ ring_at bs b = ring_is bs b ring ring within c.index-ring.ensures in
    let ps0 = c.note.new.pairs.items in
    let rest : Others bs ps0 es c.args.e = noted bs ps ps0 es c.args.e c.note.ensures.links others.1.rings in
    let l : c.ends-first.result.1 < length es = last_within bs ps0 es c.args.e b c.ends-first.result.1 ring c.requires.there rest is (λ z. (c.ends-first.ensures.none z).1) (λ nz. (c.ends-first.ensures.some nz).1 ∙ ap (λ (p : Pair). p.link.prev) c.pair_of.ensures ∙ ap (λ xs. prev_pair xs ring.first) c.deref.ensures.value) in
    omega (arith, l, others.0, c.note.ensures.size)

pub join-requires-2-clause-to : goal.join-requires-2-clause-to
join-requires-2-clause-to c =
    let bs = c.args.self.now.buckets.items in
    let ps = c.args.self.now.pairs.items in
    let es = c.args.edges.now in
    let many = some_buckets (vec_len c.args.self.now.buckets) (sym c.is_empty.ensures ∙ c.if-is_empty.false) in
    let some : 0 < length bs = omega (arith, many) in
    let others = c.requires.others some in
    let n : c.len.result ≡ length bs = omega (arith, c.len.ensures) in
    let b = c.bucket-place.result in
    let within : b < length bs = omega (arith, n, c.bucket-place.ensures.within) in
    let ring = c.index-ring.result.now in
    let is : ring ≡ ring_at bs b = ring_is bs b ring ring within c.index-ring.ensures in
    let ps0 = c.note.new.pairs.items in
    let rest : Others bs ps0 es c.args.e = noted bs ps ps0 es c.args.e c.note.ensures.links others.1.rings in
    let l : c.ends-first.result.0 < length es = first_within bs ps0 es c.args.e b c.ends-first.result.0 ring c.requires.there rest is (λ z. (c.ends-first.ensures.none z).0) (λ nz. (c.ends-first.ensures.some nz).0) in
    omega (arith, l, others.0, c.note.ensures.size, c.join.ensures.size)

pub overflow_add-count : goal.overflow_add-count
overflow_add-count c =
    let bs = c.args.self.now.buckets.items in
    let ps = c.args.self.now.pairs.items in
    let es = c.args.edges.now in
    let many = some_buckets (vec_len c.args.self.now.buckets) (sym c.is_empty.ensures ∙ c.if-is_empty.false) in
    let some : 0 < length bs = omega (arith, many) in
    let others = c.requires.others some in
    let n : c.len.result ≡ length bs = omega (arith, c.len.ensures) in
    let b = c.bucket-place.result in
    let within : b < length bs = omega (arith, n, c.bucket-place.ensures.within) in
    let ring = c.index-ring.result.now in
    let is : ring ≡ ring_at bs b = ring_is bs b ring ring within c.index-ring.ensures in
    let ps0 = c.note.new.pairs.items in
    let rest : Others bs ps0 es c.args.e = noted bs ps ps0 es c.args.e c.note.ensures.links others.1.rings in
    let l : ring.count + 1 ≤ length es = may_enter bs ps0 es c.args.e b ring c.requires.there rest is in
    omega (arith, l)

pub returns-clause-all : goal.returns-clause-all
returns-clause-all c many_ =
    let bs = c.args.self.now.buckets.items in
    let ps = c.args.self.now.pairs.items in
    let es = c.args.edges.now in
    let many = some_buckets (vec_len c.args.self.now.buckets) (sym c.is_empty.ensures ∙ c.if-is_empty.false) in
    let some : 0 < length bs = omega (arith, many) in
    let others = c.requires.others some in
    let n : c.len.result ≡ length bs = omega (arith, c.len.ensures) in
    let b = c.bucket-place.result in
    let within : b < length bs = omega (arith, n, c.bucket-place.ensures.within) in
    let fall : FallsIn (length bs) es b c.args.e =
    subst (λ m. FallsIn m es b c.args.e) n (subst (λ k. FallsIn c.len.result es k c.args.e) (sym c.bucket-place.ensures.is) (falls c.len.result es c.args.e c.ends_of-source.result.0 c.ends_of-source.result.1 c.ends_of-source.ensures.source c.ends_of-source.ensures.target)) in
    let ring = c.index-ring.result.now in
    let is : ring ≡ ring_at bs b = ring_is bs b ring ring within c.index-ring.ensures in
    let ps0 = c.note.new.pairs.items in
    let rest : Others bs ps0 es c.args.e = noted bs ps ps0 es c.args.e c.note.ensures.links others.1.rings in
    let f = c.ends-first.result.0 in
    let l = c.ends-first.result.1 in
    let room : length es ≤ length c.join-2.new.pairs.items = omega (arith, others.0, c.note.ensures.size, c.join.ensures.size, c.join-2.ensures.size) in (
      room,
      record {
        rings = entered bs ps0 c.join.new.pairs.items c.join-2.new.pairs.items es c.args.e b f l ring within fall rest is c.ends-first.ensures.none
            (λ nz. ((c.ends-first.ensures.some nz).0, (c.ends-first.ensures.some nz).1 ∙ ap (λ (p : Pair). p.link.prev) c.pair_of.ensures ∙ ap (λ xs. prev_pair xs ring.first) c.deref.ensures.value))
            c.join.ensures.joins c.join-2.ensures.joins;
        ends = ends_entered ps ps0 c.join.new.pairs.items c.join-2.new.pairs.items es c.args.e c.ends_of-source.result.0 c.ends_of-source.result.1 c.ends_of-source.ensures.source c.ends_of-source.ensures.target
            others.1.ends c.note.ensures.ends c.note.ensures.others c.join.ensures.same c.join-2.ensures.same;
      },
    )

pub note-requires : goal.note-requires
note-requires c =
    let many = some_buckets (vec_len c.args.self.now.buckets) (sym c.is_empty.ensures ∙ c.if-is_empty.false) in
    let some : 0 < length c.args.self.now.buckets.items = omega (arith, many) in
    omega (arith, slot_within c.args.edges.now c.args.e c.requires.there, (c.requires.others some).0)

pub join-requires-clause-to : goal.join-requires-clause-to
join-requires-clause-to c =
    let many = some_buckets (vec_len c.args.self.now.buckets) (sym c.is_empty.ensures ∙ c.if-is_empty.false) in
    let some : 0 < length c.args.self.now.buckets.items = omega (arith, many) in
    omega (arith, slot_within c.args.edges.now c.args.e c.requires.there, (c.requires.others some).0, c.note.ensures.size)

pub join-requires-2-clause-from : goal.join-requires-2-clause-from
join-requires-2-clause-from c =
    let many = some_buckets (vec_len c.args.self.now.buckets) (sym c.is_empty.ensures ∙ c.if-is_empty.false) in
    let some : 0 < length c.args.self.now.buckets.items = omega (arith, many) in
    omega (arith, slot_within c.args.edges.now c.args.e c.requires.there, (c.requires.others some).0, c.note.ensures.size, c.join.ensures.size)

pub returns-clause-buckets : goal.returns-clause-buckets
returns-clause-buckets c = length-set _ _ _

pub returns-clause-pairs : goal.returns-clause-pairs
returns-clause-pairs c = c.join-2.ensures.size ∙ c.join.ensures.size ∙ c.note.ensures.size
