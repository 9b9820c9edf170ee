use Rattle.std.proofs.Common.{◌≡◌, ℕ, ap, sym, subst, ◌∙◌}
use Rattle.gp_graph.specs.inside.Slots.{slot_in}
use Rattle.gp_rings.specs.Chains.{Joins}
use Rattle.gp_graph.specs.inside.View.{edge_of}
use Rattle.gp_graph.specs.inside.Rings.{other, with_prev, changed_at, next_of, prev_of, link_in, ShowSame}
use Rattle.gp_graph.proofs.Links.{joined, joined_links, joined_seen, slot_within}
use Rattle.gp_graph.proofs.Lens.{lens_joins, edge_lens}
use Rattle.gp_graph.proofs.rings.join.Goals as goal

pub returns-clause-joins : goal.returns-clause-joins
returns-clause-joins c =
    let e : c.set_prev.new.edges ≡ joined c.args.side c.args.edges.now c.args.from c.args.to = c.set_prev.ensures ∙ ap (λ l. changed_at (with_prev c.args.side c.args.from) l c.args.to) c.set_next.ensures in
    subst (λ l. Joins (next_of c.args.side c.args.edges.now) (prev_of c.args.side c.args.edges.now) (next_of c.args.side l) (prev_of c.args.side l) c.args.from c.args.to) (sym e)
    (lens_joins _ _ _ _ c.args.edges.now c.args.from c.args.to (edge_lens c.args.side) c.requires.from c.requires.to)

pub returns-clause-links : goal.returns-clause-links
returns-clause-links c =
    let e : c.set_prev.new.edges ≡ joined c.args.side c.args.edges.now c.args.from c.args.to = c.set_prev.ensures ∙ ap (λ l. changed_at (with_prev c.args.side c.args.from) l c.args.to) c.set_next.ensures in
    subst (λ l. (k : ℕ) → link_in (other c.args.side) (slot_in l k) ≡ link_in (other c.args.side) (slot_in c.args.edges.now k)) (sym e) (joined_links c.args.side c.args.edges.now c.args.from c.args.to)

pub returns-clause-same : goal.returns-clause-same
returns-clause-same c =
    let e : c.set_prev.new.edges ≡ joined c.args.side c.args.edges.now c.args.from c.args.to = c.set_prev.ensures ∙ ap (λ l. changed_at (with_prev c.args.side c.args.from) l c.args.to) c.set_next.ensures in
    subst (ShowSame edge_of c.args.edges.now) (sym e) (joined_seen c.args.side c.args.edges.now c.args.from c.args.to)

pub set_next-requires : goal.set_next-requires
set_next-requires c = slot_within c.args.edges.now c.args.from c.requires.from

pub set_prev-requires : goal.set_prev-requires
set_prev-requires c = rw c.set_next.auto.edges (slot_within c.args.edges.now c.args.to c.requires.to)
