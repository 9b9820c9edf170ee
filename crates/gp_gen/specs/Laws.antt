-- What holds of the hosts of demo workloads.
use Rattle.std.specs.Prelude.{◌≡◌, ℕ, ◌*◌, ◌-◌, ◌<◌, map, length, All}
use Rattle.gp_gen.specs.declared.kind.Kind.{Kind}
use Rattle.gp_gen.specs.declared.kind.Kind.TheVariants.{Closure, Colour, Tree}
use Rattle.gp_gen.specs.Host.{IsSize, HostNode, HostEdge, numbers_below, host_nodes, host_edges}

-- how many nodes and how many edges a host has
abbrev pub node_count : Kind → ℕ → ℕ
node_count Closure n = n
node_count Colour n = n * n
node_count Tree n = 1

abbrev pub edge_count : Kind → ℕ → ℕ
edge_count Closure n = n
edge_count Colour n = 2 * (n * (n - 1))
edge_count Tree n = 0

pub record GoesBelow (count : ℕ) (e : HostEdge) : Type 0 where
  pub source : e.source < count
  pub target : e.target < count

-- Nodes are numbered from 0 on, and each edge goes from a node to a node.
pub record IsHost (kind : Kind) (n seed : ℕ) : Type 0 where
  pub numbers : map (λ (x : HostNode). x.number) (host_nodes kind n) ≡ numbers_below (node_count kind n)
  pub edges : length (host_edges kind n seed) ≡ edge_count kind n
  pub ends : All (GoesBelow (node_count kind n)) (host_edges kind n seed)

abbrev pub HostsAreWhole : Type 0
HostsAreWhole = (kind : Kind) (n seed : ℕ) → IsSize kind n → IsHost kind n seed
