-- One node more.
use Rattle.std.proofs.Common.{◌≡◌, ℕ, ◌+◌, [], ◌∷◌, ◌++◌, map, ap, ◌∙◌, append-nil, arith}
use Rattle.std.proofs.lemmas.List.FromFn.{map-range_with_len_more}
use Rattle.std.proofs.lemmas.Grind.{flat_map-append}
use Rattle.std.specs.Prelude.{flat_map}
use Rattle.gp_gen.specs.declared.sheet.Sheet.{Sheet}
use Rattle.gp_gen.specs.Host.{HostNode, numbers_below}
use Rattle.gp_gen.specs.Texts.{node_line}
use Rattle.gp_gen.specs.inside.Puts.{Puts}
use Rattle.gp_gen.proofs.Puts.{and_then, told}

lines_more : (node : ℕ → HostNode) (k : ℕ) → flat_map node_line (map node (numbers_below (k + 1))) ≡ flat_map node_line (map node (numbers_below k)) ++ node_line (node k)
lines_more node k =
    ap (flat_map node_line) (map-range_with_len_more node 0 k k (omega arith))
    ∙ flat_map-append node_line (map node (numbers_below k)) (node k ∷ [])
    ∙ ap (λ l. flat_map node_line (map node (numbers_below k)) ++ l) (append-nil (node_line (node k)))

pub node_more : (node : ℕ → HostNode) (k : ℕ) {a b d : Sheet} → Puts a b (flat_map node_line (map node (numbers_below k))) → Puts b d (node_line (node k)) → Puts a d (flat_map node_line (map node (numbers_below (k + 1))))
node_more node k before now = told (lines_more node k) (and_then before now)
