-- Both laws of hosts.
use Rattle.std.proofs.Common.{◌≡◌, Bool, true, false, List, [], ◌∷◌, refl, ◌∙◌}
use Rattle.gp_tokens.specs.declared.token.Token.{Token}
use Rattle.gp_tokens.specs.Kinds.{same_kind}
use Rattle.gp_tokens.specs.Wants.{excludes, meets}
use Rattle.gp_tokens.specs.Shape.{Is, Many, none, more, ◌then◌}
use Rattle.gp_tokens.specs.Grammar.{One, Made, ◌followed_by◌, shape_of}
use Rattle.gp_tokens.specs.Shape.{second_of}
use Rattle.gp_tokens.specs.Fits.{Fits, NoneOf, Avoids, Lacks, Answers}
use Rattle.gp_tokens.specs.GrammarLaws.{Again, Sound}
use Rattle.gp_tokens.specs.SignWants.{bar, close_bracket}
use Rattle.gp_tokens.specs.Ahead.{stands_before}
use Rattle.gp_tokens.specs.Reading.{begins, reader_of}
use Rattle.gp_tokens.proofs.Complete.{all_again, strong}
use Rattle.gp_tokens.proofs.Passing.{passes, want_met, stop_met}
use Rattle.gp_tokens.proofs.Sound.{all_sound}
use Rattle.gp_hostfile.specs.declared.tree.NodeTree.{NodeTree}
use Rattle.gp_hostfile.specs.Grammar.{coord, position, place, root, atom, atom_list, mark, label, node, edge, nodes, edges, HostTree, body, two_bars, barred, host}

pub host_sound : Sound (reader_of host) (shape_of host)
host_sound = all_sound host

-- ---- the bar behind a leading position

abbrev ahead : List Token → Bool
ahead ts = stands_before bar close_bracket ts

nodes_lack : Lacks close_bracket nodes × Lacks bar nodes
unfolding coord position place root atom atom_list mark label node nodes excludes meets same_kind
nodes_lack = search

edges_lack : Lacks close_bracket edges × Lacks bar edges
unfolding atom atom_list mark label edge edges excludes meets same_kind
edges_lack = search

-- behind the optional bar another comes
another : (ts rest : List Token) (x : HostTree) → shape_of body ts rest x → ahead ts ≡ true
unfolding body excludes meets same_kind
another ts rest x h =
    let q = h.shape.second in
    passes bar close_bracket nodes nodes_lack.0 nodes_lack.1 ts h.shape.mid h.of.0 h.shape.first ∙ want_met bar close_bracket refl h.shape.mid q.mid h.of.1.0 q.first

both_bars : Answers two_bars true (Made second_of (One bar followed_by body))
both_bars ts rest x h = rw (h.shape.first.front, h.shape.first.is, another h.shape.mid rest h.of.1 h.shape.second) refl

not_bar : (ts : List Token) → begins bar ts ≡ false → two_bars ts ≡ false
not_bar [] e = refl
not_bar (t ∷ ts) e = rw e refl

node_avoids : Avoids bar node
unfolding node excludes meets same_kind
node_avoids = search

-- and without it none comes behind the first
one_bar : Answers two_bars false body
unfolding body nodes node edges excludes meets same_kind
one_bar ts rest x h = go ts h.shape.mid h.of.0 h.shape.first h.shape.second
  where
    go : (ts mid : List Token) (ns : List NodeTree) → Many (shape_of node) ts mid ns → (Is bar then shape_of edges then Is close_bracket) mid rest h.of.1 → two_bars ts ≡ false
    go ts _ _ none q =
        let l = q.second in
        let e : ahead q.mid ≡ false = passes bar close_bracket edges edges_lack.0 edges_lack.1 q.mid l.mid h.of.1.1.0 l.first ∙ stop_met bar close_bracket l.mid rest h.of.1.1.1 l.second in
        rw (q.first.front, q.first.is, e) refl
    go ts mid _ (more n ns) q = not_bar ts ((strong bar node refl node_avoids ts _ _ n tt).none)

barred_fits : Fits barred
unfolding coord position place root atom atom_list mark label node edge nodes edges body barred excludes meets same_kind
barred_fits = search (both_bars, one_bar)

-- ---- hosts

host_fits : Fits host
unfolding coord position place root atom atom_list mark label node edge nodes edges body barred host excludes meets same_kind
host_fits = let b = barred_fits in search b

pub host_again : Again (reader_of host) (shape_of host) (NoneOf [])
unfolding coord position place root atom atom_list mark label node edge nodes edges body barred host
host_again = all_again host host_fits
