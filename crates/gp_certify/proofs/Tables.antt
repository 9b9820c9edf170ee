-- What is put into a table, one after another.
use Rattle.std.proofs.Common.{◌≡◌, ◌⊎◌, Result, IfOk, inl, inr, ℕ, zero, suc, ◌+◌, ◌<◌, ◌≤◌, List, [], ◌∷◌, ◌++◌, length, map, take, replicate, get_or, Some, None, slice_get, slice_index_or, refl, sym, ap, subst, ◌∙◌, arith, length-append}
use Rattle.std.proofs.lemmas.Result.{IfOk-weaker}
use Rattle.std.proofs.lemmas.Option.{slice_get-get_or, slice_get_within, get_or_from_slice_get}
use Rattle.std.proofs.lemmas.List.{take_more, map-append, length-replicate, get_or-replicate}
use Rattle.std.proofs.lemmas.List.Sums.{fold-append}
use Rattle.std.proofs.Math.ListN.{get_or-append, set}
use Rattle.std.proofs.Math.Seq.{get_or-append_seam}
use Rattle.std.specs.Vec.{with_item}
use Rattle.gp_syntax.specs.Run.{Command, If, Try, Loop, Skip, Procedure, Program}
use Rattle.gp_syntax.specs.Tree.{command_of}
use Rattle.gp_syntax.specs.declared.command.Command as code
use Rattle.gp_certify.specs.declared.node.Node.{Node}
use Rattle.gp_certify.specs.declared.node.Node.TheVariants as node
use Rattle.gp_certify.specs.declared.table.Table.{Table}
use Rattle.gp_certify.specs.declared.table.Chain.{Chain}
use Rattle.gp_certify.specs.declared.table.Chain.TheVariants as chain
use Rattle.gp_certify.specs.Code.{at, Means, IsCode, IsCodeOf}
use Rattle.gp_certify.specs.inside.Table.{joined_node, joined, grouped, HasPut, AreAt, IsTable, Lowers}

-- ---- numbers that stay

-- the commands of numbers below a bound are the same
Same : ℕ → List Command → List Command → Type 0
Same bound cs es = (m : ℕ) → m < bound → at es m ≡ at cs m

-- so are numbers in a longer table
are_on : (bound more : ℕ) (cs es : List Command) (ns : List ℕ) (ps : List Command) → bound ≤ more → Same bound cs es → AreAt bound cs ns ps → AreAt more es ns ps
unfolding Same
are_on bound more cs es [] [] l s h = tt
are_on bound more cs es [] (p ∷ ps) l s h = absurd h
are_on bound more cs es (n ∷ ns) [] l s h = absurd h
are_on bound more cs es (n ∷ ns) (p ∷ ps) l s h = ((let i = h.0 in omega arith), s n h.0 ∙ h.1, are_on bound more cs es ns ps l s h.2)

-- these and those
are_both : (bound : ℕ) (cs : List Command) (ns ms : List ℕ) (ps qs : List Command) → AreAt bound cs ns ps → AreAt bound cs ms qs → AreAt bound cs (ns ++ ms) (ps ++ qs)
are_both bound cs [] ms [] qs h k = k
are_both bound cs [] ms (p ∷ ps) qs h k = absurd h
are_both bound cs (n ∷ ns) ms [] qs h k = absurd h
are_both bound cs (n ∷ ns) ms (p ∷ ps) qs h k = (h.0, h.1, are_both bound cs ns ms ps qs h.2 k)

-- so are the commands of a node and of its parts
module _ (program : Program) (bound : ℕ) (cs es : List Command) (s : Same bound cs es) where
  below : (n m : ℕ) → n < bound → m < n → at es m ≡ at cs m
  unfolding Same
  below n m l h = s m (omega arith)

  means_on : (n : ℕ) (x : Node) → n < bound → Means program cs n x → Means program es n x
  unfolding Same
  means_on n (node.Call c) l h = rw (s n l) h
  means_on n (node.Seq a b) l h = rw (s n l, below n a l h.1, below n b l h.2) h
  means_on n (node.If a b c) l h = rw (s n l, below n a l h.1, below n b l h.2, below n c l h.3) h
  means_on n (node.Try a b c) l h = rw (s n l, below n a l h.1, below n b l h.2, below n c l h.3) h
  means_on n (node.Loop a) l h = rw (s n l, below n a l h.1) h
  means_on n (node.Or a b) l h = rw (s n l, below n a l h.1, below n b l h.2) h
  means_on n node.Skip l h = rw (s n l) h
  means_on n node.Fail l h = rw (s n l) h
  means_on n node.Break l h = rw (s n l) h
  means_on n (node.Proc k a) l h = rw (s n l, below n a l h.2) h

-- ---- one node more

-- what was put in, and what was there before
at_end : (cs : List Command) (p : Command) → at (cs ++ p ∷ []) (length cs) ≡ p
at_end cs p = get_or-append_seam cs p [] Skip

same_put : (cs : List Command) (p : Command) (bound : ℕ) → bound ≡ length cs → Same bound cs (cs ++ p ∷ [])
unfolding Same
same_put cs p bound e m l = get_or-append cs (p ∷ []) Skip m (omega arith)

-- what stands at a place of a list with one more
last_or_before : (xs : List Node) (y x : Node) (n : ℕ) → slice_get (xs ++ y ∷ []) n ≡ Some x → ((n < length xs) × (slice_get xs n ≡ Some x)) ⊎ ((n ≡ length xs) × (y ≡ x))
last_or_before [] y x zero e = inr (refl, cc)
last_or_before [] y x (suc n) e = absurd cc
last_or_before (z ∷ xs) y x zero e = inl (omega arith, e)
last_or_before (z ∷ xs) y x (suc n) e = elim (last_or_before xs y x n e) [ inl h ↦ (let l = h.0 in inl (omega arith, h.1)) | inr h ↦ (let l = h.0 in inr (omega arith, h.1)) ]

-- the nodes stand for the commands, and so do they with one more
code_put : (program : Program) (nodes : List Node) (cs : List Command) (x : Node) (p : Command) → length cs ≡ length nodes → IsCode program nodes cs → Means program (cs ++ p ∷ []) (length nodes) x → IsCode program (nodes ++ x ∷ []) (cs ++ p ∷ [])
code_put program nodes cs x p c h m n y e = elim (last_or_before nodes x y n e) [
  | inl b ↦ means_on program (length nodes) cs (cs ++ p ∷ []) (same_put cs p (length nodes) (sym c)) n y b.0 (h n y b.1)
  | inr b ↦ subst (λ (z : Node). Means program (cs ++ p ∷ []) n z) b.1 (subst (λ (k : ℕ). Means program (cs ++ p ∷ []) k x) (sym b.0) m)
]

-- the same of a table
table_put : (program : Program) (old new : Table) (n : ℕ) (cs : List Command) (x : Node) (p : Command) → HasPut old new x n → IsTable program old cs → Means program (cs ++ p ∷ []) n x → IsTable program new (cs ++ p ∷ [])
unfolding Same
table_put program old new n cs x p h t m =
    let c = t.count in
    let l = length-append old.nodes.items (x ∷ []) in
    record {
      count = rw h.nodes (omega (arith, length-append cs (p ∷ [])));
      code = rw h.nodes (code_put program old.nodes.items cs x p c t.code (subst (λ (k : ℕ). Means program (cs ++ p ∷ []) k x) h.number m));
      bodies = λ k i e. (let b = t.bodies k i (rw (← h.roots) e) in let i = b.0 in (rw h.nodes (omega arith), same_put cs p _ (sym c) _ b.0 ∙ b.1));
    }

-- ---- what is put in one after another

-- nothing
pub lowers_nothing : (program : Program) (table : Table) → Lowers program table table [] []
lowers_nothing program table cs t = record { commands = cs; table = t; grows = omega arith; stays = λ m l. refl; lowered = tt }

-- some commands, and then others
pub lowers_then : (program : Program) (old mid new : Table) (ns ms : List ℕ) (ps qs : List Command) → Lowers program old mid ns ps → Lowers program mid new ms qs → Lowers program old new (ns ++ ms) (ps ++ qs)
unfolding Same
lowers_then program old mid new ns ms ps qs a b cs t =
    let f = a cs t in
    let s = b f.commands f.table in
    record {
      commands = s.commands;
      table = s.table;
      grows = omega arith;
      stays = λ m l. s.stays m (omega arith) ∙ f.stays m l;
      lowered = are_both _ _ ns ms ps qs (are_on _ _ f.commands s.commands ns ps s.grows s.stays f.lowered) s.lowered;
    }

-- a node behind its parts
pub lowers_put : (program : Program) (old mid new : Table) (ns : List ℕ) (ps : List Command) (n : ℕ) (x : Node) (p : Command) → ((es : List Command) (m : ℕ) → at es m ≡ p → AreAt m es ns ps → Means program es m x) → Lowers program old mid ns ps → HasPut mid new x n → Lowers program old new (n ∷ []) (p ∷ [])
unfolding Same
lowers_put program old mid new ns ps n x p means a h cs t =
    let f = a cs t in
    let c : length f.commands ≡ n = f.table.count ∙ sym h.number in
    let is : at (f.commands ++ p ∷ []) n ≡ p = subst (λ (k : ℕ). at (f.commands ++ p ∷ []) k ≡ p) c (at_end f.commands p) in
    let same = same_put f.commands p n (sym c) in
    let parts = are_on n n f.commands (f.commands ++ p ∷ []) ns ps (omega arith) same (subst (λ (k : ℕ). AreAt k f.commands ns ps) (sym h.number) f.lowered) in
    let l : length new.nodes.items ≡ length mid.nodes.items + 1 = rw h.nodes (length-append mid.nodes.items (x ∷ [])) in
    let e = h.number in
    record {
      commands = f.commands ++ p ∷ [];
      table = table_put program mid new n f.commands x p h f.table (means _ n is parts);
      grows = omega arith;
      stays = λ m k. (let g = f.grows in same m (omega arith) ∙ f.stays m k);
      lowered = (omega arith, is, tt);
    }

-- the same of what `put` answers
pub put_behind : {E : Type 0} (program : Program) (old mid new : Table) (ns : List ℕ) (ps : List Command) (r : Result ℕ E) (x : Node) (p : Command) → ((es : List Command) (m : ℕ) → at es m ≡ p → AreAt m es ns ps → Means program es m x) → Lowers program old mid ns ps → IfOk r (λ n. HasPut mid new x n) → IfOk r (λ n. Lowers program old new (n ∷ []) (p ∷ []))
put_behind program old mid new ns ps r x p means a = IfOk-weaker r _ _ (λ n h. lowers_put program old mid new ns ps n x p means a h)

-- of a node without parts
pub put_leaf : {E : Type 0} (program : Program) (old new : Table) (r : Result ℕ E) (x : Node) (p : Command) → ((es : List Command) (m : ℕ) → at es m ≡ p → Means program es m x) → IfOk r (λ n. HasPut old new x n) → IfOk r (λ n. Lowers program old new (n ∷ []) (p ∷ []))
put_leaf program old new r x p means = put_behind program old old new [] [] r x p (λ es m e h. means es m e) (lowers_nothing program old)

-- ---- what nodes mean

pub means_if : (program : Program) (a b c : ℕ) (k p q : Command) (es : List Command) (m : ℕ) → at es m ≡ If k p q → AreAt m es (a ∷ b ∷ c ∷ []) (k ∷ p ∷ q ∷ []) → Means program es m (node.If a b c)
means_if program a b c k p q es m e h = (cc, h.0, h.2.0, h.2.2.0)

pub means_try : (program : Program) (a b c : ℕ) (k p q : Command) (es : List Command) (m : ℕ) → at es m ≡ Try k p q → AreAt m es (a ∷ b ∷ c ∷ []) (k ∷ p ∷ q ∷ []) → Means program es m (node.Try a b c)
means_try program a b c k p q es m e h = (cc, h.0, h.2.0, h.2.2.0)

pub means_loop : (program : Program) (a : ℕ) (p : Command) (es : List Command) (m : ℕ) → at es m ≡ Loop p → AreAt m es (a ∷ []) (p ∷ []) → Means program es m (node.Loop a)
means_loop program a p es m e h = (cc, h.0)

pub means_joined : (program : Program) (kind : Chain) (a b : ℕ) (p q : Command) (es : List Command) (m : ℕ) → at es m ≡ joined kind p q → AreAt m es (a ∷ b ∷ []) (p ∷ q ∷ []) → Means program es m (joined_node kind a b)
means_joined program chain.Sequence a b p q es m e h = (cc, h.0, h.2.0)
means_joined program chain.Choice a b p q es m e h = (cc, h.0, h.2.0)

pub means_procedure : (program : Program) (k a : ℕ) (es : List Command) (m : ℕ) → k < length program.procedures → at es m ≡ Procedure k → AreAt m es (a ∷ []) (at program.procedures k ∷ []) → Means program es m (node.Proc k a)
means_procedure program k a es m l e h = (e, slice_get-get_or program.procedures k Skip l ∙ ap Some (sym h.1), h.0)

-- one more part of a chain
grouped_more : (kind : Chain) (p : Command) (qs : List code.Command) (i : ℕ) (q : code.Command) → i < length qs → q ≡ slice_index_or qs i q → grouped kind p (map command_of (take (i + 1) qs)) ≡ joined kind (grouped kind p (map command_of (take i qs))) (command_of q)
grouped_more kind p qs i q l e =
    let more : take (i + 1) qs ≡ take i qs ++ q ∷ [] = take_more qs i q l ∙ ap (λ (c : code.Command). take i qs ++ c ∷ []) (sym e) in
    ap (λ (cs : List code.Command). grouped kind p (map command_of cs)) more ∙ ap (λ (cs : List Command). grouped kind p cs) (map-append command_of (take i qs) (q ∷ [])) ∙ fold-append (joined kind) p (map command_of (take i qs)) (command_of q ∷ [])

-- and its node
pub lowers_more : (program : Program) (old mid last new : Table) (kind : Chain) (p : Command) (qs : List code.Command) (i : ℕ) (q : code.Command) (a b n : ℕ) → i < length qs → q ≡ slice_index_or qs i q → Lowers program old mid (a ∷ []) (grouped kind p (map command_of (take i qs)) ∷ []) → Lowers program mid last (b ∷ []) (command_of q ∷ []) → HasPut last new (joined_node kind a b) n → Lowers program old new (n ∷ []) (grouped kind p (map command_of (take (i + 1) qs)) ∷ [])
lowers_more program old mid last new kind p qs i q a b n l e f g h =
    let before = grouped kind p (map command_of (take i qs)) in
    subst
    (λ (c : Command). Lowers program old new (n ∷ []) (c ∷ []))
    (sym (grouped_more kind p qs i q l e))
    (lowers_put program old last new (a ∷ b ∷ []) (before ∷ command_of q ∷ []) n (joined_node kind a b) (joined kind before (command_of q)) (means_joined program kind a b before (command_of q)) (lowers_then program old mid last (a ∷ []) (b ∷ []) (before ∷ []) (command_of q ∷ []) f g) h)

-- ---- the nodes of bodies

-- one that is there
pub lowers_known : (program : Program) (table : Table) (k n : ℕ) → slice_get table.roots.items k ≡ Some (Some n) → Lowers program table table (n ∷ []) (at program.procedures k ∷ [])
lowers_known program table k n e cs t = record { commands = cs; table = t; grows = omega arith; stays = λ m l. refl; lowered = (let b = t.bodies k n e in (b.0, b.1, tt)) }

-- what stands at a place of a list with one item set
set_or_before : {X : Type 0} (xs : List X) (i j : ℕ) (y x : X) → slice_get (set xs i y) j ≡ Some x → ((j ≡ i) × (y ≡ x)) ⊎ (slice_get xs j ≡ Some x)
set_or_before [] i j y x e = inr e
set_or_before (z ∷ xs) zero zero y x e = inl (refl, cc)
set_or_before (z ∷ xs) zero (suc j) y x e = inr e
set_or_before (z ∷ xs) (suc i) zero y x e = inr e
set_or_before (z ∷ xs) (suc i) (suc j) y x e = elim (set_or_before xs i j y x e) [ inl h ↦ (let l = h.0 in inl (omega arith, h.1)) | inr h ↦ inr h ]

-- one that was put in is kept
pub lowers_kept : (program : Program) (old mid : Table) (k n : ℕ) → Lowers program old mid (n ∷ []) (at program.procedures k ∷ []) → Lowers program old (record { nodes = mid.nodes; roots = with_item mid.roots k (Some n) }) (n ∷ []) (at program.procedures k ∷ [])
lowers_kept program old mid k n l cs t =
    let f = l cs t in
    record {
      commands = f.commands;
      table = record {
        count = f.table.count;
        code = f.table.code;
        bodies = λ j i e. elim (set_or_before mid.roots.items k j (Some n) (Some i) e) [
          | inl h ↦ (let same : i ≡ n = cc (h.1) in rw (h.0, same) (f.lowered.0, f.lowered.1))
          | inr h ↦ f.table.bodies j i h
        ];
      };
      grows = f.grows;
      stays = f.stays;
      lowered = f.lowered;
    }

-- ---- the whole table

-- an empty table
table_empty : (program : Program) (table : Table) (count : ℕ) → table.nodes.items ≡ [] → table.roots.items ≡ replicate count None → IsTable program table []
table_empty program table count e f = record {
  count = rw e refl;
  code = λ n x i. absurd (let l = slice_get_within table.nodes.items n x i in let m : length table.nodes.items ≡ 0 = ap length e in omega arith);
  bodies = λ k n i. absurd (
      let l = slice_get_within table.roots.items k (Some n) i in
      let m : length table.roots.items ≡ count = ap length f ∙ length-replicate count None in
      let a : get_or (replicate count None) k (Some n) ≡ None = get_or-replicate count k None (Some n) (omega arith) in
      let b : get_or table.roots.items k (Some n) ≡ Some n = get_or_from_slice_get table.roots.items k (Some n) (Some n) i in
      cc
      );
}

-- what Main is put into is the table of the program
pub whole : (program : Program) (old new : Table) (count root : ℕ) (main : Command) → old.nodes.items ≡ [] → old.roots.items ≡ replicate count None → main ≡ program.main → Lowers program old new (root ∷ []) (main ∷ []) → IsCodeOf program new.nodes.items root
whole program old new count root main e f is l =
    let h = l [] (table_empty program old count e f) in
    record { within = h.lowered.0; commands = h.commands; code = h.table.code; main = h.lowered.1 ∙ is }
