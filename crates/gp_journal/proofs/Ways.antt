-- Items lead one way, and where they bring trails.
use Rattle.std.proofs.Common.{◌≡◌, inl, inr, ℕ, suc, ◌+◌, ◌<◌, ◌≤◌, List, [], ◌∷◌, length, set, get_or, take, All, Some, slice_get, refl, sym, ap, subst, ◌∙◌, arith}
use Rattle.std.proofs.lemmas.Bool.{cases_eq}
use Rattle.std.proofs.lemmas.Grind.{get_or-set_at}
use Rattle.std.proofs.lemmas.List.{length-set, get_or-set_other}
use Rattle.std.proofs.lemmas.Option.{get_or_from_slice_get, slice_get_within}
use Rattle.gp_memory.proofs.Basics.{some_same as same_some, take_whole}
use Rattle.gp_values.specs.Graph.{Graph}
use Rattle.gp_syntax.specs.declared.found.Item.{Item}
use Rattle.gp_syntax.specs.Rule.{Rule, Found}
use Rattle.gp_syntax.specs.Step.{Step}
use Rattle.gp_syntax.specs.Run as meant
use Rattle.gp_syntax.specs.Run.{Stepped, Turned, Back}
use Rattle.gp_syntax.specs.WellFormed.{IsWellFormed}
use Rattle.gp_unify.proofs.Candidates.{one_step}
use Rattle.gp_journal.specs.Trail.{Trail, led}
use Rattle.gp_journal.specs.Leads.{StepsBy, Goes, Leads, CaughtUp}
use Rattle.gp_journal.specs.Journal.{items_of}
use Rattle.gp_journal.proofs.Replays.{caught_back}

well_formed_at : (rules : List Rule) (i : ℕ) (r : Rule) → All IsWellFormed rules → slice_get rules i ≡ Some r → IsWellFormed r
well_formed_at rules i r w e = subst IsWellFormed (get_or_from_slice_get rules i r r e) (w i r (slice_get_within rules i r e))

one_graph : (rules : List Rule) (g : Graph) (m : Found) (h k : Graph) → All IsWellFormed rules → StepsBy rules g m h → StepsBy rules g m k → h ≡ k
one_graph rules g m h k w a b =
    let same : b.rule ≡ a.rule = same_some (sym b.is_rule ∙ a.is_rule) in
    one_step a.rule g m h k (well_formed_at rules m.rule a.rule w a.is_rule) a.step (subst (λ (r : Rule). Step r g m k) same b.step)

goes_one : (rules : List Rule) (i : meant.Item) (t u v : Trail) → All IsWellFormed rules → Goes rules i t u → Goes rules i t v → v ≡ u
goes_one rules (Stepped m) t u v w a b = b.2 ∙ ap (led t) (one_graph rules t.graph m b.0 a.0 w b.1 a.1) ∙ sym a.2
goes_one rules Turned t u v w a b = b ∙ sym a
goes_one rules (Back k) t u v w a b = b.1 ∙ sym a.1

pub one_way : (rules : List Rule) (is : List meant.Item) (t u v : Trail) → All IsWellFormed rules → Leads rules is t u → Leads rules is t v → u ≡ v
one_way rules [] t u v w a b = a ∙ sym b
one_way rules (i ∷ is) t u v w a b = one_way rules is a.0 u v w a.2 (subst (λ (x : Trail). Leads rules is x v) (goes_one rules i t a.0 b.0 w a.1 b.1) b.2)

caught_goes : (rules : List Rule) (i : meant.Item) (t u : Trail) → Goes rules i t u → u.caught ≡ t.caught
caught_goes rules (Stepped m) t u a = ap (λ (x : Trail). x.caught) a.2
caught_goes rules Turned t u a = ap (λ (x : Trail). x.caught) a
caught_goes rules (Back k) t u a = ap (λ (x : Trail). x.caught) a.1 ∙ caught_back k t

pub caught_led : (rules : List Rule) (is : List meant.Item) (t u : Trail) → Leads rules is t u → u.caught ≡ t.caught
caught_led rules [] t u a = ap (λ (x : Trail). x.caught) a
caught_led rules (i ∷ is) t u a = caught_led rules is a.0 u a.2 ∙ caught_goes rules i t a.0 a.1

pub length-items : (is : List Item) → length (items_of is) ≡ length is
length-items [] = refl
length-items (i ∷ is) = ap suc (length-items is)

-- ---- catching up

-- where catching up led, a trail is that forgot how many items it had
pub brought_there : (rules : List Rule) (is : List Item) (old mid new t : Trail) → All IsWellFormed rules → Leads rules (items_of is) old t → t.caught ≡ 0 → mid.caught ≡ length is → CaughtUp rules (items_of is) old mid → new ≡ record mid { caught = 0 } → new ≡ t
brought_there rules is old mid new t w way settled long made e =
    let whole : take mid.caught (items_of is) ≡ items_of is = ap (λ (k : ℕ). take k (items_of is)) (long ∙ sym (length-items is)) ∙ take_whole (items_of is) in
    let led : Leads rules (items_of is) old (record mid { caught = old.caught }) = subst (λ (l : List meant.Item). Leads rules l old (record mid { caught = old.caught })) whole made.leads in
    let a : record mid { caught = old.caught } ≡ t = one_way rules (items_of is) old (record mid { caught = old.caught }) t w led way in
    let b : old.caught ≡ 0 = sym (caught_led rules (items_of is) old t way) ∙ settled in
    e ∙ subst (λ (n : ℕ). record mid { caught = n } ≡ t) b a

-- ---- lists in which one item is written

-- those behind a place that was written, and those up to it
pub rest_set : {X : Type 0} (P : X → Type 0) (xs : List X) (i : ℕ) (y : X) → ((k : ℕ) (d : X) → i ≤ k → k < length xs → P (get_or xs k d)) → (k : ℕ) (d : X) → i + 1 ≤ k → k < length (set xs i y) → P (get_or (set xs i y) k d)
rest_set P xs i y h k d b l = subst P (sym (get_or-set_other xs i k y d (λ e. absurd (omega arith)))) (h k d (omega arith) (let n = length-set xs i y in omega arith))

pub first_set : {X : Type 0} (P : X → Type 0) (xs : List X) (i : ℕ) (y : X) → i < length xs → P y → ((k : ℕ) (d : X) → k < i → P (get_or xs k d)) → (k : ℕ) (d : X) → k < i + 1 → P (get_or (set xs i y) k d)
first_set P xs i y b p h k d l = elim (cases_eq k i) [
  | inl e ↦ subst P (sym (get_or-set_at xs i k y d e b)) p
  | inr n ↦ subst P (sym (get_or-set_other xs i k y d n)) (h k d (omega arith))
]
