-- The loops that look for the first fault, one item after the other.
use Rattle.std.proofs.Common.{◌≡◌, ℕ, ◌+◌, ◌<◌, ◌≤◌, List, ◌∷◌, length, get_or, drop, Option, None, Some, Bool, true, false, not, map, [], ◌++◌, refl, sym, ap, subst, append_assoc, append-nil, ◌∙◌}
use Rattle.std.specs.Prelude.{if◌then◌else◌}
use Rattle.std.specs.Option.{option_or}
use Rattle.gp_values.specs.Names.{Name, has_name, first_doubled_behind}
use Rattle.std.proofs.Math.ListN.{drop_of_length-le}
use Rattle.gp_hostfile.specs.declared.fault.HostFault.{HostFault}
use Rattle.gp_hostfile.specs.Host.{first_found}
use Rattle.gp_hostfile.specs.inside.Stages.{Refuses}
use Rattle.gp_hostfile.proofs.Faults.{first_refused}
use Rattle.gp_hostfile.proofs.Making.{drop_item}

module _ {A : Type 0} (f : A → Option HostFault) (xs : List A) (i : ℕ) (x : A) (lt : i < length xs) (is : x ≡ get_or xs i x) (whole : Option HostFault)
    (same : first_found f (drop i xs) ≡ whole) where
  found_link : option_or (f x) (first_found f (drop (i + 1) xs)) ≡ whole
  found_link = ap (first_found f) (sym (drop_item xs i x lt is)) ∙ same

  pub found_goes_on : f x ≡ None → first_found f (drop (i + 1) xs) ≡ whole
  found_goes_on h = ap (λ o. option_or o (first_found f (drop (i + 1) xs))) (sym h) ∙ found_link

  pub found_stops : (e : HostFault) → Refuses e (f x) → Refuses e whole
  found_stops e h = subst (Refuses e) found_link (first_refused e (f x) (first_found f (drop (i + 1) xs)) h)

pub found_ends : {A : Type 0} (f : A → Option HostFault) (xs : List A) (i : ℕ) (whole : Option HostFault) → length xs ≤ i → first_found f (drop i xs) ≡ whole → whole ≡ None
found_ends f xs i whole le same = sym same ∙ ap (first_found f) (drop_of_length-le xs le)

-- ---- the loops that look for a name that stood before

new_name : (b r : Bool) → r ≡ not b → r ≡ true → b ≡ false
new_name true r e t = cc
new_name false r e t = refl

module _ {A : Type 0} (name : A → Name) (xs : List A) (i : ℕ) (x : A) (lt : i < length xs) (is : x ≡ get_or xs i x) (old new : List Name) (added : Bool)
    (was : added ≡ not (has_name old (name x))) (names : new ≡ (if has_name old (name x) then old else old ++ name x ∷ [])) (is_new : added ≡ true) where
  fresh : has_name old (name x) ≡ false
  fresh = new_name (has_name old (name x)) added was is_new

  one_more : new ≡ old ++ name x ∷ []
  one_more = names ∙ rw fresh refl

  pub doubled_goes_on : (whole : Option Name) → first_doubled_behind old (map name (drop i xs)) ≡ whole → first_doubled_behind new (map name (drop (i + 1) xs)) ≡ whole
  doubled_goes_on whole same =
      let step : first_doubled_behind old (map name (x ∷ drop (i + 1) xs)) ≡ first_doubled_behind (old ++ name x ∷ []) (map name (drop (i + 1) xs)) = rw fresh refl in
      ap (λ l. first_doubled_behind l (map name (drop (i + 1) xs))) one_more ∙ sym (ap (λ l. first_doubled_behind old (map name l)) (drop_item xs i x lt is) ∙ step) ∙ same

  pub names_go_on : (whole : List Name) → old ++ map name (drop i xs) ≡ whole → new ++ map name (drop (i + 1) xs) ≡ whole
  names_go_on whole same =
      ap (λ l. l ++ map name (drop (i + 1) xs)) one_more ∙ append_assoc old (name x ∷ []) (map name (drop (i + 1) xs)) ∙ sym (ap (λ l. old ++ map name l) (drop_item xs i x lt is)) ∙ same

old_name : (b r : Bool) → r ≡ not b → r ≡ false → b ≡ true
old_name true r e t = refl
old_name false r e t = cc

pub doubled_stops : {A : Type 0} (name : A → Name) (xs : List A) (i : ℕ) (x : A) → i < length xs → x ≡ get_or xs i x → (old : List Name) (added : Bool) → added ≡ not (has_name old (name x)) → added ≡ false
    → (whole : Option Name) → first_doubled_behind old (map name (drop i xs)) ≡ whole → whole ≡ Some (name x)
doubled_stops name xs i x lt is old added was f whole same =
    let twice = old_name (has_name old (name x)) added was f in
    let step : first_doubled_behind old (map name (x ∷ drop (i + 1) xs)) ≡ Some (name x) = rw (twice) refl in
    sym same ∙ ap (λ l. first_doubled_behind old (map name l)) (drop_item xs i x lt is) ∙ step

pub doubled_ends : {A : Type 0} (name : A → Name) (xs : List A) (i : ℕ) (old : List Name) (whole : Option Name) → length xs ≤ i → first_doubled_behind old (map name (drop i xs)) ≡ whole → whole ≡ None
doubled_ends name xs i old whole le same = sym same ∙ ap (λ l. first_doubled_behind old (map name l)) (drop_of_length-le xs le)

pub names_end : {A : Type 0} (name : A → Name) (xs : List A) (i : ℕ) (old whole : List Name) → length xs ≤ i → old ++ map name (drop i xs) ≡ whole → old ≡ whole
names_end name xs i old whole le same = sym (append-nil old) ∙ ap (λ l. old ++ map name l) (sym (drop_of_length-le xs le)) ∙ same
