-- How a stepper is stored in a value that contracts see.
use Rattle.std.specs.Prelude.{ℕ, List, refl}
use Rattle.std.specs.Coded.{Coded, code_by, coded×, coded_ℕ, coded_list}
use Rattle.gp_syntax.specs.declared.found.Item.{Item}
use Rattle.gp_syntax.specs.contracts.found.Item.{the_row as item_row}
use Rattle.gp_journal.specs.Trail.{Trail, trail_code}
use Rattle.gp_derivation.specs.Stepper.{Stepper}

abbrev pub stepper_code : Coded Stepper
stepper_code =
    code_by (List Item × (ℕ × Trail)) (coded× (coded_list item_row.coded) (coded× coded_ℕ trail_code)) (λ s. (s.items, (s.place, s.trail)))
    (λ p. record { items = p.0; place = p.1.0; trail = p.1.1 }) (λ _. refl)
