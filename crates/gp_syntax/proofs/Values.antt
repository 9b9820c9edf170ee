-- The worked examples of values and conditions, by computation.
use Rattle.std.proofs.Common.{◌≡◌, [], ◌∷◌, pos, refl}
use Rattle.std.specs.Ordering.{nat_cmp}
use Rattle.std.specs.FinMap as map
use Rattle.gp_syntax.specs.ValueRows.{with_loop, dashed, ArithmeticHasEnds, DivisionTruncates, FirstKindIsTold, LengthGoesByType, DegreesCountLoops, ChainsJoin, SecondPartWaits, EdgeTests, OtherTests}

pub arithmetic_has_ends : ArithmeticHasEnds
arithmetic_has_ends = record { sum = refl; sum_past = refl; difference = refl; difference_past = refl; product = refl; product_past = refl; quotient = refl; quotient_past = refl; negation_past = refl }

pub division_truncates : DivisionTruncates
division_truncates = record { plus_plus = refl; minus_plus = refl; plus_minus = refl; minus_minus = refl; by_zero = refl }

pub first_kind_is_told : FirstKindIsTold
first_kind_is_told = record { divisor_first = refl; bits_first = refl }

pub length_goes_by_type : LengthGoesByType
length_goes_by_type = record { of_list = refl; of_string_atom = refl; of_integer_atom = refl; of_integer = refl; of_string = refl; of_char = refl }

-- the edges of the host, as a list
edges : map.entries with_loop.graph.edges ≡ (0, dashed 0 1 (pos 3)) ∷ (1, dashed 0 0 (pos 4)) ∷ []
edges = map.entries-from_sorted nat_cmp ((0, dashed 0 1 (pos 3)) ∷ (1, dashed 0 0 (pos 4)) ∷ []) tt

pub degrees_count_loops : DegreesCountLoops
degrees_count_loops = record { into_first = rw edges refl; out_of_first = rw edges refl; into_second = rw edges refl; out_of_second = rw edges refl }

pub chains_join : ChainsJoin
chains_join = record { strings = refl; lists = refl }

pub second_part_waits : SecondPartWaits
second_part_waits = record { and_false = refl; and_true = refl; and_behind = refl; or_true = refl; or_false = refl; or_behind = refl; not_faulty = refl }

pub edge_tests : EdgeTests
edge_tests = record { there = rw edges refl; back = rw edges refl; loop = rw edges refl; labelled = rw edges refl; of_another = rw edges refl; unmarked = rw edges refl; any = rw edges refl; valued_first = refl }

pub other_tests : OtherTests
other_tests = record { char = refl; no_char = refl; string = refl; no_string = refl; integer = refl; atom = refl; no_atom = refl; equal = refl; apart = refl; less = refl; not_less = refl; at_most = refl; greater = refl; at_least = refl }
