-- The clauses in the order in which they are asked, some at a time.
use Rattle.std.specs.Prelude.{Option, option_map}
use Rattle.std.specs.Option.{option_or}
use Rattle.gp_syntax.specs.Declaration.{Declaration}
use Rattle.gp_syntax.specs.Fault.{Fault, TooLarge, TwiceDeclared, UnknownNode, BadInterface, Unbound, BadType, NotSimple, BadMark, BadBidi, when, too_large, twice_declared, unknown_node, bad_interface, unbound, bad_type, not_simple, bad_mark, bad_bidi}

abbrev pub names_checked : Declaration → Option Fault
names_checked d =
    option_or (when (too_large d) TooLarge) (option_or (option_map TwiceDeclared (twice_declared d)) (option_or (option_map UnknownNode (unknown_node d)) (option_map BadInterface (bad_interface d))))

abbrev pub labels_checked : Declaration → Option Fault
labels_checked d = option_or (option_map Unbound (unbound d)) (option_or (when (bad_type d) BadType) (when (not_simple d) NotSimple))

abbrev pub marks_checked : Declaration → Option Fault
marks_checked d = option_or (when (bad_mark d) BadMark) (option_map BadBidi (bad_bidi d))
