-- What it is for a trace and a result to be a derivation of a program on a host (Plump 2012, section 5).
use Rattle.std.specs.Prelude.{◌≡◌, ℕ, List, codes}
use Rattle.gp_values.specs.Graph.{Graph}
use Rattle.gp_syntax.specs.Rule.{Rule}
use Rattle.gp_syntax.specs.Run.{Program, Item, Gives, Fails}
use Rattle.gp_trace.specs.declared.version.Version.{Version}
use Rattle.gp_trace.specs.declared.version.Version.TheVariants.{One, Two}
use Rattle.gp_hostfile.specs.GraphText.{IsGraphText}
use Rattle.gp_derivation.specs.Upgrade.{IsUpgrade}
use Rattle.gp_certify.specs.Certified.{HasRunTo}

-- The items of a trace, by today's numbers of edges: those of version 2 as they are, those of version 1 brought up to date.
pub data AreToday (rules : List Rule) (host : Graph) : Version → List Item → List Item → Type 0 where
  as_they_are : {t : List Item} → AreToday rules host Two t t
  brought_up : {s t : List Item} → IsUpgrade rules host s t → AreToday rules host One s t

abbrev pub fail_text : List ℕ
fail_text = codes "fail\n"

-- some run of Main from the host makes these items, and this is the text of what it ends with
pub data EndsWith (program : Program) (host : Graph) (t : List Item) (text : List ℕ) : Type 0 where
  with_graph : {h : Graph} → HasRunTo program host t (Gives h) → IsGraphText h text → EndsWith program host t text
  with_fail : {h : Graph} → HasRunTo program host t (Fails h) → text ≡ fail_text → EndsWith program host t text

-- The items of a trace of this version are those of a run of Main from the host that ends with the text.
pub record IsDerivation (program : Program) (host : Graph) (version : Version) (items : List Item) (text : List ℕ) : Type 0 where
  pub today : List Item
  pub are : AreToday program.rules host version items today
  pub ends : EndsWith program host today text
