-- Only Look is answered with entries.
use Rattle.std.proofs.Common.{◌≡◌, ℕ, List, ◌++◌, sym, ap, ◌∙◌}
use Rattle.opt_core.specs.declared.event.Reply.{Reply}
use Rattle.opt_core.specs.declared.event.Reply.TheVariants as reply
use Rattle.opt_gate.specs.Turn.{news_of}

module _ {Found Reason : Type 0} where
  -- what was told grows by the entries of the News
  pub grown : (before now es handed : List Found) (r : Reply Found Reason) (task : ℕ) → now ≡ before ++ news_of r → r ≡ reply.News es task → handed ≡ es → now ≡ before ++ handed
  grown before now es handed r task told is same = told ∙ (ap (λ (x : Reply Found Reason). before ++ news_of x) is ∙ ap (λ (l : List Found). before ++ l) (sym same))
