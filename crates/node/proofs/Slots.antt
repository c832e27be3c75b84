-- One child of sixteen is another.
use Rattle.std.proofs.Common.{◌≡◌, ℕ, ◌<◌, ◌≢◌, List, length, set, ap}
use Rattle.std.proofs.lemmas.List.{get_or-set_same, get_or-set_other}
use Rattle.node.specs.declared.children.Child.{Child}
use Rattle.node.specs.declared.children.Child.TheVariants.{Kept}
use Rattle.node.specs.Children.{word_of, is_fresh, word_at, fresh_at}

module _ (cs : List Child) (i : ℕ) (x : Child) where
  pub word_here : i < length cs → word_at (set cs i x) i ≡ word_of x
  word_here l = ap word_of (get_or-set_same cs i x (Kept 0) l)

  pub word_else : (j : ℕ) → j ≢ i → word_at (set cs i x) j ≡ word_at cs j
  word_else j d = ap word_of (get_or-set_other cs i j x (Kept 0) d)

  pub fresh_here : i < length cs → fresh_at (set cs i x) i ≡ is_fresh x
  fresh_here l = ap is_fresh (get_or-set_same cs i x (Kept 0) l)

  pub fresh_else : (j : ℕ) → j ≢ i → fresh_at (set cs i x) j ≡ fresh_at cs j
  fresh_else j d = ap is_fresh (get_or-set_other cs i j x (Kept 0) d)
