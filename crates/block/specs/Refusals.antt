-- The numbers of a store's refusals.
--
--   number e    the number by which the refusal e is known
--   refusal n   the refusal that has the number n
use Rattle.std.specs.Prelude.{ℕ, cond, ◌==◌}
use Rattle.block.specs.declared.refusals.Refusal.{Refusal}
use Rattle.block.specs.declared.refusals.Refusal.TheVariants.{NoneFree, NotOut, TooMany, NoWord}

abbrev pub number : Refusal → ℕ
number NoneFree = 1
number NotOut = 2
number TooMany = 3
number NoWord = 4

-- among the numbers from 1 to 4
abbrev pub refusal : ℕ → Refusal
refusal n = cond (n == 1) NoneFree (cond (n == 2) NotOut (cond (n == 3) TooMany NoWord))
