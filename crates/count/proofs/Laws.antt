-- The theorems on balanced stores and tables, put together.
use Rattle.std.proofs.Common.{◌≡◌, ℕ, suc, ◌+◌, ◌-◌, ◌*◌, ◌^◌, ◌<◌, ◌≤◌, leb, Ok, sym, ap, ◌∙◌, subst, mul-le-mul_right, suc-mul, arith, pow-add, ne_eqb}
use Rattle.std.proofs.lemmas.Bool.{lt-leb}
use Rattle.std.proofs.Math.Decide.{ℕ_discrete}
use Rattle.block.specs.Blocks.{Blocks}
use Rattle.block.specs.Calls.{refused_if}
use Rattle.block.proofs.Sums.{sum_same}
use Rattle.forest.specs.Trees.{lookup}
use Rattle.forest.specs.Balance.{hit, Label}
use Rattle.block.proofs.Wholes.{out_below}
use Rattle.forest.proofs.Sums.{some_part}
use Rattle.forest.proofs.Balances.{hit_pointer}
use Rattle.forest.specs.Plans.{differs}
use Rattle.forest.proofs.Reaches.{few_holders, reached, all_free}
use Rattle.count.specs.Paths.{down, path, held_by, Stands}
use Rattle.count.specs.Tally.{bit}
use Rattle.count.specs.Steps.{put, gone}
use Rattle.count.specs.Laws.{NeverTooMany, AllReached, AllFree, NeedCounted, OthersStay, NewBesideOld, BlocksCounted, CountTheorem, RoomTold}
use Rattle.count.proofs.Cells.{any_like, changes_cells, down_then, lookup_down}
use Rattle.count.proofs.Needs.{needed_levels}
use Rattle.count.proofs.Keeps.{put_else, path_keeps}
use Rattle.count.proofs.Forgets.{root_once, keeps_gone, stands_forgotten}
use Rattle.count.proofs.Edits.{keeps, stands_edited, renewed}
use Rattle.count.proofs.Totals.{used_paths, used_tally}
use Rattle.count.proofs.Tallies.{fits_edited}

-- a root block has one holder, and what is no root's has pointers from blocks alone
few_in_table : (deep : ℕ → ℕ) (n : ℕ) (m : Blocks) (label : ℕ → Label) (roots : ℕ → ℕ) → Stands deep n m label roots → (b : ℕ) → m.holders b ≤ m.size
few_in_table deep n m label roots w b =
    elim (ℕ_discrete (held_by n roots b) 0) [
      | yes e ↦ omega (arith, e, few_holders deep m label (held_by n roots) w.balance b)
      | no d ↦
          let s = some_part n (λ s. hit (roots s) b) (omega arith) in
          let o = root_once deep n m label roots w s.0 b s.1 (hit_pointer (roots s.0) b s.2) in
          omega (arith, o, out_below m b w.balance.whole (omega (arith, o)))
    ]

pub never_too_many : NeverTooMany
never_too_many = record {
  few = few_holders;
  table = few_in_table;
  keeps = λ deep m label outside w b f o.
      ap (λ t. refused_if t 2 (refused_if (leb 65535 (m.holders b)) 3 (Ok tt))) (ne_eqb (m.holders b) 0 (omega arith)) ∙
      ap (λ t. refused_if t 3 (Ok tt)) (lt-leb 65535 (m.holders b) (omega (arith, few_holders deep m label outside w b, w.whole.few)));
}

pub all_reached : AllReached
all_reached = reached

pub none_held : AllFree
none_held = all_free

pub inside : (a k q i : ℕ) → q < 16 ^ a → i < 16 ^ k → q * 16 ^ k + i < 16 ^ (a + k)
inside a k q i h l = omega (arith, pow-add 16 a k, mul-le-mul_right (16 ^ k) h, suc-mul q (16 ^ k), l)

pub need_counted : NeedCounted
need_counted new m k p =
    needed_levels new m k p ∙
    sum_same k _ _ (λ i li. sum_same (16 ^ (k - suc i)) _ _ (λ q lq. ap bit
    (changes_cells new m (suc i) (down m p (k - suc i) q) q ∙
    any_like (16 ^ suc i) _ _ (λ c lc. ap (differs new (q * 16 ^ suc i + c)) (same i q c li lq lc)))))
  where
    same : (i q c : ℕ) → i < k → q < 16 ^ (k - suc i) → c < 16 ^ suc i → down m (down m p (k - suc i) q) (suc i) c ≡ lookup m k p (q * 16 ^ suc i + c)
    same i q c li lq lc =
        let e : suc i + (k - suc i) ≡ k = omega arith in
        let f : k - suc i + suc i ≡ k = omega arith in
        down_then m p (k - suc i) q (suc i) c lc ∙
        ap (λ (v : ℕ). down m p v (q * 16 ^ suc i + c)) e ∙
        sym (lookup_down m k p (q * 16 ^ suc i + c) (subst (λ (v : ℕ). q * 16 ^ suc i + c < 16 ^ v) f (inside (k - suc i) (suc i) q c lq lc)))

pub others_stay : OthersStay
others_stay = record {
  paths = λ deep n m label roots w x b hx at s hs d l.
      let o = gone deep m b 16 in
      let z = stands_forgotten deep n m label roots w x b hx at in
      let k = path_keeps deep n o label (put x 0 roots) z m (keeps_gone deep n m label roots w x b hx at) s hs l in
      sym (subst (λ (v : ℕ). path deep m v l ≡ path deep o v l) (put_else x 0 roots s d) k);
  stands = stands_forgotten;
}

pub new_beside_old : NewBesideOld
new_beside_old = record {
  paths = λ deep n m u o label roots new h x t q b fresh y s hs l. path_keeps deep n m label roots y.stands o (keeps deep n m label roots y.stands h y.head new x t b q fresh u o y.place y.vacant y.tree y.some y.rebuilt y.filled y.whole) s hs l;
  stands = λ deep n m u o label roots new h x t q b fresh y. stands_edited deep n m label roots y.stands h y.head new x t b q fresh u o y.place y.vacant y.tree y.some y.rebuilt y.filled y.whole;
  shares = λ deep n m u o label roots new h x t q b fresh y. renewed deep n m label roots y.stands h y.head new x t b q fresh u o y.place y.vacant y.tree y.some y.rebuilt y.filled y.whole;
}

pub blocks_counted : BlocksCounted
blocks_counted = used_paths

pub count_theorem : CountTheorem
count_theorem = used_tally

pub room_told : RoomTold
room_told = fits_edited
