-- A stretch changes where one of its cells does.
use Rattle.std.proofs.Common.{◌≡◌, ℕ, zero, suc, ◌+◌, ◌-◌, ◌*◌, ◌/◌, ◌%◌, ◌^◌, ◌<◌, ◌≤◌, Bool, true, false, ◌||◌, List, [], ◌∷◌, ◌++◌, sym, refl, ap, ◌∙◌, mul_assoc, suc-mul, mul_comm, add-mul, pow-suc, arith}
use Rattle.std.proofs.Math.Nat.{div-div-eq-div-mul}
use Rattle.std.proofs.Math.Bool.{or-false}
use Rattle.block.specs.Blocks.{Blocks}
use Rattle.forest.proofs.Digits.{power_suc}
use Rattle.forest.specs.Trees.{child, look, digits, lookup}
use Rattle.forest.specs.Balance.{node}
use Rattle.forest.specs.Plans.{any_to, differs, changes}
use Rattle.count.specs.Paths.{down, path}
use Rattle.count.proofs.Needs.{down_first}

pub any_like : (n : ℕ) (f g : ℕ → Bool) → ((s : ℕ) → s < n → f s ≡ g s) → any_to n f ≡ any_to n g
any_like zero f g h = refl
any_like (suc n) f g h = ap (λ t. t || f n) (any_like n f g (λ s l. h s (omega arith))) ∙ ap (λ t. any_to n g || t) (h n (omega arith))

or_assoc : (a b c : Bool) → (a || (b || c)) ≡ ((a || b) || c)
or_assoc true b c = refl
or_assoc false b c = refl

any_parts : (a b : ℕ) (f : ℕ → Bool) → any_to (a * b) f ≡ any_to a (λ j. any_to b (λ q. f (j * b + q)))
any_parts zero b f = let e : zero * b ≡ 0 = omega arith in ap (λ (x : ℕ). any_to x f) e
any_parts (suc a) b f =
    ap (λ (x : ℕ). any_to x f) (suc-mul a b) ∙ more b ∙ ap (λ t. t || any_to b (λ q. f (a * b + q))) (any_parts a b f)
  where
    more : (c : ℕ) → any_to (a * b + c) f ≡ (any_to (a * b) f || any_to c (λ q. f (a * b + q)))
    more zero = (let e : a * b + 0 ≡ a * b = omega arith in ap (λ (x : ℕ). any_to x f) e) ∙ sym (or-false (any_to (a * b) f))
    more (suc c) = (let e : a * b + suc c ≡ suc (a * b + c) = omega arith in ap (λ (x : ℕ). any_to x f) e) ∙ ap (λ t. t || f (a * b + c)) (more c) ∙ sym (or_assoc (any_to (a * b) f) (any_to c (λ q. f (a * b + q))) (f (a * b + c)))

pub changes_cells : (new : ℕ → ℕ → ℕ) (m : Blocks) (k p a : ℕ) → changes new m k p a ≡ any_to (16 ^ k) (λ i. differs new (a * 16 ^ k + i) (down m p k i))
changes_cells new m zero p a = let e : a * 16 ^ 0 + 0 ≡ a = omega arith in ap (λ (v : ℕ). differs new v p) (sym e)
changes_cells new m (suc k) p a =
    any_like 16 _ _ (λ j l. changes_cells new m k (child m p j) (a * 16 + j) ∙ any_like (16 ^ k) _ _ (λ q h.
    ap (λ (v : ℕ). differs new v (down m (child m p j) k q)) (sym (at j q)) ∙ ap (λ (v : ℕ). differs new (a * 16 ^ suc k + (j * 16 ^ k + q)) v) (sym (down_first m p k j q l h)))) ∙
    sym (any_parts 16 (16 ^ k) (λ i. differs new (a * 16 ^ suc k + i) (down m p (suc k) i))) ∙
    ap (λ (x : ℕ). any_to x (λ i. differs new (a * 16 ^ suc k + i) (down m p (suc k) i))) (sym (pow-suc 16 k ∙ mul_comm (16 ^ k) 16))
  where
    at : (j q : ℕ) → a * 16 ^ suc k + (j * 16 ^ k + q) ≡ (a * 16 + j) * 16 ^ k + q
    at j q = omega (arith, ap (λ (v : ℕ). a * v) (pow-suc 16 k ∙ mul_comm (16 ^ k) 16), mul_assoc a 16 (16 ^ k), add-mul (a * 16) j (16 ^ k))

pub down_then : (m : Blocks) (p j q k i : ℕ) → i < 16 ^ k → down m (down m p j q) k i ≡ down m p (k + j) (q * 16 ^ k + i)
down_then m p j q zero zero h =
    let e : 0 + j ≡ j = omega arith in let z : q * 16 ^ 0 + 0 ≡ q = omega arith in
    ap (λ (v : ℕ). down m p v q) (sym e) ∙ ap (λ (v : ℕ). down m p (0 + j) v) (sym z)
down_then m p j q zero (suc i) h = absurd (omega arith)
down_then m p j q (suc k) i h =
    let s = pow-suc 16 k in
    let e : q * 16 ^ suc k ≡ q * 16 ^ k * 16 = ap (λ (v : ℕ). q * v) s ∙ sym (mul_assoc q (16 ^ k) 16) in
    let x : (q * 16 ^ suc k + i) / 16 ≡ q * 16 ^ k + i / 16 = omega (arith, e) in
    let y : (q * 16 ^ suc k + i) % 16 ≡ i % 16 = omega (arith, e) in
    let z : suc k + j ≡ suc (k + j) = omega arith in
    ap (λ (v : ℕ). child m v (i % 16)) (down_then m p j q k (i / 16) (omega (arith, h, s))) ∙
    ap (λ (v : ℕ). child m (down m p (k + j) v) (i % 16)) (sym x) ∙
    ap (λ (v : ℕ). child m (down m p (k + j) ((q * 16 ^ suc k + i) / 16)) v) (sym y) ∙
    ap (λ (v : ℕ). down m p v (q * 16 ^ suc k + i)) (sym z)

-- the cells of a stretch, as the snapshot has them: `path` at the order 0 is the cell's word
pub changes_stretch : (deep : ℕ → ℕ) (new : ℕ → ℕ → ℕ) (m : Blocks) (p t k q : ℕ) → k ≤ deep t → changes new m k (path deep m p (node t k q)) q ≡ any_to (16 ^ k) (λ i. differs new (q * 16 ^ k + i) (path deep m p (node t 0 (q * 16 ^ k + i))))
changes_stretch deep new m p t k q l =
    changes_cells new m k (path deep m p (node t k q)) q ∙
    any_like (16 ^ k) _ _ (λ i h. ap (λ (v : ℕ). differs new (q * 16 ^ k + i) v) (down_then m (child m p t) (deep t - k) q k i h ∙ (let e : k + (deep t - k) ≡ deep t - 0 = omega arith in ap (λ (v : ℕ). down m (child m p t) v (q * 16 ^ k + i)) e)))

look_snoc : (m : Blocks) (p : ℕ) (ds : List ℕ) (d : ℕ) → look m p (ds ++ (d ∷ [])) ≡ child m (look m p ds) d
look_snoc m p [] d = refl
look_snoc m p (e ∷ ds) d = look_snoc m (child m p e) ds d

digits_snoc : (k i : ℕ) → digits (suc k) i ≡ digits k (i / 16) ++ (i % 16 ∷ [])
digits_snoc zero i = let e : i / 16 ^ 0 ≡ i = omega arith in ap (λ (v : ℕ). v % 16 ∷ []) e
digits_snoc (suc k) i =
    let x : i / 16 ^ suc k ≡ i / 16 / 16 ^ k = ap (λ (v : ℕ). i / v) (power_suc k) ∙ sym (div-div-eq-div-mul i 16 (16 ^ k)) in
    ap (λ (v : ℕ). v % 16 ∷ digits (suc k) i) x ∙ ap (λ (v : List ℕ). (i / 16 / 16 ^ k) % 16 ∷ v) (digits_snoc k i)

-- what `read` answers is the path at the order 0
pub lookup_down : (m : Blocks) (k p i : ℕ) → i < 16 ^ k → lookup m k p i ≡ down m p k i
lookup_down m zero p zero h = refl
lookup_down m zero p (suc i) h = absurd (omega arith)
lookup_down m (suc k) p i h =
    ap (look m p) (digits_snoc k i) ∙ look_snoc m p (digits k (i / 16)) (i % 16) ∙ ap (λ (v : ℕ). child m v (i % 16)) (lookup_down m k p (i / 16) (omega (arith, h, pow-suc 16 k)))
