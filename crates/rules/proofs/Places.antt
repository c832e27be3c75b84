-- Indices of dots and strips, and the columns and rows that they stand for.
use Rattle.std.proofs.Common.{◌≡◌, ℕ, zero, suc, ◌+◌, ◌*◌, ◌/◌, ◌%◌, ◌^◌, ◌<◌, ◌≤◌, map, sym, refl, ap, ◌∙◌, subst, ap₂, add-zero, add-one, mod-lt, mod-eq_of_lt, mul_assoc, mul_comm, div-lt_iff_lt-mul, add_comm, mul-le-mul_left, one-mul, pow-suc, mul-zero, div-add-mod', mul-suc, mul-add, div-one, arith}
use Rattle.std.proofs.Math.Nat.{div-div-eq-div-mul, div-eq_of_lt, mul-add-div, mul-add-mod_self_left, pow-zero, pow-succ'}
use Rattle.std.specs.List.{range_with_len}
use Rattle.rules.specs.Lists.{total}
use Rattle.rules.specs.Cells.{dot_index, dot_column, dot_row, digit, strip_index}
use Rattle.rules.specs.CellLaws.{DotsPlaced, StripsPlaced}

-- the number with n digits f 0, f 1, .. in base b, the lowest first
abbrev spelt_from : ℕ → ℕ → ℕ → (ℕ → ℕ) → ℕ
spelt_from b a n f = total (map (λ k. b ^ k * f k) (range_with_len a n))

spelt_later : (b a n : ℕ) (f : ℕ → ℕ) → spelt_from b (a + 1) n f ≡ b * spelt_from b a n (λ k. f (suc k))
spelt_later b a zero f = sym (mul-zero b)
spelt_later b a (suc n) f =
    ap₂ ◌+◌ (ap (λ (c : ℕ). b ^ c * f c) (add-one a) ∙ ap (λ (p : ℕ). p * f (suc a)) (pow-succ' b a) ∙ mul_assoc b (b ^ a) (f (suc a))) (spelt_later b (a + 1) n f)
    ∙ sym (mul-add b (b ^ a * f (suc a)) (spelt_from b (a + 1) n (λ k. f (suc k))))

abbrev spelt : ℕ → ℕ → (ℕ → ℕ) → ℕ
spelt b n f = spelt_from b 0 n f

-- the lowest digit, and the rest
spelt_first : (b n : ℕ) (f : ℕ → ℕ) → spelt b (suc n) f ≡ b * spelt b n (λ k. f (suc k)) + f 0
spelt_first b n f = ap₂ ◌+◌ (ap (λ (p : ℕ). p * f 0) (pow-zero b) ∙ one-mul (f 0)) (spelt_later b 0 n f) ∙ add_comm (f 0) (b * spelt b n (λ k. f (suc k)))

spelt_like : (b n : ℕ) (f g : ℕ → ℕ) → ((k : ℕ) → k < n → f k ≡ g k) → spelt b n f ≡ spelt b n g
spelt_like b zero f g e = refl
spelt_like b (suc n) f g e =
    spelt_first b n f ∙ ap₂ (λ u v. b * u + v) (spelt_like b n (λ k. f (suc k)) (λ k. g (suc k)) (λ k l. e (suc k) (omega arith))) (e 0 (omega arith)) ∙ sym (spelt_first b n g)

-- a digit can be had back
digit_back : (b n : ℕ) (f : ℕ → ℕ) → 0 < b → ((k : ℕ) → f k < b) → (k : ℕ) → k < n → spelt b n f / b ^ k % b ≡ f k
digit_back b zero f p l k h = absurd (omega arith)
digit_back b (suc n) f p l zero h =
    ap (λ q. spelt b (suc n) f / q % b) (pow-zero b) ∙ ap (λ v. v % b) (div-one (spelt b (suc n) f)) ∙ ap (λ v. v % b) (spelt_first b n f)
    ∙ mul-add-mod_self_left b (spelt b n (λ k. f (suc k))) (f 0) ∙ mod-eq_of_lt (l 0)
digit_back b (suc n) f p l (suc k) h =
    ap (λ q. spelt b (suc n) f / q % b) (pow-succ' b k) ∙ ap (λ v. v % b) (sym (div-div-eq-div-mul (spelt b (suc n) f) b (b ^ k)))
    ∙ ap (λ v. v / b ^ k % b) (ap (λ v. v / b) (spelt_first b n f) ∙ mul-add-div p (spelt b n (λ k. f (suc k))) (f 0) ∙ ap (λ v. spelt b n (λ k. f (suc k)) + v) (div-eq_of_lt (l 0)) ∙ add-zero (spelt b n (λ k. f (suc k))))
    ∙ digit_back b n (λ k. f (suc k)) p (λ k. l (suc k)) k (omega arith)

-- a number is spelt by its digits
spelt_digits : (b n v : ℕ) → 0 < b → v < b ^ n → spelt b n (λ k. v / b ^ k % b) ≡ v
spelt_digits b zero v p l = omega (arith, pow-zero b)
spelt_digits b (suc n) v p l =
    spelt_first b n (λ k. v / b ^ k % b)
    ∙ ap₂ (λ u w. b * u + w)
    (spelt_like b n (λ k. v / b ^ suc k % b) (λ k. v / b / b ^ k % b) (λ k h. ap (λ q. v / q % b) (pow-succ' b k) ∙ ap (λ u. u % b) (sym (div-div-eq-div-mul v b (b ^ k))))
    ∙ spelt_digits b n (v / b) p ((div-lt_iff_lt-mul p).1 (subst (λ (q : ℕ). v < q) (pow-suc b n) l)))
    (ap (λ q. v / q % b) (pow-zero b) ∙ ap (λ u. u % b) (div-one v))
    ∙ ap (λ u. u + v % b) (mul_comm b (v / b)) ∙ div-add-mod' v b

spelt_below : (b n : ℕ) (f : ℕ → ℕ) → ((k : ℕ) → f k < b) → spelt b n f < b ^ n
spelt_below b zero f l = omega (arith, pow-zero b)
spelt_below b (suc n) f l =
    let r = spelt b n (λ k. f (suc k)) in
    let h : suc r ≤ b ^ n = spelt_below b n (λ k. f (suc k)) (λ k. l (suc k)) in
    let m : b * suc r ≤ b * b ^ n = mul-le-mul_left b h in
    omega (arith, spelt_first b n f, mul-suc b r, pow-succ' b n, l 0)

-- a digit in base 16 of the index of a dot is made of two digits in base 4
abbrev pair : ℕ → ℕ → ℕ → ℕ
pair x y k = 4 * digit k y + digit k x

digit_below : (k n : ℕ) → digit k n < 4
digit_below k n = mod-lt (n / 4 ^ k) (omega arith)

pair_below : (x y k : ℕ) → pair x y k < 16
pair_below x y k = omega (arith, digit_below k y, digit_below k x)

low : (v a b : ℕ) → a < 4 → b < 4 → v % 16 ≡ 4 * b + a → v % 4 ≡ a
low v a b p q e = omega arith

high : (v a b : ℕ) → a < 4 → b < 4 → v % 16 ≡ 4 * b + a → v / 4 % 4 ≡ b
high v a b p q e = omega arith

both : (v : ℕ) → 4 * (v / 4 % 4) + v % 4 ≡ v % 16
both v = omega arith

module _ (x y : ℕ) where
  digits : (k : ℕ) → k < 4 → dot_index x y / 16 ^ k % 16 ≡ pair x y k
  digits k l = digit_back 16 4 (pair x y) (omega arith) (pair_below x y) k l

  column : x < 256 → dot_column (dot_index x y) ≡ x
  column h =
      spelt_like 4 4 (λ k. dot_index x y / 16 ^ k % 4) (λ k. digit k x) (λ k l. low (dot_index x y / 16 ^ k) (digit k x) (digit k y) (digit_below k x) (digit_below k y) (digits k l))
      ∙ spelt_digits 4 4 x (omega arith) h

  row : y < 256 → dot_row (dot_index x y) ≡ y
  row h =
      spelt_like 4 4 (λ k. dot_index x y / 16 ^ k / 4 % 4) (λ k. digit k y) (λ k l. high (dot_index x y / 16 ^ k) (digit k x) (digit k y) (digit_below k x) (digit_below k y) (digits k l))
      ∙ spelt_digits 4 4 y (omega arith) h

back : (i : ℕ) → i < 16 ^ 4 → dot_index (dot_column i) (dot_row i) ≡ i
back i h =
    spelt_like 16 4 (pair (dot_column i) (dot_row i)) (λ k. i / 16 ^ k % 16)
    (λ k l. ap₂ (λ u v. 4 * u + v)
    (digit_back 4 4 (λ k. i / 16 ^ k / 4 % 4) (omega arith) (λ k. mod-lt (i / 16 ^ k / 4) (omega arith)) k l)
    (digit_back 4 4 (λ k. i / 16 ^ k % 4) (omega arith) (λ k. mod-lt (i / 16 ^ k) (omega arith)) k l)
    ∙ both (i / 16 ^ k))
    ∙ spelt_digits 16 4 i (omega arith) h

pub dots_placed : DotsPlaced
dots_placed = record {
  column = λ x y p q. column x y p;
  row = λ x y p q. row x y q;
  within = λ x y. spelt_below 16 4 (pair x y) (pair_below x y);
  back = back;
}

pub strips_placed : StripsPlaced
strips_placed = record { column = strip_column; row = strip_row; within = λ x y l m. omega arith; back = strip_back }
  where
    strip_column : (x y : ℕ) → x < 256 → 32 * (strip_index x y % 8) + x % 32 ≡ x
    strip_column x y l = omega arith

    strip_row : (x y : ℕ) → x < 256 → strip_index x y / 8 ≡ y
    strip_row x y l = omega arith

    strip_back : (i b : ℕ) → b < 32 → strip_index (32 * (i % 8) + b) (i / 8) ≡ i
    strip_back i b l = omega arith
