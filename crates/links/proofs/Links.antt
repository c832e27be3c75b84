-- The chain through the free blocks, when words are written.
use Rattle.std.proofs.Common.{◌≡◌, ℕ, zero, suc, ◌+◌, ◌-◌, ◌*◌, ◌<◌, ◌≤◌, ◌≢◌, List, ◌∷◌, length, get_or, set, sym, refl, ap, ◌∙◌, add-one, arith}
use Rattle.std.specs.List.{range_with_len}
use Rattle.std.proofs.lemmas.List.{get_or-set_other}
use Rattle.layout.specs.Layout.{Claimed}
use Rattle.links.specs.Chain.{chain}

pub length_chain : (ws : List ℕ) (t n : ℕ) → length (chain ws t n) ≡ n
length_chain ws t zero = refl
length_chain ws t (suc n) = ap suc (length_chain ws (get_or ws (16 * t) 0) n)

-- the first number and the rest
pub chain_more : (ws : List ℕ) (t n : ℕ) → chain ws t (n + 1) ≡ t ∷ chain ws (get_or ws (16 * t) 0) n
chain_more ws t n = ap (chain ws t) (add-one n)

pub chain_first : (ws : List ℕ) (t n : ℕ) → 0 < n → chain ws t n ≡ t ∷ chain ws (get_or ws (16 * t) 0) (n - 1)
chain_first ws t n l = let e : n ≡ (n - 1) + 1 = omega arith in ap (chain ws t) e ∙ chain_more ws t (n - 1)

-- a chain stays where the first words of its blocks do
pub chain_same : (ws ws' : List ℕ) (t n : ℕ) → ((k : ℕ) → k < n → get_or ws' (16 * get_or (chain ws t n) k 0) 0 ≡ get_or ws (16 * get_or (chain ws t n) k 0) 0) → chain ws' t n ≡ chain ws t n
chain_same ws ws' t zero h = refl
chain_same ws ws' t (suc n) h =
    ap (λ (x : ℕ). t ∷ chain ws' x n) (h 0 (omega arith))
    ∙ ap (λ (os : List ℕ). t ∷ os) (chain_same ws ws' (get_or ws (16 * t) 0) n (λ k l. h (suc k) (omega arith)))

-- a word of a block that is not on the chain
pub chain_set : (ws : List ℕ) (t n b i w : ℕ) → i < 16 → ((k : ℕ) → k < n → get_or (chain ws t n) k 0 ≢ b) → chain (set ws (16 * b + i) w) t n ≡ chain ws t n
chain_set ws t n b i w l h =
    chain_same ws (set ws (16 * b + i) w) t n (λ k m.
    let c = get_or (chain ws t n) k 0 in
    let d : 16 * c ≢ 16 * b + i = λ e. h k m (omega arith) in
    get_or-set_other ws (16 * b + i) (16 * c) w 0 d)

-- a block that is not on the chain put out
pub chain_claimed : (ws hs ws' hs' : List ℕ) (t n b : ℕ) → Claimed ws hs b ws' hs' → ((k : ℕ) → k < n → get_or (chain ws t n) k 0 ≢ b) → chain ws' t n ≡ chain ws t n
chain_claimed ws hs ws' hs' t n b f h =
    chain_same ws ws' t n (λ k m.
    let c = get_or (chain ws t n) k 0 in
    let e : 16 * c ≡ 16 * c + 0 = omega arith in
    ap (λ (x : ℕ). get_or ws' x 0) e ∙ f.others_words c 0 (h k m) (omega arith) ∙ ap (λ (x : ℕ). get_or ws x 0) (sym e))

-- each block followed by the next
pub chain_counting : (ws : List ℕ) (t n : ℕ) → ((k : ℕ) → t ≤ k → k < t + n → get_or ws (16 * k) 0 ≡ k + 1) → chain ws t n ≡ range_with_len t n
chain_counting ws t zero h = refl
chain_counting ws t (suc n) h =
    ap (λ (x : ℕ). t ∷ chain ws x n) (h t (omega arith) (omega arith))
    ∙ ap (λ (os : List ℕ). t ∷ os) (chain_counting ws (t + 1) n (λ k a l. h k (omega arith) (omega arith)))
