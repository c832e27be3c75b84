-- What an answer tells of the grounds on which it could have been refused.
use Rattle.std.proofs.Common.{◌≡◌, ℕ, ◌<◌, Bool, true, false, Ok, Result, refl, arith}
use Rattle.std.proofs.lemmas.Bool.Decides.{nat_tests}
use Rattle.block.specs.declared.refusals.Refusal.{Refusal}
use Rattle.block.specs.Blocks.{Blocks, is_free}
use Rattle.block.specs.Calls.{refused_if, holders_answer}

-- a call that was accepted was not refused
pub accepted : {A : Type 0} (t : Bool) (n : ℕ) (r : Result A Refusal) (x : A) → Ok x ≡ refused_if t n r → (t ≡ false) × (Ok x ≡ r)
accepted true n r x e = let z : ◌≡◌ {A = ℕ} 0 1 = cc in absurd (omega arith)
accepted false n r x e = (refl, e)

-- a test that fails refuses nothing
pub passed : {A : Type 0} (t : Bool) (n : ℕ) (r : Result A Refusal) → t ≡ false → r ≡ refused_if t n r
passed true n r e = let z : ◌≡◌ {A = Bool} true false = e in absurd (let y : ◌≡◌ {A = ℕ} 0 1 = cc in omega arith)
passed false n r e = refl

pub same_value : {A : Type 0} (x y : A) → ◌≡◌ {A = Result A Refusal} (Ok x) (Ok y) → x ≡ y
same_value x y e = cc

pub free_false : (m : Blocks) (b : ℕ) → is_free m b ≡ false → 0 < m.holders b
free_false m b e = grind (arith, nat_tests)

pub held_false : (m : Blocks) (b : ℕ) → 0 < m.holders b → is_free m b ≡ false
held_false m b l = grind (arith, nat_tests)

-- a block whose holders were counted is out
pub holders_told : (m : Blocks) (b x : ℕ) → Ok x ≡ holders_answer m b → (0 < m.holders b) × (x ≡ m.holders b)
holders_told m b x e = let a = accepted (is_free m b) 2 (Ok (m.holders b)) x e in (free_false m b a.0, same_value x (m.holders b) a.1)
