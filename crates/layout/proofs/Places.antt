-- What the answers of a slab tell.
use Rattle.std.proofs.Common.{◌≡◌, ℕ, ◌+◌, ◌*◌, ◌<◌, true, false, eqb, ltb, Ok, arith}
use Rattle.std.proofs.lemmas.Bool.Decides.{nat_tests}
use Rattle.block.specs.Blocks.{Blocks, is_free}
use Rattle.block.specs.Calls.{refused_if}
use Rattle.block.proofs.Answered.{accepted, same_value, free_false}
use Rattle.layout.specs.Layout.{place_answer, release_tells}

-- a word that has a place is one of a block that is out
pub placed : (m : Blocks) (b i k : ℕ) → Ok k ≡ place_answer m b i → (0 < m.holders b) × (i < 16) × (k ≡ 16 * b + i)
placed m b i k e =
    let a = accepted (is_free m b) 2 (refused_if (ltb 15 i) 4 (Ok (16 * b + i))) k e in
    let d = accepted (ltb 15 i) 4 (Ok (16 * b + i)) k a.1 in
    let t = d.0 in (free_false m b a.0, grind (arith, nat_tests), same_value k (16 * b + i) d.1)

-- a release that freed the block took its last holder
pub freed : (m : Blocks) (b : ℕ) → Ok true ≡ release_tells m b → m.holders b ≡ 1
freed m b e =
    let a = accepted (is_free m b) 2 (Ok (eqb (m.holders b) 1)) true e in
    let t = same_value true (eqb (m.holders b) 1) a.1 in grind (arith, nat_tests)

-- and one that did not left others
pub not_freed : (m : Blocks) (b : ℕ) → Ok false ≡ release_tells m b → 1 < m.holders b
not_freed m b e =
    let a = accepted (is_free m b) 2 (Ok (eqb (m.holders b) 1)) false e in
    let t = same_value false (eqb (m.holders b) 1) a.1 in
    let h = free_false m b a.0 in grind (arith, nat_tests)
