use Rattle.std.proofs.Common.{◌≡◌, ℕ, ◌*◌, ◌/◌, ◌%◌, ◌^◌, ◌<◌, length, get_or, set, bit_xor, ap, ◌∙◌, arith}
use Rattle.std.proofs.lemmas.Nat.{one_shl}
use Rattle.marks.specs.Map.{mark}
use Rattle.marks.proofs.Marked.{mark_turned, mark_other}
use Rattle.map_store.proofs.bit_map.BitMap.turn.Goals as goal

pub returns-then-at-lt512 : goal.returns-then-at-lt512
returns-then-at-lt512 c =
    let ms = c.args.self.now.words in
    let b = c.args.b in
    let l : b / 32 < length ms = omega arith in
    let e : (1 * 2 ^ (b % 32)) % 4294967296 ≡ 2 ^ (b % 32) = one_shl (b % 32) 32 (omega arith) in
    record {
      turned = λ _. ap (λ (x : ℕ). mark (set ms (b / 32) (bit_xor (get_or ms (b / 32) 0) x)) b) e ∙ mark_turned ms b l;
      others = λ k ne. ap (λ (x : ℕ). mark (set ms (b / 32) (bit_xor (get_or ms (b / 32) 0) x)) k) e ∙ mark_other ms b k l ne;
    }
