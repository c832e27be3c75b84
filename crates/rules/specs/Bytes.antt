-- The bytes of views: a header, and rows.
--
--   colour    the flat dots on paper, as a binary PPM (P6): three bytes a dot
--   mask      the frisket, as a binary PBM (P4): eight dots a byte, the leftmost highest, 1 protected, spare bits 0
--   written   what a buffer holds after some bytes were written to its start
use Rattle.std.specs.Prelude.{ℕ, zero, suc, ◌+◌, ◌*◌, ◌/◌, ◌%◌, cond, List, [], ◌∷◌, ◌++◌, map, length, drop, nat_lt}
use Rattle.std.specs.List.{flat_map}
use Rattle.rules.specs.Lists.{below, binary}
use Rattle.rules.specs.Dots.{Dot, on_paper}
use Rattle.rules.specs.Sheets.{Sheet}
use Rattle.rules.specs.Pictures.{flat_dot}

-- the two kinds of view
pub data Kind : Type 0 where
  colour : Kind
  mask : Kind

-- the decimal digits of a number below 10 ^ places, as text, without leading zeros
abbrev pub decimal_in : ℕ → ℕ → List ℕ
decimal_in zero n = []
decimal_in (suc places) n = cond (nat_lt n 10) ((48 + n) ∷ []) (decimal_in places (n / 10) ++ ((48 + n % 10) ∷ []))

-- a width or a height as text
abbrev pub decimal : ℕ → List ℕ
decimal n = decimal_in 3 n

-- P6, LF, width, space, height, LF, 255, LF for colour; P4, LF, width, space, height, LF for a mask
abbrev pub header : Kind → ℕ → ℕ → List ℕ
header colour w h = (80 ∷ 54 ∷ 10 ∷ []) ++ decimal w ++ (32 ∷ []) ++ decimal h ++ (10 ∷ 50 ∷ 53 ∷ 53 ∷ 10 ∷ [])
header mask w h = (80 ∷ 52 ∷ 10 ∷ []) ++ decimal w ++ (32 ∷ []) ++ decimal h ++ (10 ∷ [])

-- the three bytes of a dot on paper
abbrev pub paper_bytes : Dot → List ℕ
paper_bytes d = on_paper d.red d ∷ on_paper d.green d ∷ on_paper d.blue d ∷ []

-- byte k of row y of the frisket; off the sheet nothing is protected, so spare bits are 0
abbrev pub mask_byte : Sheet → ℕ → ℕ → ℕ
mask_byte s y k = binary 8 (λ b. s.protected (8 * k + b) y)

-- the bytes of row y of a view of a sheet of width w
abbrev pub row_bytes : Kind → ℕ → Sheet → ℕ → List ℕ
row_bytes colour w s y = flat_map (λ x. paper_bytes (flat_dot s x y)) (below w)
row_bytes mask w s y = map (mask_byte s y) (below ((w + 7) / 8))

-- bytes past those written keep their contents
abbrev pub written : List ℕ → List ℕ → List ℕ
written bytes buffer = bytes ++ drop (length bytes) buffer
