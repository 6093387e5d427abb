-- The borders: their numbers in a record, and where the sample at a place of a line comes from.
use Rattle.std.specs.Prelude.{ℕ, ◌*◌, ◌-◌, ◌%◌, ◌≤◌, ◌<◌, min, Bool, ◌&&◌, cond, ◌≡◌, eqb, ltb, ℤ, pos, negsuc}
use Rattle.raster.specs.declared.border.LineBorderMode.{LineBorderMode}
use Rattle.raster.specs.declared.border.LineBorderMode.TheVariants.{Replicate, Reflect, Constant, Wrap}
use Rattle.raster.specs.declared.border.BorderSample.{BorderSample}
use Rattle.raster.specs.declared.border.BorderSample.TheVariants.{Inside, Outside}

-- ---- document 01, "The 32-byte record": a border's number and its value

-- 0 Replicate, 1 Reflect, 2 Constant; document 02, K2: Wrap "is value 3 in the record, with border value 0"
abbrev pub border_code : LineBorderMode → ℕ
border_code Replicate = 0
border_code Reflect = 1
border_code (Constant v) = 2
border_code Wrap = 3

-- 0 unless Constant
abbrev pub border_value : LineBorderMode → ℕ
border_value Replicate = 0
border_value Reflect = 0
border_value (Constant v) = v
border_value Wrap = 0

-- the border of a number and a value; a number that is no border's stands for Constant
abbrev pub border_from : ℕ → ℕ → LineBorderMode
border_from code value =
    cond (eqb code 0) Replicate (cond (eqb code 1) Reflect (cond (eqb code 3) Wrap (Constant value)))

-- whether a border has this number and this value
unfoldable pub is_border : ℕ → ℕ → Bool
is_border code value =
    eqb (border_code (border_from code value)) code && eqb (border_value (border_from code value)) value

-- ---- document 01, "Mean along a line": a place is an integer, and the line's own places are 0 to n − 1

-- p mod m, which lies in 0..m−1 for a negative p too (`negsuc k` is −(k + 1))
abbrev pub modℤ : ℤ → ℕ → ℕ
modℤ (pos k) m = k % m
modℤ (negsuc k) m = m - 1 - k % m

-- Replicate takes the nearer end
abbrev pub nearer : ℕ → ℤ → ℕ
nearer n (pos k) = min k (n - 1)
nearer n (negsuc k) = 0

-- Reflect takes p mod (2n − 2), folded, and 0 for n = 1
abbrev pub folded : ℕ → ℕ → ℕ
folded n r = cond (ltb r n) r (2 * n - 2 - r)

abbrev pub reflected : ℕ → ℤ → ℕ
reflected n p = cond (eqb n 1) 0 (folded n (modℤ p (2 * n - 2)))

-- Constant its value
abbrev pub constant : ℕ → ℕ → ℤ → BorderSample
constant v n (pos k) = cond (ltb k n) (Inside k) (Outside v)
constant v n (negsuc k) = Outside v

-- Wrap (document 02, K2) "takes place p mod n on the line"
unfoldable pub border_map : LineBorderMode → ℕ → ℤ → BorderSample
border_map Replicate n p = Inside (nearer n p)
border_map Reflect n p = Inside (reflected n p)
border_map (Constant v) n p = constant v n p
border_map Wrap n p = Inside (modℤ p n)

-- a place of a line of n, or a byte
abbrev pub Within : ℕ → BorderSample → Type 0
Within n (Inside i) = i < n
Within n (Outside v) = v ≤ 255

-- What the laws of lines ask of a border map m, whatever the border: its samples come from the line or are bytes, and
-- each place of the line is its own source.
pub record Lawful (n : ℕ) (m : ℤ → BorderSample) : Type 0 where
  pub range : (p : ℤ) → Within n (m p)
  pub inside : (k : ℕ) → k < n → m (pos k) ≡ Inside k
