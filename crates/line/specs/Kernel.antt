-- What the restoration of one line asks and does (document 01, "Restoration and line unsharp"). A line's scratch has
-- three parts of n: the observed samples B at 0..n, the estimate Yk at n..2n, the mean of Yk at 2n..3n.
use Rattle.std.specs.Prelude.{◌≡◌, List, ℕ, zero, suc, ◌+◌, ◌-◌, ◌*◌, ◌/◌, ◌≤◌, ◌<◌, max, ℤ, pos, negsuc, nat_abs, ◌+ℤ◌, length, get_or}
use Rattle.std.proofs.Math.IntN.{sub_ℕ}
use Rattle.numbers.specs.Sum.{total}
use Rattle.numbers.specs.Written.{Written, part}
use Rattle.floats.specs.Factor.{scale, max_relaxation, max_gain}
use Rattle.image.specs.Refusal.{max_side}
use Rattle.raster.specs.Border.{border_map, border_value}
use Rattle.raster.specs.declared.border.BorderSample.{BorderSample}
use Rattle.line.specs.declared.kernel.LineKernel.{LineKernel}
use Rattle.line.specs.declared.mean.MeanSettings.{MeanSettings}
use Rattle.line.specs.Iteration.{step_from}
use Rattle.line.specs.Line.{sample, window, mean, after}

-- ---- the limits of a filter along lines

abbrev pub max_iterations : ℕ
max_iterations = 22

-- the longest blur of a picture
abbrev pub max_blur_length : ℕ → ℕ → ℕ
max_blur_length width height = 2 * max width height + 1

-- .. and of any picture
abbrev pub longest_blur : ℕ
longest_blur = max_blur_length max_side max_side

-- ---- one line

-- a line of 1 to `max_side` pixels, the first at start, each step behind the one before it, and three parts of scratch
pub record LineAsked (data_len start step n scratch_len : ℕ) : Type 0 where
  pub some : 1 ≤ n
  pub short : n ≤ max_side
  pub reached : start + (n - 1) * step < data_len
  pub room : 3 * n ≤ scratch_len

-- The settings that the calls accept. A gain is of one iteration.
pub record KernelAsked (k : LineKernel) : Type 0 where
  pub long : 1 ≤ k.blur_length
  pub bounded : k.blur_length ≤ longest_blur
  pub iterated : k.iterations ≤ max_iterations
  pub gain : k.q ≤ max_gain * scale
  pub relaxation : 1 < k.iterations → k.q ≤ max_relaxation * scale

-- the samples of a line of bytes
abbrev pub bytes_on : List ℕ → ℕ → ℕ → ℕ → ℤ
bytes_on bytes start step i = pos (get_or bytes (start + i * step) 0)

-- the part of the scratch from a on, as a line
abbrev pub line_at : ℕ → List ℤ → ℕ → ℤ
line_at a scratch i = get_or scratch (a + i) (pos 0)

-- the estimate after k iterations from the observed samples b, on a line of n
abbrev pub estimate_after : LineKernel → ℕ → (ℕ → ℤ) → ℕ → ℕ → ℤ
estimate_after K n b k = after (border_map K.border n) b K.q K.blur_length k

-- the estimate part holds the last estimate
abbrev pub LineRestored : List ℕ → ℕ → ℕ → ℕ → LineKernel → List ℤ → Type 0
LineRestored bytes start step n K scratch =
    (i : ℕ) → i < n → line_at n scratch i ≡ estimate_after K n (bytes_on bytes start step) K.iterations i

-- ---- its parts: gathering, and one iteration

-- observed samples and estimate both hold f
pub record Gathered (f : ℕ → ℤ) (n : ℕ) (scratch : List ℤ) : Type 0 where
  pub observed : (i : ℕ) → i < n → line_at 0 scratch i ≡ f i
  pub estimate : (i : ℕ) → i < n → line_at n scratch i ≡ f i

-- the scratch holds the observed samples b and the estimate after k iterations
pub record Iterated (K : LineKernel) (n : ℕ) (b : ℕ → ℤ) (k : ℕ) (scratch : List ℤ) : Type 0 where
  pub observed : (i : ℕ) → i < n → line_at 0 scratch i ≡ b i
  pub estimate : (i : ℕ) → i < n → line_at n scratch i ≡ estimate_after K n b k i

-- what iteration k + 1 asks: the observed samples are bytes, and the estimate is the one after k iterations from them
pub record IterationAsked (K : LineKernel) (n k : ℕ) (scratch : List ℤ) : Type 0 where
  pub some : 1 ≤ n
  pub short : n ≤ max_side
  pub room : 3 * n ≤ length scratch
  pub taken : KernelAsked K
  pub more : k < K.iterations
  pub bytes : (i : ℕ) → i < n → nat_abs (line_at 0 scratch i) ≤ 255
  pub iterated : Iterated K n (line_at 0 scratch) k scratch

-- ---- the mean

-- How large an estimate may be. Division by L is a multiplication by its reciprocal r (in units of 2^-42), right for
-- samples up to 2^18; r = 0 stands for a division, and 255 × (2^22 − 1) for what 21 iterations give.
abbrev pub largest : ℕ → ℕ
largest zero = 1069547265
largest (suc r) = 262144

pub record Reciprocal (L r : ℕ) : Type 0 where
  pub long : 1 ≤ L
  pub bounded : L ≤ longest_blur
  pub units : 0 < r → r ≡ 4398046511104 / L + 1

-- a line in the scratch whose mean is taken
pub record MeanAsked (s : MeanSettings) (scratch : List ℤ) : Type 0 where
  pub some : 1 ≤ s.n
  pub short : s.n ≤ max_side
  pub room : 3 * s.n ≤ length scratch
  pub value : border_value s.border ≤ 255
  pub divides : Reciprocal s.blur_length s.reciprocal
  pub small : (i : ℕ) → i < s.n → nat_abs (line_at s.n scratch i) ≤ largest s.reciprocal

-- the border map of its line
abbrev pub map_of : MeanSettings → ℤ → BorderSample
map_of s = border_map s.border s.n

-- the window of the estimate at place p
abbrev pub window_at : MeanSettings → List ℤ → ℕ → ℤ
window_at s scratch = window (map_of s) s.blur_length (line_at s.n scratch)

-- the sample of the estimate at the place u − L/2
abbrev pub sample_at : MeanSettings → List ℤ → ℕ → ℤ
sample_at s scratch u = sample (map_of s) (line_at s.n scratch) (sub_ℕ u (s.blur_length / 2))

-- the sum of the first u samples of the window at place 0
abbrev pub opening : MeanSettings → List ℤ → ℕ → ℤ
opening s scratch u = total (sample_at s scratch) 0 u

-- a border map of a line of n that has one sample before the line, and one behind it
pub record FlatBorder (n : ℕ) (m : ℤ → BorderSample) : Type 0 where
  pub before : (k : ℕ) → m (negsuc k) ≡ m (negsuc 0)
  pub behind : (k : ℕ) → n ≤ k → m (pos k) ≡ m (pos n)

-- a border map that comes again after that many places
pub record PeriodicBorder (period : ℕ) (m : ℤ → BorderSample) : Type 0 where
  pub some : 1 ≤ period
  pub again : (p : ℤ) → m (p +ℤ pos period) ≡ m p

-- the means from place a to place e (not included) are written
pub record MeansWritten (s : MeanSettings) (a e : ℕ) (old new : List ℤ) : Type 0 where
  pub written : Written (pos 0) (part (s.n + s.n + a) (e - a))
      (λ j. mean (map_of s) (line_at s.n old) s.blur_length (j - (s.n + s.n))) old new

-- ---- the step

-- what the step of one sample asks: a byte, a mean of at most 21 iterations, and a result that fits
pub record SampleStepAsked (y b m : ℤ) (q : ℕ) : Type 0 where
  pub byte : nat_abs b ≤ 255
  pub small : nat_abs m ≤ 1069547265
  pub gain : q ≤ max_gain * scale
  pub fits : nat_abs (step_from q b m y) < 2147483648

-- what the step of a line asks
pub record StepAsked (n q : ℕ) (scratch : List ℤ) : Type 0 where
  pub short : n ≤ max_side
  pub room : 3 * n ≤ length scratch
  pub each : (i : ℕ) → i < n → SampleStepAsked (line_at n scratch i) (line_at 0 scratch i) (line_at (n + n) scratch i) q

-- the first k samples of the estimate have gone one step
pub record LineStepped (n k q : ℕ) (old new : List ℤ) : Type 0 where
  pub written : Written (pos 0) (part n k)
      (λ j. step_from q (line_at 0 old (j - n)) (line_at (n + n) old (j - n)) (line_at n old (j - n))) old new
