-- The line filters are given each number in its condition and otherwise never (`restoration_exactly`,
-- `unsharp_exactly`, `estimate_exactly`), and 0 exactly where they are accepted (`filter_iff`, `estimate_iff`), their
-- settings included (`restoration_iff`, `unsharp_iff`), and never as a refusal (`filter_never_0`, `estimate_never_0`).
use Prim.Native.Nat.{ℕ, ◌*◌, ◌%◌}
use mathlib.Core.Bool.{Bool, true, false, not}
use mathlib.Core.List.{List}
use mathlib.Core.Logic.{◌↔◌}
use mathlib.Core.Path.{◌≡◌, ap}
use borrow.Author.Tests.{le-ltb, not-true}
use lib.Ieee.{Float}
use lib.ListN.{length}
use Rattle.floats.specs.Factor.{max_relaxation, max_gain, within}
use Rattle.image.specs.Call.{Gray8, refuses, number_of}
use Rattle.image.specs.Conditions.{Refusal, FirstMatch, Exactly}
use Rattle.image.proofs.Conditions.{Numbered, match_none, match_test, match_unless, not_given, match_then, exactly}
use Rattle.image.proofs.Conditions.{layout_matches, layout_numbered, pair_matches, pair_numbered}
use Rattle.image.proofs.Pair.{accepted_pair}
use Rattle.image.specs.Refusal.{pair_refusal}
use Rattle.std.specs.Prelude.{Option, is_some}
use Rattle.raster.specs.declared.direction.RasterDirection4.{RasterDirection4}
use Rattle.raster.proofs.Snapped.{not_found_iff}
use Rattle.line.specs.Kernel.{max_iterations, max_blur_length}
use Rattle.numbers.proofs.Test.{eqb_iff, ltb_iff, or_iff}
use Rattle.deblur.specs.declared.VanCittertConfig.{VanCittertConfig}
use Rattle.deblur.specs.declared.DirectionalUnsharpConfig.{DirectionalUnsharpConfig}
use Rattle.deblur.specs.Calls.{decided_along, filter_decision, estimate_decision}
use Rattle.deblur.specs.Conditions.{
  line_conditions,
  factor_conditions,
  iterated_conditions,
  restoration_conditions,
  unsharp_conditions,
  filter_conditions,
  estimate_conditions,
}
use Rattle.deblur.specs.Refusal.{
  scratch_needed,
  blur_length_refusal,
  factor_refusal,
  iterations_refusal,
  line_refusal,
  iterated_refusal,
  restoration_refusal,
  unsharp_refusal,
  in_order,
  filter_refusal,
  estimate_refusal,
  RestorationTaken,
  UnsharpTaken,
  FilterAccepted,
  EstimateAccepted,
}
use Rattle.deblur.specs.Settings.{LineFilter, restoration_of, unsharp_of}
use Rattle.deblur.proofs.Decided.{number_along, never_0}
use Rattle.deblur.proofs.Refusals.{first_0, line_0, factor_0, iterated_0, restoration_taken, unsharp_taken}
use Rattle.deblur.proofs.Refusals.{order_0, order_ten, filter_accepted, estimate_accepted, accepted_estimate}

-- ---- the settings

not_iff : (t : Bool) → (not t ≡ true) ↔ (t ≡ false)
not_iff t = (not-true t, λ e. ap not e)

line_matches : (width height L : ℕ) (angle : Float)
    → FirstMatch (line_conditions width height L angle) (line_refusal width height L angle)
unfolding blur_length_refusal
line_matches width height L angle =
    match_then
    (match_test 7 match_none
    (or_iff _ _ (or_iff _ _ (ltb_iff L 3) (eqb_iff (L % 2) 0)) (ltb_iff (max_blur_length width height) L)))
    (tt, tt)
    (match_unless 7 match_none (not_found_iff angle))

factor_matches : (limit : ℕ) (factor : Float)
    → FirstMatch (factor_conditions limit factor) (factor_refusal limit factor)
unfolding factor_refusal
factor_matches limit factor = match_test 8 match_none (not_iff (within limit factor))

pub iterated_matches : (relaxation : Float) (iterations : ℕ)
    → FirstMatch (iterated_conditions relaxation iterations) (iterated_refusal relaxation iterations)
unfolding iterations_refusal
iterated_matches relaxation iterations =
    match_then (factor_matches max_relaxation relaxation) (tt, tt)
    (match_test 8 (match_test 9 match_none (ltb_iff max_iterations iterations)) (eqb_iff iterations 0))

module _ (width height : ℕ) where
  restoration-matches : (config : VanCittertConfig)
      → FirstMatch (restoration_conditions width height config) (restoration_refusal width height config)
  restoration-matches config =
      match_then (line_matches width height config.blur_length config.theta_radians) (tt, (tt, tt))
      (iterated_matches config.relaxation config.iterations)

  restoration-numbered : (config : VanCittertConfig) → Numbered (restoration_conditions width height config)
  restoration-numbered config = (tt, (tt, (tt, (tt, (tt, tt)))))

  unsharp-matches : (config : DirectionalUnsharpConfig)
      → FirstMatch (unsharp_conditions width height config) (unsharp_refusal width height config)
  unsharp-matches config =
      match_then (line_matches width height config.blur_length config.theta_radians) (tt, (tt, tt))
      (factor_matches max_gain config.gain)

  unsharp-numbered : (config : DirectionalUnsharpConfig) → Numbered (unsharp_conditions width height config)
  unsharp-numbered config = (tt, (tt, (tt, tt)))

  pub restoration_iff : (config : VanCittertConfig)
      → (restoration_refusal width height config ≡ 0) ↔ RestorationTaken width height config
  restoration_iff config = (
    restoration_taken width height config,
    λ t. first_0 (line_0 width height config.theta_radians t.length_taken t.direction_found)
        (iterated_0 config.relaxation config.iterations t.relaxation_taken t.iterations_taken),
  )

  pub unsharp_iff : (config : DirectionalUnsharpConfig)
      → (unsharp_refusal width height config ≡ 0) ↔ UnsharpTaken width height config
  unsharp_iff config = (
    unsharp_taken width height config,
    λ t. first_0 (line_0 width height config.theta_radians t.length_taken t.direction_found)
        (factor_0 max_gain config.gain t.gain_taken),
  )

  -- no settings give 10
  pub restoration_other : (config : VanCittertConfig) → restoration_refusal width height config ≡ 10 → ⊥
  restoration_other config = not_given (restoration-matches config) 10 (tt, (tt, (tt, (tt, (tt, tt)))))

  pub unsharp_other : (config : DirectionalUnsharpConfig) → unsharp_refusal width height config ≡ 10 → ⊥
  unsharp_other config = not_given (unsharp-matches config) 10 (tt, (tt, (tt, tt)))

-- ---- the calls

along_exactly : {rs : List Refusal} {n : ℕ} → FirstMatch rs n → (s : Option RasterDirection4)
    → Exactly rs (number_of (decided_along n s))
along_exactly m s = exactly (rw (number_along _ s) m)

module _ (src : Gray8) (f : LineFilter) (settings : List Refusal)
    (m : FirstMatch settings (f.refusal src.width src.height)) (ok : Numbered settings) (scratch_len : ℕ) where
  abbrev len : ℕ
  len = length src.bytes

  abbrev w : ℕ
  w = src.width

  abbrev h : ℕ
  h = src.height

  filter-exactly : (dst : Gray8)
      → Exactly
      (filter_conditions len w h src.stride (length dst.bytes) dst.width dst.height dst.stride settings
      scratch_len)
      (number_of (filter_decision src dst f scratch_len))
  unfolding filter_refusal
  filter-exactly dst =
      along_exactly
      (match_then
      (pair_matches len w h src.stride (length dst.bytes) dst.width dst.height dst.stride)
      (pair_numbered len w h src.stride (length dst.bytes) dst.width dst.height dst.stride)
      (match_then m ok (match_test 10 match_none (ltb_iff scratch_len (scratch_needed w h)))))
      f.direction

  estimates-exactly : (dst_len : ℕ)
      → Exactly (estimate_conditions len w h src.stride dst_len settings scratch_len)
      (number_of (estimate_decision src dst_len f scratch_len))
  unfolding estimate_refusal
  estimates-exactly dst_len =
      along_exactly
      (match_then (layout_matches len w h src.stride) (layout_numbered len w h src.stride)
      (match_then m ok
      (match_test 10 match_none (or_iff _ _ (ltb_iff dst_len (w * h)) (ltb_iff scratch_len (scratch_needed w h))))))
      f.direction

module _ (src : Gray8) where
  pub restoration_exactly : (dst : Gray8) (config : VanCittertConfig) (scratch_len : ℕ)
      → Exactly
      (filter_conditions (length src.bytes) src.width src.height src.stride (length dst.bytes)
      dst.width dst.height dst.stride (restoration_conditions src.width src.height config) scratch_len)
      (number_of (filter_decision src dst (restoration_of config) scratch_len))
  restoration_exactly dst config scratch_len =
      filter-exactly src (restoration_of config) (restoration_conditions src.width src.height config)
      (restoration-matches src.width src.height config)
      (restoration-numbered src.width src.height config) scratch_len dst

  pub unsharp_exactly : (dst : Gray8) (config : DirectionalUnsharpConfig) (scratch_len : ℕ)
      → Exactly
      (filter_conditions (length src.bytes) src.width src.height src.stride (length dst.bytes)
      dst.width dst.height dst.stride (unsharp_conditions src.width src.height config) scratch_len)
      (number_of (filter_decision src dst (unsharp_of config) scratch_len))
  unsharp_exactly dst config scratch_len =
      filter-exactly src (unsharp_of config) (unsharp_conditions src.width src.height config)
      (unsharp-matches src.width src.height config) (unsharp-numbered src.width src.height config)
      scratch_len dst

  pub estimate_exactly : (dst_len : ℕ) (config : VanCittertConfig) (scratch_len : ℕ)
      → Exactly
      (estimate_conditions (length src.bytes) src.width src.height src.stride dst_len
      (restoration_conditions src.width src.height config) scratch_len)
      (number_of (estimate_decision src dst_len (restoration_of config) scratch_len))
  estimate_exactly dst_len config scratch_len =
      estimates-exactly src (restoration_of config) (restoration_conditions src.width src.height config)
      (restoration-matches src.width src.height config)
      (restoration-numbered src.width src.height config) scratch_len dst_len

-- 10 of a call on two pictures is for what is lent alone
pub pair_ten : (len width height stride dst_len dst_width dst_height dst_stride settings : ℕ) (short : Bool)
    → (settings ≡ 10 → ⊥)
    → in_order (pair_refusal len width height stride dst_len dst_width dst_height dst_stride) settings short ≡ 10
    → (pair_refusal len width height stride dst_len dst_width dst_height dst_stride ≡ 0) × (short ≡ true)
pair_ten len width height stride dst_len dst_width dst_height dst_stride settings short =
    order_ten (pair_refusal len width height stride dst_len dst_width dst_height dst_stride) settings short
    (not_given (pair_matches len width height stride dst_len dst_width dst_height dst_stride) 10
    (tt, (tt, (tt, (tt, (tt, (tt, tt)))))))

module _ (len width height stride dst_len settings scratch_len : ℕ) where
  pub filter_iff : (dst_width dst_height dst_stride : ℕ)
      → (filter_refusal len width height stride dst_len dst_width dst_height dst_stride settings scratch_len ≡ 0)
      ↔ FilterAccepted len width height stride dst_len dst_width dst_height dst_stride settings scratch_len
  unfolding filter_refusal
  filter_iff dst_width dst_height dst_stride = (
    filter_accepted len width height stride dst_len dst_width dst_height dst_stride settings scratch_len,
    λ a. order_0 _ settings _ (accepted_pair a.pictures) a.settings_taken
        (le-ltb scratch_len (scratch_needed width height) a.scratch_least),
  )

  pub estimate_iff : (estimate_refusal len width height stride dst_len settings scratch_len ≡ 0)
      ↔ EstimateAccepted len width height stride dst_len settings scratch_len
  estimate_iff = (
    estimate_accepted len width height stride dst_len settings scratch_len,
    accepted_estimate len width height stride dst_len settings scratch_len,
  )

-- ---- settings that are not refused have a direction, so that no call is refused with 0

abbrev Directed : LineFilter → Type 0
Directed f = (width height : ℕ) → f.refusal width height ≡ 0 → is_some f.direction ≡ true

pub restoration_directed : (config : VanCittertConfig) → Directed (restoration_of config)
restoration_directed config width height e = (restoration_taken width height config e).direction_found

pub unsharp_directed : (config : DirectionalUnsharpConfig) → Directed (unsharp_of config)
unsharp_directed config width height e = (unsharp_taken width height config e).direction_found

module _ (src : Gray8) (f : LineFilter) (directed : Directed f) (scratch_len : ℕ) where
  pub filter_never_0 : (dst : Gray8) → filter_decision src dst f scratch_len ≡ refuses 0 → ⊥
  filter_never_0 dst =
      never_0 _ f.direction (λ e. directed _ _ (filter_accepted _ _ _ _ _ _ _ _ _ _ e).settings_taken)

  pub estimate_never_0 : (dst_len : ℕ) → estimate_decision src dst_len f scratch_len ≡ refuses 0 → ⊥
  estimate_never_0 dst_len =
      never_0 _ f.direction (λ e. directed _ _ (estimate_accepted _ _ _ _ _ _ _ e).settings_taken)
