-- A scan at a place: where the open line stands in the bytes, and the swings from there on, from what the scan of the
-- open line says.
use mathlib.Core.Path.{◌≡◌, refl, sym, ◌∙◌, ap, ap₂}
use mathlib.Core.List.{List, [], ◌∷◌}
use Prim.Native.Nat.{ℕ, ◌+◌, ◌-◌, ◌*◌, ◌^◌, ◌≤◌, ◌<◌}
use native.Mathlib.Omega.{arith}
use native.Mathlib.Decide.{dec_lt}
use lib.ListN.{length}
use borrow.Author.Tests.{lt-ltb}
use Rattle.std.specs.Prelude.{Option, Some, None}
use Rattle.image.specs.Call.{Gray8}
use Rattle.raster.specs.Lines.{scan_line_at}
use Rattle.swings.specs.declared.Swing.{Swing}
use Rattle.swings.specs.declared.scan.ScanPlan.{ScanPlan}
use Rattle.swings.specs.declared.scan.Place.{Place}
use Rattle.swings.specs.Line.{Lines, sample, lines_on, ValidPlan}
use Rattle.swings.specs.Swings.{line_swings, swings_from}
use Rattle.swings.specs.Scan.{remaining_on_line, line_on, Open, swings_at}
use Rattle.swings.proofs.Line.{line_is, line_within, sample_is}
use Rattle.swings.proofs.LineSwings.{swings_short, lines_none, lines_next, lines_found}
use Rattle.swings.proofs.SameSwings.{remaining_same}

module _ (src : Gray8) (c : ScanPlan) (valid : ValidPlan src c) where
  some_byte : 0 < length src.bytes
  some_byte = omega (arith, valid.laid.width_pos, valid.laid.len_least)

  -- ---- the open line
  module _ (p : Place) (o : Open src c p) where
    abbrev line : ℕ
    line = p.line - 1

    line-here : 0 < p.line → line_on src c line ≡ scan_line_at c.direction src.width src.height line
    line-here h = rw (lt-ltb line c.count (omega (arith, o.within))) refl

    abbrev Inside : ℕ → ℕ → Type 0
    Inside start n = (n ≤ 2 ^ 53) × (start + (n - 1) * c.step < length src.bytes)

    -- it lies in the bytes
    pub open_within : Inside p.start p.len
    open_within = go (dec_lt 0 p.line)
      where
        go : Dec (0 < p.line) → Inside p.start p.len
        go (yes h) =
            let i = line_is src c valid line (omega (arith, o.within)) in
            rw (o.start_is h, o.len_is h, line-here h) (
              omega (arith, i.short, valid.laid.width_most, valid.laid.height_most),
              line_within src c valid line (omega (arith, o.within)),
            )
        go (no h) = let s = o.shut (omega arith) in rw (s.1, s.2) (omega arith, omega (arith, some_byte))

    module _ (least : ℕ) where
      abbrev lines : Lines
      lines = lines_on src c

      abbrev own : ℕ → ℕ
      own = sample src.bytes p.start c.step

      -- what the scan says of its samples, of the pixels at its places
      remaining-here : (r : Option (Swing × ℕ)) → 0 < p.line
          → line_swings least c.pixel own p.len p.at ≡ remaining_on_line least c.pixel own p.len r
          → line_swings least c.pixel (lines.line line) (lines.len line) p.at ≡ remaining_on_line least c.pixel
          (lines.line line) (lines.len line) r
      remaining-here r h e =
          remaining_same least c.pixel (lines.len line) p.at r
          (sample_is src c valid line (omega (arith, o.within)))
          (rw (o.start_is h, o.len_is h, line-here h) at e)

      -- a swing is on an open line
      pub found_open : (s : Swing) (b : ℕ)
          → line_swings least c.pixel own p.len p.at ≡ remaining_on_line least c.pixel own p.len (Some (s, b))
          → 0 < p.line
      found_open s b e = go (dec_lt 0 p.line)
        where
          go : Dec (0 < p.line) → 0 < p.line
          go (yes h) = h
          go (no h) = absurd (omega (
            arith,
            ap length (sym
                (swings_short least c.pixel own p.len p.at (omega (arith, (o.shut (omega arith)).2))) ∙ e),
          ))

      pub found_here : (s : Swing) (b : ℕ)
          → line_swings least c.pixel own p.len p.at ≡ remaining_on_line least c.pixel own p.len (Some (s, b))
          → swings_at least c.pixel lines p ≡ s ∷ swings_at least c.pixel lines
          (record { start = p.start; len = p.len; at = b; line = p.line })
      found_here s b e =
          let h = found_open s b e in
          lines_found least c.pixel lines line p.at b s (omega (arith, o.within)) (remaining-here (Some (s, b)) h e)

      -- without one they are those from the next line on
      none_here : line_swings least c.pixel own p.len p.at ≡ remaining_on_line least c.pixel own p.len None
          → swings_at least c.pixel lines p ≡ swings_from least c.pixel lines p.line 0 (c.count - p.line)
      none_here e = go (dec_lt 0 p.line)
        where
          from : ℕ → ℕ → List Swing
          from k a = swings_from least c.pixel lines k a (c.count - k)

          go : Dec (0 < p.line) → from line p.at ≡ from p.line 0
          go (yes h) =
              let next : line + 1 ≡ p.line = omega arith in
              lines_next least c.pixel lines line p.at (omega (arith, o.within)) (remaining-here None h e)
              ∙ ap (λ (k : ℕ). from k 0) next
          go (no h) =
              let next : line ≡ p.line = omega arith in
              ap₂ from next (o.shut (omega arith)).0

      module _ (e : line_swings least c.pixel own p.len p.at ≡ remaining_on_line least c.pixel own p.len None) where
        -- .. opened
        pub next_here : (q : Place) → q.line ≡ p.line + 1 → q.at ≡ 0
            → swings_at least c.pixel lines p ≡ swings_at least c.pixel lines q
        next_here q f g =
            let back : p.line ≡ q.line - 1 = omega arith in
            none_here e ∙ ap₂ (λ (k a : ℕ). swings_from least c.pixel lines k a (c.count - k)) back (sym g)

        -- after the last line there is none
        pub none_left : c.count ≤ p.line → swings_at least c.pixel lines p ≡ []
        none_left h = none_here e ∙ lines_none least c.pixel lines p.line 0 h

-- an open line is scanned on from sample b
pub opened_on : (src : Gray8) (c : ScanPlan) (p : Place) (b : ℕ) → Open src c p → 0 < p.line
    → Open src c (record { start = p.start; len = p.len; at = b; line = p.line })
opened_on src c p b o h =
    record { within = o.within; shut = λ z. absurd (omega arith); start_is = o.start_is; len_is = o.len_is }
