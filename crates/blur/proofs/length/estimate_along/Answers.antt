-- The records that the scan wrote are what the selection asks for.
use Rattle.std.proofs.Common.{sym, ◌∙◌, arith}
use Rattle.image.specs.View.{seen}
use Rattle.blur.proofs.ScanPlans.{stride_fits, plan_few}
use Rattle.blur.proofs.Estimate.{measured, numbers, selectable, length_is}
use Rattle.blur.proofs.length.estimate_along.Goals as goal

pub returns-then-too_little : goal.returns-then-too_little
returns-then-too_little c =
    measured (seen c.args.src) _ _ _ _ _ (rw c.layout.ensures at c.in_ok-check_length.ensures.number)
    (rw (sym c.too_little.ensures ∙ c.if-too_little.true))

pub scan_plan-plan-requires : goal.scan_plan-plan-requires
scan_plan-plan-requires c =
    let a = rw c.layout.ensures at c.in_ok-check_length.ensures.accepted in
    let l = a.picture in (
      record {
        some_columns = l.width_pos;
        some_rows = l.height_pos;
        few_columns = l.width_most;
        few_rows = l.height_most;
      },
      omega (arith, l.width_pos, l.stride_least),
      stride_fits (seen c.args.src) l c.args.config (sym c.too_little.ensures ∙ c.if-too_little.false) c.ranges.src.0,
    )

pub fill-scan-requires-clause-enough : goal.fill-scan-requires-clause-enough
fill-scan-requires-clause-enough c =
    let a = rw c.layout.ensures at c.in_ok-check_length.ensures.accepted in
    rw c.scan_plan-plan.ensures (omega (
      arith,
      a.records_least,
      plan_few (seen c.args.src) a.picture c.args.direction c.args.config,
    ))

pub opened-requires : goal.opened-requires
opened-requires c =
    let a = rw c.layout.ensures at c.in_ok-check_length.ensures.accepted in
    numbers (seen c.args.src) a.picture c.args.direction c.args.config _ _
    (rw c.scan_plan-plan.ensures at c.fill-scan.ensures)

pub select-requires : goal.select-requires
select-requires c =
    let a = rw c.layout.ensures at c.in_ok-check_length.ensures.accepted in
    selectable (seen c.args.src) a.picture c.args.direction c.args.config _ _
    (rw c.scan_plan-plan.ensures at c.fill-scan.ensures) _ c.opened.ensures

pub returns : goal.returns
returns c =
    let a = rw c.layout.ensures at c.in_ok-check_length.ensures.accepted in
    measured (seen c.args.src) _ _ _ _ _ (rw c.layout.ensures at c.in_ok-check_length.ensures.number)
    (c.select.ensures
    ∙ length_is (seen c.args.src) a.picture c.args.direction c.args.config _ _
    (rw c.scan_plan-plan.ensures at c.fill-scan.ensures) (sym c.too_little.ensures ∙ c.if-too_little.false))
