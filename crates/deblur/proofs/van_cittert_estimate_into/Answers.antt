-- `deblur::van_cittert_estimate_into` meets its contract, where the settings are refused.
use Rattle.std.proofs.Common.{rules, sym}
use Rattle.image.proofs.Call.{decided_accepts}
use Rattle.deblur.specs.Refusal.{estimate_refusal}
use Rattle.deblur.specs.Settings.{restoration_of}
use Rattle.deblur.proofs.Calls.{settings_refused, refused_told}
use Rattle.deblur.proofs.Conditions.{restoration_directed}
use Rattle.deblur.proofs.van_cittert_estimate_into.Goals as goal

pub returns-in_err-plan : goal.returns-in_err-plan
unfolding estimate_refusal
returns-in_err-plan c =
    let src = c.args.src in
    refused_told _ _ _ _ c.in_err-plan.field-0.0
    (settings_refused (restoration_of c.args.config) src.width src.height _ _ _
    (restoration_directed c.args.config src.width src.height)
    (decided_accepts _ _ _ (sym c.in_ok-check.ensures.number)).0 c.in_err-plan.ensures.decided)
    (search rules)
