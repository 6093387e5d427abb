-- `smear_run::text::put_refusal` meets its contract.
use Rattle.smear_run.proofs.Fronts.{one_digit, two_digits}
use Rattle.smear_run.proofs.text.put_refusal.Goals as goal

pub returns-then-number-lt10 : goal.returns-then-number-lt10
returns-then-number-lt10 c = rw (← c.number-number.ensures, one_digit _ c.if-number-lt10.true) c.put_text.ensures

pub returns : goal.returns
returns c = rw (← c.number-number.ensures, two_digits _ c.if-number-lt10.false) c.put_text-2.ensures
