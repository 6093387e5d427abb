-- `smear_c::sheet::smear_summarize` meets its contract: the sheet in the first numbers.
use Rattle.std.proofs.Common.{sym}
use Rattle.smear_c.proofs.Outs.{sheet_given}
use Rattle.smear_c.proofs.sheet.smear_summarize.Goals as goal

pub returns-in-Ok : goal.returns-in-Ok
returns-in-Ok c =
    sheet_given _ c.args.sheet.now _ c.if-sheet-lt-NUMBERS.false _ (sym c.in-Ok.ensures) c.put_summary.ensures
