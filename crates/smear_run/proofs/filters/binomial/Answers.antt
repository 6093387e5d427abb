-- `smear_run::filters::binomial` meets its contract.
use Rattle.std.proofs.Common.{ℕ, rules}
use Rattle.std.proofs.lemmas.Result.{err_from_is_err_and}
use lib.ListN.{length-replicate}
use Rattle.smear_run.proofs.Stages.{moved, binomial_refused, binomial_filtered}
use Rattle.smear_run.proofs.filters.binomial.Goals as goal

pub returns-in_err-fixed_binomial_unsharp_into : goal.returns-in_err-fixed_binomial_unsharp_into
returns-in_err-fixed_binomial_unsharp_into c =
    let p = err_from_is_err_and c.from_residual.result c.from_residual.ensures.1 in
    let o = c.fixed_binomial_unsharp_into.ensures in
    let o = rw (c.source-from.ensures, c.destination-to.ensures) at o in
    rw (p.1, p.2)
    (moved c.args.«record» (search rules)
    (binomial_refused c.args.«record» c.args.picture.now c.requires _ (length-replicate {A = ℕ} 4096 0)
    o c.in_err-fixed_binomial_unsharp_into.was))

pub returns : goal.returns
returns c =
    let o = c.fixed_binomial_unsharp_into.ensures in
    let o = rw (c.source-from.ensures, c.destination-to.ensures) at o in
    moved c.args.«record» (search rules)
    (binomial_filtered c.args.«record» c.args.picture.now c.requires _ (length-replicate {A = ℕ} 4096 0)
    o c.in_ok-fixed_binomial_unsharp_into.was)
