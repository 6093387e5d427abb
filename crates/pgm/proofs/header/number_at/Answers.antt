-- `pgm::header::number_at` meets its contract: value and rest come to the same at each turn.
use Rattle.std.proofs.Common.{◌≡◌, ◌+◌, ◌-◌, ◌*◌, drop, get_or, length-drop, sym, ◌∙◌, arith}
use lib.Seq.{take_all}
use Rattle.pgm.specs.Held.{cut}
use Rattle.pgm.proofs.Reading.{digits_on, behind_on, digits_stop, behind_stop, digits_end, behind_end}
use Rattle.pgm.proofs.Reading.{cut_most, cut_is, cut_digit, cut_done}
use Rattle.pgm.proofs.header.number_at.Goals as goal

pub returns-then-not-is_ascii_digit : goal.returns-then-not-is_ascii_digit
returns-then-not-is_ascii_digit c =
    let k = c.loop-i in
    let bytes = c.args.bytes.now in
    let other = sym c.is_ascii_digit.ensures.value ∙ c.if-not-is_ascii_digit.true in
    record {
      value =
          cut_done k.value _ k.invariant.small (digits_stop bytes k.i c.loop-i-test.true other)
          ∙ k.invariant.same_number;
      rest =
          take_all _ (drop k.i bytes) (omega (arith, length-drop k.i bytes))
          ∙ behind_stop bytes k.i c.loop-i-test.true other
          ∙ k.invariant.same_rest;
    }

pub loop-i-preserved : goal.loop-i-preserved
loop-i-preserved c =
    let k = c.loop-i in
    let bytes = c.args.bytes.now in
    let digit = sym c.is_ascii_digit.ensures.value ∙ c.if-not-is_ascii_digit.false in
    let is : c.min-value.result ≡ cut (10 * k.value + (get_or bytes k.i 0 - 48)) =
    c.min-value.ensures ∙ rw c.from.ensures (sym (cut_is _)) in
    record {
      small = rw is (cut_most _);
      same_number =
          rw is (cut_digit k.value _ _ _ (digits_on bytes k.i c.loop-i-test.true digit)) ∙ k.invariant.same_number;
      same_rest = behind_on bytes k.i c.loop-i-test.true digit ∙ k.invariant.same_rest;
    }

pub returns : goal.returns
returns c =
    let k = c.loop-i in
    let bytes = c.args.bytes.now in
    record {
      value =
          cut_done k.value _ k.invariant.small (digits_end bytes k.i k.auto.i-end c.loop-i-test.false)
          ∙ k.invariant.same_number;
      rest = behind_end bytes k.i k.auto.i-end c.loop-i-test.false ∙ k.invariant.same_rest;
    }
