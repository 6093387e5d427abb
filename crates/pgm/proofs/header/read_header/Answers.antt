-- `pgm::header::read_header` meets its contract: three fields, one behind the other, and the white byte.
use Rattle.std.proofs.Common.{sym, ◌∙◌}
use Rattle.pgm.proofs.Headers.{is_mark, field_none, field_some}
use Rattle.pgm.proofs.Headers.{header_unmarked, header_no_width, header_no_height, header_no_maximum, header_fields}
use Rattle.pgm.proofs.Headers.{header_no_last, header_last}
use Rattle.pgm.proofs.header.read_header.Goals as goal

pub returns-in_err-fields : goal.returns-in_err-fields
returns-in_err-fields c =
    let file = c.args.file.now in
    rw c.from_residual.ensures (header_unmarked file (sym (is_mark file) ∙ c.in_err-fields.ensures.cases))

pub returns-in_err-width : goal.returns-in_err-width
returns-in_err-width c =
    let file = c.args.file.now in
    let mark = c.in_ok-fields.ensures.cases in
    let marked = sym (is_mark file) ∙ mark.0 in
    rw c.from_residual-in_err-width.ensures
    (header_no_width file marked (field_none mark.1 c.in_err-width.ensures))

pub returns-in_err-height : goal.returns-in_err-height
returns-in_err-height c =
    let file = c.args.file.now in
    let mark = c.in_ok-fields.ensures.cases in
    let marked = sym (is_mark file) ∙ mark.0 in
    let w = field_some mark.1 c.in_ok-width.ensures in
    rw c.from_residual-in_err-height.ensures
    (header_no_height file marked w.1.0 (field_none w.1.1.rest c.in_err-height.ensures))

pub returns-in_err-maximum : goal.returns-in_err-maximum
returns-in_err-maximum c =
    let file = c.args.file.now in
    let mark = c.in_ok-fields.ensures.cases in
    let marked = sym (is_mark file) ∙ mark.0 in
    let w = field_some mark.1 c.in_ok-width.ensures in
    let h = field_some w.1.1.rest c.in_ok-height.ensures in
    rw c.from_residual-in_err-maximum.ensures
    (header_no_maximum file marked w.1.0 h.1.0 (field_none h.1.1.rest c.in_err-maximum.ensures))

pub returns-in_err-behind_white : goal.returns-in_err-behind_white
returns-in_err-behind_white c =
    let file = c.args.file.now in
    let mark = c.in_ok-fields.ensures.cases in
    let marked = sym (is_mark file) ∙ mark.0 in
    let w = field_some mark.1 c.in_ok-width.ensures in
    let h = field_some w.1.1.rest c.in_ok-height.ensures in
    let m = field_some h.1.1.rest c.in_ok-maximum.ensures in
    rw (c.from_residual-in_err-behind_white.ensures, header_fields file marked w.1.0 h.1.0 m.1.0)
    (header_no_last w.1.1 h.1.1 m.1.1 c.in_err-behind_white.ensures)

pub returns : goal.returns
returns c =
    let file = c.args.file.now in
    let mark = c.in_ok-fields.ensures.cases in
    let marked = sym (is_mark file) ∙ mark.0 in
    let w = field_some mark.1 c.in_ok-width.ensures in
    let h = field_some w.1.1.rest c.in_ok-height.ensures in
    let m = field_some h.1.1.rest c.in_ok-maximum.ensures in
    rw (header_fields file marked w.1.0 h.1.0 m.1.0) (header_last w.1.1 h.1.1 m.1.1 _ c.in_ok-behind_white.ensures)
