-- `point_reader::read_term` meets its contract, by the laws of Term. Assumes nothing.
use mathlib.Core.Path.{sym, ◌∙◌}
use native.Mathlib.Omega.{arith}
use lib.Seq.{length-take-le}
use Rattle.point_reader.proofs.Term.{line_sound, line_refused, sound_spells, term_no_symbols, term_refused, term_unmarked, term_marks}
use Rattle.point_reader.proofs.read_term.Goals as goal

pub returns-in_err-p : goal.returns-in_err-p
returns-in_err-p c =
    rw c.from_residual.ensures (term_no_symbols _ _ _ _ _ c.requires.1 (rw c.in_err-p.was at c.read_symbols.ensures))

pub slice_bounds-check_line-end : goal.slice_bounds-check_line-end
slice_bounds-check_line-end c =
    sym (length-take-le c.args.m c.read_symbols.new.line (omega (arith, c.requires.1, c.read_symbols.ensures.long)))

pub returns-in_err-ok : goal.returns-in_err-ok
returns-in_err-ok c =
    let (k, e) = line_refused c.check_line.result (sym c.ok.ensures.value ∙ c.in_err-ok.was) in
    rw c.from_residual-in_err-ok.ensures (term_refused _ _ _ _ _ c.requires.1 (rw c.in_ok-p.was at c.read_symbols.ensures) k (sym c.check_line.ensures ∙ e))

pub load-requires : goal.load-requires
load-requires c =
    let e = line_sound c.check_line.result (sym c.ok.ensures.value ∙ c.in_ok-ok.was) in
    (c.requires.2, c.read_symbols.ensures.long, c.requires.1, sound_spells _ _ _ (sym c.check_line.ensures ∙ e))

pub read_marks-requires : goal.read_marks-requires
read_marks-requires c =
    let e = line_sound c.check_line.result (sym c.ok.ensures.value ∙ c.in_ok-ok.was) in (
      c.requires.0,
      c.requires.1,
      c.load.ensures.long,
      term_unmarked _ _ _ _ _ c.requires.1 (rw c.in_ok-p.was at c.read_symbols.ensures) (sym c.check_line.ensures ∙ e) c.load.ensures,
    )

pub returns : goal.returns
returns c =
    let e = line_sound c.check_line.result (sym c.ok.ensures.value ∙ c.in_ok-ok.was) in
    term_marks _ _ _ _ _ c.requires.1 (rw c.in_ok-p.was at c.read_symbols.ensures) (sym c.check_line.ensures ∙ e) c.load.ensures c.read_marks.ensures
