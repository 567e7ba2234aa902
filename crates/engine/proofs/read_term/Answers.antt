-- `engine::read_term` meets its contract, by the laws of Readers. Assumes nothing.
use mathlib.Core.Path.{sym, ap, ◌∙◌}
use Rattle.refusal.proofs.Passing.{passed_up}
use Rattle.line.specs.Line.{told}
use Rattle.line.proofs.Checking.{sound_known}
use Rattle.engine.proofs.Readers.{loaded_long, line_refused, line_taken, text_read}
use Rattle.engine.proofs.read_term.Goals as goal

pub load-requires : goal.load-requires
load-requires c =
    (c.requires, (sound_known _ _ _ (sym c.check_line.ensures ∙ ap told c.in_ok-check_line-in-Term.was)).1)

pub returns-in_err-check_line-in-Term : goal.returns-in_err-check_line-in-Term
returns-in_err-check_line-in-Term c =
    let e = sym c.check_line.ensures ∙ ap told c.in_err-check_line-in-Term.was in
    rw (c.in-Term.is, passed_up c.from_residual.result c.from_residual.ensures.1)
    (record { is = λ B n t. line_refused B n t _ _ e; long = c.requires })

pub returns-in_ok-check_line-in-Term : goal.returns-in_ok-check_line-in-Term
returns-in_ok-check_line-in-Term c =
    let e = sym c.check_line.ensures ∙ ap told c.in_ok-check_line-in-Term.was in
    let b = c.args.symbols.now in
    rw c.in-Term.is
    (record {
      is = λ B n t. line_taken B n t _ e b c.requires c.load.ensures;
      long = loaded_long c.args.line.now b _ c.requires (sound_known _ _ _ e).1 c.load.ensures;
    })

pub returns-in-Text : goal.returns-in-Text
returns-in-Text c = rw c.in-Text.is (record { is = λ B n t. text_read B n t _ c.read_text.ensures; long = c.read_text.ensures.long })
