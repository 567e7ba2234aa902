-- `page::of_buffer` meets its contract: the page of what was read is that of the standard input, also where the buffer is full. Assumes nothing.
use mathlib.Core.Path.{sym}
use native.Mathlib.Omega.{arith}
use lib.Seq.{length-take-le}
use Rattle.page.proofs.Laws.{paged_ended, paged_filled}
use Rattle.page.proofs.of_buffer.Goals as goal

pub slice_bounds-page-end : goal.slice_bounds-page-end
slice_bounds-page-end c = sym (length-take-le _ _ (omega arith))

pub returns-then-n-bytes : goal.returns-then-n-bytes
returns-then-n-bytes c = paged_ended (omega arith) c.page.ensures

pub returns : goal.returns
returns c = paged_filled (omega arith) (omega arith) c.page-2.ensures
