-- `spurseconds::tell` meets its contract: what it prints is the line that the page holds. Assumes nothing.
use native.Mathlib.Omega.{arith}
use Rattle.figures.proofs.TimeLaws.{Page, page_within, page_size}
use Rattle.text.proofs.PageLaws.{page_put}
use Rattle.spurseconds.specs.Lines.{seconds_line}
use Rattle.spurseconds.proofs.LineLaws.{page_line, seconds-most, line-none, line-some}
use Rattle.spurseconds.proofs.tell.Goals.{After-put_into-size}
use Rattle.spurseconds.proofs.tell.Goals as goal

-- the bytes are the word's line
made : (c : After-put_into-size) → Page c.put_into-size.new.buffer c.put_into-size.result (seconds_line c.args.word.now)
made c = let line = seconds_line c.args.word.now in
    page_line _ c.args.word.now (omega arith)
    (page_put _ _ line _ _ (rw c.new-page.ensures at c.put_line.ensures) (omega (arith, seconds-most c.args.word.now)) (rw c.front.ensures at c.put_into-size.ensures))

pub returns-then-no_line : goal.returns-then-no_line
returns-then-no_line c = line-none c.args.word.now (made (goal.at.returns-then-no_line c).After-put_into-size) c.if-no_line.true

pub slice_bounds-line-end : goal.slice_bounds-line-end
slice_bounds-line-end c = page_within (made (goal.at.slice_bounds-line-end c).After-put_into-size)

pub slice_bounds-write_all-end : goal.slice_bounds-write_all-end
slice_bounds-write_all-end c = page_size (made (goal.at.slice_bounds-write_all-end c).After-put_into-size)

pub returns-then-write_all : goal.returns-then-write_all
returns-then-write_all c = line-some c.args.word.now (made (goal.at.returns-then-write_all c).After-put_into-size) c.if-no_line.false

pub returns-else-write_all : goal.returns-else-write_all
returns-else-write_all c = line-some c.args.word.now (made (goal.at.returns-else-write_all c).After-put_into-size) c.if-no_line.false
