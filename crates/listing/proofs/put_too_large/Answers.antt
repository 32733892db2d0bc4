-- `listing::put_too_large` meets its contract.
use Rattle.std.proofs.Common.{rules, arith}
use Rattle.text.specs.Literal.{ascii}
use Rattle.buffer.specs.Over.{Put}
use Rattle.listing.specs.Lines.{too_large_lines}
use Rattle.listing.proofs.put_too_large.Goals as goal

pub returns-clause-lines : goal.returns-clause-lines
unfolding ascii
returns-clause-lines c =
    let w : Put too_large_lines c.args.out.now c.args.at c.put_line.new.self.out.now c.put_line.new.self.at = c.put_line.ensures.written in
    search rules

pub returns-clause-short : goal.returns-clause-short
returns-clause-short c = omega (arith, c.put_line.ensures.written.end)
