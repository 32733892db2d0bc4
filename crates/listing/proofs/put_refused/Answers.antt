-- `listing::put_refused` meets its contract.
use Rattle.std.proofs.Common.{ℕ, List, rules, arith}
use Rattle.text.specs.Literal.{ascii}
use Rattle.buffer.specs.Over.{Put}
use Rattle.buffer.specs.Decimal.{decimal}
use Rattle.buffer.proofs.Over.{put_then}
use Rattle.listing.specs.Lines.{line, refused_lines}
use Rattle.listing.proofs.put_refused.Goals as goal

all-lines : (number place : ℕ) {l l₁ l₂ l₃ : List ℕ} {at a b r : ℕ} → Put (line "verdict" (ascii "refused")) l at l₁ a → Put (line "refusal" (decimal number)) l₁ a l₂ b → Put (line "place" (decimal place)) l₂ b l₃ r → Put (refused_lines number place) l at l₃ r
unfolding refused_lines
all-lines number place p q e = put_then p (put_then q e)

pub returns-clause-lines : goal.returns-clause-lines
unfolding ascii
returns-clause-lines c =
    let w : Put (refused_lines c.args.number c.args.place) c.args.out.now c.args.at c.put_count-2.new.self.out.now c.put_count-2.new.self.at = all-lines c.args.number c.args.place c.put_line.ensures.written c.put_count.ensures.near.written c.put_count-2.ensures.near.written in
    search rules

pub returns-clause-short : goal.returns-clause-short
returns-clause-short c = omega (arith, c.put_line.ensures.written.end, c.put_count.ensures.near.near, c.put_count-2.ensures.near.near)
