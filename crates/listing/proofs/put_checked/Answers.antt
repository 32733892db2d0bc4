-- `listing::put_checked` meets its contract.
use Rattle.std.proofs.Common.{ℕ, List, rules, arith}
use Rattle.text.specs.Literal.{ascii}
use Rattle.buffer.specs.Over.{Put}
use Rattle.buffer.specs.Decimal.{decimal}
use Rattle.buffer.proofs.Over.{put_then}
use Rattle.listing.specs.Lines.{line, checked_lines}
use Rattle.listing.proofs.put_checked.Goals as goal

all-lines : (errors warnings infos total : ℕ) {l l₁ l₂ l₃ l₄ l₅ : List ℕ} {at a b d e r : ℕ} → Put (line "verdict" (ascii "checked")) l at l₁ a → Put (line "errors" (decimal errors)) l₁ a l₂ b → Put (line "warnings" (decimal warnings)) l₂ b l₃ d → Put (line "infos" (decimal infos)) l₃ d l₄ e → Put (line "findings" (decimal total)) l₄ e l₅ r → Put (checked_lines errors warnings infos total) l at l₅ r
unfolding checked_lines
all-lines errors warnings infos total p q x y z = put_then p (put_then q (put_then x (put_then y z)))

pub returns-clause-lines : goal.returns-clause-lines
unfolding ascii
returns-clause-lines c =
    let a = c.args in
    let w : Put (checked_lines a.errors a.warnings a.infos a.total) a.out.now a.at c.put_count-4.new.self.out.now c.put_count-4.new.self.at = all-lines a.errors a.warnings a.infos a.total c.put_line.ensures.written c.put_count.ensures.near.written c.put_count-2.ensures.near.written c.put_count-3.ensures.near.written c.put_count-4.ensures.near.written in
    search rules

pub returns-clause-short : goal.returns-clause-short
returns-clause-short c = omega (arith, c.put_line.ensures.written.end, c.put_count.ensures.near.near, c.put_count-2.ensures.near.near, c.put_count-3.ensures.near.near, c.put_count-4.ensures.near.near)
