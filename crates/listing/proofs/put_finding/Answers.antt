-- `listing::put_finding` meets its contract. The names are those of the definitions.
use Rattle.std.proofs.Common.{ℕ, List, rules}
use Rattle.text.specs.Literal.{ascii}
use Rattle.buffer.specs.Over.{Put}
use Rattle.buffer.specs.Decimal.{decimal}
use Rattle.buffer.proofs.Over.{put_then}
use Rattle.listing.specs.Lines.{line, finding_lines, name_at, severity_names, code_names}
use Rattle.listing.proofs.put_finding.Goals as goal

all-lines : (severity code at column : ℕ) (message : List ℕ) {l l₁ l₂ l₃ l₄ l₅ : List ℕ} {n a b d e r : ℕ} → Put (line "severity" (name_at severity_names severity)) l n l₁ a → Put (line "code" (name_at code_names code)) l₁ a l₂ b → Put (line "line" (decimal at)) l₂ b l₃ d → Put (line "column" (decimal column)) l₃ d l₄ e → Put (line "message" message) l₄ e l₅ r → Put (finding_lines severity code at column message) l n l₅ r
unfolding finding_lines
all-lines severity code at column message p q x y z = put_then p (put_then q (put_then x (put_then y z)))

pub returns : goal.returns
unfolding ascii severity_names code_names
returns c =
    let a = c.args in
    let w : Put (finding_lines a.severity a.code a.line a.column a.message.now) a.out.now a.at c.put_line.new.self.out.now c.put_line.new.self.at = all-lines a.severity a.code a.line a.column a.message.now c.put_named.ensures.near.written c.put_named-2.ensures.near.written c.put_count.ensures.near.written c.put_count-2.ensures.near.written c.put_line.ensures.written in
    search rules
